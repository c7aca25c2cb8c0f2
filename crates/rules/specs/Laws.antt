-- What the rules mean, apart from how they are worked out (docs/RULES.md, "Limits", "Price rules", "Margin rules").
use Rattle.std.specs.Prelude.{◌≡◌, ℕ, ◌+◌, ◌-◌, ◌*◌, ◌<◌, ◌≤◌, min, max, true}
use Rattle.rules.specs.declared.limits.Term.{Term}
use Rattle.rules.specs.Limits.{limits_about, limits_on, Within}
use Rattle.rules.specs.Margin.{Fair, ratable, rated}
use Rattle.rules.specs.Price.{averaged, middle}
use Rattle.rules.specs.Units.{fen_units, max_price, max_margin_value, max_margin_teu}

-- No other whole dollar lies nearer to value ÷ quantity, and of two at the same distance it is the higher.
pub record Nearest (value quantity price : ℕ) : Type 0 where
  pub low : 2 * (price * quantity) ≤ 2 * value + quantity
  pub high : 2 * value + quantity < 2 * (price * quantity) + 2 * quantity

-- Between bid and ask; the previous price itself where it lies there.
pub record Between (bid ask previous price : ℕ) : Type 0 where
  pub low : min bid ask ≤ price
  pub high : price ≤ max bid ask
  pub stays : min bid ask ≤ previous → previous ≤ max bid ask → price ≡ previous

-- The least whole fen that is not below value × TEU × ratio ÷ 10,000.
pub record Raised (value teu ratio margin : ℕ) : Type 0 where
  pub enough : value * teu * ratio ≤ 10000 * margin
  pub least : 10000 * margin < value * teu * ratio + 1000000

pub record RulesMean : Type 0 where
  -- A price lies within the limits about it, and no limits pass the ceiling of prices.
  pub own_limits : (percent price : ℕ) → price ≤ max_price → Within (limits_about percent price) price
  pub capped : (day : ℕ) (term : Term) (base previous : ℕ) → (limits_on day term base previous).upper ≤ max_price
  pub nearest : (value quantity : ℕ) → 0 < quantity → Nearest value quantity (averaged value quantity)
  pub between : (bid ask previous : ℕ) → Between bid ask previous (middle bid ask previous)
  pub raised : (value teu ratio : ℕ) → ratable value teu ratio ≡ true → Raised value teu ratio (rated value teu ratio)
  -- Every lawful margin is at most 10^14 + 99 units, whatever its numbers.
  pub modest : (value teu ratio margin : ℕ) → Fair value teu ratio margin → margin ≤ max_margin_value * max_margin_teu + (fen_units - 1)
