-- The prices that a contract may trade at on a day (docs/RULES.md, "Limits").
use Rattle.std.specs.Prelude.{ℕ, ◌+◌, ◌-◌, ◌*◌, ◌/◌, ◌≤◌, min, Bool, cond, ◌||◌, ◌==◌}
use Rattle.rules.specs.declared.limits.Limits.{Limits}
use Rattle.rules.specs.declared.limits.Term.{Term}
use Rattle.rules.specs.Units.{max_price, wide_percent, narrow_percent}

-- A part of a price, cut to whole dollars.
abbrev pub part : ℕ → ℕ → ℕ
part percent price = price * percent / 100

-- The limits about a price; none lies above the price ceiling.
abbrev pub limits_about : ℕ → ℕ → Limits
limits_about percent price = record { lower = price - part percent price; upper = min (price + part percent price) max_price }

-- The days whose limits are wide and go by the base price: the first after the listing day, and the last.
abbrev pub wide_day : Term → ℕ → Bool
wide_day term day = day == term.listed + 1 || day == term.last

-- The limits of a contract on a day, by its base price or its previous price.
abbrev pub limits_on : ℕ → Term → ℕ → ℕ → Limits
limits_on day term base previous =
    cond (wide_day term day) (limits_about wide_percent base) (limits_about narrow_percent previous)

-- A price from the lower limit to the upper.
pub record Within (limits : Limits) (price : ℕ) : Type 0 where
  pub low : limits.lower ≤ price
  pub high : price ≤ limits.upper
