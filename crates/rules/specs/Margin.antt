-- What is withheld for open contracts, and what every rule keeps to (docs/RULES.md, "Margin rules").
use Rattle.std.specs.Prelude.{◌≡◌, ℕ, ◌+◌, ◌-◌, ◌*◌, ◌/◌, ◌<◌, ◌≤◌, max, Bool, cond, ◌&&◌, nat_le}
use Rattle.rules.specs.Units.{fen_units, ratio_parts, max_ratio, max_margin_value, max_margin_teu}

-- The numbers that have a margin.
abbrev pub ratable : ℕ → ℕ → ℕ → Bool
ratable value teu ratio = nat_le value max_margin_value && nat_le teu max_margin_teu && nat_le ratio max_ratio

abbrev pub divided_up : ℕ → ℕ → ℕ
divided_up number by = (number + (by - 1)) / by

-- Value × TEU × ratio ÷ 10,000, rounded up to a whole fen.
abbrev pub rated : ℕ → ℕ → ℕ → ℕ
rated value teu ratio =
    cond (ratable value teu ratio) (fen_units * divided_up (value * teu * ratio) (ratio_parts * fen_units)) 0

-- The holding margin of both sides, and of the larger one alone.
abbrev pub both_sides : ℕ → ℕ → ℕ → ℕ → ℕ
both_sides value long short ratio = rated value (long + short) ratio

abbrev pub larger_side : ℕ → ℕ → ℕ → ℕ → ℕ
larger_side value long short ratio = cond (nat_le (long + short) max_margin_teu) (rated value (max long short) ratio) 0

-- A margin of so many TEU is at most their whole value, up to a whole fen. It is none for no TEU and past a ceiling.
pub record Fair (value teu ratio margin : ℕ) : Type 0 where
  pub most : margin ≤ value * teu + (fen_units - 1)
  pub empty : teu ≡ 0 → margin ≡ 0
  pub dear : max_margin_value < value → margin ≡ 0
  pub many : max_margin_teu < teu → margin ≡ 0
  pub steep : max_ratio < ratio → margin ≡ 0
