-- What one TEU of a contract is worth after a day, in units (docs/RULES.md, "Settling").
use Rattle.std.specs.Prelude.{ℕ, ◌*◌, ◌≤◌}
use Rattle.rules.specs.declared.figures.Figures.{Figures}
use Rattle.rules.specs.Figures.{Orderly}
use Rattle.rules.specs.Units.{max_price, max_rate}

abbrev pub marked : ℕ → ℕ → ℕ
marked price rate = price * rate

abbrev pub max_mark : ℕ
max_mark = marked max_price max_rate

-- Orderly figures have a mark of at most 999,890,001, for which a margin is asked.
abbrev pub Small : Figures → ℕ → ℕ → Type 0
Small figures rate mark =
    Orderly figures → figures.limits.upper ≤ max_price → rate ≤ max_rate → mark ≤ max_mark
