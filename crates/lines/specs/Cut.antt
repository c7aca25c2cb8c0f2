-- Bytes cut in two at the first byte of a given value (docs/RULES.md, "Instruction lines").
use Rattle.std.specs.Prelude.{ℕ, ◌+◌, cond, List, [], ◌∷◌, take, drop, ◌==◌}

-- How many bytes stand before the first `stop`: all of them where there is none.
abbrev pub reach : ℕ → List ℕ → ℕ
reach stop [] = 0
reach stop (b ∷ bs) = cond (b == stop) 0 (1 + reach stop bs)

abbrev pub before : ℕ → List ℕ → List ℕ
before stop bs = take (reach stop bs) bs

-- What follows the first `stop`: nothing where there is none.
abbrev pub past : ℕ → List ℕ → List ℕ
past stop bs = drop (reach stop bs + 1) bs
