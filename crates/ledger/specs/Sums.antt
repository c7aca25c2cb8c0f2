-- Sums and lists by a number's turns. Both stay shut, so that a written number of turns is not written out.
use Rattle.std.specs.Prelude.{ℕ, zero, suc, ◌+◌, List, map, ℤ, pos, ◌+ℤ◌}
use Rattle.std.specs.List.{range_with_len}

-- f 0 + .. + f (n - 1)
unfoldable pub sum_to : (ℕ → ℕ) → ℕ → ℕ
sum_to f zero = 0
sum_to f (suc n) = sum_to f n + f n

-- f 0, .., f (n - 1)
unfoldable pub tabulated : {X : Type 0} → (ℕ → X) → ℕ → List X
tabulated f n = map f (range_with_len 0 n)

-- The same over signed numbers.
unfoldable pub total_to : (ℕ → ℤ) → ℕ → ℤ
total_to f zero = pos 0
total_to f (suc n) = total_to f n +ℤ f n
