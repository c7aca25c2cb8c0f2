-- The bytes of an amount's text: yuan with four decimals, a sign only below zero (docs/RULES.md, "Print-out").
use Rattle.std.specs.Prelude.{ℕ, ◌+◌, ◌/◌, ◌%◌, List, [], ◌∷◌, ◌++◌, map, ℤ, pos, negsuc, decimal, unsigned_abs}

-- The four decimals of an amount in units, each a number below ten.
abbrev pub decimals_of : ℕ → List ℕ
decimals_of n = (n / 1000 % 10) ∷ (n / 100 % 10) ∷ (n / 10 % 10) ∷ (n % 10) ∷ []

-- Yuan without leading zeros, a point, and four digits.
abbrev pub plain : ℕ → List ℕ
plain n = decimal (n / 10000) ++ (46 ∷ map (λ d. 48 + d) (decimals_of n))

abbrev pub sign_of : ℤ → List ℕ
sign_of (pos n) = []
sign_of (negsuc n) = 45 ∷ []

abbrev pub yuan : ℤ → List ℕ
yuan z = sign_of z ++ plain (unsigned_abs z)
