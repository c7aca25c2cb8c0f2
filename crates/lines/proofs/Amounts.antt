-- The digits of an amount, as a format writes them one after another.
use Rattle.std.proofs.Common.{◌≡◌, ℕ, ◌+◌, ◌/◌, ◌%◌, List, [], ◌∷◌, ◌++◌, get_or, decimal, ◌∙◌, arith}
use Rattle.std.proofs.lemmas.Fmt.{decimal_digit}
use Rattle.lines.specs.Amount.{decimals_of, plain}

figure : (n : ℕ) → decimal (n % 10) ≡ (48 + n % 10) ∷ []
figure n = decimal_digit (n % 10) (omega arith)

-- Yuan y and the four decimals ds, as the format writes them.
abbrev format : ℕ → List ℕ → List ℕ
format y ds = decimal y ++ (46 ∷ (decimal (get_or ds 0 0) ++ (decimal (get_or ds 1 0) ++ (decimal (get_or ds 2 0) ++ decimal (get_or ds 3 0)))))

format_is : (n : ℕ) → format (n / 10000) (decimals_of n) ≡ plain n
format_is n = simp figure

pub formatted : (n y : ℕ) (ds : List ℕ) → y ≡ n / 10000 → ds ≡ decimals_of n → format y ds ≡ plain n
formatted n y ds h k = (λ i. format (h i) (k i)) ∙ format_is n
