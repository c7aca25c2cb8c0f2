-- A file's lines are its first line and the lines of the rest.
use Rattle.std.proofs.Common.{◌≡◌, ℕ, suc, ◌+◌, ◌<◌, ◌≤◌, length, Bool, true, false, cond, eqb, List, [], ◌∷◌, take, drop, sym, refl, ap, ◌∙◌, arith}
use Rattle.lines.specs.Cut.{reach, before, past}
use Rattle.lines.specs.File.{with_byte, lines_of, first_line, opened, FirstLinesAreTheLines}

-- One more byte at the front of a line of r bytes.
longer : (b : ℕ) (bs : List ℕ) (r n m : ℕ) → n ≡ suc r → m ≡ suc (r + 1) → (b ∷ take r bs) ∷ lines_of (drop (r + 1) bs) ≡ take n (b ∷ bs) ∷ lines_of (drop m (b ∷ bs))
longer b bs r n m h k = λ i. take (sym h i) (b ∷ bs) ∷ lines_of (drop (sym k i) (b ∷ bs))

-- t says whether the byte ends the line.
more : (t : Bool) (b : ℕ) (bs : List ℕ) → lines_of bs ≡ opened (first_line bs) → cond t ([] ∷ lines_of bs) (with_byte b (lines_of bs)) ≡ take (cond t 0 (1 + reach 10 bs)) (b ∷ bs) ∷ lines_of (drop (cond t 0 (1 + reach 10 bs) + 1) (b ∷ bs))
more true b bs h = refl
more false b [] h = refl
more false b (x ∷ xs) h = ap (with_byte b) h ∙ longer b (x ∷ xs) (reach 10 (x ∷ xs)) (1 + reach 10 (x ∷ xs)) (1 + reach 10 (x ∷ xs) + 1) (omega arith) (omega arith)

pub first_lines_are_the_lines : FirstLinesAreTheLines
first_lines_are_the_lines [] = refl
first_lines_are_the_lines (b ∷ bs) = more (eqb b 10) b bs (first_lines_are_the_lines bs)

-- The same, where a first line was cut off.
pub lines_cut : (file front back : List ℕ) → 0 < length file → front ≡ before 10 file → back ≡ past 10 file → lines_of file ≡ front ∷ lines_of back
lines_cut [] front back l f b = absurd (omega arith)
lines_cut (x ∷ xs) front back l f b = first_lines_are_the_lines (x ∷ xs) ∙ (λ i. sym f i ∷ lines_of (sym b i))

within_more : (t : Bool) (b n : ℕ) (ls : List (List ℕ)) → length ls ≤ n → length (cond t ([] ∷ ls) (with_byte b ls)) ≤ suc n
within_more true b n ls h = omega arith
within_more false b n [] h = omega arith
within_more false b n (l ∷ ls) h = omega arith

-- No file has more lines than bytes.
pub lines_within : (file : List ℕ) → length (lines_of file) ≤ length file
lines_within [] = omega arith
lines_within (b ∷ bs) = within_more (eqb b 10) b (length bs) (lines_of bs) (lines_within bs)
