-- The lines of a file (docs/RULES.md, "Instruction lines").
use Rattle.std.specs.Prelude.{◌≡◌, ℕ, cond, List, [], ◌∷◌, Some, None, Option, ◌==◌}
use Rattle.std.specs.Borrow.{Bor}
use Rattle.lines.specs.Cut.{before, past}

-- One more byte at the front of the first line.
abbrev pub with_byte : ℕ → List (List ℕ) → List (List ℕ)
with_byte b [] = (b ∷ []) ∷ []
with_byte b (l ∷ ls) = (b ∷ l) ∷ ls

-- A line ends before byte 10 or at the end of the file, and no line follows a final byte 10.
abbrev pub lines_of : List ℕ → List (List ℕ)
lines_of [] = []
lines_of (b ∷ bs) = cond (b == 10) ([] ∷ lines_of bs) (with_byte b (lines_of bs))

-- The first line, and the bytes of those that follow.
abbrev pub first_line : List ℕ → Option (List ℕ × List ℕ)
first_line [] = None
first_line (b ∷ bs) = Some (before 10 (b ∷ bs), past 10 (b ∷ bs))

-- A first line and the rest of the file make the file's lines.
abbrev pub opened : Option (List ℕ × List ℕ) → List (List ℕ)
opened None = []
opened (Some p) = p.0 ∷ lines_of p.1

-- What two borrowed parts of a file hold.
abbrev pub texts : Option (Bor (List ℕ) × Bor (List ℕ)) → Option (List ℕ × List ℕ)
texts None = None
texts (Some p) = Some (p.0.now, p.1.now)

-- Cutting first lines off, one after another, gives a file's lines and nothing else.
abbrev pub FirstLinesAreTheLines : Type 0
FirstLinesAreTheLines = (file : List ℕ) → lines_of file ≡ opened (first_line file)
