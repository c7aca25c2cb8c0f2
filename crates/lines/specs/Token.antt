-- What a piece of a line is by itself: a number, a side letter, or else a word (docs/RULES.md, "Instruction lines").
use Rattle.std.specs.Prelude.{ℕ, ◌+◌, ◌-◌, ◌*◌, Bool, false, cond, not, ◌&&◌, List, [], ◌∷◌, length, Some, None, Option, ◌==◌, nat_le, nat_lt}
use Rattle.lines.specs.declared.instruction.Side.{Side}
use Rattle.lines.specs.declared.instruction.Side.TheVariants.{Opens, Closes}
use Rattle.lines.specs.declared.token.Token.{Token}
use Rattle.lines.specs.declared.token.Token.TheVariants.{Word, Number, Letter}

-- The number that digits write after those of `high`, or none where another byte stands.
abbrev pub digits : ℕ → List ℕ → Option ℕ
digits high [] = Some high
digits high (b ∷ bs) = cond (nat_le 48 b && nat_le b 57) (digits (high * 10 + (b - 48)) bs) None

-- 1 to 13 bytes.
abbrev pub sized : List ℕ → Bool
sized bs = nat_lt 0 (length bs) && nat_le (length bs) 13

-- A zero with more behind it.
abbrev pub padded : List ℕ → Bool
padded [] = false
padded (b ∷ []) = false
padded (b ∷ c ∷ cs) = b == 48

-- 1 to 13 digits without a leading zero, except 0 itself.
abbrev pub number : List ℕ → Option ℕ
number bs = cond (sized bs && not (padded bs)) (digits 0 bs) None

-- The letter o or c, alone.
abbrev pub side : List ℕ → Option Side
side [] = None
side (b ∷ []) = cond (b == 111) (Some Opens) (cond (b == 99) (Some Closes) None)
side (b ∷ c ∷ cs) = None

-- A token by the bytes that it borrows, with its column last.
pub data Mark : Type 0 where
  word : List ℕ → ℕ → Mark
  numeral : List ℕ → ℕ → ℕ → Mark
  letter : List ℕ → Side → ℕ → Mark

abbrev pub mark : Token → Mark
mark (Word t c) = word t.now c
mark (Number t n c) = numeral t.now n c
mark (Letter t s c) = letter t.now s c

abbrev pub column_of : Mark → ℕ
column_of (word bs c) = c
column_of (numeral bs n c) = c
column_of (letter bs s c) = c

abbrev or_side : Option Side → List ℕ → ℕ → Mark
or_side (Some s) bs c = letter bs s c
or_side None bs c = word bs c

abbrev or_number : Option ℕ → List ℕ → ℕ → Mark
or_number (Some n) bs c = numeral bs n c
or_number None bs c = or_side (side bs) bs c

-- The piece bs that begins at column c.
unfoldable pub token_of : List ℕ → ℕ → Mark
token_of bs c = or_number (number bs) bs c
