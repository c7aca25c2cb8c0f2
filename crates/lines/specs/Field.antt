-- The pieces of a line, one after another: every space parts two (docs/RULES.md, "Instruction lines").
use Rattle.std.specs.Prelude.{◌≡◌, ℕ, zero, suc, ◌+◌, ◌-◌, cond, ◌⊎◌, List, [], ◌∷◌, ◌++◌, length, drop, Ok, Err, Result, ◌==◌}
use Rattle.refusal.specs.declared.Refusal.{Refusal}
use Rattle.refusal.specs.declared.Refusal.TheVariants.{BadField}
use Rattle.lines.specs.declared.cursor.Cursor.{Cursor}
use Rattle.lines.specs.declared.instruction.Side.{Side}
use Rattle.lines.specs.declared.instruction.Spoiled.{Spoiled}
use Rattle.lines.specs.Cut.{before, past}
use Rattle.lines.specs.Token.{Mark, word, numeral, letter, token_of}

-- A column, counted from 1, and the bytes of the line from there on.
pub record Spot : Type 0 where
  pub column : ℕ
  pub bytes : List ℕ

abbrev pub start : List ℕ → Spot
start line = record { column = 1; bytes = line }

-- The spot behind the next space: as many columns on as bytes are left behind.
abbrev pub next : Spot → Spot
next s = record { column = s.column + (length s.bytes - length (past 32 s.bytes)); bytes = past 32 s.bytes }

-- The spot k pieces on.
abbrev pub ahead : ℕ → Spot → Spot
ahead zero s = s
ahead (suc k) s = ahead k (next s)

-- The piece that begins at a spot.
abbrev pub token_at : Spot → Mark
token_at s = token_of (before 32 s.bytes) s.column

-- How many fields a line has: each space begins one.
abbrev pub spaces : List ℕ → ℕ
spaces [] = 0
spaces (b ∷ bs) = cond (b == 32) (1 + spaces bs) (spaces bs)

-- What is wrong with a line, and the column at which that shows.
abbrev pub spoiled : {A : Type 0} → Refusal → ℕ → Result A Spoiled
spoiled w c = Err (record { refusal = w; column = c })

abbrev pub number_in : Mark → Result ℕ Spoiled
number_in (word bs c) = spoiled BadField c
number_in (numeral bs n c) = Ok n
number_in (letter bs s c) = spoiled BadField c

abbrev pub side_in : Mark → Result Side Spoiled
side_in (word bs c) = spoiled BadField c
side_in (numeral bs n c) = spoiled BadField c
side_in (letter bs s c) = Ok s

-- The number, or the side, that stands k pieces on.
abbrev pub number_at : ℕ → Spot → Result ℕ Spoiled
number_at k s = number_in (token_at (ahead k s))

abbrev pub side_at : ℕ → Spot → Result Side Spoiled
side_at k s = side_in (token_at (ahead k s))

-- One more number at the front. The first thing that is wrong stands.
abbrev pub with_number : Result ℕ Spoiled → Result (List ℕ) Spoiled → Result (List ℕ) Spoiled
with_number (Err e) r = Err e
with_number (Ok n) (Err e) = Err e
with_number (Ok n) (Ok ns) = Ok (n ∷ ns)

-- The k numbers that stand one after another from a spot on.
abbrev pub numbers_at : ℕ → Spot → Result (List ℕ) Spoiled
numbers_at zero s = Ok []
numbers_at (suc k) s = with_number (number_at 0 s) (numbers_at k (next s))

-- Where a cursor stands.
abbrev pub spot : Cursor → Spot
spot c = record { column = c.column; bytes = c.rest.now }

-- A piece holds no space. Either it is all that is left of the line, or a space and the next piece follow.
abbrev pub SpacesPartPieces : Type 0
SpacesPartPieces =
    (bs : List ℕ) → (spaces (before 32 bs) ≡ 0) × (((spaces bs ≡ 0) × (bs ≡ before 32 bs)) ⊎ ((spaces bs ≡ 1 + spaces (past 32 bs)) × (bs ≡ before 32 bs ++ (32 ∷ past 32 bs))))

-- A spot's column is the position of its first byte in the line.
abbrev pub ColumnsArePositions : Type 0
ColumnsArePositions = (line : List ℕ) (k : ℕ) → (ahead k (start line)).bytes ≡ drop ((ahead k (start line)).column - 1) line
