-- The first day of docs/RULES.md, "Worked example", and some of its spoiled lines, "Instruction lines".
use Rattle.std.specs.Prelude.{ℕ, List, [], ◌∷◌, ◌++◌, Ok, codes, Result}
use Rattle.refusal.specs.declared.Refusal.TheVariants.{UnknownWord, FieldCount, BadField}
use Rattle.lines.specs.declared.instruction.Side.TheVariants.{Opens}
use Rattle.lines.specs.declared.instruction.Instruction.{Instruction}
use Rattle.lines.specs.declared.instruction.Instruction.TheVariants.{Found, List as Listing, Day, In, Trade, End, Settle}
use Rattle.lines.specs.declared.instruction.Spoiled.{Spoiled}
use Rattle.lines.specs.Field.{spoiled}

-- A line, and what it says.
abbrev pub examples : List (List ℕ × Result Instruction Spoiled)
examples =
    (codes "found 7 68000", Ok (Found 7 68000))
    ∷ (codes "list 1 101 1000 1000 20 30 2", Ok (Listing 1 101 1000 1000 20 30 2))
    ∷ (codes "day", Ok Day)
    ∷ (codes "in 1 10000000", Ok (In 1 10000000))
    ∷ (codes "in 2 10000000", Ok (In 2 10000000))
    ∷ (codes "trade 1 1010 10 1 o 2 o", Ok (Trade 1 1010 10 1 Opens 2 Opens))
    ∷ (codes "end 68100", Ok (End 68100))
    ∷ (codes "settle", Ok Settle)
    ∷ (codes "", spoiled UnknownWord 1)
    ∷ (codes " day", spoiled UnknownWord 1)
    ∷ (codes "day ", spoiled FieldCount 5)
    ∷ (codes "in 1", spoiled FieldCount 5)
    ∷ (codes "in 1  5", spoiled FieldCount 7)
    ∷ (codes "in 01 5", spoiled BadField 4)
    ∷ (codes "in 1 12345678901234", spoiled BadField 6)
    ∷ (codes "trade 1 1010 10 1 o 2 oo", spoiled BadField 23)
    ∷ []

-- The lines in one file, each ended by byte 10.
abbrev pub file_of : List (List ℕ × Result Instruction Spoiled) → List ℕ
file_of [] = []
file_of (e ∷ es) = e.0 ++ (10 ∷ file_of es)
