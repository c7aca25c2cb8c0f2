-- The texts in which an instruction and a refusal of a line are printed.
use Rattle.std.specs.Prelude.{ℕ, List, [], ◌∷◌, ◌++◌, codes, decimal}
use Rattle.refusal.specs.Numbered.{number_of}
use Rattle.lines.specs.declared.instruction.Side.{Side}
use Rattle.lines.specs.declared.instruction.Side.TheVariants.{Opens, Closes}
use Rattle.lines.specs.declared.instruction.Instruction.{Instruction}
use Rattle.lines.specs.declared.instruction.Instruction.TheVariants.{Found, List as Listing, Ratio, Day, In, Out, Quote, Trade, Deliver, End, Settle}
use Rattle.lines.specs.declared.instruction.Spoiled.{Spoiled}

-- A word, and a space before each further one.
abbrev pub spaced : List ℕ → List (List ℕ) → List ℕ
spaced w [] = w
spaced w (v ∷ vs) = w ++ (32 ∷ spaced v vs)

abbrev pub side_text : Side → List ℕ
side_text Opens = codes "opens"
side_text Closes = codes "closes"

-- Its word and its fields in the order of a line; a side by its whole name.
abbrev pub instruction_text : Instruction → List ℕ
instruction_text (Found book rate) = spaced (codes "found") (decimal book ∷ decimal rate ∷ [])
instruction_text (Listing place number base ratio fee delivery last) =
    spaced (codes "list") (decimal place ∷ decimal number ∷ decimal base ∷ decimal ratio ∷ decimal fee ∷ decimal delivery ∷ decimal last ∷ [])
instruction_text (Ratio place ratio) = spaced (codes "ratio") (decimal place ∷ decimal ratio ∷ [])
instruction_text Day = codes "day"
instruction_text (In account fen) = spaced (codes "in") (decimal account ∷ decimal fen ∷ [])
instruction_text (Out account fen) = spaced (codes "out") (decimal account ∷ decimal fen ∷ [])
instruction_text (Quote place bid ask) = spaced (codes "quote") (decimal place ∷ decimal bid ∷ decimal ask ∷ [])
instruction_text (Trade place price quantity buyer buying seller selling) =
    spaced (codes "trade") (decimal place ∷ decimal price ∷ decimal quantity ∷ decimal buyer ∷ side_text buying ∷ decimal seller ∷ side_text selling ∷ [])
instruction_text (Deliver place price) = spaced (codes "deliver") (decimal place ∷ decimal price ∷ [])
instruction_text (End rate) = spaced (codes "end") (decimal rate ∷ [])
instruction_text Settle = codes "settle"

-- The refusal's number and the column.
abbrev pub spoiled_text : Spoiled → List ℕ
spoiled_text s = spaced (decimal (number_of s.refusal)) (decimal s.column ∷ [])
