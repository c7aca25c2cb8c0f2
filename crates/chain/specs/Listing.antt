-- What the program prints of a chain (docs/RULES.md, "A chain").
use Rattle.std.specs.Prelude.{◌≡◌, ℕ, List, [], ◌∷◌, ◌++◌, length, ℤ, Ok, Err, string_bytes, codes, decimal, Result, String, FitsSigned}
use Rattle.std.specs.Int.{w64}
use Rattle.std.specs.declared.alloc.Global.{Global}
use Rattle.refusal.specs.declared.Refusal.{Refusal}
use Rattle.refusal.specs.declared.Refusal.TheVariants.{OutOfRange, NotAnArchive, BrokenChain}
use Rattle.refusal.specs.Numbered.{number_of}
use Rattle.archive.specs.declared.chain.ChainError.{ChainError}
use Rattle.archive.specs.declared.chain.ChainError.TheVariants.{Refused as ChainRefused, NoMemory as ChainNoMemory}
use Rattle.archive.specs.declared.entry.Link.{Link}
use Rattle.archive.specs.Gathered.{changes}
use Rattle.archive.specs.Kinds.{kind_name}
use Rattle.lines.specs.Amount.{plain, yuan}
use Rattle.chain.specs.declared.listing.Fault.{Fault}
use Rattle.chain.specs.declared.listing.Fault.TheVariants.{Refused, NoSum, NoMemory}

-- entry SLOT DAY KIND CHANGE AVAILABLE MARGIN
abbrev pub line_of : Link → List ℕ
line_of l =
    codes "entry " ++ (decimal l.slot ++ (32 ∷ (decimal l.entry.day ++ (32 ∷ (kind_name l.entry.kind
    ++ (32 ∷ (yuan l.entry.change ++ (32 ∷ (yuan l.entry.available ++ (32 ∷ plain l.entry.margin))))))))))

abbrev pub lines_of : List Link → List ℕ
lines_of [] = []
lines_of (l ∷ ls) = (line_of l ++ (10 ∷ [])) ++ lines_of ls

-- entries NUMBER equity SUM
abbrev pub total_of : ℕ → ℤ → List ℕ
total_of n z = codes "entries " ++ (decimal n ++ (codes " equity " ++ (yuan z ++ (10 ∷ []))))

-- The whole of it: a line for each entry, newest first, and the sum of their changes.
abbrev pub listing : List Link → List ℕ
listing ls = lines_of ls ++ total_of (length ls) (changes ls)

-- Where there is no chain there is no listing, for the same reason.
abbrev pub fault_of : ChainError → Fault
fault_of (ChainRefused w) = Refused w
fault_of ChainNoMemory = NoMemory

-- What a refusal of the reader means, for a person.
abbrev pub meaning_of : Refusal → List ℕ
meaning_of OutOfRange = codes "the account is not 1 to 32"
meaning_of NotAnArchive = codes "the file is no archive of a book"
meaning_of BrokenChain = codes "the chain of the account is broken"
meaning_of _ = codes "see the table of refusals"

-- refused NUMBER MEANING, or what else is wrong.
abbrev pub fault_text : Fault → List ℕ
fault_text (Refused w) = codes "refused " ++ (decimal (number_of w) ++ (32 ∷ meaning_of w))
fault_text NoSum = codes "the changes do not sum to an amount of 64 bits: no book wrote this archive"
fault_text NoMemory = codes "out of memory"

-- The chain c as text, or why not.
abbrev pub Reported : Result (List Link) Refusal → Result (String Global) Fault → Type 0
Reported c (Ok t) = (ls : List Link) × (c ≡ Ok ls) × (string_bytes t ≡ listing ls)
Reported c (Err (Refused w)) = c ≡ Err w
Reported c (Err NoSum) = (ls : List Link) × (c ≡ Ok ls) × (FitsSigned w64 (changes ls) → ⊥)
Reported c (Err NoMemory) = Unit {0}
