-- A whole chain, and the sum of its changes, as programs ask for them.
use Rattle.std.specs.Prelude.{◌≡◌, ℕ, ◌<◌, true, List, [], ◌∷◌, ◌++◌, ℤ, pos, ◌+ℤ◌, Some, None, Ok, Err, vec_items, Option, Result, Vec, FitsSigned, codes, decimal}
use Rattle.std.specs.Int.{w64}
use Rattle.std.specs.declared.alloc.Global.{Global}
use Rattle.refusal.specs.declared.Refusal.{Refusal}
use Rattle.refusal.specs.Numbered.{number_of}
use Rattle.archive.specs.declared.chain.ChainError.{ChainError}
use Rattle.archive.specs.declared.chain.ChainError.TheVariants.{Refused, NoMemory}
use Rattle.archive.specs.declared.entry.Link.{Link}
use Rattle.archive.specs.Chain.{headed, known_account, newest}

-- The chain c in memory, or why not. Memory fails only where there is something to keep.
abbrev pub Gathered : Result (List Link) Refusal → Type 0 → Result (Vec Link Global) ChainError → Type 0
Gathered c some (Ok v) = c ≡ Ok (vec_items v)
Gathered c some (Err (Refused w)) = c ≡ Err w
Gathered c some (Err NoMemory) = some

-- What is said where there is no chain: the refusal by its number, or that memory ran out.
abbrev pub error_text : ChainError → List ℕ
error_text (Refused w) = codes "refused " ++ decimal (number_of w)
error_text NoMemory = codes "out of memory"

-- The bytes are an archive that names account a in a used slot.
abbrev pub Holds : List ℕ → ℕ → Type 0
Holds xs a = (known_account a ≡ true) × (headed xs ≡ true) × (0 < newest xs a)

-- The changes along a chain, summed: the account's equity (docs/RULES.md, "The tally").
abbrev pub changes : List Link → ℤ
changes [] = pos 0
changes (l ∷ ls) = l.entry.change +ℤ changes ls

-- The sum itself, or none where it is no 64-bit amount.
abbrev pub Summed : ℤ → Option ℤ → Type 0
Summed z (Some r) = r ≡ z
Summed z None = FitsSigned w64 z → ⊥
