-- The kinds of entries: the byte of each and its name (docs/ARCHIVE.md, "Kinds").
use Rattle.std.specs.Prelude.{ℕ, cond, List, Some, None, codes, Option, Result, ok_or, ◌==◌}
use Rattle.archive.specs.declared.entry.Kind.{Kind}
use Rattle.archive.specs.declared.entry.Kind.TheVariants.{PayIn, PayOut, TradeFee, Settlement}
use Rattle.archive.specs.declared.entry.UnknownKind.{UnknownKind}

abbrev pub kind_byte : Kind → ℕ
kind_byte PayIn = 1
kind_byte PayOut = 2
kind_byte TradeFee = 3
kind_byte Settlement = 4

-- The kind that a byte stands for, or none.
abbrev pub kind_of : ℕ → Option Kind
kind_of b =
    cond (b == 1) (Some PayIn)
    (cond (b == 2) (Some PayOut)
    (cond (b == 3) (Some TradeFee)
    (cond (b == 4) (Some Settlement) None)))

-- The same, with the byte itself where it stands for none.
abbrev pub kind_from : ℕ → Result Kind UnknownKind
kind_from b = ok_or (kind_of b) (record { 0 = b })

abbrev pub kind_name : Kind → List ℕ
kind_name PayIn = codes "pay-in"
kind_name PayOut = codes "pay-out"
kind_name TradeFee = codes "trade-fee"
kind_name Settlement = codes "settlement"
