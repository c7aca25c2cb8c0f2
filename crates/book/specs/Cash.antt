-- Pay-ins and pay-outs of a book (docs/RULES.md, "Pay-in", "Pay-out").
use Rattle.std.specs.Prelude.{ℕ, ◌*◌, List, [], ◌∷◌, pos, neg_ℤ, Some, None, Option}
use Rattle.refusal.specs.declared.Refusal.{Refusal}
use Rattle.archive.specs.declared.entry.Kind.TheVariants.{PayIn, PayOut}
use Rattle.rules.specs.Units.{fen_units}
use Rattle.ledger.specs.declared.state.State.{State}
use Rattle.ledger.specs.Cash.{credit_refusal, credit_state, debit_refusal, debit_state}
use Rattle.book.specs.declared.desk.Desk.{Desk}
use Rattle.book.specs.declared.entries.Movement.{Movement}
use Rattle.book.specs.declared.permit.DayPermit.{DayPermit}
use Rattle.book.specs.Desk.{has_room}
use Rattle.book.specs.Entries.{moved}
use Rattle.book.specs.Gates.{or_else, entry_gate}

abbrev pub pay_in_refusal : Desk → State → ℕ → DayPermit → ℕ → ℕ → Option Refusal
pay_in_refusal d s n p account fen = or_else (entry_gate d s n p) (credit_refusal s account fen (has_room d 1))

abbrev pub pay_in_moves : Option Refusal → State → ℕ → ℕ → List Movement
pay_in_moves None s account fen = moved (credit_state None s account fen) account PayIn (pos (fen_units * fen)) ∷ []
pay_in_moves (Some w) s account fen = []

abbrev pub pay_out_refusal : Desk → State → ℕ → DayPermit → ℕ → ℕ → Option Refusal
pay_out_refusal d s n p account fen = or_else (entry_gate d s n p) (debit_refusal s account fen (has_room d 1))

abbrev pub pay_out_moves : Option Refusal → State → ℕ → ℕ → List Movement
pay_out_moves None s account fen = moved (debit_state None s account fen) account PayOut (neg_ℤ (pos (fen_units * fen))) ∷ []
pay_out_moves (Some w) s account fen = []
