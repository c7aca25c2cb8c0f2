-- What a book answers without changing (docs/RULES.md, "Questions").
use Rattle.std.specs.Prelude.{ℕ, ◌-◌, cond, None, Ok, Err, Option, Result, slice_index_or}
use Rattle.refusal.specs.declared.Refusal.{Refusal}
use Rattle.refusal.specs.declared.Refusal.TheVariants.{WrongPhase, OutOfRange}
use Rattle.ledger.specs.declared.state.Settled.{Settled}
use Rattle.ledger.specs.declared.state.State.{State}
use Rattle.ledger.specs.Places.{known_place}
use Rattle.book.specs.declared.desk.Desk.{Desk}

-- The trade rate, which an idle book has not.
abbrev pub rate_answer : Desk → State → Result ℕ Refusal
rate_answer d s = cond d.founded (Ok s.rate) (Err WrongPhase)

-- The contract that the last settling settled at a place, if any.
abbrev pub settled_answer : Desk → ℕ → Result (Option Settled) Refusal
settled_answer d place = cond (known_place place) (Ok (slice_index_or d.settled (place - 1) None)) (Err OutOfRange)
