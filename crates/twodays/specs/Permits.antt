-- What becomes of a day's permits.
use Rattle.std.specs.Prelude.{◌≡◌, ℕ, true, None, Ok, Err, Option, Result}
use Rattle.refusal.specs.declared.Refusal.{Refusal}
use Rattle.ledger.specs.declared.state.State.{State}
use Rattle.ledger.specs.Days.{close_state}
use Rattle.ledger.specs.Places.{is_resting}
use Rattle.book.specs.declared.desk.Desk.{Desk}
use Rattle.book.specs.declared.permit.DayPermit.{DayPermit}
use Rattle.book.specs.Closing.{end_refusal, closing_for, settle_refusal}
use Rattle.book.specs.Gates.{or_else}

-- Why a day is not ended, or else why it is not settled with the closing permit for which its permit was given up.
abbrev pub close_refusal : Desk → State → ℕ → DayPermit → ℕ → Option Refusal
close_refusal d s n p rate = or_else (end_refusal d s p rate) (settle_refusal d (close_state None s rate) n (closing_for p))

-- What became of the day's permits: the book rests, or with a refusal one is laid down.
abbrev pub IsSpent : Desk → State → Result (Unit {0}) Refusal → Type 0
IsSpent d s (Ok done) = is_resting s.stage ≡ true
IsSpent d s (Err w) = d.laid ≡ true
