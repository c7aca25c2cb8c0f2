-- Laying a permit down in its book, and taking it up again (docs/RULES.md, "Lay-down", "Take-up").
use Rattle.std.specs.Prelude.{Bool, not, ◌||◌, [], ◌∷◌, Some, None, Option}
use Rattle.refusal.specs.declared.Refusal.{Refusal}
use Rattle.refusal.specs.declared.Refusal.TheVariants.{WrongPhase}
use Rattle.refusal.specs.Reasons.{first}
use Rattle.ledger.specs.declared.state.State.{State}
use Rattle.book.specs.declared.desk.Desk.{Desk}
use Rattle.book.specs.declared.desk.Phase.{Phase}
use Rattle.book.specs.declared.permit.DayPermit.{DayPermit}
use Rattle.book.specs.declared.permit.ClosingPermit.{ClosingPermit}
use Rattle.book.specs.Desk.{phase_of, is_day, is_closing, is_phase}

abbrev pub with_laid : Desk → Bool → Desk
with_laid d laid = record { founded = d.founded; number = d.number; slots = d.slots; used = d.used; laid = laid; tips = d.tips; settled = d.settled }

-- The note that a permit is laid down is made, or removed; a refusal leaves it.
abbrev pub noted : Option Refusal → Desk → Bool → Desk
noted None d laid = with_laid d laid
noted (Some w) d laid = d

-- The phase must be that of the permit, and its permit laid down.
abbrev pub take_up_day_refusal : Desk → State → Option Refusal
take_up_day_refusal d s = first ((not (is_day (phase_of d s.stage)) || not d.laid, WrongPhase) ∷ [])

abbrev pub take_up_closing_refusal : Desk → State → Option Refusal
take_up_closing_refusal d s = first ((not (is_closing (phase_of d s.stage)) || not d.laid, WrongPhase) ∷ [])

-- The same of a permit of either kind.
abbrev pub take_up_refusal : Phase → Desk → State → Option Refusal
take_up_refusal phase d s = first ((not (is_phase phase (phase_of d s.stage)) || not d.laid, WrongPhase) ∷ [])

-- The permits of a book and its day.
abbrev pub day_permit : Desk → State → DayPermit
day_permit d s = record { book = d.number; day = s.day }

abbrev pub closing_permit : Desk → State → ClosingPermit
closing_permit d s = record { book = d.number; day = s.day }
