-- What a call asks before its own rules, in the order of the numbers, and how its answer hands the permit back
-- (docs/RULES.md, "How a call is judged").
use Rattle.std.specs.Prelude.{ℕ, Bool, not, ◌||◌, List, [], ◌∷◌, Some, None, Ok, Err, Option, Result}
use Rattle.refusal.specs.declared.Refusal.{Refusal}
use Rattle.refusal.specs.declared.Refusal.TheVariants.{ArchiveLength, WrongPhase, ForeignPermit}
use Rattle.refusal.specs.Reasons.{first}
use Rattle.ledger.specs.declared.state.State.{State}
use Rattle.book.specs.declared.desk.Desk.{Desk}
use Rattle.book.specs.declared.desk.Phase.{Phase}
use Rattle.book.specs.declared.permit.DayPermit.{DayPermit}
use Rattle.book.specs.declared.permit.ClosingPermit.{ClosingPermit}
use Rattle.book.specs.Desk.{phase_of, is_resting_phase, is_day, is_closing, is_phase, wrong_length, foreign}

-- The first gate's refusal, else the second's.
abbrev pub or_else : Option Refusal → Option Refusal → Option Refusal
or_else None o = o
or_else (Some w) o = Some w

-- Why an answer is a refusal, or none where it is not.
abbrev pub why : {A : Type 0} → Result A Refusal → Option Refusal
why (Ok a) = None
why (Err w) = Some w

-- A call that needs a resting book.
abbrev pub resting_gate : Desk → State → Option Refusal
resting_gate d s = first ((not (is_resting_phase (phase_of d s.stage)), WrongPhase) ∷ [])

-- One that is brought a day permit, or a closing permit: none may be laid down, and it must be this book's and day's.
abbrev pub day_reasons : Desk → State → DayPermit → List (Bool × Refusal)
day_reasons d s p =
    (not (is_day (phase_of d s.stage)) || d.laid, WrongPhase)
    ∷ (foreign d s.day p.book p.day, ForeignPermit)
    ∷ []

abbrev pub closing_reasons : Desk → State → ClosingPermit → List (Bool × Refusal)
closing_reasons d s p =
    (not (is_closing (phase_of d s.stage)) || d.laid, WrongPhase)
    ∷ (foreign d s.day p.book p.day, ForeignPermit)
    ∷ []

abbrev pub day_gate : Desk → State → DayPermit → Option Refusal
day_gate d s p = first (day_reasons d s p)

abbrev pub closing_gate : Desk → State → ClosingPermit → Option Refusal
closing_gate d s p = first (closing_reasons d s p)

-- One that is brought the archive, of so many bytes, besides.
abbrev pub entry_gate : Desk → State → ℕ → DayPermit → Option Refusal
entry_gate d s n p = first ((wrong_length d n, ArchiveLength) ∷ day_reasons d s p)

abbrev pub settle_gate : Desk → State → ℕ → ClosingPermit → Option Refusal
settle_gate d s n p = first ((wrong_length d n, ArchiveLength) ∷ closing_reasons d s p)

-- The two gates of a permit of either kind, which is good in a phase and names a book and a day.
abbrev pub permit_reasons : Phase → Desk → State → ℕ → ℕ → List (Bool × Refusal)
permit_reasons phase d s book day =
    (not (is_phase phase (phase_of d s.stage)) || d.laid, WrongPhase)
    ∷ (foreign d s.day book day, ForeignPermit)
    ∷ []

abbrev pub permit_gate : Phase → Desk → State → ℕ → ℕ → Option Refusal
permit_gate phase d s book day = first (permit_reasons phase d s book day)

abbrev pub archive_gate : Phase → Desk → State → ℕ → ℕ → ℕ → Option Refusal
archive_gate phase d s n book day = first ((wrong_length d n, ArchiveLength) ∷ permit_reasons phase d s book day)

-- A permit that is handed back whatever the answer.
abbrev pub handed_back : {P : Type 0} → P → Option Refusal → Result P (P × Refusal)
handed_back p None = Ok p
handed_back p (Some w) = Err (p, w)

-- A permit that is spent for something else, or handed back with the refusal.
abbrev pub spent_for : {P A : Type 0} → P → A → Option Refusal → Result A (P × Refusal)
spent_for p a None = Ok a
spent_for p a (Some w) = Err (p, w)

-- Something that is handed out, or the refusal.
abbrev pub handed_out : {A : Type 0} → A → Option Refusal → Result A Refusal
handed_out a None = Ok a
handed_out a (Some w) = Err w
