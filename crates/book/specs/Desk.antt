-- Phases, permits and room: what every call asks first (docs/RULES.md, "Phases and permits", "How a call is judged").
use Rattle.std.specs.Prelude.{ℕ, ◌+◌, ◌-◌, ◌*◌, Bool, true, false, cond, not, ◌||◌, ◌==◌, nat_le}
use Rattle.archive.specs.Layout.{allowed}
use Rattle.ledger.specs.declared.state.Stage.{Stage}
use Rattle.ledger.specs.declared.state.Stage.TheVariants.{Resting, Open, Closed}
use Rattle.book.specs.declared.desk.Desk.{Desk}
use Rattle.book.specs.declared.desk.Phase.{Phase}
use Rattle.book.specs.declared.desk.Phase.TheVariants.{Idle, Resting as Rests, Day, Closing}

abbrev pub phase_in : Stage → Phase
phase_in Resting = Rests
phase_in Open = Day
phase_in Closed = Closing

-- A book is idle until it is founded; then its phase is the stage of its ledger's day.
abbrev pub phase_of : Desk → Stage → Phase
phase_of d stage = cond d.founded (phase_in stage) Idle

abbrev pub is_resting_phase : Phase → Bool
is_resting_phase Idle = false
is_resting_phase Rests = true
is_resting_phase Day = false
is_resting_phase Closing = false

abbrev pub is_day : Phase → Bool
is_day Idle = false
is_day Rests = false
is_day Day = true
is_day Closing = false

abbrev pub is_closing : Phase → Bool
is_closing Idle = false
is_closing Rests = false
is_closing Day = false
is_closing Closing = true

abbrev pub is_idle : Phase → Bool
is_idle Idle = true
is_idle Rests = false
is_idle Day = false
is_idle Closing = false

-- Whether a phase, the second, is the one that is asked for.
abbrev pub is_phase : Phase → Phase → Bool
is_phase Idle phase = is_idle phase
is_phase Rests phase = is_resting_phase phase
is_phase Day phase = is_day phase
is_phase Closing phase = is_closing phase

-- A book works from day to settle: a permit of it is about then.
abbrev pub is_working : Phase → Bool
is_working Idle = false
is_working Rests = false
is_working Day = true
is_working Closing = true

-- The archive's length is not founding's, or while idle not allowed.
abbrev pub wrong_length : Desk → ℕ → Bool
wrong_length d n = cond d.founded (not (n == 32 * d.slots)) (not (allowed n))

-- A permit names another book or another day.
abbrev pub foreign : Desk → ℕ → ℕ → ℕ → Bool
foreign d today book day = not (book == d.number) || not (day == today)

-- Slot 0 is never free.
abbrev pub free_slots : Desk → ℕ
free_slots d = d.slots - (d.used + 1)

-- The 32 slots of a settling stay free after so many entries.
abbrev pub has_room : Desk → ℕ → Bool
has_room d entries = nat_le (entries + 32) (free_slots d)
