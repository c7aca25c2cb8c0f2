-- The calls of a resting book: listing, ratio and day (docs/RULES.md, "Listing", "Ratio", "Day").
use Rattle.std.specs.Prelude.{ℕ, ◌+◌, Option, Result}
use Rattle.refusal.specs.declared.Refusal.{Refusal}
use Rattle.ledger.specs.declared.state.Listing.{Listing}
use Rattle.ledger.specs.declared.state.State.{State}
use Rattle.ledger.specs.Days.{open_refusal}
use Rattle.ledger.specs.Listing.{list_refusal, reweigh_refusal}
use Rattle.book.specs.declared.desk.Desk.{Desk}
use Rattle.book.specs.declared.permit.DayPermit.{DayPermit}
use Rattle.book.specs.Desk.{has_room}
use Rattle.book.specs.Gates.{or_else, resting_gate, handed_out}

abbrev pub listing_refusal : Desk → State → Listing → Option Refusal
listing_refusal d s l = or_else (resting_gate d s) (list_refusal s l)

abbrev pub ratio_refusal : Desk → State → ℕ → ℕ → Option Refusal
ratio_refusal d s place ratio = or_else (resting_gate d s) (reweigh_refusal s place ratio)

-- The settling that is to come finds its slots.
abbrev pub day_refusal : Desk → State → Option Refusal
day_refusal d s = or_else (resting_gate d s) (open_refusal s (has_room d 0))

-- The permit of the day that was opened.
abbrev pub day_answer : Desk → State → Option Refusal → Result DayPermit Refusal
day_answer d s o = handed_out (record { book = d.number; day = s.day + 1 }) o
