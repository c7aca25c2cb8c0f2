-- An idle book, and its founding (docs/RULES.md, "Founding").
use Rattle.std.specs.Prelude.{ℕ, ◌/◌, Bool, true, false, ◌||◌, List, [], ◌∷◌, replicate, Some, None, Option, ◌==◌, nat_lt}
use Rattle.refusal.specs.declared.Refusal.{Refusal}
use Rattle.refusal.specs.declared.Refusal.TheVariants.{ArchiveLength, WrongPhase, OutOfRange}
use Rattle.refusal.specs.Reasons.{first}
use Rattle.archive.specs.Written.{begun}
use Rattle.rules.specs.Units.{min_rate}
use Rattle.ledger.specs.declared.state.State.{State}
use Rattle.ledger.specs.Days.{started, start_refusal}
use Rattle.book.specs.declared.desk.Desk.{Desk}
use Rattle.book.specs.Desk.{wrong_length}
use Rattle.book.specs.Gates.{or_else}

abbrev pub new_desk : Bool → ℕ → ℕ → Desk
new_desk founded number slots = record {
  founded = founded;
  number = number;
  slots = slots;
  used = 0;
  laid = false;
  tips = replicate 32 0;
  settled = replicate 12 None;
}

-- An idle book has no number and no archive; its ledger is empty, at a rate that founding replaces.
abbrev pub idle_desk : Desk
idle_desk = new_desk false 0 0

abbrev pub idle_state : State
idle_state = started min_rate

abbrev pub bad_book : ℕ → Bool
bad_book number = number == 0 || nat_lt 65535 number

abbrev pub found_gate : Desk → ℕ → ℕ → Option Refusal
found_gate d n number = first ((wrong_length d n, ArchiveLength) ∷ (d.founded, WrongPhase) ∷ (bad_book number, OutOfRange) ∷ [])

abbrev pub found_refusal : Desk → ℕ → ℕ → ℕ → Option Refusal
found_refusal d n number rate = or_else (found_gate d n number) (start_refusal rate)

abbrev pub found_desk : Option Refusal → Desk → ℕ → ℕ → Desk
found_desk None d n number = new_desk true number (n / 32)
found_desk (Some w) d n number = d

abbrev pub found_state : Option Refusal → State → ℕ → State
found_state None s rate = started rate
found_state (Some w) s rate = s

-- Slot 0 is written, and nothing else.
abbrev pub found_bytes : Option Refusal → List ℕ → ℕ → List ℕ
found_bytes o xs number = begun o xs number
