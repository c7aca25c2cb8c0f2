-- The end of a day, and its settling (docs/RULES.md, "End", "Settle").
use Rattle.std.specs.Prelude.{ℕ, List, [], Some, None, Option}
use Rattle.refusal.specs.declared.Refusal.{Refusal}
use Rattle.rules.specs.declared.figures.Figures.{Figures}
use Rattle.ledger.specs.declared.state.Settled.{Settled}
use Rattle.ledger.specs.declared.state.State.{State}
use Rattle.ledger.specs.Days.{close_refusal}
use Rattle.ledger.specs.Settle.{prices_of, settled_by, settlement}
use Rattle.book.specs.declared.desk.Desk.{Desk}
use Rattle.book.specs.declared.entries.Movement.{Movement}
use Rattle.book.specs.declared.permit.ClosingPermit.{ClosingPermit}
use Rattle.book.specs.declared.permit.DayPermit.{DayPermit}
use Rattle.book.specs.Entries.{settlement_moves}
use Rattle.book.specs.Gates.{or_else, day_gate, settle_gate}

abbrev pub end_refusal : Desk → State → DayPermit → ℕ → Option Refusal
end_refusal d s p rate = or_else (day_gate d s p) (close_refusal s rate)

-- The closing permit for which a day permit is given up.
abbrev pub closing_for : DayPermit → ClosingPermit
closing_for p = record { book = p.book; day = p.day }

-- The marks, the results and the margins are the ledger's; a settling that passed its gate is never refused.
abbrev pub settle_refusal : Desk → State → ℕ → ClosingPermit → Option Refusal
settle_refusal d s n p = settle_gate d s n p

abbrev pub settle_state : Option Refusal → (Figures → ℕ) → (ℕ → ℕ → ℕ → ℕ → ℕ) → State → State
settle_state None meaning holding s = settled_by holding s (prices_of meaning s)
settle_state (Some w) meaning holding s = s

-- One entry for each account, from the ledger as the settling left it.
abbrev pub settle_moves : Option Refusal → (Figures → ℕ) → (ℕ → ℕ → ℕ → ℕ → ℕ) → State → List Movement
settle_moves None meaning holding s =
    settlement_moves s.day (settled_by holding s (prices_of meaning s)).accounts (settlement holding s (prices_of meaning s)).changes
settle_moves (Some w) meaning holding s = []

-- The desk keeps the contracts that were settled.
abbrev pub with_settled : Desk → List (Option Settled) → Desk
with_settled d contracts = record { founded = d.founded; number = d.number; slots = d.slots; used = d.used; laid = d.laid; tips = d.tips; settled = contracts }

abbrev pub settle_desk : Option Refusal → (Figures → ℕ) → (ℕ → ℕ → ℕ → ℕ → ℕ) → Desk → State → Desk
settle_desk None meaning holding d s = with_settled d (settlement holding s (prices_of meaning s)).contracts
settle_desk (Some w) meaning holding d s = d
