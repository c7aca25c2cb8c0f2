-- Quotes, trades and delivery prices of a book (docs/RULES.md, "Quote", "Trade", "Delivery price").
use Rattle.std.specs.Prelude.{◌≡◌, ℕ, ◌≤◌, Bool, true, List, [], Some, None, Ok, Err, Option, Result}
use Rattle.refusal.specs.declared.Refusal.{Refusal}
use Rattle.ledger.specs.declared.state.Bargain.{Bargain}
use Rattle.ledger.specs.declared.state.Deal.{Deal}
use Rattle.ledger.specs.declared.state.State.{State}
use Rattle.ledger.specs.Places.{known_account}
use Rattle.ledger.specs.Quotes.{quote_refusal, deliver_refusal}
use Rattle.ledger.specs.Trade.{bargain, exchange_answer, exchange_state}
use Rattle.book.specs.declared.desk.Desk.{Desk}
use Rattle.book.specs.declared.entries.Movement.{Movement}
use Rattle.book.specs.declared.permit.DayPermit.{DayPermit}
use Rattle.book.specs.Desk.{has_room}
use Rattle.book.specs.Entries.{fee_moves}
use Rattle.book.specs.Gates.{or_else, why, day_gate, entry_gate}

abbrev pub quoting_refusal : Desk → State → DayPermit → ℕ → ℕ → ℕ → Option Refusal
quoting_refusal d s p place bid ask = or_else (day_gate d s p) (quote_refusal s place bid ask)

abbrev pub delivery_refusal : Desk → State → DayPermit → ℕ → ℕ → Option Refusal
delivery_refusal d s p place price = or_else (day_gate d s p) (deliver_refusal s place price)

-- The bargain that the ledger strikes, or the first reason why not.
abbrev pub behind : Option Refusal → Result Bargain Refusal → Result Bargain Refusal
behind None r = r
behind (Some w) r = Err w

abbrev pub trade_bargain : (ℕ → ℕ → ℕ → ℕ) → Desk → State → ℕ → DayPermit → Deal → Result Bargain Refusal
trade_bargain opening d s n p deal = behind (entry_gate d s n p) (bargain opening s deal (has_room d 2))

abbrev pub trade_refusal : (ℕ → ℕ → ℕ → ℕ) → Desk → State → ℕ → DayPermit → Deal → Option Refusal
trade_refusal opening d s n p deal = why (exchange_answer (trade_bargain opening d s n p deal) deal)

-- The fee of each side is entered, from the ledger as the trade left it.
abbrev pub paid_moves : Result ℕ Refusal → State → Deal → List Movement
paid_moves (Ok fee) s deal = fee_moves s deal fee
paid_moves (Err w) s deal = []

abbrev pub trade_moves : Result Bargain Refusal → State → Deal → List Movement
trade_moves r s deal = paid_moves (exchange_answer r deal) (exchange_state r s deal) deal

-- A trade that was struck: the fee fits an entry, both accounts are known, and there was room.
abbrev pub DealtIn : Deal → Bool → Result ℕ Refusal → Type 0
DealtIn deal room (Ok fee) = (fee ≤ 8000000000000000000) × (known_account deal.buyer ≡ true) × (known_account deal.seller ≡ true) × (room ≡ true)
DealtIn deal room (Err w) = Unit {0}
