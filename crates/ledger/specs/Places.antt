-- Accounts and places of a ledger, counted from 0, and the limits of a contract (docs/RULES.md, "The book", "Limits").
use Rattle.std.specs.Prelude.{ℕ, Bool, true, false, ◌&&◌, ◌||◌, ℤ, pos, ◌+ℤ◌, Some, None, Ok, Err, Option, Result, nat_le, nat_lt, slice_index_or, slice_set}
use Rattle.refusal.specs.declared.Refusal.{Refusal}
use Rattle.refusal.specs.declared.Refusal.TheVariants.{PlaceState}
use Rattle.rules.specs.declared.figures.Figures.{Figures}
use Rattle.rules.specs.declared.limits.Limits.{Limits}
use Rattle.rules.specs.Limits.{limits_on}
use Rattle.rules.specs.Units.{accounts, places}
use Rattle.ledger.specs.declared.state.Account.{Account}
use Rattle.ledger.specs.declared.state.Contract.{Contract}
use Rattle.ledger.specs.declared.state.Stage.{Stage}
use Rattle.ledger.specs.declared.state.Stage.TheVariants.{Resting, Open, Closed}
use Rattle.ledger.specs.declared.state.State.{State}

abbrev pub no_account : Account
no_account = record { available = pos 0; margin = 0; paid = 0; payouts = 0 }

abbrev pub account_at : State → ℕ → Account
account_at s a = slice_index_or s.accounts a no_account

abbrev pub equity : Account → ℤ
equity x = x.available +ℤ pos x.margin

abbrev pub place_at : State → ℕ → Option Contract
place_at s p = slice_index_or s.places p None

-- The contract that stands in a place, where one does.
abbrev pub contract_in : Option Contract → Result Contract Refusal
contract_in None = Err PlaceState
contract_in (Some c) = Ok c

abbrev pub is_resting : Stage → Bool
is_resting Resting = true
is_resting Open = false
is_resting Closed = false

abbrev pub is_open : Stage → Bool
is_open Resting = false
is_open Open = true
is_open Closed = false

abbrev pub is_closed : Stage → Bool
is_closed Resting = false
is_closed Open = false
is_closed Closed = true

-- Numbers that callers bring, counted from 1.
abbrev pub known_account : ℕ → Bool
known_account a = nat_le 1 a && nat_le a accounts

abbrev pub known_place : ℕ → Bool
known_place p = nat_le 1 p && nat_le p places

abbrev pub limits_of : ℕ → Contract → Limits
limits_of day c = limits_on day c.term c.base c.previous

abbrev pub outside : Limits → ℕ → Bool
outside limits price = nat_lt price limits.lower || nat_lt limits.upper price

-- The day figures that a price rule is asked with.
abbrev pub figures_of : ℕ → Contract → Figures
figures_of day c = record { previous = c.previous; limits = limits_of day c; quantity = c.quantity; value = c.value; bid = c.bid; ask = c.ask }

abbrev pub with_account : State → ℕ → Account → State
with_account s a x = record { stage = s.stage; rate = s.rate; closing = s.closing; day = s.day; highest = s.highest; fees = s.fees; accounts = slice_set s.accounts a x; places = s.places; table = s.table }

abbrev pub with_place : State → ℕ → Contract → State
with_place s p c = record { stage = s.stage; rate = s.rate; closing = s.closing; day = s.day; highest = s.highest; fees = s.fees; accounts = s.accounts; places = slice_set s.places p (Some c); table = s.table }
