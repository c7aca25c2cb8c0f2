-- The start of a ledger, and the opening and the end of a day (docs/RULES.md, "Founding", "Day", "End").
use Rattle.std.specs.Prelude.{ℕ, ◌+◌, Bool, true, not, ◌&&◌, ◌||◌, List, [], ◌∷◌, replicate, Some, None, Option, nat_le, nat_lt, slice_index_or}
use Rattle.refusal.specs.declared.Refusal.{Refusal}
use Rattle.refusal.specs.declared.Refusal.TheVariants.{WrongPhase, RateRange, NoDaysLeft, DeliveryPrice, NoRoom}
use Rattle.refusal.specs.Reasons.{first}
use Rattle.rules.specs.Units.{min_rate, max_rate, max_days}
use Rattle.ledger.specs.declared.state.Account.{Account}
use Rattle.ledger.specs.declared.state.Contract.{Contract}
use Rattle.ledger.specs.declared.state.Stage.TheVariants.{Resting, Open, Closed}
use Rattle.ledger.specs.declared.state.State.{State}
use Rattle.ledger.specs.declared.state.Table.{Table}
use Rattle.ledger.specs.Places.{account_at, place_at, no_account, is_open, is_resting}
use Rattle.ledger.specs.Rows.{blank, opened_row}
use Rattle.ledger.specs.Sound.{standing, delivery_holds}
use Rattle.ledger.specs.Sums.{tabulated}

abbrev pub bad_rate : ℕ → Bool
bad_rate rate = nat_lt rate min_rate || nat_lt max_rate rate

abbrev pub start_refusal : ℕ → Option Refusal
start_refusal rate = first ((bad_rate rate, RateRange) ∷ [])

-- Nothing is listed, held or paid.
abbrev pub started : ℕ → State
started rate = record {
  stage = Resting;
  rate = rate;
  closing = 0;
  day = 0;
  highest = 0;
  fees = 0;
  accounts = replicate 32 no_account;
  places = replicate 12 None;
  table = record { rows = replicate 384 blank };
}

abbrev pub open_reasons : State → Bool → List (Bool × Refusal)
open_reasons s room =
    (not (is_resting s.stage), WrongPhase)
    ∷ (nat_le max_days s.day, NoDaysLeft)
    ∷ (not room, NoRoom)
    ∷ []

abbrev pub open_refusal : State → Bool → Option Refusal
open_refusal s room = first (open_reasons s room)

abbrev pub opened_account : Account → Account
opened_account x = record { available = x.available; margin = x.margin; paid = x.paid; payouts = 0 }

abbrev pub opened_contract : Contract → Contract
opened_contract c = record {
  number = c.number;
  base = c.base;
  previous = c.previous;
  ratio = c.ratio;
  fee = c.fee;
  delivery = c.delivery;
  term = c.term;
  quantity = 0;
  value = 0;
  bid = None;
  ask = None;
  price = None;
}

abbrev pub opened_place : Option Contract → Option Contract
opened_place None = None
opened_place (Some c) = Some (opened_contract c)

abbrev pub opened_table : Table → Table
opened_table t = record { rows = tabulated (λ k. opened_row (slice_index_or t.rows k blank)) 384 }

-- The day's figures, quotes, delivery prices and pay-out counts are cleared, and each row takes its net.
abbrev pub open_state : Option Refusal → State → State
open_state None s = record {
  stage = Open;
  rate = s.rate;
  closing = s.closing;
  day = s.day + 1;
  highest = s.highest;
  fees = s.fees;
  accounts = tabulated (λ a. opened_account (account_at s a)) 32;
  places = tabulated (λ p. opened_place (place_at s p)) 12;
  table = opened_table s.table;
}
open_state (Some w) s = s

-- Every contract on its last day has its delivery price.
abbrev pub all_priced : ℕ → List (Option Contract) → Bool
all_priced day [] = true
all_priced day (o ∷ os) = standing (delivery_holds day) o && all_priced day os

abbrev pub close_reasons : State → ℕ → List (Bool × Refusal)
close_reasons s rate =
    (not (is_open s.stage), WrongPhase)
    ∷ (bad_rate rate, RateRange)
    ∷ (not (all_priced s.day s.places), DeliveryPrice)
    ∷ []

abbrev pub close_refusal : State → ℕ → Option Refusal
close_refusal s rate = first (close_reasons s rate)

abbrev pub close_state : Option Refusal → State → ℕ → State
close_state None s rate = record {
  stage = Closed;
  rate = s.rate;
  closing = rate;
  day = s.day;
  highest = s.highest;
  fees = s.fees;
  accounts = s.accounts;
  places = s.places;
  table = s.table;
}
close_state (Some w) s rate = s
