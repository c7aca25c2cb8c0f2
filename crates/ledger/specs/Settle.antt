-- A settling: prices and marks, what each row comes to, and the state that it leaves (docs/RULES.md, "Settling").
use Rattle.std.specs.Prelude.{◌≡◌, ℕ, ◌+◌, ◌*◌, ◌%◌, ◌<◌, ◌≤◌, Bool, cond, List, ℤ, pos, ◌+ℤ◌, ◌-ℤ◌, neg_ℤ, ◌≤ℤ◌, Some, None, Ok, Err, Option, Result, ◌==◌, slice_index, slice_index_or}
use Rattle.std.specs.Option.{unwrap_or}
use Rattle.refusal.specs.declared.Refusal.{Refusal}
use Rattle.refusal.specs.declared.Refusal.TheVariants.{WrongPhase}
use Rattle.rules.specs.declared.figures.Figures.{Figures}
use Rattle.rules.specs.Units.{fen_units}
use Rattle.ledger.specs.declared.state.Account.{Account}
use Rattle.ledger.specs.declared.state.Contract.{Contract}
use Rattle.ledger.specs.declared.state.Outcome.{Outcome}
use Rattle.ledger.specs.declared.state.Row.{Row}
use Rattle.ledger.specs.declared.state.Settled.{Settled}
use Rattle.ledger.specs.declared.state.Settlement.{Settlement}
use Rattle.ledger.specs.declared.state.Stage.TheVariants.{Resting}
use Rattle.ledger.specs.declared.state.State.{State}
use Rattle.ledger.specs.declared.state.Table.{Table}
use Rattle.ledger.specs.Places.{account_at, place_at, figures_of, is_closed, equity}
use Rattle.ledger.specs.Rows.{blank, row_at, result_of}
use Rattle.ledger.specs.Sums.{sum_to, total_to, tabulated}

-- A contract is delivered on its last day.
abbrev pub delivered : ℕ → Contract → Bool
delivered day c = c.term.last == day

-- The settlement price: the delivery price on the last day, else the price rule's answer.
abbrev pub price_of : (Figures → ℕ) → ℕ → Contract → ℕ
price_of meaning day c = cond (delivered day c) (unwrap_or c.price 0) (meaning (figures_of day c))

abbrev pub price_at : (Figures → ℕ) → ℕ → Option Contract → ℕ
price_at meaning day None = 0
price_at meaning day (Some c) = price_of meaning day c

abbrev pub prices_of : (Figures → ℕ) → State → List ℕ
prices_of meaning s = tabulated (λ p. price_at meaning s.day (place_at s p)) 12

abbrev pub nothing : Outcome
nothing = record { result = pos 0; fee = 0; margin = 0 }

-- What one row comes to: its result at the mark, and either the delivery fee or the holding margin.
abbrev pub row_outcome : (ℕ → ℕ → ℕ → ℕ → ℕ) → State → ℕ → Option Contract → Row → Outcome
row_outcome holding s price None r = nothing
row_outcome holding s price (Some c) r = record {
  result = result_of r (price * s.closing) (c.previous * s.rate) s.rate;
  fee = cond (delivered s.day c) (fen_units * c.delivery * (r.long + r.short)) 0;
  margin = cond (delivered s.day c) 0 (holding (price * s.closing) r.long r.short c.ratio);
}

abbrev pub outcome_at : (ℕ → ℕ → ℕ → ℕ → ℕ) → State → List ℕ → ℕ → ℕ → Outcome
outcome_at holding s ps a p = row_outcome holding s (slice_index ps p) (place_at s p) (row_at s.table a p)

-- The sums of an account's first n rows.
abbrev pub outcome_to : (ℕ → ℕ → ℕ → ℕ → ℕ) → State → List ℕ → ℕ → ℕ → Outcome
outcome_to holding s ps a n = record {
  result = total_to (λ p. (outcome_at holding s ps a p).result) n;
  fee = sum_to (λ p. (outcome_at holding s ps a p).fee) n;
  margin = sum_to (λ p. (outcome_at holding s ps a p).margin) n;
}

-- Available gains the results and the fall in margin, less the delivery fees.
abbrev pub settled_account : Account → Outcome → Account
settled_account x o = record {
  available = (x.available +ℤ o.result) +ℤ (pos x.margin -ℤ pos (o.margin + o.fee));
  margin = o.margin;
  paid = x.paid;
  payouts = x.payouts;
}

-- The change of equity.
abbrev pub change_of : Outcome → ℤ
change_of o = o.result -ℤ pos o.fee

-- The settlement price is the next previous price; a delivered place empties, and its rows with it.
abbrev pub repriced : Contract → ℕ → Contract
repriced c price = record {
  number = c.number;
  base = c.base;
  previous = price;
  ratio = c.ratio;
  fee = c.fee;
  delivery = c.delivery;
  term = c.term;
  quantity = c.quantity;
  value = c.value;
  bid = c.bid;
  ask = c.ask;
  price = c.price;
}

abbrev pub settled_place : ℕ → ℕ → Option Contract → Option Contract
settled_place day price None = None
settled_place day price (Some c) = cond (delivered day c) None (Some (repriced c price))

abbrev pub settled_row : ℕ → Option Contract → Row → Row
settled_row day None r = r
settled_row day (Some c) r = cond (delivered day c) blank r

abbrev pub settled_table : State → Table
settled_table s = record { rows = tabulated (λ k. settled_row s.day (place_at s (k % 12)) (slice_index_or s.table.rows k blank)) 384 }

abbrev pub settled_by : (ℕ → ℕ → ℕ → ℕ → ℕ) → State → List ℕ → State
settled_by holding s ps = record {
  stage = Resting;
  rate = s.closing;
  closing = s.closing;
  day = s.day;
  highest = s.highest;
  fees = s.fees + sum_to (λ a. (outcome_to holding s ps a 12).fee) 32;
  accounts = tabulated (λ a. settled_account (account_at s a) (outcome_to holding s ps a 12)) 32;
  places = tabulated (λ p. settled_place s.day (slice_index ps p) (place_at s p)) 12;
  table = settled_table s;
}

abbrev pub settled_contract : ℕ → Option Contract → Option Settled
settled_contract price None = None
settled_contract price (Some c) = Some (record { number = c.number; price = price })

abbrev pub settlement : (ℕ → ℕ → ℕ → ℕ → ℕ) → State → List ℕ → Settlement
settlement holding s ps = record {
  contracts = tabulated (λ p. settled_contract (slice_index ps p) (place_at s p)) 12;
  changes = tabulated (λ a. change_of (outcome_to holding s ps a 12)) 32;
}

abbrev pub revalue_answer : (Figures → ℕ) → (ℕ → ℕ → ℕ → ℕ → ℕ) → State → Result Settlement Refusal
revalue_answer meaning holding s = cond (is_closed s.stage) (Ok (settlement holding s (prices_of meaning s))) (Err WrongPhase)

abbrev pub revalue_state : (Figures → ℕ) → (ℕ → ℕ → ℕ → ℕ → ℕ) → State → State
revalue_state meaning holding s = cond (is_closed s.stage) (settled_by holding s (prices_of meaning s)) s

-- What n rows come to at most.
abbrev pub Near : ℕ → Outcome → Type 0
Near n o =
    (neg_ℤ (pos (150000000000000 * n)) ≤ℤ o.result) × (o.result ≤ℤ pos (150000000000000 * n))
    × (o.fee ≤ 100000000000 * n) × (o.margin ≤ 100000000000099 * n)

-- An account with room to settle.
abbrev pub Roomy : Account → Type 0
Roomy x =
    (neg_ℤ (pos 8000000000000000000) ≤ℤ x.available) × (x.available ≤ℤ pos 8000000000000000000) × (x.margin ≤ 8000000000000000000)
    × (neg_ℤ (pos 8000000000000000000) ≤ℤ equity x) × (equity x ≤ℤ pos 8000000000000000000)

-- A contract whose row can be settled.
abbrev pub Settleable : Option Contract → Type 0
Settleable o = (c : Contract) → o ≡ Some c → (c.previous ≤ 9999) × (c.delivery ≤ 10000)

abbrev pub Priced : List ℕ → Type 0
Priced ps = (p : ℕ) → p < 12 → slice_index ps p ≤ 9999

-- One row's outcome more.
abbrev pub added : Outcome → Outcome → Outcome
added sums o = record { result = sums.result +ℤ o.result; fee = sums.fee + o.fee; margin = sums.margin + o.margin }

abbrev pub NearAll : List Outcome → Type 0
NearAll os = (a : ℕ) → a < 32 → Near 12 (slice_index_or os a nothing)
