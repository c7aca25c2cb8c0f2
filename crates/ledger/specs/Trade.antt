-- A trade: what it asks, and what it changes (docs/RULES.md, "Trades").
use Rattle.std.specs.Prelude.{◌≡◌, ℕ, ◌+◌, ◌-◌, ◌*◌, ◌≤◌, Bool, false, not, ◌&&◌, ◌||◌, List, [], ◌∷◌, pos, ◌-ℤ◌, neg_ℤ, ◌≤ℤ◌, is_some, Some, None, Ok, Err, Option, Result, ◌==◌, int_lt, nat_lt, slice_index_or, slice_set}
use Rattle.refusal.specs.declared.Refusal.{Refusal}
use Rattle.refusal.specs.declared.Refusal.TheVariants.{WrongPhase, OutOfRange, PlaceState, SameTrader, QuantityRange, PriceLimits, NotHeld, SideCeiling, DayCeiling, ShortOfMargin, NoRoom}
use Rattle.refusal.specs.Reasons.{first}
use Rattle.rules.specs.Units.{fen_units, max_side}
use Rattle.ledger.specs.declared.state.Account.{Account}
use Rattle.ledger.specs.declared.state.Bargain.{Bargain}
use Rattle.ledger.specs.declared.state.Contract.{Contract}
use Rattle.ledger.specs.declared.state.Deal.{Deal}
use Rattle.ledger.specs.declared.state.Effect.{Effect}
use Rattle.ledger.specs.declared.state.Effect.TheVariants.{Opens, Closes}
use Rattle.ledger.specs.declared.state.Part.{Part}
use Rattle.ledger.specs.declared.state.Part.TheVariants.{Buyer, Seller}
use Rattle.ledger.specs.declared.state.Row.{Row}
use Rattle.ledger.specs.declared.state.State.{State}
use Rattle.ledger.specs.declared.state.Table.{Table}
use Rattle.ledger.specs.declared.trades.Parties.{Parties}
use Rattle.ledger.specs.Places.{account_at, place_at, no_account, is_open, known_account, known_place, limits_of, outside}
use Rattle.ledger.specs.Rows.{row_at, set_row, row_after, lacking, overfilled, overtraded, Small}

abbrev pub off_limits : ℕ → Option Contract → ℕ → Bool
off_limits day None price = false
off_limits day (Some c) price = outside (limits_of day c) price

-- What can be told before the contract's terms and the two sides are looked at.
abbrev pub frame_reasons : State → Deal → List (Bool × Refusal)
frame_reasons s d =
    (not (is_open s.stage), WrongPhase)
    ∷ (not (known_place d.place && (known_account d.buyer && known_account d.seller)), OutOfRange)
    ∷ (not (is_some (place_at s (d.place - 1))), PlaceState)
    ∷ ((d.buyer == d.seller), SameTrader)
    ∷ (nat_lt d.quantity 1 || nat_lt max_side d.quantity, QuantityRange)
    ∷ (off_limits s.day (place_at s (d.place - 1)) d.price, PriceLimits)
    ∷ []

abbrev pub buyer_row : State → Deal → Row
buyer_row s d = row_at s.table (d.buyer - 1) (d.place - 1)

abbrev pub seller_row : State → Deal → Row
seller_row s d = row_at s.table (d.seller - 1) (d.place - 1)

-- Each side's fee, in units.
abbrev pub fee_of : Contract → Deal → ℕ
fee_of c d = fen_units * c.fee * d.quantity

-- An opening side has less than its margin and its fee.
abbrev pub poor : Account → Effect → ℕ → Bool
poor x Opens need = int_lt x.available (pos need)
poor x Closes need = false

-- Each is asked of both sides before the next.
abbrev pub sides_reasons : State → Deal → Bargain → Bool → List (Bool × Refusal)
sides_reasons s d b room =
    (lacking (buyer_row s d) Buyer d.bought d.quantity || lacking (seller_row s d) Seller d.sold d.quantity, NotHeld)
    ∷ (overfilled (buyer_row s d) Buyer d.bought d.quantity || overfilled (seller_row s d) Seller d.sold d.quantity, SideCeiling)
    ∷ (overtraded (buyer_row s d) d.quantity || overtraded (seller_row s d) d.quantity, DayCeiling)
    ∷ (poor (account_at s (d.buyer - 1)) d.bought (b.margin + fee_of b.contract d) || poor (account_at s (d.seller - 1)) d.sold (b.margin + fee_of b.contract d), ShortOfMargin)
    ∷ (not room, NoRoom)
    ∷ []

-- The opening margin is asked at price × trade rate.
abbrev pub bargain_at : (ℕ → ℕ → ℕ → ℕ) → State → Deal → Contract → Bargain
bargain_at opening s d c = record { contract = c; margin = opening (d.price * s.rate) d.quantity c.ratio }

abbrev pub sided : Option Refusal → Bargain → Result Bargain Refusal
sided None b = Ok b
sided (Some w) b = Err w

abbrev pub framed : (ℕ → ℕ → ℕ → ℕ) → State → Deal → Bool → Option Refusal → Option Contract → Result Bargain Refusal
framed opening s d room (Some w) o = Err w
framed opening s d room None None = Err PlaceState
framed opening s d room None (Some c) = sided (first (sides_reasons s d (bargain_at opening s d c) room)) (bargain_at opening s d c)

-- The contract of a deal, where nothing in its frame is refused.
abbrev pub framed_contract : Option Refusal → Option Contract → Result Contract Refusal
framed_contract (Some w) o = Err w
framed_contract None None = Err PlaceState
framed_contract None (Some c) = Ok c

abbrev pub parties_of : Deal → Parties
parties_of d = record { place = d.place - 1; buyer = d.buyer - 1; seller = d.seller - 1 }

-- What a check of a deal answers that looks its seats up: beside what it answers, these seats.
abbrev pub WithParties : {X : Type 0} → Result X Refusal → Deal → Result (X × Parties) Refusal → Type 0
WithParties answer d (Ok p) = (answer ≡ Ok p.0) × (p.1 ≡ parties_of d)
WithParties answer d (Err w) = answer ≡ Err w

-- The trade that may be made, or the first reason why not.
abbrev pub bargain : (ℕ → ℕ → ℕ → ℕ) → State → Deal → Bool → Result Bargain Refusal
bargain opening s d room = framed opening s d room (first (frame_reasons s d)) (place_at s (d.place - 1))

-- An opening side moves the margin; each side pays the fee.
abbrev pub charged : Account → Effect → ℕ → ℕ → Account
charged x Opens margin fee = record { available = x.available -ℤ pos (margin + fee); margin = x.margin + margin; paid = x.paid; payouts = x.payouts }
charged x Closes margin fee = record { available = x.available -ℤ pos fee; margin = x.margin; paid = x.paid; payouts = x.payouts }

abbrev pub charge_at : List Account → ℕ → Effect → ℕ → ℕ → List Account
charge_at xs a effect margin fee = slice_set xs a (charged (slice_index_or xs a no_account) effect margin fee)

abbrev pub trade_row : Table → ℕ → ℕ → Part → Effect → ℕ → ℕ → Table
trade_row t a p part effect price q = set_row t a p (row_after (row_at t a p) part effect price q)

abbrev pub traded_contract : Contract → ℕ → ℕ → Contract
traded_contract c price q = record {
  number = c.number;
  base = c.base;
  previous = c.previous;
  ratio = c.ratio;
  fee = c.fee;
  delivery = c.delivery;
  term = c.term;
  quantity = c.quantity + q;
  value = c.value + price * q;
  bid = c.bid;
  ask = c.ask;
  price = c.price;
}

-- Two rows, two accounts, the contract's figures and the fees change, and nothing else.
abbrev pub traded_state : State → Deal → Bargain → State
traded_state s d b = record {
  stage = s.stage;
  rate = s.rate;
  closing = s.closing;
  day = s.day;
  highest = s.highest;
  fees = s.fees + 2 * fee_of b.contract d;
  accounts = charge_at (charge_at s.accounts (d.buyer - 1) d.bought b.margin (fee_of b.contract d)) (d.seller - 1) d.sold b.margin (fee_of b.contract d);
  places = slice_set s.places (d.place - 1) (Some (traded_contract b.contract d.price d.quantity));
  table = trade_row (trade_row s.table (d.buyer - 1) (d.place - 1) Buyer d.bought d.price d.quantity) (d.seller - 1) (d.place - 1) Seller d.sold d.price d.quantity;
}

abbrev pub exchange_state : Result Bargain Refusal → State → Deal → State
exchange_state (Ok b) s d = traded_state s d b
exchange_state (Err w) s d = s

-- The answer is each side's fee.
abbrev pub exchange_answer : Result Bargain Refusal → Deal → Result ℕ Refusal
exchange_answer (Ok b) d = Ok (fee_of b.contract d)
exchange_answer (Err w) d = Err w

-- The numbers of a deal that passed its frame.
pub record InRange (d : Deal) : Type 0 where
  pub place : 1 ≤ d.place
  pub places : d.place ≤ 12
  pub buyer : 1 ≤ d.buyer
  pub buyers : d.buyer ≤ 32
  pub seller : 1 ≤ d.seller
  pub sellers : d.seller ≤ 32
  pub least : 1 ≤ d.quantity
  pub most : d.quantity ≤ 50000
  pub price : d.price ≤ 9999

-- An account that a charge fits.
abbrev pub Chargeable : Account → Type 0
Chargeable x = (x.margin ≤ 9000000000000000000) × (neg_ℤ (pos 9000000000000000000) ≤ℤ x.available)

-- A bargain that can be carried out.
pub record Tradable (s : State) (d : Deal) (b : Bargain) : Type 0 where
  pub range : InRange d
  pub apart : d.buyer ≡ d.seller → ⊥
  pub buying : Small (buyer_row s d)
  pub selling : Small (seller_row s d)
  pub bought : lacking (buyer_row s d) Buyer d.bought d.quantity ≡ false
  pub sold : lacking (seller_row s d) Seller d.sold d.quantity ≡ false
  pub margin : b.margin ≤ 100000000000099
  pub fee : b.contract.fee ≤ 10000
  pub quantity : b.contract.quantity ≤ 3200000
  pub value : b.contract.value ≤ 31996800000
  pub payer : Chargeable (account_at s (d.buyer - 1))
  pub other : Chargeable (account_at s (d.seller - 1))
  pub fees : s.fees ≤ 9000000000000000000
