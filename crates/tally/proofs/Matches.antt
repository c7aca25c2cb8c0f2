-- What a ledger holds is what its history comes to. Between a settling and the next day the rows and places are read as
-- the next day will open them, so that nothing here hangs on the stage.
use Rattle.std.proofs.Common.{◌≡◌, ℕ, ◌+◌, ◌-◌, ◌*◌, ◌<◌, ◌≤◌, true, cond, ◌&&◌, eqb, List, [], ◌∷◌, length, ℤ, pos, ◌+ℤ◌, ◌-ℤ◌, ◌*ℤ◌, Some, None, Option}
use Rattle.ledger.specs.declared.state.Account.{Account}
use Rattle.ledger.specs.declared.state.Contract.{Contract}
use Rattle.ledger.specs.declared.state.Row.{Row}
use Rattle.ledger.specs.declared.state.State.{State}
use Rattle.ledger.specs.Days.{opened_place}
use Rattle.ledger.specs.Places.{account_at, place_at, equity, is_resting}
use Rattle.ledger.specs.Rows.{row_at, opened_row}
use Rattle.tally.specs.Cases.{on_lists, on_reweighs}
use Rattle.tally.specs.Tally.{History, Listed, Trade, if_so, share, total, sum, teu, of_contract, opens_long, closes_long, opens_short, closes_short, all_trades, standing, number_of, previous_price, day_quantity, day_value, bid, ask, delivery_price, day_number, trade_rate, settlement_rate, settled_trades, unsettled_trades, last_mark, tally_equity}
use Rattle.tally.proofs.Lists.{Each, Among}

abbrev pub account_of : State → ℕ → Account
account_of s a = account_at s (a - 1)

abbrev pub place_of : State → ℕ → Option Contract
place_of s p = cond (is_resting s.stage) (opened_place (place_at s (p - 1))) (place_at s (p - 1))

abbrev pub row_of : State → ℕ → ℕ → Row
row_of s a p = cond (is_resting s.stage) (opened_row (row_at s.table (a - 1) (p - 1))) (row_at s.table (a - 1) (p - 1))

-- The quantity of a trade as an account has it: bought, or sold below zero.
abbrev pub signed : ℕ → Trade → ℤ
signed a t = if_so (eqb a t.deal.buyer) (pos t.deal.quantity) -ℤ if_so (eqb a t.deal.seller) (pos t.deal.quantity)

-- What a trade counts to one contract.
abbrev pub of : ℕ → ℕ → Trade → ℤ → ℤ
of p n t z = if_so (of_contract p n t) z

abbrev pub net : ℕ → ℕ → ℕ → List Trade → ℤ
net a p n ts = sum (λ t. of p n t (signed a t)) ts

abbrev pub buys : (Trade → ℕ) → ℕ → ℕ → List Trade → ℕ
buys f a p ts = total (λ t. share (eqb p t.deal.place && eqb a t.deal.buyer) (f t)) ts

abbrev pub sells : (Trade → ℕ) → ℕ → ℕ → List Trade → ℕ
sells f a p ts = total (λ t. share (eqb p t.deal.place && eqb a t.deal.seller) (f t)) ts

abbrev pub amount : Trade → ℕ
amount t = t.deal.quantity

abbrev pub worth : Trade → ℕ
worth t = t.deal.price * t.deal.quantity

pub record RowIs (w : Row) (lo lc so sc : ℕ) (n : ℤ) (b d bv dv : ℕ) : Type 0 where
  pub long : w.long + lc ≡ lo
  pub short : w.short + sc ≡ so
  pub net : w.net ≡ n
  pub bought : w.bought ≡ b
  pub sold : w.sold ≡ d
  pub cost : w.cost ≡ bv
  pub proceeds : w.proceeds ≡ dv
  pub path : w.net +ℤ pos (w.bought + w.short) ≡ pos (w.long + w.sold)

-- The contract that stands, as the history tells it.
abbrev pub ratio_told : History → ℕ → ℕ
ratio_told [] p = 0
ratio_told (c ∷ h) p =
    on_reweighs
    (on_lists (ratio_told h p) (λ l. cond (eqb p l.place) l.ratio (ratio_told h p)) c)
    (λ q x. cond (eqb p q) x (ratio_told h p))
    c

abbrev pub told_from : ℕ → ℕ → ℕ → ℕ → Option ℕ → Option ℕ → Option ℕ → Option Listed → Option Contract
told_from previous ratio quantity value b k price None = None
told_from previous ratio quantity value b k price (Some x) = Some (record {
  number = x.listing.number;
  base = x.listing.base;
  previous = previous;
  ratio = ratio;
  fee = x.listing.fee;
  delivery = x.listing.delivery;
  term = record { listed = x.day; last = x.listing.last };
  quantity = quantity;
  value = value;
  bid = b;
  ask = k;
  price = price;
})

abbrev pub told : History → ℕ → Option Listed → Option Contract
told h p o = told_from (previous_price h p) (ratio_told h p) (day_quantity h p) (day_value h p) (bid h p) (ask h p) (delivery_price h p) o

-- A day that has not begun.
pub record Clear (h : History) (p : ℕ) : Type 0 where
  pub quantity : day_quantity h p ≡ 0
  pub value : day_value h p ≡ 0
  pub bid : bid h p ≡ None
  pub ask : ask h p ≡ None
  pub price : delivery_price h p ≡ None

-- A trade, and one of the day that is not settled.
pub record Past (highest : ℕ) (t : Trade) : Type 0 where
  pub place : Among 12 t.deal.place
  pub buyer : Among 32 t.deal.buyer
  pub seller : Among 32 t.deal.seller
  pub number : 0 < t.number
  pub known : t.number ≤ highest

pub record Fresh (highest : ℕ) (number : ℕ → ℕ) (x : ℕ) (t : Trade) : Type 0 where
  pub past : Past highest t
  pub stands : t.number ≡ number t.deal.place
  pub rate : t.rate ≡ x

abbrev pub number_at : History → ℕ → ℕ
number_at h p = number_of (standing h p)

pub record Sized (s : State) : Type 0 where
  pub accounts : length s.accounts ≡ 32
  pub places : length s.places ≡ 12
  pub rows : length s.table.rows ≡ 384

abbrev pub RowTold : ℕ → History → ℕ → ℕ → Row → Type 0
RowTold start h a p w =
    RowIs w
    (teu (opens_long a) p (number_at h p) (all_trades start h)) (teu (closes_long a) p (number_at h p) (all_trades start h))
    (teu (opens_short a) p (number_at h p) (all_trades start h)) (teu (closes_short a) p (number_at h p) (all_trades start h))
    (net a p (number_at h p) (settled_trades start h))
    (buys amount a p (unsettled_trades start h)) (sells amount a p (unsettled_trades start h))
    (buys worth a p (unsettled_trades start h)) (sells worth a p (unsettled_trades start h))

-- What a row began the day with was marked at the previous price, or is nothing.
abbrev pub MarkTold : ℕ → History → ℕ → Row → Type 0
MarkTold start h p w = w.net *ℤ pos (last_mark h p (number_at h p)) ≡ w.net *ℤ pos (previous_price h p * trade_rate start h)

pub record Matches (start : ℕ) (s : State) (h : History) : Type 0 where
  pub sized : Sized s
  pub equity : (a : ℕ) → Among 32 a → equity (account_of s a) ≡ tally_equity start h a
  pub rate : s.rate ≡ trade_rate start h
  pub closing : s.closing ≡ settlement_rate h
  pub today : s.day ≡ day_number h
  pub rows : (a p : ℕ) → Among 32 a → Among 12 p → RowTold start h a p (row_of s a p)
  pub places : (p : ℕ) → Among 12 p → place_of s p ≡ told h p (standing h p)
  pub clear : is_resting s.stage ≡ true → (p : ℕ) → Clear h p
  pub past : Each (Past s.highest) (settled_trades start h)
  pub fresh : Each (Fresh s.highest (number_at h) (trade_rate start h)) (unsettled_trades start h)
  pub known : (p : ℕ) → number_at h p ≤ s.highest
  pub named : (p : ℕ) (x : Listed) → standing h p ≡ Some x → 0 < x.listing.number
  pub marked : (a p : ℕ) → Among 32 a → Among 12 p → MarkTold start h p (row_of s a p)
