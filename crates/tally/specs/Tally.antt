-- The tally: what the accepted deeds alone come to (docs/RULES.md, "The tally"). A history has the newest deed first;
-- accounts and places are counted from 1, as deeds bring them.
use Rattle.std.specs.Prelude.{ℕ, ◌+◌, ◌-◌, ◌*◌, Bool, true, false, cond, not, ◌&&◌, List, [], ◌∷◌, ◌++◌, ℤ, pos, ◌+ℤ◌, ◌-ℤ◌, Some, None, Option, ◌==◌}
use Rattle.std.specs.Option.{unwrap_or}
use Rattle.rules.specs.declared.figures.Figures.{Figures}
use Rattle.rules.specs.declared.limits.Limits.{Limits}
use Rattle.rules.specs.Limits.{limits_on}
use Rattle.rules.specs.Units.{fen_units}
use Rattle.ledger.specs.declared.state.Deal.{Deal}
use Rattle.ledger.specs.declared.state.Effect.{Effect}
use Rattle.ledger.specs.declared.state.Effect.TheVariants.{Opens, Closes}
use Rattle.ledger.specs.declared.state.Listing.{Listing}
use Rattle.ledger.specs.Quotes.{quote_of}
use Rattle.ledger.specs.Sums.{sum_to}
use Rattle.tally.specs.Cases.{on_lists, on_opens, on_pays_in, on_pays_out, on_quotes, on_trades, on_delivers, on_closes, on_settles}
use Rattle.tally.specs.Deeds.{Deed, PriceRule}

abbrev pub History : Type 0
History = List Deed

abbrev pub if_so : Bool → ℤ → ℤ
if_so b z = cond b z (pos 0)

abbrev pub share : Bool → ℕ → ℕ
share b n = cond b n 0

-- Cash, in units.
abbrev pub cash_in : History → ℕ → ℕ
cash_in [] a = 0
cash_in (c ∷ h) a = on_pays_in (cash_in h a) (λ b fen. cash_in h a + share (a == b) (fen_units * fen)) c

abbrev pub cash_out : History → ℕ → ℕ
cash_out [] a = 0
cash_out (c ∷ h) a = on_pays_out (cash_out h a) (λ b fen. cash_out h a + share (a == b) (fen_units * fen)) c

abbrev pub all_cash_in : History → ℕ
all_cash_in [] = 0
all_cash_in (c ∷ h) = on_pays_in (all_cash_in h) (λ b fen. all_cash_in h + fen_units * fen) c

abbrev pub all_cash_out : History → ℕ
all_cash_out [] = 0
all_cash_out (c ∷ h) = on_pays_out (all_cash_out h) (λ b fen. all_cash_out h + fen_units * fen) c

-- Days and rates: the trade rate is that of the last settlement, or the starting one.
abbrev pub day_number : History → ℕ
day_number [] = 0
day_number (c ∷ h) = on_opens (day_number h) (day_number h + 1) c

abbrev pub settlement_rate : History → ℕ
settlement_rate [] = 0
settlement_rate (c ∷ h) = on_closes (settlement_rate h) (λ rate. rate) c

abbrev pub trade_rate : ℕ → History → ℕ
trade_rate start [] = start
trade_rate start (c ∷ h) = on_settles (trade_rate start h) (λ price margin. settlement_rate h) c

-- A contract is one listing, with the day number of its listing.
pub record Listed : Type 0 where
  pub listing : Listing
  pub day : ℕ

abbrev pub unless_last : ℕ → Option Listed → Option Listed
unless_last day None = None
unless_last day (Some x) = cond (x.listing.last == day) None (Some x)

-- The contract that stands at a place: the newest listing there, until its last day is settled.
abbrev pub standing : History → ℕ → Option Listed
standing [] p = None
standing (c ∷ h) p =
    on_settles
    (on_lists (standing h p) (λ l. cond (p == l.place) (Some (record { listing = l; day = day_number h })) (standing h p)) c)
    (λ price margin. unless_last (day_number h) (standing h p))
    c

abbrev pub number_of : Option Listed → ℕ
number_of None = 0
number_of (Some x) = x.listing.number

abbrev pub fee_per_teu : Option Listed → ℕ
fee_per_teu None = 0
fee_per_teu (Some x) = x.listing.fee

abbrev pub delivery_per_teu : Option Listed → ℕ
delivery_per_teu None = 0
delivery_per_teu (Some x) = x.listing.delivery

abbrev pub on_last_day : ℕ → Option Listed → Bool
on_last_day day None = false
on_last_day day (Some x) = x.listing.last == day

-- What was accepted of the day that is not settled yet: quantity, value, newest quotes, newest delivery price.
abbrev pub day_quantity : History → ℕ → ℕ
day_quantity [] p = 0
day_quantity (c ∷ h) p =
    on_settles (on_trades (day_quantity h p) (λ rule d. day_quantity h p + share (p == d.place) d.quantity) c) (λ price margin. 0) c

abbrev pub day_value : History → ℕ → ℕ
day_value [] p = 0
day_value (c ∷ h) p =
    on_settles (on_trades (day_value h p) (λ rule d. day_value h p + share (p == d.place) (d.price * d.quantity)) c) (λ price margin. 0) c

abbrev pub bid : History → ℕ → Option ℕ
bid [] p = None
bid (c ∷ h) p =
    on_settles (on_quotes (bid h p) (λ q b k. cond (p == q) (quote_of b) (bid h p)) c) (λ price margin. None) c

abbrev pub ask : History → ℕ → Option ℕ
ask [] p = None
ask (c ∷ h) p =
    on_settles (on_quotes (ask h p) (λ q b k. cond (p == q) (quote_of k) (ask h p)) c) (λ price margin. None) c

abbrev pub delivery_price : History → ℕ → Option ℕ
delivery_price [] p = None
delivery_price (c ∷ h) p =
    on_settles (on_delivers (delivery_price h p) (λ q x. cond (p == q) (Some x) (delivery_price h p)) c) (λ price margin. None) c

abbrev pub limits_told : ℕ → Option Listed → ℕ → Limits
limits_told day None previous = record { lower = 0; upper = 0 }
limits_told day (Some x) previous =
    limits_on day (record { listed = x.day; last = x.listing.last }) x.listing.base previous

-- The figures of a contract's day, over its previous price.
abbrev pub figures_told : History → ℕ → ℕ → Figures
figures_told h p previous = record {
  previous = previous;
  limits = limits_told (day_number h) (standing h p) previous;
  quantity = day_quantity h p;
  value = day_value h p;
  bid = bid h p;
  ask = ask h p;
}

-- The price that a settling gives: the delivery price on the last day, else the rule's answer from the figures.
abbrev pub price_over : PriceRule → History → ℕ → ℕ → ℕ
price_over rule h p previous =
    cond (on_last_day (day_number h) (standing h p)) (unwrap_or (delivery_price h p) 0) (rule.meaning (figures_told h p previous))

-- The price of the latest settling of what stands at a place, or its base price.
abbrev pub previous_price : History → ℕ → ℕ
previous_price [] p = 0
previous_price (c ∷ h) p =
    on_settles
    (on_lists (previous_price h p) (λ l. cond (p == l.place) l.base (previous_price h p)) c)
    (λ price margin. price_over price h p (previous_price h p))
    c

abbrev pub settlement_price : PriceRule → History → ℕ → ℕ
settlement_price rule h p = price_over rule h p (previous_price h p)

-- The mark that the latest settling gave the contract of this number, while it stood at this place.
abbrev pub last_mark : History → ℕ → ℕ → ℕ
last_mark [] p n = 0
last_mark (c ∷ h) p n =
    on_settles (last_mark h p n)
    (λ price margin. cond (n == number_of (standing h p)) (settlement_price price h p * settlement_rate h) (last_mark h p n))
    c

-- A trade, with the number of its contract and the trade rate of its day.
pub record Trade : Type 0 where
  pub deal : Deal
  pub number : ℕ
  pub rate : ℕ

abbrev pub traded : ℕ → History → Deal → Trade
traded start h d = record { deal = d; number = number_of (standing h d.place); rate = trade_rate start h }

abbrev pub unsettled_trades : ℕ → History → List Trade
unsettled_trades start [] = []
unsettled_trades start (c ∷ h) =
    on_settles (on_trades (unsettled_trades start h) (λ rule d. traded start h d ∷ unsettled_trades start h) c) (λ price margin. []) c

abbrev pub settled_trades : ℕ → History → List Trade
settled_trades start [] = []
settled_trades start (c ∷ h) =
    on_settles (settled_trades start h) (λ price margin. unsettled_trades start h ++ settled_trades start h) c

abbrev pub all_trades : ℕ → History → List Trade
all_trades start h = unsettled_trades start h ++ settled_trades start h

-- Long and short: TEU opened less TEU closed, of the contract that stands at a place.
abbrev pub opening : Effect → Bool
opening Opens = true
opening Closes = false

abbrev pub opens_long : ℕ → Deal → Bool
opens_long a d = a == d.buyer && opening d.bought

abbrev pub closes_long : ℕ → Deal → Bool
closes_long a d = a == d.seller && not (opening d.sold)

abbrev pub opens_short : ℕ → Deal → Bool
opens_short a d = a == d.seller && opening d.sold

abbrev pub closes_short : ℕ → Deal → Bool
closes_short a d = a == d.buyer && not (opening d.bought)

abbrev pub of_contract : ℕ → ℕ → Trade → Bool
of_contract p n t = p == t.deal.place && t.number == n

abbrev pub total : (Trade → ℕ) → List Trade → ℕ
total f [] = 0
total f (t ∷ ts) = total f ts + f t

abbrev pub teu : (Deal → Bool) → ℕ → ℕ → List Trade → ℕ
teu side p n ts = total (λ t. share (of_contract p n t && side t.deal) t.deal.quantity) ts

abbrev pub long : ℕ → History → ℕ → ℕ → ℕ
long start h a p =
    teu (opens_long a) p (number_of (standing h p)) (all_trades start h) - teu (closes_long a) p (number_of (standing h p)) (all_trades start h)

abbrev pub short : ℕ → History → ℕ → ℕ → ℕ
short start h a p =
    teu (opens_short a) p (number_of (standing h p)) (all_trades start h) - teu (closes_short a) p (number_of (standing h p)) (all_trades start h)

-- Fees, in units: each side pays one for a trade, and delivers what it holds on the last day.
abbrev pub trade_fee : History → Deal → ℕ
trade_fee h d = fen_units * fee_per_teu (standing h d.place) * d.quantity

abbrev pub delivery_fee : ℕ → History → ℕ → ℕ → ℕ
delivery_fee start h a p =
    share (on_last_day (day_number h) (standing h p)) (fen_units * delivery_per_teu (standing h p) * (long start h a p + short start h a p))

abbrev pub fees : ℕ → History → ℕ → ℕ
fees start [] a = 0
fees start (c ∷ h) a =
    on_settles
    (on_trades (fees start h a) (λ rule d. fees start h a + (share (a == d.buyer) (trade_fee h d) + share (a == d.seller) (trade_fee h d))) c)
    (λ price margin. fees start h a + sum_to (λ p. delivery_fee start h a (p + 1)) 12)
    c

-- What a trade comes to at its contract's last mark, for its buyer and reversed for its seller.
abbrev pub gain : History → Trade → ℤ
gain h t = pos (t.deal.quantity * last_mark h t.deal.place t.number) -ℤ pos (t.deal.price * t.rate * t.deal.quantity)

abbrev pub gained : History → ℕ → Trade → ℤ
gained h a t = if_so (a == t.deal.buyer) (gain h t) -ℤ if_so (a == t.deal.seller) (gain h t)

abbrev pub sum : (Trade → ℤ) → List Trade → ℤ
sum f [] = pos 0
sum f (t ∷ ts) = sum f ts +ℤ f t

abbrev pub tally_equity : ℕ → History → ℕ → ℤ
tally_equity start h a =
    pos (cash_in h a) -ℤ pos (cash_out h a) -ℤ pos (fees start h a) +ℤ sum (gained h a) (settled_trades start h)

-- A settling was the last accepted deed.
abbrev pub just_settled : History → Bool
just_settled [] = false
just_settled (c ∷ h) = on_settles false (λ price margin. true) c
