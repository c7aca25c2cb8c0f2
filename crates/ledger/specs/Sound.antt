-- What holds of every ledger, so that no amount ever leaves its range and every contract balances. Each part is a
-- product of plain facts, since it stands as an invariant in the type of a ledger.
use Rattle.std.specs.Prelude.{◌≡◌, ℕ, ◌+◌, ◌-◌, ◌*◌, ◌%◌, ◌<◌, ◌≤◌, Bool, true, false, not, ◌&&◌, ◌||◌, pos, ◌+ℤ◌, neg_ℤ, ◌≤ℤ◌, is_some, Some, None, Option, ◌==◌, nat_eq, nat_le, nat_lt, slice_index_or}
use Rattle.rules.specs.declared.limits.Limits.{Limits}
use Rattle.rules.specs.Units.{max_side, max_day, max_days, min_rate, max_rate, min_price, max_price, max_ratio, max_fee, max_paid_in, day_pay_outs}
use Rattle.ledger.specs.declared.state.Account.{Account}
use Rattle.ledger.specs.declared.state.Contract.{Contract}
use Rattle.ledger.specs.declared.state.Row.{Row}
use Rattle.ledger.specs.declared.state.Stage.TheVariants.{Resting, Open, Closed}
use Rattle.ledger.specs.declared.state.State.{State}
use Rattle.ledger.specs.declared.state.Table.{Table}
use Rattle.ledger.specs.Places.{account_at, place_at, equity, limits_of, is_resting, is_closed}
use Rattle.ledger.specs.Rows.{blank, row_at, day_total}
use Rattle.ledger.specs.Sums.{sum_to}

-- Days that have been settled.
abbrev pub settled_days : State → ℕ
settled_days s = elim s.stage [ Resting ↦ s.day | Open ↦ s.day - 1 | Closed ↦ s.day - 1 ]

-- TEU bought and sold in the day, over all rows: what the day's fees hang on.
abbrev pub turnover : Table → ℕ
turnover t = sum_to (λ k. day_total (slice_index_or t.rows k blank)) 384

-- What the day's fees can have taken from one account, in units.
abbrev pub taken : State → ℕ
taken s = elim s.stage [ Resting ↦ 0 | Open ↦ 1000000 * turnover s.table | Closed ↦ 1000000 * turnover s.table ]

-- The most that a day's results and fees change an equity by, and the most margin that twelve rows hold after a
-- settling, in units.
abbrev pub day_most : ℕ
day_most = 1840000000000000

abbrev pub held_most : ℕ
held_most = 1200000000001188

-- Ranges of a row's position and of its day.
abbrev pub Ceilings : Row → Type 0
Ceilings r = (r.long ≤ max_side) × (r.short ≤ max_side) × (day_total r ≤ max_day) × (r.cost ≤ 9999 * r.bought) × (r.proceeds ≤ 9999 * r.sold)

-- The day's trades lead from the position at its start to the position now.
abbrev pub PathOf : Row → Type 0
PathOf r = (neg_ℤ (pos max_side) ≤ℤ r.net) × (r.net ≤ℤ pos max_side) × (r.net +ℤ pos (r.short + r.bought) ≡ pos (r.long + r.sold))

-- An account after so many settled days, and with what the day's fees have taken.
abbrev pub Bounded : ℕ → ℕ → Account → Type 0
Bounded days fees x =
    (neg_ℤ (pos (day_most * days + fees)) ≤ℤ equity x)
    × (equity x ≤ℤ pos (100 * x.paid + day_most * days))
    × (neg_ℤ (pos (day_most * days + held_most + fees)) ≤ℤ x.available)
    × (x.margin ≤ 100 * x.paid + day_most * days + held_most)

abbrev pub Counted : Account → Type 0
Counted x = (x.paid ≤ max_paid_in) × (x.payouts ≤ day_pay_outs)

-- The terms of a contract that stands after so many settled days; never settled, it still has its base price as
-- previous price.
abbrev pub terms_hold : ℕ → Contract → Bool
terms_hold days c =
    nat_le min_price c.base && (nat_le c.base max_price && (nat_le min_price c.previous && (nat_le c.previous max_price
    && (nat_le 1 c.number && (nat_le c.number 65535 && (nat_le c.ratio max_ratio && (nat_le c.fee max_fee && (nat_le c.delivery max_fee
    && (nat_le c.term.listed days && (nat_lt days c.term.last && (nat_le c.term.last max_days && (not (c.term.listed == days) || c.previous == c.base))))))))))))

abbrev pub quote_holds : Limits → Option ℕ → Bool
quote_holds limits None = true
quote_holds limits (Some q) = nat_le limits.lower q && nat_le q limits.upper

-- The figures of a day between its opening and its settling lie within the limits.
abbrev pub day_holds : ℕ → Contract → Bool
day_holds day c =
    nat_le ((limits_of day c).lower * c.quantity) c.value && (nat_le c.value ((limits_of day c).upper * c.quantity)
    && (quote_holds (limits_of day c) c.bid && (quote_holds (limits_of day c) c.ask
    && quote_holds (record { lower = min_price; upper = max_price }) c.price)))

-- A contract on its last day has its delivery price.
abbrev pub delivery_holds : ℕ → Contract → Bool
delivery_holds day c = not (c.term.last == day) || is_some c.price

-- A test of every standing contract.
abbrev pub standing : (Contract → Bool) → Option Contract → Bool
standing test None = true
standing test (Some c) = test c

-- An empty place has empty rows.
abbrev pub vacant_holds : Option Contract → Row → Bool
vacant_holds (Some c) r = true
vacant_holds None r = r.long == 0 && (r.short == 0 && (r.bought == 0 && r.sold == 0))

abbrev pub RowsIn : State → Type 0
RowsIn s = (k : ℕ) → k < 384 → Ceilings (slice_index_or s.table.rows k blank)

abbrev pub PathsIn : State → Type 0
PathsIn s = (k : ℕ) → k < 384 → PathOf (slice_index_or s.table.rows k blank)

abbrev pub AccountsIn : State → Type 0
AccountsIn s = (a : ℕ) → a < 32 → Bounded (settled_days s) (taken s) (account_at s a)

abbrev pub CountsIn : State → Type 0
CountsIn s = (a : ℕ) → a < 32 → Counted (account_at s a)

-- Longs and shorts balance in every place, and a contract's day's quantity is what was bought.
abbrev pub BalanceIn : State → Type 0
BalanceIn s = (p : ℕ) → p < 12 → sum_to (λ a. (row_at s.table a p).long) 32 ≡ sum_to (λ a. (row_at s.table a p).short) 32

abbrev pub TradedIn : State → Type 0
TradedIn s = (p : ℕ) → p < 12 → standing (λ c. nat_eq c.quantity (sum_to (λ a. (row_at s.table a p).bought) 32)) (place_at s p) ≡ true

abbrev pub VacantIn : State → Type 0
VacantIn s = (k : ℕ) → k < 384 → vacant_holds (place_at s (k % 12)) (slice_index_or s.table.rows k blank) ≡ true

abbrev pub TermsIn : State → Type 0
TermsIn s = (p : ℕ) → p < 12 → standing (terms_hold (settled_days s)) (place_at s p) ≡ true

abbrev pub DaysIn : State → Type 0
DaysIn s = is_resting s.stage ≡ false → (p : ℕ) → p < 12 → standing (day_holds s.day) (place_at s p) ≡ true

abbrev pub DeliveriesIn : State → Type 0
DeliveriesIn s = is_closed s.stage ≡ true → (p : ℕ) → p < 12 → standing (delivery_holds s.day) (place_at s p) ≡ true

abbrev pub RangesIn : State → Type 0
RangesIn s = (s.day ≤ max_days) × (min_rate ≤ s.rate) × (s.rate ≤ max_rate) × (s.closing ≤ max_rate) × (s.highest ≤ 65535)

abbrev pub FeesIn : State → Type 0
FeesIn s = (s.fees ≤ 100000000000000 * settled_days s + taken s) × (is_resting s.stage ≡ false → 1 ≤ s.day) × (is_closed s.stage ≡ true → min_rate ≤ s.closing)

pub record Sound (s : State) : Type 0 where
  pub ranges : RangesIn s
  pub fees : FeesIn s
  pub rows : RowsIn s
  pub paths : PathsIn s
  pub terms : TermsIn s
  pub days : DaysIn s
  pub deliveries : DeliveriesIn s
  pub balance : BalanceIn s
  pub traded : TradedIn s
  pub vacant : VacantIn s
  pub accounts : AccountsIn s
  pub counts : CountsIn s
