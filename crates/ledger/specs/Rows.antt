-- Rows: what a trade asks of one and does to it, and what it comes to at a settling (docs/RULES.md, "Trades").
use Rattle.std.specs.Prelude.{◌≡◌, ℕ, ◌+◌, ◌-◌, ◌*◌, ◌≤◌, Bool, false, ℤ, pos, ◌+ℤ◌, ◌-ℤ◌, ◌*ℤ◌, neg_ℤ, ◌≤ℤ◌, nat_lt, slice_index_or, slice_set}
use Rattle.rules.specs.Units.{max_side, max_day}
use Rattle.ledger.specs.declared.state.Effect.{Effect}
use Rattle.ledger.specs.declared.state.Effect.TheVariants.{Opens, Closes}
use Rattle.ledger.specs.declared.state.Part.{Part}
use Rattle.ledger.specs.declared.state.Part.TheVariants.{Buyer, Seller}
use Rattle.ledger.specs.declared.state.Row.{Row}
use Rattle.ledger.specs.declared.state.Table.{Table}

abbrev pub blank : Row
blank = record { long = 0; short = 0; net = pos 0; bought = 0; sold = 0; cost = 0; proceeds = 0 }

-- Accounts and places are counted from 0 here.
abbrev pub row_at : Table → ℕ → ℕ → Row
row_at t a p = slice_index_or t.rows (a * 12 + p) blank

abbrev pub set_row : Table → ℕ → ℕ → Row → Table
set_row t a p r = record { rows = slice_set t.rows (a * 12 + p) r }

-- A closing side holds less than it closes.
abbrev pub lacking : Row → Part → Effect → ℕ → Bool
lacking r Buyer Closes q = nat_lt r.short q
lacking r Seller Closes q = nat_lt r.long q
lacking r Buyer Opens q = false
lacking r Seller Opens q = false

-- An opening side would hold more than its ceiling.
abbrev pub overfilled : Row → Part → Effect → ℕ → Bool
overfilled r Buyer Opens q = nat_lt max_side (r.long + q)
overfilled r Seller Opens q = nat_lt max_side (r.short + q)
overfilled r Buyer Closes q = false
overfilled r Seller Closes q = false

abbrev pub day_total : Row → ℕ
day_total r = r.bought + r.sold

abbrev pub overtraded : Row → ℕ → Bool
overtraded r q = nat_lt max_day (day_total r + q)

-- One row after its side of a trade: the position, and the day's sums.
abbrev pub row_after : Row → Part → Effect → ℕ → ℕ → Row
row_after r Buyer Opens price q = record { long = r.long + q; short = r.short; net = r.net; bought = r.bought + q; sold = r.sold; cost = r.cost + price * q; proceeds = r.proceeds }
row_after r Buyer Closes price q = record { long = r.long; short = r.short - q; net = r.net; bought = r.bought + q; sold = r.sold; cost = r.cost + price * q; proceeds = r.proceeds }
row_after r Seller Opens price q = record { long = r.long; short = r.short + q; net = r.net; bought = r.bought; sold = r.sold + q; cost = r.cost; proceeds = r.proceeds + price * q }
row_after r Seller Closes price q = record { long = r.long - q; short = r.short; net = r.net; bought = r.bought; sold = r.sold + q; cost = r.cost; proceeds = r.proceeds + price * q }

-- The row at the start of a day.
abbrev pub opened_row : Row → Row
opened_row r = record { long = r.long; short = r.short; net = pos r.long -ℤ pos r.short; bought = 0; sold = 0; cost = 0; proceeds = 0 }

-- The result at a settling: N × (mark − old) + bought × mark − cost × rate − sold × mark + proceeds × rate.
abbrev pub result_of : Row → ℕ → ℕ → ℕ → ℤ
result_of r mark old rate =
    (r.net *ℤ (pos mark -ℤ pos old)) +ℤ (pos (r.bought * mark + r.proceeds * rate) -ℤ pos (r.cost * rate + r.sold * mark))

-- The ceilings of a row, and that the day's trades lead from its start to its position.
pub record Small (r : Row) : Type 0 where
  pub long : r.long ≤ max_side
  pub short : r.short ≤ max_side
  pub total : day_total r ≤ max_day
  pub cost : r.cost ≤ 9999 * r.bought
  pub proceeds : r.proceeds ≤ 9999 * r.sold
  pub low : neg_ℤ (pos max_side) ≤ℤ r.net
  pub high : r.net ≤ℤ pos max_side
  pub path : r.net +ℤ pos (r.short + r.bought) ≡ pos (r.long + r.sold)
