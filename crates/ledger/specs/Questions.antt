-- What a ledger answers without changing (docs/RULES.md, "The book", "Settling").
use Rattle.std.specs.Prelude.{ℕ, suc, ◌-◌, cond, ◌&&◌, ℤ, pos, negsuc, Some, None, Ok, Err, Option, Result}
use Rattle.refusal.specs.declared.Refusal.{Refusal}
use Rattle.refusal.specs.declared.Refusal.TheVariants.{OutOfRange, PlaceState}
use Rattle.rules.specs.declared.limits.Limits.{Limits}
use Rattle.ledger.specs.declared.state.Account.{Account}
use Rattle.ledger.specs.declared.state.Contract.{Contract}
use Rattle.ledger.specs.declared.state.Funds.{Funds}
use Rattle.ledger.specs.declared.state.Row.{Row}
use Rattle.ledger.specs.declared.state.State.{State}
use Rattle.ledger.specs.Places.{account_at, place_at, equity, known_account, known_place, limits_of}
use Rattle.ledger.specs.Rows.{row_at}

-- The cash call is the amount by which available is below zero.
abbrev pub call_of : ℤ → ℕ
call_of (pos n) = 0
call_of (negsuc n) = suc n

abbrev pub funds_of : Account → Funds
funds_of x = record { available = x.available; margin = x.margin; equity = equity x; call = call_of x.available }

abbrev pub funds_at : State → ℕ → Result Funds Refusal
funds_at s account = cond (known_account account) (Ok (funds_of (account_at s (account - 1)))) (Err OutOfRange)

abbrev pub contract_at : State → ℕ → Result (Option Contract) Refusal
contract_at s place = cond (known_place place) (Ok (place_at s (place - 1))) (Err OutOfRange)

abbrev pub limits_in : ℕ → Option Contract → Result Limits Refusal
limits_in day None = Err PlaceState
limits_in day (Some c) = Ok (limits_of day c)

-- The limits of the contract at a place, on the ledger's day.
abbrev pub limits_at : State → ℕ → Result Limits Refusal
limits_at s place = cond (known_place place) (limits_in s.day (place_at s (place - 1))) (Err OutOfRange)

abbrev pub position_at : State → ℕ → ℕ → Result Row Refusal
position_at s account place = cond (known_account account && known_place place) (Ok (row_at s.table (account - 1) (place - 1))) (Err OutOfRange)
