-- The law of every book, over every way to use it (docs/PROMISES.md, "The law").
use Rattle.std.specs.Prelude.{◌≡◌, ℕ, zero, suc, ◌-◌, ◌*◌, ◌≤◌, true, false, cond, List, [], ◌∷◌, length, ℤ, pos, ◌+ℤ◌, ◌-ℤ◌, Some, None, Ok, Err, Option, Result}
use Rattle.refusal.specs.declared.Refusal.{Refusal}
use Rattle.archive.specs.declared.entry.Entry.{Entry}
use Rattle.archive.specs.declared.entry.Link.{Link}
use Rattle.archive.specs.Chain.{chain_of, reading}
use Rattle.archive.specs.Gathered.{changes}
use Rattle.ledger.specs.declared.state.Contract.{Contract}
use Rattle.ledger.specs.declared.state.Funds.{Funds}
use Rattle.ledger.specs.declared.state.State.{State}
use Rattle.ledger.specs.Places.{account_at, place_at, equity, is_resting, known_account, known_place, limits_of}
use Rattle.ledger.specs.Rows.{row_at}
use Rattle.ledger.specs.Sums.{sum_to, total_to}
use Rattle.tally.specs.Agreement.{equity_told}
use Rattle.tally.specs.Tally.{History, tally_equity, all_cash_in, all_cash_out, just_settled, long, short}
use Rattle.book.specs.declared.desk.Desk.{Desk}
use Rattle.book.specs.declared.entries.Movement.{Movement}
use Rattle.book.specs.declared.permit.ClosingPermit.{ClosingPermit}
use Rattle.book.specs.Closing.{settle_refusal}
use Rattle.law.specs.Entries.{said_by, chain_said}
use Rattle.law.specs.Ways.{Call, Held, refused, after, way, deeds, founding_rate, entries, in_hand}

-- What the archive's reader finds; the chains of an idle book count as empty.
abbrev pub chain_read : Held → ℕ → Result (List Link) Refusal
chain_read h a = cond h.desk.founded (chain_of h.bytes a) (Ok [])

abbrev pub entry_read : Held → ℕ → ℕ → Result (Option Entry) Refusal
entry_read h a k = cond h.desk.founded (reading h.bytes a k) (Ok None)

abbrev pub entry_said : Result (Option Entry) Refusal → Result (Option Movement) Refusal
entry_said (Ok None) = Ok None
entry_said (Ok (Some e)) = Ok (Some (said_by e))
entry_said (Err w) = Err w

-- The k-th of a list, counted from 1.
abbrev pub kth_of : List Movement → ℕ → Option Movement
kth_of [] k = None
kth_of (m ∷ ms) zero = None
kth_of (m ∷ ms) (suc zero) = Some m
kth_of (m ∷ ms) (suc (suc k)) = kth_of ms (suc k)

-- The changes along a chain, summed.
abbrev pub change_along : Result (List Link) Refusal → Result ℤ Refusal
change_along (Ok ls) = Ok (changes ls)
change_along (Err w) = Err w

-- A book and its archive h, which the calls of a way led to, and the accepted deeds since the founding at a rate.
pub record Balanced (bytes : List ℕ) (calls : List Call) (h : Held) (start : ℕ) (told : History) : Type 0 where
  -- each account's equity is its cash in, less cash out and fees, plus the gains of its trades of settled days
  pub each : (a : ℕ) → known_account a ≡ true → equity (account_at h.state (a - 1)) ≡ tally_equity start told a
  -- all equities and the book's own fees are all cash in less all cash out
  pub all : total_to (λ a. equity (account_at h.state a)) 32 +ℤ pos h.state.fees ≡ pos (all_cash_in told) -ℤ pos (all_cash_out told)
  -- the changes along an account's chain, as the reader reads it from the bytes, sum to its equity
  pub sums : (a : ℕ) → known_account a ≡ true → change_along (chain_read h a) ≡ Ok (equity (account_at h.state (a - 1)))
  -- the chain is exactly the entries that the accepted calls defined for the account, newest first, at every k
  pub chains : (a : ℕ) → known_account a ≡ true → chain_said (chain_read h a) ≡ Ok (entries bytes calls a)
  pub reads : (a : ℕ) → known_account a ≡ true → (k : ℕ) → entry_said (entry_read h a k) ≡ Ok (kth_of (entries bytes calls a) k)
  -- a closing permit that is out, brought to its book and archive, is settled
  pub settles : (p : ClosingPermit) → in_hand bytes calls ≡ Some p → settle_refusal h.desk h.state (length h.bytes) p ≡ None
  -- once settled, an account without an open contract has no margin
  pub idle : just_settled told ≡ true → (a : ℕ) → known_account a ≡ true
      → ((p : ℕ) → known_place p ≡ true → (long start told a p ≡ 0) × (short start told a p ≡ 0)) → (account_at h.state (a - 1)).margin ≡ 0
  -- in every contract the longs of all accounts are their shorts
  pub even : (p : ℕ) → known_place p ≡ true
      → sum_to (λ a. (row_at h.state.table a (p - 1)).long) 32 ≡ sum_to (λ a. (row_at h.state.table a (p - 1)).short) 32
  -- from day to settle, a contract's traded value lies within its limits × quantity
  pub within : is_resting h.state.stage ≡ false → (p : ℕ) → known_place p ≡ true → (c : Contract) → place_at h.state (p - 1) ≡ Some c
      → ((limits_of h.state.day c).lower * c.quantity ≤ c.value) × (c.value ≤ (limits_of h.state.day c).upper * c.quantity)
  -- whatever is tried next, a refusal changes neither the book nor a byte of the archive
  pub refusals : (c : Call) (w : Refusal) → refused h c ≡ Some w → after h c ≡ h

-- For memory that holds any bytes and every list of tries, accepted or refused.
abbrev pub BooksBalance : Type 0
BooksBalance =
    (bytes : List ℕ) (calls : List Call) → Balanced bytes calls (way bytes calls) (founding_rate bytes calls) (deeds bytes calls)

-- The equity in an answer about an account's funds, and as a history tells it.
abbrev pub equity_in : Result Funds Refusal → Result ℤ Refusal
equity_in (Ok funds) = Ok funds.equity
equity_in (Err w) = Err w

-- An answer about a book whose equity is the tally of every way that leads to the book, and the sum along the account's
-- chain in the archive of that way.
pub record Told (d : Desk) (s : State) (account : ℕ) (r : Result Funds Refusal) : Type 0 where
  pub tallied : (bytes : List ℕ) (calls : List Call) → (way bytes calls).desk ≡ d → (way bytes calls).state ≡ s
      → equity_in r ≡ equity_told (founding_rate bytes calls) (deeds bytes calls) account
  pub chained : (bytes : List ℕ) (calls : List Call) → (way bytes calls).desk ≡ d → (way bytes calls).state ≡ s
      → known_account account ≡ true → equity_in r ≡ change_along (chain_read (way bytes calls) account)
