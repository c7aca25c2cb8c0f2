-- What the calls write into the archive, and what the desk then knows of it (docs/ARCHIVE.md, "Writing").
use Rattle.std.specs.Prelude.{ℕ, ◌+◌, ◌-◌, List, [], ◌∷◌, map, ℤ, pos, neg_ℤ, None, slice_index, slice_index_or, slice_set}
use Rattle.std.specs.List.{range_with_len}
use Rattle.archive.specs.declared.entry.Entry.{Entry}
use Rattle.archive.specs.declared.entry.Kind.{Kind}
use Rattle.archive.specs.declared.entry.Kind.TheVariants.{TradeFee, Settlement}
use Rattle.archive.specs.Written.{appended}
use Rattle.ledger.specs.declared.state.Account.{Account}
use Rattle.ledger.specs.declared.state.Deal.{Deal}
use Rattle.ledger.specs.declared.state.State.{State}
use Rattle.ledger.specs.Places.{account_at, no_account}
use Rattle.book.specs.declared.desk.Desk.{Desk}
use Rattle.book.specs.declared.entries.Movement.{Movement}

-- A movement of an account, with what it then has.
abbrev pub movement : ℕ → ℕ → Kind → ℤ → Account → Movement
movement day account kind change x = record { account = account; day = day; kind = kind; change = change; available = x.available; margin = x.margin }

-- The same, read off the ledger as it is after the call.
abbrev pub moved : State → ℕ → Kind → ℤ → Movement
moved s account kind change = movement s.day account kind change (account_at s (account - 1))

-- Its entry: next is the slot of the account's latest one.
abbrev pub entry_for : Desk → Movement → Entry
entry_for d m = record {
  next = slice_index d.tips (m.account - 1);
  day = m.day;
  kind = m.kind;
  account = m.account;
  change = m.change;
  available = m.available;
  margin = m.margin;
}

abbrev pub entered_desk : Desk → Movement → Desk
entered_desk d m = record {
  founded = d.founded;
  number = d.number;
  slots = d.slots;
  used = d.used + 1;
  laid = d.laid;
  tips = slice_set d.tips (m.account - 1) (d.used + 1);
  settled = d.settled;
}

abbrev pub entered_bytes : Desk → List ℕ → Movement → List ℕ
entered_bytes d xs m = appended None xs d.used (entry_for d m)

-- One after another.
abbrev pub desk_with : Desk → List Movement → Desk
desk_with d [] = d
desk_with d (m ∷ ms) = desk_with (entered_desk d m) ms

abbrev pub bytes_with : Desk → List ℕ → List Movement → List ℕ
bytes_with d xs [] = xs
bytes_with d xs (m ∷ ms) = bytes_with (entered_desk d m) (entered_bytes d xs m) ms

-- A trade writes each side's fee, the buyer's first.
abbrev pub fee_moves : State → Deal → ℕ → List Movement
fee_moves s deal fee = moved s deal.buyer TradeFee (neg_ℤ (pos fee)) ∷ moved s deal.seller TradeFee (neg_ℤ (pos fee)) ∷ []

-- A settling writes one for each account, account 1 first: those of n accounts, i being counted from 0.
unfoldable pub settlement_from : ℕ → List Account → List ℤ → ℕ → ℕ → List Movement
settlement_from day accounts changes i n =
    map (λ a. movement day (a + 1) Settlement (slice_index_or changes a (pos 0)) (slice_index_or accounts a no_account)) (range_with_len i n)

abbrev pub settlement_moves : ℕ → List Account → List ℤ → List Movement
settlement_moves day accounts changes = settlement_from day accounts changes 0 32
