-- What beginning an archive and appending to it leave in its bytes, and what that does to the chains
-- (docs/ARCHIVE.md, "Writing").
use Rattle.std.specs.Prelude.{◌≡◌, ℕ, ◌+◌, ◌*◌, ◌/◌, true, not, List, [], ◌∷◌, Some, None, Ok, Option, ◌==◌, ◌≢◌, nat_le}
use Rattle.refusal.specs.declared.Refusal.{Refusal}
use Rattle.refusal.specs.declared.Refusal.TheVariants.{ArchiveLength, OutOfRange, NoRoom}
use Rattle.refusal.specs.Reasons.{first}
use Rattle.archive.specs.declared.entry.Entry.{Entry}
use Rattle.archive.specs.Layout.{allowed, be4, encoded, slot_at, slot_of, entry_of, header, used_in, patched}
use Rattle.archive.specs.Chain.{before, link, headed, known_account, newest, chain_of}

-- The bytes' number and the book's.
abbrev pub begin_refusal : ℕ → ℕ → Option Refusal
begin_refusal n book = first ((not (allowed n), ArchiveLength) ∷ ((book == 0), OutOfRange) ∷ [])

-- Slot 0 of a new book; a refusal leaves every byte alone.
abbrev pub begun : Option Refusal → List ℕ → ℕ → List ℕ
begun None xs book = patched xs 0 32 (header 0 book)
begun (Some w) xs book = xs

-- The bytes' number and the entries used.
abbrev pub append_refusal : ℕ → ℕ → Option Refusal
append_refusal n used = first ((not (allowed n), ArchiveLength) ∷ (nat_le (n / 32) (used + 1), NoRoom) ∷ [])

-- The entry in the slot after the used ones, and the new count in slot 0.
abbrev pub appended : Option Refusal → List ℕ → ℕ → Entry → List ℕ
appended None xs used e = patched (patched xs (32 * (used + 1)) 32 (encoded (slot_of e))) 0 4 (be4 (used + 1))
appended (Some w) xs used e = xs

-- An archive without entries: it reads as one, and each of the 32 chains is empty.
pub record Empty (xs : List ℕ) : Type 0 where
  pub sound : headed xs ≡ true
  pub unused : used_in xs ≡ 0
  pub chains : (a : ℕ) → known_account a ≡ true → chain_of xs a ≡ Ok []
  pub tops : (a : ℕ) → newest xs a ≡ 0

-- Entry e goes on where the archive stands: so many entries are used, and its next is the newest of its account.
pub record Continues (xs : List ℕ) (used : ℕ) (e : Entry) : Type 0 where
  pub sound : headed xs ≡ true
  pub count : used_in xs ≡ used
  pub next : e.next ≡ newest xs e.account

-- The archive has grown from xs to ys by e: it stands at the front of its account's chain, and every other
-- account's chain is as it was.
pub record Grown (xs ys : List ℕ) (used : ℕ) (e : Entry) : Type 0 where
  pub sound : headed ys ≡ true
  pub count : used_in ys ≡ used + 1
  pub front : chain_of ys e.account ≡ before (link (used + 1) e) (chain_of xs e.account)
  pub others : (b : ℕ) → (e.account ≢ b) → chain_of ys b ≡ chain_of xs b
  pub top : newest ys e.account ≡ used + 1
  pub tops : (b : ℕ) → (e.account ≢ b) → newest ys b ≡ newest xs b

-- What is read back from the slot is the entry that was written.
abbrev pub Stored : List ℕ → ℕ → Entry → Type 0
Stored ys used e = entry_of (slot_at ys (used + 1)) ≡ Some e
