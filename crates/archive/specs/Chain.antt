-- An account's chain of entries, and what a reader answers of it: over the bytes alone (docs/ARCHIVE.md, "Chains").
use Rattle.std.specs.Prelude.{ℕ, zero, suc, ◌/◌, Bool, true, cond, not, ◌&&◌, List, [], ◌∷◌, length, take, drop, Some, None, Ok, Err, Option, Result, ◌==◌, nat_le, nat_lt}
use Rattle.refusal.specs.declared.Refusal.{Refusal}
use Rattle.refusal.specs.declared.Refusal.TheVariants.{OutOfRange, NotAnArchive, BrokenChain}
use Rattle.refusal.specs.Reasons.{first}
use Rattle.archive.specs.declared.entry.Entry.{Entry}
use Rattle.archive.specs.declared.entry.Link.{Link}
use Rattle.archive.specs.declared.layout.Slot.{Slot}
use Rattle.archive.specs.Layout.{allowed, num2, slot_at, entry_of, used_in}

-- Slots are given by a function from their numbers, so that what is said here holds of any bytes.

-- The highest of the slots 1 to n that names account a, or 0.
unfoldable pub last : (ℕ → Slot) → ℕ → ℕ → ℕ
last at a zero = 0
last at a (suc n) = cond ((at (suc n)).account == a) (suc n) (last at a n)

-- The entry that slot s holds for account a's chain: none if its next is not below s, if it is another
-- account's, or if its kind is unknown.
abbrev pub entry_on : Slot → ℕ → ℕ → Option Entry
entry_on x a s = cond (nat_lt x.next s && x.account == a) (entry_of x) None

abbrev pub link : ℕ → Entry → Link
link s e = record { slot = s; entry = e }

abbrev pub before : Link → Result (List Link) Refusal → Result (List Link) Refusal
before l (Ok ls) = Ok (l ∷ ls)
before l (Err w) = Err w

abbrev pub joined : ℕ → Option Entry → Result (List Link) Refusal → Result (List Link) Refusal
joined s None r = Err BrokenChain
joined s (Some e) r = before (link s e) r

-- The chain from slot s on, at most n links of it.
unfoldable pub follow : ℕ → (ℕ → Slot) → ℕ → ℕ → Result (List Link) Refusal
follow zero at a s = Ok []
follow (suc n) at a zero = Ok []
follow (suc n) at a (suc s) = joined (suc s) (entry_on (at (suc s)) a (suc s)) (follow n at a (at (suc s)).next)

-- Every next is below its own slot, so that s links are enough.
abbrev pub chain_from : (ℕ → Slot) → ℕ → ℕ → Result (List Link) Refusal
chain_from at a s = follow s at a s

abbrev pub zeros : List ℕ → Bool
zeros [] = true
zeros (b ∷ bs) = b == 0 && zeros bs

-- The bytes are an archive: an allowed length, a book's number, zeros after it in slot 0, and fewer entries than slots.
abbrev pub headed : List ℕ → Bool
headed xs =
    allowed (length xs) && (nat_lt 0 (num2 xs 4) && (zeros (take 26 (drop 6 xs)) && nat_lt (used_in xs) (length xs / 32)))

abbrev pub known_account : ℕ → Bool
known_account a = nat_le 1 a && nat_le a 32

-- The highest used slot that names account a, or 0.
abbrev pub newest : List ℕ → ℕ → ℕ
newest xs a = last (slot_at xs) a (used_in xs)

abbrev pub reader_refusal : List ℕ → ℕ → Option Refusal
reader_refusal xs a = first ((not (known_account a), OutOfRange) ∷ (not (headed xs), NotAnArchive) ∷ [])

abbrev pub unless : {A : Type 0} → Option Refusal → Result A Refusal → Result A Refusal
unless None r = r
unless (Some w) r = Err w

-- The chain of account a in the bytes xs, newest first, or why it cannot be read.
unfoldable pub chain_of : List ℕ → ℕ → Result (List Link) Refusal
chain_of xs a = unless (reader_refusal xs a) (chain_from (slot_at xs) a (newest xs a))

-- The k-th entry of a chain, counted from 1.
abbrev pub kth : List Link → ℕ → Option Entry
kth [] k = None
kth (l ∷ ls) zero = None
kth (l ∷ ls) (suc zero) = Some l.entry
kth (l ∷ ls) (suc (suc k)) = kth ls (suc k)

abbrev pub picked : Result (List Link) Refusal → ℕ → Result (Option Entry) Refusal
picked (Ok ls) k = Ok (kth ls k)
picked (Err w) k = Err w

-- What the reader answers.
abbrev pub reading : List ℕ → ℕ → ℕ → Result (Option Entry) Refusal
reading xs a k = picked (chain_of xs a) k
