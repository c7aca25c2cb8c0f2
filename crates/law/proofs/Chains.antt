-- The archive of a book holds, account by account, just the movements that were entered.
use Rattle.std.proofs.Common.{◌≡◌, ℕ, ◌+◌, ◌-◌, ◌*◌, ◌/◌, ◌^◌, ◌<◌, ◌≤◌, true, cond, eqb, ◌⊎◌, List, [], ◌∷◌, length, get_or, None, Ok, Err, Result, sym, refl, ap, ◌∙◌, inl, inr, arith, w64, SFits}
use Rattle.std.proofs.lemmas.List.{length-set}
use Rattle.std.proofs.lemmas.Bool.{eq-eqb, ne_eqb, cases_eq, cond-true, cond-false}
use Rattle.std.proofs.lemmas.Bool.Decides.{nat_tests}
use Rattle.refusal.specs.declared.Refusal.{Refusal}
use Rattle.archive.specs.declared.entry.Link.{Link}
use Rattle.archive.specs.Layout.{allowed, header, used_in, slot_at, slot_of}
use Rattle.archive.specs.Chain.{before, headed, newest, chain_of}
use Rattle.archive.specs.Written.{Grown}
use Rattle.archive.proofs.Chains.{last_le}
use Rattle.archive.proofs.Growing.{begun_empty, entry_grown, grown_long}
use Rattle.archive.proofs.Layouts.{Fit, long_patched}
use Rattle.ledger.specs.Places.{known_account}
use Rattle.tally.proofs.Lists.{Each, Each.none, Each.more, Among, read_replicate, read_set}
use Rattle.book.specs.declared.desk.Desk.{Desk}
use Rattle.book.specs.declared.entries.Movement.{Movement}
use Rattle.book.specs.Entries.{entry_for, entered_desk, entered_bytes, desk_with, bytes_with}
use Rattle.book.specs.Founding.{found_gate, found_desk, found_bytes}
use Rattle.law.specs.Entries.{said_by, chain_said, recorded}

-- A movement whose entry fits its slot.
pub record Fits (m : Movement) : Type 0 where
  pub known : known_account m.account ≡ true
  pub day : m.day < 2 ^ 16
  pub change : SFits w64 m.change
  pub available : SFits w64 m.available
  pub margin : m.margin < 2 ^ 64

-- The bytes are the archive of the desk, and each account's chain is just these movements.
pub record Archived (d : Desk) (xs : List ℕ) (es : ℕ → List Movement) : Type 0 where
  pub long : length xs ≡ 32 * d.slots
  pub least : 64 ≤ d.slots
  pub most : d.slots ≤ 262144
  pub sized : length d.tips ≡ 32
  pub sound : headed xs ≡ true
  pub count : used_in xs ≡ d.used
  pub tops : (a : ℕ) → known_account a ≡ true → get_or d.tips (a - 1) 0 ≡ newest xs a
  pub chains : (a : ℕ) → known_account a ≡ true → chain_said (chain_of xs a) ≡ Ok (es a)

-- What a founding that passed its gate says of the length and the number.
record Opened (n number : ℕ) : Type 0 where
  size : allowed n ≡ true
  whole : n ≡ 32 * (n / 32)
  least : 64 ≤ n / 32
  most : n / 32 ≤ 262144
  named : 0 < number
  small : number < 2 ^ 16

opened : (d : Desk) (n number : ℕ) → found_gate d n number ≡ None → Opened n number
opened d n number passed = record {
  size = grind (arith, nat_tests);
  whole = grind (arith, nat_tests);
  least = grind (arith, nat_tests);
  most = grind (arith, nat_tests);
  named = grind (arith, nat_tests);
  small = grind (arith, nat_tests);
}

-- Slot 0 is written over, so the length stays.
begun_long : (xs : List ℕ) (number : ℕ) → 32 ≤ length xs → length (found_bytes None xs number) ≡ length xs
unfolding header
begun_long xs number l = long_patched xs 0 32 (header 0 number) l refl

-- A founding leaves 32 empty chains.
pub begun_archived : (d : Desk) (xs : List ℕ) (number : ℕ) → found_gate d (length xs) number ≡ None
    → Archived (found_desk None d (length xs) number) (found_bytes None xs number) (λ a. [])
begun_archived d xs number passed =
    let o = opened d (length xs) number passed in
    let bare = begun_empty xs (found_bytes None xs number) number o.size o.named o.small refl in
    record {
      long = begun_long xs number (omega arith) ∙ o.whole;
      least = o.least;
      most = o.most;
      sized = refl;
      sound = bare.sound;
      count = bare.unused;
      tops = λ a k. read_replicate 32 (a - 1) 0 ∙ sym (bare.tops a);
      chains = λ a k. ap chain_said (bare.chains a k);
    }

-- A chain with one link more says that one's entry first.
said_before : (l : Link) (r : Result (List Link) Refusal) (ms : List Movement) → chain_said r ≡ Ok ms → chain_said (before l r) ≡ Ok (said_by l.entry ∷ ms)
said_before l (Ok ls) ms h = cc
said_before l (Err w) ms h = let z : ◌≡◌ {A = ℕ} 0 1 = cc in absurd (omega arith)

-- A known account is one of 32.
among : (a : ℕ) → known_account a ≡ true → Among 32 a
among a k = record { low = grind (arith, nat_tests); high = grind (arith, nat_tests) }

-- One more movement, of an archive with a free slot.
module _ (d : Desk) (xs : List ℕ) (es : ℕ → List Movement) (m : Movement) (was : Archived d xs es) (f : Fits m) (room : d.used + 2 ≤ d.slots) where
  -- Its entry fits a slot: the next is at most the entries used.
  entry_fits : Fit (slot_of (entry_for d m))
  entry_fits =
      let top = was.tops m.account f.known in
      let le = last_le (slot_at xs) m.account (used_in xs) in
      let most = was.most in
      let count = was.count in
      record { next = omega arith; day = f.day; change = f.change; available = f.available; margin = f.margin }

  free : 32 * (d.used + 1) + 32 ≤ length xs
  free = let long = was.long in omega arith

  grows : Grown xs (entered_bytes d xs m) d.used (entry_for d m)
  grows =
      let most = was.most in
      entry_grown xs d.used (entry_for d m) free (omega arith) entry_fits
      (record { sound = was.sound; count = was.count; next = was.tops m.account f.known })

  -- The desk's tips stay the newest slots of their accounts.
  tip_entered : (a : ℕ) → known_account a ≡ true → (m.account ≡ a) ⊎ (m.account ≡ a → ⊥)
      → get_or (entered_desk d m).tips (a - 1) 0 ≡ newest (entered_bytes d xs m) a
  tip_entered a k (inl e) =
      read_set d.tips 32 m.account a (d.used + 1) 0 was.sized (among m.account f.known) (among a k)
      ∙ cond-true _ _ _ (eq-eqb a m.account (sym e))
      ∙ sym grows.top
      ∙ ap (newest (entered_bytes d xs m)) e
  tip_entered a k (inr ne) =
      read_set d.tips 32 m.account a (d.used + 1) 0 was.sized (among m.account f.known) (among a k)
      ∙ cond-false _ _ _ (ne_eqb a m.account (λ e. ne (sym e)))
      ∙ was.tops a k
      ∙ sym (grows.tops a ne)

  -- The movement stands at the front of its own account's chain.
  chain_entered : (a : ℕ) → known_account a ≡ true → (m.account ≡ a) ⊎ (m.account ≡ a → ⊥)
      → chain_said (chain_of (entered_bytes d xs m) a) ≡ Ok (cond (eqb m.account a) (m ∷ es a) (es a))
  chain_entered a k (inl e) =
      ap (λ b. chain_said (chain_of (entered_bytes d xs m) b)) (sym e)
      ∙ ap chain_said grows.front
      ∙ said_before _ (chain_of xs m.account) (es m.account) (was.chains m.account f.known)
      ∙ ap (λ b. Ok (m ∷ es b)) e
      ∙ ap Ok (sym (cond-true _ _ _ (eq-eqb m.account a e)))
  chain_entered a k (inr ne) =
      ap chain_said (grows.others a ne) ∙ was.chains a k ∙ ap Ok (sym (cond-false _ _ _ (ne_eqb m.account a ne)))

-- One movement more is the newest of its account, and every other account has what it had.
pub entered_archived : (d : Desk) (xs : List ℕ) (es : ℕ → List Movement) (m : Movement) → Archived d xs es → Fits m → d.used + 2 ≤ d.slots
    → Archived (entered_desk d m) (entered_bytes d xs m) (λ a. cond (eqb m.account a) (m ∷ es a) (es a))
entered_archived d xs es m was f room =
    let g = grows d xs es m was f room in
    record {
      long = grown_long xs d.used (entry_for d m) (free d xs es m was f room) ∙ was.long;
      least = was.least;
      most = was.most;
      sized = length-set _ _ _ ∙ was.sized;
      sound = g.sound;
      count = g.count;
      tops = λ a k. tip_entered d xs es m was f room a k (cases_eq m.account a);
      chains = λ a k. chain_entered d xs es m was f room a k (cases_eq m.account a);
    }

-- So the movements of a call stand before the earlier ones of their accounts.
pub all_archived : (ms : List Movement) (d : Desk) (xs : List ℕ) (es : ℕ → List Movement) → Archived d xs es → Each Fits ms → d.used + length ms + 1 ≤ d.slots
    → Archived (desk_with d ms) (bytes_with d xs ms) (λ a. recorded a ms (es a))
all_archived [] d xs es was none room = was
all_archived (m ∷ ms) d xs es was (more f fs) room =
    all_archived ms (entered_desk d m) (entered_bytes d xs m) (λ a. cond (eqb m.account a) (m ∷ es a) (es a)) (entered_archived d xs es m was f (omega arith)) fs (omega arith)
