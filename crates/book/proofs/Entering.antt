-- Entries one after another, and the room for them.
use Rattle.std.proofs.Common.{◌≡◌, ℕ, suc, ◌+◌, ◌-◌, ◌<◌, ◌≤◌, List, [], ◌∷◌, length, get_or, drop, length-drop, drop-cons, add-one, ℤ, pos, ◌⊎◌, inl, inr, sym, refl, ap, ◌∙◌, subst, arith}
use Rattle.archive.specs.declared.entry.Kind.TheVariants.{Settlement}
use Rattle.ledger.specs.declared.state.Account.{Account}
use Rattle.ledger.specs.Places.{no_account}
use Rattle.book.specs.declared.desk.Desk.{Desk}
use Rattle.book.specs.declared.entries.Movement.{Movement}
use Rattle.book.specs.Held.{SlotsIn, Takes}
use Rattle.book.specs.Entries.{movement, entered_desk, entered_bytes, desk_with, bytes_with, settlement_from, settlement_moves}

-- What is left to write of a settling from account i on, the accounts and the changes that are still to come being given.
pub record Left (d : Desk) (xs : List ℕ) (day : ℕ) (accounts : List Account) (changes : List ℤ) (i : ℕ) (holders : List Account) (sums : List ℤ) (e : Desk) (ys : List ℕ) : Type 0 where
  pub coming : holders ≡ drop i accounts
  pub due : sums ≡ drop i changes
  pub desk : desk_with e (settlement_from day accounts changes i (32 - i)) ≡ desk_with d (settlement_moves day accounts changes)
  pub bytes : bytes_with e ys (settlement_from day accounts changes i (32 - i)) ≡ bytes_with d xs (settlement_moves day accounts changes)
  pub founded : e.founded ≡ d.founded
  pub slots : e.slots ≡ d.slots
  pub used : e.used ≡ d.used + i

next_account : (day : ℕ) (accounts : List Account) (changes : List ℤ) (i : ℕ) → i < 32
    → settlement_from day accounts changes i (32 - i) ≡ movement day (i + 1) Settlement (get_or changes i (pos 0)) (get_or accounts i no_account) ∷ settlement_from day accounts changes (i + 1) (32 - (i + 1))
unfolding settlement_from
next_account day accounts changes i lt =
    let more : 32 - i ≡ suc (32 - (i + 1)) = omega arith in
    rw more

-- The next of a list whose first i are gone, and what is left of it then.
next_of : {A : Type 0} (xs ys zs : List A) (x d : A) (i : ℕ) → ys ≡ drop i xs → ys ≡ x ∷ zs → (i < length xs) × (get_or xs i d ≡ x) × (zs ≡ drop (i + 1) xs)
next_of xs ys zs x d i rest is =
    let here : drop i xs ≡ x ∷ zs = sym rest ∙ is in
    let lt : i < length xs = omega (arith, length-drop i xs, ap length here) in
    let split : get_or xs i d ∷ drop (suc i) xs ≡ x ∷ zs = sym (drop-cons xs i d lt) ∙ here in
    (lt, cc, rw add-one (cc))

pub left_less : (d : Desk) (xs : List ℕ) (day : ℕ) (accounts : List Account) (changes : List ℤ) (i j k : ℕ) (us bs : List Account) (vs ws : List ℤ) (x : Account) (v : ℤ) (e f : Desk) (ys zs : List ℕ) (m : Movement)
    → length accounts ≡ 32 → us ≡ x ∷ bs → vs ≡ v ∷ ws → j ≡ i → k ≡ i + 1
    → m ≡ movement day (j + 1) Settlement v x → f ≡ entered_desk e m → zs ≡ entered_bytes e ys m
    → Left d xs day accounts changes i us vs e ys → Left d xs day accounts changes k bs ws f zs
left_less d xs day accounts changes i j k us bs vs ws x v e f ys zs m long taken summed index next is desk bytes left =
    let holder = next_of accounts us bs x no_account i left.coming taken in
    let change = next_of changes vs ws v (pos 0) i left.due summed in
    let step = next_account day accounts changes i (omega (arith, holder.0, long)) in
    let rest = settlement_from day accounts changes (i + 1) (32 - (i + 1)) in
    let same : m ≡ movement day (i + 1) Settlement (get_or changes i (pos 0)) (get_or accounts i no_account) = is ∙ (λ t. movement day (index t + 1) Settlement (sym change.1 t) (sym holder.1 t)) in
    rw next
    (record {
      coming = holder.2;
      due = change.2;
      desk = ap (λ (x : Desk). desk_with x rest) desk ∙ ap (λ (x : Movement). desk_with e (x ∷ rest)) same ∙ ap (desk_with e) (sym step) ∙ left.desk;
      bytes = ap (λ (x : Desk). bytes_with x zs rest) desk ∙ ap (λ (x : List ℕ). bytes_with (entered_desk e m) x rest) bytes ∙ ap (λ (x : Movement). bytes_with e ys (x ∷ rest)) same ∙ ap (bytes_with e ys) (sym step) ∙ left.bytes;
      founded = ap (λ (x : Desk). x.founded) desk ∙ left.founded;
      slots = ap (λ (x : Desk). x.slots) desk ∙ left.slots;
      used = ap (λ (x : Desk). x.used) desk ∙ omega (arith, left.used);
    })

-- Where no account or no change is left, all 32 have been written.
pub left_none : (d : Desk) (xs : List ℕ) (day : ℕ) (accounts : List Account) (changes : List ℤ) (i : ℕ) (us : List Account) (vs : List ℤ) (e : Desk) (ys : List ℕ) → length accounts ≡ 32 → length changes ≡ 32
    → (length us ≡ 0) ⊎ (length vs ≡ 0) → Left d xs day accounts changes i us vs e ys
    → (e ≡ desk_with d (settlement_moves day accounts changes)) × (ys ≡ bytes_with d xs (settlement_moves day accounts changes))
unfolding settlement_from
left_none d xs day accounts changes i us vs e ys long wide end left =
    let all : 32 ≤ i = elim end [
      | inl none ↦ omega (arith, none, long, length-drop i accounts, ap length left.coming)
      | inr none ↦ omega (arith, none, wide, length-drop i changes, ap length left.due)
    ] in
    let none : 32 - i ≡ 0 = omega arith in
    let l = left.desk in let m = left.bytes in
    (rw none at l, rw none at m)

-- Entries leave the size of the archive, and each uses one slot.
pub with_slots : (ms : List Movement) (d : Desk) → (desk_with d ms).slots ≡ d.slots
with_slots [] d = refl
with_slots (m ∷ ms) d = with_slots ms (entered_desk d m)

pub with_founded : (ms : List Movement) (d : Desk) → (desk_with d ms).founded ≡ d.founded
with_founded [] d = refl
with_founded (m ∷ ms) d = with_founded ms (entered_desk d m)

pub with_laid_kept : (ms : List Movement) (d : Desk) → (desk_with d ms).laid ≡ d.laid
with_laid_kept [] d = refl
with_laid_kept (m ∷ ms) d = with_laid_kept ms (entered_desk d m)

pub with_number : (ms : List Movement) (d : Desk) → (desk_with d ms).number ≡ d.number
with_number [] d = refl
with_number (m ∷ ms) d = with_number ms (entered_desk d m)

pub with_used : (ms : List Movement) (d : Desk) → (desk_with d ms).used ≡ d.used + length ms
with_used [] d = omega arith
with_used (m ∷ ms) d = with_used ms (entered_desk d m) ∙ omega arith

settlement_length : (day : ℕ) (accounts : List Account) (changes : List ℤ) → length (settlement_moves day accounts changes) ≡ 32
unfolding settlement_from
settlement_length day accounts changes = refl

pub settled_slots : (d e : Desk) (day n : ℕ) (accounts : List Account) (changes : List ℤ) → e ≡ desk_with d (settlement_moves day accounts changes) → SlotsIn d → Takes d n 32 → SlotsIn e
settled_slots d e day n accounts changes is slots takes =
    let ms = settlement_moves day accounts changes in
    let s = with_slots ms d in
    let u = with_used ms d in
    let long = settlement_length day accounts changes in
    let least = slots.2 takes.founded in
    subst SlotsIn (sym is) (omega (arith, s), omega (arith, s, u, long, takes.room), λ _. omega (arith, s, least))
