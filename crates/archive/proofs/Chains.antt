-- Laws of chains, and of the slots where they begin.
use Rattle.std.proofs.Common.{◌≡◌, ℕ, zero, suc, ◌+◌, ◌-◌, ◌*◌, ◌<◌, ◌≤◌, true, ◌&&◌, eqb, ltb, List, [], length, Some, None, Ok, Err, Option, Result, sym, refl, ap, ◌∙◌, ⊎_elim, arith}
use Rattle.std.proofs.lemmas.Bool.{and_parts, ltb-true, eqb-true, eq-eqb, ne_eqb, cond-true, cond-false, cases_Bool}
use Rattle.std.proofs.lemmas.Bool.Decides.{nat_tests}
use Rattle.refusal.specs.declared.Refusal.{Refusal}
use Rattle.refusal.specs.declared.Refusal.TheVariants.{BrokenChain}
use Rattle.archive.specs.declared.entry.Entry.{Entry}
use Rattle.archive.specs.declared.entry.Kind.{Kind}
use Rattle.archive.specs.declared.entry.Link.{Link}
use Rattle.archive.specs.declared.layout.Slot.{Slot}
use Rattle.archive.specs.Kinds.{kind_of}
use Rattle.archive.specs.Layout.{with_kind, slot_at, used_in}
use Rattle.archive.specs.Chain.{last, entry_on, link, before, joined, follow, chain_from, headed, known_account, unless, reader_refusal, chain_of, newest}

-- An entry keeps the numbers of its slot.
kept_next : (x : Slot) (o : Option Kind) (e : Entry) → with_kind x o ≡ Some e → e.next ≡ x.next
kept_next x None e h = let z : ◌≡◌ {A = ℕ} 0 1 = cc in absurd (omega arith)
kept_next x (Some k) e h = let f : Option Entry → ℕ = λ o. elim o [ None ↦ 0 | Some d ↦ d.next ] in ap f (sym h)

-- What an entry on a chain tells of its slot.
pub on_chain : (x : Slot) (a s : ℕ) (e : Entry) → entry_on x a s ≡ Some e → (e.next ≡ x.next) × (x.next < s)
on_chain x a s e h =
    ⊎_elim
    (λ t. (kept_next x (kind_of x.kind) e (sym (cond-true _ _ _ t) ∙ h), ltb-true x.next s (and_parts _ _ t).0))
    (λ f. let g : None ≡ Some e = sym (cond-false _ _ _ f) ∙ h in let z : ◌≡◌ {A = ℕ} 0 1 = cc in absurd (omega arith))
    (cases_Bool (ltb x.next s && eqb x.account a))

-- Where a next is not below its slot, nothing is followed.
pub next_below : (x : Slot) (a s : ℕ) (q r : Result (List Link) Refusal) → (x.next < s → q ≡ r) → joined s (entry_on x a s) q ≡ joined s (entry_on x a s) r
next_below x a s q r same =
    ⊎_elim
    (λ t. ap (joined s (entry_on x a s)) (same (ltb-true x.next s (and_parts _ _ t).0)))
    (λ f. let none : entry_on x a s ≡ None = cond-false _ _ _ f in ap (λ o. joined s o q) none ∙ sym (ap (λ o. joined s o r) none))
    (cases_Bool (ltb x.next s && eqb x.account a))

-- Room for as many links as the slot's number says, or more, changes nothing.
pub enough : (n m : ℕ) (at : ℕ → Slot) (a s : ℕ) → s ≤ n → s ≤ m → follow n at a s ≡ follow m at a s
unfolding follow
enough zero zero at a s h k = refl
enough zero (suc m) at a zero h k = refl
enough zero (suc m) at a (suc s) h k = absurd (omega arith)
enough (suc n) zero at a zero h k = refl
enough (suc n) zero at a (suc s) h k = absurd (omega arith)
enough (suc n) (suc m) at a zero h k = refl
enough (suc n) (suc m) at a (suc s) h k = next_below (at (suc s)) a (suc s) _ _ (λ lt. enough n m at a (at (suc s)).next (omega arith) (omega arith))

-- One step along a chain.
pub chain_step : (at : ℕ → Slot) (a s : ℕ) → 0 < s → chain_from at a s ≡ joined s (entry_on (at s) a s) (chain_from at a (at s).next)
unfolding follow
chain_step at a zero p = absurd (omega arith)
chain_step at a (suc s) p = next_below (at (suc s)) a (suc s) _ _ (λ lt. enough s _ at a (at (suc s)).next (omega arith) (omega arith))

-- One step, as the code takes it: by the next of the entry that it found.
pub chain_on : (at : ℕ → Slot) (a s : ℕ) (e : Entry) → 0 < s → entry_on (at s) a s ≡ Some e → chain_from at a s ≡ before (link s e) (chain_from at a e.next)
chain_on at a s e p h =
    let n = (on_chain (at s) a s e h).0 in
    chain_step at a s p ∙ ap (λ o. joined s o (chain_from at a (at s).next)) h ∙ ap (λ m. before (link s e) (chain_from at a m)) (sym n)

pub chain_broken : (at : ℕ → Slot) (a s : ℕ) → 0 < s → entry_on (at s) a s ≡ None → chain_from at a s ≡ Err BrokenChain
chain_broken at a s p h = chain_step at a s p ∙ ap (λ o. joined s o (chain_from at a (at s).next)) h

pub chain_end : (at : ℕ → Slot) (a s : ℕ) → s ≡ 0 → chain_from at a s ≡ Ok []
unfolding follow
chain_end at a zero p = refl
chain_end at a (suc s) p = absurd (omega arith)

-- The highest slot that names an account.
pub last_here : (at : ℕ → Slot) (a n : ℕ) → 0 < n → (at n).account ≡ a → last at a n ≡ n
unfolding last
last_here at a zero p h = absurd (omega arith)
last_here at a (suc n) p h = cond-true _ _ _ (eq-eqb _ _ h)

pub last_named : (at : ℕ → Slot) (a n : ℕ) → 0 < n → eqb (at n).account a ≡ true → last at a n ≡ n
last_named at a n p h = last_here at a n p (eqb-true _ _ h)

pub last_below : (at : ℕ → Slot) (a n : ℕ) → 0 < n → ((at n).account ≡ a → ⊥) → last at a n ≡ last at a (n - 1)
unfolding last
last_below at a zero p h = absurd (omega arith)
last_below at a (suc n) p h = cond-false _ _ _ (ne_eqb _ _ h) ∙ ap (last at a) (omega arith)

pub last_none : (at : ℕ → Slot) (a n : ℕ) → n ≡ 0 → last at a n ≡ 0
unfolding last
last_none at a zero p = refl
last_none at a (suc n) p = absurd (omega arith)

pub last_le : (at : ℕ → Slot) (a n : ℕ) → last at a n ≤ n
unfolding last
last_le at a zero = omega arith
last_le at a (suc n) =
    ⊎_elim
    (λ t. rw (cond-true _ _ _ t) (omega arith))
    (λ f. let h = last_le at a n in rw (cond-false _ _ _ f) (omega arith))
    (cases_Bool (eqb (at (suc n)).account a))

-- What a sound header gives.
pub room : (xs : List ℕ) → headed xs ≡ true → (2048 ≤ length xs) × (32 * used_in xs + 32 ≤ length xs)
room xs h = grind (arith, nat_tests)

-- Nothing is read but of a known account from an archive.
pub accepted_account : (xs : List ℕ) (a : ℕ) → reader_refusal xs a ≡ None → (known_account a ≡ true) × (headed xs ≡ true)
accepted_account xs a h = (grind (arith, nat_tests), grind (arith, nat_tests))

pub readable : (xs : List ℕ) (a : ℕ) → reader_refusal xs a ≡ None → (2048 ≤ length xs) × (32 * used_in xs + 32 ≤ length xs)
readable xs a h = room xs (accepted_account xs a h).1

-- The chain is read from the newest slot, or the reader refuses.
pub chain_read : (xs : List ℕ) (a : ℕ) → reader_refusal xs a ≡ None → chain_of xs a ≡ chain_from (slot_at xs) a (newest xs a)
unfolding chain_of
chain_read xs a h = ap (λ o. unless o (chain_from (slot_at xs) a (newest xs a))) h

pub chain_refused : (xs : List ℕ) (a : ℕ) (w : Refusal) → reader_refusal xs a ≡ Some w → chain_of xs a ≡ Err w
unfolding chain_of
chain_refused xs a w h = ap (λ o. unless o (chain_from (slot_at xs) a (newest xs a))) h
