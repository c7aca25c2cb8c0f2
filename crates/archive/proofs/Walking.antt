-- A walk along a chain: where it starts, and that the search on it for the k-th entry keeps the answer.
use Rattle.std.proofs.Common.{◌≡◌, ℕ, zero, suc, ◌+◌, ◌-◌, ◌*◌, ◌<◌, ◌≤◌, cond, eqb, List, [], ◌∷◌, length, Some, None, Ok, Err, Option, Result, sym, refl, ap, ◌∙◌, subst, ⊎_elim, arith}
use Rattle.std.proofs.lemmas.Bool.{eqb-true, eqb-false, cond-true, cond-false, cases_Bool}
use Rattle.refusal.specs.declared.Refusal.{Refusal}
use Rattle.refusal.specs.Reasons.{answered}
use Rattle.archive.specs.declared.entry.Entry.{Entry}
use Rattle.archive.specs.declared.entry.Link.{Link}
use Rattle.archive.specs.Layout.{slot_at, used_in}
use Rattle.archive.specs.Chain.{last, before, chain_from, reader_refusal, chain_of, kth, picked}
use Rattle.archive.specs.Gathered.{Holds}
use Rattle.archive.proofs.Chains.{last_le, accepted_account, readable, chain_read, chain_refused}

accepts : (o : Option Refusal) → answered o ≡ Ok tt → o ≡ None
accepts None h = refl
accepts (Some w) h = let z : ◌≡◌ {A = ℕ} 0 1 = cc in absurd (omega arith)

refuses : (o : Option Refusal) (w : Refusal) → answered o ≡ Err w → o ≡ Some w
refuses None w h = let z : ◌≡◌ {A = ℕ} 0 1 = cc in absurd (omega arith)
refuses (Some v) w h = cc

-- What the reader refuses has no chain.
pub unopened : (xs : List ℕ) (a : ℕ) (w : Refusal) → Err w ≡ answered (reader_refusal xs a) → chain_of xs a ≡ Err w
unopened xs a w h = chain_refused xs a w (refuses _ w (sym h))

-- The chain begins at the newest slot, inside the bytes.
pub newest_within : (xs : List ℕ) (a n u : ℕ) → Ok tt ≡ answered (reader_refusal xs a) → u ≡ used_in xs → n ≡ last (slot_at xs) a u → 32 * n + 32 ≤ length xs
newest_within xs a n u h e is = omega (arith, (readable xs a (accepts _ (sym h))).1, last_le (slot_at xs) a u)

pub opened : (xs : List ℕ) (a n u : ℕ) → Ok tt ≡ answered (reader_refusal xs a) → u ≡ used_in xs → n ≡ last (slot_at xs) a u → (chain_from (slot_at xs) a n ≡ chain_of xs a) × (0 < n → Holds xs a)
opened xs a n u h e is =
    let none = accepts _ (sym h) in
    let top = is ∙ ap (last (slot_at xs) a) e in
    let known = accepted_account xs a none in
    (ap (chain_from (slot_at xs) a) top ∙ sym (chain_read xs a none), λ some. (known.0, known.1, subst (λ m. 0 < m) top some))

-- What a search answers that has found f and has k entries to go.
abbrev pub found_or : Option Entry → Option Entry → Option Entry
found_or None o = o
found_or (Some e) o = Some e

abbrev pub onward : Option Entry → ℕ → Result (List Link) Refusal → Result (Option Entry) Refusal
onward f k (Ok ls) = Ok (found_or f (kth ls k))
onward f k (Err w) = Err w

pub onward_start : (k : ℕ) (r : Result (List Link) Refusal) → onward None k r ≡ picked r k
onward_start k (Ok ls) = refl
onward_start k (Err w) = refl

pub onward_end : (f : Option Entry) (k : ℕ) → onward f k (Ok []) ≡ Ok f
onward_end None k = refl
onward_end (Some e) k = refl

kth_none : (ls : List Link) → kth ls 0 ≡ None
kth_none [] = refl
kth_none (l ∷ ls) = refl

kth_past : (l : Link) (ls : List Link) (k : ℕ) → (k ≡ 1 → ⊥) → kth (l ∷ ls) k ≡ kth ls (k - 1)
kth_past l ls zero h = sym (kth_none ls)
kth_past l ls (suc zero) h = absurd (h refl)
kth_past l ls (suc (suc k)) h = ap (kth ls) (omega arith)

here : (l : Link) (f : Option Entry) (r : Result (List Link) Refusal) → f ≡ None → onward f 1 (before l r) ≡ onward (Some l.entry) 0 r
here l None (Ok ls) h = refl
here l None (Err w) h = refl
here l (Some g) (Ok ls) h = let z : ◌≡◌ {A = ℕ} 0 1 = cc in absurd (omega arith)
here l (Some g) (Err w) h = refl

past : (l : Link) (f : Option Entry) (k : ℕ) (r : Result (List Link) Refusal) → (k ≡ 1 → ⊥) → onward f k (before l r) ≡ onward f (k - 1) r
past l f k (Ok ls) h = ap (λ o. Ok (found_or f o)) (kth_past l ls k h)
past l f k (Err w) h = refl

-- The entry looked for lies at this link, or beyond it: what is found and how far is left then.
pub at_link : (l : Link) (f : Option Entry) (k : ℕ) (r : Result (List Link) Refusal) → (0 < k → f ≡ None) → onward (cond (eqb k 1) (Some l.entry) f) (k - 1) r ≡ onward f k (before l r)
at_link l f k r n =
    ⊎_elim
    (λ t. let one : k ≡ 1 = eqb-true k 1 t in
    ap (λ o. onward o (k - 1) r) (cond-true _ _ _ t) ∙ ap (λ j. onward (Some l.entry) (j - 1) r) one ∙ sym (here l f r (n (omega arith))) ∙ ap (λ j. onward f j (before l r)) (sym one))
    (λ t. ap (λ o. onward o (k - 1) r) (cond-false _ _ _ t) ∙ sym (past l f k r (eqb-false k 1 t)))
    (cases_Bool (eqb k 1))

-- Nothing is found before the entry looked for.
pub unfound : (f : Option Entry) (e : Entry) (k : ℕ) → (0 < k → f ≡ None) → 0 < k - 1 → cond (eqb k 1) (Some e) f ≡ None
unfound f e k n h =
    ⊎_elim
    (λ t. let one : k ≡ 1 = eqb-true k 1 t in absurd (omega arith))
    (λ t. cond-false _ _ _ t ∙ n (omega arith))
    (cases_Bool (eqb k 1))
