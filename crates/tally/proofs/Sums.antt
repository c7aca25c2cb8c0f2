-- Sums by turns, over trades and over places counted from 1.
use Rattle.std.proofs.Common.{◌≡◌, ℕ, zero, suc, ◌+◌, ◌<◌, Bool, true, false, eqb, ◌⊎◌, List, [], ◌∷◌, ◌++◌, ℤ, pos, ◌+ℤ◌, neg_ℤ, sym, refl, ap, ◌∙◌, ap₂, inl, inr, arith}
use Rattle.std.proofs.lemmas.Bool.{eq-eqb, ne_eqb, cases_eq}
use Rattle.ledger.specs.Sums.{sum_to, total_to}
use Rattle.tally.specs.Tally.{Trade, sum, share, if_so}
use Rattle.tally.proofs.Algebra.{lin}
use Rattle.tally.proofs.Lists.{Each, Each.none, Each.more, Among}

pub sum_append : (f : Trade → ℤ) (xs ys : List Trade) → sum f (xs ++ ys) ≡ sum f xs +ℤ sum f ys
sum_append f [] ys = omega (arith, lin)
sum_append f (x ∷ xs) ys = let e = sum_append f xs ys in omega (arith, lin)

pub total_same : (n : ℕ) (f g : ℕ → ℤ) → ((p : ℕ) → p < n → f p ≡ g p) → total_to f n ≡ total_to g n
unfolding total_to
total_same zero f g e = refl
total_same (suc n) f g e = ap₂ (λ x y. x +ℤ y) (total_same n f g (λ p k. e p (omega arith))) (e n (omega arith))

pub total_add : (n : ℕ) (f g : ℕ → ℤ) → total_to (λ p. f p +ℤ g p) n ≡ total_to f n +ℤ total_to g n
unfolding total_to
total_add zero f g = refl
total_add (suc n) f g = let e = total_add n f g in omega (arith, lin)

pub total_zero : (n : ℕ) → total_to (λ p. pos 0) n ≡ pos 0
unfolding total_to
total_zero zero = refl
total_zero (suc n) = let e = total_zero n in omega (arith, lin)

pub total_neg : (n : ℕ) (f : ℕ → ℤ) → total_to (λ p. neg_ℤ (f p)) n ≡ neg_ℤ (total_to f n)
unfolding total_to
total_neg zero f = refl
total_neg (suc n) f = let e = total_neg n f in omega (arith, lin)

pub total_pos : (n : ℕ) (f : ℕ → ℕ) → total_to (λ p. pos (f p)) n ≡ pos (sum_to f n)
unfolding total_to sum_to
total_pos zero f = refl
total_pos (suc n) f = let e = total_pos n f in omega (arith, lin)

total_past : (n q : ℕ) (z : ℤ) → n < q → total_to (λ p. if_so (eqb (p + 1) q) z) n ≡ pos 0
unfolding total_to
total_past zero q z h = refl
total_past (suc n) q z h =
    let i : n < q = omega arith in
    let e = total_past n q z i in
    let j : if_so (eqb (n + 1) q) z ≡ pos 0 = ap (λ b. if_so b z) (ne_eqb (n + 1) q (λ x. omega arith)) in
    omega (arith, lin)

-- Of the numbers from 1 to n, the sum meets q once.
pub total_single : (n q : ℕ) (z : ℤ) → Among n q → total_to (λ p. if_so (eqb (p + 1) q) z) n ≡ z
unfolding total_to
total_single zero q z h = absurd (omega (arith, h.low, h.high))
total_single (suc n) q z h = go (total_single n q z) (cases_eq (n + 1) q)
  where
    go : (Among n q → total_to (λ p. if_so (eqb (p + 1) q) z) n ≡ z) → (n + 1 ≡ q) ⊎ (n + 1 ≡ q → ⊥) → total_to (λ p. if_so (eqb (p + 1) q) z) n +ℤ if_so (eqb (n + 1) q) z ≡ z
    go ih (inl x) =
        let i : n < q = omega arith in
        let e = total_past n q z i in
        let j : if_so (eqb (n + 1) q) z ≡ z = ap (λ b. if_so b z) (eq-eqb (n + 1) q x) in
        omega (arith, lin)
    go ih (inr x) =
        let e = ih (record { low = h.low; high = omega (arith, h.high) }) in
        let j : if_so (eqb (n + 1) q) z ≡ pos 0 = ap (λ b. if_so b z) (ne_eqb (n + 1) q x) in
        omega (arith, lin)

-- What a trade counts to a place.
abbrev pub at : ℕ → Trade → ℤ → ℤ
at p t z = if_so (eqb p t.deal.place) z

pub spread : (n : ℕ) (f : Trade → ℤ) (ts : List Trade) → Each (λ t. Among n t.deal.place) ts → sum f ts ≡ total_to (λ p. sum (λ t. at (p + 1) t (f t)) ts) n
spread n f [] none = sym (total_zero n)
spread n f (t ∷ ts) (more h k) =
    ap₂ (λ x y. x +ℤ y) (spread n f ts k) (sym (total_single n t.deal.place (f t) h)) ∙ sym (total_add n (λ p. sum (λ u. at (p + 1) u (f u)) ts) (λ p. at (p + 1) t (f t)))

pub sum_same : (n : ℕ) (f g : ℕ → ℕ) → ((p : ℕ) → p < n → f p ≡ g p) → sum_to f n ≡ sum_to g n
unfolding sum_to
sum_same zero f g e = refl
sum_same (suc n) f g e = ap₂ (λ x y. x + y) (sum_same n f g (λ p k. e p (omega arith))) (e n (omega arith))

pub sum_add : (n : ℕ) (f g : ℕ → ℕ) → sum_to (λ p. f p + g p) n ≡ sum_to f n + sum_to g n
unfolding sum_to
sum_add zero f g = refl
sum_add (suc n) f g = omega (arith, sum_add n f g)

pub sum_zero : (n : ℕ) → sum_to (λ p. 0) n ≡ 0
unfolding sum_to
sum_zero zero = refl
sum_zero (suc n) = omega (arith, sum_zero n)

shared : (b : Bool) (x : ℕ) → pos (share b x) ≡ if_so b (pos x)
shared true x = refl
shared false x = refl

pub sum_single : (n q x : ℕ) → Among n q → sum_to (λ p. share (eqb (p + 1) q) x) n ≡ x
sum_single n q x h = let e : pos (sum_to (λ p. share (eqb (p + 1) q) x) n) ≡ pos x = sym (total_pos n (λ p. share (eqb (p + 1) q) x)) ∙ total_same n _ (λ p. if_so (eqb (p + 1) q) (pos x)) (λ p k. shared (eqb (p + 1) q) x) ∙ total_single n q (pos x) h in omega (arith, lin)
