-- What holds of each of a list; and reading a list that was written, with places counted from 1.
use Rattle.std.proofs.Common.{◌≡◌, ℕ, zero, suc, ◌+◌, ◌-◌, ◌*◌, ◌≤◌, Bool, true, false, cond, ◌&&◌, eqb, ◌⊎◌, List, [], ◌∷◌, ◌++◌, length, get_or, set, replicate, sym, refl, ap, ◌∙◌, ap₂, inl, inr, arith}
use Rattle.std.proofs.lemmas.List.{get_or-set_same, get_or-set_other}
use Rattle.std.proofs.lemmas.Bool.{eq-eqb, ne_eqb, cases_eq, eqb-true}

pub data Each {X : Type 0} (P : X → Type 0) : List X → Type 0 where
  none : Each P []
  more : {x : X} {xs : List X} → P x → Each P xs → Each P (x ∷ xs)

pub each_map : {X : Type 0} {P Q : X → Type 0} {xs : List X} → ((x : X) → P x → Q x) → Each P xs → Each Q xs
each_map f none = none
each_map f (more {x = x} h k) = more (f x h) (each_map f k)

pub each_append : {X : Type 0} {P : X → Type 0} {xs ys : List X} → Each P xs → Each P ys → Each P (xs ++ ys)
each_append none k = k
each_append (more h i) k = more h (each_append i k)

pub read_replicate : {X : Type 0} (n i : ℕ) (x : X) → get_or (replicate n x) i x ≡ x
read_replicate zero i x = refl
read_replicate (suc n) zero x = refl
read_replicate (suc n) (suc i) x = read_replicate n i x

-- A number from 1 to n.
pub record Among (n i : ℕ) : Type 0 where
  pub low : 1 ≤ i
  pub high : i ≤ n

pub read_set : {X : Type 0} (xs : List X) (n i j : ℕ) (v d : X) → length xs ≡ n → Among n i → Among n j
    → get_or (set xs (i - 1) v) (j - 1) d ≡ cond (eqb j i) v (get_or xs (j - 1) d)
read_set xs n i j v d e a b = go (cases_eq j i)
  where
    go : (j ≡ i) ⊎ (j ≡ i → ⊥) → get_or (set xs (i - 1) v) (j - 1) d ≡ cond (eqb j i) v (get_or xs (j - 1) d)
    go (inl s) = ap (λ k. get_or (set xs (i - 1) v) (k - 1) d) s ∙ get_or-set_same xs (i - 1) v d (omega (arith, a.low, a.high)) ∙ ap (λ b. cond b v (get_or xs (j - 1) d)) (sym (eq-eqb j i s))
    go (inr s) = get_or-set_other xs (i - 1) (j - 1) v d (λ z. s (omega (arith, a.low, b.low))) ∙ ap (λ b. cond b v (get_or xs (j - 1) d)) (sym (ne_eqb j i s))

-- Under the test that two numbers are the same, either may stand.
pub swapped : {X : Type 0} (p q : ℕ) (f : ℕ → X) (z : X) → cond (eqb p q) (f q) z ≡ cond (eqb p q) (f p) z
swapped p q f z = go (eqb p q) refl
  where
    go : (b : Bool) → eqb p q ≡ b → cond b (f q) z ≡ cond b (f p) z
    go true e = ap f (sym (eqb-true p q e))
    go false e = refl

-- The row of an account and a place.
pub flat : (a p b q : ℕ) → Among 12 p → Among 12 q → Among 32 a → Among 32 b
    → eqb ((a - 1) * 12 + (p - 1)) ((b - 1) * 12 + (q - 1)) ≡ (eqb p q && eqb a b)
flat a p b q h k i j = go (cases_eq p q) (cases_eq a b)
  where
    go : (p ≡ q) ⊎ (p ≡ q → ⊥) → (a ≡ b) ⊎ (a ≡ b → ⊥) → eqb ((a - 1) * 12 + (p - 1)) ((b - 1) * 12 + (q - 1)) ≡ (eqb p q && eqb a b)
    go (inl e) (inl f) = eq-eqb _ _ (omega arith) ∙ sym (ap₂ ◌&&◌ (eq-eqb p q e) (eq-eqb a b f))
    go (inl e) (inr f) = ne_eqb _ _ (λ x. f (omega (arith, i.low, j.low))) ∙ sym (ap₂ ◌&&◌ (eq-eqb p q e) (ne_eqb a b f))
    go (inr e) f = ne_eqb _ _ (λ x. e (omega (arith, h.low, h.high, k.low, k.high))) ∙ sym (ap (λ c. c && eqb a b) (ne_eqb p q e))
