-- Arrays made of their indices.
use Rattle.std.proofs.Common.{◌≡◌, ℕ, zero, suc, ◌+◌, ◌<◌, ◌≤◌, List, get_or, sym, ◌∙◌, subst, refl, inl, inr, arith}
use Rattle.std.proofs.lemmas.Bool.{cases_eq}
use Rattle.std.specs.Array.{IsFromFnResult, IsFromFnResultFrom}
use Rattle.std.specs.Fn.{Called}
use denote.Param.Members.{Mut}
use Rattle.ledger.specs.Sums.{tabulated}
use Rattle.ledger.proofs.Tabulated.{tabulated_all}

module _ {F X : Type 0} (g : Mut F (ℕ × Unit {0}) X) (f : F) (ys : List X) (h : ℕ → X) (d : X) where
  made_from : (n i : ℕ) (p : F) → ((j : ℕ) (y : X) (q : F) → j < i + n → Called g f (j, tt) y q → (q ≡ f) × (y ≡ h j)) → p ≡ f → IsFromFnResultFrom g p ys i n → (k : ℕ) → i ≤ k → k < i + n → get_or ys k d ≡ h k
  made_from zero i p call same m k low high = absurd (omega arith)
  made_from (suc n) i p call same m k low high =
      let q = m.0 in let y = m.1 in
      let at = m.2 in
      let rest = m.4 in
      let done = call i y q (omega arith) (subst (λ (x : F). Called g x (i, tt) y q) same m.3) in
      elim (cases_eq k i) [
        | inl here ↦ subst (λ (j : ℕ). get_or ys j d ≡ h j) (sym here) (at.1 d ∙ done.1)
        | inr ne ↦ made_from n (i + 1) q (λ j z r l c. call j z r (omega arith) c) done.0 rest k (omega arith) (omega arith)
      ]

pub tabulated_from_fn : {F X : Type 0} (g : Mut F (ℕ × Unit {0}) X) (f : F) (ys : List X) (n : ℕ) (h : ℕ → X) (d : X)
    → IsFromFnResult g f ys n → ((i : ℕ) (y : X) (q : F) → i < n → Called g f (i, tt) y q → (q ≡ f) × (y ≡ h i)) → ys ≡ tabulated h n
tabulated_from_fn g f ys n h d m call =
    tabulated_all h ys n d m.long (λ k l. made_from g f ys h d n 0 f (λ j y q b c. call j y q (omega arith) c) refl m.each k (omega arith) (omega arith))

-- What every call gives, each element has.
pub each_from_fn : {F X : Type 0} (g : Mut F (ℕ × Unit {0}) X) (f : F) (ys : List X) (n : ℕ) (P : X → Type 0) (d : X)
    → IsFromFnResult g f ys n → ((i : ℕ) (p : F) (y : X) (q : F) → i < n → Called g p (i, tt) y q → P y) → (i : ℕ) → i < n → P (get_or ys i d)
each_from_fn g f ys n P d m call i l = let k = m.at i d l in call i k.0 (get_or ys i d) k.1 l k.2
