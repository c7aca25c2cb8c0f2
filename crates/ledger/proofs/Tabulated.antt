-- Sums and lists by a number's turns.
use Rattle.std.proofs.Common.{◌≡◌, ℕ, zero, suc, ◌+◌, ◌*◌, ◌<◌, ◌≤◌, ◌≢◌, List, [], ◌∷◌, length, get_or, sum_by, sym, refl, ap, ◌∙◌, subst, inl, inr, arith}
use Rattle.std.proofs.lemmas.Bool.{cases_eq}
use Rattle.std.proofs.lemmas.List.Sums.{sum_by-cons}
use Rattle.std.proofs.lemmas.List.FromFn.{fill_by_all, get_or-map-range_with_len, length-map-range_with_len}
use Rattle.ledger.specs.Sums.{sum_to, tabulated}

pub tabulated_all : {X : Type 0} (f : ℕ → X) (xs : List X) (n : ℕ) (d : X) → length xs ≡ n → ((k : ℕ) → k < n → get_or xs k d ≡ f k) → xs ≡ tabulated f n
unfolding tabulated
tabulated_all f xs n d e h = fill_by_all f xs n d e h

pub tabulated_at : {X : Type 0} (f : ℕ → X) (n i : ℕ) (d : X) → i < n → get_or (tabulated f n) i d ≡ f i
unfolding tabulated
tabulated_at f n i d h = get_or-map-range_with_len f 0 n i i d h (omega arith)

pub tabulated_length : {X : Type 0} (f : ℕ → X) (n : ℕ) → length (tabulated f n) ≡ n
unfolding tabulated
tabulated_length f n = length-map-range_with_len f 0 n

pub sum_none : (f : ℕ → ℕ) (n : ℕ) → ((k : ℕ) → k < n → f k ≡ 0) → sum_to f n ≡ 0
unfolding sum_to
sum_none f zero h = refl
sum_none f (suc n) h = let i = sum_none f n (λ k l. h k (omega arith)) in let j = h n (omega arith) in omega arith

pub sum_same : (f g : ℕ → ℕ) (n : ℕ) → ((k : ℕ) → k < n → f k ≡ g k) → sum_to f n ≡ sum_to g n
unfolding sum_to
sum_same f g zero h = refl
sum_same f g (suc n) h = let i = sum_same f g n (λ k l. h k (omega arith)) in let j = h n (omega arith) in omega arith

pub sum_most : (f : ℕ → ℕ) (c n : ℕ) → ((k : ℕ) → k < n → f k ≤ c) → sum_to f n ≤ c * n
unfolding sum_to
sum_most f c zero h = omega arith
sum_most f c (suc n) h = let i = sum_most f c n (λ k l. h k (omega arith)) in let j = h n (omega arith) in omega arith

-- One term raised by d raises the sum by d.
pub sum_raised : (f g : ℕ → ℕ) (n i d : ℕ) → i < n → g i ≡ f i + d → ((k : ℕ) → k < n → k ≢ i → g k ≡ f k) → sum_to g n ≡ sum_to f n + d
unfolding sum_to
sum_raised f g zero i d lt here other = absurd (omega arith)
sum_raised f g (suc n) i d lt here other =
    elim (cases_eq i n) [
      | inl last ↦ (let same = sum_same g f n (λ k l. other k (omega arith) (λ e. absurd (omega arith))) in let at : g n ≡ f n + d = subst (λ (k : ℕ). g k ≡ f k + d) last here in omega arith)
      | inr ne ↦ (let below = sum_raised f g n i d (omega arith) here (λ k l m. other k (omega arith) m) in let at = other n (omega arith) (λ e. ne (sym e)) in omega arith)
    ]

pub tabulated_same : {X : Type 0} (f g : ℕ → X) (n : ℕ) (d : X) → ((k : ℕ) → k < n → f k ≡ g k) → tabulated f n ≡ tabulated g n
tabulated_same f g n d h = tabulated_all g (tabulated f n) n d (tabulated_length f n) (λ k l. tabulated_at f n k d l ∙ h k l)

-- A sum by its first term, and a sum over a list by its indices.
sum_first : (f : ℕ → ℕ) (n : ℕ) → sum_to f (suc n) ≡ f 0 + sum_to (λ k. f (suc k)) n
unfolding sum_to
sum_first f zero = omega arith
sum_first f (suc n) = let i = sum_first f n in omega arith

pub sum_by_index : {X : Type 0} (f : X → ℕ) (xs : List X) (d : X) → sum_by f xs ≡ sum_to (λ k. f (get_or xs k d)) (length xs)
unfolding sum_to
sum_by_index f [] d = refl
sum_by_index f (x ∷ xs) d = sum_by-cons f x xs ∙ ap (λ n. f x + n) (sum_by_index f xs d) ∙ sym (sum_first (λ k. f (get_or (x ∷ xs) k d)) (length xs))
