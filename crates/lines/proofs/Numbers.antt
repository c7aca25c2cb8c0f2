-- Numbers that are read one after another.
use Rattle.std.proofs.Common.{◌≡◌, ℕ, zero, suc, ◌+◌, ◌<◌, Ok, Err, Result, List, [], ◌∷◌, length, get_or, sym, refl, ap, ◌∙◌, ◌≢◌, set, below_more, get_or-set_other, get_or-set_same, add-one, arith}
use Rattle.lines.specs.declared.instruction.Spoiled.{Spoiled}
use Rattle.lines.specs.Field.{Spot, next, ahead, number_at, with_number, numbers_at}
use Rattle.lines.specs.Line.{listing_at}

ahead_suc : (k : ℕ) (s : Spot) → ahead (suc k) s ≡ next (ahead k s)
ahead_suc zero s = refl
ahead_suc (suc k) s = ahead_suc k (next s)

pub ahead_next : (k : ℕ) (s : Spot) → ahead (k + 1) s ≡ next (ahead k s)
ahead_next k s = rw (add-one k) (ahead_suc k s)

-- One more is read, where a cursor stands at it.
pub more_read : (i x : ℕ) (xs : List ℕ) (s t : Spot) (r : Result ℕ Spoiled) → i < length xs → t ≡ ahead i s → r ≡ number_at 0 t → r ≡ Ok x → ((k : ℕ) → k < i → number_at k s ≡ Ok (get_or xs k 0)) → (k : ℕ) → k < i + 1 → number_at k s ≡ Ok (get_or (set xs i x) k 0)
more_read i x xs s t r l moved value was h =
    below_more (λ k. number_at k s ≡ Ok (get_or (set xs i x) k 0)) i
    (λ k m. let ne : k ≢ i = omega arith in rw get_or-set_other (h k m))
    (rw get_or-set_same (ap (number_at 0) (sym moved) ∙ sym value ∙ was))

-- Each of them is there.
pub all_read : (n : ℕ) (xs : List ℕ) (s : Spot) → length xs ≡ n → ((k : ℕ) → k < n → number_at k s ≡ Ok (get_or xs k 0)) → Ok xs ≡ numbers_at n s
all_read zero [] s l h = refl
all_read zero (x ∷ xs) s l h = absurd (omega arith)
all_read (suc n) [] s l h = absurd (omega arith)
all_read (suc n) (x ∷ xs) s l h = ap (with_number (Ok x)) (all_read n xs (next s) (omega arith) (λ k m. h (suc k) (omega arith))) ∙ ap (λ (r : Result ℕ Spoiled). with_number r (numbers_at n (next s))) (sym (h 0 (omega arith)))

-- The first that is none.
pub wrong_at : (n i : ℕ) (read : ℕ → ℕ) (s : Spot) (e : Spoiled) → i < n → ((k : ℕ) → k < i → number_at k s ≡ Ok (read k)) → number_at i s ≡ Err e → Err e ≡ numbers_at n s
wrong_at zero i read s e l h w = absurd (omega arith)
wrong_at (suc n) zero read s e l h w = ap (λ (r : Result ℕ Spoiled). with_number r (numbers_at n (next s))) (sym w)
wrong_at (suc n) (suc i) read s e l h w = ap (with_number (Ok (read 0))) (wrong_at n i (λ k. read (suc k)) (next s) e (omega arith) (λ k m. h (suc k) (omega arith)) w) ∙ ap (λ (r : Result ℕ Spoiled). with_number r (numbers_at n (next s))) (sym (h 0 (omega arith)))

-- A listing whose seven numbers are not all there. The check finds the shorter instructions by itself.
pub listing_wrong : (s : Spot) (e : Spoiled) → Err e ≡ numbers_at 7 s → Err e ≡ listing_at s
listing_wrong s e h = grind arith
