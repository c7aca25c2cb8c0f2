-- Products of signed numbers, as the code makes them: from amounts, with the sign put back.
use Rattle.std.proofs.Common.{◌≡◌, ℕ, suc, ◌+◌, ◌-◌, ◌*◌, true, false, ℤ, pos, negsuc, ◌-ℤ◌, ◌*ℤ◌, nat_abs, sym, ap, ◌∙◌, ⊎_elim, mul-add, arith, rules}
use lib.IntN.{pos-*ℤ-pos, pos-*ℤ-negsuc, negsuc-*ℤ-pos, negsuc-*ℤ-negsuc}
use lib.Signed.{lt_z}
use Rattle.std.proofs.lemmas.Int.{ints}
use Rattle.std.proofs.lemmas.Bool.{cases_lt}

-- A product with a sum, in the form that a difference needs.
parts : (n m k o : ℕ) → o ≡ m + k → n * o ≡ n * m + n * k
parts n m k o e = ap (λ x. n * x) e ∙ mul-add n m k

pub times_up : (n m o : ℕ) → pos n *ℤ (pos m -ℤ pos o) ≡ pos (n * m) -ℤ pos (n * o)
times_up n m o =
    ⊎_elim
    (λ lt. let k = o - m - 1 in
    let e : pos m -ℤ pos o ≡ negsuc k = omega (arith, ints) in
    let d = parts n m (suc k) o (omega arith) in
    ap (λ z. pos n *ℤ z) e ∙ pos-*ℤ-negsuc n k ∙ omega (arith, ints, d))
    (λ le. let e : pos m -ℤ pos o ≡ pos (m - o) = omega (arith, ints) in
    let d = parts n o (m - o) m (omega arith) in
    ap (λ z. pos n *ℤ z) e ∙ pos-*ℤ-pos n (m - o) ∙ omega (arith, ints, d))
    (cases_lt m o)

pub times_down : (n m o : ℕ) → negsuc n *ℤ (pos m -ℤ pos o) ≡ pos (suc n * o) -ℤ pos (suc n * m)
times_down n m o =
    ⊎_elim
    (λ lt. let k = o - m - 1 in
    let e : pos m -ℤ pos o ≡ negsuc k = omega (arith, ints) in
    let d = parts (suc n) m (suc k) o (omega arith) in
    ap (λ z. negsuc n *ℤ z) e ∙ negsuc-*ℤ-negsuc n k ∙ omega (arith, ints, d))
    (λ le. let e : pos m -ℤ pos o ≡ pos (m - o) = omega (arith, ints) in
    let d = parts (suc n) o (m - o) m (omega arith) in
    ap (λ z. negsuc n *ℤ z) e ∙ negsuc-*ℤ-pos n (m - o) ∙ omega (arith, ints, d))
    (cases_lt m o)

-- From the amount of z and its sign.
pub above : (z : ℤ) (n m o : ℕ) → n ≡ nat_abs z → lt_z z (pos 0) ≡ false → pos (n * m) -ℤ pos (n * o) ≡ z *ℤ (pos m -ℤ pos o)
above (pos k) n m o e t = ap (λ x. pos (x * m) -ℤ pos (x * o)) e ∙ sym (times_up k m o)
above (negsuc k) n m o e t = let z : ◌≡◌ {A = ℕ} 0 1 = cc in absurd (omega arith)

pub below : (z : ℤ) (n m o : ℕ) → n ≡ nat_abs z → lt_z z (pos 0) ≡ true → pos (n * o) -ℤ pos (n * m) ≡ z *ℤ (pos m -ℤ pos o)
below (pos k) n m o e t = search rules
below (negsuc k) n m o e t = ap (λ x. pos (x * o) -ℤ pos (x * m)) e ∙ sym (times_down k m o)

-- The same where the difference has been worked out as w.
pub worked_above : (z w : ℤ) (u d n m o : ℕ) → w ≡ pos u -ℤ pos d → u ≡ n * m → d ≡ n * o → n ≡ nat_abs z → lt_z z (pos 0) ≡ false → w ≡ z *ℤ (pos m -ℤ pos o)
worked_above z w u d n m o e p q a t = e ∙ (λ i. pos (p i) -ℤ pos (q i)) ∙ above z n m o a t

pub worked_below : (z w : ℤ) (u d n m o : ℕ) → w ≡ pos d -ℤ pos u → u ≡ n * m → d ≡ n * o → n ≡ nat_abs z → lt_z z (pos 0) ≡ true → w ≡ z *ℤ (pos m -ℤ pos o)
worked_below z w u d n m o e p q a t = e ∙ (λ i. pos (q i) -ℤ pos (p i)) ∙ below z n m o a t
