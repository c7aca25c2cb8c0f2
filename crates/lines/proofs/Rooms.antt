-- Room for the digits that are still to come: a number of so many digits stays below 10^13.
use Rattle.std.proofs.Common.{◌≡◌, ℕ, zero, suc, ◌+◌, ◌-◌, ◌*◌, ◌^◌, ◌<◌, ◌≤◌, sym, ap, ◌∙◌, subst, mul-le-mul_right, mul_assoc, mul_comm, mul-le-mul_left, pow-suc, mul-one, arith, pow-add}
use native.Mathlib.Nat.{pow-zero}

ten_pos : (n : ℕ) → 1 ≤ 10 ^ n
ten_pos zero = rw (pow-zero 10) (omega arith)
ten_pos (suc n) = let h = ten_pos n in rw (pow-suc 10 n) (omega arith)

ten_mono : (n k : ℕ) → 10 ^ n ≤ 10 ^ (n + k)
ten_mono n k = let h = mul-le-mul_left (10 ^ n) (ten_pos k) in rw (pow-add 10 n k) (omega (arith, mul-one (10 ^ n)))

-- In the room for n digits more, high itself stays below m.
pub room_now : (high n m : ℕ) → (high + 1) * 10 ^ n ≤ m → high < m
room_now high n m h = let k = mul-le-mul_left (high + 1) (ten_pos n) in omega (arith, mul-one (high + 1))

-- One digit d on there is room for the digits that are left.
pub room_next : (high n k d m : ℕ) → d < 10 → n ≡ k + 1 → (high + 1) * 10 ^ n ≤ m → (high * 10 + d + 1) * 10 ^ k ≤ m
room_next high n k d m l e h =
    let s : 10 ^ n ≡ 10 * 10 ^ k = ap (λ x. 10 ^ x) (e ∙ omega arith) ∙ pow-suc 10 k ∙ mul_comm _ _ in
    let t : (high + 1) * 10 ^ n ≡ ((high + 1) * 10) * 10 ^ k = ap (λ x. (high + 1) * x) s ∙ sym (mul_assoc (high + 1) 10 (10 ^ k)) in
    let u : (high * 10 + d + 1) * 10 ^ k ≤ ((high + 1) * 10) * 10 ^ k = mul-le-mul_right (10 ^ k) (omega arith) in
    omega arith

pub room_first : (n : ℕ) → n < 14 → 1 * 10 ^ n ≤ 10 ^ 13
room_first n h =
    let e : n + (13 - n) ≡ 13 = omega arith in
    let k = subst (λ x. 10 ^ n ≤ 10 ^ x) e (ten_mono n (13 - n)) in
    omega arith
