-- Linear arithmetic of signed numbers with products as unknowns, and that products spread over sums.
use Rattle.std.proofs.Common.{◌≡◌, ℕ, ◌*◌, ℤ, ◌+ℤ◌, ◌*ℤ◌, neg_ℤ, ap, arith}
use borrow.Author.Differences.{up, down, sum_is_lem, neg_is, product_is, same_in, same_out}

-- Linear arithmetic: a product is an unknown.
pub ruleset lin = (same_out, same_in, sum_is_lem, neg_is)

pub mul_right_add : (a b c : ℤ) → (a +ℤ b) *ℤ c ≡ a *ℤ c +ℤ b *ℤ c
mul_right_add a b c = same_in ((a +ℤ b) *ℤ c) (a *ℤ c +ℤ b *ℤ c)
    (omega (
      arith,
      product_is (a +ℤ b) c,
      product_is a c,
      product_is b c,
      sum_is_lem (a *ℤ c) (b *ℤ c),
      ap (λ (n : ℕ). n * up c) (sum_is_lem a b),
      ap (λ (n : ℕ). n * down c) (sum_is_lem a b),
    ))

pub mul_right_neg : (a c : ℤ) → neg_ℤ a *ℤ c ≡ neg_ℤ (a *ℤ c)
mul_right_neg a c = same_in (neg_ℤ a *ℤ c) (neg_ℤ (a *ℤ c))
    (omega (
      arith,
      product_is (neg_ℤ a) c,
      product_is a c,
      neg_is (a *ℤ c),
      ap (λ (n : ℕ). n * up c) (neg_is a).0,
      ap (λ (n : ℕ). n * up c) (neg_is a).1,
      ap (λ (n : ℕ). n * down c) (neg_is a).0,
      ap (λ (n : ℕ). n * down c) (neg_is a).1,
    ))

pub mul_left_add : (c a b : ℤ) → c *ℤ (a +ℤ b) ≡ c *ℤ a +ℤ c *ℤ b
mul_left_add c a b = same_in (c *ℤ (a +ℤ b)) (c *ℤ a +ℤ c *ℤ b)
    (omega (
      arith,
      product_is c (a +ℤ b),
      product_is c a,
      product_is c b,
      sum_is_lem (c *ℤ a) (c *ℤ b),
      ap (λ (n : ℕ). n * up c) (sum_is_lem a b),
      ap (λ (n : ℕ). n * down c) (sum_is_lem a b),
    ))

pub mul_left_neg : (c a : ℤ) → c *ℤ neg_ℤ a ≡ neg_ℤ (c *ℤ a)
mul_left_neg c a = same_in (c *ℤ neg_ℤ a) (neg_ℤ (c *ℤ a))
    (omega (
      arith,
      product_is c (neg_ℤ a),
      product_is c a,
      neg_is (c *ℤ a),
      ap (λ (n : ℕ). n * up c) (neg_is a).0,
      ap (λ (n : ℕ). n * up c) (neg_is a).1,
      ap (λ (n : ℕ). n * down c) (neg_is a).0,
      ap (λ (n : ℕ). n * down c) (neg_is a).1,
    ))
