-- Pieces that are passed over.
use Rattle.std.proofs.Common.{◌≡◌, ℕ, zero, suc, ◌+◌, refl, ap, arith}
use Rattle.lines.specs.Field.{Spot, next, ahead}

pub ahead_more : (s : Spot) (n m : ℕ) → n ≡ m + 1 → ahead n s ≡ ahead m (next s)
ahead_more s zero m h = absurd (omega arith)
ahead_more s (suc n) m h = let e : n ≡ m = omega arith in ap (λ (k : ℕ). ahead k (next s)) e

pub ahead_none : (s : Spot) (n : ℕ) → n ≡ 0 → ahead n s ≡ s
ahead_none s zero h = refl
ahead_none s (suc n) h = absurd (omega arith)
