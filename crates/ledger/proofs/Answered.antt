-- What the answer of a check says of its refusal.
use Rattle.std.proofs.Common.{◌≡◌, ℕ, Some, None, Ok, Option, arith, refl}
use Rattle.refusal.specs.declared.Refusal.{Refusal}
use Rattle.refusal.specs.Reasons.{answered}

pub unrefused : (o : Option Refusal) → Ok tt ≡ answered o → o ≡ None
unrefused None e = refl
unrefused (Some w) e = let z : ◌≡◌ {A = ℕ} 0 1 = cc in absurd (omega arith)
