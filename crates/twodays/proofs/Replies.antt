-- Why a reply that hands a permit back is a refusal.
use Rattle.std.proofs.Common.{◌≡◌, ℕ, Some, None, Err, Option, sym, ap, arith}
use Rattle.refusal.specs.declared.Refusal.{Refusal}
use Rattle.book.specs.Gates.{spent_for}

-- A call that spends a permit, or hands it back with its refusal.
pub refused_for : {P A : Type 0} (p q : P) (a : A) (o : Option Refusal) (w : Refusal) → spent_for p a o ≡ Err (q, w) → Some w ≡ o
refused_for p q a None w h = let z : ◌≡◌ {A = ℕ} 0 1 = cc in absurd (omega arith)
refused_for {P} p q a (Some v) w h =
    let pair : (p, v) ≡ (q, w) = cc in
    sym (ap (λ (x : P × Refusal). Some x.1) pair)
