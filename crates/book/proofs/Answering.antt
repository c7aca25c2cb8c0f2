-- The reason of an answer.
use Rattle.std.proofs.Common.{◌≡◌, Some, None, Option, refl}
use Rattle.refusal.specs.declared.Refusal.{Refusal}
use Rattle.refusal.specs.Reasons.{answered}
use Rattle.book.specs.Gates.{why}

pub why_answered : (q : Option Refusal) → why (answered q) ≡ q
why_answered None = refl
why_answered (Some w) = refl
