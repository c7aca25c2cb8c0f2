use Rattle.std.proofs.Common.{sym, subst, rules}
use Rattle.ledger.specs.Days.{close_refusal}
use Rattle.ledger.specs.Sound.{Sound}
use Rattle.ledger.proofs.Answered.{unrefused}
use Rattle.ledger.proofs.Opening.{close_keeps}
use Rattle.ledger.proofs.Types.{invariant}
use Rattle.ledger.proofs.ledger.Ledger.close.Goals as goal

pub invariant_of-self : goal.invariant_of-self
invariant_of-self c =
    let a = c.args in
    let s = a.self.now.state in
    let sound : Sound s = search rules in
    let kept = close_keeps s a.rate sound (unrefused (close_refusal s a.rate) c.in_ok-check_close.ensures) in
    invariant _ (subst Sound (sym c.closed-self.ensures) kept)
