use Rattle.std.proofs.Common.{sym, subst, rules}
use Rattle.ledger.specs.Days.{open_refusal}
use Rattle.ledger.specs.Sound.{Sound}
use Rattle.ledger.proofs.Answered.{unrefused}
use Rattle.ledger.proofs.Opening.{open_keeps}
use Rattle.ledger.proofs.Types.{invariant}
use Rattle.ledger.proofs.ledger.Ledger.open.Goals as goal

pub invariant_of-self : goal.invariant_of-self
invariant_of-self c =
    let a = c.args in
    let s = a.self.now.state in
    let sound : Sound s = search rules in
    let kept = open_keeps s a.room sound (unrefused (open_refusal s a.room) c.in_ok-check_open.ensures) in
    invariant _ (subst Sound (sym c.opened-self.ensures) kept)
