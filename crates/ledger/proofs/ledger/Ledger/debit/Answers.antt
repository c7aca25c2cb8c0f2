use Rattle.std.proofs.Common.{◌≡◌, length, rules}
use Rattle.ledger.specs.Sound.{Sound}
use Rattle.ledger.proofs.Banking.{debit_keeps}
use Rattle.ledger.proofs.Types.{invariant}
use Rattle.ledger.proofs.ledger.Ledger.debit.Goals as goal

pub invariant_of-self : goal.invariant_of-self
invariant_of-self c =
    let a = c.args in
    let s = a.self.now.state in
    let long : length s.accounts ≡ 32 = search rules in
    let sound : Sound s = search rules in
    let kept : Sound c.debited-self.result = rw (c.debited-self.ensures, c.in_ok-at.ensures.1) (debit_keeps s a.account a.fen a.room long sound c.in_ok-at.ensures.0) in
    invariant _ kept
