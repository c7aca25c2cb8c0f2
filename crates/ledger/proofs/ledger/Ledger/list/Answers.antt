use Rattle.std.proofs.Common.{◌≡◌, length, sym, subst, rules}
use Rattle.ledger.specs.Sound.{Sound}
use Rattle.ledger.proofs.Listings.{list_keeps}
use Rattle.ledger.proofs.Types.{invariant}
use Rattle.ledger.proofs.ledger.Ledger.list.Goals as goal

pub invariant_of-self : goal.invariant_of-self
invariant_of-self c =
    let a = c.args in
    let s = a.self.now.state in
    let long : length s.places ≡ 12 = search rules in
    let sound : Sound s = search rules in
    let kept : Sound c.listed-self.result = subst Sound (sym c.listed-self.ensures) (list_keeps s a.listing long sound c.in_ok-at.ensures.0) in
    invariant _ kept
