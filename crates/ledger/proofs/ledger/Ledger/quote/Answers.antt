use Rattle.std.proofs.Common.{◌≡◌, length, rules}
use Rattle.ledger.specs.Sound.{Sound}
use Rattle.ledger.proofs.Listings.{quote_keeps}
use Rattle.ledger.proofs.Types.{invariant}
use Rattle.ledger.proofs.ledger.Ledger.quote.Goals as goal

pub invariant_of-self : goal.invariant_of-self
invariant_of-self c =
    let a = c.args in
    let s = a.self.now.state in
    let long : length s.places ≡ 12 = search rules in
    let sound : Sound s = search rules in
    let kept : Sound c.quoted-self.result = rw (c.quoted-self.ensures, c.in_ok-at.ensures.1) (quote_keeps s a.place a.bid a.ask long sound c.in_ok-at.ensures.0) in
    invariant _ kept
