use Rattle.std.proofs.Common.{◌≡◌, true, sym, subst, rules}
use Rattle.ledger.specs.Places.{is_closed}
use Rattle.ledger.specs.Sound.{Sound}
use Rattle.ledger.proofs.Revaluing.{settle_keeps}
use Rattle.ledger.proofs.Types.{invariant}
use Rattle.ledger.proofs.ledger.Ledger.revalue.Goals as goal

pub invariant_of-self : goal.invariant_of-self
invariant_of-self g c =
    let a = c.args in
    let s = a.self.now.state in
    let sound : Sound s = search rules in
    let shut : is_closed s.stage ≡ true = search rules in
    let kept = settle_keeps (g.P.PriceRule.meaning a.price.now) (g.M.MarginRule.holding a.margin.now) s (g.met.P.PriceRule.inside a.price.now) c.settled.ensures.near sound shut in
    invariant _ (subst Sound (sym c.settled.ensures.state) kept)
