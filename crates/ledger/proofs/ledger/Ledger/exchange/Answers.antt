use Rattle.std.proofs.Common.{◌≡◌, length, sym, subst, rules}
use Rattle.ledger.specs.Sound.{Sound}
use Rattle.ledger.proofs.Exchanging.{struck, tradable, exchange_keeps}
use Rattle.ledger.proofs.Types.{invariant}
use Rattle.ledger.proofs.ledger.Ledger.exchange.Goals as goal

pub exchanged-self-requires-clause-tradable : goal.exchanged-self-requires-clause-tradable
exchanged-self-requires-clause-tradable g c =
    let a = c.args in
    let s = a.self.now.state in
    let sound : Sound s = search rules in
    let opening = g.M.MarginRule.opening a.rule.now in
    let k = struck opening s a.deal a.room c.in_ok-bargain.bargain c.in_ok-bargain.ensures.0 in
    tradable opening s a.deal a.room c.in_ok-bargain.bargain (g.met.M.MarginRule.opens a.rule.now) sound k

pub fee-requires : goal.fee-requires
fee-requires g c =
    let a = c.args in
    let s = a.self.now.state in
    let sound : Sound s = search rules in
    let opening = g.M.MarginRule.opening a.rule.now in
    let k = struck opening s a.deal a.room c.in_ok-bargain.bargain c.in_ok-bargain.ensures.0 in
    let t = tradable opening s a.deal a.room c.in_ok-bargain.bargain (g.met.M.MarginRule.opens a.rule.now) sound k in
    record { fee = t.fee; quantity = t.range.most }

pub invariant_of-self : goal.invariant_of-self
invariant_of-self g c =
    let a = c.args in
    let s = a.self.now.state in
    let la : length s.accounts ≡ 32 = search rules in
    let lp : length s.places ≡ 12 = search rules in
    let lr : length s.table.rows ≡ 384 = search rules in
    let sound : Sound s = search rules in
    let opening = g.M.MarginRule.opening a.rule.now in
    let k = struck opening s a.deal a.room c.in_ok-bargain.bargain c.in_ok-bargain.ensures.0 in
    invariant _ (subst Sound (sym c.exchanged-self.ensures) (exchange_keeps opening s a.deal a.room c.in_ok-bargain.bargain la lp lr sound k))
