use Rattle.std.proofs.Common.{◌≡◌, ◌^◌, ◌<◌, sum_by, arith, rules}
use Rattle.ledger.specs.declared.state.Outcome.{Outcome}
use Rattle.ledger.proofs.Outcomes.{fees_small}
use Rattle.ledger.proofs.settling.Outcomes.delivery_fees.Goals as goal

pub sum-requires-clause-fits : goal.sum-requires-clause-fits
sum-requires-clause-fits c =
    let s = c.args.self.now in
    let few = fees_small s.each (search rules) s.near in
    let fits : sum_by (λ (o : Outcome). o.fee) s.each < 2 ^ 64 = omega (arith, few) in
    search rules

pub returns-clause-most : goal.returns-clause-most
returns-clause-most c =
    let s = c.args.self.now in
    let few = fees_small s.each (search rules) s.near in
    let value : c.sum.result ≡ sum_by (λ (o : Outcome). o.fee) s.each = search rules in
    omega (arith, few, value)
