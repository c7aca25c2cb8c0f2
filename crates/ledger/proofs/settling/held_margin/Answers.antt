use Rattle.std.proofs.Common.{arith}
use Rattle.rules.specs.MarginLaws.{fair_small}
use Rattle.ledger.proofs.settling.held_margin.Goals as goal

pub returns : goal.returns
returns g c =
    let r = c.args.row.now in
    let fair = fair_small (g.met.M.MarginRule.holds c.args.rule.now c.args.mark r.long r.short c.args.ratio) in
    record { value = c.holding_margin.ensures; most = omega (arith, fair, c.holding_margin.ensures) }
