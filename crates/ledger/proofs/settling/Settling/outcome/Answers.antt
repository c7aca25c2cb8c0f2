use Rattle.std.proofs.Common.{sym, subst, arith}
use Rattle.ledger.specs.Settle.{Near}
use Rattle.ledger.proofs.Outcomes.{outcome_none, outcome_more, near_more, near_none, near_wide}
use Rattle.ledger.proofs.settling.Settling.outcome.Goals as goal

pub loop-place-init : goal.loop-place-init
loop-place-init g c = let s = c.args.self.now in (outcome_none (g.M.MarginRule.holding s.rule.now) s.state.now s.prices c.args.account, near_none)

pub plus-sums-requires-clause-sums : goal.plus-sums-requires-clause-sums
plus-sums-requires-clause-sums g c = near_wide c.loop-place.place c.loop-place.sums (omega arith) c.loop-place.invariant.1

pub loop-place-preserved : goal.loop-place-preserved
loop-place-preserved g c =
    let s = c.args.self.now in
    let more = outcome_more (g.M.MarginRule.holding s.rule.now) s.state.now s.prices c.args.account c.loop-place.place in
    let was = c.loop-place.invariant.0 in
    (cc, subst (Near _) (sym c.plus-sums.ensures) (near_more c.loop-place.place c.loop-place.sums c.row_outcome.result c.loop-place.invariant.1 c.row_outcome.ensures.near))
