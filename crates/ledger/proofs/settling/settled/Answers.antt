use Rattle.std.proofs.Common.{sym, subst, arith}
use Rattle.ledger.specs.Settle.{Priced, Near}
use Rattle.ledger.proofs.Exchanging.{days_small, taken_small}
use Rattle.ledger.proofs.Outcomes.{assembled, assembled_said, each}
use Rattle.ledger.proofs.Pricing.{prices_small}
use Rattle.ledger.proofs.settling.settled.Goals as goal

pub invariant_of-settling : goal.invariant_of-settling
invariant_of-settling g c = record {
  sound = c.requires.sound;
  priced = subst Priced (sym c.prices.ensures) (prices_small (g.P.PriceRule.meaning c.args.price.now) c.args.state.now (g.met.P.PriceRule.inside c.args.price.now) c.requires.sound c.requires.closed);
}

pub overflow_add-next : goal.overflow_add-next
overflow_add-next g c =
    let s = c.args.state.now in
    let sound = c.requires.sound in
    omega (arith, sound.fees.0, days_small s sound, taken_small s sound, c.delivery_fees.ensures.most)

pub returns-clause-state : goal.returns-clause-state
returns-clause-state g c =
    assembled (g.M.MarginRule.holding c.args.margin.now) c.args.state.now _ c.prices.result c.outcomes-outcomes.result.each _ _ _ _ c.prices.ensures c.outcomes-outcomes.ensures c.delivery_fees.ensures.value c.accounts.ensures c.places.ensures c.table.ensures

pub returns-clause-near : goal.returns-clause-near
returns-clause-near g c = λ a l. let os = c.outcomes-outcomes.result in
    subst (Near 12) (each (g.M.MarginRule.holding c.args.margin.now) c.args.state.now _ c.prices.result os.each c.prices.ensures c.outcomes-outcomes.ensures a l) (os.near a l)

pub returns-clause-said : goal.returns-clause-said
returns-clause-said g c = assembled_said (g.M.MarginRule.holding c.args.margin.now) c.args.state.now _ c.prices.result c.outcomes-outcomes.result.each _ _ c.prices.ensures c.outcomes-outcomes.ensures c.contracts.ensures c.changes.ensures
