use Rattle.std.proofs.Common.{rules}
use Rattle.ledger.specs.Settle.{outcome_to, nothing, Near}
use Rattle.ledger.proofs.Made.{tabulated_from_fn, each_from_fn}
use Rattle.ledger.proofs.settling.Settling.outcomes.Goals as goal

pub invariant_of-result : goal.invariant_of-result
invariant_of-result g c = record { near = each_from_fn _ _ _ _ (Near 12) nothing c.from_fn.ensures.items (λ i p y q l k. search rules) }

pub returns : goal.returns
returns g c =
    let s = c.args.self.now in
    tabulated_from_fn _ _ _ _ (λ a. outcome_to (g.M.MarginRule.holding s.rule.now) s.state.now s.prices a 12) nothing c.from_fn.ensures.items (λ i y q l k. search rules)
