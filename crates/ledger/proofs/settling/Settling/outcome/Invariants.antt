use Rattle.std.proofs.Common.{◌≡◌}
use Rattle.ledger.specs.Settle.{outcome_to, Near}
use Rattle.ledger.proofs.settling.Settling.outcome.Given as goal

-- The sums of the rows so far.
abbrev pub invariant-loop-place : goal.invariant-loop-place
invariant-loop-place g l = (l.sums ≡ outcome_to (g.M.MarginRule.holding l.self.rule.now) l.self.state.now l.self.prices l.account l.place) × Near l.place l.sums
