use Rattle.std.proofs.Common.{get_or, pos, rules}
use Rattle.ledger.specs.Settle.{nothing, change_of}
use Rattle.ledger.proofs.Made.{tabulated_from_fn}
use Rattle.ledger.proofs.settling.Outcomes.changes.Goals as goal

pub returns : goal.returns
returns c = tabulated_from_fn _ _ _ _ (λ a. change_of (get_or c.args.self.now.each a nothing)) (pos 0) c.from_fn.ensures.items (λ i y q l k. search rules)
