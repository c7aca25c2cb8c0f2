use Rattle.std.proofs.Common.{get_or, rules}
use Rattle.ledger.specs.Places.{account_at, no_account}
use Rattle.ledger.specs.Settle.{nothing, settled_account}
use Rattle.ledger.proofs.Made.{tabulated_from_fn}
use Rattle.ledger.proofs.settling.Settling.accounts.Goals as goal

pub returns : goal.returns
returns g c = tabulated_from_fn _ _ _ _ (λ a. settled_account (account_at c.args.self.now.state.now a) (get_or c.args.outcomes.now.each a nothing)) no_account c.from_fn.ensures.items (λ i y q l k. search rules)
