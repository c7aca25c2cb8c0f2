use Rattle.std.proofs.Common.{rules}
use Rattle.ledger.specs.Days.{opened_account}
use Rattle.ledger.specs.Places.{account_at, no_account}
use Rattle.ledger.proofs.Made.{tabulated_from_fn}
use Rattle.ledger.proofs.days.accounts.Goals as goal

pub returns : goal.returns
returns c = tabulated_from_fn _ _ _ _ (λ a. opened_account (account_at c.args.state.now a)) no_account c.from_fn.ensures.items (λ i y q l k. search rules)
