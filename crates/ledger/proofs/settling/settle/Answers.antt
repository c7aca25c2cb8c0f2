use Rattle.std.proofs.Common.{ℤ, ap, arith}
use Rattle.std.proofs.lemmas.Int.{ints}
use Rattle.ledger.specs.declared.state.Account.{Account}
use Rattle.ledger.proofs.settling.settle.Goals as goal

pub returns : goal.returns
returns c =
    let x = c.args.account.now in
    ap (λ (funds : ℤ). let y : Account = record { available = funds; margin = c.args.outcome.now.margin; paid = x.paid; payouts = x.payouts } in y) (omega (arith, ints))
