use Rattle.tally.proofs.Run.{agree, tallied}
use Rattle.tally.proofs.equity.Goals as goal

pub returns : goal.returns
returns c = record { value = c.held.ensures; tallied = tallied c.args.ledger.now.state c.args.account _ c.held.ensures; agree = agree }
