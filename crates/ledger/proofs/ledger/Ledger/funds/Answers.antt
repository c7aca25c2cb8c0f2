use Rattle.std.proofs.Common.{rules}
use Rattle.ledger.specs.Sound.{Sound}
use Rattle.ledger.proofs.Outcomes.{roomy}
use Rattle.ledger.proofs.ledger.Ledger.funds.Goals as goal

pub funds-requires-clause-least : goal.funds-requires-clause-least
funds-requires-clause-least c =
    let s = c.args.self.now.state in
    let sound : Sound s = search rules in
    (roomy s c.index.result c.index.ensures.within sound).3
