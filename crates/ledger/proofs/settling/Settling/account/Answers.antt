use Rattle.ledger.proofs.Outcomes.{roomy}
use Rattle.ledger.proofs.settling.Settling.account.Goals as goal

pub settle-requires-clause-room : goal.settle-requires-clause-room
settle-requires-clause-room g c = let s = c.args.self.now in roomy s.state.now c.args.account c.requires.account s.sound
