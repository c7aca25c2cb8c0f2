use Rattle.ledger.proofs.WorkedDays.{worked_days}
use Rattle.ledger.proofs.worked.worked_days.Goals as goal

pub returns : goal.returns
returns c = worked_days
