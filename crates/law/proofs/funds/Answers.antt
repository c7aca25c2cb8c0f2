use Rattle.law.proofs.Balance.{balance}
use Rattle.law.proofs.funds.Goals as goal

pub returns-clause-law : goal.returns-clause-law
returns-clause-law c = balance
