use Rattle.rules.proofs.AllLaws.{rules_mean}
use Rattle.rules.proofs.laws.laws_hold.Goals as goal

pub returns : goal.returns
returns c = rules_mean
