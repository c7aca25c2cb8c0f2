use Rattle.std.proofs.Output.{has_written_of_eq}
use Rattle.lines.proofs.Amounts.{formatted}
use Rattle.lines.proofs.amount.MagnitudeDisplay.fmt.Goals as goal

pub returns-clause-writes : goal.returns-clause-writes
returns-clause-writes g c p e = has_written_of_eq _ _ _ _ _ (formatted _ _ _ c.yuan-yuan.ensures c.decimals.ensures) (c.write.ensures.writes p e)
