use Rattle.std.proofs.Common.{rules}
use Rattle.std.proofs.iter.runs.Made.{chains}
use Rattle.lines.proofs.Pieces.{spaces_counted}
use Rattle.lines.proofs.field.count_fields.Goals as goal

pub returns : goal.returns
returns c = rw (spaces_counted c.args.line.now) (search (rules, chains))
