use Rattle.std.proofs.Common.{refl}
use Rattle.lines.specs.Token.{token_of}
use Rattle.lines.proofs.Columns.{columns_are_positions}
use Rattle.lines.proofs.Openings.{first_lines_are_the_lines}
use Rattle.lines.proofs.Pieces.{spaces_part_pieces}
use Rattle.lines.proofs.examples.worked.Goals as goal

pub returns-clause-read : goal.returns-clause-read
unfolding token_of
returns-clause-read c = refl

pub returns-clause-lines : goal.returns-clause-lines
returns-clause-lines c = first_lines_are_the_lines

pub returns-clause-pieces : goal.returns-clause-pieces
returns-clause-pieces c = spaces_part_pieces

pub returns-clause-columns : goal.returns-clause-columns
returns-clause-columns c = columns_are_positions
