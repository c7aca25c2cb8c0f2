use Rattle.std.proofs.Common.{◌≡◌, ◌-◌}
use Rattle.lines.specs.Field.{ahead, spot}
use Rattle.lines.proofs.cursor.Cursor.column_after.Given as goal

abbrev pub invariant-loop-piece : goal.invariant-loop-piece
invariant-loop-piece l = ahead (l.pieces - l._piece) (spot l.self) ≡ ahead l.pieces (spot l.initial.self)
