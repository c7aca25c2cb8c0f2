use Rattle.std.proofs.Common.{◌+◌, ◌-◌, sym, ap, ◌∙◌, arith}
use Rattle.lines.specs.Field.{Spot, ahead, spot}
use Rattle.lines.proofs.Skips.{ahead_more, ahead_none}
use Rattle.lines.proofs.cursor.Cursor.column_after.Goals as goal

pub loop-piece-preserved : goal.loop-piece-preserved
loop-piece-preserved c =
    ap (ahead (c.args.pieces - (c.loop-piece._piece + 1))) c.token.ensures.moved
    ∙ sym (ahead_more (spot c.loop-piece.self) (c.args.pieces - c.loop-piece._piece) (c.args.pieces - (c.loop-piece._piece + 1)) (omega arith))
    ∙ c.loop-piece.invariant

pub returns : goal.returns
returns c = ap (λ (s : Spot). s.column) (sym (ahead_none (spot c.loop-piece.self) (c.args.pieces - c.loop-piece._piece) (omega arith)) ∙ c.loop-piece.invariant)
