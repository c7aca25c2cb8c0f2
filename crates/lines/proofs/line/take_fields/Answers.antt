use Rattle.std.proofs.Common.{sym, ◌∙◌}
use Rattle.std.proofs.lemmas.Result.{err_from_is_err_and}
use Rattle.lines.specs.Field.{spot}
use Rattle.lines.proofs.Numbers.{listing_wrong}
use Rattle.lines.proofs.line.take_fields.Goals as goal

pub returns-in_err-place-in-List : goal.returns-in_err-place-in-List
returns-in_err-place-in-List c =
    let p = err_from_is_err_and c.from_residual-in_err-place-in-List.result c.from_residual-in_err-place-in-List.ensures.1 in
    rw (p.1, p.2, c.in-List.is) (listing_wrong (spot c.args.cursor) _ (sym c.in_err-place-in-List.was ∙ c.numbers-in-List.ensures.value))
