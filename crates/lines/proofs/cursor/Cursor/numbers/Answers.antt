use Rattle.std.proofs.Common.{rules, arith, get_or, ap, sym, ◌∙◌}
use Rattle.std.proofs.lemmas.Result.{err_from_is_err_and}
use Rattle.lines.specs.Field.{spot, next, number_at}
use Rattle.lines.proofs.Numbers.{ahead_next, more_read, all_read, wrong_at}
use Rattle.lines.proofs.cursor.Cursor.numbers.Goals as goal

pub loop-number-preserved : goal.loop-number-preserved
loop-number-preserved g c =
    record {
      each = more_read _ _ _ _ _ _ (omega arith) c.loop-number.invariant.moved c.number.ensures.value c.in_ok-number.was c.loop-number.invariant.each;
      moved = c.number.ensures.moved ∙ ap next c.loop-number.invariant.moved ∙ sym (ahead_next c.loop-number.number-index (spot c.args.self.now));
      all = search rules;
    }

pub returns-in_err-number-clause-value : goal.returns-in_err-number-clause-value
returns-in_err-number-clause-value g c =
    let p = err_from_is_err_and c.from_residual.result c.from_residual.ensures.1 in
    rw (p.1, p.2) (wrong_at _ c.loop-number.number-index (λ k. get_or c.loop-number.number-items k 0) _ _ (omega arith) c.loop-number.invariant.each (ap (number_at 0) (sym c.loop-number.invariant.moved) ∙ sym c.number.ensures.value ∙ c.in_err-number.was))

pub returns-clause-value : goal.returns-clause-value
returns-clause-value g c = all_read _ _ _ c.loop-number.invariant.all (λ k h. c.loop-number.invariant.each k (omega arith))
