use Rattle.std.proofs.Common.{sym, ap, ◌∙◌}
use Rattle.ledger.specs.Days.{close_state}
use Rattle.book.specs.Closing.{end_refusal}
use Rattle.book.proofs.Keeping.{end_refused_good}
use Rattle.twodays.proofs.Replies.{refused_for}
use Rattle.twodays.proofs.day.OpenDay.end.Goals as goal

pub invariant_of-result-in-Err : goal.invariant_of-result-in-Err
invariant_of-result-in-Err c =
    let a = c.args.self in
    let b = a.book in
    let e = c.end_day.ensures in
    record {
      good = end_refused_good b.desk c.end_day.new.self.desk b.ledger.state c.end_day.new.self.ledger.state a.permit c.in-Err.permit (end_refusal b.desk b.ledger.state a.permit c.args.rate) c.in-Err.refusal c.args.rate
          (sym e.answer ∙ c.in-Err.is) e.desk e.ledger a.good;
    }

pub returns-in-Err : goal.returns-in-Err
returns-in-Err c =
    let a = c.args.self in
    let b = a.book in
    let e = c.end_day.ensures in
    let refused = refused_for a.permit c.in-Err.permit _ (end_refusal b.desk b.ledger.state a.permit c.args.rate) c.in-Err.refusal (sym e.answer ∙ c.in-Err.is) in
    (sym refused, e.desk, e.ledger ∙ ap (λ o. close_state o b.ledger.state c.args.rate) (sym refused))
