use Rattle.std.proofs.Common.{refl, ap, ◌∙◌}
use Rattle.book.specs.Gates.{day_gate}
use Rattle.twodays.proofs.day.OpenDay.step.Goals as goal

pub invariant_of-result : goal.invariant_of-result
invariant_of-result g c =
    let b = c.call.new.arg2 in
    let a = c.args.self in
    let k = c.requires.open c.call.result b (record { shown = _; shows = refl; left = _; met = c.call.ensures; leaves = refl }) in
    record { good = ap (λ p. day_gate b.desk b.ledger.state p) (c.parted-answer.ensures a.permit k.0 k.1).0 ∙ k.2 }

pub returns-clause-permit : goal.returns-clause-permit
returns-clause-permit g c =
    let k = c.requires.open c.call.result c.call.new.arg2 (record { shown = _; shows = refl; left = _; met = c.call.ensures; leaves = refl }) in
    (c.parted-answer.ensures c.args.self.permit k.0 k.1).0

pub returns-clause-steps : goal.returns-clause-steps
returns-clause-steps g c = record {
  reply = c.call.result;
  calls = record { shown = _; shows = refl; left = _; met = c.call.ensures; leaves = refl };
  answer = λ o is. (c.parted-answer.ensures c.args.self.permit o is).1;
}
