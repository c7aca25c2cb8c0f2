use Rattle.std.proofs.Common.{rules, length, refl}
use Rattle.book.specs.Cash.{pay_in_refusal}
use Rattle.book.proofs.Keeping.{pay_in_good}
use Rattle.twodays.proofs.day.OpenDay.pay_in.Goals as goal

pub step-requires-clause-open : goal.step-requires-clause-open
step-requires-clause-open c = λ r b k.
    let a = c.args in
    let d = a.self.book in
    let n = length a.archive.now in (
      pay_in_refusal d.desk d.ledger.state n a.self.permit a.account a.fen,
      search rules,
      pay_in_good d.desk b.desk d.ledger.state b.ledger.state n a.self.permit a.self.permit a.account a.fen refl (search rules) (search rules) a.self.good,
    )
