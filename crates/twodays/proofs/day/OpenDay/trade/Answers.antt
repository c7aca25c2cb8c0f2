use Rattle.std.proofs.Common.{rules, length, refl}
use Rattle.rules.specs.Margin.{rated}
use Rattle.book.specs.Trading.{trade_refusal}
use Rattle.book.proofs.Keeping.{trade_good}
use Rattle.twodays.proofs.day.OpenDay.trade.Goals as goal

pub step-requires-clause-open : goal.step-requires-clause-open
step-requires-clause-open c = λ r b k.
    let a = c.args in
    let d = a.self.book in
    let n = length a.archive.now in (
      trade_refusal rated d.desk d.ledger.state n a.self.permit a.deal,
      search rules,
      trade_good rated d.desk b.desk d.ledger.state b.ledger.state n a.self.permit a.self.permit a.deal refl (search rules) (search rules) a.self.good,
    )
