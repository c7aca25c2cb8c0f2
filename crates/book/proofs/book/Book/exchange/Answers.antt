use Rattle.std.proofs.Common.{rules}
use Rattle.ledger.specs.Sound.{Sound}
use Rattle.book.proofs.Striking.{dealt_in}
use Rattle.book.proofs.book.Book.exchange.Goals as goal

pub returns-clause-dealt : goal.returns-clause-dealt
returns-clause-dealt g c =
    let a = c.args in
    let s = a.self.now.ledger.state in
    let sound : Sound s = search rules in
    dealt_in (g.M.MarginRule.opening a.rule.now) s a.deal a.room c.exchange.result (g.met.M.MarginRule.opens a.rule.now) sound c.exchange.ensures.answer
