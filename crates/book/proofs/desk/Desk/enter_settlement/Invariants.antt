use Rattle.book.proofs.Entering.{Left}
use Rattle.book.proofs.desk.Desk.enter_settlement.Given as goal

abbrev pub invariant-loop-index : goal.invariant-loop-index
invariant-loop-index l =
    let rest = l.index-iterator.iter in
    Left l.initial.self l.initial.archive l.day l.accounts l.changes l.index-iterator.count rest.a.rest.now rest.b.rest.now l.self l.archive
