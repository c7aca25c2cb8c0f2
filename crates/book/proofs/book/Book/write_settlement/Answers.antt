use Rattle.std.proofs.Common.{length, ap, ◌∙◌}
use Rattle.book.specs.declared.desk.Desk.{Desk}
use Rattle.book.specs.Entries.{settlement_moves}
use Rattle.book.proofs.Entering.{settled_slots, with_laid_kept}
use Rattle.book.proofs.Staged.{resting_room}
use Rattle.book.proofs.book.Book.write_settlement.Goals as goal

-- The desk before the entries is named by `_`, as the code left it.
pub invariant_of-self : goal.invariant_of-self
invariant_of-self c =
    let b = c.args.self.now in
    let desk = c.enter_settlement.ensures.desk in
    let takes = c.requires.room in
    record {
      slots = settled_slots _ c.enter_settlement.new.self _ (length c.args.archive.now) _ _ desk b.slots (record { founded = takes.founded; bytes = takes.bytes; room = takes.room });
      room = resting_room c.enter_settlement.new.self b.ledger.state c.requires.rests;
      rest = λ _. ap (λ (x : Desk). x.laid) desk ∙ with_laid_kept (settlement_moves _ _ _) _ ∙ b.rest c.requires.rests;
    }
