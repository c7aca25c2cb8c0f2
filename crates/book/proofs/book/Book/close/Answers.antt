use Rattle.std.proofs.Common.{sym, subst}
use Rattle.ledger.specs.declared.state.State.{State}
use Rattle.ledger.specs.Days.{close_refusal}
use Rattle.book.specs.Held.{RoomIn, RestIn}
use Rattle.book.proofs.Staged.{close_room, close_rest}
use Rattle.book.proofs.book.Book.close.Goals as goal

pub invariant_of-self : goal.invariant_of-self
invariant_of-self c =
    let b = c.args.self.now in
    let s = b.ledger.state in
    let is = sym c.close.ensures.state in
    record {
      slots = b.slots;
      room = subst (λ (x : State). RoomIn b.desk x) is (close_room b.desk s c.args.rate b.room);
      rest = subst (λ (x : State). RestIn b.desk x) is (close_rest b.desk s (close_refusal s c.args.rate) c.args.rate b.rest);
    }
