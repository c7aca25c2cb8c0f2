use Rattle.std.proofs.Common.{◌⊎◌, inl, inr, length, ◌+◌, ◌≡◌, rules}
use Rattle.archive.specs.declared.entry.Kind.TheVariants.{Settlement}
use Rattle.book.specs.Entries.{movement}
use Rattle.book.proofs.Entering.{left_less, left_none}
use Rattle.book.proofs.desk.Desk.enter_settlement.Goals as goal

pub loop-index-preserved : goal.loop-index-preserved
loop-index-preserved c =
    let step = c.in-Some.ensures.steps in
    let is : c.of-moved.result ≡ movement c.args.day (c.in-Some.index + 1) Settlement c.in-Some.change.now c.in-Some.holder.now = search rules in
    left_less c.args.self.now c.args.archive.now c.args.day c.args.accounts.now c.args.changes.now _ _ _ _ _ _ _ c.in-Some.holder.now c.in-Some.change.now _ _ _ _ _
    (search rules) step.0.0 step.0.1 step.1 step.2 is c.enter.ensures.desk c.enter.ensures.bytes c.loop-index.invariant

pub returns : goal.returns
returns c =
    let rest = c.loop-index.index-iterator.iter in
    let none : (length rest.a.rest.now ≡ 0) ⊎ (length rest.b.rest.now ≡ 0) = elim c.in-None.ensures.steps.0 [ inl short ↦ inl short.1.0 | inr short ↦ inr short.1.0 ] in
    let end = left_none c.args.self.now c.args.archive.now c.args.day c.args.accounts.now c.args.changes.now _ _ _ _ _ (search rules) (search rules) none c.loop-index.invariant in
    record { desk = end.0; bytes = end.1 }
