use Rattle.std.proofs.Common.{sym, ◌∙◌, rules}
use Rattle.archive.specs.Layout.{slot_of}
use Rattle.archive.proofs.Layouts.{Fit}
use Rattle.archive.proofs.Growing.{append_stores, append_grows}
use Rattle.archive.proofs.write.append.Goals as goal

pub returns : goal.returns
returns c =
    let did = c.put_entry.ensures in
    let fit : Fit (slot_of c.args.entry) = record { next = search rules; day = search rules; change = search rules; available = search rules; margin = search rules } in
    record {
      answer = did.answer;
      bytes = did.bytes;
      stored = λ done. append_stores c.args.archive.now _ c.args.used c.args.entry fit did.bytes (sym did.answer ∙ done);
      grown = λ done on. append_grows c.args.archive.now _ c.args.used c.args.entry fit did.bytes (sym did.answer ∙ done) on;
    }
