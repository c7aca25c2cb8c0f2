use Rattle.std.proofs.Common.{sym, ◌∙◌, rules}
use Rattle.archive.proofs.Growing.{begin_empties}
use Rattle.archive.proofs.write.begin.Goals as goal

pub returns : goal.returns
returns c =
    let did = c.put_header.ensures in
    record {
      answer = did.answer;
      bytes = did.bytes;
      empty = λ done. begin_empties c.args.archive.now _ c.args.book (search rules) did.bytes (sym did.answer ∙ done);
    }
