use Rattle.std.proofs.Common.{◌≡◌, codes, arith, rules}
use Rattle.std.proofs.lemmas.Slice.Eq.{text_from_reads}
use Rattle.lines.proofs.verb.read_verb.Goals as goal

pub returns-in-settle : goal.returns-in-settle
returns-in-settle c = let h : c.args.text.now ≡ codes "settle" = text_from_reads _ _ (omega arith) (search rules) in rw h

pub returns-in-deliver : goal.returns-in-deliver
returns-in-deliver c = let h : c.args.text.now ≡ codes "deliver" = text_from_reads _ _ (omega arith) (search rules) in rw h
