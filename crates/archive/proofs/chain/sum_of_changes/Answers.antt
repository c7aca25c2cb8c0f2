use Rattle.std.proofs.Common.{get_or, arith, w64, SFits, rules}
use Rattle.std.proofs.lemmas.List.{at_drop_all}
use Rattle.std.proofs.lemmas.Int.{ints}
use Rattle.archive.specs.Gathered.{changes}
use Rattle.archive.proofs.Gathering.{blank, changes_more, summed}
use Rattle.archive.proofs.chain.sum_of_changes.Goals as goal

pub loop-link-preserved : goal.loop-link-preserved
loop-link-preserved c =
    let inv = c.loop-link.invariant in
    let more = changes_more c.args.links.now c.loop-link.link-index c.loop-link-test.true in
    let fit : SFits w64 (get_or c.args.links.now c.loop-link.link-index blank).entry.change = search rules in
    (omega (arith, ints), omega (arith, ints), omega (arith, ints))

pub returns : goal.returns
returns c =
    let none = at_drop_all changes c.args.links.now c.loop-link.link-index (omega arith) in
    summed _ _ _ _ (omega (arith, ints, none, c.loop-link.invariant.0)) c.try_from.ensures c.ok.ensures.value
