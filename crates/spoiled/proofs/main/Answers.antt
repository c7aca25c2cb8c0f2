use Rattle.std.proofs.Common.{◌≡◌, ◌<◌, ◌^◌, length, inl, arith, rules}
use Rattle.lines.specs.File.{lines_of}
use Rattle.lines.proofs.Openings.{lines_within}
use Rattle.spoiled.proofs.main.Goals as goal

pub loop-before-init : goal.loop-before-init
loop-before-init c =
    let h = lines_within c.as_slice.result.now in
    let k : length (lines_of c.into_iter-before-iterator.result.iter.0.now) ≡ length (lines_of c.as_slice.result.now) = search rules in
    let z : c.into_iter-before-iterator.result.count ≡ 0 = search rules in
    let small : length c.as_slice.result.now < 2 ^ 64 = search rules in
    ((tt, tt, inl (omega arith)), search rules)
