use Rattle.std.proofs.Common.{◌≡◌, ◌<◌, None}
use Rattle.archive.specs.Chain.{reading}
use Rattle.archive.specs.Walks.{ahead}
use Rattle.archive.proofs.Walking.{onward}
use Rattle.archive.proofs.read.read.Given as goal

-- What is left of the chain gives the answer that the whole chain gives.
abbrev pub invariant-loop-link : goal.invariant-loop-link
invariant-loop-link l =
    (0 < l.search.left → l.search.found ≡ None)
    × (onward l.search.found l.search.left (ahead l.link-iterator) ≡ reading l.archive l.account l.k)
