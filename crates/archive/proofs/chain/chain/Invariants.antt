use Rattle.std.proofs.Common.{◌≡◌, ◌<◌, vec_items}
use Rattle.archive.specs.Chain.{chain_of}
use Rattle.archive.specs.Gathered.{Holds}
use Rattle.archive.specs.Walks.{ahead}
use Rattle.archive.proofs.Gathering.{onto}
use Rattle.archive.proofs.chain.chain.Given as goal

-- The links gathered, and then the chain from here on, are the whole chain.
abbrev pub invariant-loop-link : goal.invariant-loop-link
invariant-loop-link l =
    (chain_of l.archive l.account ≡ onto (vec_items l.links) (ahead l.link-iterator))
    × (0 < l.link-iterator.slot → Holds l.archive l.account)
