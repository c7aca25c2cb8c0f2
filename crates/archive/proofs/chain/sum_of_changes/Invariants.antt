use Rattle.std.proofs.Common.{◌≡◌, ◌*◌, drop, pos, ◌+ℤ◌, neg_ℤ, ◌≤ℤ◌}
use Rattle.archive.specs.Gathered.{changes}
use Rattle.archive.proofs.chain.sum_of_changes.Given as goal

-- What is summed and what is still to sum, and how far the sum can have come.
abbrev pub invariant-loop-link : goal.invariant-loop-link
invariant-loop-link l =
    (l.sum +ℤ changes (drop l.link-index l.links) ≡ changes l.links)
    × (neg_ℤ (pos (9223372036854775808 * l.link-index)) ≤ℤ l.sum)
    × (l.sum ≤ℤ pos (9223372036854775808 * l.link-index))
