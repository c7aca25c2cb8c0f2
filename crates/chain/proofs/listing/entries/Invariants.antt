use Rattle.std.proofs.Common.{◌≡◌, ◌++◌, drop, string_bytes}
use Rattle.chain.specs.Listing.{lines_of}
use Rattle.chain.proofs.listing.entries.Given as goal

-- What is written, and then the lines still to come, are all that is asked for.
abbrev pub invariant-loop-link : goal.invariant-loop-link
invariant-loop-link l = string_bytes l.text ++ lines_of (drop l.link-index l.links) ≡ string_bytes l.initial.text ++ lines_of l.links
