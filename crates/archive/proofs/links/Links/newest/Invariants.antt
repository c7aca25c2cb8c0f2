use Rattle.std.proofs.Common.{◌≡◌, ◌-◌}
use Rattle.archive.specs.Layout.{slot_at}
use Rattle.archive.specs.Chain.{last}
use Rattle.archive.proofs.links.Links.newest.Given as goal

-- The slots that are passed do not name the account.
abbrev pub invariant-loop-passed : goal.invariant-loop-passed
invariant-loop-passed l = last (slot_at l.self.archive.now) l.self.account (l.self.slot - l.passed) ≡ last (slot_at l.self.archive.now) l.self.account l.self.slot
