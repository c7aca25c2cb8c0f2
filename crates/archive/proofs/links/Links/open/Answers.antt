use Rattle.std.proofs.Common.{◌≡◌, Err, rules}
use Rattle.archive.specs.Chain.{chain_of}
use Rattle.archive.proofs.Walking.{unopened, newest_within, opened}
use Rattle.archive.proofs.links.Links.open.Goals as goal

pub returns-in_err-admit : goal.returns-in_err-admit
returns-in_err-admit c =
    let none : chain_of c.args.archive.now c.args.account ≡ Err c.in_err-admit.field-0.0 = unopened _ _ _ c.in_err-admit.ensures in
    search rules

pub invariant_of-result : goal.invariant_of-result
invariant_of-result c = record { within = newest_within _ _ _ _ c.in_ok-admit.ensures c.used_slots.ensures c.newest.ensures }

pub returns : goal.returns
returns c = opened _ _ _ _ c.in_ok-admit.ensures c.used_slots.ensures c.newest.ensures
