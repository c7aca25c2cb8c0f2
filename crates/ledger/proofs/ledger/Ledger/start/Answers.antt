use Rattle.std.proofs.Common.{sym, subst}
use Rattle.ledger.specs.Sound.{Sound}
use Rattle.ledger.proofs.Opening.{start_sound}
use Rattle.ledger.proofs.Types.{invariant}
use Rattle.ledger.proofs.ledger.Ledger.start.Goals as goal

pub invariant_of-result : goal.invariant_of-result
invariant_of-result c = invariant _ (subst Sound (sym c.start.ensures) (start_sound c.args.rate (sym c.if-is_bad_rate.ensures)))
