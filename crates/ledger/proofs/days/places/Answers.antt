use Rattle.std.proofs.Common.{None, rules}
use Rattle.ledger.specs.Days.{opened_place}
use Rattle.ledger.specs.Places.{place_at}
use Rattle.ledger.proofs.Made.{tabulated_from_fn}
use Rattle.ledger.proofs.days.places.Goals as goal

pub returns : goal.returns
returns c = tabulated_from_fn _ _ _ _ (λ p. opened_place (place_at c.args.state.now p)) None c.from_fn.ensures.items (λ i y q l k. search rules)
