use Rattle.std.proofs.Common.{get_or, None, rules}
use Rattle.ledger.specs.Places.{place_at}
use Rattle.ledger.specs.Settle.{settled_contract}
use Rattle.ledger.proofs.Made.{tabulated_from_fn}
use Rattle.ledger.proofs.settling.Settling.contracts.Goals as goal

pub returns : goal.returns
returns g c = let s = c.args.self.now in tabulated_from_fn _ _ _ _ (λ p. settled_contract (get_or s.prices p 0) (place_at s.state.now p)) None c.from_fn.ensures.items (λ i y q l k. search rules)
