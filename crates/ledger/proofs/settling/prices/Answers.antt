use Rattle.std.proofs.Common.{rules}
use Rattle.ledger.specs.Places.{place_at}
use Rattle.ledger.specs.Settle.{price_at}
use Rattle.ledger.proofs.Made.{tabulated_from_fn}
use Rattle.ledger.proofs.settling.prices.Goals as goal

pub returns : goal.returns
returns g c = tabulated_from_fn _ _ _ _ (λ p. price_at (g.P.PriceRule.meaning c.args.rule.now) c.args.state.now.day (place_at c.args.state.now p)) 0 c.from_fn.ensures.items (λ i y q l k. search rules)
