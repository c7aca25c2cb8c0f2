use Rattle.std.proofs.Common.{◌%◌, List, get_or, ap, rules}
use Rattle.ledger.specs.declared.state.Row.{Row}
use Rattle.ledger.specs.declared.state.Table.{Table}
use Rattle.ledger.specs.Places.{place_at}
use Rattle.ledger.specs.Rows.{blank}
use Rattle.ledger.specs.Settle.{settled_row}
use Rattle.ledger.proofs.Made.{tabulated_from_fn}
use Rattle.ledger.proofs.settling.table.Goals as goal

pub returns : goal.returns
returns c =
    let s = c.args.state.now in
    ap (λ (rows : List Row). let t : Table = record { rows = rows } in t) (tabulated_from_fn _ _ _ _ (λ k. settled_row s.day (place_at s (k % 12)) (get_or s.table.rows k blank)) blank c.from_fn.ensures.items (λ i y q l k. search rules))
