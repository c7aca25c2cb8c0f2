use Rattle.std.proofs.Common.{List, get_or, ap, rules}
use Rattle.ledger.specs.declared.state.Row.{Row}
use Rattle.ledger.specs.declared.state.Table.{Table}
use Rattle.ledger.specs.Rows.{blank, opened_row}
use Rattle.ledger.proofs.Made.{tabulated_from_fn}
use Rattle.ledger.proofs.days.table.Goals as goal

pub returns : goal.returns
returns c =
    let wrap : List Row → Table = λ rows. record { rows = rows } in
    ap wrap (tabulated_from_fn _ _ _ _ (λ k. opened_row (get_or c.args.state.now.table.rows k blank)) blank c.from_fn.ensures.items (λ i y q l k. search rules))
