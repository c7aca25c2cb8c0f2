use Rattle.std.proofs.Common.{◌*◌, ◌∙◌, sym, arith, rules}
use Rattle.std.proofs.lemmas.Nat.{mul-le}
use Rattle.rules.specs.MarginLaws.{fair_small}
use Rattle.ledger.proofs.Trading.{frame_passed, framed_err, framed_ok, sided_err, sided_ok, weighed}
use Rattle.ledger.proofs.trades.weigh.Goals as goal

pub returns-in_err-contract : goal.returns-in_err-contract
returns-in_err-contract g c =
    let e = framed_err (g.M.MarginRule.opening c.args.rule.now) c.args.state.now c.args.deal.now c.args.room _ _ _ c.in_err-contract.ensures in
    search rules

pub overflow_mul-deal : goal.overflow_mul-deal
overflow_mul-deal g c =
    let k = framed_ok _ _ _ c.in_ok-contract.ensures.0 in
    let f = frame_passed c.args.state.now c.args.deal.now _ k.0 k.1 in
    let m = mul-le c.args.deal.now.price c.args.state.now.rate 9999 99999 f.range.price c.requires.ranges.2 in
    omega (arith, m)

pub check_sides-requires-clause-range : goal.check_sides-requires-clause-range
check_sides-requires-clause-range g c =
    let k = framed_ok _ _ _ c.in_ok-contract.ensures.0 in
    (frame_passed c.args.state.now c.args.deal.now _ k.0 k.1).range

pub check_sides-requires-clause-margin : goal.check_sides-requires-clause-margin
check_sides-requires-clause-margin g c =
    let d = c.args.deal.now in
    let fair = fair_small (g.met.M.MarginRule.opens c.args.rule.now (d.price * c.args.state.now.rate) d.quantity c.in_ok-contract.contract.ratio) in
    omega (arith, fair, c.opening_margin-margin.ensures)

pub returns-in_err-check_sides : goal.returns-in_err-check_sides
returns-in_err-check_sides g c =
    let e = weighed (g.M.MarginRule.opening c.args.rule.now) c.args.state.now c.args.deal.now c.args.room c.in_ok-contract.contract _ c.opening_margin-margin.ensures c.in_ok-contract.ensures.0 in
    let f = sided_err _ (record { contract = c.in_ok-contract.contract; margin = c.opening_margin-margin.result }) _ (sym c.in_err-check_sides.ensures) in
    search rules

pub returns : goal.returns
returns g c = (
  weighed (g.M.MarginRule.opening c.args.rule.now) c.args.state.now c.args.deal.now c.args.room c.in_ok-contract.contract _ c.opening_margin-margin.ensures c.in_ok-contract.ensures.0
      ∙ sided_ok _ _ (sym c.in_ok-check_sides.ensures),
  c.in_ok-contract.ensures.1,
)
