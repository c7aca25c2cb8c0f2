use Rattle.std.proofs.Common.{arith, rules}
use Rattle.std.proofs.lemmas.Int.{ints, to_z-of_z}
use Rattle.ledger.proofs.Products.{worked_above, worked_below}
use Rattle.ledger.proofs.table.carried.Goals as goal

pub returns-then-net-lt0 : goal.returns-then-net-lt0
returns-then-net-lt0 c = record {
  value = worked_below c.args.net _ c.times-up.result c.times-down.result c.unsigned_abs-size.result c.args.mark c.args.old (omega (arith, ints)) c.times-up.ensures.value c.times-down.ensures.value (search (rules, to_z-of_z)) (search (rules, to_z-of_z));
  near = (omega (arith, ints), omega (arith, ints));
}

pub returns-else-net-lt0 : goal.returns-else-net-lt0
returns-else-net-lt0 c = record {
  value = worked_above c.args.net _ c.times-up.result c.times-down.result c.unsigned_abs-size.result c.args.mark c.args.old (omega (arith, ints)) c.times-up.ensures.value c.times-down.ensures.value (search (rules, to_z-of_z)) (search (rules, to_z-of_z));
  near = (omega (arith, ints), omega (arith, ints));
}
