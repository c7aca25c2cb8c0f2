-- The worked days, by evaluation.
use Rattle.std.proofs.Common.{refl}
use Rattle.ledger.specs.Sums.{sum_to, total_to, tabulated}
use Rattle.ledger.specs.Worked.{funded, first_closed, first_settled, second_closed, second_settled, WorkedDays}

pub worked_days : WorkedDays
unfolding sum_to total_to tabulated funded first_closed first_settled second_closed second_settled
worked_days = record {
  price = refl;
  buyer = refl;
  seller = refl;
  fees = refl;
  delivered = refl;
  buyer_after = refl;
  seller_after = refl;
  fees_after = refl;
  may_leave = refl;
  may_not = refl;
}
