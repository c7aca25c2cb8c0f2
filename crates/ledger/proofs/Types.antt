-- The invariant of a ledger's type from a sound state.
use Rattle.ledger.specs.declared.state.State.{State}
use Rattle.ledger.specs.Sound.{Sound, RangesIn, FeesIn, RowsIn, PathsIn, TermsIn, DaysIn, DeliveriesIn, BalanceIn, TradedIn, VacantIn, AccountsIn, CountsIn}

pub invariant : (s : State) → Sound s → record { ranges : RangesIn s; fees : FeesIn s; rows : RowsIn s; paths : PathsIn s; terms : TermsIn s; days : DaysIn s; deliveries : DeliveriesIn s; balance : BalanceIn s; traded : TradedIn s; vacant : VacantIn s; accounts : AccountsIn s; counts : CountsIn s }
invariant s k = record {
  ranges = k.ranges;
  fees = k.fees;
  rows = k.rows;
  paths = k.paths;
  terms = k.terms;
  days = k.days;
  deliveries = k.deliveries;
  balance = k.balance;
  traded = k.traded;
  vacant = k.vacant;
  accounts = k.accounts;
  counts = k.counts;
}
