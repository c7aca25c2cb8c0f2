use Rattle.std.proofs.Common.{refl}
use Rattle.ledger.specs.Sums as S
use Rattle.tally.specs.Worked.{WorkedTally}

pub worked : WorkedTally
unfolding S.sum_to
worked = record { buyer = λ price margin. refl; seller = λ price margin. refl; collected = λ price margin. refl }
