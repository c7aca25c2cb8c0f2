use Rattle.std.proofs.Common.{◌≡◌, ℕ, ◌<◌, Ok, length, get_or}
use Rattle.lines.specs.Field.{spot, ahead, number_at}
use Rattle.lines.proofs.cursor.Cursor.numbers.Given as goal

abbrev pub invariant-loop-number : goal.invariant-loop-number
invariant-loop-number g l =
    record {
      each : (k : ℕ) → k < l.number-index → number_at k (spot l.initial.self) ≡ Ok (get_or l.number-items k 0);
      moved : spot l.self ≡ ahead l.number-index (spot l.initial.self);
      all : length l.number-items ≡ g.row.N;
    }
