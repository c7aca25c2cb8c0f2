-- The answer to a start: the ledger in its first state, or the refusal.
use Rattle.std.specs.Prelude.{◌≡◌, ℕ, Some, None, Ok, Err, Result}
use Rattle.refusal.specs.declared.Refusal.{Refusal}
use Rattle.ledger.specs.declared.ledger.Ledger.{Ledger}
use Rattle.ledger.specs.Days.{start_refusal, started}

abbrev pub Begins : ℕ → Result Ledger Refusal → Type 0
Begins rate (Ok ledger) = (start_refusal rate ≡ None) × (ledger.state ≡ started rate)
Begins rate (Err w) = start_refusal rate ≡ Some w
