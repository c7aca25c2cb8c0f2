-- The seat of an account or a place among so many: from 0 within, from 1 in the numbers that callers bring.
use Rattle.std.specs.Prelude.{◌≡◌, ℕ, ◌-◌, cond, ◌&&◌, Some, None, Ok, Err, Option, Result, nat_le}
use Rattle.refusal.specs.declared.Refusal.{Refusal}
use Rattle.refusal.specs.declared.Refusal.TheVariants.{OutOfRange}

-- Among n seats.
abbrev pub seat_of : ℕ → ℕ → Result ℕ Refusal
seat_of n number = cond (nat_le 1 number && nat_le number n) (Ok (number - 1)) (Err OutOfRange)

-- What a check answers that looks a seat up: where nothing is refused, the seat of this number.
abbrev pub Seated : Option Refusal → ℕ → Result ℕ Refusal → Type 0
Seated refusal number (Ok at) = (refusal ≡ None) × (at ≡ number - 1)
Seated refusal number (Err w) = refusal ≡ Some w
