-- Facts of the limits (docs/RULES.md, "Limits").
use Rattle.std.proofs.Common.{ℕ, ◌≤◌, arith}
use Rattle.std.proofs.lemmas.Bool.{cond_both}
use Rattle.rules.specs.declared.limits.Limits.{Limits}
use Rattle.rules.specs.declared.limits.Term.{Term}
use Rattle.rules.specs.Limits.{limits_about, limits_on, wide_day, Within}
use Rattle.rules.specs.Units.{max_price}

pub within_own_limits : (percent price : ℕ) → price ≤ max_price → Within (limits_about percent price) price
within_own_limits percent price small = record { low = omega arith; high = omega arith }

pub limits_capped : (day : ℕ) (term : Term) (base previous : ℕ) → (limits_on day term base previous).upper ≤ max_price
limits_capped day term base previous =
    cond_both (wide_day term day) _ _ (λ (limits : Limits). limits.upper ≤ max_price) (λ _. omega arith) (λ _. omega arith)
