-- The bytes before and past the first `stop`, where the code's search for it has answered.
use Rattle.std.proofs.Common.{◌≡◌, ℕ, ◌≤◌, Some, None, Option, List, length, position, eqb, not, refl, sym, arith}
use Rattle.std.specs.List.{position_or_len}
use Rattle.std.specs.Option.{unwrap_or}
use Rattle.std.proofs.lemmas.Bool.Decides.{nat_tests}
use Rattle.std.proofs.lemmas.Grind.{common_steps}
use Rattle.std.proofs.lemmas.List.Recursion.{is_position_or_len}
use Rattle.std.proofs.lemmas.List.Sums.{prefix_len-le-length}
use Rattle.lines.specs.Cut.{reach}

reach_is : (stop : ℕ) (bs : List ℕ) → reach stop bs ≡ position_or_len (λ b. eqb b stop) bs
reach_is stop bs = is_position_or_len (reach stop) (λ b. eqb b stop) refl (λ _ _. refl) bs

pub reach_found : (stop : ℕ) (bs : List ℕ) (n : ℕ) → position (λ b. eqb b stop) bs ≡ Some n → reach stop bs ≡ n
reach_found stop bs n h = grind (arith, common_steps, nat_tests, reach_is stop bs)

pub reach_none : (stop : ℕ) (bs : List ℕ) → position (λ b. eqb b stop) bs ≡ None → reach stop bs ≡ length bs
reach_none stop bs h = grind (arith, common_steps, nat_tests, reach_is stop bs, prefix_len-le-length (λ b. not (eqb b stop)) bs)

pub reach_within : (stop : ℕ) (bs : List ℕ) → reach stop bs ≤ length bs
reach_within stop bs = grind (arith, common_steps, nat_tests, reach_is stop bs, prefix_len-le-length (λ b. not (eqb b stop)) bs)

pub reach_or : (stop : ℕ) (bs : List ℕ) (o : Option ℕ) → o ≡ position (λ b. eqb b stop) bs → unwrap_or o (length bs) ≡ reach stop bs
reach_or stop bs None h = sym (reach_none stop bs (sym h))
reach_or stop bs (Some n) h = sym (reach_found stop bs n (sym h))

pub ruleset reaches = (reach_or, reach_within)
