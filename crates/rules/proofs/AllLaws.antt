-- The rules mean what they say.
use Rattle.std.proofs.Common.{◌≡◌, ℕ, ◌+◌, ◌*◌, ◌%◌, ◌<◌, true, sym, ap, ◌∙◌, subst, mod-lt, mul_assoc, mul_comm, div-add-mod', arith}
use Rattle.std.proofs.lemmas.Bool.{cond-true}
use Rattle.rules.specs.Margin.{ratable, rated}
use Rattle.rules.specs.Price.{averaged, middle}
use Rattle.rules.specs.Laws.{Nearest, Between, Raised, RulesMean}
use Rattle.rules.proofs.LimitLaws.{within_own_limits, limits_capped}
use Rattle.rules.specs.MarginLaws.{fair_small}

-- Twice a price for so many TEU.
doubled : (p q : ℕ) → p * (2 * q) ≡ 2 * (p * q)
doubled p q = sym (mul_assoc p 2 q) ∙ ap (λ x. x * q) (mul_comm p 2) ∙ mul_assoc 2 p q

average_nearest : (value quantity : ℕ) → 0 < quantity → Nearest value quantity (averaged value quantity)
average_nearest value quantity some =
    let whole = div-add-mod' (2 * value + quantity) (2 * quantity) in
    let rest : (2 * value + quantity) % (2 * quantity) < 2 * quantity = mod-lt (2 * value + quantity) (omega arith) in
    let twice = doubled (averaged value quantity) quantity in
    record { low = omega arith; high = omega arith }

middle_between : (bid ask previous : ℕ) → Between bid ask previous (middle bid ask previous)
middle_between bid ask previous = record { low = omega arith; high = omega arith; stays = λ l h. omega arith }

margin_raised : (value teu ratio : ℕ) → ratable value teu ratio ≡ true → Raised value teu ratio (rated value teu ratio)
margin_raised value teu ratio t =
    subst (Raised value teu ratio) (sym (cond-true _ _ _ t)) (record { enough = omega arith; least = omega arith })

pub rules_mean : RulesMean
rules_mean = record {
  own_limits = within_own_limits;
  capped = limits_capped;
  nearest = average_nearest;
  between = middle_between;
  raised = margin_raised;
  modest = λ value teu ratio margin fair. fair_small fair;
}
