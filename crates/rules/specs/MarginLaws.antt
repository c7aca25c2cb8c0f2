-- Each margin rule is fair, and a fair margin small (docs/RULES.md, "Margin rules").
use Rattle.std.specs.Prelude.{ℕ, ◌+◌, ◌-◌, ◌*◌, ◌^◌, ◌≤◌, max, ◌&&◌, nat_le, refl}
use Rattle.std.proofs.Common.{inl, inr, arith}
use Rattle.std.proofs.lemmas.Nat.{mul-le}
use Rattle.std.proofs.lemmas.Bool.{cond_both, leb-true, and_parts, cases_lt}
use Rattle.rules.specs.Margin.{Fair, ratable, rated, larger_side}
use Rattle.rules.specs.Units.{fen_units, max_ratio, max_margin_value, max_margin_teu}

pub product_small : (value teu ratio : ℕ) → value ≤ max_margin_value → teu ≤ max_margin_teu → ratio ≤ max_ratio → value * teu * ratio ≤ 10 ^ 18
product_small value teu ratio cheap few flat =
    mul-le (value * teu) ratio (max_margin_value * max_margin_teu) max_ratio (mul-le value teu max_margin_value max_margin_teu cheap few) flat

none_fair : (value teu ratio : ℕ) → Fair value teu ratio 0
none_fair value teu ratio =
    record { most = omega arith; empty = λ _. refl; dear = λ _. refl; many = λ _. refl; steep = λ _. refl }

pub rated_fair : (value teu ratio : ℕ) → Fair value teu ratio (rated value teu ratio)
rated_fair value teu ratio =
    cond_both (ratable value teu ratio) _ _ (Fair value teu ratio)
    (λ within.
    let parts = and_parts (nat_le value max_margin_value && nat_le teu max_margin_teu) (nat_le ratio max_ratio) within in
    let cheap = leb-true value max_margin_value (and_parts (nat_le value max_margin_value) (nat_le teu max_margin_teu) parts.0).0 in
    let few = leb-true teu max_margin_teu (and_parts (nat_le value max_margin_value) (nat_le teu max_margin_teu) parts.0).1 in
    let flat = leb-true ratio max_ratio parts.1 in
    let share : value * teu * ratio ≤ value * teu * max_ratio = mul-le (value * teu) ratio (value * teu) max_ratio (omega arith) flat in
    record {
      most = omega arith;
      empty = λ none. (let nothing : value * teu ≤ value * 0 = mul-le value teu value 0 (omega arith) (omega arith) in omega arith);
      dear = λ above. omega arith;
      many = λ above. omega arith;
      steep = λ above. omega arith;
    })
    (λ _. none_fair value teu ratio)

pub larger_side_fair : (value long short ratio : ℕ) → Fair value (long + short) ratio (larger_side value long short ratio)
larger_side_fair value long short ratio =
    cond_both (nat_le (long + short) max_margin_teu) _ _ (Fair value (long + short) ratio)
    (λ within.
    let few = leb-true (long + short) max_margin_teu within in
    let fair = rated_fair value (max long short) ratio in
    let more : value * max long short ≤ value * (long + short) = mul-le value (max long short) value (long + short) (omega arith) (omega arith) in
    record {
      most = omega arith;
      empty = λ none. fair.empty (omega arith);
      dear = fair.dear;
      many = λ above. omega arith;
      steep = fair.steep;
    })
    (λ _. none_fair value (long + short) ratio)

-- A bound without a premise: past the ceilings a fair margin is none.
pub fair_small : {value teu ratio margin : ℕ} → Fair value teu ratio margin → margin ≤ max_margin_value * max_margin_teu + (fen_units - 1)
fair_small {value} {teu} fair =
    elim (cases_lt max_margin_value value) [
      | inl above ↦ (let none = fair.dear above in omega arith)
      | inr cheap ↦ elim (cases_lt max_margin_teu teu) [
        | inl above ↦ (let none = fair.many above in omega arith)
        | inr few ↦ (let most : value * teu ≤ max_margin_value * max_margin_teu = mul-le value teu max_margin_value max_margin_teu cheap few in omega arith)
      ]
    ]
