-- Each price rule stays inside the limits (docs/RULES.md, "Price rules").
use Rattle.std.specs.Prelude.{ℕ, suc, ◌+◌, ◌*◌, ◌<◌, ◌≤◌, IfSome, Some, None, Option, ◌==◌, nat_lt}
use Rattle.std.proofs.Common.{arith}
use Rattle.std.proofs.lemmas.Nat.{div_below, le-div}
use Rattle.std.proofs.lemmas.Bool.{cond_both, ltb-true}
use Rattle.rules.specs.declared.figures.Figures.{Figures}
use Rattle.rules.specs.declared.limits.Limits.{Limits}
use Rattle.rules.specs.Figures.{Orderly}
use Rattle.rules.specs.Limits.{Within}
use Rattle.rules.specs.Price.{Inside, averaged, untraded, settled, freight_price, futures_price}

average_inside : (limits : Limits) (value quantity : ℕ) → 0 < quantity → limits.lower * quantity ≤ value
    → value ≤ limits.upper * quantity → Within limits (averaged value quantity)
average_inside limits value quantity some least most =
    let below : averaged value quantity < suc limits.upper = div_below (2 * value + quantity) (2 * quantity) (suc limits.upper) (omega arith) (omega arith) in
    record {
      low = le-div limits.lower (2 * value + quantity) (2 * quantity) (omega arith) (omega arith);
      high = omega arith;
    }

-- What two quotes within the limits answer is within them.
abbrev Keeps : (ℕ → ℕ → ℕ) → Limits → Type 0
Keeps both limits = (bid ask : ℕ) → Within limits bid → Within limits ask → Within limits (both bid ask)

untraded_inside : (both : ℕ → ℕ → ℕ) (figures : Figures) (bid ask : Option ℕ) → Keeps both figures.limits
    → Orderly figures → IfSome bid (Within figures.limits) → IfSome ask (Within figures.limits)
    → Within figures.limits (untraded both figures bid ask)
untraded_inside both figures None None keeps orderly _ _ = orderly.previous
untraded_inside both figures (Some bid) None keeps orderly _ _ =
    cond_both (bid == figures.limits.upper) _ _ (Within figures.limits)
    (λ _. record { low = omega arith; high = omega arith })
    (λ _. orderly.previous)
untraded_inside both figures None (Some ask) keeps orderly _ _ =
    cond_both (ask == figures.limits.lower) _ _ (Within figures.limits)
    (λ _. record { low = omega arith; high = omega arith })
    (λ _. orderly.previous)
untraded_inside both figures (Some bid) (Some ask) keeps orderly b a = keeps bid ask b a

settled_inside : (both : ℕ → ℕ → ℕ) (figures : Figures) → Keeps both figures.limits → Orderly figures
    → Within figures.limits (settled both figures)
settled_inside both figures keeps orderly =
    cond_both (nat_lt 0 figures.quantity) _ _ (Within figures.limits)
    (λ traded.
    let some = ltb-true 0 figures.quantity traded in
    average_inside figures.limits figures.value figures.quantity some orderly.least orderly.most)
    (λ _. untraded_inside both figures figures.bid figures.ask keeps orderly orderly.bid orderly.ask)

pub freight_inside : Inside freight_price
freight_inside figures orderly = settled_inside _ figures (λ _ _ _ _. orderly.previous) orderly

pub futures_inside : Inside futures_price
futures_inside figures orderly =
    settled_inside _ figures (λ bid ask b a. record { low = omega arith; high = omega arith }) orderly
