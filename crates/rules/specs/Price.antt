-- The settlement price by each rule, and what every rule keeps to (docs/RULES.md, "Price rules").
use Rattle.std.specs.Prelude.{ℕ, ◌+◌, ◌*◌, ◌/◌, min, max, cond, Some, None, Option, ◌==◌, nat_lt}
use Rattle.rules.specs.declared.figures.Figures.{Figures}
use Rattle.rules.specs.Figures.{Orderly}
use Rattle.rules.specs.Limits.{Within}

-- Value ÷ quantity to the nearest dollar, halves up.
abbrev pub averaged : ℕ → ℕ → ℕ
averaged value quantity = (2 * value + quantity) / (2 * quantity)

-- The middle one of three prices.
abbrev pub middle : ℕ → ℕ → ℕ → ℕ
middle a b c = max (min a b) (min (max a b) c)

-- The price of a day without trades: a limit at which a quote stands alone, else the previous price.
-- What two quotes answer is left to the rule.
abbrev pub untraded : (ℕ → ℕ → ℕ) → Figures → Option ℕ → Option ℕ → ℕ
untraded both figures None None = figures.previous
untraded both figures (Some bid) None =
    cond (bid == figures.limits.upper) figures.limits.upper figures.previous
untraded both figures None (Some ask) =
    cond (ask == figures.limits.lower) figures.limits.lower figures.previous
untraded both figures (Some bid) (Some ask) = both bid ask

abbrev pub settled : (ℕ → ℕ → ℕ) → Figures → ℕ
settled both figures =
    cond (nat_lt 0 figures.quantity)
    (averaged figures.value figures.quantity)
    (untraded both figures figures.bid figures.ask)

abbrev pub freight_price : Figures → ℕ
freight_price figures = settled (λ _ _. figures.previous) figures

abbrev pub futures_price : Figures → ℕ
futures_price figures = settled (λ bid ask. middle bid ask figures.previous) figures

-- From orderly figures a rule's meaning answers a price within the limits.
abbrev pub Inside : (Figures → ℕ) → Type 0
Inside meaning = (figures : Figures) → Orderly figures → Within figures.limits (meaning figures)
