-- Quotes, delivery prices and the end of a day (docs/RULES.md, "Quote", "Delivery price", "End").
use Rattle.std.specs.Prelude.{ℕ, ◌-◌, Bool, false, cond, not, ◌&&◌, ◌||◌, List, [], ◌∷◌, is_some, Some, None, Option, ◌==◌, nat_lt}
use Rattle.refusal.specs.declared.Refusal.{Refusal}
use Rattle.refusal.specs.declared.Refusal.TheVariants.{WrongPhase, OutOfRange, PlaceState, DeliveryPrice, PriceLimits}
use Rattle.refusal.specs.Reasons.{first}
use Rattle.rules.specs.Units.{min_price, max_price}
use Rattle.ledger.specs.declared.state.Contract.{Contract}
use Rattle.ledger.specs.declared.state.State.{State}
use Rattle.ledger.specs.Listing.{at_place}
use Rattle.ledger.specs.Places.{place_at, is_open, known_place, limits_of, outside}

-- A quote of 0 is none.
abbrev pub quote_of : ℕ → Option ℕ
quote_of q = cond (q == 0) None (Some q)

abbrev pub bad_quote : ℕ → Option Contract → ℕ → Bool
bad_quote day None q = false
bad_quote day (Some c) q = not (q == 0) && outside (limits_of day c) q

abbrev pub quote_reasons : State → ℕ → ℕ → ℕ → List (Bool × Refusal)
quote_reasons s place bid ask =
    (not (is_open s.stage), WrongPhase)
    ∷ (not (known_place place), OutOfRange)
    ∷ (not (is_some (place_at s (place - 1))), PlaceState)
    ∷ (bad_quote s.day (place_at s (place - 1)) bid || bad_quote s.day (place_at s (place - 1)) ask, PriceLimits)
    ∷ []

abbrev pub quote_refusal : State → ℕ → ℕ → ℕ → Option Refusal
quote_refusal s place bid ask = first (quote_reasons s place bid ask)

abbrev pub quoted : ℕ → ℕ → Contract → Contract
quoted bid ask c = record {
  number = c.number;
  base = c.base;
  previous = c.previous;
  ratio = c.ratio;
  fee = c.fee;
  delivery = c.delivery;
  term = c.term;
  quantity = c.quantity;
  value = c.value;
  bid = quote_of bid;
  ask = quote_of ask;
  price = c.price;
}

abbrev pub quote_state : Option Refusal → State → ℕ → ℕ → ℕ → State
quote_state None s place bid ask = at_place s (place - 1) (place_at s (place - 1)) (quoted bid ask)
quote_state (Some w) s place bid ask = s

-- A delivery price belongs to the last day.
abbrev pub not_last : ℕ → Option Contract → Bool
not_last day None = false
not_last day (Some c) = not (c.term.last == day)

abbrev pub deliver_reasons : State → ℕ → ℕ → List (Bool × Refusal)
deliver_reasons s place price =
    (not (is_open s.stage), WrongPhase)
    ∷ (not (known_place place), OutOfRange)
    ∷ (not (is_some (place_at s (place - 1))), PlaceState)
    ∷ (not_last s.day (place_at s (place - 1)), DeliveryPrice)
    ∷ (nat_lt price min_price || nat_lt max_price price, PriceLimits)
    ∷ []

abbrev pub deliver_refusal : State → ℕ → ℕ → Option Refusal
deliver_refusal s place price = first (deliver_reasons s place price)

abbrev pub delivered_at : ℕ → Contract → Contract
delivered_at price c = record {
  number = c.number;
  base = c.base;
  previous = c.previous;
  ratio = c.ratio;
  fee = c.fee;
  delivery = c.delivery;
  term = c.term;
  quantity = c.quantity;
  value = c.value;
  bid = c.bid;
  ask = c.ask;
  price = Some price;
}

abbrev pub deliver_state : Option Refusal → State → ℕ → ℕ → State
deliver_state None s place price = at_place s (place - 1) (place_at s (place - 1)) (delivered_at price)
deliver_state (Some w) s place price = s
