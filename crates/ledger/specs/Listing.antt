-- Listing a contract, and a new ratio for one (docs/RULES.md, "Listing", "Ratio").
use Rattle.std.specs.Prelude.{ℕ, ◌-◌, Bool, not, ◌||◌, List, [], ◌∷◌, is_some, Some, None, Option, nat_le, nat_lt, slice_set}
use Rattle.refusal.specs.declared.Refusal.{Refusal}
use Rattle.refusal.specs.declared.Refusal.TheVariants.{WrongPhase, OutOfRange, PlaceState, ContractNumber, ContractTerms}
use Rattle.refusal.specs.Reasons.{first}
use Rattle.rules.specs.Units.{min_price, max_price, min_ratio, max_ratio, max_fee, max_days}
use Rattle.ledger.specs.declared.state.Contract.{Contract}
use Rattle.ledger.specs.declared.state.Listing.{Listing}
use Rattle.ledger.specs.declared.state.State.{State}
use Rattle.ledger.specs.Places.{place_at, with_place, is_resting, known_place}

abbrev pub bad_number : ℕ → ℕ → Bool
bad_number highest number = nat_le number highest || nat_lt 65535 number

abbrev pub bad_ratio : ℕ → Bool
bad_ratio ratio = nat_lt ratio min_ratio || nat_lt max_ratio ratio

abbrev pub bad_terms : ℕ → Listing → Bool
bad_terms day l =
    nat_lt l.base min_price || nat_lt max_price l.base || bad_ratio l.ratio || nat_lt max_fee l.fee
    || nat_lt max_fee l.delivery || nat_le l.last day || nat_lt max_days l.last

abbrev pub list_reasons : State → Listing → List (Bool × Refusal)
list_reasons s l =
    (not (is_resting s.stage), WrongPhase)
    ∷ (not (known_place l.place), OutOfRange)
    ∷ (is_some (place_at s (l.place - 1)), PlaceState)
    ∷ (bad_number s.highest l.number, ContractNumber)
    ∷ (bad_terms s.day l, ContractTerms)
    ∷ []

abbrev pub list_refusal : State → Listing → Option Refusal
list_refusal s l = first (list_reasons s l)

-- The base price is the first previous price.
abbrev pub new_contract : ℕ → Listing → Contract
new_contract day l = record {
  number = l.number;
  base = l.base;
  previous = l.base;
  ratio = l.ratio;
  fee = l.fee;
  delivery = l.delivery;
  term = record { listed = day; last = l.last };
  quantity = 0;
  value = 0;
  bid = None;
  ask = None;
  price = None;
}

abbrev pub list_state : Option Refusal → State → Listing → State
list_state None s l = record {
  stage = s.stage;
  rate = s.rate;
  closing = s.closing;
  day = s.day;
  highest = l.number;
  fees = s.fees;
  accounts = s.accounts;
  places = slice_set s.places (l.place - 1) (Some (new_contract s.day l));
  table = s.table;
}
list_state (Some w) s l = s

abbrev pub reweigh_reasons : State → ℕ → ℕ → List (Bool × Refusal)
reweigh_reasons s place ratio =
    (not (is_resting s.stage), WrongPhase)
    ∷ (not (known_place place), OutOfRange)
    ∷ (not (is_some (place_at s (place - 1))), PlaceState)
    ∷ (bad_ratio ratio, ContractTerms)
    ∷ []

abbrev pub reweigh_refusal : State → ℕ → ℕ → Option Refusal
reweigh_refusal s place ratio = first (reweigh_reasons s place ratio)

abbrev pub reweighed : Contract → ℕ → Contract
reweighed c ratio = record {
  number = c.number;
  base = c.base;
  previous = c.previous;
  ratio = ratio;
  fee = c.fee;
  delivery = c.delivery;
  term = c.term;
  quantity = c.quantity;
  value = c.value;
  bid = c.bid;
  ask = c.ask;
  price = c.price;
}

-- A change of the contract at a place; an empty place stays.
abbrev pub at_place : State → ℕ → Option Contract → (Contract → Contract) → State
at_place s p None change = s
at_place s p (Some c) change = with_place s p (change c)

abbrev pub reweigh_state : Option Refusal → State → ℕ → ℕ → State
reweigh_state None s place ratio = at_place s (place - 1) (place_at s (place - 1)) (λ c. reweighed c ratio)
reweigh_state (Some w) s place ratio = s
