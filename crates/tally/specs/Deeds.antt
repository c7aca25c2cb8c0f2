-- What may be tried of a ledger, under rules of its own each time, and the ledger and the history that come of it.
use Rattle.std.specs.Prelude.{ℕ, ◌+◌, Bool, true, false, cond, List, [], ◌∷◌, Some, None, Ok, Err, Option, Result}
use Rattle.rules.specs.declared.figures.Figures.{Figures}
use Rattle.rules.specs.Margin.{Fair}
use Rattle.rules.specs.Price.{Inside}
use Rattle.ledger.specs.declared.state.Deal.{Deal}
use Rattle.ledger.specs.declared.state.Listing.{Listing}
use Rattle.ledger.specs.declared.state.State.{State}
use Rattle.ledger.specs.Cash.{credit_refusal, credit_state, debit_refusal, debit_state}
use Rattle.ledger.specs.Days.{started, open_refusal, open_state, close_refusal, close_state}
use Rattle.ledger.specs.Listing.{list_refusal, list_state, reweigh_refusal, reweigh_state}
use Rattle.ledger.specs.Places.{is_closed}
use Rattle.ledger.specs.Quotes.{quote_refusal, quote_state, deliver_refusal, deliver_state}
use Rattle.ledger.specs.Settle.{revalue_state}
use Rattle.ledger.specs.Trade.{bargain, exchange_state}

-- A lawful price rule, and a lawful margin rule.
pub record PriceRule : Type 0 where
  pub meaning : Figures → ℕ
  pub inside : Inside meaning

pub record MarginRule : Type 0 where
  pub opening : ℕ → ℕ → ℕ → ℕ
  pub holding : ℕ → ℕ → ℕ → ℕ → ℕ
  pub opens : (value quantity ratio : ℕ) → Fair value quantity ratio (opening value quantity ratio)
  pub holds : (value long short ratio : ℕ) → Fair value (long + short) ratio (holding value long short ratio)

-- A transition with what it brings. Places, accounts and amounts are any numbers.
pub data Deed : Type 0 where
  lists : Listing → Deed
  -- place and ratio
  reweighs : ℕ → ℕ → Deed
  opens : Deed
  -- account and fen
  pays_in : ℕ → ℕ → Deed
  pays_out : ℕ → ℕ → Deed
  -- place, bid and ask
  quotes : ℕ → ℕ → ℕ → Deed
  trades : MarginRule → Deal → Deed
  -- place and price
  delivers : ℕ → ℕ → Deed
  -- the settlement rate
  closes : ℕ → Deed
  settles : PriceRule → MarginRule → Deed

-- A deed as it is tried, with whether the archive has room.
pub record Try : Type 0 where
  pub deed : Deed
  pub room : Bool

abbrev pub is_none : {X : Type 0} → Option X → Bool
is_none None = true
is_none (Some x) = false

abbrev pub is_ok : {X E : Type 0} → Result X E → Bool
is_ok (Ok x) = true
is_ok (Err e) = false

-- Whether a ledger accepts, by the transition's own definitions, and the state that it then leaves.
abbrev pub accepts : State → Bool → Deed → Bool
accepts s room (lists l) = is_none (list_refusal s l)
accepts s room (reweighs p ratio) = is_none (reweigh_refusal s p ratio)
accepts s room opens = is_none (open_refusal s room)
accepts s room (pays_in a fen) = is_none (credit_refusal s a fen room)
accepts s room (pays_out a fen) = is_none (debit_refusal s a fen room)
accepts s room (quotes p bid ask) = is_none (quote_refusal s p bid ask)
accepts s room (trades rule d) = is_ok (bargain rule.opening s d room)
accepts s room (delivers p price) = is_none (deliver_refusal s p price)
accepts s room (closes rate) = is_none (close_refusal s rate)
accepts s room (settles price margin) = is_closed s.stage

abbrev pub after : State → Bool → Deed → State
after s room (lists l) = list_state (list_refusal s l) s l
after s room (reweighs p ratio) = reweigh_state (reweigh_refusal s p ratio) s p ratio
after s room opens = open_state (open_refusal s room) s
after s room (pays_in a fen) = credit_state (credit_refusal s a fen room) s a fen
after s room (pays_out a fen) = debit_state (debit_refusal s a fen room) s a fen
after s room (quotes p bid ask) = quote_state (quote_refusal s p bid ask) s p bid ask
after s room (trades rule d) = exchange_state (bargain rule.opening s d room) s d
after s room (delivers p price) = deliver_state (deliver_refusal s p price) s p price
after s room (closes rate) = close_state (close_refusal s rate) s rate
after s room (settles price margin) = revalue_state price.meaning margin.holding s

-- The ledger after a list of tries, and its history: the accepted deeds. Both lists have the newest first.
unfoldable pub ledger : ℕ → List Try → State
ledger rate [] = started rate
ledger rate (t ∷ ts) = after (ledger rate ts) t.room t.deed

unfoldable pub history : ℕ → List Try → List Deed
history rate [] = []
history rate (t ∷ ts) =
    cond (accepts (ledger rate ts) t.room t.deed) (t.deed ∷ history rate ts) (history rate ts)
