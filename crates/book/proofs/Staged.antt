-- What a call of the ledger does to its stage, and so to the slots that are kept free.
use Rattle.std.proofs.Common.{◌≡◌, ℕ, ◌-◌, true, false, Some, None, Option, sym, refl, ◌∙◌}
use Rattle.std.proofs.lemmas.Bool.{not-false, false≢true}
use Rattle.refusal.specs.declared.Refusal.{Refusal}
use Rattle.refusal.proofs.Passed.{passed}
use Rattle.ledger.specs.declared.state.Contract.{Contract}
use Rattle.ledger.specs.declared.state.Listing.{Listing}
use Rattle.ledger.specs.declared.state.Stage.{Stage}
use Rattle.ledger.specs.declared.state.Stage.TheVariants.{Resting, Open, Closed}
use Rattle.ledger.specs.declared.state.State.{State}
use Rattle.ledger.specs.Cash.{credit_state, debit_state}
use Rattle.ledger.specs.Days.{close_reasons, close_refusal, close_state}
use Rattle.ledger.specs.Listing.{list_state, reweigh_state, at_place, reweighed}
use Rattle.ledger.specs.Places.{is_resting, is_open, place_at}
use Rattle.ledger.specs.Quotes.{quote_state, deliver_state, quoted, delivered_at}
use Rattle.book.specs.declared.desk.Desk.{Desk}
use Rattle.book.specs.Held.{RoomIn, RestIn}

pub list_stage : (o : Option Refusal) (s : State) (l : Listing) → (list_state o s l).stage ≡ s.stage
list_stage None s l = refl
list_stage (Some w) s l = refl

place_stage : (s : State) (p : ℕ) (o : Option Contract) (change : Contract → Contract) → (at_place s p o change).stage ≡ s.stage
place_stage s p None change = refl
place_stage s p (Some c) change = refl

pub reweigh_stage : (o : Option Refusal) (s : State) (place ratio : ℕ) → (reweigh_state o s place ratio).stage ≡ s.stage
reweigh_stage None s place ratio = place_stage s (place - 1) (place_at s (place - 1)) (λ c. reweighed c ratio)
reweigh_stage (Some w) s place ratio = refl

pub quote_stage : (o : Option Refusal) (s : State) (place bid ask : ℕ) → (quote_state o s place bid ask).stage ≡ s.stage
quote_stage None s place bid ask = place_stage s (place - 1) (place_at s (place - 1)) (quoted bid ask)
quote_stage (Some w) s place bid ask = refl

pub deliver_stage : (o : Option Refusal) (s : State) (place price : ℕ) → (deliver_state o s place price).stage ≡ s.stage
deliver_stage None s place price = place_stage s (place - 1) (place_at s (place - 1)) (delivered_at price)
deliver_stage (Some w) s place price = refl

pub credit_stage : (o : Option Refusal) (s : State) (account fen : ℕ) → (credit_state o s account fen).stage ≡ s.stage
credit_stage None s account fen = refl
credit_stage (Some w) s account fen = refl

pub debit_stage : (o : Option Refusal) (s : State) (account fen : ℕ) → (debit_state o s account fen).stage ≡ s.stage
debit_stage None s account fen = refl
debit_stage (Some w) s account fen = refl

-- The end of a day keeps the slots free, and leaves the permit that may be laid down.
open_busy : (g : Stage) → is_open g ≡ true → is_resting g ≡ false
open_busy Resting h = absurd (false≢true h)
open_busy Open h = refl
open_busy Closed h = refl

pub close_room : (d : Desk) (s : State) (rate : ℕ) → RoomIn d s → RoomIn d (close_state (close_refusal s rate) s rate)
close_room d s rate room = go (close_refusal s rate) refl
  where
    go : (o : Option Refusal) → close_refusal s rate ≡ o → RoomIn d (close_state o s rate)
    go None e busy = room (open_busy s.stage (not-false (is_open s.stage) (passed (close_reasons s rate) e).0))
    go (Some w) e busy = room busy

pub close_rest : (d : Desk) (s : State) (o : Option Refusal) (rate : ℕ) → RestIn d s → RestIn d (close_state o s rate)
close_rest d s None rate rest quiet = absurd (false≢true quiet)
close_rest d s (Some w) rate rest quiet = rest quiet

-- While a book rests no slot need be free.
pub resting_room : (d : Desk) (s : State) → is_resting s.stage ≡ true → RoomIn d s
resting_room d s rests busy = absurd (false≢true (sym busy ∙ rests))
