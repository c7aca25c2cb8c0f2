-- An accepted trade: two entries, the buyer's and then the seller's.
use Rattle.std.proofs.Common.{◌≡◌, ℕ, ◌+◌, Bool, true, false, eqb, List, ◌∷◌, length, pos, ◌+ℤ◌, ◌-ℤ◌, neg_ℤ, Some, None, Ok, Option, Result, sym, refl, ap, ◌∙◌, subst, arith}
use Rattle.refusal.specs.declared.Refusal.{Refusal}
use Rattle.archive.specs.declared.entry.Kind.TheVariants.{TradeFee}
use Rattle.ledger.specs.declared.state.Bargain.{Bargain}
use Rattle.ledger.specs.declared.state.Deal.{Deal}
use Rattle.ledger.specs.Sound.{Sound}
use Rattle.ledger.specs.Trade.{bargain, exchange_state, exchange_answer, traded_state, fee_of}
use Rattle.tally.specs.Agreement.{fee_said}
use Rattle.tally.specs.Deeds.{Try, MarginRule, is_ok}
use Rattle.tally.specs.Deeds.{Deed.trades}
use Rattle.tally.specs.Tally.{History, if_so}
use Rattle.tally.proofs.Algebra.{lin}
use Rattle.tally.proofs.Lists.{Each.none, Each.more}
use Rattle.book.specs.declared.entries.Movement.{Movement}
use Rattle.book.specs.declared.permit.ClosingPermit.{ClosingPermit}
use Rattle.book.specs.declared.permit.DayPermit.{DayPermit}
use Rattle.book.specs.Desk.{has_room}
use Rattle.book.specs.Entries.{fee_moves, desk_with}
use Rattle.book.specs.Gates.{entry_gate}
use Rattle.book.specs.Trading.{behind, trade_bargain, trade_moves}
use Rattle.book.proofs.Striking.{dealt}
use Rattle.law.specs.Entries.{recorded}
use Rattle.law.specs.Ways.{Held, refused, entered, after}
use Rattle.law.specs.Ways.{Call.trade}
use Rattle.law.proofs.Gates.{entry_open, roomy}
use Rattle.law.proofs.Paying.{eqb_swap, moved_fits, written}
use Rattle.law.proofs.Quiet.{none_open}
use Rattle.law.proofs.Refusing.{why_ok}
use Rattle.law.proofs.Soundness.{sound_after, fee_fits}
use Rattle.law.proofs.Standing.{Running, moves_on, sound_now, sized_now}
use Rattle.law.proofs.Sums.{own}

behind_ok : (o : Option Refusal) (r : Result Bargain Refusal) (b : Bargain) → behind o r ≡ Ok b → (o ≡ None) × (r ≡ Ok b)
behind_ok None r b h = (refl, h)
behind_ok (Some w) r b h = let z : ◌≡◌ {A = ℕ} 0 1 = cc in absurd (omega arith)

paid_both : (b c x y : Bool) (n : ℕ) → b ≡ x → c ≡ y → if_so b (neg_ℤ (pos n)) +ℤ (if_so c (neg_ℤ (pos n)) +ℤ pos 0) ≡ (pos 0 -ℤ if_so x (pos n)) -ℤ if_so y (pos n)
paid_both b c x y n p q = ap (λ t. if_so t (neg_ℤ (pos n)) +ℤ (if_so c (neg_ℤ (pos n)) +ℤ pos 0)) p ∙ ap (λ t. if_so x (neg_ℤ (pos n)) +ℤ (if_so t (neg_ℤ (pos n)) +ℤ pos 0)) q ∙ go x y
  where
    go : (x y : Bool) → if_so x (neg_ℤ (pos n)) +ℤ (if_so y (neg_ℤ (pos n)) +ℤ pos 0) ≡ (pos 0 -ℤ if_so x (pos n)) -ℤ if_so y (pos n)
    go true true = omega (arith, lin)
    go true false = omega (arith, lin)
    go false true = omega (arith, lin)
    go false false = omega (arith, lin)

module _ (h : Held) (start : ℕ) (tries : List Try) (told : History) (es : ℕ → List Movement) (hand : Option ClosingPermit) (r : Running h start tries told es hand) where
  struck_trade : (p : DayPermit) (rule : MarginRule) (deal : Deal) (b : Bargain) → trade_bargain rule.opening h.desk h.state (length h.bytes) p deal ≡ Ok b
      → Running (after h (trade p rule deal)) start (record { deed = trades rule deal; room = has_room h.desk 2 } ∷ tries) (trades rule deal ∷ told) (λ a. recorded a (entered h (trade p rule deal)) (es a)) hand
  struck_trade p rule deal b f =
      let s = h.state in
      let room = has_room h.desk 2 in
      let t : Try = record { deed = trades rule deal; room = room } in
      let k = behind_ok (entry_gate h.desk s (length h.bytes) p) (bargain rule.opening s deal room) b f in
      let opened = entry_open h.desk s (length h.bytes) p k.0 in
      let before = sound_now h start tries told es hand r in
      let fee = fee_of b.contract deal in
      let met = dealt rule.opening s deal room fee rule.opens before (ap (λ x. exchange_answer x deal) k.1) in
      let free = roomy h.desk 2 met.roomy in
      let u = traded_state s deal b in
      let sound : Sound u = subst (λ x. Sound (exchange_state x s deal)) k.1 (sound_after s (sized_now h start tries told es hand r) before room (trades rule deal)) in
      let fits = fee_fits rule.opening s deal room b rule.opens before k.1 in
      let is : entered h (trade p rule deal) ≡ fee_moves u deal fee = ap (λ x. trade_moves x s deal) f in
      let kept : ((desk_with h.desk (entered h (trade p rule deal))).used ≡ h.desk.used + 1 + 1) × ((desk_with h.desk (entered h (trade p rule deal))).slots ≡ h.desk.slots) × ((desk_with h.desk (entered h (trade p rule deal))).founded ≡ h.desk.founded) = (ap (λ (l : List Movement). (desk_with h.desk l).used) is, ap (λ (l : List Movement). (desk_with h.desk l).slots) is, ap (λ (l : List Movement). (desk_with h.desk l).founded) is) in
      moves_on h start tries told es hand r (trade p rule deal) t hand
      (ap is_ok k.1) (ap (λ x. exchange_state x s deal) (f ∙ sym k.1))
      (kept.2 ∙ r.founded)
      (written h.desk h.bytes es (entered h (trade p rule deal)) (fee_moves u deal fee) is r.archived
      (more (moved_fits u deal.buyer TradeFee (neg_ℤ (pos fee)) sound met.buyer fits) (more (moved_fits u deal.seller TradeFee (neg_ℤ (pos fee)) sound met.seller fits) none))
      (omega (arith, free)))
      (λ busy. omega (arith, free, kept.0, kept.1))
      (none_open h start tries told es hand r _ _ opened.opened)
      (λ a given. ap (own a) is ∙ paid_both (eqb deal.buyer a) (eqb deal.seller a) (eqb a deal.buyer) (eqb a deal.seller) fee (eqb_swap deal.buyer a) (eqb_swap deal.seller a)
      ∙ ap (λ x. fee_said (exchange_answer x deal) deal a) (sym k.1))

  pub at_trade : (p : DayPermit) (rule : MarginRule) (deal : Deal) → refused h (trade p rule deal) ≡ None
      → Running (after h (trade p rule deal)) start (record { deed = trades rule deal; room = has_room h.desk 2 } ∷ tries) (trades rule deal ∷ told) (λ a. recorded a (entered h (trade p rule deal)) (es a)) hand
  at_trade p rule deal e =
      let found = why_ok deal (trade_bargain rule.opening h.desk h.state (length h.bytes) p deal) e in
      struck_trade p rule deal found.0 found.1
