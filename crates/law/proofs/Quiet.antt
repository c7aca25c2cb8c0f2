-- The accepted calls that enter nothing in the archive.
use Rattle.std.proofs.Common.{◌≡◌, ℕ, ◌+◌, ◌≤◌, Bool, true, false, List, ◌∷◌, Some, None, Option, sym, refl, ap, ◌∙◌, subst, arith}
use Rattle.std.proofs.lemmas.Bool.{not-false}
use Rattle.refusal.specs.declared.Refusal.{Refusal}
use Rattle.refusal.proofs.Passed.{passed}
use Rattle.ledger.specs.declared.state.Listing.{Listing}
use Rattle.ledger.specs.declared.state.Stage.{Stage}
use Rattle.ledger.specs.declared.state.State.{State}
use Rattle.ledger.specs.Days.{open_reasons, open_refusal, open_state, close_refusal, close_state}
use Rattle.ledger.specs.Listing.{list_refusal, list_state, reweigh_refusal, reweigh_state}
use Rattle.ledger.specs.Places.{is_resting, is_open, is_closed}
use Rattle.ledger.specs.Quotes.{quote_refusal, quote_state, deliver_refusal, deliver_state}
use Rattle.tally.specs.Deeds.{Try, is_none}
use Rattle.tally.specs.Deeds.{Deed.lists, Deed.reweighs, Deed.opens, Deed.quotes, Deed.delivers, Deed.closes}
use Rattle.tally.specs.Tally.{History}
use Rattle.book.specs.declared.desk.Desk.{Desk}
use Rattle.book.specs.declared.entries.Movement.{Movement}
use Rattle.book.specs.declared.permit.ClosingPermit.{ClosingPermit}
use Rattle.book.specs.declared.permit.DayPermit.{DayPermit}
use Rattle.book.specs.Closing.{closing_for}
use Rattle.book.specs.Desk.{has_room}
use Rattle.book.specs.Gates.{resting_gate, day_gate}
use Rattle.book.specs.Permits.{noted, with_laid, closing_permit}
use Rattle.book.proofs.Staged.{list_stage, reweigh_stage, quote_stage, deliver_stage}
use Rattle.law.specs.Ways.{Held, refused, after}
use Rattle.law.specs.Ways.{Call.listing, Call.ratio, Call.day, Call.quote, Call.delivery, Call.end_day, Call.lay_down_day, Call.lay_down_closing, Call.take_up_day, Call.take_up_closing}
use Rattle.law.proofs.Gates.{both_none, none_some, rests, day_open, taken_up, day_taken_up, Out, roomy, open_busy, open_not_closed, resting_not_closed}
use Rattle.law.proofs.Standing.{Running, moves_on, laid_archived}

module _ (h : Held) (start : ℕ) (tries : List Try) (told : History) (es : ℕ → List Movement) (hand : Option ClosingPermit) (r : Running h start tries told es hand) where
  -- While the book rests or a day is open, no closing permit is out.
  none_resting : (d : Desk) (u : State) → is_resting h.state.stage ≡ true → (p : ClosingPermit) → hand ≡ Some p → Out d u p
  none_resting d u rest p has = absurd (resting_not_closed h.state.stage rest (r.out p has).closed)

  pub none_open : (d : Desk) (u : State) → is_open h.state.stage ≡ true → (p : ClosingPermit) → hand ≡ Some p → Out d u p
  none_open d u opened p has = absurd (open_not_closed h.state.stage opened (r.out p has).closed)

  -- A stage that stays leaves the slots that are kept free.
  same_room : (g : Stage) → g ≡ h.state.stage → is_resting g ≡ false → h.desk.used + 33 ≤ h.desk.slots
  same_room g same busy = r.room (sym (ap is_resting same) ∙ busy)

  pub at_listing : (l : Listing) → refused h (listing l) ≡ None → Running (after h (listing l)) start (record { deed = lists l; room = true } ∷ tries) (lists l ∷ told) es hand
  at_listing l e =
      let k = both_none (resting_gate h.desk h.state) (list_refusal h.state l) e in
      let rest = rests h.desk h.state k.0 in
      moves_on h start tries told es hand r (listing l) (record { deed = lists l; room = true }) hand
      (ap is_none k.1) (ap (λ o. list_state o h.state l) (e ∙ sym k.1)) r.founded r.archived
      (same_room _ (list_stage (refused h (listing l)) h.state l)) (none_resting _ _ rest.1) (λ a known. refl)

  pub at_ratio : (place x : ℕ) → refused h (ratio place x) ≡ None → Running (after h (ratio place x)) start (record { deed = reweighs place x; room = true } ∷ tries) (reweighs place x ∷ told) es hand
  at_ratio place x e =
      let k = both_none (resting_gate h.desk h.state) (reweigh_refusal h.state place x) e in
      let rest = rests h.desk h.state k.0 in
      moves_on h start tries told es hand r (ratio place x) (record { deed = reweighs place x; room = true }) hand
      (ap is_none k.1) (ap (λ o. reweigh_state o h.state place x) (e ∙ sym k.1)) r.founded r.archived
      (same_room _ (reweigh_stage (refused h (ratio place x)) h.state place x)) (none_resting _ _ rest.1) (λ a known. refl)

  pub at_day : refused h day ≡ None → Running (after h day) start (record { deed = opens; room = has_room h.desk 0 } ∷ tries) (opens ∷ told) es hand
  at_day e =
      let k = both_none (resting_gate h.desk h.state) (open_refusal h.state (has_room h.desk 0)) e in
      let rest = rests h.desk h.state k.0 in
      let free = roomy h.desk 0 (not-false _ (passed (open_reasons h.state (has_room h.desk 0)) k.1).1.1.0) in
      moves_on h start tries told es hand r day (record { deed = opens; room = has_room h.desk 0 }) hand
      (ap is_none k.1) (ap (λ o. open_state o h.state) (e ∙ sym k.1)) r.founded r.archived
      (λ busy. omega (arith, free)) (none_resting _ _ rest.1) (λ a known. refl)

  pub at_quote : (p : DayPermit) (place bid ask : ℕ) → refused h (quote p place bid ask) ≡ None → Running (after h (quote p place bid ask)) start (record { deed = quotes place bid ask; room = true } ∷ tries) (quotes place bid ask ∷ told) es hand
  at_quote p place bid ask e =
      let k = both_none (day_gate h.desk h.state p) (quote_refusal h.state place bid ask) e in
      let opened = day_open h.desk h.state p k.0 in
      moves_on h start tries told es hand r (quote p place bid ask) (record { deed = quotes place bid ask; room = true }) hand
      (ap is_none k.1) (ap (λ o. quote_state o h.state place bid ask) (e ∙ sym k.1)) r.founded r.archived
      (same_room _ (quote_stage (refused h (quote p place bid ask)) h.state place bid ask)) (none_open _ _ opened.opened) (λ a known. refl)

  pub at_delivery : (p : DayPermit) (place price : ℕ) → refused h (delivery p place price) ≡ None → Running (after h (delivery p place price)) start (record { deed = delivers place price; room = true } ∷ tries) (delivers place price ∷ told) es hand
  at_delivery p place price e =
      let k = both_none (day_gate h.desk h.state p) (deliver_refusal h.state place price) e in
      let opened = day_open h.desk h.state p k.0 in
      moves_on h start tries told es hand r (delivery p place price) (record { deed = delivers place price; room = true }) hand
      (ap is_none k.1) (ap (λ o. deliver_state o h.state place price) (e ∙ sym k.1)) r.founded r.archived
      (same_room _ (deliver_stage (refused h (delivery p place price)) h.state place price)) (none_open _ _ opened.opened) (λ a known. refl)

  -- The day permit is given up for the closing permit of the same book and day.
  pub at_end : (p : DayPermit) (rate : ℕ) → refused h (end_day p rate) ≡ None → Running (after h (end_day p rate)) start (record { deed = closes rate; room = true } ∷ tries) (closes rate ∷ told) es (Some (closing_for p))
  at_end p rate e =
      let k = both_none (day_gate h.desk h.state p) (close_refusal h.state rate) e in
      let opened = day_open h.desk h.state p k.0 in
      let shut : (o : Option Refusal) → o ≡ None → is_closed (close_state o h.state rate).stage ≡ true = λ o n. ap (λ x. is_closed (close_state x h.state rate).stage) n in
      let today : (o : Option Refusal) → o ≡ None → (close_state o h.state rate).day ≡ h.state.day = λ o n. ap (λ x. (close_state x h.state rate).day) n in
      moves_on h start tries told es hand r (end_day p rate) (record { deed = closes rate; room = true }) (Some (closing_for p))
      (ap is_none k.1) (ap (λ o. close_state o h.state rate) (e ∙ sym k.1)) r.founded r.archived
      (λ busy. r.room (open_busy h.state.stage opened.opened))
      (λ q is. let same : closing_for p ≡ q = cc in subst (Out h.desk (close_state (refused h (end_day p rate)) h.state rate)) same
      (record { founded = opened.founded; closed = shut (refused h (end_day p rate)) e; held = opened.held; book = opened.book; day = opened.day ∙ sym (today (refused h (end_day p rate)) e) }))
      (λ a known. refl)

  -- A note at the desk: neither ledger nor archive is touched.
  noted_running : (b : Bool) (u : Held) (next : Option ClosingPermit) → u ≡ record { desk = with_laid h.desk b; state = h.state; bytes = h.bytes }
      → ((p : ClosingPermit) → next ≡ Some p → Out (with_laid h.desk b) h.state p) → Running u start tries told es next
  noted_running b u next is out =
      subst (λ (x : Held). Running x start tries told es next) (sym is)
      (record {
        founded = r.founded;
        rate = r.rate;
        state = r.state;
        tells = r.tells;
        archived = laid_archived h.desk h.bytes es b r.archived;
        room = r.room;
        out = out;
        sums = r.sums;
      })

  pub at_lay_down_day : (p : DayPermit) → refused h (lay_down_day p) ≡ None → Running (after h (lay_down_day p)) start tries told es hand
  at_lay_down_day p e =
      noted_running true _ hand (λ i. record { desk = noted (e i) h.desk true; state = h.state; bytes = h.bytes })
      (none_open _ _ (day_open h.desk h.state p e).opened)

  pub at_lay_down_closing : (p : ClosingPermit) → refused h (lay_down_closing p) ≡ None → Running (after h (lay_down_closing p)) start tries told es None
  at_lay_down_closing p e =
      noted_running true _ None (λ i. record { desk = noted (e i) h.desk true; state = h.state; bytes = h.bytes })
      (λ q is. absurd (none_some q is))

  pub at_take_up_day : refused h take_up_day ≡ None → Running (after h take_up_day) start tries told es hand
  at_take_up_day e =
      noted_running false _ hand (λ i. record { desk = noted (e i) h.desk false; state = h.state; bytes = h.bytes })
      (none_open _ _ (day_taken_up h.desk h.state e).1)

  pub at_take_up_closing : refused h take_up_closing ≡ None → Running (after h take_up_closing) start tries told es (Some (closing_permit h.desk h.state))
  at_take_up_closing e =
      let up = taken_up h.desk h.state e in
      noted_running false _ (Some (closing_permit h.desk h.state)) (λ i. record { desk = noted (e i) h.desk false; state = h.state; bytes = h.bytes })
      (λ q is. let same : closing_permit h.desk h.state ≡ q = cc in subst (Out (with_laid h.desk false) h.state) same
      (record { founded = up.0; closed = up.1; held = refl; book = refl; day = refl }))
