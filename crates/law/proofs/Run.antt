-- Along every way: a book is idle, or founded and running.
use Rattle.std.proofs.Common.{◌≡◌, ℕ, Bool, true, false, cond, not, ◌⊎◌, List, [], ◌∷◌, length, Some, None, Ok, Option, Result, sym, refl, ap, ◌∙◌, subst, inl, inr}
use Rattle.std.proofs.lemmas.Bool.{false≢true}
use Rattle.refusal.specs.declared.Refusal.{Refusal}
use Rattle.refusal.specs.declared.Refusal.TheVariants.{ArchiveLength, WrongPhase, OutOfRange, RateRange}
use Rattle.refusal.proofs.Passed.{passed}
use Rattle.rules.specs.Units.{min_rate}
use Rattle.archive.specs.Layout.{allowed}
use Rattle.ledger.specs.declared.state.Bargain.{Bargain}
use Rattle.ledger.specs.declared.state.Deal.{Deal}
use Rattle.ledger.specs.Trade.{exchange_answer}
use Rattle.ledger.specs.Days.{bad_rate, start_refusal}
use Rattle.tally.specs.Agreement.{changes}
use Rattle.tally.specs.Deeds.{Try, is_none, ledger, history}
use Rattle.tally.specs.Tally.{History}
use Rattle.book.specs.declared.entries.Movement.{Movement}
use Rattle.book.specs.declared.permit.ClosingPermit.{ClosingPermit}
use Rattle.book.specs.Desk.{wrong_length}
use Rattle.book.specs.Gates.{why}
use Rattle.book.specs.Founding.{idle_desk, idle_state, bad_book, found_gate, found_desk, found_state, found_bytes}
use Rattle.book.specs.Trading.{behind}
use Rattle.law.specs.Entries.{recorded}
use Rattle.law.specs.Ways.{Held, Call, refused, entered, after, idle, way, accepted, joined, deeds, rate_from, founding_rate, entries, hand_after, in_hand}
use Rattle.law.specs.Ways.{Call.founding, Call.listing, Call.ratio, Call.day, Call.pay_in, Call.pay_out, Call.quote, Call.trade, Call.delivery, Call.end_day, Call.settle, Call.lay_down_day, Call.lay_down_closing, Call.take_up_day, Call.take_up_closing}
use Rattle.law.proofs.Chains.{begun_archived}
use Rattle.law.proofs.Dealing.{at_trade}
use Rattle.law.proofs.Gates.{both_none, none_some}
use Rattle.law.proofs.Paying.{at_pay_in, at_pay_out}
use Rattle.law.proofs.Quiet.{at_listing, at_ratio, at_day, at_quote, at_delivery, at_end, at_lay_down_day, at_lay_down_closing, at_take_up_day, at_take_up_closing}
use Rattle.law.proofs.Refusing.{refusal_enters_nothing, refusal_changes_nothing}
use Rattle.law.proofs.Settled.{at_settle}
use Rattle.law.proofs.Standing.{Running}
use Rattle.law.proofs.Sums.{summed}

-- Nothing was accepted yet.
pub record Idle (bytes : List ℕ) (h : Held) (start : ℕ) (told : History) (es : ℕ → List Movement) (hand : Option ClosingPermit) : Type 0 where
  pub held : h ≡ idle bytes
  pub start_is : start ≡ min_rate
  pub told_is : told ≡ []
  pub empty : (a : ℕ) → es a ≡ []
  pub none_out : hand ≡ None

-- The tries that a running book's ledger has seen are some.
pub record Runs (h : Held) (start : ℕ) (told : History) (es : ℕ → List Movement) (hand : Option ClosingPermit) : Type 0 where
  pub tries : List Try
  pub running : Running h start tries told es hand

abbrev pub Stands : List ℕ → Held → ℕ → History → (ℕ → List Movement) → Option ClosingPermit → Type 0
Stands bytes h start told es hand = Idle bytes h start told es hand ⊎ Runs h start told es hand

some_refused : (b : Bool) (v w : Refusal) → cond b (Some v) (Some w) ≡ None → ⊥
some_refused true v w h = none_some v (sym h)
some_refused false v w h = none_some w (sym h)

-- Of an idle book only a founding is accepted.
pub founded_first : (bytes : List ℕ) (number rate : ℕ) (es : ℕ → List Movement) → ((a : ℕ) → es a ≡ []) → refused (idle bytes) (founding number rate) ≡ None
    → Runs (after (idle bytes) (founding number rate)) rate [] es None
unfolding ledger history changes
founded_first bytes number rate es empty e =
    let k = both_none (found_gate idle_desk (length bytes) number) (start_refusal rate) e in
    let begun = begun_archived idle_desk bytes number k.0 in
    let same : record { desk = found_desk None idle_desk (length bytes) number; state = found_state None idle_state rate; bytes = found_bytes None bytes number } ≡ after (idle bytes) (founding number rate) = λ i. record { desk = found_desk (sym e i) idle_desk (length bytes) number; state = found_state (sym e i) idle_state rate; bytes = found_bytes (sym e i) bytes number } in
    record {
      tries = [];
      running = subst (λ (x : Held). Running x rate [] [] es None) same (record {
        founded = refl;
        rate = (passed ((bad_rate rate, RateRange) ∷ []) k.1).0;
        state = refl;
        tells = refl;
        archived = record { long = begun.long; least = begun.least; most = begun.most; sized = begun.sized; sound = begun.sound; count = begun.count; tops = begun.tops; chains = λ a known. begun.chains a known ∙ ap Ok (sym (empty a)) };
        room = λ busy. absurd (false≢true (sym busy));
        out = λ p is. absurd (none_some p is);
        sums = λ a known. ap summed (empty a);
      });
    }

-- What stands after an accepted call.
abbrev Follows : List ℕ → Held → ℕ → History → (ℕ → List Movement) → Option ClosingPermit → Call → Type 0
Follows bytes h start told es hand c = Stands bytes (after h c) (rate_from c start) (joined c told) (λ a. recorded a (entered h c) (es a)) (hand_after h c hand)

trade_refused : (b : Bool) (r : Result Bargain Refusal) (deal : Deal) → why (exchange_answer (behind (cond b (Some ArchiveLength) (Some WrongPhase)) r) deal) ≡ None → ⊥
trade_refused true r deal h = none_some ArchiveLength (sym h)
trade_refused false r deal h = none_some WrongPhase (sym h)

idle_accepts : (bytes : List ℕ) (start : ℕ) (told : History) (es : ℕ → List Movement) (hand : Option ClosingPermit) → ((a : ℕ) → es a ≡ []) → hand ≡ None → (c : Call) → refused (idle bytes) c ≡ None → Follows bytes (idle bytes) start told es hand c
idle_accepts bytes start told es hand empty out (founding number rate) e = inr (subst (Runs (after (idle bytes) (founding number rate)) rate [] es) (sym out) (founded_first bytes number rate es empty e))
idle_accepts bytes start told es hand empty out (listing l) e = absurd (none_some WrongPhase (sym e))
idle_accepts bytes start told es hand empty out (ratio place x) e = absurd (none_some WrongPhase (sym e))
idle_accepts bytes start told es hand empty out day e = absurd (none_some WrongPhase (sym e))
idle_accepts bytes start told es hand empty out (pay_in p account fen) e = absurd (some_refused (not (allowed (length bytes))) ArchiveLength WrongPhase (both_none _ _ e).0)
idle_accepts bytes start told es hand empty out (pay_out p account fen) e = absurd (some_refused (not (allowed (length bytes))) ArchiveLength WrongPhase (both_none _ _ e).0)
idle_accepts bytes start told es hand empty out (quote p place bid ask) e = absurd (none_some WrongPhase (sym e))
idle_accepts bytes start told es hand empty out (trade p rule deal) e = absurd (trade_refused (not (allowed (length bytes))) _ deal e)
idle_accepts bytes start told es hand empty out (delivery p place price) e = absurd (none_some WrongPhase (sym e))
idle_accepts bytes start told es hand empty out (end_day p rate) e = absurd (none_some WrongPhase (sym e))
idle_accepts bytes start told es hand empty out (settle p price margin) e = absurd (some_refused (not (allowed (length bytes))) ArchiveLength WrongPhase e)
idle_accepts bytes start told es hand empty out (lay_down_day p) e = absurd (none_some WrongPhase (sym e))
idle_accepts bytes start told es hand empty out (lay_down_closing p) e = absurd (none_some WrongPhase (sym e))
idle_accepts bytes start told es hand empty out take_up_day e = absurd (none_some WrongPhase (sym e))
idle_accepts bytes start told es hand empty out take_up_closing e = absurd (none_some WrongPhase (sym e))

module _ (bytes : List ℕ) (h : Held) (start : ℕ) (told : History) (es : ℕ → List Movement) (hand : Option ClosingPermit) where
  running_accepts : (tries : List Try) → Running h start tries told es hand → (c : Call) → refused h c ≡ None → Follows bytes h start told es hand c
  running_accepts tries r (founding number rate) e =
      let k = both_none (found_gate h.desk (length h.bytes) number) (start_refusal rate) e in
      let ok = passed ((wrong_length h.desk (length h.bytes), ArchiveLength) ∷ (h.desk.founded, WrongPhase) ∷ (bad_book number, OutOfRange) ∷ []) k.0 in
      absurd (false≢true (sym ok.1.0 ∙ r.founded))
  running_accepts tries r (listing l) e = inr (record { tries = _; running = at_listing h start tries told es hand r l e })
  running_accepts tries r (ratio place x) e = inr (record { tries = _; running = at_ratio h start tries told es hand r place x e })
  running_accepts tries r day e = inr (record { tries = _; running = at_day h start tries told es hand r e })
  running_accepts tries r (pay_in p account fen) e = inr (record { tries = _; running = at_pay_in h start tries told es hand r p account fen e })
  running_accepts tries r (pay_out p account fen) e = inr (record { tries = _; running = at_pay_out h start tries told es hand r p account fen e })
  running_accepts tries r (quote p place bid ask) e = inr (record { tries = _; running = at_quote h start tries told es hand r p place bid ask e })
  running_accepts tries r (trade p rule deal) e = inr (record { tries = _; running = at_trade h start tries told es hand r p rule deal e })
  running_accepts tries r (delivery p place price) e = inr (record { tries = _; running = at_delivery h start tries told es hand r p place price e })
  running_accepts tries r (end_day p rate) e = inr (record { tries = _; running = at_end h start tries told es hand r p rate e })
  running_accepts tries r (settle p price margin) e = inr (record { tries = _; running = at_settle h start tries told es hand r p price margin e })
  running_accepts tries r (lay_down_day p) e = inr (record { tries = tries; running = at_lay_down_day h start tries told es hand r p e })
  running_accepts tries r (lay_down_closing p) e = inr (record { tries = tries; running = at_lay_down_closing h start tries told es hand r p e })
  running_accepts tries r take_up_day e = inr (record { tries = tries; running = at_take_up_day h start tries told es hand r e })
  running_accepts tries r take_up_closing e = inr (record { tries = tries; running = at_take_up_closing h start tries told es hand r e })

  accepts_on : (c : Call) → refused h c ≡ None → Stands bytes h start told es hand → Follows bytes h start told es hand c
  accepts_on c e (inl i) = subst (λ (x : Held). refused x c ≡ None → Follows bytes x start told es hand c) (sym i.held) (idle_accepts bytes start told es hand i.empty i.none_out c) e
  accepts_on c e (inr r) = running_accepts r.tries r.running c e

  refuses_on : (c : Call) (w : Refusal) → refused h c ≡ Some w → Stands bytes h start told es hand → Stands bytes (after h c) start told (λ a. recorded a (entered h c) (es a)) hand
  refuses_on c w e st =
      subst (λ (ms : List Movement). Stands bytes (after h c) start told (λ a. recorded a ms (es a)) hand) (sym (refusal_enters_nothing h c w e))
      (subst (λ (x : Held). Stands bytes x start told es hand) (sym (refusal_changes_nothing h c w e)) st)

  pub step : (c : Call) → Stands bytes h start told es hand
      → Stands bytes (after h c) (cond (accepted h c) (rate_from c start) start) (cond (accepted h c) (joined c told) told) (λ a. recorded a (entered h c) (es a)) (cond (accepted h c) (hand_after h c hand) hand)
  step c st = go (refused h c) refl
    where
      go : (o : Option Refusal) → refused h c ≡ o
          → Stands bytes (after h c) (cond (is_none o) (rate_from c start) start) (cond (is_none o) (joined c told) told) (λ a. recorded a (entered h c) (es a)) (cond (is_none o) (hand_after h c hand) hand)
      go None e = accepts_on c e st
      go (Some w) e = refuses_on c w e st

pub along : (bytes : List ℕ) (calls : List Call) → Stands bytes (way bytes calls) (founding_rate bytes calls) (deeds bytes calls) (entries bytes calls) (in_hand bytes calls)
unfolding way founding_rate deeds entries in_hand
along bytes [] = inl (record { held = refl; start_is = refl; told_is = refl; empty = λ a. refl; none_out = refl })
along bytes (c ∷ cs) = step bytes (way bytes cs) (founding_rate bytes cs) (deeds bytes cs) (entries bytes cs) (in_hand bytes cs) c (along bytes cs)
