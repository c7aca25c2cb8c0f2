-- The tally along every list of tries.
use Rattle.std.proofs.Common.{◌≡◌, ℕ, ◌+◌, ◌-◌, ◌*◌, Bool, true, false, cond, ◌&&◌, eqb, leb, List, [], ◌∷◌, ℤ, pos, ◌+ℤ◌, ◌-ℤ◌, Some, None, Ok, Err, Option, Result, sym, refl, ap, ◌∙◌, ap₂, arith}
use Rattle.std.proofs.lemmas.Bool.{false≢true, not-false, le-leb}
use Rattle.refusal.specs.declared.Refusal.{Refusal}
use Rattle.refusal.specs.declared.Refusal.TheVariants.{OutOfRange, WrongPhase}
use Rattle.refusal.proofs.Passed.{passed}
use Rattle.rules.specs.Units.{fen_units}
use Rattle.ledger.specs.declared.state.Account.{Account}
use Rattle.ledger.specs.declared.state.Bargain.{Bargain}
use Rattle.ledger.specs.declared.state.Deal.{Deal}
use Rattle.ledger.specs.declared.state.State.{State}
use Rattle.ledger.specs.Cash.{credit_reasons, credit_refusal, credit_state, credited_account, debit_reasons, debit_refusal, debit_state, debited_account}
use Rattle.ledger.specs.Days.{open_refusal, open_state, opened_account, close_refusal, close_state}
use Rattle.ledger.specs.Listing.{list_refusal, list_state, reweigh_refusal, reweigh_state, at_place}
use Rattle.ledger.specs.Places.{account_at, place_at, no_account, equity, known_account, is_closed}
use Rattle.ledger.specs.Quotes.{quote_refusal, quote_state, deliver_refusal, deliver_state}
use Rattle.ledger.specs.Settle.{prices_of, outcome_to, change_of, settled_account, settled_by, settlement}
use Rattle.ledger.specs.Sums.{sum_to}
use Rattle.ledger.specs.Trade.{bargain, exchange_state, exchange_answer}
use Rattle.ledger.proofs.Tabulated.{tabulated_at}
use Rattle.tally.specs.Agreement.{LedgersAgree, Tallied, equity_at, said, fee_said, change_said, changes}
use Rattle.tally.specs.Deeds.{Deed, Try, PriceRule, MarginRule, accepts, after, is_none, is_ok, ledger, history}
use Rattle.tally.specs.Deeds.{Deed.lists, Deed.reweighs, Deed.opens, Deed.pays_in, Deed.pays_out, Deed.quotes, Deed.trades, Deed.delivers, Deed.closes, Deed.settles}
use Rattle.tally.specs.Tally.{History, tally_equity, if_so, long, short, fees, cash_in, cash_out, trade_fee, delivery_fee, just_settled}
use Rattle.tally.proofs.Adds.{Adds, add_up, one_more, two_more}
use Rattle.tally.proofs.Algebra.{lin}
use Rattle.tally.proofs.Cash.{among, at_start, at_pays_in, at_pays_out, written}
use Rattle.tally.proofs.Days.{at_opens, at_closes, at_quotes, at_delivers, at_reweighs}
use Rattle.tally.proofs.Listings.{at_lists}
use Rattle.tally.proofs.Lists.{Among, read_replicate}
use Rattle.tally.proofs.Matches.{Matches, account_of}
use Rattle.tally.proofs.Settling.{at_settles, idle, fees_at, changed_equity}
use Rattle.tally.proofs.Sums.{sum_add, sum_same, sum_zero}
use Rattle.tally.proofs.Trading.{at_trades}

-- Once settled, an account with nothing open has no margin.
Idle : ℕ → State → History → Type 0
Idle start s h = just_settled h ≡ true → (a : ℕ) → Among 32 a → ((p : ℕ) → Among 12 p → (long start h a p ≡ 0) × (short start h a p ≡ 0)) → (account_of s a).margin ≡ 0

-- From one state to the next, with what the transition says it changed.
record Next (start : ℕ) (s u : State) (k : History) (z : ℕ → ℤ) : Type 0 where
  matches : Matches start u k
  adds : Adds start u k
  moved : (a : ℕ) → Among 32 a → equity (account_of u a) ≡ equity (account_of s a) +ℤ z a
  rests : Idle start u k

plus_none : (z y : ℤ) → y ≡ pos 0 → z ≡ z +ℤ y
plus_none z y e = omega (arith, lin)

paid_in : (b : Bool) (x : Account) (fen : ℕ) → equity (cond b (credited_account x fen) x) ≡ equity x +ℤ if_so b (pos (fen_units * fen))
paid_in true x fen = omega (arith, lin)
paid_in false x fen = omega (arith, lin)

paid_out : (b : Bool) (x : Account) (fen : ℕ) → equity (cond b (debited_account x fen) x) ≡ equity x +ℤ (pos 0 -ℤ if_so b (pos (fen_units * fen)))
paid_out true x fen = omega (arith, lin)
paid_out false x fen = omega (arith, lin)

module _ (start : ℕ) (s : State) (h : History) (m : Matches start s h) (k : Adds start s h) (o : Idle start s h) where
  -- refused: nothing changed
  kept : (z : ℕ → ℤ) → ((a : ℕ) → z a ≡ pos 0) → Next start s s h z
  kept z e = record { matches = m; adds = k; moved = λ a i. plus_none (equity (account_of s a)) (z a) (e a); rests = o }

  same : (a : ℕ) → equity (account_of s a) ≡ equity (account_of s a) +ℤ pos 0
  same a = plus_none (equity (account_of s a)) (pos 0) refl

  step_lists : (l : _) (r : Option Refusal) → list_refusal s l ≡ r → Next start s (list_state r s l) (cond (is_none r) (lists l ∷ h) h) (λ a. pos 0)
  unfolding Idle
  step_lists l None e = record { matches = at_lists start s h m l e; adds = record { collected = k.collected; paid = k.paid; drawn = k.drawn }; moved = λ a i. same a; rests = λ f. absurd (false≢true f) }
  step_lists l (Some w) e = kept (λ a. pos 0) (λ a. refl)

  step_opens : (room : Bool) (r : Option Refusal) → open_refusal s room ≡ r → Next start s (open_state r s) (cond (is_none r) (opens ∷ h) h) (λ a. pos 0)
  unfolding Idle
  step_opens room None e = record {
    matches = at_opens start s h m room e;
    adds = record { collected = k.collected; paid = k.paid; drawn = k.drawn };
    moved = λ a i. ap equity (tabulated_at (λ b. opened_account (account_at s b)) 32 (a - 1) no_account (omega (arith, i.low, i.high))) ∙ same a;
    rests = λ f. absurd (false≢true f);
  }
  step_opens room (Some w) e = kept (λ a. pos 0) (λ a. refl)

  step_closes : (rate : ℕ) (r : Option Refusal) → close_refusal s rate ≡ r → Next start s (close_state r s rate) (cond (is_none r) (closes rate ∷ h) h) (λ a. pos 0)
  unfolding Idle
  step_closes rate None e = record { matches = at_closes start s h m rate e; adds = record { collected = k.collected; paid = k.paid; drawn = k.drawn }; moved = λ a i. same a; rests = λ f. absurd (false≢true f) }
  step_closes rate (Some w) e = kept (λ a. pos 0) (λ a. refl)

  -- a change of a place moves no money
  same_fees : (p : ℕ) (x : _) (f : _) → (at_place s p x f).fees ≡ s.fees
  same_fees p None f = refl
  same_fees p (Some c) f = refl

  same_funds : (p : ℕ) (x : _) (f : _) (a : ℕ) → equity (account_of (at_place s p x f) a) ≡ equity (account_of s a) +ℤ pos 0
  same_funds p None f a = same a
  same_funds p (Some c) f a = same a

  step_reweighs : (q x : ℕ) (r : Option Refusal) → reweigh_refusal s q x ≡ r → Next start s (reweigh_state r s q x) (cond (is_none r) (reweighs q x ∷ h) h) (λ a. pos 0)
  unfolding Idle
  step_reweighs q x None e = record { matches = at_reweighs start s h m q x e; adds = record { collected = same_fees (q - 1) (place_at s (q - 1)) _ ∙ k.collected; paid = k.paid; drawn = k.drawn }; moved = λ a i. same_funds (q - 1) (place_at s (q - 1)) _ a; rests = λ f. absurd (false≢true f) }
  step_reweighs q x (Some w) e = kept (λ a. pos 0) (λ a. refl)

  step_quotes : (q x y : ℕ) (r : Option Refusal) → quote_refusal s q x y ≡ r → Next start s (quote_state r s q x y) (cond (is_none r) (quotes q x y ∷ h) h) (λ a. pos 0)
  unfolding Idle
  step_quotes q x y None e = record { matches = at_quotes start s h m q x y e; adds = record { collected = same_fees (q - 1) (place_at s (q - 1)) _ ∙ k.collected; paid = k.paid; drawn = k.drawn }; moved = λ a i. same_funds (q - 1) (place_at s (q - 1)) _ a; rests = λ f. absurd (false≢true f) }
  step_quotes q x y (Some w) e = kept (λ a. pos 0) (λ a. refl)

  step_delivers : (q x : ℕ) (r : Option Refusal) → deliver_refusal s q x ≡ r → Next start s (deliver_state r s q x) (cond (is_none r) (delivers q x ∷ h) h) (λ a. pos 0)
  unfolding Idle
  step_delivers q x None e = record { matches = at_delivers start s h m q x e; adds = record { collected = same_fees (q - 1) (place_at s (q - 1)) _ ∙ k.collected; paid = k.paid; drawn = k.drawn }; moved = λ a i. same_funds (q - 1) (place_at s (q - 1)) _ a; rests = λ f. absurd (false≢true f) }
  step_delivers q x (Some w) e = kept (λ a. pos 0) (λ a. refl)

  step_pays_in : (b fen : ℕ) (room : Bool) (r : Option Refusal) → credit_refusal s b fen room ≡ r
      → Next start s (credit_state r s b fen) (cond (is_none r) (pays_in b fen ∷ h) h) (λ a. if_so (is_none r) (if_so (eqb a b) (pos (fen_units * fen))))
  unfolding Idle
  step_pays_in b fen room None e =
      let near = among 32 b (not-false (known_account b) (passed (credit_reasons s b fen room) e).1.0) in
      record {
        matches = at_pays_in start s h m b fen room e;
        adds = record { collected = k.collected; paid = one_more (λ a. cash_in h (a + 1)) b (fen_units * fen) near ∙ ap (λ (x : ℕ). x + fen_units * fen) k.paid; drawn = k.drawn };
        moved = λ a i. ap equity (written start s h m b (λ x. credited_account x fen) near a i) ∙ paid_in (eqb a b) (account_of s a) fen;
        rests = λ f. absurd (false≢true f);
      }
  step_pays_in b fen room (Some w) e = kept (λ a. pos 0) (λ a. refl)

  step_pays_out : (b fen : ℕ) (room : Bool) (r : Option Refusal) → debit_refusal s b fen room ≡ r
      → Next start s (debit_state r s b fen) (cond (is_none r) (pays_out b fen ∷ h) h) (λ a. pos 0 -ℤ if_so (is_none r) (if_so (eqb a b) (pos (fen_units * fen))))
  unfolding Idle
  step_pays_out b fen room None e =
      let near = among 32 b (not-false (known_account b) (passed (debit_reasons s b fen room) e).1.0) in
      record {
        matches = at_pays_out start s h m b fen room e;
        adds = record { collected = k.collected; paid = k.paid; drawn = one_more (λ a. cash_out h (a + 1)) b (fen_units * fen) near ∙ ap (λ (x : ℕ). x + fen_units * fen) k.drawn };
        moved = λ a i. ap equity (written start s h m b (λ x. debited_account x fen) near a i) ∙ paid_out (eqb a b) (account_of s a) fen;
        rests = λ f. absurd (false≢true f);
      }
  step_pays_out b fen room (Some w) e = kept (λ a. pos 0 -ℤ pos 0) (λ a. omega (arith, lin))

  step_trades : (rule : MarginRule) (d : Deal) (room : Bool) (r : Result Bargain Refusal) → bargain rule.opening s d room ≡ r
      → Next start s (exchange_state r s d) (cond (is_ok r) (trades rule d ∷ h) h) (fee_said (exchange_answer r d) d)
  unfolding Idle
  step_trades rule d room (Ok b) e =
      let t = at_trades start s h m rule d room b e in
      record {
        matches = t.matches;
        adds = record { collected = ap₂ (λ (x y : ℕ). x + 2 * y) k.collected t.fee ∙ sym (two_more (λ a. fees start h (a + 1)) d.buyer d.seller (trade_fee h d) t.buyer t.seller); paid = k.paid; drawn = k.drawn };
        moved = t.moves;
        rests = λ f. absurd (false≢true f);
      }
  step_trades rule d room (Err w) e = kept (λ a. pos 0) (λ a. refl)

  step_settles : (rule : PriceRule) (margin : MarginRule) (b : Bool) → is_closed s.stage ≡ b
      → Next start s (cond b (settled_by margin.holding s (prices_of rule.meaning s)) s) (cond b (settles rule margin ∷ h) h) (change_said (cond b (Ok (settlement margin.holding s (prices_of rule.meaning s))) (Err WrongPhase)))
  unfolding Idle
  step_settles rule margin true e =
      let ps = prices_of rule.meaning s in
      record {
        matches = at_settles start s h m rule margin e;
        adds = record {
          paid = k.paid;
          drawn = k.drawn;
          collected = ap₂ (λ (x y : ℕ). x + y) k.collected (sum_same 32 _ _ (λ a i. ap (λ b. (outcome_to margin.holding s ps b 12).fee) (omega arith) ∙ fees_at start s h m rule margin e (a + 1) (record { low = omega arith; high = omega arith })))
              ∙ sym (sum_add 32 (λ a. fees start h (a + 1)) (λ a. sum_to (λ p. delivery_fee start h (a + 1) (p + 1)) 12));
        };
        moved = λ a i.
            ap equity (tabulated_at (λ b. settled_account (account_at s b) (outcome_to margin.holding s ps b 12)) 32 (a - 1) no_account (omega (arith, i.low, i.high)))
            ∙ changed_equity (account_of s a) (outcome_to margin.holding s ps (a - 1) 12)
            ∙ ap (λ z. equity (account_of s a) +ℤ z) (sym (tabulated_at (λ b. change_of (outcome_to margin.holding s ps b 12)) 32 (a - 1) (pos 0) (omega (arith, i.low, i.high))));
        rests = λ f a i g. idle start s h m rule margin e a i g;
      }
  step_settles rule margin false e = kept (λ a. pos 0) (λ a. refl)

  step : (room : Bool) (c : Deed) → Next start s (after s room c) (cond (accepts s room c) (c ∷ h) h) (said s room c)
  step room (lists l) = step_lists l (list_refusal s l) refl
  step room (reweighs q x) = step_reweighs q x (reweigh_refusal s q x) refl
  step room opens = step_opens room (open_refusal s room) refl
  step room (pays_in b fen) = step_pays_in b fen room (credit_refusal s b fen room) refl
  step room (pays_out b fen) = step_pays_out b fen room (debit_refusal s b fen room) refl
  step room (quotes q x y) = step_quotes q x y (quote_refusal s q x y) refl
  step room (trades rule d) = step_trades rule d room (bargain rule.opening s d room) refl
  step room (delivers q x) = step_delivers q x (deliver_refusal s q x) refl
  step room (closes rate) = step_closes rate (close_refusal s rate) refl
  step room (settles rule margin) = step_settles rule margin (is_closed s.stage) refl

record Holds (start : ℕ) (tries : List Try) (s : State) (h : History) : Type 0 where
  matches : Matches start s h
  adds : Adds start s h
  told : (a : ℕ) → Among 32 a → changes start tries a ≡ equity (account_of s a)
  rests : Idle start s h

along : (start : ℕ) (tries : List Try) → Holds start tries (ledger start tries) (history start tries)
unfolding ledger history changes Idle
along start [] = record {
  matches = at_start start;
  adds = record { collected = sym (sum_zero 32); paid = sum_zero 32; drawn = sum_zero 32 };
  told = λ a i. sym (ap equity (read_replicate 32 (a - 1) no_account));
  rests = λ e. absurd (false≢true e);
}
along start (t ∷ ts) =
    let k = along start ts in
    let n = step start (ledger start ts) (history start ts) k.matches k.adds k.rests t.room t.deed in
    record {
      matches = n.matches;
      adds = n.adds;
      rests = n.rests;
      told = λ a i. ap (λ z. z +ℤ said (ledger start ts) t.room t.deed a) (k.told a i) ∙ sym (n.moved a i);
    }

pub agree : LedgersAgree
unfolding Idle
agree start tries =
    let k = along start tries in
    record {
      each = λ a e. k.matches.equity a (among 32 a e);
      all = add_up start (ledger start tries) (history start tries) k.matches k.adds;
      told = λ a e. k.told a (among 32 a e);
      idle = λ f a e g. k.rests f a (among 32 a e) (λ p j. g p (within p j));
    }
  where
    within : (p : ℕ) → Among 12 p → (leb 1 p && leb p 12) ≡ true
    within p j = ap₂ ◌&&◌ (le-leb 1 p j.low) (le-leb p 12 j.high)

pub tallied : (s : State) (a : ℕ) (r : Result ℤ Refusal) → r ≡ equity_at s a → Tallied s a r
tallied s a r e start tries f = e ∙ ap (λ u. equity_at u a) f ∙ go (known_account a) refl
  where
    go : (b : Bool) → known_account a ≡ b → cond b (Ok (equity (account_at (ledger start tries) (a - 1)))) (Err OutOfRange) ≡ cond b (Ok (tally_equity start (history start tries) a)) (Err OutOfRange)
    go true k = ap Ok ((agree start tries).each a k)
    go false k = refl
