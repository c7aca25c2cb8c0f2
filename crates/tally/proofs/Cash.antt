-- Starting, cash, and the deeds that move no money.
use Rattle.std.proofs.Common.{◌≡◌, ℕ, ◌+◌, ◌-◌, ◌*◌, Bool, true, false, cond, ◌&&◌, eqb, leb, [], ◌∷◌, get_or, set, ℤ, pos, ◌+ℤ◌, ◌-ℤ◌, ◌*ℤ◌, Some, None, sym, refl, ap, ◌∙◌, subst, arith}
use Rattle.std.proofs.lemmas.List.{length-set}
use Rattle.std.proofs.lemmas.Bool.{false≢true, not-false, and_parts, leb-true}
use Rattle.refusal.proofs.Passed.{passed}
use Rattle.rules.specs.Units.{fen_units}
use Rattle.ledger.specs.declared.state.Account.{Account}
use Rattle.ledger.specs.declared.state.Stage.{Stage}
use Rattle.ledger.specs.declared.state.Stage.TheVariants.{Resting, Open, Closed}
use Rattle.ledger.specs.declared.state.State.{State}
use Rattle.ledger.specs.Cash.{credit_reasons, credit_refusal, credit_state, credited_account, debit_reasons, debit_refusal, debit_state, debited_account}
use Rattle.ledger.specs.Days.{started, opened_place}
use Rattle.ledger.specs.Places.{no_account, equity, known_account, is_open, is_resting}
use Rattle.ledger.specs.Rows.{blank, opened_row}
use Rattle.tally.specs.Deeds.{Deed.pays_in, Deed.pays_out}
use Rattle.tally.specs.Tally.{History, share, cash_in, cash_out, fees}
use Rattle.tally.proofs.Algebra.{lin}
use Rattle.tally.proofs.Lists.{Each.none, Among, read_set, read_replicate, swapped}
use Rattle.tally.proofs.Matches.{Matches, RowIs, account_of, row_of}

pub among : (n a : ℕ) → (leb 1 a && leb a n) ≡ true → Among n a
among n a e = let k = and_parts (leb 1 a) (leb a n) e in record { low = leb-true 1 a k.0; high = leb-true a n k.1 }

-- A day that is open does not rest.
pub awake : (g : Stage) → is_open g ≡ true → is_resting g ≡ true → ⊥
awake Resting e f = false≢true e
awake Open e f = false≢true f
awake Closed e f = false≢true f

none_some : {X : Type 0} {x : X} → None ≡ Some x → ⊥
none_some e = let z : ◌≡◌ {A = ℕ} 0 1 = cc in absurd (omega arith)

pub at_start : (start : ℕ) → Matches start (started start) []
at_start start = record {
  sized = record { accounts = refl; places = refl; rows = refl };
  equity = λ a i. ap equity (read_replicate 32 (a - 1) no_account);
  rate = refl;
  closing = refl;
  today = refl;
  rows = λ a p i j. subst (λ w. RowIs (opened_row w) 0 0 0 0 (pos 0) 0 0 0 0) (sym (read_replicate 384 ((a - 1) * 12 + (p - 1)) blank)) (record { long = refl; short = refl; net = refl; bought = refl; sold = refl; cost = refl; proceeds = refl; path = refl });
  places = λ p j. ap opened_place (read_replicate 12 (p - 1) None);
  clear = λ e p. record { quantity = refl; value = refl; bid = refl; ask = refl; price = refl };
  past = none;
  fresh = none;
  known = λ p. omega arith;
  named = λ p x e. absurd (none_some e);
  marked = λ a p i j. ap (λ (n : ℕ). (row_of (started start) a p).net *ℤ pos n) (omega arith);
}

credited : (b : Bool) (x : Account) (fen ci co f : ℕ) (T : ℤ) → equity x ≡ pos ci -ℤ pos co -ℤ pos f +ℤ T
    → equity (cond b (credited_account x fen) x) ≡ pos (ci + share b (fen_units * fen)) -ℤ pos co -ℤ pos f +ℤ T
credited true x fen ci co f T e = omega (arith, lin)
credited false x fen ci co f T e = omega (arith, lin)

debited : (b : Bool) (x : Account) (fen ci co f : ℕ) (T : ℤ) → equity x ≡ pos ci -ℤ pos co -ℤ pos f +ℤ T
    → equity (cond b (debited_account x fen) x) ≡ pos ci -ℤ pos (co + share b (fen_units * fen)) -ℤ pos f +ℤ T
debited true x fen ci co f T e = omega (arith, lin)
debited false x fen ci co f T e = omega (arith, lin)

module _ (start : ℕ) (s : State) (h : History) (m : Matches start s h) where
  -- an account written, as it is read
  pub written : (b : ℕ) (f : Account → Account) → Among 32 b → (a : ℕ) → Among 32 a
      → get_or (set s.accounts (b - 1) (f (account_of s b))) (a - 1) no_account ≡ cond (eqb a b) (f (account_of s a)) (account_of s a)
  written b f k a i = read_set s.accounts 32 b a (f (account_of s b)) no_account m.sized.accounts k i ∙ swapped a b (λ c. f (account_of s c)) (account_of s a)

  pub at_pays_in : (b fen : ℕ) (room : Bool) → credit_refusal s b fen room ≡ None → Matches start (credit_state None s b fen) (pays_in b fen ∷ h)
  at_pays_in b fen room e =
      let ok = passed (credit_reasons s b fen room) e in
      let k = among 32 b (not-false (known_account b) ok.1.0) in
      record {
        sized = record { accounts = length-set _ _ _ ∙ m.sized.accounts; places = m.sized.places; rows = m.sized.rows };
        equity = λ a i. ap equity (written b (λ x. credited_account x fen) k a i) ∙ credited (eqb a b) (account_of s a) fen (cash_in h a) (cash_out h a) (fees start h a) _ (m.equity a i);
        rate = m.rate;
        closing = m.closing;
        today = m.today;
        rows = m.rows;
        places = m.places;
        clear = λ r p. absurd (awake s.stage (not-false _ ok.0) r);
        past = m.past;
        fresh = m.fresh;
        known = m.known;
        named = m.named;
        marked = m.marked;
      }

  pub at_pays_out : (b fen : ℕ) (room : Bool) → debit_refusal s b fen room ≡ None → Matches start (debit_state None s b fen) (pays_out b fen ∷ h)
  at_pays_out b fen room e =
      let ok = passed (debit_reasons s b fen room) e in
      let k = among 32 b (not-false (known_account b) ok.1.0) in
      record {
        sized = record { accounts = length-set _ _ _ ∙ m.sized.accounts; places = m.sized.places; rows = m.sized.rows };
        equity = λ a i. ap equity (written b (λ x. debited_account x fen) k a i) ∙ debited (eqb a b) (account_of s a) fen (cash_in h a) (cash_out h a) (fees start h a) _ (m.equity a i);
        rate = m.rate;
        closing = m.closing;
        today = m.today;
        rows = m.rows;
        places = m.places;
        clear = λ r p. absurd (awake s.stage (not-false _ ok.0) r);
        past = m.past;
        fresh = m.fresh;
        known = m.known;
        named = m.named;
        marked = m.marked;
      }
