-- Opening and closing a day, quotes, delivery prices and ratios.
use Rattle.std.proofs.Common.{◌≡◌, ℕ, ◌+◌, ◌-◌, ◌*◌, Bool, true, false, cond, eqb, ◌∷◌, get_or, set, is_some, Some, None, Option, sym, refl, ap, ◌∙◌, subst, arith}
use Rattle.std.proofs.lemmas.List.{length-set}
use Rattle.std.proofs.lemmas.Bool.{false≢true, not-false}
use Rattle.refusal.proofs.Passed.{passed}
use Rattle.ledger.specs.declared.state.Contract.{Contract}
use Rattle.ledger.specs.declared.state.Stage.{Stage}
use Rattle.ledger.specs.declared.state.Stage.TheVariants.{Resting, Open, Closed}
use Rattle.ledger.specs.declared.state.State.{State}
use Rattle.ledger.specs.Days.{open_reasons, open_refusal, open_state, opened_account, opened_place, close_reasons, close_refusal, close_state}
use Rattle.ledger.specs.Listing.{reweigh_reasons, reweigh_refusal, reweigh_state, reweighed, at_place}
use Rattle.ledger.specs.Places.{account_at, place_at, no_account, equity, is_open, is_resting, with_place}
use Rattle.ledger.specs.Quotes.{quote_of, quote_reasons, quote_refusal, quote_state, quoted, deliver_reasons, deliver_refusal, deliver_state, delivered_at}
use Rattle.ledger.specs.Rows.{blank, row_at, opened_row}
use Rattle.ledger.proofs.Tabulated.{tabulated_at, tabulated_length}
use Rattle.tally.specs.Deeds.{Deed.opens, Deed.closes, Deed.quotes, Deed.delivers, Deed.reweighs}
use Rattle.tally.specs.Tally.{History, Listed, standing}
use Rattle.tally.proofs.Cash.{among}
use Rattle.tally.proofs.Lists.{Among, read_set, swapped}
use Rattle.tally.proofs.Matches.{Matches, RowTold, MarkTold, place_of, row_of, told_from}

abbrev pub mapped : (Contract → Contract) → Option Contract → Option Contract
mapped f None = None
mapped f (Some c) = Some (f c)

pub not_resting : (g : Stage) → is_open g ≡ true → is_resting g ≡ false
not_resting Resting e = absurd (false≢true e)
not_resting Open e = refl
not_resting Closed e = refl

requoted : (b k pr ra q v : ℕ) (bi ki de : Option ℕ) (o : Option Listed) → mapped (quoted b k) (told_from pr ra q v bi ki de o) ≡ told_from pr ra q v (quote_of b) (quote_of k) de o
requoted b k pr ra q v bi ki de None = refl
requoted b k pr ra q v bi ki de (Some x) = refl

quoted_either : (t : Bool) (b k pr ra q v : ℕ) (bi ki de : Option ℕ) (o : Option Listed) (z : Option Contract) → z ≡ told_from pr ra q v bi ki de o
    → cond t (mapped (quoted b k) z) z ≡ told_from pr ra q v (cond t (quote_of b) bi) (cond t (quote_of k) ki) de o
quoted_either true b k pr ra q v bi ki de o z e = ap (mapped (quoted b k)) e ∙ requoted b k pr ra q v bi ki de o
quoted_either false b k pr ra q v bi ki de o z e = e

repriced_told : (x pr ra q v : ℕ) (bi ki de : Option ℕ) (o : Option Listed) → mapped (delivered_at x) (told_from pr ra q v bi ki de o) ≡ told_from pr ra q v bi ki (Some x) o
repriced_told x pr ra q v bi ki de None = refl
repriced_told x pr ra q v bi ki de (Some y) = refl

delivered_either : (t : Bool) (x pr ra q v : ℕ) (bi ki de : Option ℕ) (o : Option Listed) (z : Option Contract) → z ≡ told_from pr ra q v bi ki de o
    → cond t (mapped (delivered_at x) z) z ≡ told_from pr ra q v bi ki (cond t (Some x) de) o
delivered_either true x pr ra q v bi ki de o z e = ap (mapped (delivered_at x)) e ∙ repriced_told x pr ra q v bi ki de o
delivered_either false x pr ra q v bi ki de o z e = e

reweighed_told : (x pr ra q v : ℕ) (bi ki de : Option ℕ) (o : Option Listed) → mapped (λ c. reweighed c x) (told_from pr ra q v bi ki de o) ≡ told_from pr x q v bi ki de o
reweighed_told x pr ra q v bi ki de None = refl
reweighed_told x pr ra q v bi ki de (Some y) = refl

reweighed_either : (t : Bool) (x pr ra q v : ℕ) (bi ki de : Option ℕ) (o : Option Listed) (z : Option Contract) → z ≡ told_from pr ra q v bi ki de o
    → cond t (mapped (λ c. reweighed c x) z) z ≡ told_from pr (cond t x ra) q v bi ki de o
reweighed_either true x pr ra q v bi ki de o z e = ap (mapped (λ c. reweighed c x)) e ∙ reweighed_told x pr ra q v bi ki de o
reweighed_either false x pr ra q v bi ki de o z e = e

-- opening a place and giving it a ratio go in either order
opened_reweighed : (t : Bool) (x : ℕ) (z : Option Contract) → opened_place (cond t (mapped (λ c. reweighed c x) z) z) ≡ cond t (mapped (λ c. reweighed c x) (opened_place z)) (opened_place z)
opened_reweighed true x None = refl
opened_reweighed true x (Some c) = refl
opened_reweighed false x z = refl

module _ (start : ℕ) (s : State) (h : History) (m : Matches start s h) where
  pub row_awake : is_resting s.stage ≡ false → (a p : ℕ) → row_of s a p ≡ row_at s.table (a - 1) (p - 1)
  row_awake e a p = ap (λ b. cond b (opened_row (row_at s.table (a - 1) (p - 1))) (row_at s.table (a - 1) (p - 1))) e

  pub place_awake : is_resting s.stage ≡ false → (p : ℕ) → place_of s p ≡ place_at s (p - 1)
  place_awake e p = ap (λ b. cond b (opened_place (place_at s (p - 1))) (place_at s (p - 1))) e

  row_resting : is_resting s.stage ≡ true → (a p : ℕ) → row_of s a p ≡ opened_row (row_at s.table (a - 1) (p - 1))
  row_resting e a p = ap (λ b. cond b (opened_row (row_at s.table (a - 1) (p - 1))) (row_at s.table (a - 1) (p - 1))) e

  place_resting : is_resting s.stage ≡ true → (p : ℕ) → place_of s p ≡ opened_place (place_at s (p - 1))
  place_resting e p = ap (λ b. cond b (opened_place (place_at s (p - 1))) (place_at s (p - 1))) e

  pub at_opens : (room : Bool) → open_refusal s room ≡ None → Matches start (open_state None s) (opens ∷ h)
  at_opens room e =
      let ok = passed (open_reasons s room) e in
      let r = not-false (is_resting s.stage) ok.0 in
      let same : (a p : ℕ) → Among 32 a → Among 12 p → row_of (open_state None s) a p ≡ row_of s a p =
      λ a p i j. tabulated_at _ 384 ((a - 1) * 12 + (p - 1)) blank (omega (arith, i.low, i.high, j.low, j.high)) ∙ sym (row_resting r a p) in
      record {
        sized = record { accounts = tabulated_length _ 32; places = tabulated_length _ 12; rows = tabulated_length _ 384 };
        equity = λ a i. ap equity (tabulated_at (λ b. opened_account (account_at s b)) 32 (a - 1) no_account (omega (arith, i.low, i.high))) ∙ m.equity a i;
        rate = m.rate;
        closing = m.closing;
        today = ap (λ (d : ℕ). d + 1) m.today;
        rows = λ a p i j. subst (RowTold start h a p) (sym (same a p i j)) (m.rows a p i j);
        places = λ p j. tabulated_at (λ q. opened_place (place_at s q)) 12 (p - 1) None (omega (arith, j.low, j.high)) ∙ sym (place_resting r p) ∙ m.places p j;
        clear = λ f p. absurd (false≢true f);
        past = m.past;
        fresh = m.fresh;
        known = m.known;
        named = m.named;
        marked = λ a p i j. subst (MarkTold start h p) (sym (same a p i j)) (m.marked a p i j);
      }

  pub at_closes : (rate : ℕ) → close_refusal s rate ≡ None → Matches start (close_state None s rate) (closes rate ∷ h)
  at_closes rate e =
      let ok = passed (close_reasons s rate) e in
      let r = not_resting s.stage (not-false _ ok.0) in
      record {
        sized = record { accounts = m.sized.accounts; places = m.sized.places; rows = m.sized.rows };
        equity = m.equity;
        rate = m.rate;
        closing = refl;
        today = m.today;
        rows = λ a p i j. subst (RowTold start h a p) (row_awake r a p) (m.rows a p i j);
        places = λ p j. sym (place_awake r p) ∙ m.places p j;
        clear = λ f p. absurd (false≢true f);
        past = m.past;
        fresh = m.fresh;
        known = m.known;
        named = m.named;
        marked = λ a p i j. subst (MarkTold start h p) (row_awake r a p) (m.marked a p i j);
      }

  -- a place written, as it is read
  pub place_written : (q : ℕ) (c : Contract) (f : Contract → Contract) → Among 12 q → place_at s (q - 1) ≡ Some c → (p : ℕ) → Among 12 p
      → get_or (set s.places (q - 1) (Some (f c))) (p - 1) None ≡ cond (eqb p q) (mapped f (place_at s (p - 1))) (place_at s (p - 1))
  place_written q c f k e p j =
      read_set s.places 12 q p (Some (f c)) None m.sized.places k j
      ∙ ap (λ z. cond (eqb p q) z (place_at s (p - 1))) (ap (mapped f) (sym e))
      ∙ swapped p q (λ x. mapped f (place_at s (x - 1))) (place_at s (p - 1))

  -- a change of the contract at a place by day
  changed : (q : ℕ) (c : Contract) (f : Contract → Contract) → is_resting s.stage ≡ false → Among 12 q → place_at s (q - 1) ≡ Some c → (p : ℕ) → Among 12 p
      → place_of (with_place s (q - 1) (f c)) p ≡ cond (eqb p q) (mapped f (place_of s p)) (place_of s p)
  changed q c f r k e p j =
      ap (λ b. cond b (opened_place (get_or (set s.places (q - 1) (Some (f c))) (p - 1) None)) (get_or (set s.places (q - 1) (Some (f c))) (p - 1) None)) r
      ∙ place_written q c f k e p j
      ∙ sym (ap (λ z. cond (eqb p q) (mapped f z) z) (place_awake r p))

  pub at_quotes : (q b k : ℕ) → quote_refusal s q b k ≡ None → Matches start (quote_state None s q b k) (quotes q b k ∷ h)
  at_quotes q b k e = go (place_at s (q - 1)) refl
    where
      r : is_resting s.stage ≡ false
      r = not_resting s.stage (not-false _ (passed (quote_reasons s q b k) e).0)

      near : Among 12 q
      near = among 12 q (not-false _ (passed (quote_reasons s q b k) e).1.0)

      taken : is_some (place_at s (q - 1)) ≡ true
      taken = not-false _ (passed (quote_reasons s q b k) e).1.1.0

      go : (o : Option Contract) → place_at s (q - 1) ≡ o → Matches start (at_place s (q - 1) o (quoted b k)) (quotes q b k ∷ h)
      go None f = absurd (false≢true (sym (ap is_some f) ∙ taken))
      go (Some c) f = record {
        sized = record { accounts = m.sized.accounts; places = length-set _ _ _ ∙ m.sized.places; rows = m.sized.rows };
        equity = m.equity;
        rate = m.rate;
        closing = m.closing;
        today = m.today;
        rows = m.rows;
        places = λ p j. changed q c (quoted b k) r near f p j ∙ quoted_either (eqb p q) b k _ _ _ _ _ _ _ (standing h p) (place_of s p) (m.places p j);
        clear = λ w p. absurd (false≢true (sym r ∙ w));
        past = m.past;
        fresh = m.fresh;
        known = m.known;
        named = m.named;
        marked = m.marked;
      }

  pub at_delivers : (q x : ℕ) → deliver_refusal s q x ≡ None → Matches start (deliver_state None s q x) (delivers q x ∷ h)
  at_delivers q x e = go (place_at s (q - 1)) refl
    where
      r : is_resting s.stage ≡ false
      r = not_resting s.stage (not-false _ (passed (deliver_reasons s q x) e).0)

      near : Among 12 q
      near = among 12 q (not-false _ (passed (deliver_reasons s q x) e).1.0)

      taken : is_some (place_at s (q - 1)) ≡ true
      taken = not-false _ (passed (deliver_reasons s q x) e).1.1.0

      go : (o : Option Contract) → place_at s (q - 1) ≡ o → Matches start (at_place s (q - 1) o (delivered_at x)) (delivers q x ∷ h)
      go None f = absurd (false≢true (sym (ap is_some f) ∙ taken))
      go (Some c) f = record {
        sized = record { accounts = m.sized.accounts; places = length-set _ _ _ ∙ m.sized.places; rows = m.sized.rows };
        equity = m.equity;
        rate = m.rate;
        closing = m.closing;
        today = m.today;
        rows = m.rows;
        places = λ p j. changed q c (delivered_at x) r near f p j ∙ delivered_either (eqb p q) x _ _ _ _ _ _ _ (standing h p) (place_of s p) (m.places p j);
        clear = λ w p. absurd (false≢true (sym r ∙ w));
        past = m.past;
        fresh = m.fresh;
        known = m.known;
        named = m.named;
        marked = m.marked;
      }

  pub at_reweighs : (q x : ℕ) → reweigh_refusal s q x ≡ None → Matches start (reweigh_state None s q x) (reweighs q x ∷ h)
  at_reweighs q x e = go (place_at s (q - 1)) refl
    where
      r : is_resting s.stage ≡ true
      r = not-false (is_resting s.stage) (passed (reweigh_reasons s q x) e).0

      near : Among 12 q
      near = among 12 q (not-false _ (passed (reweigh_reasons s q x) e).1.0)

      taken : is_some (place_at s (q - 1)) ≡ true
      taken = not-false _ (passed (reweigh_reasons s q x) e).1.1.0

      go : (o : Option Contract) → place_at s (q - 1) ≡ o → Matches start (at_place s (q - 1) o (λ c. reweighed c x)) (reweighs q x ∷ h)
      go None f = absurd (false≢true (sym (ap is_some f) ∙ taken))
      go (Some c) f = record {
        sized = record { accounts = m.sized.accounts; places = length-set _ _ _ ∙ m.sized.places; rows = m.sized.rows };
        equity = m.equity;
        rate = m.rate;
        closing = m.closing;
        today = m.today;
        rows = m.rows;
        places = λ p j.
            ap (λ t. cond t (opened_place (get_or (set s.places (q - 1) (Some (reweighed c x))) (p - 1) None)) (get_or (set s.places (q - 1) (Some (reweighed c x))) (p - 1) None)) r
            ∙ ap opened_place (place_written q c (λ y. reweighed y x) near f p j)
            ∙ opened_reweighed (eqb p q) x (place_at s (p - 1))
            ∙ reweighed_either (eqb p q) x _ _ _ _ _ _ _ (standing h p) (opened_place (place_at s (p - 1))) (sym (place_resting r p) ∙ m.places p j);
        clear = λ w p. let k = m.clear w p in record { quantity = k.quantity; value = k.value; bid = k.bid; ask = k.ask; price = k.price };
        past = m.past;
        fresh = m.fresh;
        known = m.known;
        named = m.named;
        marked = m.marked;
      }
