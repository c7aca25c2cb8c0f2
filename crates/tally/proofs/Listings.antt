-- A listing.
use Rattle.std.proofs.Common.{◌≡◌, ℕ, ◌+◌, ◌-◌, ◌*◌, ◌<◌, ◌≤◌, Bool, true, false, cond, eqb, leb, ◌∷◌, pos, ◌*ℤ◌, is_some, Some, None, Option, sym, refl, ap, ◌∙◌, subst, arith}
use Rattle.std.proofs.lemmas.List.{length-set}
use Rattle.std.proofs.lemmas.Bool.{false≢true, not-false, eqb-true, or_parts, leb-false}
use Rattle.refusal.proofs.Passed.{passed}
use Rattle.ledger.specs.declared.state.Contract.{Contract}
use Rattle.ledger.specs.declared.state.Deal.{Deal}
use Rattle.ledger.specs.declared.state.Listing.{Listing}
use Rattle.ledger.specs.declared.state.State.{State}
use Rattle.ledger.specs.Days.{opened_place}
use Rattle.ledger.specs.Listing.{list_reasons, list_refusal, list_state, new_contract}
use Rattle.ledger.specs.Places.{place_at, is_resting}
use Rattle.tally.specs.Deeds.{Deed.lists}
use Rattle.tally.specs.Tally.{History, Listed, Trade, standing, number_of, day_number, previous_price, trade_rate, day_quantity, day_value, bid, ask, delivery_price, settled_trades, unsettled_trades, all_trades, last_mark, teu, opens_long, closes_long, opens_short, closes_short}
use Rattle.tally.proofs.Cash.{among}
use Rattle.tally.proofs.Lists.{Each, each_map, each_append, Among, read_set}
use Rattle.tally.proofs.Matches.{Matches, RowIs, Past, Fresh, place_of, row_of, told_from, ratio_told, number_at, net, buys, sells, amount, worth}
use Rattle.tally.proofs.Nets.{teu_none, net_none}

-- Nothing is told where nothing stands.
none_stands : (pr ra q v : ℕ) (bi ki de : Option ℕ) (o : Option Listed) → is_some (told_from pr ra q v bi ki de o) ≡ false → o ≡ None
none_stands pr ra q v bi ki de None e = refl
none_stands pr ra q v bi ki de (Some x) e = absurd (false≢true (sym e))

some_opened : (b : Bool) (o : Option Contract) → is_some (cond b (opened_place o) o) ≡ is_some o
some_opened true None = refl
some_opened true (Some c) = refl
some_opened false o = refl

-- A new contract written over an empty place, as the stage reads it.
new_read : (r b : Bool) (day : ℕ) (l : Listing) (o : Option Contract)
    → cond r (opened_place (cond b (Some (new_contract day l)) o)) (cond b (Some (new_contract day l)) o) ≡ cond b (Some (new_contract day l)) (cond r (opened_place o) o)
new_read true true day l o = refl
new_read true false day l o = refl
new_read false true day l o = refl
new_read false false day l o = refl

module _ (start : ℕ) (s : State) (h : History) (m : Matches start s h) where
  pub never_zero : Each (λ t. t.number ≡ 0 → ⊥) (all_trades start h)
  never_zero = each_append (each_map (λ t f e. omega (arith, f.past.number)) m.fresh) (each_map (λ t f e. omega (arith, f.number)) m.past)

  -- the row of a place where none stands
  bare : (a p : ℕ) → Among 32 a → Among 12 p → number_at h p ≡ 0 → (row_of s a p).net ≡ pos 0
  bare a p i j e = (m.rows a p i j).net ∙ ap (λ n. net a p n (settled_trades start h)) e ∙ net_none a p 0 (settled_trades start h) (each_map (λ t f z. omega (arith, f.number)) m.past)

  module _ (l : Listing) (near : Among 12 l.place) (free : standing h l.place ≡ None) (new : s.highest < l.number) (rests : is_resting s.stage ≡ true) where
    never_new : Each (λ t. t.number ≡ l.number → ⊥) (all_trades start h)
    never_new = each_append (each_map (λ t f e. omega (arith, f.past.known)) m.fresh) (each_map (λ t f e. omega (arith, f.known)) m.past)

    none_here : (p : ℕ) → eqb p l.place ≡ true → number_at h p ≡ 0
    none_here p e = ap (number_at h) (eqb-true p l.place e) ∙ ap number_of free

    -- an empty row stays right when a new contract is listed
    fresh_side : (f g : Deal → Bool) (p x : ℕ) → number_at h p ≡ 0 → x + teu g p (number_at h p) (all_trades start h) ≡ teu f p (number_at h p) (all_trades start h) → x + teu g p l.number (all_trades start h) ≡ teu f p l.number (all_trades start h)
    fresh_side f g p x v e =
        let i : x + teu g p 0 (all_trades start h) ≡ teu f p 0 (all_trades start h) = subst (λ n. x + teu g p n (all_trades start h) ≡ teu f p n (all_trades start h)) v e in
        let o = teu_none f p 0 (all_trades start h) never_zero in
        let c = teu_none g p 0 (all_trades start h) never_zero in
        let o' = teu_none f p l.number (all_trades start h) never_new in
        let c' = teu_none g p l.number (all_trades start h) never_new in
        omega arith

    abbrev now : Bool → ℕ → Option Listed
    now b p = cond b (Some (record { listing = l; day = day_number h })) (standing h p)

    listed_rows : (a p : ℕ) (i : Among 32 a) (j : Among 12 p) (b : Bool) → eqb p l.place ≡ b → RowIs (row_of s a p)
        (teu (opens_long a) p (number_of (now b p)) (all_trades start h)) (teu (closes_long a) p (number_of (now b p)) (all_trades start h))
        (teu (opens_short a) p (number_of (now b p)) (all_trades start h)) (teu (closes_short a) p (number_of (now b p)) (all_trades start h))
        (net a p (number_of (now b p)) (settled_trades start h))
        (buys amount a p (unsettled_trades start h)) (sells amount a p (unsettled_trades start h)) (buys worth a p (unsettled_trades start h)) (sells worth a p (unsettled_trades start h))
    listed_rows a p i j true e =
        let w = m.rows a p i j in
        let v = none_here p e in
        record {
          bought = w.bought;
          sold = w.sold;
          cost = w.cost;
          proceeds = w.proceeds;
          path = w.path;
          long = fresh_side (opens_long a) (closes_long a) p (row_of s a p).long v w.long;
          short = fresh_side (opens_short a) (closes_short a) p (row_of s a p).short v w.short;
          net = bare a p i j v ∙ sym (net_none a p l.number (settled_trades start h) (each_map (λ t f z. omega (arith, f.known)) m.past));
        }
    listed_rows a p i j false e = m.rows a p i j

    listed_places : (p : ℕ) (j : Among 12 p) (b : Bool) → eqb p l.place ≡ b
        → cond b (Some (new_contract s.day l)) (place_of s p)
        ≡ told_from (cond b l.base (previous_price h p)) (cond b l.ratio (ratio_told h p)) (day_quantity h p) (day_value h p) (bid h p) (ask h p) (delivery_price h p) (now b p)
    listed_places p j true e = let k = m.clear rests p in λ i. Some (record {
      number = l.number;
      base = l.base;
      previous = l.base;
      ratio = l.ratio;
      fee = l.fee;
      delivery = l.delivery;
      term = record { listed = m.today i; last = l.last };
      quantity = sym k.quantity i;
      value = sym k.value i;
      bid = sym k.bid i;
      ask = sym k.ask i;
      price = sym k.price i;
    })
    listed_places p j false e = m.places p j

    still_stands : (t : Trade) → Fresh s.highest (number_at h) (trade_rate start h) t → t.number ≡ number_of (now (eqb t.deal.place l.place) t.deal.place)
    still_stands t f = go (eqb t.deal.place l.place) refl
      where
        go : (b : Bool) → eqb t.deal.place l.place ≡ b → t.number ≡ number_of (now b t.deal.place)
        go true e = absurd (let i = f.stands ∙ none_here t.deal.place e in omega (arith, f.past.number))
        go false e = f.stands

    listed_known : (p : ℕ) (b : Bool) → number_of (now b p) ≤ l.number
    listed_known p true = omega arith
    listed_known p false = omega (arith, m.known p)

    listed_named : (p : ℕ) (b : Bool) (x : Listed) → now b p ≡ Some x → 0 < x.listing.number
    listed_named p true x e = let k : l.number ≡ x.listing.number = ap number_of e in omega arith
    listed_named p false x e = m.named p x e

    listed_marks : (a p : ℕ) (i : Among 32 a) (j : Among 12 p) (b : Bool) → eqb p l.place ≡ b
        → (row_of s a p).net *ℤ pos (last_mark h p (number_of (now b p))) ≡ (row_of s a p).net *ℤ pos (cond b l.base (previous_price h p) * trade_rate start h)
    listed_marks a p i j true e = subst (λ z. z *ℤ pos (last_mark h p l.number) ≡ z *ℤ pos (l.base * trade_rate start h)) (sym (bare a p i j (none_here p e))) (ap pos (omega arith))
    listed_marks a p i j false e = m.marked a p i j

    raised : (t : Trade) → Past s.highest t → Past l.number t
    raised t f = record { place = f.place; buyer = f.buyer; seller = f.seller; number = f.number; known = omega (arith, f.known) }

    listed : Matches start (list_state None s l) (lists l ∷ h)
    listed = record {
      sized = record { accounts = m.sized.accounts; places = length-set _ _ _ ∙ m.sized.places; rows = m.sized.rows };
      equity = m.equity;
      rate = m.rate;
      closing = m.closing;
      today = m.today;
      rows = λ a p i j. listed_rows a p i j (eqb p l.place) refl;
      places = λ p j.
          ap (λ o. cond (is_resting s.stage) (opened_place o) o) (read_set s.places 12 l.place p (Some (new_contract s.day l)) None m.sized.places near j)
          ∙ new_read (is_resting s.stage) (eqb p l.place) s.day l (place_at s (p - 1))
          ∙ listed_places p j (eqb p l.place) refl;
      clear = λ w p. let k = m.clear w p in record { quantity = k.quantity; value = k.value; bid = k.bid; ask = k.ask; price = k.price };
      past = each_map raised m.past;
      fresh = each_map (λ t f. record { past = raised t f.past; stands = still_stands t f; rate = f.rate }) m.fresh;
      known = λ p. listed_known p (eqb p l.place);
      named = λ p x e. listed_named p (eqb p l.place) x e;
      marked = λ a p i j. listed_marks a p i j (eqb p l.place) refl;
    }

  pub at_lists : (l : Listing) → list_refusal s l ≡ None → Matches start (list_state None s l) (lists l ∷ h)
  at_lists l e =
      let ok = passed (list_reasons s l) e in
      let near = among 12 l.place (not-false _ ok.1.0) in
      let empty = sym (some_opened (is_resting s.stage) (place_at s (l.place - 1))) in
      listed l near
      (none_stands _ _ _ _ _ _ _ (standing h l.place) (sym (ap is_some (m.places l.place near)) ∙ some_opened (is_resting s.stage) (place_at s (l.place - 1)) ∙ ok.1.1.0))
      (leb-false l.number s.highest (or_parts (leb l.number s.highest) _ ok.1.1.1.0).0)
      (not-false _ ok.0)
