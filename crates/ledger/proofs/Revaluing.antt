-- A settling keeps a ledger sound.
use Rattle.std.proofs.Common.{◌≡◌, ℕ, ◌+◌, ◌*◌, ◌%◌, ◌<◌, ◌≤◌, Bool, true, false, cond, not, ◌||◌, eqb, get_or, Some, None, Option, sym, refl, ap, ◌∙◌, subst, ⊎_elim, arith}
use Rattle.std.proofs.lemmas.Nat.{mod_below}
use Rattle.std.proofs.lemmas.Int.{ints}
use Rattle.std.proofs.lemmas.Bool.{eqb-false, ne_eqb, cond_both, cond-true, cond-false, cases_Bool}
use Rattle.rules.specs.declared.figures.Figures.{Figures}
use Rattle.rules.specs.Price.{Inside}
use Rattle.ledger.specs.declared.state.Account.{Account}
use Rattle.ledger.specs.declared.state.Contract.{Contract}
use Rattle.ledger.specs.declared.state.Outcome.{Outcome}
use Rattle.ledger.specs.declared.state.Row.{Row}
use Rattle.ledger.specs.declared.state.State.{State}
use Rattle.ledger.specs.Places.{account_at, place_at, no_account, is_closed}
use Rattle.ledger.specs.Rows.{blank, row_at}
use Rattle.ledger.specs.Settle.{delivered, price_at, prices_of, outcome_to, settled_account, repriced, settled_place, settled_row, settled_by, Near}
use Rattle.ledger.specs.Sound.{Sound, Ceilings, PathOf, Bounded, Counted, settled_days, taken, standing, terms_hold, vacant_holds}
use Rattle.ledger.specs.Sums.{sum_to}
use Rattle.ledger.proofs.Contracts.{Terms, terms_of, terms_from, stands}
use Rattle.ledger.proofs.Exchanging.{taken_small}
use Rattle.ledger.proofs.Opening.{apart}
use Rattle.ledger.proofs.Pricing.{closed_days, price_sane, Sane}
use Rattle.ledger.proofs.Tabulated.{tabulated_at, sum_none, sum_same, sum_most}

-- A row or an empty one keeps what both have.
row_or_blank : (P : Row → Type 0) (day : ℕ) (o : Option Contract) (r : Row) → P r → P blank → P (settled_row day o r)
row_or_blank P day None r h b = h
row_or_blank P day (Some c) r h b = cond_both (delivered day c) _ _ P (λ _. b) (λ _. h)

blank_ceilings : Ceilings blank
blank_ceilings = (omega arith, omega arith, omega arith, omega arith, omega arith)

blank_path : PathOf blank
blank_path = (omega (arith, ints), omega (arith, ints), refl)

-- The terms of a contract that stands on: its next previous price is sane, and its last day is still ahead.
repriced_terms : (days day price : ℕ) (c : Contract) → days + 1 ≡ day → Terms days c → Sane price → delivered day c ≡ false → terms_hold day (repriced c price) ≡ true
repriced_terms days day price c next t sane later =
    let l = t.listed in let a = t.ahead in let n = eqb-false c.term.last day later in
    let old : eqb c.term.listed day ≡ false = ne_eqb _ _ (λ e. absurd (omega arith)) in
    terms_from day (repriced c price) (record {
      least = t.least;
      base = t.base;
      low = sane.0;
      previous = sane.1;
      named = t.named;
      number = t.number;
      ratio = t.ratio;
      fee = t.fee;
      delivery = t.delivery;
      listed = omega arith;
      ahead = omega arith;
      last = t.last;
      fresh = ap (λ b. not b || eqb price c.base) old;
    })

settled_terms : (days day price : ℕ) (o : Option Contract) → days + 1 ≡ day → ((c : Contract) → o ≡ Some c → Terms days c × Sane price) → standing (terms_hold day) (settled_place day price o) ≡ true
settled_terms days day price None next h = refl
settled_terms days day price (Some c) next h =
    let k = h c refl in
    ⊎_elim
    (λ on. ap (standing (terms_hold day)) (cond-true _ _ _ on))
    (λ later. ap (standing (terms_hold day)) (cond-false _ _ _ later) ∙ repriced_terms days day price c next k.0 k.1 later)
    (cases_Bool (delivered day c))

settled_traded : (day price n m : ℕ) (o : Option Contract) → ((c : Contract) → o ≡ Some c → delivered day c ≡ false → m ≡ n) → standing (λ c. eqb c.quantity n) o ≡ true → standing (λ c. eqb c.quantity m) (settled_place day price o) ≡ true
settled_traded day price n m None same h = refl
settled_traded day price n m (Some c) same h =
    ⊎_elim
    (λ on. ap (standing (λ c. eqb c.quantity m)) (cond-true _ _ _ on))
    (λ later. ap (standing (λ c. eqb c.quantity m)) (cond-false _ _ _ later) ∙ subst (λ x. eqb c.quantity x ≡ true) (sym (same c refl later)) h)
    (cases_Bool (delivered day c))

vacant_either : (b : Bool) (c : Contract) (r : Row) → vacant_holds (cond b None (Some c)) (cond b blank r) ≡ true
vacant_either true c r = refl
vacant_either false c r = refl

settled_vacant : (day price : ℕ) (o : Option Contract) (r : Row) → vacant_holds o r ≡ true → vacant_holds (settled_place day price o) (settled_row day o r) ≡ true
settled_vacant day price None r h = h
settled_vacant day price (Some c) r h = vacant_either (delivered day c) (repriced c price) r

-- A place's sums after the settling: as they were, or nothing where it was delivered.
sums_either : (f g : Row → ℕ) (b : Bool) (rs : ℕ → Row) → f blank ≡ 0 → g blank ≡ 0 → sum_to (λ a. f (rs a)) 32 ≡ sum_to (λ a. g (rs a)) 32 → sum_to (λ a. f (cond b blank (rs a))) 32 ≡ sum_to (λ a. g (cond b blank (rs a))) 32
sums_either f g true rs fb gb h = sum_none _ 32 (λ a l. fb) ∙ sym (sum_none _ 32 (λ a l. gb))
sums_either f g false rs fb gb h = h

settled_balance : (f g : Row → ℕ) (day : ℕ) (o : Option Contract) (rs : ℕ → Row) → f blank ≡ 0 → g blank ≡ 0 → sum_to (λ a. f (rs a)) 32 ≡ sum_to (λ a. g (rs a)) 32 → sum_to (λ a. f (settled_row day o (rs a))) 32 ≡ sum_to (λ a. g (settled_row day o (rs a))) 32
settled_balance f g day None rs fb gb h = h
settled_balance f g day (Some c) rs fb gb h = sums_either f g (delivered day c) rs fb gb h

-- An account after the settling.
settled_bounds : (days fees : ℕ) (x : Account) (o : Outcome) → fees ≤ 38400000000000 → Near 12 o → Bounded days fees x → Bounded (days + 1) 0 (settled_account x o)
settled_bounds days fees x o few n b =
    let b0 = b.0 in let b1 = b.1 in let b2 = b.2 in let b3 = b.3 in
    let n0 = n.0 in let n1 = n.1 in let n2 = n.2 in let n3 = n.3 in
    (omega (arith, ints), omega (arith, ints), omega (arith, ints), omega arith)

pub settle_keeps : (f : Figures → ℕ) (holding : ℕ → ℕ → ℕ → ℕ → ℕ) (s : State) → Inside f → ((a : ℕ) → a < 32 → Near 12 (outcome_to holding s (prices_of f s) a 12)) → Sound s → is_closed s.stage ≡ true → Sound (settled_by holding s (prices_of f s))
settle_keeps f holding s law near sound shut =
    let ps = prices_of f s in
    let s' = settled_by holding s ps in
    let next = closed_days s sound shut in
    let r = sound.ranges in
    let price : (p : ℕ) → p < 12 → get_or ps p 0 ≡ price_at f s.day (place_at s p) = λ p l. tabulated_at (λ p. price_at f s.day (place_at s p)) 12 p 0 l in
    let place : (p : ℕ) → p < 12 → place_at s' p ≡ settled_place s.day (get_or ps p 0) (place_at s p) = λ p l. tabulated_at (λ p. settled_place s.day (get_or ps p 0) (place_at s p)) 12 p None l in
    let row : (k : ℕ) → k < 384 → get_or s'.table.rows k blank ≡ settled_row s.day (place_at s (k % 12)) (get_or s.table.rows k blank) = λ k l. tabulated_at (λ k. settled_row s.day (place_at s (k % 12)) (get_or s.table.rows k blank)) 384 k blank l in
    let row_of : (a p : ℕ) → a < 32 → p < 12 → row_at s'.table a p ≡ settled_row s.day (place_at s p) (row_at s.table a p) = λ a p al pl. (let here : (a * 12 + p) % 12 ≡ p = omega arith in row (a * 12 + p) (omega arith) ∙ ap (λ n. settled_row s.day (place_at s n) (row_at s.table a p)) here) in
    let account : (a : ℕ) → a < 32 → account_at s' a ≡ settled_account (account_at s a) (outcome_to holding s ps a 12) = λ a l. tabulated_at (λ a. settled_account (account_at s a) (outcome_to holding s ps a 12)) 32 a no_account l in
    let paid = sum_most (λ a. (outcome_to holding s ps a 12).fee) 1200000000000 32 (λ a l. omega (arith, (near a l).2)) in
    let few = taken_small s sound in
    record {
      ranges = (r.0, sound.fees.2 shut, r.3, r.3, r.4);
      fees = (omega (arith, sound.fees.0, next, paid, few), λ w. absurd (apart w), λ w. absurd (apart (sym w)));
      rows = λ k l. subst Ceilings (sym (row k l)) (row_or_blank Ceilings s.day (place_at s (k % 12)) (get_or s.table.rows k blank) (sound.rows k l) blank_ceilings);
      paths = λ k l. subst PathOf (sym (row k l)) (row_or_blank PathOf s.day (place_at s (k % 12)) (get_or s.table.rows k blank) (sound.paths k l) blank_path);
      terms = λ p l. subst (λ o. standing (terms_hold s.day) o ≡ true) (sym (place p l))
          (settled_terms (settled_days s) s.day (get_or ps p 0) (place_at s p) next
          (λ c is. (terms_of (settled_days s) c (stands s p c l sound is).terms, subst Sane (sym (price p l ∙ ap (price_at f s.day) is)) (price_sane f s p c law l sound shut is))));
      days = λ w p l. absurd (apart w);
      deliveries = λ w p l. absurd (apart (sym w));
      balance = λ p l.
          sum_same _ _ 32 (λ a m. ap (λ (x : Row). x.long) (row_of a p m l))
          ∙ settled_balance (λ x. x.long) (λ x. x.short) s.day (place_at s p) (λ a. row_at s.table a p) refl refl (sound.balance p l)
          ∙ sym (sum_same _ _ 32 (λ a m. ap (λ (x : Row). x.short) (row_of a p m l)));
      traded = λ p l. subst (λ o. standing (λ c. eqb c.quantity (sum_to (λ a. (row_at s'.table a p).bought) 32)) o ≡ true) (sym (place p l))
          (settled_traded s.day (get_or ps p 0) (sum_to (λ a. (row_at s.table a p).bought) 32) (sum_to (λ a. (row_at s'.table a p).bought) 32) (place_at s p)
          (λ c is later. sum_same _ _ 32 (λ a m. ap (λ (x : Row). x.bought) (row_of a p m l ∙ ap (λ o. settled_row s.day o (row_at s.table a p)) is ∙ cond-false _ _ _ later)))
          (sound.traded p l));
      vacant = λ k l. subst (λ o. vacant_holds o (get_or s'.table.rows k blank) ≡ true) (sym (place (k % 12) (mod_below k 12 (omega arith))))
          (subst (λ x. vacant_holds (settled_place s.day (get_or ps (k % 12) 0) (place_at s (k % 12))) x ≡ true) (sym (row k l)) (settled_vacant s.day (get_or ps (k % 12) 0) (place_at s (k % 12)) (get_or s.table.rows k blank) (sound.vacant k l)));
      accounts = λ a l. subst (λ n. Bounded n 0 (account_at s' a)) next (subst (Bounded (settled_days s + 1) 0) (sym (account a l)) (settled_bounds (settled_days s) (taken s) (account_at s a) (outcome_to holding s ps a 12) few (near a l) (sound.accounts a l)));
      counts = λ a l. subst Counted (sym (account a l)) (sound.counts a l);
    }
