-- The start of a ledger is sound, and opening and closing a day keep it so.
use Rattle.std.proofs.Common.{◌≡◌, ℕ, zero, suc, ◌+◌, ◌-◌, ◌*◌, ◌%◌, ◌<◌, Bool, true, false, ◌&&◌, eqb, ltb, List, [], ◌∷◌, get_or, replicate, Some, None, Option, sym, refl, ap, ◌∙◌, subst, arith}
use Rattle.std.specs.List.{list_all}
use Rattle.std.proofs.lemmas.Nat.{mod_below}
use Rattle.std.proofs.lemmas.List.{get_or-replicate}
use Rattle.std.proofs.lemmas.Int.{ints}
use Rattle.std.proofs.lemmas.Bool.{and_parts, and_from, or_parts, not-false, leb-false, ltb-false, eq-eqb}
use Rattle.refusal.proofs.Passed.{passed}
use Rattle.rules.specs.Units.{min_rate, max_rate, max_days}
use Rattle.ledger.specs.declared.state.Contract.{Contract}
use Rattle.ledger.specs.declared.state.Row.{Row}
use Rattle.ledger.specs.declared.state.Stage.{Stage}
use Rattle.ledger.specs.declared.state.Stage.TheVariants.{Resting, Open, Closed}
use Rattle.ledger.specs.declared.state.State.{State}
use Rattle.ledger.specs.Days.{bad_rate, started, open_reasons, open_refusal, open_state, opened_account, opened_contract, opened_place, opened_table, all_priced, close_reasons, close_refusal, close_state}
use Rattle.ledger.specs.Places.{account_at, place_at, no_account, is_resting, is_open}
use Rattle.ledger.specs.Rows.{blank, row_at, opened_row, day_total}
use Rattle.ledger.specs.Sound.{Sound, Ceilings, PathOf, Bounded, Counted, settled_days, taken, turnover, standing, terms_hold, day_holds, delivery_holds, vacant_holds}
use Rattle.ledger.specs.Sums.{sum_to}
use Rattle.ledger.proofs.Contracts.{day_from}
use Rattle.ledger.proofs.Listings.{resting_days}
use Rattle.ledger.proofs.Tabulated.{tabulated_at, sum_none, sum_same}

-- Two stages at once are none.
pub apart : true ≡ false → ⊥
apart h = let z : ◌≡◌ {A = ℕ} 0 1 = cc in omega arith

pub start_sound : (rate : ℕ) → bad_rate rate ≡ false → Sound (started rate)
start_sound rate h =
    let ok = or_parts (ltb rate min_rate) (ltb max_rate rate) h in
    let row : (k : ℕ) → k < 384 → get_or (replicate 384 blank) k blank ≡ blank = λ k l. get_or-replicate 384 k blank blank l in
    let vacancy : Option Contract = None in
    let place : (p : ℕ) → p < 12 → get_or (replicate 12 vacancy) p vacancy ≡ vacancy = λ p l. get_or-replicate 12 p vacancy vacancy l in
    let account : (a : ℕ) → a < 32 → get_or (replicate 32 no_account) a no_account ≡ no_account = λ a l. get_or-replicate 32 a no_account no_account l in
    record {
      ranges = (omega arith, ltb-false _ _ ok.0, ltb-false _ _ ok.1, omega arith, omega arith);
      fees = (omega arith, λ w. absurd (apart w), λ w. absurd (apart (sym w)));
      rows = λ k l. subst Ceilings (sym (row k l)) (omega arith, omega arith, omega arith, omega arith, omega arith);
      paths = λ k l. subst PathOf (sym (row k l)) (omega (arith, ints), omega (arith, ints), refl);
      terms = λ p l. subst (λ o. standing (terms_hold 0) o ≡ true) (sym (place p l)) refl;
      days = λ w p l. absurd (apart w);
      deliveries = λ w p l. absurd (apart (sym w));
      balance = λ p l. sum_none _ 32 (λ a m. ap (λ (r : Row). r.long) (row (a * 12 + p) (omega arith))) ∙ sym (sum_none _ 32 (λ a m. ap (λ (r : Row). r.short) (row (a * 12 + p) (omega arith))));
      traded = λ p l. subst (λ o. standing (λ c. eqb c.quantity (sum_to (λ a. (row_at (record { rows = replicate 384 blank }) a p).bought) 32)) o ≡ true) (sym (place p l)) refl;
      vacant = λ k l. subst (λ o. vacant_holds o (get_or (replicate 384 blank) k blank) ≡ true) (sym (place (k % 12) (mod_below k 12 (omega arith)))) (subst (λ r. vacant_holds None r ≡ true) (sym (row k l)) refl);
      accounts = λ a l. subst (Bounded 0 0) (sym (account a l)) (omega (arith, ints), omega (arith, ints), omega (arith, ints), omega arith);
      counts = λ a l. subst Counted (sym (account a l)) (omega arith, omega arith);
    }

opened_ceilings : (r : Row) → Ceilings r → Ceilings (opened_row r)
opened_ceilings r c = (c.0, c.1, omega arith, omega arith, omega arith)

opened_path : (r : Row) → Ceilings r → PathOf (opened_row r)
opened_path r c = let l = c.0 in let s = c.1 in (omega (arith, ints), omega (arith, ints), omega (arith, ints))

opened_day : (day : ℕ) (o : Option Contract) → standing (day_holds day) (opened_place o) ≡ true
opened_day day None = refl
opened_day day (Some c) = day_from day (opened_contract c) (record { least = omega arith; most = omega arith; bid = refl; ask = refl; price = refl })

opened_terms : (days : ℕ) (o : Option Contract) → standing (terms_hold days) o ≡ true → standing (terms_hold days) (opened_place o) ≡ true
opened_terms days None h = refl
opened_terms days (Some c) h = h

opened_traded : (n : ℕ) (o : Option Contract) → n ≡ 0 → standing (λ c. eqb c.quantity n) (opened_place o) ≡ true
opened_traded n None h = refl
opened_traded n (Some c) h = eq-eqb 0 n (sym h)

opened_vacant : (o : Option Contract) (r : Row) → vacant_holds o r ≡ true → vacant_holds (opened_place o) (opened_row r) ≡ true
opened_vacant None r h =
    let x = and_parts (eqb r.long 0) _ h in
    let y = and_parts (eqb r.short 0) _ x.1 in
    and_from _ _ x.0 (and_from _ _ y.0 refl)
opened_vacant (Some c) r h = refl

resting_taken : (g : Stage) (n : ℕ) → is_resting g ≡ true → ◌≡◌ {A = ℕ} (elim g [ Resting ↦ 0 | Open ↦ n | Closed ↦ n ]) 0
resting_taken Resting n h = refl
resting_taken Open n h = absurd (apart (sym h))
resting_taken Closed n h = absurd (apart (sym h))

pub open_keeps : (s : State) (room : Bool) → Sound s → open_refusal s room ≡ None → Sound (open_state None s)
open_keeps s room sound h =
    let ok = passed (open_reasons s room) h in
    let rest = not-false (is_resting s.stage) ok.0 in
    let early = leb-false max_days s.day ok.1.0 in
    let days : settled_days s ≡ s.day = resting_days s rest in
    let free : taken s ≡ 0 = resting_taken s.stage (1000000 * turnover s.table) rest in
    let r = sound.ranges in
    let t = opened_table s.table in
    let row : (k : ℕ) → k < 384 → get_or t.rows k blank ≡ opened_row (get_or s.table.rows k blank) = λ k l. tabulated_at (λ k. opened_row (get_or s.table.rows k blank)) 384 k blank l in
    let place : (p : ℕ) → p < 12 → place_at (open_state None s) p ≡ opened_place (place_at s p) = λ p l. tabulated_at (λ p. opened_place (place_at s p)) 12 p None l in
    let account : (a : ℕ) → a < 32 → account_at (open_state None s) a ≡ opened_account (account_at s a) = λ a l. tabulated_at (λ a. opened_account (account_at s a)) 32 a no_account l in
    let still : turnover t ≡ 0 = sum_none _ 384 (λ k l. ap day_total (row k l)) in
    let same : settled_days (open_state None s) ≡ settled_days s = omega (arith, days) in
    let fees = sound.fees in
    record {
      ranges = (omega arith, r.1, r.2, r.3, r.4);
      fees = (omega (arith, days, free, still, fees.0), λ _. omega arith, λ w. absurd (apart (sym w)));
      rows = λ k l. subst Ceilings (sym (row k l)) (opened_ceilings (get_or s.table.rows k blank) (sound.rows k l));
      paths = λ k l. subst PathOf (sym (row k l)) (opened_path (get_or s.table.rows k blank) (sound.rows k l));
      terms = λ p l. subst (λ o. standing (terms_hold (settled_days (open_state None s))) o ≡ true) (sym (place p l)) (subst (λ n. standing (terms_hold n) (opened_place (place_at s p)) ≡ true) (sym same) (opened_terms (settled_days s) (place_at s p) (sound.terms p l)));
      days = λ _ p l. subst (λ o. standing (day_holds (s.day + 1)) o ≡ true) (sym (place p l)) (opened_day (s.day + 1) (place_at s p));
      deliveries = λ w p l. absurd (apart (sym w));
      balance = λ p l.
          sum_same _ _ 32 (λ a m. ap (λ (r : Row). r.long) (row (a * 12 + p) (omega arith)))
          ∙ sound.balance p l
          ∙ sym (sum_same _ _ 32 (λ a m. ap (λ (r : Row). r.short) (row (a * 12 + p) (omega arith))));
      traded = λ p l. subst (λ o. standing (λ c. eqb c.quantity (sum_to (λ a. (row_at t a p).bought) 32)) o ≡ true) (sym (place p l)) (opened_traded _ (place_at s p) (sum_none _ 32 (λ a m. ap (λ (r : Row). r.bought) (row (a * 12 + p) (omega arith)))));
      vacant = λ k l. subst (λ o. vacant_holds o (get_or t.rows k blank) ≡ true) (sym (place (k % 12) (mod_below k 12 (omega arith)))) (subst (λ r. vacant_holds (opened_place (place_at s (k % 12))) r ≡ true) (sym (row k l)) (opened_vacant (place_at s (k % 12)) (get_or s.table.rows k blank) (sound.vacant k l)));
      accounts = λ a l. subst (Bounded (settled_days (open_state None s)) (taken (open_state None s))) (sym (account a l))
          (let b = sound.accounts a l in let b0 = b.0 in let b1 = b.1 in let b2 = b.2 in let b3 = b.3 in
          (omega (arith, ints, days, free, still), omega (arith, ints, days, free, still), omega (arith, ints, days, free, still), omega (arith, days)));
      counts = λ a l. subst Counted (sym (account a l)) ((sound.counts a l).0, omega arith);
    }

-- What was asked of all places holds of each.
priced_at : (day : ℕ) (os : List (Option Contract)) (p : ℕ) → all_priced day os ≡ true → standing (delivery_holds day) (get_or os p None) ≡ true
priced_at day [] p h = refl
priced_at day (o ∷ os) zero h = (and_parts (standing (delivery_holds day) o) _ h).0
priced_at day (o ∷ os) (suc p) h = priced_at day os p (and_parts (standing (delivery_holds day) o) _ h).1

-- A day that is open has the settled days that it has closed.
open_days : (g : Stage) → is_open g ≡ true → g ≡ Open
open_days Open h = refl
open_days Resting h = absurd (apart (sym h))
open_days Closed h = absurd (apart (sym h))

pub close_keeps : (s : State) (rate : ℕ) → Sound s → close_refusal s rate ≡ None → Sound (close_state None s rate)
close_keeps s rate sound h =
    let ok = passed (close_reasons s rate) h in
    let opened = open_days s.stage (not-false (is_open s.stage) ok.0) in
    let range = or_parts (ltb rate min_rate) (ltb max_rate rate) ok.1.0 in
    let all = not-false (all_priced s.day s.places) ok.1.1.0 in
    let r = sound.ranges in
    let busy : is_resting s.stage ≡ false = ap is_resting opened in
    let days : settled_days s ≡ s.day - 1 = ap (λ (g : Stage). elim g [ Resting ↦ s.day | Open ↦ s.day - 1 | Closed ↦ s.day - 1 ]) opened in
    let fees : taken s ≡ 1000000 * turnover s.table = ap (λ (g : Stage). elim g [ Resting ↦ 0 | Open ↦ 1000000 * turnover s.table | Closed ↦ 1000000 * turnover s.table ]) opened in
    record {
      ranges = (r.0, r.1, r.2, ltb-false _ _ range.1, r.4);
      fees = (omega (arith, days, fees, sound.fees.0), λ _. sound.fees.1 busy, λ _. ltb-false _ _ range.0);
      rows = sound.rows;
      paths = sound.paths;
      terms = λ p l. subst (λ n. standing (terms_hold n) (place_at s p) ≡ true) days (sound.terms p l);
      days = λ _ p l. sound.days busy p l;
      deliveries = λ _ p l. priced_at s.day s.places p all;
      balance = sound.balance;
      traded = sound.traded;
      vacant = sound.vacant;
      accounts = λ a l. subst (λ n. Bounded n (1000000 * turnover s.table) (account_at s a)) days (subst (λ n. Bounded (settled_days s) n (account_at s a)) fees (sound.accounts a l));
      counts = sound.counts;
    }

pub all_priced_list : (day : ℕ) (os : List (Option Contract)) → list_all (λ o. standing (delivery_holds day) o) os ≡ all_priced day os
all_priced_list day [] = refl
all_priced_list day (o ∷ os) = ap (λ b. standing (delivery_holds day) o && b) (all_priced_list day os)
