-- Listing, ratio, quotes and delivery prices keep a ledger sound.
use Rattle.std.proofs.Common.{◌≡◌, ℕ, ◌+◌, ◌-◌, ◌*◌, ◌%◌, ◌<◌, ◌≤◌, Bool, true, false, cond, not, ◌&&◌, ◌||◌, eqb, ltb, leb, length, is_some, Some, None, Option, sym, refl, ap, ◌∙◌, subst, arith}
use Rattle.std.proofs.lemmas.Bool.{and_parts, and_from, or_parts, not-false, leb-true, leb-false, le-leb, ltb-false, eq-eqb, eqb-true}
use Rattle.refusal.proofs.Passed.{passed}
use Rattle.rules.specs.declared.limits.Limits.{Limits}
use Rattle.rules.specs.Units.{min_price, max_price, max_ratio, max_fee, max_days}
use Rattle.ledger.specs.declared.state.Contract.{Contract}
use Rattle.ledger.specs.declared.state.Listing.{Listing}
use Rattle.ledger.specs.declared.state.Stage.{Stage}
use Rattle.ledger.specs.declared.state.Stage.TheVariants.{Resting, Open, Closed}
use Rattle.ledger.specs.declared.state.State.{State}
use Rattle.ledger.specs.Listing.{at_place, list_reasons, list_refusal, list_state, new_contract, bad_ratio, reweigh_reasons, reweigh_refusal, reweigh_state, reweighed}
use Rattle.ledger.specs.Places.{place_at, limits_of, is_resting, is_closed, known_place, outside}
use Rattle.ledger.specs.Quotes.{bad_quote, quote_reasons, quote_refusal, quote_state, quoted, deliver_reasons, deliver_refusal, deliver_state, delivered_at}
use Rattle.ledger.specs.Rows.{row_at}
use Rattle.ledger.specs.Sound.{Sound, settled_days, terms_hold, quote_holds, vacant_holds}
use Rattle.ledger.specs.Sums.{sum_to}
use Rattle.ledger.proofs.Tabulated.{sum_none}
use Rattle.ledger.proofs.Contracts.{terms_of, terms_from, day_of, day_from, FitsPlace, place_keeps, stands}

pub known : (p : ℕ) → not (known_place p) ≡ false → (1 ≤ p) × (p ≤ 12)
known p h = let q = and_parts (leb 1 p) (leb p 12) (not-false (known_place p) h) in (leb-true 1 p q.0, leb-true p 12 q.1)

-- A change of a standing contract that still fits its place.
pub change_keeps : (s : State) (p : ℕ) (change : Contract → Contract) (o : Option Contract) → length s.places ≡ 12 → p < 12 → Sound s → place_at s p ≡ o → ((c : Contract) → place_at s p ≡ Some c → FitsPlace s p c → FitsPlace s p (change c)) → Sound (at_place s p o change)
change_keeps s p change None long lt sound is fits = sound
change_keeps s p change (Some c) long lt sound is fits = place_keeps s p (change c) long lt sound (fits c is (stands s p c lt sound is))

reweighed_fits : (s : State) (p : ℕ) (c : Contract) (ratio : ℕ) → ratio ≤ max_ratio → FitsPlace s p c → FitsPlace s p (reweighed c ratio)
reweighed_fits s p c ratio few fits =
    let t = terms_of (settled_days s) c fits.terms in
    record {
      terms = terms_from (settled_days s) (reweighed c ratio) (record {
        least = t.least;
        base = t.base;
        low = t.low;
        previous = t.previous;
        named = t.named;
        number = t.number;
        ratio = few;
        fee = t.fee;
        delivery = t.delivery;
        listed = t.listed;
        ahead = t.ahead;
        last = t.last;
        fresh = t.fresh;
      });
      day = fits.day;
      delivery = fits.delivery;
      traded = fits.traded;
    }

pub reweigh_keeps : (s : State) (place ratio : ℕ) → length s.places ≡ 12 → Sound s → reweigh_refusal s place ratio ≡ None → Sound (reweigh_state None s place ratio)
reweigh_keeps s place ratio long sound h =
    let ok = passed (reweigh_reasons s place ratio) h in
    let range = known place ok.1.0 in
    let few = or_parts (ltb ratio 1) (ltb max_ratio ratio) ok.1.1.1.0 in
    change_keeps s (place - 1) (λ c. reweighed c ratio) (place_at s (place - 1)) long (omega (arith, range.0, range.1)) sound refl
    (λ c is fits. reweighed_fits s (place - 1) c ratio (ltb-false _ _ few.1) fits)

-- A quote that was not refused lies within the limits, or is none.
quote_fits : (limits : Limits) (q : ℕ) (b : Bool) → (not b && outside limits q) ≡ false → quote_holds limits (cond b None (Some q)) ≡ true
quote_fits limits q true h = refl
quote_fits limits q false h =
    let p = or_parts (ltb q limits.lower) (ltb limits.upper q) h in
    and_from _ _ (le-leb _ _ (ltb-false _ _ p.0)) (le-leb _ _ (ltb-false _ _ p.1))

quoted_fits : (s : State) (p bid ask : ℕ) (c : Contract) → bad_quote s.day (Some c) bid ≡ false → bad_quote s.day (Some c) ask ≡ false → FitsPlace s p c → FitsPlace s p (quoted bid ask c)
quoted_fits s p bid ask c b a fits = record {
  terms = fits.terms;
  day = λ r. let d = day_of s.day c (fits.day r) in
      day_from s.day (quoted bid ask c) (record {
        least = d.least;
        most = d.most;
        bid = quote_fits (limits_of s.day c) bid (eqb bid 0) b;
        ask = quote_fits (limits_of s.day c) ask (eqb ask 0) a;
        price = d.price;
      });
  delivery = fits.delivery;
  traded = fits.traded;
}

pub quote_keeps : (s : State) (place bid ask : ℕ) → length s.places ≡ 12 → Sound s → quote_refusal s place bid ask ≡ None → Sound (quote_state None s place bid ask)
quote_keeps s place bid ask long sound h =
    let ok = passed (quote_reasons s place bid ask) h in
    let range = known place ok.1.0 in
    let p = place - 1 in
    let in-limits = or_parts (bad_quote s.day (place_at s p) bid) (bad_quote s.day (place_at s p) ask) ok.1.1.1.0 in
    change_keeps s p (quoted bid ask) (place_at s p) long (omega (arith, range.0, range.1)) sound refl
    (λ c is fits. quoted_fits s p bid ask c (subst (λ o. bad_quote s.day o bid ≡ false) is in-limits.0) (subst (λ o. bad_quote s.day o ask ≡ false) is in-limits.1) fits)

either_true : (b : Bool) → (b || true) ≡ true
either_true true = refl
either_true false = refl

delivered_fits : (s : State) (p price : ℕ) (c : Contract) → min_price ≤ price → price ≤ max_price → FitsPlace s p c → FitsPlace s p (delivered_at price c)
delivered_fits s p price c lo hi fits = record {
  terms = fits.terms;
  day = λ r. let d = day_of s.day c (fits.day r) in
      day_from s.day (delivered_at price c) (record { least = d.least; most = d.most; bid = d.bid; ask = d.ask; price = and_from _ _ (le-leb _ _ lo) (le-leb _ _ hi) });
  delivery = λ r. either_true (not (eqb c.term.last s.day));
  traded = fits.traded;
}

pub deliver_keeps : (s : State) (place price : ℕ) → length s.places ≡ 12 → Sound s → deliver_refusal s place price ≡ None → Sound (deliver_state None s place price)
deliver_keeps s place price long sound h =
    let ok = passed (deliver_reasons s place price) h in
    let range = known place ok.1.0 in
    let fit = or_parts (ltb price min_price) (ltb max_price price) ok.1.1.1.1.0 in
    change_keeps s (place - 1) (delivered_at price) (place_at s (place - 1)) long (omega (arith, range.0, range.1)) sound refl
    (λ c is fits. delivered_fits s (place - 1) price c (ltb-false _ _ fit.0) (ltb-false _ _ fit.1) fits)

-- Between two days, every day that was opened is settled.
pub resting_days : (s : State) → is_resting s.stage ≡ true → settled_days s ≡ s.day
resting_days s h = at_rest s.stage s.day h
  where
    at_rest : (g : Stage) (d : ℕ) → is_resting g ≡ true → elim g [ Resting ↦ d | Open ↦ d - 1 | Closed ↦ d - 1 ] ≡ d
    at_rest Resting d h = refl
    at_rest Open d h = let z : ◌≡◌ {A = ℕ} 0 1 = cc in absurd (omega arith)
    at_rest Closed d h = let z : ◌≡◌ {A = ℕ} 0 1 = cc in absurd (omega arith)

-- An empty place has bought nothing.
none_bought : (s : State) (p : ℕ) → p < 12 → Sound s → place_at s p ≡ None → sum_to (λ a. (row_at s.table a p).bought) 32 ≡ 0
none_bought s p lt sound is =
    sum_none (λ a. (row_at s.table a p).bought) 32
    (λ a l.
    let here : (a * 12 + p) % 12 ≡ p = omega arith in
    let r = row_at s.table a p in
    let v = subst (λ (i : ℕ). vacant_holds (place_at s i) r ≡ true) here (sound.vacant (a * 12 + p) (omega arith)) in
    let w = subst (λ o. vacant_holds o r ≡ true) is v in
    let x = and_parts (eqb r.long 0) _ w in
    let y = and_parts (eqb r.short 0) _ x.1 in
    let z = and_parts (eqb r.bought 0) (eqb r.sold 0) y.1 in
    eqb-true r.bought 0 z.0)

empty : {A : Type 0} (o : Option A) → is_some o ≡ false → o ≡ None
empty None h = refl
empty (Some x) h = let z : ◌≡◌ {A = ℕ} 0 1 = cc in absurd (omega arith)

new_fits : (s : State) (l : Listing) → 1 ≤ l.place → l.place ≤ 12 → Sound s → list_refusal s l ≡ None → FitsPlace s (l.place - 1) (new_contract s.day l)
new_fits s l lo hi sound h =
    let ok = passed (list_reasons s l) h in
    let rest = not-false (is_resting s.stage) ok.0 in
    let days = resting_days s rest in
    let number = or_parts (leb l.number s.highest) (ltb 65535 l.number) ok.1.1.1.0 in
    let named = leb-false _ _ number.0 in
    let g = or_parts _ (ltb max_days l.last) ok.1.1.1.1.0 in
    let f = or_parts _ (leb l.last s.day) g.0 in
    let e = or_parts _ (ltb max_fee l.delivery) f.0 in
    let d = or_parts _ (ltb max_fee l.fee) e.0 in
    let c = or_parts _ (bad_ratio l.ratio) d.0 in
    let b = or_parts (ltb l.base min_price) (ltb max_price l.base) c.0 in
    let r = or_parts (ltb l.ratio 1) (ltb max_ratio l.ratio) c.1 in
    let p = l.place - 1 in
    record {
      terms = subst (λ n. terms_hold n (new_contract s.day l) ≡ true) (sym days) (terms_from s.day (new_contract s.day l) (record {
        least = ltb-false _ _ b.0;
        base = ltb-false _ _ b.1;
        low = ltb-false _ _ b.0;
        previous = ltb-false _ _ b.1;
        named = omega (arith, named);
        number = ltb-false _ _ number.1;
        ratio = ltb-false _ _ r.1;
        fee = ltb-false _ _ d.1;
        delivery = ltb-false _ _ e.1;
        listed = omega arith;
        ahead = leb-false _ _ f.1;
        last = ltb-false _ _ g.1;
        fresh = ap (λ x. not (eqb s.day s.day) || x) (eq-eqb l.base l.base refl) ∙ either_true (not (eqb s.day s.day));
      }));
      day = λ w. let z : true ≡ false = sym rest ∙ w in let y : ◌≡◌ {A = ℕ} 0 1 = cc in absurd (omega arith);
      delivery = λ w. absurd (rests_open s.stage rest w);
      traded = eq-eqb _ _ (sym (none_bought s p (omega arith) sound (empty (place_at s p) ok.1.1.0)));
    }
  where
    rests_open : (g : Stage) → is_resting g ≡ true → is_closed g ≡ true → ⊥
    rests_open Resting h k = let z : ◌≡◌ {A = ℕ} 0 1 = cc in omega arith
    rests_open Open h k = let z : ◌≡◌ {A = ℕ} 0 1 = cc in omega arith
    rests_open Closed h k = let z : ◌≡◌ {A = ℕ} 0 1 = cc in omega arith

pub list_keeps : (s : State) (l : Listing) → length s.places ≡ 12 → Sound s → list_refusal s l ≡ None → Sound (list_state None s l)
list_keeps s l long sound h =
    let ok = passed (list_reasons s l) h in
    let range = known l.place ok.1.0 in
    let number = or_parts (leb l.number s.highest) (ltb 65535 l.number) ok.1.1.1.0 in
    let k = place_keeps s (l.place - 1) (new_contract s.day l) long (omega (arith, range.0, range.1)) sound (new_fits s l range.0 range.1 sound h) in
    let r = sound.ranges in
    record {
      ranges = (r.0, r.1, r.2, r.3, ltb-false _ _ number.1);
      fees = k.fees;
      rows = k.rows;
      paths = k.paths;
      terms = k.terms;
      days = k.days;
      deliveries = k.deliveries;
      balance = k.balance;
      traded = k.traded;
      vacant = k.vacant;
      accounts = k.accounts;
      counts = k.counts;
    }
