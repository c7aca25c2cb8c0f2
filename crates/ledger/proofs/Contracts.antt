-- One contract changed, every other place as it was.
use Rattle.std.proofs.Common.{◌≡◌, ℕ, ◌*◌, ◌%◌, ◌<◌, ◌≤◌, true, false, not, ◌||◌, eqb, ltb, leb, List, length, get_or, set, Some, None, Option, sym, refl, subst, inl, inr, arith}
use Rattle.std.proofs.lemmas.List.{get_or-set_same, get_or-set_other}
use Rattle.std.proofs.lemmas.Bool.{and_parts, and_from, leb-true, le-leb, ltb-true, lt-ltb, cases_eq}
use Rattle.rules.specs.Units.{min_price, max_price, max_ratio, max_fee, max_days}
use Rattle.ledger.specs.declared.state.Contract.{Contract}
use Rattle.ledger.specs.declared.state.State.{State}
use Rattle.ledger.specs.Places.{place_at, with_place, limits_of, is_resting, is_closed}
use Rattle.ledger.specs.Rows.{blank, row_at}
use Rattle.ledger.specs.Sound.{Sound, settled_days, standing, terms_hold, day_holds, delivery_holds, quote_holds, vacant_holds}
use Rattle.ledger.specs.Sums.{sum_to}

-- What a contract's terms are known to be.
pub record Terms (days : ℕ) (c : Contract) : Type 0 where
  pub least : min_price ≤ c.base
  pub base : c.base ≤ max_price
  pub low : min_price ≤ c.previous
  pub previous : c.previous ≤ max_price
  pub named : 1 ≤ c.number
  pub number : c.number ≤ 65535
  pub ratio : c.ratio ≤ max_ratio
  pub fee : c.fee ≤ max_fee
  pub delivery : c.delivery ≤ max_fee
  pub listed : c.term.listed ≤ days
  pub ahead : days < c.term.last
  pub last : c.term.last ≤ max_days
  pub fresh : (not (eqb c.term.listed days) || eqb c.previous c.base) ≡ true

pub terms_of : (days : ℕ) (c : Contract) → terms_hold days c ≡ true → Terms days c
terms_of days c h =
    let a = and_parts (leb min_price c.base) _ h in
    let b = and_parts (leb c.base max_price) _ a.1 in
    let d = and_parts (leb min_price c.previous) _ b.1 in
    let e = and_parts (leb c.previous max_price) _ d.1 in
    let f = and_parts (leb 1 c.number) _ e.1 in
    let g = and_parts (leb c.number 65535) _ f.1 in
    let i = and_parts (leb c.ratio max_ratio) _ g.1 in
    let j = and_parts (leb c.fee max_fee) _ i.1 in
    let k = and_parts (leb c.delivery max_fee) _ j.1 in
    let l = and_parts (leb c.term.listed days) _ k.1 in
    let m = and_parts (ltb days c.term.last) _ l.1 in
    let n = and_parts (leb c.term.last max_days) _ m.1 in
    record {
      least = leb-true _ _ a.0;
      base = leb-true _ _ b.0;
      low = leb-true _ _ d.0;
      previous = leb-true _ _ e.0;
      named = leb-true _ _ f.0;
      number = leb-true _ _ g.0;
      ratio = leb-true _ _ i.0;
      fee = leb-true _ _ j.0;
      delivery = leb-true _ _ k.0;
      listed = leb-true _ _ l.0;
      ahead = ltb-true _ _ m.0;
      last = leb-true _ _ n.0;
      fresh = n.1;
    }

pub terms_from : (days : ℕ) (c : Contract) → Terms days c → terms_hold days c ≡ true
terms_from days c t =
    and_from _ _ (le-leb _ _ t.least) (and_from _ _ (le-leb _ _ t.base) (and_from _ _ (le-leb _ _ t.low) (and_from _ _ (le-leb _ _ t.previous)
    (and_from _ _ (le-leb _ _ t.named) (and_from _ _ (le-leb _ _ t.number) (and_from _ _ (le-leb _ _ t.ratio) (and_from _ _ (le-leb _ _ t.fee)
    (and_from _ _ (le-leb _ _ t.delivery) (and_from _ _ (le-leb _ _ t.listed) (and_from _ _ (lt-ltb _ _ t.ahead) (and_from _ _ (le-leb _ _ t.last) t.fresh)))))))))))

-- What the figures of its day are known to be.
pub record Day (day : ℕ) (c : Contract) : Type 0 where
  pub least : (limits_of day c).lower * c.quantity ≤ c.value
  pub most : c.value ≤ (limits_of day c).upper * c.quantity
  pub bid : quote_holds (limits_of day c) c.bid ≡ true
  pub ask : quote_holds (limits_of day c) c.ask ≡ true
  pub price : quote_holds (record { lower = min_price; upper = max_price }) c.price ≡ true

pub day_of : (day : ℕ) (c : Contract) → day_holds day c ≡ true → Day day c
day_of day c h =
    let a = and_parts (leb ((limits_of day c).lower * c.quantity) c.value) _ h in
    let b = and_parts (leb c.value ((limits_of day c).upper * c.quantity)) _ a.1 in
    let d = and_parts (quote_holds (limits_of day c) c.bid) _ b.1 in
    let e = and_parts (quote_holds (limits_of day c) c.ask) _ d.1 in
    record { least = leb-true _ _ a.0; most = leb-true _ _ b.0; bid = d.0; ask = e.0; price = e.1 }

pub day_from : (day : ℕ) (c : Contract) → Day day c → day_holds day c ≡ true
day_from day c d = and_from _ _ (le-leb _ _ d.least) (and_from _ _ (le-leb _ _ d.most) (and_from _ _ d.bid (and_from _ _ d.ask d.price)))

-- What holds of a place after one was filled anew: of the new contract there, of the old one elsewhere.
pub at_set : (P : Option Contract → Type 0) (xs : List (Option Contract)) (p : ℕ) (x : Option Contract) (q : ℕ) → length xs ≡ 12 → p < 12 → (q ≡ p → P x) → ((q ≡ p → ⊥) → P (get_or xs q None)) → P (get_or (set xs p x) q None)
at_set P xs p x q long lt new old =
    elim (cases_eq q p) [
      | inl same ↦ subst (λ (i : ℕ). P (get_or (set xs p x) i None)) (sym same) (subst P (sym (get_or-set_same xs p x None (omega arith))) (new same))
      | inr ne ↦ subst P (sym (get_or-set_other xs p q x None ne)) (old ne)
    ]

-- A contract that fits its place.
pub record FitsPlace (s : State) (p : ℕ) (c : Contract) : Type 0 where
  pub terms : terms_hold (settled_days s) c ≡ true
  pub day : is_resting s.stage ≡ false → day_holds s.day c ≡ true
  pub delivery : is_closed s.stage ≡ true → delivery_holds s.day c ≡ true
  pub traded : eqb c.quantity (sum_to (λ a. (row_at s.table a p).bought) 32) ≡ true

pub place_keeps : (s : State) (p : ℕ) (c : Contract) → length s.places ≡ 12 → p < 12 → Sound s → FitsPlace s p c → Sound (with_place s p c)
place_keeps s p c long lt sound fits = record {
  ranges = sound.ranges;
  fees = sound.fees;
  rows = sound.rows;
  paths = sound.paths;
  terms = λ q l. at_set (λ o. standing (terms_hold (settled_days s)) o ≡ true) s.places p (Some c) q long lt (λ _. fits.terms) (λ _. sound.terms q l);
  days = λ r q l. at_set (λ o. standing (day_holds s.day) o ≡ true) s.places p (Some c) q long lt (λ _. fits.day r) (λ _. sound.days r q l);
  deliveries = λ r q l. at_set (λ o. standing (delivery_holds s.day) o ≡ true) s.places p (Some c) q long lt (λ _. fits.delivery r) (λ _. sound.deliveries r q l);
  balance = sound.balance;
  traded = λ q l.
      at_set (λ o. standing (λ d. eqb d.quantity (sum_to (λ a. (row_at s.table a q).bought) 32)) o ≡ true) s.places p (Some c) q long lt
      (λ same. subst (λ (i : ℕ). eqb c.quantity (sum_to (λ a. (row_at s.table a i).bought) 32) ≡ true) (sym same) fits.traded) (λ _. sound.traded q l);
  vacant = λ k l. at_set (λ o. vacant_holds o (get_or s.table.rows k blank) ≡ true) s.places p (Some c) (k % 12) long lt (λ _. refl) (λ _. sound.vacant k l);
  accounts = sound.accounts;
  counts = sound.counts;
}

-- A standing contract fits its place.
pub stands : (s : State) (p : ℕ) (c : Contract) → p < 12 → Sound s → place_at s p ≡ Some c → FitsPlace s p c
stands s p c lt sound is = record {
  terms = subst (λ o. standing (terms_hold (settled_days s)) o ≡ true) is (sound.terms p lt);
  day = λ r. subst (λ o. standing (day_holds s.day) o ≡ true) is (sound.days r p lt);
  delivery = λ r. subst (λ o. standing (delivery_holds s.day) o ≡ true) is (sound.deliveries r p lt);
  traded = subst (λ o. standing (λ d. eqb d.quantity (sum_to (λ a. (row_at s.table a p).bought) 32)) o ≡ true) is (sound.traded p lt);
}
