-- What a settling makes of an account stays near: within ±150,000,000,000,000 units for each row.
use Rattle.std.proofs.Common.{◌≡◌, ℕ, zero, suc, ◌+◌, ◌*◌, ◌<◌, ◌≤◌, true, List, get_or, ℤ, pos, negsuc, ◌+ℤ◌, ◌-ℤ◌, ◌*ℤ◌, neg_ℤ, ◌≤ℤ◌, Some, None, Option, sym, refl, subst, add-one, arith}
use Rattle.std.proofs.lemmas.Nat.{mul-le}
use Rattle.std.proofs.lemmas.Int.{ints}
use Rattle.std.proofs.lemmas.Bool.{cond_both}
use Rattle.rules.specs.declared.figures.Figures.{Figures}
use Rattle.rules.specs.Margin.{Fair}
use Rattle.rules.specs.Price.{Inside}
use Rattle.rules.specs.MarginLaws.{fair_small}
use Rattle.ledger.specs.declared.state.Contract.{Contract}
use Rattle.ledger.specs.declared.state.Row.{Row}
use Rattle.ledger.specs.declared.state.State.{State}
use Rattle.ledger.specs.Places.{place_at, is_closed}
use Rattle.ledger.specs.Rows.{Small, row_at, result_of}
use Rattle.ledger.specs.Settle.{delivered, prices_of, row_outcome, outcome_at, outcome_to, Near, Priced, Settleable}
use Rattle.ledger.specs.Sound.{Sound}
use Rattle.ledger.proofs.Outcomes.{outcome_none, outcome_more, near_more, near_none, settleable, small_row}
use Rattle.ledger.proofs.Pricing.{prices_small}
use Rattle.ledger.proofs.Products.{times_up, times_down}

-- A signed amount within a bound on both sides.
abbrev Within : ℕ → ℤ → Type 0
Within n z = (neg_ℤ (pos n) ≤ℤ z) × (z ≤ℤ pos n)

apart_within : (n u d : ℕ) → u ≤ n → d ≤ n → Within n (pos u -ℤ pos d)
apart_within n u d hu hd = (omega (arith, ints), omega (arith, ints))

-- What a position gains from its old value to the mark.
carried_within : (net : ℤ) (mark old : ℕ) → Within 50000 net → mark ≤ 1000000000 → old ≤ 1000000000 → Within 50000000000000 (net *ℤ (pos mark -ℤ pos old))
carried_within (pos n) mark old (lo, hi) hm ho =
    let few : n ≤ 50000 = omega (arith, ints) in
    subst (Within 50000000000000) (sym (times_up n mark old)) (apart_within 50000000000000 (n * mark) (n * old) (mul-le n mark 50000 1000000000 few hm) (mul-le n old 50000 1000000000 few ho))
carried_within (negsuc n) mark old (lo, hi) hm ho =
    let few : suc n ≤ 50000 = omega (arith, ints) in
    subst (Within 50000000000000) (sym (times_down n mark old)) (apart_within 50000000000000 (suc n * old) (suc n * mark) (mul-le (suc n) old 50000 1000000000 few ho) (mul-le (suc n) mark 50000 1000000000 few hm))

-- What the day's trades come to on one side: TEU at the mark, and a sum of price × quantity at the rate.
traded_most : (teu sum other mark rate : ℕ) → teu + other ≤ 100000 → sum ≤ 9999 * other → mark ≤ 1000000000 → rate ≤ 99999 → teu * mark + sum * rate ≤ 100000000000000
traded_most teu sum other mark rate total priced hm hr =
    let t = mul-le teu mark teu 1000000000 (omega arith) hm in
    let w = mul-le sum rate (9999 * other) 99999 priced hr in
    omega arith

plus_within : (x y : ℤ) → Within 50000000000000 x → Within 100000000000000 y → Within 150000000000000 (x +ℤ y)
plus_within x y (a, b) (c, d) = (omega (arith, ints), omega (arith, ints))

-- A row's result at a settling.
result_within : (r : Row) (mark old rate : ℕ) → Small r → mark ≤ 1000000000 → old ≤ 1000000000 → rate ≤ 99999 → Within 150000000000000 (result_of r mark old rate)
result_within r mark old rate small hm ho hr =
    let total = small.total in
    let gained = traded_most r.bought r.proceeds r.sold mark rate total small.proceeds hm hr in
    let spent = traded_most r.sold r.cost r.bought mark rate (omega arith) small.cost hm hr in
    plus_within (r.net *ℤ (pos mark -ℤ pos old)) _ (carried_within r.net mark old (small.low, small.high) hm ho)
    (apart_within 100000000000000 (r.bought * mark + r.proceeds * rate) (r.cost * rate + r.sold * mark) gained (omega (arith, spent)))

-- The delivery fee of a row.
delivery_most : (delivery long short : ℕ) → delivery ≤ 10000 → long ≤ 50000 → short ≤ 50000 → 100 * delivery * (long + short) ≤ 100000000000
delivery_most delivery long short low hl hs = mul-le (100 * delivery) (long + short) 1000000 100000 (omega arith) (omega arith)

module _ (holding : ℕ → ℕ → ℕ → ℕ → ℕ) (fair : (value long short ratio : ℕ) → Fair value (long + short) ratio (holding value long short ratio)) where
  -- What one row comes to.
  near_row : (s : State) (price : ℕ) (o : Option Contract) (r : Row) → price ≤ 9999 → s.closing ≤ 99999 → s.rate ≤ 99999 → Small r → Settleable o → Near 1 (row_outcome holding s price o r)
  near_row s price None r hp hc hr small fits = (omega (arith, ints), omega (arith, ints), omega arith, omega arith)
  near_row s price (Some c) r hp hc hr small fits =
      let k = fits c refl in
      let mark = mul-le price s.closing 9999 99999 hp hc in
      let old = mul-le c.previous s.rate 9999 99999 k.0 hr in
      let result = result_within r (price * s.closing) (c.previous * s.rate) s.rate small (omega arith) (omega arith) hr in
      let margin = fair_small (fair (price * s.closing) r.long r.short c.ratio) in (
        result.0,
        result.1,
        cond_both (delivered s.day c) _ _ (λ n. n ≤ 100000000000) (λ _. delivery_most c.delivery r.long r.short k.1 small.long small.short) (λ _. omega arith),
        cond_both (delivered s.day c) _ _ (λ n. n ≤ 100000000000099) (λ _. omega arith) (λ _. omega arith),
      )

  -- What an account's first rows come to.
  near_rows : (s : State) (ps : List ℕ) (a : ℕ) → Priced ps → Sound s → a < 32 → (n : ℕ) → n ≤ 12 → Near n (outcome_to holding s ps a n)
  near_rows s ps a priced sound al zero h = subst (Near 0) (outcome_none holding s ps a) near_none
  near_rows s ps a priced sound al (suc n) h =
      let r = sound.ranges in
      let lt : n < 12 = omega arith in
      let row = near_row s (get_or ps n 0) (place_at s n) (row_at s.table a n) (priced n lt) r.3 r.2 (small_row s a n al lt sound) (settleable s n lt sound) in
      subst (λ (k : ℕ). Near k (outcome_to holding s ps a k)) (add-one n)
      (subst (Near (n + 1)) (sym (outcome_more holding s ps a n)) (near_more n (outcome_to holding s ps a n) (outcome_at holding s ps a n) (near_rows s ps a priced sound al n (omega arith)) row))

-- What a settling makes of an account's twelve rows.
pub near_settled : (f : Figures → ℕ) (holding : ℕ → ℕ → ℕ → ℕ → ℕ) (s : State) → Inside f → ((value long short ratio : ℕ) → Fair value (long + short) ratio (holding value long short ratio)) → Sound s → is_closed s.stage ≡ true → (a : ℕ) → a < 32 → Near 12 (outcome_to holding s (prices_of f s) a 12)
near_settled f holding s law fair sound shut a al = near_rows holding fair s (prices_of f s) a (prices_small f s law sound shut) sound al 12 (omega arith)
