-- The settlement price of every contract lies within 1 to 9,999.
use Rattle.std.proofs.Common.{◌≡◌, ℕ, ◌+◌, ◌-◌, ◌<◌, ◌≤◌, true, false, not, ◌||◌, eqb, leb, is_some, IfSome, Some, None, Option, unwrap_or, sym, refl, ap, subst, ⊎_elim, arith}
use Rattle.std.proofs.lemmas.Bool.{and_parts, leb-true, eqb-true, eqb-false, eq-eqb, ne_eqb, cond_both, cond-true, cond-false, cases_Bool}
use Rattle.rules.specs.declared.figures.Figures.{Figures}
use Rattle.rules.specs.declared.limits.Limits.{Limits}
use Rattle.rules.specs.Figures.{Orderly}
use Rattle.rules.specs.Limits.{Within, limits_about, wide_day}
use Rattle.rules.specs.Price.{Inside}
use Rattle.rules.specs.Units.{min_price, max_price, wide_percent, narrow_percent}
use Rattle.rules.proofs.LimitLaws.{within_own_limits, limits_capped}
use Rattle.ledger.specs.declared.state.Contract.{Contract}
use Rattle.ledger.specs.declared.state.Stage.{Stage}
use Rattle.ledger.specs.declared.state.Stage.TheVariants.{Resting, Open, Closed}
use Rattle.ledger.specs.declared.state.State.{State}
use Rattle.ledger.specs.Places.{place_at, figures_of, limits_of, is_closed, is_resting}
use Rattle.ledger.specs.Settle.{delivered, price_of, price_at, prices_of, Priced}
use Rattle.ledger.specs.Sound.{Sound, settled_days, quote_holds}
use Rattle.ledger.proofs.Contracts.{Terms, terms_of, Day, day_of, stands}
use Rattle.ledger.proofs.Opening.{apart}
use Rattle.ledger.proofs.Tabulated.{tabulated_at}

pub closed_stage : (g : Stage) → is_closed g ≡ true → g ≡ Closed
closed_stage Closed h = refl
closed_stage Resting h = absurd (apart (sym h))
closed_stage Open h = absurd (apart (sym h))

-- The days settled before a day that is closed.
pub closed_days : (s : State) → Sound s → is_closed s.stage ≡ true → settled_days s + 1 ≡ s.day
closed_days s sound h =
    let shut = closed_stage s.stage h in
    let days : settled_days s ≡ s.day - 1 = ap (λ (g : Stage). elim g [ Resting ↦ s.day | Open ↦ s.day - 1 | Closed ↦ s.day - 1 ]) shut in
    let some = sound.fees.1 (ap is_resting shut) in
    omega (arith, days, some)

-- On a day that asks a rule, the previous price lies within the limits.
previous_within : (days day : ℕ) (c : Contract) → days + 1 ≡ day → Terms days c → eqb c.term.last day ≡ false → Within (limits_of day c) c.previous
previous_within days day c next t later =
    let not_last : eqb day c.term.last ≡ false = ne_eqb _ _ (λ e. eqb-false _ _ later (sym e)) in
    ⊎_elim
    (λ first_day.
    let at : day ≡ c.term.listed + 1 = eqb-true _ _ first_day in
    let listed : eqb c.term.listed days ≡ true = eq-eqb c.term.listed days (omega arith) in
    let same : c.previous ≡ c.base = eqb-true _ _ (subst (λ b. (not b || eqb c.previous c.base) ≡ true) listed t.fresh) in
    let wide : wide_day c.term day ≡ true = ap (λ b. b || eqb day c.term.last) first_day in
    subst (λ (l : Limits). Within l c.previous) (sym (cond-true _ _ _ wide)) (subst (λ p. Within (limits_about wide_percent c.base) p) (sym same) (within_own_limits wide_percent c.base t.base)))
    (λ other-day.
    let narrow : wide_day c.term day ≡ false = (λ i. other-day i || not_last i) in
    subst (λ (l : Limits). Within l c.previous) (sym (cond-false _ _ _ narrow)) (within_own_limits narrow_percent c.previous t.previous))
    (cases_Bool (eqb day (c.term.listed + 1)))

quote_within : (l : Limits) (o : Option ℕ) → quote_holds l o ≡ true → IfSome o (Within l)
quote_within l None h = tt
quote_within l (Some q) h = let p = and_parts (leb l.lower q) (leb q l.upper) h in record { low = leb-true _ _ p.0; high = leb-true _ _ p.1 }

pub orderly : (days day : ℕ) (c : Contract) → days + 1 ≡ day → Terms days c → Day day c → eqb c.term.last day ≡ false → Orderly (figures_of day c)
orderly days day c next t d later = record {
  previous = previous_within days day c next t later;
  bid = quote_within (limits_of day c) c.bid d.bid;
  ask = quote_within (limits_of day c) c.ask d.ask;
  least = d.least;
  most = d.most;
}

lower_positive : (days day : ℕ) (c : Contract) → Terms days c → 1 ≤ (limits_of day c).lower
lower_positive days day c t =
    let b = t.least in let p = t.low in
    cond_both (wide_day c.term day) _ _ (λ (l : Limits). 1 ≤ l.lower) (λ _. omega arith) (λ _. omega arith)

abbrev pub Sane : ℕ → Type 0
Sane price = (min_price ≤ price) × (price ≤ max_price)

delivery_sane : (o : Option ℕ) → is_some o ≡ true → quote_holds (record { lower = min_price; upper = max_price }) o ≡ true → Sane (unwrap_or o 0)
delivery_sane None s h = absurd (apart (sym s))
delivery_sane (Some q) s h = let p = and_parts (leb min_price q) (leb q max_price) h in (leb-true _ _ p.0, leb-true _ _ p.1)

pub price_sane : (f : Figures → ℕ) (s : State) (p : ℕ) (c : Contract) → Inside f → p < 12 → Sound s → is_closed s.stage ≡ true → place_at s p ≡ Some c → Sane (price_of f s.day c)
price_sane f s p c law lt sound shut is =
    let fits = stands s p c lt sound is in
    let t = terms_of (settled_days s) c fits.terms in
    let d = day_of s.day c (fits.day (ap is_resting (closed_stage s.stage shut))) in
    let next = closed_days s sound shut in
    cond_both (delivered s.day c) _ _ Sane
    (λ on-last. delivery_sane c.price (subst (λ b. (not b || is_some c.price) ≡ true) on-last (fits.delivery shut)) d.price)
    (λ not_last.
    let w = law (figures_of s.day c) (orderly (settled_days s) s.day c next t d not_last) in
    let low = w.low in let high = w.high in
    let one = lower_positive (settled_days s) s.day c t in
    let cap = limits_capped s.day c.term c.base c.previous in
    (omega arith, omega (arith, cap)))

at_most : (f : Figures → ℕ) (s : State) (p : ℕ) (o : Option Contract) → Inside f → p < 12 → Sound s → is_closed s.stage ≡ true → place_at s p ≡ o → price_at f s.day o ≤ 9999
at_most f s p None law lt sound shut is = omega arith
at_most f s p (Some c) law lt sound shut is = (price_sane f s p c law lt sound shut is).1

pub prices_small : (f : Figures → ℕ) (s : State) → Inside f → Sound s → is_closed s.stage ≡ true → Priced (prices_of f s)
prices_small f s law sound shut p lt = subst (λ n. n ≤ 9999) (sym (tabulated_at (λ p. price_at f s.day (place_at s p)) 12 p 0 lt)) (at_most f s p (place_at s p) law lt sound shut refl)
