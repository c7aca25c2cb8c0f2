-- A settling.
use Rattle.std.proofs.Common.{◌≡◌, ℕ, ◌+◌, ◌-◌, ◌*◌, ◌%◌, ◌<◌, ◌≤◌, Bool, true, false, cond, ◌&&◌, eqb, List, [], ◌∷◌, ◌++◌, get_or, ℤ, pos, ◌+ℤ◌, ◌-ℤ◌, ◌*ℤ◌, Some, None, Option, unwrap_or, sym, refl, ap, ◌∙◌, subst, ap₂, arith}
use Rattle.std.proofs.lemmas.Bool.{eq-eqb, ne_eqb, false≢true}
use Rattle.rules.specs.declared.figures.Figures.{Figures}
use Rattle.rules.specs.Units.{fen_units}
use Rattle.ledger.specs.declared.state.Account.{Account}
use Rattle.ledger.specs.declared.state.Deal.{Deal}
use Rattle.ledger.specs.declared.state.Outcome.{Outcome}
use Rattle.ledger.specs.declared.state.Row.{Row}
use Rattle.ledger.specs.declared.state.Stage.{Stage}
use Rattle.ledger.specs.declared.state.Stage.TheVariants.{Resting, Open, Closed}
use Rattle.ledger.specs.declared.state.State.{State}
use Rattle.ledger.specs.Days.{opened_place}
use Rattle.ledger.specs.Places.{account_at, place_at, no_account, equity, is_resting, is_closed}
use Rattle.ledger.specs.Rows.{blank, row_at, opened_row}
use Rattle.ledger.specs.Settle.{price_at, prices_of, row_outcome, outcome_at, outcome_to, settled_account, change_of, settled_place, settled_row, settled_by}
use Rattle.ledger.specs.Sums.{sum_to}
use Rattle.ledger.proofs.Tabulated.{tabulated_at, tabulated_length}
use Rattle.tally.specs.Deeds.{PriceRule, MarginRule, Deed.settles}
use Rattle.tally.specs.Tally.{History, Listed, Trade, share, sum, gained, standing, number_of, unless_last, on_last_day, delivery_per_teu, limits_told, settlement_price, settlement_rate, trade_rate, day_number, previous_price, day_quantity, day_value, bid, ask, delivery_price, last_mark, settled_trades, unsettled_trades, all_trades, teu, opens_long, closes_long, opens_short, closes_short, long, short, delivery_fee, cash_in, cash_out, fees}
use Rattle.tally.proofs.Algebra.{lin, mul_right_add}
use Rattle.tally.proofs.Days.{row_awake, place_awake}
use Rattle.tally.proofs.Listings.{never_zero}
use Rattle.tally.proofs.Lists.{Each, Each.none, Each.more, each_map, each_append, Among}
use Rattle.tally.proofs.Marks.{past_place, fresh_place, placed}
use Rattle.tally.proofs.Matches.{Matches, RowIs, RowTold, MarkTold, Fresh, account_of, place_of, row_of, told, told_from, ratio_told, number_at, signed, of, net, buys, sells, amount, worth}
use Rattle.tally.proofs.Nets.{teu_none, net_none, net_fresh}
use Rattle.tally.proofs.Sums.{sum_append, total_same, total_add, spread, at, sum_same, sum_zero}

closed_awake : (g : Stage) → is_closed g ≡ true → is_resting g ≡ false
closed_awake Resting e = absurd (false≢true e)
closed_awake Open e = refl
closed_awake Closed e = refl

-- The day's trades are none where none stands.
none_bought : (f : Trade → ℕ) (a p k x : ℕ) (number : ℕ → ℕ) (ts : List Trade) → Each (Fresh k number x) ts → number p ≡ 0 → buys f a p ts ≡ 0
none_bought f a p k x number [] none e = refl
none_bought f a p k x number (t ∷ ts) (more g gs) e =
    let i = none_bought f a p k x number ts gs e in
    let j : share (eqb p t.deal.place && eqb a t.deal.buyer) (f t) ≡ 0 = ap (λ b. share (b && eqb a t.deal.buyer) (f t)) (ne_eqb p t.deal.place (λ q. let u = g.stands ∙ ap number (sym q) in omega (arith, g.past.number))) in
    omega arith

none_sold : (f : Trade → ℕ) (a p k x : ℕ) (number : ℕ → ℕ) (ts : List Trade) → Each (Fresh k number x) ts → number p ≡ 0 → sells f a p ts ≡ 0
none_sold f a p k x number [] none e = refl
none_sold f a p k x number (t ∷ ts) (more g gs) e =
    let i = none_sold f a p k x number ts gs e in
    let j : share (eqb p t.deal.place && eqb a t.deal.seller) (f t) ≡ 0 = ap (λ b. share (b && eqb a t.deal.seller) (f t)) (ne_eqb p t.deal.place (λ q. let u = g.stands ∙ ap number (sym q) in omega (arith, g.past.number))) in
    omega arith

-- What a row comes to, from its figures.
abbrev formula : ℤ → ℕ → ℕ → ℕ → ℕ → ℕ → ℕ → ℕ → ℤ
formula st M P x B W D V = (st *ℤ (pos M -ℤ pos P)) +ℤ (pos (B * M + V * x) -ℤ pos (W * x + D * M))

idle_formula : (st : ℤ) (M P x B W D V : ℕ) → st ≡ pos 0 → B ≡ 0 → W ≡ 0 → D ≡ 0 → V ≡ 0 → formula st M P x B W D V ≡ pos 0
idle_formula st M P x B W D V s b w d v =
    (λ i. formula (s i) M P x (b i) (w i) (d i) (v i)) ∙ (let e : pos 0 *ℤ (pos M -ℤ pos P) ≡ pos 0 = times_none (pos M -ℤ pos P) in omega (arith, lin))
  where
    times_none : (z : ℤ) → pos 0 *ℤ z ≡ pos 0
    times_none z = let e : pos 0 *ℤ z ≡ pos 0 *ℤ z +ℤ pos 0 *ℤ z = mul_right_add (pos 0) (pos 0) z in omega (arith, lin)

formula_same : {M M' P P' x x' B B' W W' D D' V V' : ℕ} (st : ℤ) → M ≡ M' → P ≡ P' → x ≡ x' → B ≡ B' → W ≡ W' → D ≡ D' → V ≡ V' → formula st M P x B W D V ≡ formula st M' P' x' B' W' D' V'
formula_same st m p x b w d v = λ i. formula st (m i) (p i) (x i) (b i) (w i) (d i) (v i)

-- The price of a settling, from the contract as it is told.
abbrev price_told : (Figures → ℕ) → ℕ → ℕ → ℕ → ℕ → Option ℕ → Option ℕ → Option ℕ → Option Listed → ℕ
price_told meaning day pr q v bi ki de o =
    cond (on_last_day day o) (unwrap_or de 0) (meaning (record { previous = pr; limits = limits_told day o pr; quantity = q; value = v; bid = bi; ask = ki }))

-- The number, the row and the place after a settling.
number_after : (day : ℕ) (o : Option Listed) → number_of (unless_last day o) ≡ cond (on_last_day day o) 0 (number_of o)
number_after day None = refl
number_after day (Some x) = go (eqb x.listing.last day)
  where
    go : (b : Bool) → number_of (cond b None (Some x)) ≡ cond b 0 x.listing.number
    go true = refl
    go false = refl

row_left : (day pr ra q v : ℕ) (bi ki de : Option ℕ) (o : Option Listed) (w : Row) → settled_row day (told_from pr ra q v bi ki de o) w ≡ cond (on_last_day day o) blank w
row_left day pr ra q v bi ki de None w = refl
row_left day pr ra q v bi ki de (Some x) w = refl

place_left : (day price pr ra q v : ℕ) (bi ki de : Option ℕ) (o : Option Listed) → opened_place (settled_place day price (told_from pr ra q v bi ki de o)) ≡ told_from price ra 0 0 None None None (unless_last day o)
place_left day price pr ra q v bi ki de None = refl
place_left day price pr ra q v bi ki de (Some x) = go (eqb x.listing.last day)
  where
    go : (b : Bool) → opened_place (cond b None (Some (record { number = x.listing.number; base = x.listing.base; previous = price; ratio = ra; fee = x.listing.fee; delivery = x.listing.delivery; term = record { listed = x.day; last = x.listing.last }; quantity = q; value = v; bid = bi; ask = ki; price = de })))
        ≡ told_from price ra 0 0 None None None (cond b None (Some x))
    go true = refl
    go false = refl

named_after : (day : ℕ) (o : Option Listed) (x : Listed) → unless_last day o ≡ Some x → o ≡ Some x
named_after day None x e = e
named_after day (Some y) x e = go (eqb y.listing.last day) e
  where
    go : (b : Bool) → cond b None (Some y) ≡ Some x → Some y ≡ Some x
    go true e = let z : ◌≡◌ {A = ℕ} 0 1 = cc in absurd (omega arith)
    go false e = e

-- Long less short is what the day began with and what it bought and sold.
carried : (st N U T : ℤ) (l n b d b' d' : ℕ) → st ≡ N → b ≡ b' → d ≡ d' → st +ℤ pos (b + n) ≡ pos (l + d) → U +ℤ pos d' ≡ pos b' → T ≡ U +ℤ N → pos l -ℤ pos n ≡ T
carried st N U T l n b d b' d' e i j k f g = omega (arith, lin)

settled_equity : (x : Account) (o : Outcome) (X T C : ℤ) (ci co f dc : ℕ) → equity x ≡ pos ci -ℤ pos co -ℤ pos f +ℤ T → o.result ≡ X → C ≡ T +ℤ X → o.fee ≡ dc
    → equity (settled_account x o) ≡ pos ci -ℤ pos co -ℤ pos (f + dc) +ℤ C
settled_equity x o X T C ci co f dc e i j k = omega (arith, lin)

pub changed_equity : (x : Account) (o : Outcome) → equity (settled_account x o) ≡ equity x +ℤ change_of o
changed_equity x o = omega (arith, lin)

less : (x c o : ℕ) → x + c ≡ o → x ≡ o - c
less x c o e = omega arith

module _ (start : ℕ) (s : State) (h : History) (m : Matches start s h) (rule : PriceRule) (margin : MarginRule) (closed : is_closed s.stage ≡ true) where
  abbrev ps : List ℕ
  ps = prices_of rule.meaning s

  abbrev after-state : State
  after-state = settled_by margin.holding s ps

  abbrev mark : ℕ → ℕ
  mark p = settlement_price rule h p * settlement_rate h

  awake : is_resting s.stage ≡ false
  awake = closed_awake s.stage closed

  abbrev old : ℕ → ℕ → Row
  old a p = row_at s.table (a - 1) (p - 1)

  rows_now : (a p : ℕ) → Among 32 a → Among 12 p → RowTold start h a p (old a p)
  rows_now a p i j = subst (RowTold start h a p) (row_awake start s h m awake a p) (m.rows a p i j)

  marks_now : (a p : ℕ) → Among 32 a → Among 12 p → MarkTold start h p (old a p)
  marks_now a p i j = subst (MarkTold start h p) (row_awake start s h m awake a p) (m.marked a p i j)

  place_now : (p : ℕ) → Among 12 p → place_at s (p - 1) ≡ told h p (standing h p)
  place_now p j = sym (place_awake start s h m awake p) ∙ m.places p j

  -- the price of a place where a contract stands
  priced : (p : ℕ) → Among 12 p → (x : Listed) → standing h p ≡ Some x → get_or ps (p - 1) 0 ≡ settlement_price rule h p
  priced p j x e =
      tabulated_at (λ q. price_at rule.meaning s.day (place_at s q)) 12 (p - 1) 0 (omega (arith, j.low, j.high))
      ∙ ap₂ (λ d o. price_at rule.meaning d o) m.today (place_now p j ∙ ap (told h p) e)
      ∙ sym (ap (price_told rule.meaning (day_number h) (previous_price h p) (day_quantity h p) (day_value h p) (bid h p) (ask h p) (delivery_price h p)) e)

  abbrev formula-at : ℕ → ℕ → ℤ
  formula-at a p = formula (old a p).net (mark p) (previous_price h p * trade_rate start h) (trade_rate start h)
      (buys amount a p (unsettled_trades start h)) (buys worth a p (unsettled_trades start h)) (sells amount a p (unsettled_trades start h)) (sells worth a p (unsettled_trades start h))

  result_at : (a p : ℕ) → Among 32 a → Among 12 p → (outcome_at margin.holding s ps (a - 1) (p - 1)).result ≡ formula-at a p
  result_at a p i j = ap (λ o. (row_outcome margin.holding s (get_or ps (p - 1) 0) o (old a p)).result) (place_now p j) ∙ go (standing h p) refl
    where
      w : RowTold start h a p (old a p)
      w = rows_now a p i j

      go : (o : Option Listed) → standing h p ≡ o → (row_outcome margin.holding s (get_or ps (p - 1) 0) (told h p o) (old a p)).result ≡ formula-at a p
      go None e =
          let n : number_at h p ≡ 0 = ap number_of e in
          sym (idle_formula (old a p).net (mark p) (previous_price h p * trade_rate start h) (trade_rate start h) _ _ _ _
          (w.net ∙ ap (λ k. net a p k (settled_trades start h)) n ∙ net_none a p 0 (settled_trades start h) (each_map (λ t f z. omega (arith, f.number)) m.past))
          (none_bought amount a p _ _ (number_at h) (unsettled_trades start h) m.fresh n) (none_bought worth a p _ _ (number_at h) (unsettled_trades start h) m.fresh n)
          (none_sold amount a p _ _ (number_at h) (unsettled_trades start h) m.fresh n) (none_sold worth a p _ _ (number_at h) (unsettled_trades start h) m.fresh n))
      go (Some x) e = formula_same (old a p).net (ap₂ ◌*◌ (priced p j x e) m.closing) (ap (λ r. previous_price h p * r) m.rate) m.rate w.bought w.cost w.sold w.proceeds

  -- the trades of settled days, after the settling and before
  counted : (a : ℕ) → Among 32 a → sum (gained (settles rule margin ∷ h) a) (unsettled_trades start h ++ settled_trades start h)
      ≡ sum (gained h a) (settled_trades start h) +ℤ (outcome_to margin.holding s ps (a - 1) 12).result
  counted a i =
      sum_append (gained (settles rule margin ∷ h) a) (unsettled_trades start h) (settled_trades start h)
      ∙ ap₂ (λ x y. x +ℤ y)
      (spread 12 (gained (settles rule margin ∷ h) a) (unsettled_trades start h) (each_map (λ t f. f.past.place) m.fresh))
      (spread 12 (gained (settles rule margin ∷ h) a) (settled_trades start h) (each_map (λ t f. f.place) m.past))
      ∙ sym (total_add 12 (λ p. sum (λ t. at (p + 1) t (gained (settles rule margin ∷ h) a t)) (unsettled_trades start h)) (λ p. sum (λ t. at (p + 1) t (gained (settles rule margin ∷ h) a t)) (settled_trades start h)))
      ∙ total_same 12 _ (λ p. sum (λ t. at (p + 1) t (gained h a t)) (settled_trades start h) +ℤ (outcome_at margin.holding s ps (a - 1) p).result) (λ p l. one p l)
      ∙ total_add 12 (λ p. sum (λ t. at (p + 1) t (gained h a t)) (settled_trades start h)) (λ p. (outcome_at margin.holding s ps (a - 1) p).result)
      ∙ ap (λ z. z +ℤ (outcome_to margin.holding s ps (a - 1) 12).result) (sym (spread 12 (gained h a) (settled_trades start h) (each_map (λ t f. f.place) m.past)))
    where
      one : (p : ℕ) → p < 12
          → sum (λ t. at (p + 1) t (gained (settles rule margin ∷ h) a t)) (unsettled_trades start h) +ℤ sum (λ t. at (p + 1) t (gained (settles rule margin ∷ h) a t)) (settled_trades start h)
          ≡ sum (λ t. at (p + 1) t (gained h a t)) (settled_trades start h) +ℤ (outcome_at margin.holding s ps (a - 1) p).result
      one p l =
          let j : Among 12 (p + 1) = record { low = omega arith; high = omega arith } in
          let back : p + 1 - 1 ≡ p = omega arith in
          placed _ _ _ _ (old a (p + 1)).net (mark (p + 1)) (last_mark h (p + 1) (number_at h (p + 1))) (previous_price h (p + 1) * trade_rate start h) (trade_rate start h) _ _ _ _
          (rows_now a (p + 1) i j).net (marks_now a (p + 1) i j)
          (past_place rule margin h a (p + 1) (settled_trades start h)) (fresh_place rule margin h a (p + 1) (trade_rate start h) s.highest (unsettled_trades start h) m.fresh)
          ∙ ap (λ z. sum (λ t. at (p + 1) t (gained h a t)) (settled_trades start h) +ℤ z) (sym (result_at a (p + 1) i j) ∙ ap (λ q. (outcome_at margin.holding s ps (a - 1) q).result) back)

  pub same_long : (a p : ℕ) → Among 32 a → Among 12 p → (old a p).long ≡ long start h a p
  same_long a p i j = less _ _ _ (rows_now a p i j).long

  pub same_short : (a p : ℕ) → Among 32 a → Among 12 p → (old a p).short ≡ short start h a p
  same_short a p i j = less _ _ _ (rows_now a p i j).short

  fee_at : (a p : ℕ) → Among 32 a → Among 12 p → (outcome_at margin.holding s ps (a - 1) (p - 1)).fee ≡ delivery_fee start h a p
  fee_at a p i j = ap (λ o. (row_outcome margin.holding s (get_or ps (p - 1) 0) o (old a p)).fee) (place_now p j) ∙ go (standing h p)
    where
      go : (o : Option Listed) → (row_outcome margin.holding s (get_or ps (p - 1) 0) (told h p o) (old a p)).fee
          ≡ share (on_last_day (day_number h) o) (fen_units * delivery_per_teu o * (long start h a p + short start h a p))
      go None = refl
      go (Some x) = λ t. cond (eqb x.listing.last (m.today t)) (fen_units * x.listing.delivery * (same_long a p i j t + same_short a p i j t)) 0

  pub fees_at : (a : ℕ) → Among 32 a → (outcome_to margin.holding s ps (a - 1) 12).fee ≡ sum_to (λ p. delivery_fee start h a (p + 1)) 12
  fees_at a i = sum_same 12 _ _ (λ p l. ap (λ q. (outcome_at margin.holding s ps (a - 1) q).fee) (omega arith) ∙ fee_at a (p + 1) i (record { low = omega arith; high = omega arith }))

  -- the row after the settling, as the next day will open it
  abbrev last-day : ℕ → Bool
  last-day p = on_last_day (day_number h) (standing h p)

  new_row : (a p : ℕ) → Among 32 a → Among 12 p → row_of after-state a p ≡ opened_row (cond (last-day p) blank (old a p))
  new_row a p i j =
      ap opened_row
      (tabulated_at (λ k. settled_row s.day (place_at s (k % 12)) (get_or s.table.rows k blank)) 384 ((a - 1) * 12 + (p - 1)) blank (omega (arith, i.low, i.high, j.low, j.high))
      ∙ ap (λ q. settled_row s.day (place_at s q) (old a p)) (omega (arith, j.low, j.high))
      ∙ ap₂ (λ d o. settled_row d o (old a p)) m.today (place_now p j)
      ∙ row_left (day_number h) _ _ _ _ _ _ _ (standing h p) (old a p))

  emptied : (f g : Deal → Bool) (p : ℕ) → 0 + teu g p 0 (all_trades start h) ≡ teu f p 0 (all_trades start h)
  emptied f g p = let o = teu_none f p 0 (all_trades start h) (never_zero start s h m) in let c = teu_none g p 0 (all_trades start h) (never_zero start s h m) in omega arith

  abbrev Row-after : ℕ → ℕ → ℕ → Row → Type 0
  Row-after a p n w = RowIs w
      (teu (opens_long a) p n (all_trades start h)) (teu (closes_long a) p n (all_trades start h))
      (teu (opens_short a) p n (all_trades start h)) (teu (closes_short a) p n (all_trades start h))
      (net a p n (all_trades start h)) 0 0 0 0

  settled_rows : (a p : ℕ) (i : Among 32 a) (j : Among 12 p) (b : Bool) → Row-after a p (cond b 0 (number_at h p)) (opened_row (cond b blank (old a p)))
  settled_rows a p i j true = record {
    long = emptied (opens_long a) (closes_long a) p;
    short = emptied (opens_short a) (closes_short a) p;
    bought = refl;
    sold = refl;
    cost = refl;
    proceeds = refl;
    path = refl;
    net = sym (net_none a p 0 (all_trades start h) (never_zero start s h m));
  }
  settled_rows a p i j false =
      let w = rows_now a p i j in
      let e = sum_append (λ t. of p (number_at h p) t (signed a t)) (unsettled_trades start h) (settled_trades start h) in
      let f = net_fresh a p s.highest (trade_rate start h) (number_at h) (unsettled_trades start h) m.fresh in
      record {
        long = w.long;
        short = w.short;
        bought = refl;
        sold = refl;
        cost = refl;
        proceeds = refl;
        path = omega (arith, lin);
        net = carried (old a p).net _ _ _ (old a p).long (old a p).short _ _ _ _ w.net w.bought w.sold w.path f e;
      }

  settled_marks : (a p : ℕ) (b : Bool) → (opened_row (cond b blank (old a p))).net *ℤ pos (cond (eqb (cond b 0 (number_at h p)) (number_at h p)) (mark p) (last_mark h p (cond b 0 (number_at h p))))
      ≡ (opened_row (cond b blank (old a p))).net *ℤ pos (mark p)
  settled_marks a p true = idle_times (cond (eqb 0 (number_at h p)) (mark p) (last_mark h p 0)) (mark p)
    where
      idle_times : (x y : ℕ) → pos 0 *ℤ pos x ≡ pos 0 *ℤ pos y
      idle_times x y = ap pos (omega arith)
  settled_marks a p false = ap (λ c. (opened_row (old a p)).net *ℤ pos (cond c (mark p) (last_mark h p (number_at h p)))) (eq-eqb (number_at h p) (number_at h p) refl)

  known_after : (b : Bool) (n : ℕ) → n ≤ s.highest → cond b 0 n ≤ s.highest
  known_after true n k = omega arith
  known_after false n k = k

  new_number : (p : ℕ) → number_of (unless_last (day_number h) (standing h p)) ≡ cond (last-day p) 0 (number_at h p)
  new_number p = number_after (day_number h) (standing h p)

  -- a place without a contract is told none at any price
  place_settled : (p : ℕ) → Among 12 p → place_of after-state p ≡ told_from (settlement_price rule h p) (ratio_told h p) 0 0 None None None (unless_last (day_number h) (standing h p))
  place_settled p j =
      ap opened_place
      (tabulated_at (λ q. settled_place s.day (get_or ps q 0) (place_at s q)) 12 (p - 1) None (omega (arith, j.low, j.high))
      ∙ ap₂ (λ d o. settled_place d (get_or ps (p - 1) 0) o) m.today (place_now p j))
      ∙ go (standing h p) refl
    where
      go : (o : Option Listed) → standing h p ≡ o → opened_place (settled_place (day_number h) (get_or ps (p - 1) 0) (told h p o)) ≡ told_from (settlement_price rule h p) (ratio_told h p) 0 0 None None None (unless_last (day_number h) o)
      go None e = refl
      go (Some x) e = ap (λ z. opened_place (settled_place (day_number h) z (told h p (Some x)))) (priced p j x e) ∙ place_left (day_number h) (settlement_price rule h p) (previous_price h p) (ratio_told h p) (day_quantity h p) (day_value h p) (bid h p) (ask h p) (delivery_price h p) (Some x)

  pub at_settles : Matches start after-state (settles rule margin ∷ h)
  at_settles = record {
    sized = record { accounts = tabulated_length _ 32; places = tabulated_length _ 12; rows = tabulated_length _ 384 };
    equity = λ a i.
        ap equity (tabulated_at (λ b. settled_account (account_at s b) (outcome_to margin.holding s ps b 12)) 32 (a - 1) no_account (omega (arith, i.low, i.high)))
        ∙ settled_equity (account_of s a) (outcome_to margin.holding s ps (a - 1) 12) _ (sum (gained h a) (settled_trades start h)) _ (cash_in h a) (cash_out h a) (fees start h a) _ (m.equity a i) refl (counted a i) (fees_at a i);
    rate = m.closing;
    closing = m.closing;
    today = m.today;
    rows = λ a p i j. subst (λ n. Row-after a p n (row_of after-state a p)) (sym (new_number p)) (subst (Row-after a p (cond (last-day p) 0 (number_at h p))) (sym (new_row a p i j)) (settled_rows a p i j (last-day p)));
    places = place_settled;
    clear = λ e p. record { quantity = refl; value = refl; bid = refl; ask = refl; price = refl };
    past = each_append (each_map (λ t f. f.past) m.fresh) m.past;
    fresh = none;
    known = λ p. subst (λ n. n ≤ s.highest) (sym (new_number p)) (known_after (last-day p) (number_at h p) (m.known p));
    named = λ p x e. m.named p x (named_after (day_number h) (standing h p) x e);
    marked = λ a p i j. subst (λ n. (row_of after-state a p).net *ℤ pos (cond (eqb n (number_at h p)) (mark p) (last_mark h p n)) ≡ (row_of after-state a p).net *ℤ pos (mark p)) (sym (new_number p))
        (subst (λ w. w.net *ℤ pos (cond (eqb (cond (last-day p) 0 (number_at h p)) (number_at h p)) (mark p) (last_mark h p (cond (last-day p) 0 (number_at h p)))) ≡ w.net *ℤ pos (mark p)) (sym (new_row a p i j)) (settled_marks a p (last-day p)));
  }

  -- an account with nothing open after the settling
  idle_row : (a p : ℕ) → Among 32 a → Among 12 p → (n : ℕ) → n ≡ cond (last-day p) 0 (number_at h p)
      → teu (opens_long a) p n (all_trades start h) - teu (closes_long a) p n (all_trades start h) ≡ 0
      → teu (opens_short a) p n (all_trades start h) - teu (closes_short a) p n (all_trades start h) ≡ 0
      → (outcome_at margin.holding s ps (a - 1) (p - 1)).margin ≡ 0
  idle_row a p i j n e u v = ap (λ o. (row_outcome margin.holding s (get_or ps (p - 1) 0) o (old a p)).margin) (place_now p j) ∙ go (standing h p) refl
    where
      both : (b : Bool) → last-day p ≡ b → (mg : ℕ) → ((old a p).long ≡ 0 → (old a p).short ≡ 0 → mg ≡ 0) → cond b 0 mg ≡ 0
      both true l mg f = refl
      both false l mg f =
          let k : n ≡ number_at h p = e ∙ ap (λ b. cond b 0 (number_at h p)) l in
          f (same_long a p i j ∙ subst (λ (x : ℕ). teu (opens_long a) p x (all_trades start h) - teu (closes_long a) p x (all_trades start h) ≡ 0) k u)
          (same_short a p i j ∙ subst (λ (x : ℕ). teu (opens_short a) p x (all_trades start h) - teu (closes_short a) p x (all_trades start h) ≡ 0) k v)

      go : (o : Option Listed) → standing h p ≡ o → (row_outcome margin.holding s (get_or ps (p - 1) 0) (told h p o) (old a p)).margin ≡ 0
      go None f = refl
      go (Some x) f =
          let mg = margin.holding (get_or ps (p - 1) 0 * s.closing) (old a p).long (old a p).short (ratio_told h p) in
          ap (λ d. cond (eqb x.listing.last d) 0 mg) m.today
          ∙ both (eqb x.listing.last (day_number h)) (ap (on_last_day (day_number h)) f) mg
          (λ l r. (margin.holds (get_or ps (p - 1) 0 * s.closing) (old a p).long (old a p).short (ratio_told h p)).empty (omega arith))

  pub idle : (a : ℕ) → Among 32 a
      → ((p : ℕ) → Among 12 p → (long start (settles rule margin ∷ h) a p ≡ 0) × (short start (settles rule margin ∷ h) a p ≡ 0))
      → (account_of after-state a).margin ≡ 0
  idle a i o =
      ap (λ x. x.margin) (tabulated_at (λ b. settled_account (account_at s b) (outcome_to margin.holding s ps b 12)) 32 (a - 1) no_account (omega (arith, i.low, i.high)))
      ∙ sum_same 12 _ (λ p. 0) (λ p l. let j : Among 12 (p + 1) = record { low = omega arith; high = omega arith } in let k = o (p + 1) j in
      ap (λ q. (outcome_at margin.holding s ps (a - 1) q).margin) (omega arith) ∙ idle_row a (p + 1) i j (number_of (unless_last (day_number h) (standing h (p + 1)))) (new_number (p + 1)) k.0 k.1)
      ∙ sum_zero 12
