-- A trade.
use Rattle.std.proofs.Common.{◌≡◌, ℕ, ◌+◌, ◌-◌, ◌*◌, ◌<◌, Bool, true, false, cond, not, ◌&&◌, eqb, ◌⊎◌, List, ◌∷◌, length, get_or, set, ℤ, pos, ◌+ℤ◌, ◌-ℤ◌, ◌*ℤ◌, Some, None, Ok, Option, sym, refl, ap, ◌∙◌, subst, ap₂, inl, inr, arith}
use Rattle.std.proofs.lemmas.List.{length-set, get_or-set_same, get_or-set_other}
use Rattle.std.proofs.lemmas.Bool.{false≢true, eq-eqb, ne_eqb, eqb-true, cases_eq, ltb-false, and_parts}
use Rattle.rules.specs.Units.{fen_units}
use Rattle.ledger.specs.declared.state.Account.{Account}
use Rattle.ledger.specs.declared.state.Bargain.{Bargain}
use Rattle.ledger.specs.declared.state.Contract.{Contract}
use Rattle.ledger.specs.declared.state.Deal.{Deal}
use Rattle.ledger.specs.declared.state.Effect.{Effect}
use Rattle.ledger.specs.declared.state.Effect.TheVariants.{Opens, Closes}
use Rattle.ledger.specs.declared.state.Part.{Part}
use Rattle.ledger.specs.declared.state.Part.TheVariants.{Buyer, Seller}
use Rattle.ledger.specs.declared.state.Row.{Row}
use Rattle.ledger.specs.declared.state.State.{State}
use Rattle.ledger.specs.declared.state.Table.{Table}
use Rattle.ledger.specs.Days.{opened_place}
use Rattle.ledger.specs.Places.{place_at, no_account, equity, is_resting}
use Rattle.ledger.specs.Rows.{blank, row_at, row_after, lacking, opened_row}
use Rattle.ledger.specs.Trade.{bargain, charged, charge_at, trade_row, traded_contract, traded_state, fee_of}
use Rattle.ledger.proofs.Exchanging.{struck, sides_passed}
use Rattle.ledger.proofs.Trading.{frame_passed}
use Rattle.tally.specs.Deeds.{MarginRule, Deed.trades}
use Rattle.tally.specs.Agreement.{fee_said}
use Rattle.tally.specs.Tally.{History, Listed, share, if_so, opening, standing, number_of, fee_per_teu, trade_fee, fees, cash_in, cash_out, trade_rate, settled_trades, unsettled_trades, all_trades, teu, opens_long, closes_long, opens_short, closes_short, sum, gained, last_mark, previous_price}
use Rattle.tally.proofs.Algebra.{lin}
use Rattle.tally.proofs.Days.{mapped, not_resting, row_awake, place_awake, place_written}
use Rattle.tally.proofs.Lists.{Each.more, Among, read_set, swapped, flat}
use Rattle.tally.proofs.Matches.{Matches, RowIs, RowTold, account_of, row_of, told, told_from, number_at, net, buys, sells, amount, worth}

-- An account charged, as it is read.
charge_read : (xs : List Account) (b a : ℕ) (e : Effect) (mg f : ℕ) → length xs ≡ 32 → Among 32 b → Among 32 a
    → get_or (charge_at xs (b - 1) e mg f) (a - 1) no_account ≡ cond (eqb a b) (charged (get_or xs (a - 1) no_account) e mg f) (get_or xs (a - 1) no_account)
charge_read xs b a e mg f n k i = read_set xs 32 b a _ no_account n k i ∙ swapped a b (λ c. charged (get_or xs (c - 1) no_account) e mg f) (get_or xs (a - 1) no_account)

charged_equity : (b : Bool) (x : Account) (e : Effect) (mg f : ℕ) → equity (cond b (charged x e mg f) x) ≡ equity x -ℤ pos (share b f)
charged_equity true x Opens mg f = omega (arith, lin)
charged_equity true x Closes mg f = omega (arith, lin)
charged_equity false x e mg f = omega (arith, lin)

traded_equity : (E E₁ E₂ T : ℤ) (x y ci co f : ℕ) → E ≡ pos ci -ℤ pos co -ℤ pos f +ℤ T → E₁ ≡ E -ℤ pos x → E₂ ≡ E₁ -ℤ pos y → E₂ ≡ pos ci -ℤ pos co -ℤ pos (f + (x + y)) +ℤ T
traded_equity E E₁ E₂ T x y ci co f e i j = omega (arith, lin)

paid_twice : (x y : Bool) (f : ℕ) (E E₁ E₂ : ℤ) → E₁ ≡ E -ℤ pos (share x f) → E₂ ≡ E₁ -ℤ pos (share y f) → E₂ ≡ E +ℤ ((pos 0 -ℤ if_so x (pos f)) -ℤ if_so y (pos f))
paid_twice true true f E E₁ E₂ e i = omega (arith, lin)
paid_twice true false f E E₁ E₂ e i = omega (arith, lin)
paid_twice false true f E E₁ E₂ e i = omega (arith, lin)
paid_twice false false f E E₁ E₂ e i = omega (arith, lin)

-- A row traded, as it is read.
read_at : {X : Type 0} (xs : List X) (i j : ℕ) (v d : X) → i < length xs → get_or (set xs i v) j d ≡ cond (eqb j i) v (get_or xs j d)
read_at xs i j v d h = go (cases_eq j i)
  where
    go : (j ≡ i) ⊎ (j ≡ i → ⊥) → get_or (set xs i v) j d ≡ cond (eqb j i) v (get_or xs j d)
    go (inl e) = ap (λ k. get_or (set xs i v) k d) e ∙ get_or-set_same xs i v d h ∙ ap (λ b. cond b v (get_or xs j d)) (sym (eq-eqb j i e))
    go (inr n) = get_or-set_other xs i j v d n ∙ ap (λ b. cond b v (get_or xs j d)) (sym (ne_eqb j i n))

row_read : (t : Table) (b q : ℕ) (part : Part) (e : Effect) (price n a p : ℕ) → length t.rows ≡ 384 → Among 32 b → Among 12 q → Among 32 a → Among 12 p
    → row_at (trade_row t (b - 1) (q - 1) part e price n) (a - 1) (p - 1)
    ≡ cond (eqb p q && eqb a b) (row_after (row_at t (a - 1) (p - 1)) part e price n) (row_at t (a - 1) (p - 1))
row_read t b q part e price n a p z k l i j =
    read_at t.rows ((b - 1) * 12 + (q - 1)) ((a - 1) * 12 + (p - 1)) _ blank (omega (arith, z, k.low, k.high, l.low, l.high))
    ∙ swapped ((a - 1) * 12 + (p - 1)) ((b - 1) * 12 + (q - 1)) (λ x. row_after (get_or t.rows x blank) part e price n) (row_at t (a - 1) (p - 1))
    ∙ ap (λ x. cond x (row_after (row_at t (a - 1) (p - 1)) part e price n) (row_at t (a - 1) (p - 1))) (flat a p b q j l i k)

-- One side of a trade: x tells its place and y its account.
buying : (x y : Bool) (e : Effect) (price q : ℕ) (w : Row) (lo lc so sc : ℕ) (N : ℤ) (B D V W : ℕ)
    → ((x && y) ≡ true → lacking w Buyer e q ≡ false) → RowIs w lo lc so sc N B D V W
    → RowIs (cond (x && y) (row_after w Buyer e price q) w) (lo + share (x && (y && opening e)) q) lc so (sc + share (x && (y && not (opening e))) q)
    N (B + share (x && y) q) D (V + share (x && y) (price * q)) W
buying false y e price q w lo lc so sc N B D V W f i = record
    { long = omega (arith, i.long); short = omega (arith, i.short); net = i.net; bought = omega (arith, i.bought); sold = i.sold; cost = omega (arith, i.cost); proceeds = i.proceeds; path = i.path }
buying true false e price q w lo lc so sc N B D V W f i = record
    { long = omega (arith, i.long); short = omega (arith, i.short); net = i.net; bought = omega (arith, i.bought); sold = i.sold; cost = omega (arith, i.cost); proceeds = i.proceeds; path = i.path }
buying true true Opens price q w lo lc so sc N B D V W f i = let k = i.path in record
    { long = omega (arith, i.long); short = omega (arith, i.short); net = i.net; bought = omega (arith, i.bought); sold = i.sold; cost = omega (arith, i.cost); proceeds = i.proceeds; path = omega (arith, lin) }
buying true true Closes price q w lo lc so sc N B D V W f i = let k = i.path in let u = ltb-false w.short q (f refl) in record
    { long = omega (arith, i.long); short = omega (arith, i.short); net = i.net; bought = omega (arith, i.bought); sold = i.sold; cost = omega (arith, i.cost); proceeds = i.proceeds; path = omega (arith, lin) }

selling : (x y : Bool) (e : Effect) (price q : ℕ) (w : Row) (lo lc so sc : ℕ) (N : ℤ) (B D V W : ℕ)
    → ((x && y) ≡ true → lacking w Seller e q ≡ false) → RowIs w lo lc so sc N B D V W
    → RowIs (cond (x && y) (row_after w Seller e price q) w) lo (lc + share (x && (y && not (opening e))) q) (so + share (x && (y && opening e)) q) sc
    N B (D + share (x && y) q) V (W + share (x && y) (price * q))
selling false y e price q w lo lc so sc N B D V W f i = record
    { long = omega (arith, i.long); short = omega (arith, i.short); net = i.net; bought = i.bought; sold = omega (arith, i.sold); cost = i.cost; proceeds = omega (arith, i.proceeds); path = i.path }
selling true false e price q w lo lc so sc N B D V W f i = record
    { long = omega (arith, i.long); short = omega (arith, i.short); net = i.net; bought = i.bought; sold = omega (arith, i.sold); cost = i.cost; proceeds = omega (arith, i.proceeds); path = i.path }
selling true true Opens price q w lo lc so sc N B D V W f i = let k = i.path in record
    { long = omega (arith, i.long); short = omega (arith, i.short); net = i.net; bought = i.bought; sold = omega (arith, i.sold); cost = i.cost; proceeds = omega (arith, i.proceeds); path = omega (arith, lin) }
selling true true Closes price q w lo lc so sc N B D V W f i = let k = i.path in let u = ltb-false w.long q (f refl) in record
    { long = omega (arith, i.long); short = omega (arith, i.short); net = i.net; bought = i.bought; sold = omega (arith, i.sold); cost = i.cost; proceeds = omega (arith, i.proceeds); path = omega (arith, lin) }

same_net : (b : Bool) (w : Row) (part : Part) (e : Effect) (price q : ℕ) → (cond b (row_after w part e price q) w).net ≡ w.net
same_net true w Buyer Opens price q = refl
same_net true w Buyer Closes price q = refl
same_net true w Seller Opens price q = refl
same_net true w Seller Closes price q = refl
same_net false w part e price q = refl

-- In a trade's place its contract is the one that stands.
same_contract : (number : ℕ → ℕ) (p q : ℕ) → (eqb p q && eqb (number q) (number p)) ≡ eqb p q
same_contract number p q = go (eqb p q) refl
  where
    go : (b : Bool) → eqb p q ≡ b → (b && eqb (number q) (number p)) ≡ b
    go true e = eq-eqb (number q) (number p) (ap number (sym (eqb-true p q e)))
    go false e = refl

traded_told : (price n pr ra q v : ℕ) (bi ki de : Option ℕ) (o : Option Listed) → mapped (λ c. traded_contract c price n) (told_from pr ra q v bi ki de o) ≡ told_from pr ra (q + n) (v + price * n) bi ki de o
traded_told price n pr ra q v bi ki de None = refl
traded_told price n pr ra q v bi ki de (Some x) = refl

traded_either : (t : Bool) (price n pr ra q v : ℕ) (bi ki de : Option ℕ) (o : Option Listed) (z : Option Contract) → z ≡ told_from pr ra q v bi ki de o
    → cond t (mapped (λ c. traded_contract c price n) z) z ≡ told_from pr ra (q + share t n) (v + share t (price * n)) bi ki de o
traded_either true price n pr ra q v bi ki de o z e = ap (mapped (λ c. traded_contract c price n)) e ∙ traded_told price n pr ra q v bi ki de o
traded_either false price n pr ra q v bi ki de o z e = e ∙ ap₂ (λ x y. told_from pr ra x y bi ki de o) (omega arith) (omega arith)

-- What is told of a place with a contract.
told_fee : (c : Contract) (pr ra q v : ℕ) (bi ki de : Option ℕ) (o : Option Listed) → Some c ≡ told_from pr ra q v bi ki de o → c.fee ≡ fee_per_teu o
told_fee c pr ra q v bi ki de None e = let z : ◌≡◌ {A = ℕ} 0 1 = cc in absurd (omega arith)
told_fee c pr ra q v bi ki de (Some x) e = cc

told_stands : (c : Contract) (pr ra q v : ℕ) (bi ki de : Option ℕ) (o : Option Listed) → Some c ≡ told_from pr ra q v bi ki de o → ((x : Listed) → o ≡ Some x → 0 < x.listing.number) → 0 < number_of o
told_stands c pr ra q v bi ki de None e f = let z : ◌≡◌ {A = ℕ} 0 1 = cc in absurd (omega arith)
told_stands c pr ra q v bi ki de (Some x) e f = f x refl

module _ (start : ℕ) (s : State) (h : History) (m : Matches start s h) (rule : MarginRule) (d : Deal) (b : Bargain)
    (buyer : Among 32 d.buyer) (seller : Among 32 d.seller) (place : Among 12 d.place) (apart : d.buyer ≡ d.seller → ⊥)
    (awake : is_resting s.stage ≡ false) (stands : place_at s (d.place - 1) ≡ Some b.contract)
    (buys-held : lacking (row_at s.table (d.buyer - 1) (d.place - 1)) Buyer d.bought d.quantity ≡ false)
    (sells-held : lacking (row_at s.table (d.seller - 1) (d.place - 1)) Seller d.sold d.quantity ≡ false) where
  here : Some b.contract ≡ told h d.place (standing h d.place)
  here = sym stands ∙ sym (place_awake start s h m awake d.place) ∙ m.places d.place place

  same_fee : fee_of b.contract d ≡ trade_fee h d
  same_fee = ap (λ (f : ℕ). fen_units * f * d.quantity) (told_fee b.contract _ _ _ _ _ _ _ (standing h d.place) here)

  bought_accounts : List Account
  bought_accounts = charge_at s.accounts (d.buyer - 1) d.bought b.margin (fee_of b.contract d)

  -- each side pays the fee, and no more
  charges : (a : ℕ) → Among 32 a → (equity (get_or bought_accounts (a - 1) no_account) ≡ equity (account_of s a) -ℤ pos (share (eqb a d.buyer) (fee_of b.contract d)))
      × (equity (account_of (traded_state s d b) a) ≡ equity (get_or bought_accounts (a - 1) no_account) -ℤ pos (share (eqb a d.seller) (fee_of b.contract d)))
  unfolding bought_accounts
  charges a i =
      let fee = fee_of b.contract d in (
        ap equity (charge_read s.accounts d.buyer a d.bought b.margin fee m.sized.accounts buyer i) ∙ charged_equity (eqb a d.buyer) (account_of s a) d.bought b.margin fee,
        ap equity (charge_read bought_accounts d.seller a d.sold b.margin fee (length-set _ _ _ ∙ m.sized.accounts) seller i) ∙ charged_equity (eqb a d.seller) (get_or bought_accounts (a - 1) no_account) d.sold b.margin fee,
      )

  equities : (a : ℕ) → Among 32 a → equity (account_of (traded_state s d b) a) ≡ pos (cash_in h a) -ℤ pos (cash_out h a) -ℤ pos (fees start h a + (share (eqb a d.buyer) (trade_fee h d) + share (eqb a d.seller) (trade_fee h d))) +ℤ sum (gained h a) (settled_trades start h)
  equities a i =
      let fee = fee_of b.contract d in
      let k = charges a i in
      traded_equity (equity (account_of s a)) _ _ (sum (gained h a) (settled_trades start h)) (share (eqb a d.buyer) fee) (share (eqb a d.seller) fee) (cash_in h a) (cash_out h a) (fees start h a) (m.equity a i) k.0 k.1
      ∙ ap (λ f. pos (cash_in h a) -ℤ pos (cash_out h a) -ℤ pos (fees start h a + (share (eqb a d.buyer) f + share (eqb a d.seller) f)) +ℤ sum (gained h a) (settled_trades start h)) same_fee

  moves : (a : ℕ) → Among 32 a → equity (account_of (traded_state s d b) a) ≡ equity (account_of s a) +ℤ fee_said (Ok (fee_of b.contract d)) d a
  moves a i = let k = charges a i in paid_twice (eqb a d.buyer) (eqb a d.seller) (fee_of b.contract d) _ _ _ k.0 k.1

  abbrev old : ℕ → ℕ → Row
  old a p = row_at s.table (a - 1) (p - 1)

  abbrev bought-row : ℕ → ℕ → Row
  bought-row a p = cond (eqb p d.place && eqb a d.buyer) (row_after (old a p) Buyer d.bought d.price d.quantity) (old a p)

  abbrev new_row : ℕ → ℕ → Row
  new_row a p = cond (eqb p d.place && eqb a d.seller) (row_after (bought-row a p) Seller d.sold d.price d.quantity) (bought-row a p)

  row_now : (a p : ℕ) → Among 32 a → Among 12 p → row_of (traded_state s d b) a p ≡ new_row a p
  row_now a p i j =
      ap (λ c. cond c (opened_row (row_at (traded_state s d b).table (a - 1) (p - 1))) (row_at (traded_state s d b).table (a - 1) (p - 1))) awake
      ∙ row_read (trade_row s.table (d.buyer - 1) (d.place - 1) Buyer d.bought d.price d.quantity) d.seller d.place Seller d.sold d.price d.quantity a p (length-set _ _ _ ∙ m.sized.rows) seller place i j
      ∙ ap (λ w. cond (eqb p d.place && eqb a d.seller) (row_after w Seller d.sold d.price d.quantity) w) (row_read s.table d.buyer d.place Buyer d.bought d.price d.quantity a p m.sized.rows buyer place i j)

  -- the seller's row is not the buyer's
  untouched : (a p : ℕ) → (eqb p d.place && eqb a d.seller) ≡ true → bought-row a p ≡ row_at s.table (d.seller - 1) (d.place - 1)
  untouched a p e =
      let k = and_parts (eqb p d.place) (eqb a d.seller) e in
      let q = eqb-true p d.place k.0 in
      let c = eqb-true a d.seller k.1 in
      ap (λ t. cond (eqb p d.place && t) (row_after (old a p) Buyer d.bought d.price d.quantity) (old a p)) (ne_eqb a d.buyer (λ z. apart (sym z ∙ c)))
      ∙ ap (λ t. cond (t && false) (row_after (old a p) Buyer d.bought d.price d.quantity) (old a p)) k.0
      ∙ ap₂ (λ x y. row_at s.table (x - 1) (y - 1)) c q

  held : (a p : ℕ) → (eqb p d.place && eqb a d.buyer) ≡ true → lacking (old a p) Buyer d.bought d.quantity ≡ false
  held a p e =
      let k = and_parts (eqb p d.place) (eqb a d.buyer) e in
      ap₂ (λ x y. lacking (row_at s.table (x - 1) (y - 1)) Buyer d.bought d.quantity) (eqb-true a d.buyer k.1) (eqb-true p d.place k.0) ∙ buys-held

  rows_told : (a p : ℕ) → Among 32 a → Among 12 p → RowTold start (trades rule d ∷ h) a p (new_row a p)
  rows_told a p i j =
      subst (λ c. RowIs (new_row a p)
      (teu (opens_long a) p (number_at h p) (all_trades start h) + share (c && (eqb a d.buyer && opening d.bought)) d.quantity)
      (teu (closes_long a) p (number_at h p) (all_trades start h) + share (c && (eqb a d.seller && not (opening d.sold))) d.quantity)
      (teu (opens_short a) p (number_at h p) (all_trades start h) + share (c && (eqb a d.seller && opening d.sold)) d.quantity)
      (teu (closes_short a) p (number_at h p) (all_trades start h) + share (c && (eqb a d.buyer && not (opening d.bought))) d.quantity)
      (net a p (number_at h p) (settled_trades start h))
      (buys amount a p (unsettled_trades start (trades rule d ∷ h))) (sells amount a p (unsettled_trades start (trades rule d ∷ h)))
      (buys worth a p (unsettled_trades start (trades rule d ∷ h))) (sells worth a p (unsettled_trades start (trades rule d ∷ h))))
      (sym (same_contract (number_at h) p d.place))
      (selling (eqb p d.place) (eqb a d.seller) d.sold d.price d.quantity (bought-row a p) _ _ _ _ _ _ _ _ _
      (λ e. ap (λ w. lacking w Seller d.sold d.quantity) (untouched a p e) ∙ sells-held)
      (buying (eqb p d.place) (eqb a d.buyer) d.bought d.price d.quantity (old a p) _ _ _ _ _ _ _ _ _
      (held a p) (subst (RowTold start h a p) (row_awake start s h m awake a p) (m.rows a p i j))))

  nets : (a p : ℕ) → (new_row a p).net ≡ (old a p).net
  nets a p = same_net (eqb p d.place && eqb a d.seller) (bought-row a p) Seller d.sold d.price d.quantity ∙ same_net (eqb p d.place && eqb a d.buyer) (old a p) Buyer d.bought d.price d.quantity

  traded_matches : Matches start (traded_state s d b) (trades rule d ∷ h)
  traded_matches = record {
    sized = record { accounts = length-set _ _ _ ∙ length-set _ _ _ ∙ m.sized.accounts; places = length-set _ _ _ ∙ m.sized.places; rows = length-set _ _ _ ∙ length-set _ _ _ ∙ m.sized.rows };
    equity = equities;
    rate = m.rate;
    closing = m.closing;
    today = m.today;
    rows = λ a p i j. subst (RowTold start (trades rule d ∷ h) a p) (sym (row_now a p i j)) (rows_told a p i j);
    places = λ p j.
        ap (λ c. cond c (opened_place (place_at (traded_state s d b) (p - 1))) (place_at (traded_state s d b) (p - 1))) awake
        ∙ place_written start s h m d.place b.contract (λ c. traded_contract c d.price d.quantity) place stands p j
        ∙ traded_either (eqb p d.place) d.price d.quantity _ _ _ _ _ _ _ (standing h p) (place_at s (p - 1)) (sym (place_awake start s h m awake p) ∙ m.places p j);
    clear = λ w p. absurd (false≢true (sym awake ∙ w));
    past = m.past;
    fresh = more (record { past = record { place = place; buyer = buyer; seller = seller; number = told_stands b.contract _ _ _ _ _ _ _ (standing h d.place) here (m.named d.place); known = m.known d.place }; stands = refl; rate = refl }) m.fresh;
    known = m.known;
    named = m.named;
    marked = λ a p i j. subst (λ z. z *ℤ pos (last_mark h p (number_at h p)) ≡ z *ℤ pos (previous_price h p * trade_rate start h))
        (ap (λ w. w.net) (row_awake start s h m awake a p) ∙ sym (nets a p) ∙ ap (λ w. w.net) (sym (row_now a p i j))) (m.marked a p i j);
  }

-- A trade that was struck.
pub record Made (start : ℕ) (s : State) (h : History) (rule : MarginRule) (d : Deal) (b : Bargain) : Type 0 where
  pub buyer : Among 32 d.buyer
  pub seller : Among 32 d.seller
  pub fee : fee_of b.contract d ≡ trade_fee h d
  pub moves : (a : ℕ) → Among 32 a → equity (account_of (traded_state s d b) a) ≡ equity (account_of s a) +ℤ fee_said (Ok (fee_of b.contract d)) d a
  pub matches : Matches start (traded_state s d b) (trades rule d ∷ h)

pub at_trades : (start : ℕ) (s : State) (h : History) → Matches start s h → (rule : MarginRule) (d : Deal) (room : Bool) (b : Bargain) → bargain rule.opening s d room ≡ Ok b → Made start s h rule d b
at_trades start s h m rule d room b e =
    let k = struck rule.opening s d room b e in
    let f = frame_passed s d b.contract k.frame k.place in
    let g = sides_passed s d b room k.sides in
    let i : Among 32 d.buyer = record { low = f.range.buyer; high = f.range.buyers } in
    let j : Among 32 d.seller = record { low = f.range.seller; high = f.range.sellers } in
    let l : Among 12 d.place = record { low = f.range.place; high = f.range.places } in
    let w = not_resting s.stage f.day in
    record {
      buyer = i;
      seller = j;
      fee = same_fee start s h m rule d b i j l f.apart w k.place g.buys.held g.sells.held;
      moves = moves start s h m rule d b i j l f.apart w k.place g.buys.held g.sells.held;
      matches = traded_matches start s h m rule d b i j l f.apart w k.place g.buys.held g.sells.held;
    }
