-- A trade keeps a ledger sound.
use Rattle.std.proofs.Common.{◌≡◌, ℕ, ◌+◌, ◌-◌, ◌*◌, ◌%◌, ◌<◌, ◌≤◌, Bool, true, false, eqb, ◌≢◌, List, length, get_or, ℤ, pos, ◌≤ℤ◌, Some, None, Ok, Err, Option, Result, sym, refl, ap, ◌∙◌, subst, inl, inr, mul-add, arith}
use lib.Signed.{lt_z}
use Rattle.std.proofs.lemmas.Nat.{mul-le}
use Rattle.std.proofs.lemmas.List.{length-set, get_or-set_other}
use Rattle.std.proofs.lemmas.Int.{ints}
use Rattle.std.proofs.lemmas.Bool.{or_parts, eqb-true, eq-eqb, cases_eq}
use Rattle.refusal.specs.declared.Refusal.{Refusal}
use Rattle.refusal.specs.Reasons.{first}
use Rattle.refusal.proofs.Passed.{passed}
use Rattle.rules.specs.Margin.{Fair}
use Rattle.rules.proofs.LimitLaws.{limits_capped}
use Rattle.rules.specs.MarginLaws.{fair_small}
use Rattle.ledger.specs.declared.state.Account.{Account}
use Rattle.ledger.specs.declared.state.Bargain.{Bargain}
use Rattle.ledger.specs.declared.state.Contract.{Contract}
use Rattle.ledger.specs.declared.state.Deal.{Deal}
use Rattle.ledger.specs.declared.state.Effect.{Effect}
use Rattle.ledger.specs.declared.state.Effect.TheVariants.{Opens, Closes}
use Rattle.ledger.specs.declared.state.Part.TheVariants.{Buyer, Seller}
use Rattle.ledger.specs.declared.state.Row.{Row}
use Rattle.ledger.specs.declared.state.Stage.{Stage}
use Rattle.ledger.specs.declared.state.Stage.TheVariants.{Resting, Open, Closed}
use Rattle.ledger.specs.declared.state.State.{State}
use Rattle.ledger.specs.declared.state.Table.{Table}
use Rattle.ledger.specs.Places.{account_at, place_at, no_account, is_open, is_resting, is_closed, limits_of}
use Rattle.ledger.specs.Rows.{Small, blank, row_at, lacking, overfilled, overtraded}
use Rattle.ledger.specs.Sound.{Sound, Ceilings, PathOf, Bounded, Counted, settled_days, taken, turnover, standing, terms_hold, day_holds, vacant_holds}
use Rattle.ledger.specs.Trade.{Tradable, Chargeable, frame_reasons, sides_reasons, buyer_row, seller_row, fee_of, poor, bargain, framed, sided, bargain_at, charged, charge_at, trade_row, traded_contract, traded_state}
use Rattle.ledger.proofs.Accounts.{each_account}
use Rattle.ledger.proofs.Contracts.{terms_of, Day, day_of, day_from, stands, at_set}
use Rattle.ledger.proofs.Opening.{apart}
use Rattle.ledger.proofs.Sides.{Passes, row_there, longs, shorts, boughts, buyer_sums, seller_sums, elsewhere, turned, side_keeps, side_long}
use Rattle.ledger.proofs.Tabulated.{sum_most}
use Rattle.ledger.proofs.Trading.{frame_passed, terms_at}

-- A bargain that was struck: both lists of reasons failed, and this is its contract and its margin.
pub record Struck (opening : ℕ → ℕ → ℕ → ℕ) (s : State) (d : Deal) (room : Bool) (b : Bargain) : Type 0 where
  pub frame : first (frame_reasons s d) ≡ None
  pub place : place_at s (d.place - 1) ≡ Some b.contract
  pub margin : b.margin ≡ opening (d.price * s.rate) d.quantity b.contract.ratio
  pub sides : first (sides_reasons s d b room) ≡ None

sides_none : (o : Option Refusal) (x b : Bargain) → sided o x ≡ Ok b → (o ≡ None) × (x ≡ b)
sides_none None x b h = (refl, let f : Result Bargain Refusal → Bargain = λ r. elim r [ Ok y ↦ y | Err w ↦ x ] in ap f h)
sides_none (Some w) x b h = let z : ◌≡◌ {A = ℕ} 0 1 = cc in absurd (omega arith)

strike : (opening : ℕ → ℕ → ℕ → ℕ) (s : State) (d : Deal) (room : Bool) (b : Bargain) (f : Option Refusal) (o : Option Contract) → first (frame_reasons s d) ≡ f → place_at s (d.place - 1) ≡ o → framed opening s d room f o ≡ Ok b → Struck opening s d room b
strike opening s d room b (Some w) o hf ho h = let z : ◌≡◌ {A = ℕ} 0 1 = cc in absurd (omega arith)
strike opening s d room b None None hf ho h = let z : ◌≡◌ {A = ℕ} 0 1 = cc in absurd (omega arith)
strike opening s d room b None (Some c) hf ho h =
    let k = sides_none (first (sides_reasons s d (bargain_at opening s d c) room)) (bargain_at opening s d c) b h in
    record {
      frame = hf;
      place = ho ∙ ap (λ (x : Bargain). Some x.contract) k.1;
      margin = subst (λ (x : Bargain). x.margin ≡ opening (d.price * s.rate) d.quantity x.contract.ratio) k.1 refl;
      sides = subst (λ (x : Bargain). first (sides_reasons s d x room) ≡ None) k.1 k.0;
    }

pub struck : (opening : ℕ → ℕ → ℕ → ℕ) (s : State) (d : Deal) (room : Bool) (b : Bargain) → bargain opening s d room ≡ Ok b → Struck opening s d room b
struck opening s d room b h = strike opening s d room b (first (frame_reasons s d)) (place_at s (d.place - 1)) refl refl h

-- Both sides passed.
pub record Sided (s : State) (d : Deal) (b : Bargain) : Type 0 where
  pub buys : Passes (buyer_row s d) Buyer d.bought d.quantity
  pub sells : Passes (seller_row s d) Seller d.sold d.quantity
  pub payer : poor (account_at s (d.buyer - 1)) d.bought (b.margin + fee_of b.contract d) ≡ false
  pub other : poor (account_at s (d.seller - 1)) d.sold (b.margin + fee_of b.contract d) ≡ false

pub sides_passed : (s : State) (d : Deal) (b : Bargain) (room : Bool) → first (sides_reasons s d b room) ≡ None → Sided s d b
sides_passed s d b room h =
    let ok = passed (sides_reasons s d b room) h in
    let q = d.quantity in
    let held = or_parts (lacking (buyer_row s d) Buyer d.bought q) (lacking (seller_row s d) Seller d.sold q) ok.0 in
    let side = or_parts (overfilled (buyer_row s d) Buyer d.bought q) (overfilled (seller_row s d) Seller d.sold q) ok.1.0 in
    let day = or_parts (overtraded (buyer_row s d) q) (overtraded (seller_row s d) q) ok.1.1.0 in
    let funds = or_parts (poor (account_at s (d.buyer - 1)) d.bought (b.margin + fee_of b.contract d)) (poor (account_at s (d.seller - 1)) d.sold (b.margin + fee_of b.contract d)) ok.1.1.1.0 in
    record {
      buys = record { held = held.0; side = side.0; day = day.0 };
      sells = record { held = held.1; side = side.1; day = day.1 };
      payer = funds.0;
      other = funds.1;
    }

not_below : (a b : ℤ) → lt_z a b ≡ false → b ≤ℤ a
not_below a b h = grind (arith, ints)

bounded_more : (days t u : ℕ) (x : Account) → t ≤ u → Bounded days t x → Bounded days u x
bounded_more days t u x le b =
    let b0 = b.0 in let b1 = b.1 in let b2 = b.2 in let b3 = b.3 in
    (omega (arith, ints), omega (arith, ints), omega (arith, ints), omega arith)

charged_bounds : (days t u : ℕ) (x : Account) (effect : Effect) (margin fee : ℕ) → t + fee ≤ u → poor x effect (margin + fee) ≡ false → Bounded days t x → Bounded days u (charged x effect margin fee)
charged_bounds days t u x Opens margin fee le rich b =
    let b0 = b.0 in let b1 = b.1 in let b3 = b.3 in let left = not_below x.available (pos (margin + fee)) rich in
    (omega (arith, ints), omega (arith, ints), omega (arith, ints), omega (arith, ints))
charged_bounds days t u x Closes margin fee le rich b =
    let b0 = b.0 in let b1 = b.1 in let b2 = b.2 in let b3 = b.3 in
    (omega (arith, ints), omega (arith, ints), omega (arith, ints), omega arith)

charged_counts : (x : Account) (effect : Effect) (margin fee : ℕ) → Counted x → Counted (charged x effect margin fee)
charged_counts x Opens margin fee c = c
charged_counts x Closes margin fee c = c

-- What holds of every account after the two charges.
charged_twice : (P Q : Account → Type 0) (xs : List Account) (b d : ℕ) (e f : Effect) (margin fee : ℕ) → length xs ≡ 32 → b < 32 → d < 32 → d ≢ b
    → ((a : ℕ) → a < 32 → P (get_or xs a no_account)) → ((x : Account) → P x → Q x) → Q (charged (get_or xs b no_account) e margin fee) → Q (charged (get_or xs d no_account) f margin fee)
    → (a : ℕ) → a < 32 → Q (get_or (charge_at (charge_at xs b e margin fee) d f margin fee) a no_account)
charged_twice P Q xs b d e f margin fee long bl dl ne old weak one two =
    let ys = charge_at xs b e margin fee in
    let here : get_or ys d no_account ≡ get_or xs d no_account = get_or-set_other xs b d _ no_account ne in
    each_account Q ys d (charged (get_or ys d no_account) f margin fee) (length-set xs b _ ∙ long) dl
    (subst (λ (x : Account). Q (charged x f margin fee)) (sym here) two)
    (each_account Q xs b (charged (get_or xs b no_account) e margin fee) long bl one (λ a al. weak _ (old a al)))

open_stage : (g : Stage) → is_open g ≡ true → g ≡ Open
open_stage Open h = refl
open_stage Resting h = absurd (apart (sym h))
open_stage Closed h = absurd (apart (sym h))

traded_day : (day : ℕ) (c : Contract) (price q : ℕ) → (limits_of day c).lower ≤ price → price ≤ (limits_of day c).upper → Day day c → Day day (traded_contract c price q)
traded_day day c price q low high d =
    let l = limits_of day c in
    let a = mul-le l.lower q price q low (omega arith) in
    let b = mul-le price q l.upper q high (omega arith) in
    let e = mul-add l.lower c.quantity q in
    let f = mul-add l.upper c.quantity q in
    record { least = omega (arith, d.least); most = omega (arith, d.most); bid = d.bid; ask = d.ask; price = d.price }

-- A contract's day's quantity and value have ceilings, since every row has.
pub day_small : (s : State) (p : ℕ) (c : Contract) → p < 12 → Sound s → is_resting s.stage ≡ false → place_at s p ≡ Some c → (c.quantity ≤ 3200000) × (c.value ≤ 31996800000)
day_small s p c lt sound busy is =
    let fits = stands s p c lt sound is in
    let d = day_of s.day c (fits.day busy) in
    let all = eqb-true _ _ fits.traded in
    let most = sum_most (λ a. (row_at s.table a p).bought) 100000 32 (λ a al. let r = sound.rows (a * 12 + p) (omega arith) in omega (arith, r.2)) in
    let cap = limits_capped s.day c.term c.base c.previous in
    let few : c.quantity ≤ 3200000 = omega (arith, all, most) in
    let dear = mul-le (limits_of s.day c).upper c.quantity 9999 3200000 cap few in
    (few, omega (arith, d.most, dear))

pub fee_small : (s : State) (d : Deal) (c : Contract) → c.fee ≤ 10000 → fee_of c d ≤ 1000000 * d.quantity
fee_small s d c low = mul-le (100 * c.fee) d.quantity 1000000 d.quantity (omega arith) (omega arith)

pub small : (r : Row) → Ceilings r → PathOf r → Small r
small r c p = record { long = c.0; short = c.1; total = c.2; cost = c.3; proceeds = c.4; low = p.0; high = p.1; path = p.2 }

pub turnover_small : (s : State) → Sound s → turnover s.table ≤ 38400000
turnover_small s sound = sum_most _ 100000 384 (λ k kl. let r = sound.rows k kl in omega (arith, r.2))

pub days_small : (s : State) → Sound s → settled_days s ≤ 3000
days_small s sound = stage_days s.stage s.day sound.ranges.0
  where
    stage_days : (g : Stage) (n : ℕ) → n ≤ 3000 → elim g [ Resting ↦ n | Open ↦ n - 1 | Closed ↦ n - 1 ] ≤ 3000
    stage_days Resting n h = h
    stage_days Open n h = omega arith
    stage_days Closed n h = omega arith

pub taken_small : (s : State) → Sound s → taken s ≤ 38400000000000
taken_small s sound = let t = turnover_small s sound in stage_taken s.stage (turnover s.table) t
  where
    stage_taken : (g : Stage) (n : ℕ) → n ≤ 38400000 → elim g [ Resting ↦ 0 | Open ↦ 1000000 * n | Closed ↦ 1000000 * n ] ≤ 38400000000000
    stage_taken Resting n h = omega arith
    stage_taken Open n h = omega arith
    stage_taken Closed n h = omega arith

-- Every account of a ledger has room for a charge and for a settling.
pub chargeable : (s : State) (a : ℕ) → a < 32 → Sound s → Chargeable (account_at s a)
chargeable s a al sound =
    let b = sound.accounts a al in
    let b2 = b.2 in let b3 = b.3 in
    let p = (sound.counts a al).0 in
    let n = days_small s sound in
    let t = taken_small s sound in
    (omega arith, omega (arith, ints))

pub tradable : (opening : ℕ → ℕ → ℕ → ℕ) (s : State) (d : Deal) (room : Bool) (b : Bargain) → ((v q r : ℕ) → Fair v q r (opening v q r)) → Sound s → Struck opening s d room b → Tradable s d b
tradable opening s d room b law sound k =
    let f = frame_passed s d b.contract k.frame k.place in
    let r = f.range in
    let r0 = r.place in let r1 = r.places in let r2 = r.buyer in let r3 = r.buyers in let r4 = r.seller in let r5 = r.sellers in
    let sides = sides_passed s d b room k.sides in
    let p = d.place - 1 in
    let bl : d.buyer - 1 < 32 = omega arith in
    let dl : d.seller - 1 < 32 = omega arith in
    let pl : p < 12 = omega arith in
    let bk : (d.buyer - 1) * 12 + p < 384 = omega arith in
    let dk : (d.seller - 1) * 12 + p < 384 = omega arith in
    let busy : is_resting s.stage ≡ false = ap is_resting (open_stage s.stage f.day) in
    let day = day_small s p b.contract pl sound busy k.place in
    let t = terms_at s p b.contract pl sound k.place in
    let fair = fair_small (law (d.price * s.rate) d.quantity b.contract.ratio) in
    record {
      range = r;
      apart = f.apart;
      buying = small _ (sound.rows _ bk) (sound.paths _ bk);
      selling = small _ (sound.rows _ dk) (sound.paths _ dk);
      bought = sides.buys.held;
      sold = sides.sells.held;
      margin = omega (arith, fair, k.margin);
      fee = t.fee;
      quantity = day.0;
      value = day.1;
      payer = chargeable s (d.buyer - 1) bl sound;
      other = chargeable s (d.seller - 1) dl sound;
      fees = omega (arith, sound.fees.0, days_small s sound, taken_small s sound);
    }

pub exchange_keeps : (opening : ℕ → ℕ → ℕ → ℕ) (s : State) (d : Deal) (room : Bool) (b : Bargain) → length s.accounts ≡ 32 → length s.places ≡ 12 → length s.table.rows ≡ 384 → Sound s → Struck opening s d room b → Sound (traded_state s d b)
exchange_keeps opening s d room b la lp lr sound k =
    let c = b.contract in
    let q = d.quantity in
    let f = frame_passed s d c k.frame k.place in
    let r = f.range in
    let r0 = r.place in let r1 = r.places in let r2 = r.buyer in let r3 = r.buyers in let r4 = r.seller in let r5 = r.sellers in
    let sides = sides_passed s d b room k.sides in
    let i = d.buyer - 1 in
    let j = d.seller - 1 in
    let p = d.place - 1 in
    let il : i < 32 = omega arith in
    let jl : j < 32 = omega arith in
    let pl : p < 12 = omega arith in
    let ne : j ≢ i = (λ e. f.apart (omega arith)) in
    let opened = open_stage s.stage f.day in
    let busy : is_resting s.stage ≡ false = ap is_resting opened in
    let days : settled_days s ≡ s.day - 1 = ap (λ (g : Stage). elim g [ Resting ↦ s.day | Open ↦ s.day - 1 | Closed ↦ s.day - 1 ]) opened in
    let took : (t : Table) → elim s.stage [ Resting ↦ 0 | Open ↦ 1000000 * turnover t | Closed ↦ 1000000 * turnover t ] ≡ 1000000 * turnover t = λ t. ap (λ (g : Stage). elim g [ Resting ↦ 0 | Open ↦ 1000000 * turnover t | Closed ↦ 1000000 * turnover t ]) opened in
    let fits = stands s p c pl sound k.place in
    let t = terms_of (settled_days s) c fits.terms in
    let fee = fee_of c d in
    let cheap = fee_small s d c t.fee in
    let tb = s.table in
    let one = trade_row tb i p Buyer d.bought d.price q in
    let two = trade_row one j p Seller d.sold d.price q in
    let lo : length one.rows ≡ 384 = side_long tb i p _ lr in
    let same : row_at one j p ≡ row_at tb j p = row_there tb i p (j * 12 + p) _ (λ e. ne (omega arith)) in
    let sells = subst (λ (x : Row). Passes x Seller d.sold q) (sym same) sides.sells in
    let first-side = side_keeps tb i p Buyer d.bought d.price q lr il pl r.price sides.buys sound.rows sound.paths in
    let both = side_keeps one j p Seller d.sold d.price q lo jl pl r.price sells first-side.0 first-side.1 in
    let turn : turnover two ≡ turnover tb + 2 * q = (let x = turned tb i p Buyer d.bought d.price q lr il pl in let y = turned one j p Seller d.sold d.price q lo jl pl in omega arith) in
    let buy = buyer_sums tb i p d.bought d.price q lr il pl sides.buys.held in
    let sell = seller_sums one j p d.sold d.price q lo jl pl sells.held in
    let s' = traded_state s d b in
    let now-taken : taken s' ≡ 1000000 * turnover two = took two in
    let was-taken : taken s ≡ 1000000 * turnover tb = took tb in
    record {
      ranges = sound.ranges;
      fees = (omega (arith, sound.fees.0, now-taken, was-taken, turn, cheap), sound.fees.1, sound.fees.2);
      rows = both.0;
      paths = both.1;
      terms = λ o ol. at_set (λ x. standing (terms_hold (settled_days s)) x ≡ true) s.places p _ o lp pl (λ _. fits.terms) (λ _. sound.terms o ol);
      days = λ w o ol. at_set (λ x. standing (day_holds s.day) x ≡ true) s.places p _ o lp pl
          (λ _. day_from s.day (traded_contract c d.price q) (traded_day s.day c d.price q f.low f.high (day_of s.day c (fits.day busy)))) (λ _. sound.days w o ol);
      deliveries = λ w o ol. absurd (apart (sym w ∙ ap is_closed opened));
      balance = λ o ol. elim (cases_eq o p) [
        | inl e ↦ subst (λ (n : ℕ). longs two n ≡ shorts two n) (sym e) (let z = sound.balance p pl in omega (arith, z, buy.0, sell.0))
        | inr e ↦ elsewhere (λ x. x.long) one j p o _ pl ol e ∙ elsewhere (λ x. x.long) tb i p o _ pl ol e ∙ sound.balance o ol
            ∙ sym (elsewhere (λ x. x.short) one j p o _ pl ol e ∙ elsewhere (λ x. x.short) tb i p o _ pl ol e)
      ];
      traded = λ o ol. at_set (λ x. standing (λ y. eqb y.quantity (boughts two o)) x ≡ true) s.places p _ o lp pl
          (λ e. subst (λ (n : ℕ). eqb (c.quantity + q) (boughts two n) ≡ true) (sym e) (let z = eqb-true _ _ fits.traded in eq-eqb _ _ (omega (arith, z, buy.1, sell.1))))
          (λ e. subst (λ (n : ℕ). standing (λ y. eqb y.quantity n) (place_at s o) ≡ true) (sym (elsewhere (λ x. x.bought) one j p o _ pl ol e ∙ elsewhere (λ x. x.bought) tb i p o _ pl ol e)) (sound.traded o ol));
      vacant = λ n nl. at_set (λ x. vacant_holds x (get_or two.rows n blank) ≡ true) s.places p _ (n % 12) lp pl (λ _. refl)
          (λ e. subst (λ (x : Row). vacant_holds (place_at s (n % 12)) x ≡ true)
          (sym (row_there one j p n _ (λ z. e (omega arith)) ∙ row_there tb i p n _ (λ z. e (omega arith)))) (sound.vacant n nl));
      accounts = charged_twice (Bounded (settled_days s) (taken s)) (Bounded (settled_days s) (taken s')) s.accounts i j d.bought d.sold b.margin fee la il jl ne
          sound.accounts (λ x. bounded_more (settled_days s) (taken s) (taken s') x (omega (arith, now-taken, was-taken, turn)))
          (charged_bounds (settled_days s) (taken s) (taken s') (account_at s i) d.bought b.margin fee (omega (arith, now-taken, was-taken, turn, cheap)) sides.payer (sound.accounts i il))
          (charged_bounds (settled_days s) (taken s) (taken s') (account_at s j) d.sold b.margin fee (omega (arith, now-taken, was-taken, turn, cheap)) sides.other (sound.accounts j jl));
      counts = charged_twice Counted Counted s.accounts i j d.bought d.sold b.margin fee la il jl ne
          sound.counts (λ x h. h) (charged_counts (account_at s i) d.bought b.margin fee (sound.counts i il)) (charged_counts (account_at s j) d.sold b.margin fee (sound.counts j jl));
    }
