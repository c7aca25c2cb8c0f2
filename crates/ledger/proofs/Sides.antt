-- One side of a trade: what it does to its row, to the sums of its place and to the turnover.
use Rattle.std.proofs.Common.{◌≡◌, ℕ, ◌+◌, ◌*◌, ◌<◌, ◌≤◌, false, ◌≢◌, length, get_or, sym, refl, ap, ◌∙◌, subst, inl, inr, arith}
use Rattle.std.proofs.lemmas.Nat.{mul-le}
use Rattle.std.proofs.lemmas.List.{length-set, get_or-set_same, get_or-set_other}
use Rattle.std.proofs.lemmas.Int.{ints}
use Rattle.std.proofs.lemmas.Bool.{ltb-false, cases_eq}
use Rattle.rules.specs.Units.{max_side, max_day}
use Rattle.ledger.specs.declared.state.Effect.{Effect}
use Rattle.ledger.specs.declared.state.Effect.TheVariants.{Opens, Closes}
use Rattle.ledger.specs.declared.state.Part.{Part}
use Rattle.ledger.specs.declared.state.Part.TheVariants.{Buyer, Seller}
use Rattle.ledger.specs.declared.state.Row.{Row}
use Rattle.ledger.specs.declared.state.Table.{Table}
use Rattle.ledger.specs.Rows.{blank, row_at, set_row, row_after, lacking, overfilled, overtraded, day_total}
use Rattle.ledger.specs.Sound.{Ceilings, PathOf, turnover}
use Rattle.ledger.specs.Sums.{sum_to}
use Rattle.ledger.specs.Trade.{trade_row}
use Rattle.ledger.proofs.Tabulated.{sum_same, sum_raised}

-- One side that passed its checks.
pub record Passes (r : Row) (part : Part) (effect : Effect) (q : ℕ) : Type 0 where
  pub held : lacking r part effect q ≡ false
  pub side : overfilled r part effect q ≡ false
  pub day : overtraded r q ≡ false

after_ceilings : (r : Row) (part : Part) (effect : Effect) (price q : ℕ) → price ≤ 9999 → Ceilings r → Passes r part effect q → Ceilings (row_after r part effect price q)
after_ceilings r Buyer Opens price q low c ok =
    let a = ltb-false max_side (r.long + q) ok.side in let b = ltb-false max_day (day_total r + q) ok.day in let m = mul-le price q 9999 q low (omega arith) in
    let c1 = c.1 in let c3 = c.3 in let c4 = c.4 in (omega arith, omega arith, omega arith, omega arith, omega arith)
after_ceilings r Buyer Closes price q low c ok =
    let b = ltb-false max_day (day_total r + q) ok.day in let m = mul-le price q 9999 q low (omega arith) in
    let c0 = c.0 in let c1 = c.1 in let c3 = c.3 in let c4 = c.4 in (omega arith, omega arith, omega arith, omega arith, omega arith)
after_ceilings r Seller Opens price q low c ok =
    let a = ltb-false max_side (r.short + q) ok.side in let b = ltb-false max_day (day_total r + q) ok.day in let m = mul-le price q 9999 q low (omega arith) in
    let c0 = c.0 in let c3 = c.3 in let c4 = c.4 in (omega arith, omega arith, omega arith, omega arith, omega arith)
after_ceilings r Seller Closes price q low c ok =
    let b = ltb-false max_day (day_total r + q) ok.day in let m = mul-le price q 9999 q low (omega arith) in
    let c0 = c.0 in let c1 = c.1 in let c3 = c.3 in let c4 = c.4 in (omega arith, omega arith, omega arith, omega arith, omega arith)

after_path : (r : Row) (part : Part) (effect : Effect) (price q : ℕ) → PathOf r → Passes r part effect q → PathOf (row_after r part effect price q)
after_path r Buyer Opens price q p ok = let z = p.2 in (p.0, p.1, omega (arith, ints))
after_path r Buyer Closes price q p ok = let z = p.2 in let h = ltb-false r.short q ok.held in (p.0, p.1, omega (arith, ints))
after_path r Seller Opens price q p ok = let z = p.2 in (p.0, p.1, omega (arith, ints))
after_path r Seller Closes price q p ok = let z = p.2 in let h = ltb-false r.long q ok.held in (p.0, p.1, omega (arith, ints))

after_total : (r : Row) (part : Part) (effect : Effect) (price q : ℕ) → day_total (row_after r part effect price q) ≡ day_total r + q
after_total r Buyer Opens price q = omega arith
after_total r Buyer Closes price q = omega arith
after_total r Seller Opens price q = omega arith
after_total r Seller Closes price q = omega arith

-- The row of the side, and every other row.
pub row_here : (t : Table) (a p : ℕ) (r : Row) → length t.rows ≡ 384 → a < 32 → p < 12 → row_at (set_row t a p r) a p ≡ r
row_here t a p r long al pl = get_or-set_same t.rows (a * 12 + p) r blank (omega arith)

pub row_there : (t : Table) (a p k : ℕ) (r : Row) → k ≢ a * 12 + p → get_or (set_row t a p r).rows k blank ≡ get_or t.rows k blank
row_there t a p k r ne = get_or-set_other t.rows (a * 12 + p) k r blank ne

-- What holds of every row of a table holds after one side's.
pub rows_keep : (P : Row → Type 0) (t : Table) (a p : ℕ) (r : Row) → length t.rows ≡ 384 → a < 32 → p < 12 → P r → ((k : ℕ) → k < 384 → P (get_or t.rows k blank)) → (k : ℕ) → k < 384 → P (get_or (set_row t a p r).rows k blank)
rows_keep P t a p r long al pl new old k kl =
    elim (cases_eq k (a * 12 + p)) [
      | inl same ↦ subst (λ (i : ℕ). P (get_or (set_row t a p r).rows i blank)) (sym same) (subst P (sym (row_here t a p r long al pl)) new)
      | inr ne ↦ subst P (sym (row_there t a p k r ne)) (old k kl)
    ]

-- The sums of a place after one side: long and short move apart by the quantity, and the quantity bought rises.
abbrev pub longs : Table → ℕ → ℕ
longs t p = sum_to (λ a. (row_at t a p).long) 32

abbrev pub shorts : Table → ℕ → ℕ
shorts t p = sum_to (λ a. (row_at t a p).short) 32

abbrev pub boughts : Table → ℕ → ℕ
boughts t p = sum_to (λ a. (row_at t a p).bought) 32

-- A figure of one account's row in a place, after another account's was changed.
figure_there : (f : Row → ℕ) (t : Table) (a p b : ℕ) (r : Row) → p < 12 → b ≢ a → f (row_at (set_row t a p r) b p) ≡ f (row_at t b p)
figure_there f t a p b r pl ne = ap f (row_there t a p (b * 12 + p) r (λ e. ne (omega arith)))

raised : (f : Row → ℕ) (t : Table) (a p : ℕ) (r : Row) (d : ℕ) → length t.rows ≡ 384 → a < 32 → p < 12 → f r ≡ f (row_at t a p) + d → sum_to (λ b. f (row_at (set_row t a p r) b p)) 32 ≡ sum_to (λ b. f (row_at t b p)) 32 + d
raised f t a p r d long al pl e =
    sum_raised (λ b. f (row_at t b p)) (λ b. f (row_at (set_row t a p r) b p)) 32 a d al (ap f (row_here t a p r long al pl) ∙ e) (λ b bl ne. figure_there f t a p b r pl ne)

lowered : (f : Row → ℕ) (t : Table) (a p : ℕ) (r : Row) (d : ℕ) → length t.rows ≡ 384 → a < 32 → p < 12 → f (row_at t a p) ≡ f r + d → sum_to (λ b. f (row_at t b p)) 32 ≡ sum_to (λ b. f (row_at (set_row t a p r) b p)) 32 + d
lowered f t a p r d long al pl e =
    sum_raised (λ b. f (row_at (set_row t a p r) b p)) (λ b. f (row_at t b p)) 32 a d al (e ∙ ap (λ n. n + d) (sym (ap f (row_here t a p r long al pl)))) (λ b bl ne. sym (figure_there f t a p b r pl ne))

kept : (f : Row → ℕ) (t : Table) (a p : ℕ) (r : Row) → length t.rows ≡ 384 → a < 32 → p < 12 → f r ≡ f (row_at t a p) → sum_to (λ b. f (row_at (set_row t a p r) b p)) 32 ≡ sum_to (λ b. f (row_at t b p)) 32
kept f t a p r long al pl e = let s = raised f t a p r 0 long al pl (omega arith) in omega arith

pub buyer_sums : (t : Table) (a p : ℕ) (effect : Effect) (price q : ℕ) → length t.rows ≡ 384 → a < 32 → p < 12 → lacking (row_at t a p) Buyer effect q ≡ false → let u = trade_row t a p Buyer effect price q in (longs u p + shorts t p ≡ longs t p + shorts u p + q) × (boughts u p ≡ boughts t p + q)
buyer_sums t a p Opens price q long al pl h =
    let r = row_after (row_at t a p) Buyer Opens price q in
    let l = raised (λ x. x.long) t a p r q long al pl refl in
    let s = kept (λ x. x.short) t a p r long al pl refl in
    (omega arith, raised (λ x. x.bought) t a p r q long al pl refl)
buyer_sums t a p Closes price q long al pl h =
    let r = row_after (row_at t a p) Buyer Closes price q in
    let e = ltb-false (row_at t a p).short q h in
    let l = kept (λ x. x.long) t a p r long al pl refl in
    let s = lowered (λ x. x.short) t a p r q long al pl (omega arith) in
    (omega arith, raised (λ x. x.bought) t a p r q long al pl refl)

pub seller_sums : (t : Table) (a p : ℕ) (effect : Effect) (price q : ℕ) → length t.rows ≡ 384 → a < 32 → p < 12 → lacking (row_at t a p) Seller effect q ≡ false → let u = trade_row t a p Seller effect price q in (longs u p + shorts t p + q ≡ longs t p + shorts u p) × (boughts u p ≡ boughts t p)
seller_sums t a p Opens price q long al pl h =
    let r = row_after (row_at t a p) Seller Opens price q in
    let l = kept (λ x. x.long) t a p r long al pl refl in
    let s = raised (λ x. x.short) t a p r q long al pl refl in
    (omega arith, kept (λ x. x.bought) t a p r long al pl refl)
seller_sums t a p Closes price q long al pl h =
    let r = row_after (row_at t a p) Seller Closes price q in
    let e = ltb-false (row_at t a p).long q h in
    let l = lowered (λ x. x.long) t a p r q long al pl (omega arith) in
    let s = kept (λ x. x.short) t a p r long al pl refl in
    (omega arith, kept (λ x. x.bought) t a p r long al pl refl)

-- Other places keep their sums.
pub elsewhere : (f : Row → ℕ) (t : Table) (a p o : ℕ) (r : Row) → p < 12 → o < 12 → o ≢ p → sum_to (λ b. f (row_at (set_row t a p r) b o)) 32 ≡ sum_to (λ b. f (row_at t b o)) 32
elsewhere f t a p o r pl ol ne = sum_same _ _ 32 (λ b bl. ap f (row_there t a p (b * 12 + o) r (λ e. ne (omega arith))))

-- The turnover rises by the quantity.
pub turned : (t : Table) (a p : ℕ) (part : Part) (effect : Effect) (price q : ℕ) → length t.rows ≡ 384 → a < 32 → p < 12 → turnover (trade_row t a p part effect price q) ≡ turnover t + q
turned t a p part effect price q long al pl =
    let r = row_after (row_at t a p) part effect price q in
    sum_raised (λ k. day_total (get_or t.rows k blank)) (λ k. day_total (get_or (trade_row t a p part effect price q).rows k blank)) 384 (a * 12 + p) q (omega arith)
    (ap day_total (row_here t a p r long al pl) ∙ after_total (row_at t a p) part effect price q) (λ k kl ne. ap day_total (row_there t a p k r ne))

-- The table after one side keeps the ceilings and the paths of its rows.
pub side_keeps : (t : Table) (a p : ℕ) (part : Part) (effect : Effect) (price q : ℕ) → length t.rows ≡ 384 → a < 32 → p < 12 → price ≤ 9999 → Passes (row_at t a p) part effect q
    → ((k : ℕ) → k < 384 → Ceilings (get_or t.rows k blank)) → ((k : ℕ) → k < 384 → PathOf (get_or t.rows k blank))
    → ((k : ℕ) → k < 384 → Ceilings (get_or (trade_row t a p part effect price q).rows k blank)) × ((k : ℕ) → k < 384 → PathOf (get_or (trade_row t a p part effect price q).rows k blank))
side_keeps t a p part effect price q long al pl low ok rows paths =
    let r = row_at t a p in (
      rows_keep Ceilings t a p _ long al pl (after_ceilings r part effect price q low (rows (a * 12 + p) (omega arith)) ok) rows,
      rows_keep PathOf t a p _ long al pl (after_path r part effect price q (paths (a * 12 + p) (omega arith)) ok) paths,
    )

pub side_long : (t : Table) (a p : ℕ) (r : Row) → length t.rows ≡ 384 → length (set_row t a p r).rows ≡ 384
side_long t a p r long = length-set t.rows (a * 12 + p) r ∙ long
