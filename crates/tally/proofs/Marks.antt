-- What a settling does to the trades of settled days: those of the past get a new mark, those of the day their first.
use Rattle.std.proofs.Common.{◌≡◌, ℕ, ◌+◌, ◌*◌, Bool, true, false, cond, ◌&&◌, eqb, List, [], ◌∷◌, ℤ, pos, ◌+ℤ◌, ◌-ℤ◌, ◌*ℤ◌, neg_ℤ, sym, refl, ap, ◌∙◌, arith}
use Rattle.std.proofs.lemmas.Bool.{eq-eqb, eqb-true}
use Rattle.tally.specs.Deeds.{PriceRule, MarginRule, Deed.settles}
use Rattle.tally.specs.Tally.{History, Trade, share, if_so, sum, gained, last_mark, settlement_price, settlement_rate}
use Rattle.tally.proofs.Algebra.{lin, mul_right_add, mul_right_neg, mul_left_add, mul_left_neg}
use Rattle.tally.proofs.Lists.{Each, Each.none, Each.more, swapped}
use Rattle.tally.proofs.Matches.{Fresh, number_at, of, net, signed, buys, sells, amount, worth}
use Rattle.tally.proofs.Sums.{at}

-- A signed quantity times a mark.
signed_times : (b s : Bool) (q m : ℕ) → (if_so b (pos q) -ℤ if_so s (pos q)) *ℤ pos m ≡ if_so b (pos (q * m)) -ℤ if_so s (pos (q * m))
signed_times true true q m = mul_right_add (pos q) (neg_ℤ (pos q)) (pos m) ∙ ap (λ z. pos (q * m) +ℤ z) (mul_right_neg (pos q) (pos m))
signed_times true false q m = mul_right_add (pos q) (neg_ℤ (pos 0)) (pos m) ∙ omega (arith, lin)
signed_times false true q m = mul_right_add (pos 0) (neg_ℤ (pos q)) (pos m) ∙ (let e = mul_right_neg (pos q) (pos m) in omega (arith, lin))
signed_times false false q m = omega (arith, lin)

-- One trade of the past gets a new mark if its contract stands.
remarked : (b c x y : Bool) (q M l L v : ℕ) → (c ≡ true → l ≡ L)
    → if_so b (if_so x (pos (q * cond c M l) -ℤ pos v) -ℤ if_so y (pos (q * cond c M l) -ℤ pos v))
    ≡ if_so b (if_so x (pos (q * l) -ℤ pos v) -ℤ if_so y (pos (q * l) -ℤ pos v))
    +ℤ if_so (b && c) (if_so x (pos q) -ℤ if_so y (pos q)) *ℤ pos M -ℤ if_so (b && c) (if_so x (pos q) -ℤ if_so y (pos q)) *ℤ pos L
remarked false c x y q M l L v k = omega (arith, lin)
remarked true false x y q M l L v k = omega (arith, lin)
remarked true true x y q M l L v k = go x y (signed_times x y q M) (signed_times x y q L)
  where
    lL : l ≡ L
    lL = k refl

    go : (x y : Bool) → (if_so x (pos q) -ℤ if_so y (pos q)) *ℤ pos M ≡ if_so x (pos (q * M)) -ℤ if_so y (pos (q * M))
        → (if_so x (pos q) -ℤ if_so y (pos q)) *ℤ pos L ≡ if_so x (pos (q * L)) -ℤ if_so y (pos (q * L))
        → if_so x (pos (q * M) -ℤ pos v) -ℤ if_so y (pos (q * M) -ℤ pos v)
        ≡ if_so x (pos (q * l) -ℤ pos v) -ℤ if_so y (pos (q * l) -ℤ pos v)
        +ℤ (if_so x (pos q) -ℤ if_so y (pos q)) *ℤ pos M -ℤ (if_so x (pos q) -ℤ if_so y (pos q)) *ℤ pos L
    go true true e f = rw lL (omega (arith, lin))
    go true false e f = rw lL (omega (arith, lin))
    go false true e f = rw lL (omega (arith, lin))
    go false false e f = omega (arith, lin)

-- One trade of the day gets its first mark.
first_marked : (b x y : Bool) (q M pr rt : ℕ)
    → if_so b (if_so x (pos (q * M) -ℤ pos (pr * rt * q)) -ℤ if_so y (pos (q * M) -ℤ pos (pr * rt * q)))
    ≡ pos (share (b && x) q * M) -ℤ pos (share (b && x) (pr * q) * rt) -ℤ pos (share (b && y) q * M) +ℤ pos (share (b && y) (pr * q) * rt)
first_marked false x y q M pr rt = omega (arith, lin)
first_marked true true true q M pr rt = omega (arith, lin)
first_marked true true false q M pr rt = omega (arith, lin)
first_marked true false true q M pr rt = omega (arith, lin)
first_marked true false false q M pr rt = omega (arith, lin)

-- A sum of four as two sides.
to_sides : (z : ℤ) (A B C D : ℕ) → z ≡ pos A -ℤ pos B -ℤ pos C +ℤ pos D → z +ℤ pos (B + C) ≡ pos (A + D)
to_sides z A B C D e = omega (arith, lin)

from_sides : (z : ℤ) (A B C D : ℕ) → z +ℤ pos (B + C) ≡ pos (A + D) → z ≡ pos A -ℤ pos B -ℤ pos C +ℤ pos D
from_sides z A B C D e = omega (arith, lin)

both_sides : (y z : ℤ) (A a B b C D : ℕ) → C ≡ A + a → D ≡ B + b → y +ℤ pos A ≡ pos B → z +ℤ pos a ≡ pos b → y +ℤ z +ℤ pos C ≡ pos D
both_sides y z A a B b C D i j e f = omega (arith, lin)

grown : (S z : ℤ) (M x B b W w D d V v : ℕ)
    → S ≡ pos (B * M) -ℤ pos (W * x) -ℤ pos (D * M) +ℤ pos (V * x) → z ≡ pos (b * M) -ℤ pos (w * x) -ℤ pos (d * M) +ℤ pos (v * x)
    → S +ℤ z ≡ pos ((B + b) * M) -ℤ pos ((W + w) * x) -ℤ pos ((D + d) * M) +ℤ pos ((V + v) * x)
grown S z M x B b W w D d V v e f =
    let i = to_sides S (B * M) (W * x) (D * M) (V * x) e in
    let j = to_sides z (b * M) (w * x) (d * M) (v * x) f in
    from_sides (S +ℤ z) ((B + b) * M) ((W + w) * x) ((D + d) * M) ((V + v) * x)
    (both_sides S z (W * x + D * M) (w * x + d * M) (B * M + V * x) (b * M + v * x) _ _ (omega arith) (omega arith) i j)

module _ (rule : PriceRule) (margin : MarginRule) (h : History) (a p : ℕ) where
  abbrev pub mark : ℕ → ℕ
  mark q = settlement_price rule h q * settlement_rate h

  -- the past of a place
  past_trade : (t : Trade)
      → at p t (gained (settles rule margin ∷ h) a t)
      ≡ at p t (gained h a t)
      +ℤ of p (number_at h p) t (signed a t) *ℤ pos (mark p) -ℤ of p (number_at h p) t (signed a t) *ℤ pos (last_mark h p (number_at h p))
  past_trade t =
      let v = t.deal.price * t.rate * t.deal.quantity in
      let f : ℕ → ℤ = λ q. let m = cond (eqb t.number (number_at h q)) (mark q) (last_mark h q t.number) in
      if_so (eqb a t.deal.buyer) (pos (t.deal.quantity * m) -ℤ pos v) -ℤ if_so (eqb a t.deal.seller) (pos (t.deal.quantity * m) -ℤ pos v) in
      let g : ℕ → ℤ = λ q. let m = last_mark h q t.number in
      if_so (eqb a t.deal.buyer) (pos (t.deal.quantity * m) -ℤ pos v) -ℤ if_so (eqb a t.deal.seller) (pos (t.deal.quantity * m) -ℤ pos v) in
      let w = remarked (eqb p t.deal.place) (eqb t.number (number_at h p)) (eqb a t.deal.buyer) (eqb a t.deal.seller) t.deal.quantity (mark p)
      (last_mark h p t.number) (last_mark h p (number_at h p)) v (λ e. ap (last_mark h p) (eqb-true t.number (number_at h p) e)) in
      let i = swapped p t.deal.place f (pos 0) in
      let j = swapped p t.deal.place g (pos 0) in
      i ∙ w ∙ ap (λ z. z +ℤ of p (number_at h p) t (signed a t) *ℤ pos (mark p) -ℤ of p (number_at h p) t (signed a t) *ℤ pos (last_mark h p (number_at h p))) (sym j)

  pub past_place : (ts : List Trade)
      → sum (λ t. at p t (gained (settles rule margin ∷ h) a t)) ts
      ≡ sum (λ t. at p t (gained h a t)) ts
      +ℤ net a p (number_at h p) ts *ℤ pos (mark p) -ℤ net a p (number_at h p) ts *ℤ pos (last_mark h p (number_at h p))
  past_place [] = omega (arith, lin)
  past_place (t ∷ ts) =
      let e = past_place ts in
      let u = mul_right_add (net a p (number_at h p) ts) (of p (number_at h p) t (signed a t)) (pos (mark p)) in
      let v = mul_right_add (net a p (number_at h p) ts) (of p (number_at h p) t (signed a t)) (pos (last_mark h p (number_at h p))) in
      let w = past_trade t in
      omega (arith, lin)

  -- the day's trades of a place
  fresh_trade : (x k : ℕ) (t : Trade) → Fresh k (number_at h) x t
      → at p t (gained (settles rule margin ∷ h) a t)
      ≡ pos (share (eqb p t.deal.place && eqb a t.deal.buyer) (amount t) * mark p) -ℤ pos (share (eqb p t.deal.place && eqb a t.deal.buyer) (worth t) * x)
      -ℤ pos (share (eqb p t.deal.place && eqb a t.deal.seller) (amount t) * mark p) +ℤ pos (share (eqb p t.deal.place && eqb a t.deal.seller) (worth t) * x)
  fresh_trade x k t f =
      let c : ℕ → ℕ → ℤ = λ m y. if_so (eqb a t.deal.buyer) (pos (t.deal.quantity * m) -ℤ pos (t.deal.price * y * t.deal.quantity)) -ℤ if_so (eqb a t.deal.seller) (pos (t.deal.quantity * m) -ℤ pos (t.deal.price * y * t.deal.quantity)) in
      let e : gained (settles rule margin ∷ h) a t ≡ c (mark t.deal.place) x =
      ap (λ b. c (cond b (mark t.deal.place) (last_mark h t.deal.place t.number)) t.rate) (eq-eqb t.number (number_at h t.deal.place) f.stands) ∙ ap (c (mark t.deal.place)) f.rate in
      ap (λ z. at p t z) e ∙ swapped p t.deal.place (λ q. c (mark q) x) (pos 0)
      ∙ first_marked (eqb p t.deal.place) (eqb a t.deal.buyer) (eqb a t.deal.seller) t.deal.quantity (mark p) t.deal.price x

  pub fresh_place : (x k : ℕ) (ts : List Trade) → Each (Fresh k (number_at h) x) ts
      → sum (λ t. at p t (gained (settles rule margin ∷ h) a t)) ts
      ≡ pos (buys amount a p ts * mark p) -ℤ pos (buys worth a p ts * x) -ℤ pos (sells amount a p ts * mark p) +ℤ pos (sells worth a p ts * x)
  fresh_place x k [] none = omega (arith, lin)
  fresh_place x k (t ∷ ts) (more f fs) =
      grown (sum (λ u. at p u (gained (settles rule margin ∷ h) a u)) ts) (at p t (gained (settles rule margin ∷ h) a t)) (mark p) x
      (buys amount a p ts) _ (buys worth a p ts) _ (sells amount a p ts) _ (sells worth a p ts) _ (fresh_place x k ts fs) (fresh_trade x k t f)

-- A row's result is what its place counts for more.
pub placed : (S₀ S₁ F N st : ℤ) (M L P x B W D V : ℕ) → st ≡ N → st *ℤ pos L ≡ st *ℤ pos P
    → S₁ ≡ S₀ +ℤ N *ℤ pos M -ℤ N *ℤ pos L → F ≡ pos (B * M) -ℤ pos (W * x) -ℤ pos (D * M) +ℤ pos (V * x)
    → F +ℤ S₁ ≡ S₀ +ℤ ((st *ℤ (pos M -ℤ pos P)) +ℤ (pos (B * M + V * x) -ℤ pos (W * x + D * M)))
placed S₀ S₁ F N st M L P x B W D V n l e f =
    let i = mul_left_add st (pos M) (neg_ℤ (pos P)) in
    let j = mul_left_neg st (pos P) in
    let k : N *ℤ pos M ≡ st *ℤ pos M = ap (λ z. z *ℤ pos M) (sym n) in
    let o : N *ℤ pos L ≡ st *ℤ pos L = ap (λ z. z *ℤ pos L) (sym n) in
    omega (arith, lin)
