-- Nets and TEU of contracts that no trade is in, and of the day that is not settled.
use Rattle.std.proofs.Common.{◌≡◌, ℕ, Bool, true, false, ◌&&◌, eqb, List, [], ◌∷◌, pos, ◌+ℤ◌, ◌-ℤ◌, sym, refl, ap, ◌∙◌, arith}
use Rattle.std.proofs.Math.Bool.{and-false}
use Rattle.std.proofs.lemmas.Bool.{eq-eqb, ne_eqb, eqb-true, false≢true}
use Rattle.ledger.specs.declared.state.Deal.{Deal}
use Rattle.tally.specs.Tally.{Trade, share, if_so, teu, of_contract}
use Rattle.tally.proofs.Algebra.{lin}
use Rattle.tally.proofs.Lists.{Each, Each.none, Each.more}
use Rattle.tally.proofs.Matches.{Fresh, of, net, signed, buys, sells, amount}

-- No trade is in a contract of this number.
pub teu_none : (side : Deal → Bool) (p n : ℕ) (ts : List Trade) → Each (λ t. t.number ≡ n → ⊥) ts → teu side p n ts ≡ 0
teu_none side p n [] none = refl
teu_none side p n (t ∷ ts) (more f fs) =
    let e = teu_none side p n ts fs in
    let k : share (of_contract p n t && side t.deal) t.deal.quantity ≡ 0 =
    ap (λ c. share ((eqb p t.deal.place && c) && side t.deal) t.deal.quantity) (ne_eqb t.number n f) ∙ ap (λ c. share (c && side t.deal) t.deal.quantity) (and-false (eqb p t.deal.place)) in
    omega arith

pub net_none : (a p n : ℕ) (ts : List Trade) → Each (λ t. t.number ≡ n → ⊥) ts → net a p n ts ≡ pos 0
net_none a p n [] none = refl
net_none a p n (t ∷ ts) (more f fs) =
    let e = net_none a p n ts fs in
    let k : of p n t (signed a t) ≡ pos 0 = ap (λ c. if_so (eqb p t.deal.place && c) (signed a t)) (ne_eqb t.number n f) ∙ ap (λ c. if_so c (signed a t)) (and-false (eqb p t.deal.place)) in
    omega (arith, lin)

one_net : (b c x y : Bool) (q : ℕ) → (b ≡ true → c ≡ true)
    → if_so (b && c) (if_so x (pos q) -ℤ if_so y (pos q)) +ℤ pos (share (b && y) q) ≡ pos (share (b && x) q)
one_net false c x y q k = refl
one_net true true true true q k = omega (arith, lin)
one_net true true true false q k = omega (arith, lin)
one_net true true false true q k = omega (arith, lin)
one_net true true false false q k = omega (arith, lin)
one_net true false x y q k = absurd (false≢true (k refl))

-- The day's trades of a place are all in the contract that stands there.
pub net_fresh : (a p k x : ℕ) (number : ℕ → ℕ) (ts : List Trade) → Each (Fresh k number x) ts
    → net a p (number p) ts +ℤ pos (sells amount a p ts) ≡ pos (buys amount a p ts)
net_fresh a p k x number [] none = refl
net_fresh a p k x number (t ∷ ts) (more f fs) =
    let e = net_fresh a p k x number ts fs in
    let i = one_net (eqb p t.deal.place) (eqb t.number (number p)) (eqb a t.deal.buyer) (eqb a t.deal.seller) t.deal.quantity
    (λ j. eq-eqb t.number (number p) (f.stands ∙ ap number (sym (eqb-true p t.deal.place j)))) in
    omega (arith, lin)
