-- What a trade that is not refused has passed.
use Rattle.std.proofs.Common.{◌≡◌, ℕ, ◌-◌, ◌*◌, ◌<◌, ◌≤◌, Bool, true, false, ltb, leb, Some, None, Ok, Err, Option, Result, sym, refl, ap, ◌∙◌, subst, arith}
use Rattle.std.proofs.lemmas.Bool.{and_parts, or_parts, not-false, leb-true, ltb-false, eqb-false}
use Rattle.refusal.specs.declared.Refusal.{Refusal}
use Rattle.refusal.specs.Reasons.{first, answered}
use Rattle.refusal.proofs.Passed.{passed}
use Rattle.rules.proofs.LimitLaws.{limits_capped}
use Rattle.rules.specs.Units.{max_side}
use Rattle.ledger.specs.declared.state.Bargain.{Bargain}
use Rattle.ledger.specs.declared.state.Contract.{Contract}
use Rattle.ledger.specs.declared.state.Deal.{Deal}
use Rattle.ledger.specs.declared.state.State.{State}
use Rattle.ledger.specs.Places.{place_at, known_account, known_place, limits_of, is_open}
use Rattle.ledger.specs.Sound.{Sound, settled_days}
use Rattle.ledger.specs.Trade.{InRange, frame_reasons, sides_reasons, off_limits, framed_contract, framed, sided, bargain}
use Rattle.ledger.proofs.Contracts.{Terms, terms_of, stands}

-- The frame of a deal: its numbers, its two traders, and a price within the limits of its contract.
pub record Framed (s : State) (d : Deal) (c : Contract) : Type 0 where
  pub day : is_open s.stage ≡ true
  pub range : InRange d
  pub apart : d.buyer ≡ d.seller → ⊥
  pub low : (limits_of s.day c).lower ≤ d.price
  pub high : d.price ≤ (limits_of s.day c).upper

pub frame_passed : (s : State) (d : Deal) (c : Contract) → first (frame_reasons s d) ≡ None → place_at s (d.place - 1) ≡ Some c → Framed s d c
frame_passed s d c h is =
    let ok = passed (frame_reasons s d) h in
    let known = not-false _ ok.1.0 in
    let p = and_parts (known_place d.place) _ known in
    let b = and_parts (known_account d.buyer) (known_account d.seller) p.1 in
    let p2 = and_parts (leb 1 d.place) (leb d.place 12) p.0 in
    let b2 = and_parts (leb 1 d.buyer) (leb d.buyer 32) b.0 in
    let s2 = and_parts (leb 1 d.seller) (leb d.seller 32) b.1 in
    let q = or_parts (ltb d.quantity 1) (ltb max_side d.quantity) ok.1.1.1.1.0 in
    let l = or_parts (ltb d.price (limits_of s.day c).lower) (ltb (limits_of s.day c).upper d.price) (subst (λ o. off_limits s.day o d.price ≡ false) is ok.1.1.1.1.1.0) in
    let high = ltb-false _ _ l.1 in
    let cap = limits_capped s.day c.term c.base c.previous in
    record {
      day = not-false _ ok.0;
      range = record {
        place = leb-true _ _ p2.0;
        places = leb-true _ _ p2.1;
        buyer = leb-true _ _ b2.0;
        buyers = leb-true _ _ b2.1;
        seller = leb-true _ _ s2.0;
        sellers = leb-true _ _ s2.1;
        least = ltb-false _ _ q.0;
        most = ltb-false _ _ q.1;
        price = omega (arith, high, cap);
      };
      apart = eqb-false _ _ ok.1.1.1.0;
      low = ltb-false _ _ l.0;
      high = high;
    }

-- The terms of the contract at a deal's place.
pub terms_at : (s : State) (p : ℕ) (c : Contract) → p < 12 → Sound s → place_at s p ≡ Some c → Terms (settled_days s) c
terms_at s p c lt sound is = terms_of (settled_days s) c (stands s p c lt sound is).terms

-- What the steps of a weighing say of its answer.
pub framed_err : (opening : ℕ → ℕ → ℕ → ℕ) (s : State) (d : Deal) (room : Bool) (f : Option Refusal) (o : Option Contract) (w : Refusal) → framed_contract f o ≡ Err w → framed opening s d room f o ≡ Err w
framed_err opening s d room (Some v) o w h = let f : Result Contract Refusal → Result Bargain Refusal = λ r. elim r [ Ok c ↦ Err w | Err x ↦ Err x ] in ap f h
framed_err opening s d room None None w h = let f : Result Contract Refusal → Result Bargain Refusal = λ r. elim r [ Ok c ↦ Err w | Err x ↦ Err x ] in ap f h
framed_err opening s d room None (Some c) w h = let z : ◌≡◌ {A = ℕ} 0 1 = cc in absurd (omega arith)

pub framed_ok : (f : Option Refusal) (o : Option Contract) (c : Contract) → framed_contract f o ≡ Ok c → (f ≡ None) × (o ≡ Some c)
framed_ok (Some v) o c h = let z : ◌≡◌ {A = ℕ} 0 1 = cc in absurd (omega arith)
framed_ok None None c h = let z : ◌≡◌ {A = ℕ} 0 1 = cc in absurd (omega arith)
framed_ok None (Some k) c h = (refl, cc)

pub sided_err : (f : Option Refusal) (b : Bargain) (w : Refusal) → answered f ≡ Err w → sided f b ≡ Err w
sided_err (Some v) b w h = cc
sided_err None b w h = let z : ◌≡◌ {A = ℕ} 0 1 = cc in absurd (omega arith)

pub sided_ok : (f : Option Refusal) (b : Bargain) → answered f ≡ Ok tt → sided f b ≡ Ok b
sided_ok (Some v) b h = let z : ◌≡◌ {A = ℕ} 0 1 = cc in absurd (omega arith)
sided_ok None b h = refl

pub weighed : (opening : ℕ → ℕ → ℕ → ℕ) (s : State) (d : Deal) (room : Bool) (k : Contract) (margin : ℕ) → margin ≡ opening (d.price * s.rate) d.quantity k.ratio
    → framed_contract (first (frame_reasons s d)) (place_at s (d.place - 1)) ≡ Ok k
    → bargain opening s d room ≡ sided (first (sides_reasons s d (record { contract = k; margin = margin }) room)) (record { contract = k; margin = margin })
weighed opening s d room k margin e h =
    let p = framed_ok _ _ k h in
    let at : ℕ → Result Bargain Refusal = λ m. sided (first (sides_reasons s d (record { contract = k; margin = m }) room)) (record { contract = k; margin = m }) in
    (λ i. framed opening s d room (p.0 i) (p.1 i)) ∙ ap at (sym e)
