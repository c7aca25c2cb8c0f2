-- The accepted pay-ins and pay-outs: one entry each.
use Rattle.std.proofs.Common.{◌≡◌, ℕ, ◌+◌, ◌-◌, ◌*◌, ◌<◌, ◌≤◌, Bool, true, false, eqb, leb, ◌⊎◌, List, [], ◌∷◌, length, ℤ, pos, ◌+ℤ◌, ◌-ℤ◌, neg_ℤ, None, Option, sym, ap, ◌∙◌, subst, inl, inr, arith, w64, SFits}
use Rattle.std.proofs.lemmas.Bool.{not-false, and_parts, leb-true, eq-eqb, ne_eqb, cases_eq}
use Rattle.refusal.proofs.Passed.{passed}
use Rattle.rules.specs.Units.{fen_units}
use Rattle.archive.specs.declared.entry.Kind.{Kind}
use Rattle.archive.specs.declared.entry.Kind.TheVariants.{PayIn, PayOut}
use Rattle.ledger.specs.declared.state.State.{State}
use Rattle.ledger.specs.Cash.{credit_reasons, credit_refusal, credit_state, debit_reasons, debit_refusal, debit_state}
use Rattle.ledger.specs.Places.{known_account}
use Rattle.ledger.specs.Sound.{Sound}
use Rattle.tally.specs.Deeds.{Try, is_none}
use Rattle.tally.specs.Deeds.{Deed.pays_in, Deed.pays_out}
use Rattle.tally.specs.Tally.{History, if_so}
use Rattle.tally.proofs.Algebra.{lin}
use Rattle.tally.proofs.Lists.{Each, Each.none, Each.more}
use Rattle.book.specs.declared.desk.Desk.{Desk}
use Rattle.book.specs.declared.entries.Movement.{Movement}
use Rattle.book.specs.declared.permit.ClosingPermit.{ClosingPermit}
use Rattle.book.specs.declared.permit.DayPermit.{DayPermit}
use Rattle.book.specs.Cash.{pay_in_moves, pay_out_moves}
use Rattle.book.specs.Desk.{has_room}
use Rattle.book.specs.Entries.{moved, desk_with, bytes_with}
use Rattle.book.specs.Gates.{entry_gate}
use Rattle.law.specs.Entries.{recorded}
use Rattle.law.specs.Ways.{Held, refused, entered, after}
use Rattle.law.specs.Ways.{Call.pay_in, Call.pay_out}
use Rattle.law.proofs.Chains.{Fits, Archived, all_archived}
use Rattle.law.proofs.Gates.{both_none, entry_open, roomy}
use Rattle.law.proofs.Quiet.{none_open}
use Rattle.law.proofs.Soundness.{sound_after, day_fits, available_fits, margin_fits, credit_fits, debit_fits}
use Rattle.law.proofs.Standing.{Running, moves_on, sound_now, sized_now}
use Rattle.law.proofs.Sums.{own}

pub eqb_swap : (a b : ℕ) → eqb a b ≡ eqb b a
eqb_swap a b = go (cases_eq a b)
  where
    go : (a ≡ b) ⊎ (a ≡ b → ⊥) → eqb a b ≡ eqb b a
    go (inl e) = eq-eqb a b e ∙ sym (eq-eqb b a (sym e))
    go (inr n) = ne_eqb a b n ∙ sym (ne_eqb b a (λ e. n (sym e)))

pub low : (a : ℕ) → known_account a ≡ true → a - 1 < 32
low a k = let p = and_parts (leb 1 a) (leb a 32) k in omega (arith, leb-true 1 a p.0, leb-true a 32 p.1)

-- The entry of a known account of a sound ledger fits, if its change does.
pub moved_fits : (u : State) (account : ℕ) (kind : Kind) (change : ℤ) → Sound u → known_account account ≡ true → SFits w64 change → Fits (moved u account kind change)
moved_fits u account kind change sound known fits = record {
  known = known;
  day = day_fits u sound;
  change = fits;
  available = available_fits u sound (account - 1) (low account known);
  margin = margin_fits u sound (account - 1) (low account known);
}

-- Entries that fit, and find their slots, lead to the archive of the desk after them.
pub written : (d : Desk) (xs : List ℕ) (es : ℕ → List Movement) (ms ns : List Movement) → ms ≡ ns → Archived d xs es → Each Fits ns → d.used + length ns + 1 ≤ d.slots
    → Archived (desk_with d ms) (bytes_with d xs ms) (λ a. recorded a ms (es a))
written d xs es ms ns is k fits room =
    all_archived ms d xs es k (subst (Each Fits) (sym is) fits) (subst (λ (l : List Movement). d.used + length l + 1 ≤ d.slots) (sym is) room)

-- What the desk keeps, and what it counts.
pub used_after : (d : Desk) (ms : List Movement) (m : Movement) → ms ≡ m ∷ [] → ((desk_with d ms).used ≡ d.used + 1) × ((desk_with d ms).slots ≡ d.slots) × ((desk_with d ms).founded ≡ d.founded)
used_after d ms m is = (ap (λ (l : List Movement). (desk_with d l).used) is, ap (λ (l : List Movement). (desk_with d l).slots) is, ap (λ (l : List Movement). (desk_with d l).founded) is)

paid_in : (b c : Bool) (n : ℕ) → b ≡ c → if_so b (pos n) +ℤ pos 0 ≡ if_so true (if_so c (pos n))
paid_in true true n e = omega (arith, lin)
paid_in true false n e = let z : ◌≡◌ {A = ℕ} 0 1 = cc in absurd (omega arith)
paid_in false true n e = let z : ◌≡◌ {A = ℕ} 0 1 = cc in absurd (omega arith)
paid_in false false n e = omega (arith, lin)

paid_out : (b c : Bool) (n : ℕ) → b ≡ c → if_so b (neg_ℤ (pos n)) +ℤ pos 0 ≡ pos 0 -ℤ if_so true (if_so c (pos n))
paid_out true true n e = omega (arith, lin)
paid_out true false n e = let z : ◌≡◌ {A = ℕ} 0 1 = cc in absurd (omega arith)
paid_out false true n e = let z : ◌≡◌ {A = ℕ} 0 1 = cc in absurd (omega arith)
paid_out false false n e = omega (arith, lin)

module _ (h : Held) (start : ℕ) (tries : List Try) (told : History) (es : ℕ → List Movement) (hand : Option ClosingPermit) (r : Running h start tries told es hand) where
  pub at_pay_in : (p : DayPermit) (account fen : ℕ) → refused h (pay_in p account fen) ≡ None
      → Running (after h (pay_in p account fen)) start (record { deed = pays_in account fen; room = has_room h.desk 1 } ∷ tries) (pays_in account fen ∷ told) (λ a. recorded a (entered h (pay_in p account fen)) (es a)) hand
  at_pay_in p account fen e =
      let s = h.state in
      let room = has_room h.desk 1 in
      let t : Try = record { deed = pays_in account fen; room = room } in
      let k = both_none (entry_gate h.desk s (length h.bytes) p) (credit_refusal s account fen room) e in
      let opened = entry_open h.desk s (length h.bytes) p k.0 in
      let ok = passed (credit_reasons s account fen room) k.1 in
      let free = roomy h.desk 1 (not-false room ok.1.1.1.0) in
      let known = not-false (known_account account) ok.1.0 in
      let u = credit_state None s account fen in
      let sound : Sound u = subst (λ o. Sound (credit_state o s account fen)) k.1 (sound_after s (sized_now h start tries told es hand r) (sound_now h start tries told es hand r) room (pays_in account fen)) in
      let m = moved u account PayIn (pos (fen_units * fen)) in
      let is : entered h (pay_in p account fen) ≡ m ∷ [] = ap (λ o. pay_in_moves o s account fen) e in
      let kept = used_after h.desk (entered h (pay_in p account fen)) m is in
      moves_on h start tries told es hand r (pay_in p account fen) t hand
      (ap is_none k.1) (ap (λ o. credit_state o s account fen) (e ∙ sym k.1))
      (kept.2 ∙ r.founded)
      (written h.desk h.bytes es (entered h (pay_in p account fen)) (m ∷ []) is r.archived (more (moved_fits u account PayIn (pos (fen_units * fen)) sound known (credit_fits s account fen room k.1)) none) (omega (arith, free)))
      (λ busy. omega (arith, free, kept.0, kept.1))
      (none_open h start tries told es hand r _ _ opened.opened)
      (λ a given. ap (own a) is ∙ paid_in (eqb account a) (eqb a account) (fen_units * fen) (eqb_swap account a) ∙ ap (λ o. if_so (is_none o) (if_so (eqb a account) (pos (fen_units * fen)))) (sym k.1))

  pub at_pay_out : (p : DayPermit) (account fen : ℕ) → refused h (pay_out p account fen) ≡ None
      → Running (after h (pay_out p account fen)) start (record { deed = pays_out account fen; room = has_room h.desk 1 } ∷ tries) (pays_out account fen ∷ told) (λ a. recorded a (entered h (pay_out p account fen)) (es a)) hand
  at_pay_out p account fen e =
      let s = h.state in
      let room = has_room h.desk 1 in
      let t : Try = record { deed = pays_out account fen; room = room } in
      let k = both_none (entry_gate h.desk s (length h.bytes) p) (debit_refusal s account fen room) e in
      let opened = entry_open h.desk s (length h.bytes) p k.0 in
      let ok = passed (debit_reasons s account fen room) k.1 in
      let free = roomy h.desk 1 (not-false room ok.1.1.1.1.1.0) in
      let known = not-false (known_account account) ok.1.0 in
      let u = debit_state None s account fen in
      let before = sound_now h start tries told es hand r in
      let sound : Sound u = subst (λ o. Sound (debit_state o s account fen)) k.1 (sound_after s (sized_now h start tries told es hand r) before room (pays_out account fen)) in
      let m = moved u account PayOut (neg_ℤ (pos (fen_units * fen))) in
      let is : entered h (pay_out p account fen) ≡ m ∷ [] = ap (λ o. pay_out_moves o s account fen) e in
      let kept = used_after h.desk (entered h (pay_out p account fen)) m is in
      moves_on h start tries told es hand r (pay_out p account fen) t hand
      (ap is_none k.1) (ap (λ o. debit_state o s account fen) (e ∙ sym k.1))
      (kept.2 ∙ r.founded)
      (written h.desk h.bytes es (entered h (pay_out p account fen)) (m ∷ []) is r.archived (more (moved_fits u account PayOut (neg_ℤ (pos (fen_units * fen))) sound known (debit_fits s account fen room before k.1)) none) (omega (arith, free)))
      (λ busy. omega (arith, free, kept.0, kept.1))
      (none_open h start tries told es hand r _ _ opened.opened)
      (λ a given. ap (own a) is ∙ paid_out (eqb account a) (eqb a account) (fen_units * fen) (eqb_swap account a) ∙ ap (λ o. pos 0 -ℤ if_so (is_none o) (if_so (eqb a account) (pos (fen_units * fen)))) (sym k.1))
