-- An accepted settle: one entry for each account.
use Rattle.std.proofs.Common.{◌≡◌, ℕ, zero, suc, ◌+◌, ◌<◌, true, cond, leb, List, ◌∷◌, map, length, ℤ, pos, None, Ok, Err, Option, sym, refl, ap, ◌∙◌, subst, arith, w64, SFits}
use Rattle.std.proofs.lemmas.Bool.{and_parts, leb-true, le-leb, and_from, cond-true, false≢true}
use Rattle.std.specs.List.{range_with_len}
use Rattle.refusal.specs.declared.Refusal.TheVariants.{WrongPhase}
use Rattle.ledger.specs.Places.{is_closed, is_resting, known_account}
use Rattle.ledger.specs.Settle.{prices_of, outcome_to, change_of, settled_by, settlement}
use Rattle.ledger.specs.Sound.{Sound}
use Rattle.ledger.proofs.Tabulated.{tabulated_at}
use Rattle.tally.specs.Agreement.{change_said}
use Rattle.tally.specs.Deeds.{Try, PriceRule, MarginRule}
use Rattle.tally.specs.Deeds.{Deed.settles}
use Rattle.tally.specs.Tally.{History}
use Rattle.tally.proofs.Lists.{Each, Each.none, Each.more}
use Rattle.book.specs.declared.entries.Movement.{Movement}
use Rattle.book.specs.declared.permit.ClosingPermit.{ClosingPermit}
use Rattle.book.specs.Closing.{settle_state, settle_moves, settle_desk, with_settled}
use Rattle.book.specs.Entries.{settlement_from, settlement_moves, desk_with, bytes_with}
use Rattle.book.proofs.Entering.{with_founded}
use Rattle.law.specs.Entries.{recorded}
use Rattle.law.specs.Ways.{Held, refused, entered, after}
use Rattle.law.specs.Ways.{Call.settle}
use Rattle.law.proofs.Chains.{Fits, Archived, all_archived}
use Rattle.law.proofs.Gates.{settle_out, none_some, closed_busy}
use Rattle.law.proofs.Soundness.{sound_after, day_fits, available_fits, margin_fits, change_fits}
use Rattle.law.proofs.Standing.{Running, moves_on, sound_now, sized_now, settled_archived}
use Rattle.law.proofs.Sums.{own, own_settlement, settled_entry}

each_counted : (f : ℕ → Movement) (n i : ℕ) → ((a : ℕ) → a < i + n → Fits (f a)) → Each Fits (map f (range_with_len i n))
each_counted f zero i h = none
each_counted f (suc n) i h = more (h i (omega arith)) (each_counted f n (i + 1) (λ a l. h a (omega arith)))

all_fit : (day : ℕ) (accounts : List _) (changes : List ℤ) → ((a : ℕ) → a < 32 → Fits (settled_entry day accounts changes a)) → Each Fits (settlement_moves day accounts changes)
unfolding settlement_from
all_fit day accounts changes h = each_counted (settled_entry day accounts changes) 32 0 (λ a l. h a (omega arith))

thirty_two : (day : ℕ) (accounts : List _) (changes : List ℤ) → length (settlement_moves day accounts changes) ≡ 32
unfolding settlement_from
thirty_two day accounts changes = refl

known_next : (a : ℕ) → a < 32 → known_account (a + 1) ≡ true
known_next a l = and_from (leb 1 (a + 1)) (leb (a + 1) 32) (le-leb 1 (a + 1) (omega arith)) (le-leb (a + 1) 32 (omega arith))

module _ (h : Held) (start : ℕ) (tries : List Try) (told : History) (es : ℕ → List Movement) (hand : Option ClosingPermit) (r : Running h start tries told es hand) where
  pub at_settle : (p : ClosingPermit) (price : PriceRule) (margin : MarginRule) → refused h (settle p price margin) ≡ None
      → Running (after h (settle p price margin)) start (record { deed = settles price margin; room = true } ∷ tries) (settles price margin ∷ told) (λ a. recorded a (entered h (settle p price margin)) (es a)) None
  at_settle p price margin e =
      let s = h.state in
      let c = settle p price margin in
      let out = settle_out h.desk s (length h.bytes) p e in
      let shut = out.closed in
      let ps = prices_of price.meaning s in
      let u = settled_by margin.holding s ps in
      let said = settlement margin.holding s ps in
      let before = sound_now h start tries told es hand r in
      let whole : cond (is_closed s.stage) u s ≡ u = cond-true (is_closed s.stage) u s shut in
      let sound : Sound u = subst Sound whole (sound_after s (sized_now h start tries told es hand r) before true (settles price margin)) in
      let ms = settlement_moves s.day u.accounts said.changes in
      let d = with_settled h.desk said.contracts in
      let fits : (a : ℕ) → a < 32 → Fits (settled_entry s.day u.accounts said.changes a) = λ a l. record {
        known = known_next a l;
        day = day_fits s before;
        change = subst (SFits w64) (sym (tabulated_at (λ b. change_of (outcome_to margin.holding s ps b 12)) 32 a (pos 0) l)) (change_fits price.meaning margin.holding s price.inside margin.holds before shut a l);
        available = available_fits u sound a l;
        margin = margin_fits u sound a l;
      } in
      let room = r.room (closed_busy s.stage shut) in
      let many = thirty_two s.day u.accounts said.changes in
      let written : Archived (desk_with d ms) (bytes_with d h.bytes ms) (λ a. recorded a ms (es a)) = all_archived ms d h.bytes es (settled_archived h.desk h.bytes es said.contracts r.archived) (all_fit s.day u.accounts said.changes fits) (omega (arith, room, many)) in
      moves_on h start tries told es hand r c (record { deed = settles price margin; room = true }) None
      shut
      (ap (λ o. settle_state o price.meaning margin.holding s) e ∙ sym whole)
      (with_founded (entered h c) _ ∙ ap (λ o. (settle_desk o price.meaning margin.holding h.desk s).founded) e ∙ r.founded)
      (subst (λ o. Archived (desk_with (settle_desk o price.meaning margin.holding h.desk s) (settle_moves o price.meaning margin.holding s)) (bytes_with (settle_desk o price.meaning margin.holding h.desk s) h.bytes (settle_moves o price.meaning margin.holding s)) (λ a. recorded a (settle_moves o price.meaning margin.holding s) (es a))) (sym e) written)
      (λ busy. absurd (false≢true (sym busy ∙ ap (λ o. is_resting (settle_state o price.meaning margin.holding s).stage) e)))
      (λ q is. absurd (none_some q is))
      (λ a given.
      let k = and_parts (leb 1 a) (leb a 32) given in
      ap (λ o. own a (settle_moves o price.meaning margin.holding s)) e
      ∙ own_settlement a s.day u.accounts said.changes (leb-true 1 a k.0) (leb-true a 32 k.1)
      ∙ sym (ap (λ x. change_said x a) (cond-true (is_closed s.stage) (Ok said) (Err WrongPhase) shut)))
