-- What holds of a book that is founded, along every way, with the tries that its ledger has seen.
use Rattle.std.proofs.Common.{◌≡◌, ℕ, ◌+◌, ◌≤◌, Bool, true, false, cond, List, ◌∷◌, Some, Option, sym, ap, ◌∙◌, subst, arith}
use Rattle.std.proofs.lemmas.Bool.{cond-true}
use Rattle.ledger.specs.declared.state.State.{State}
use Rattle.ledger.specs.Days.{bad_rate}
use Rattle.ledger.specs.Places.{is_resting, known_account}
use Rattle.ledger.specs.Sound.{Sound}
use Rattle.tally.specs.Agreement.{said, changes}
use Rattle.tally.specs.Deeds.{Try, accepts, after as then, ledger, history}
use Rattle.tally.specs.Tally.{History}
use Rattle.tally.proofs.Algebra.{lin}
use Rattle.tally.proofs.Matches.{Sized}
use Rattle.book.specs.declared.desk.Desk.{Desk}
use Rattle.book.specs.declared.entries.Movement.{Movement}
use Rattle.book.specs.declared.permit.ClosingPermit.{ClosingPermit}
use Rattle.book.specs.Permits.{with_laid}
use Rattle.book.specs.Closing.{with_settled}
use Rattle.law.specs.Entries.{recorded}
use Rattle.law.specs.Ways.{Held, Call, entered, state_after, after}
use Rattle.law.proofs.Chains.{Archived}
use Rattle.law.proofs.Gates.{Out}
use Rattle.law.proofs.Soundness.{sound_along, sized_along}
use Rattle.law.proofs.Sums.{summed, own, summed_recorded}

pub record Running (h : Held) (start : ℕ) (tries : List Try) (told : History) (es : ℕ → List Movement) (hand : Option ClosingPermit) : Type 0 where
  pub founded : h.desk.founded ≡ true
  pub rate : bad_rate start ≡ false
  pub state : h.state ≡ ledger start tries
  pub tells : history start tries ≡ told
  pub archived : Archived h.desk h.bytes es
  pub room : is_resting h.state.stage ≡ false → h.desk.used + 33 ≤ h.desk.slots
  pub out : (p : ClosingPermit) → hand ≡ Some p → Out h.desk h.state p
  pub sums : (a : ℕ) → known_account a ≡ true → summed (es a) ≡ changes start tries a

-- One deed more that the ledger accepts.
pub onward : (start : ℕ) (tries : List Try) (told : History) (s u : State) (t : Try) → s ≡ ledger start tries → history start tries ≡ told → accepts s t.room t.deed ≡ true → u ≡ then s t.room t.deed
    → (u ≡ ledger start (t ∷ tries)) × (history start (t ∷ tries) ≡ t.deed ∷ told)
unfolding ledger history
onward start tries told s u t same tells takes is = (
  is ∙ ap (λ (x : State). then x t.room t.deed) same,
  ap (λ (x : State). cond (accepts x t.room t.deed) (t.deed ∷ history start tries) (history start tries)) (sym same) ∙ cond-true _ _ _ takes ∙ ap (λ (x : History). t.deed ∷ x) tells,
)

summed_onward : (start : ℕ) (tries : List Try) (s : State) (t : Try) (a : ℕ) (ms before : List Movement) → s ≡ ledger start tries → summed before ≡ changes start tries a → own a ms ≡ said s t.room t.deed a
    → summed (recorded a ms before) ≡ changes start (t ∷ tries) a
unfolding changes
summed_onward start tries s t a ms before same sums says =
    let more = summed_recorded a ms before in
    let now : own a ms ≡ said (ledger start tries) t.room t.deed a = says ∙ ap (λ (x : State). said x t.room t.deed a) same in
    omega (arith, lin)

module _ (h : Held) (start : ℕ) (tries : List Try) (told : History) (es : ℕ → List Movement) (hand : Option ClosingPermit) (r : Running h start tries told es hand) where
  pub sound_now : Sound h.state
  sound_now = subst Sound (sym r.state) (sound_along start r.rate tries)

  pub sized_now : Sized h.state
  sized_now = subst Sized (sym r.state) (sized_along start tries)

  -- A call that is a deed of the ledger, under its own entries.
  pub moves_on : (c : Call) (t : Try) (next : Option ClosingPermit)
      → accepts h.state t.room t.deed ≡ true
      → state_after h c ≡ then h.state t.room t.deed
      → (after h c).desk.founded ≡ true
      → Archived (after h c).desk (after h c).bytes (λ a. recorded a (entered h c) (es a))
      → (is_resting (state_after h c).stage ≡ false → (after h c).desk.used + 33 ≤ (after h c).desk.slots)
      → ((p : ClosingPermit) → next ≡ Some p → Out (after h c).desk (state_after h c) p)
      → ((a : ℕ) → known_account a ≡ true → own a (entered h c) ≡ said h.state t.room t.deed a)
      → Running (after h c) start (t ∷ tries) (t.deed ∷ told) (λ a. recorded a (entered h c) (es a)) next
  moves_on c t next takes is founded archived room out says =
      let on = onward start tries told h.state (state_after h c) t r.state r.tells takes is in
      record {
        founded = founded;
        rate = r.rate;
        state = on.0;
        tells = on.1;
        archived = archived;
        room = room;
        out = out;
        sums = λ a k. summed_onward start tries h.state t a (entered h c) (es a) r.state (r.sums a k) (says a k);
      }

-- Notes at the desk leave the archive alone.
pub laid_archived : (d : Desk) (xs : List ℕ) (es : ℕ → List Movement) (b : Bool) → Archived d xs es → Archived (with_laid d b) xs es
laid_archived d xs es b k = record { long = k.long; least = k.least; most = k.most; sized = k.sized; sound = k.sound; count = k.count; tops = k.tops; chains = k.chains }

pub settled_archived : (d : Desk) (xs : List ℕ) (es : ℕ → List Movement) (cs : List _) → Archived d xs es → Archived (with_settled d cs) xs es
settled_archived d xs es cs k = record { long = k.long; least = k.least; most = k.most; sized = k.sized; sound = k.sound; count = k.count; tops = k.tops; chains = k.chains }
