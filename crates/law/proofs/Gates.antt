-- What a call that passed its gate tells of the book.
use Rattle.std.proofs.Common.{◌≡◌, ℕ, ◌+◌, ◌-◌, ◌*◌, ◌≤◌, Bool, true, false, cond, not, ◌||◌, eqb, [], ◌∷◌, Some, None, Option, sym, refl, ap, ◌∙◌, arith}
use Rattle.std.proofs.lemmas.Bool.{or_parts, not-false, eqb-true, leb-true, eq-eqb, false≢true, cond-true}
use Rattle.refusal.specs.declared.Refusal.{Refusal}
use Rattle.refusal.specs.declared.Refusal.TheVariants.{ArchiveLength, WrongPhase, ForeignPermit}
use Rattle.refusal.specs.Reasons.{first}
use Rattle.refusal.proofs.Passed.{passed}
use Rattle.ledger.specs.declared.state.Stage.{Stage}
use Rattle.ledger.specs.declared.state.Stage.TheVariants.{Resting, Open, Closed}
use Rattle.ledger.specs.declared.state.State.{State}
use Rattle.ledger.specs.Places.{is_resting, is_open, is_closed}
use Rattle.book.specs.declared.desk.Desk.{Desk}
use Rattle.book.specs.declared.desk.Phase.TheVariants.{Idle}
use Rattle.book.specs.declared.permit.ClosingPermit.{ClosingPermit}
use Rattle.book.specs.declared.permit.DayPermit.{DayPermit}
use Rattle.book.specs.Closing.{settle_refusal}
use Rattle.book.specs.Desk.{phase_in, phase_of, is_resting_phase, is_day, is_closing, wrong_length, has_room, free_slots}
use Rattle.book.specs.Gates.{or_else, resting_gate, day_reasons, closing_reasons, day_gate, closing_gate, entry_gate, settle_gate}
use Rattle.book.specs.Permits.{take_up_day_refusal, take_up_closing_refusal}

pub none_some : {X : Type 0} (w : X) → None ≡ Some w → ⊥
none_some w h = let z : ◌≡◌ {A = ℕ} 0 1 = cc in omega arith

pub both_none : (a b : Option Refusal) → or_else a b ≡ None → (a ≡ None) × (b ≡ None)
both_none None b h = (refl, h)
both_none (Some w) b h = absurd (none_some w (sym h))

pub open_not_closed : (g : Stage) → is_open g ≡ true → is_closed g ≡ true → ⊥
open_not_closed Resting o c = false≢true o
open_not_closed Open o c = false≢true c
open_not_closed Closed o c = false≢true o

pub resting_not_closed : (g : Stage) → is_resting g ≡ true → is_closed g ≡ true → ⊥
resting_not_closed Resting o c = false≢true c
resting_not_closed Open o c = false≢true o
resting_not_closed Closed o c = false≢true o

pub open_busy : (g : Stage) → is_open g ≡ true → is_resting g ≡ false
open_busy Resting o = absurd (false≢true o)
open_busy Open o = refl
open_busy Closed o = refl

pub closed_busy : (g : Stage) → is_closed g ≡ true → is_resting g ≡ false
closed_busy Resting o = absurd (false≢true o)
closed_busy Open o = refl
closed_busy Closed o = refl

resting_stage : (f : Bool) (g : Stage) → is_resting_phase (cond f (phase_in g) Idle) ≡ true → (f ≡ true) × (is_resting g ≡ true)
resting_stage true Resting h = (refl, refl)
resting_stage true Open h = absurd (false≢true h)
resting_stage true Closed h = absurd (false≢true h)
resting_stage false g h = absurd (false≢true h)

day_stage : (f : Bool) (g : Stage) → is_day (cond f (phase_in g) Idle) ≡ true → (f ≡ true) × (is_open g ≡ true)
day_stage true Resting h = absurd (false≢true h)
day_stage true Open h = (refl, refl)
day_stage true Closed h = absurd (false≢true h)
day_stage false g h = absurd (false≢true h)

closing_stage : (f : Bool) (g : Stage) → is_closing (cond f (phase_in g) Idle) ≡ true → (f ≡ true) × (is_closed g ≡ true)
closing_stage true Resting h = absurd (false≢true h)
closing_stage true Open h = absurd (false≢true h)
closing_stage true Closed h = (refl, refl)
closing_stage false g h = absurd (false≢true h)

closing_phase : (f : Bool) (g : Stage) → f ≡ true → is_closed g ≡ true → is_closing (cond f (phase_in g) Idle) ≡ true
closing_phase true Resting f h = absurd (false≢true h)
closing_phase true Open f h = absurd (false≢true h)
closing_phase true Closed f h = refl
closing_phase false g f h = absurd (false≢true f)

pub rests : (d : Desk) (s : State) → resting_gate d s ≡ None → (d.founded ≡ true) × (is_resting s.stage ≡ true)
rests d s h = resting_stage d.founded s.stage (not-false _ (passed ((not (is_resting_phase (phase_of d s.stage)), WrongPhase) ∷ []) h).0)

pub record DayOpen (d : Desk) (s : State) (p : DayPermit) : Type 0 where
  pub founded : d.founded ≡ true
  pub opened : is_open s.stage ≡ true
  pub held : d.laid ≡ false
  pub book : p.book ≡ d.number
  pub day : p.day ≡ s.day

pub day_open : (d : Desk) (s : State) (p : DayPermit) → day_gate d s p ≡ None → DayOpen d s p
day_open d s p h =
    let ok = passed (day_reasons d s p) h in
    let phase = or_parts (not (is_day (phase_of d s.stage))) d.laid ok.0 in
    let named = or_parts (not (eqb p.book d.number)) (not (eqb p.day s.day)) ok.1.0 in
    let stage = day_stage d.founded s.stage (not-false _ phase.0) in
    record { founded = stage.0; opened = stage.1; held = phase.1; book = eqb-true _ _ (not-false _ named.0); day = eqb-true _ _ (not-false _ named.1) }

-- A closing permit that is out: the book waits for it, and it names the book and its day.
pub record Out (d : Desk) (s : State) (p : ClosingPermit) : Type 0 where
  pub founded : d.founded ≡ true
  pub closed : is_closed s.stage ≡ true
  pub held : d.laid ≡ false
  pub book : p.book ≡ d.number
  pub day : p.day ≡ s.day

pub closing_out : (d : Desk) (s : State) (p : ClosingPermit) → closing_gate d s p ≡ None → Out d s p
closing_out d s p h =
    let ok = passed (closing_reasons d s p) h in
    let phase = or_parts (not (is_closing (phase_of d s.stage))) d.laid ok.0 in
    let named = or_parts (not (eqb p.book d.number)) (not (eqb p.day s.day)) ok.1.0 in
    let stage = closing_stage d.founded s.stage (not-false _ phase.0) in
    record { founded = stage.0; closed = stage.1; held = phase.1; book = eqb-true _ _ (not-false _ named.0); day = eqb-true _ _ (not-false _ named.1) }

-- The length of the archive is judged before.
behind_length : (b : Bool) (o : Option Refusal) → cond b (Some ArchiveLength) o ≡ None → o ≡ None
behind_length true o h = absurd (none_some ArchiveLength (sym h))
behind_length false o h = h

pub entry_open : (d : Desk) (s : State) (n : ℕ) (p : DayPermit) → entry_gate d s n p ≡ None → DayOpen d s p
entry_open d s n p h = day_open d s p (behind_length (wrong_length d n) (day_gate d s p) h)

pub settle_out : (d : Desk) (s : State) (n : ℕ) (p : ClosingPermit) → settle_gate d s n p ≡ None → Out d s p
settle_out d s n p h = closing_out d s p (behind_length (wrong_length d n) (closing_gate d s p) h)

pub taken_up : (d : Desk) (s : State) → take_up_closing_refusal d s ≡ None → (d.founded ≡ true) × (is_closed s.stage ≡ true)
taken_up d s h =
    let ok = passed ((not (is_closing (phase_of d s.stage)) || not d.laid, WrongPhase) ∷ []) h in
    closing_stage d.founded s.stage (not-false _ (or_parts (not (is_closing (phase_of d s.stage))) (not d.laid) ok.0).0)

pub day_taken_up : (d : Desk) (s : State) → take_up_day_refusal d s ≡ None → (d.founded ≡ true) × (is_open s.stage ≡ true)
day_taken_up d s h =
    let ok = passed ((not (is_day (phase_of d s.stage)) || not d.laid, WrongPhase) ∷ []) h in
    day_stage d.founded s.stage (not-false _ (or_parts (not (is_day (phase_of d s.stage))) (not d.laid) ok.0).0)

-- A permit that is out passes the gate of settle, with the archive of its book.
gate_passed : (b c e : Bool) → b ≡ false → c ≡ false → e ≡ false → first ((b, ArchiveLength) ∷ (c, WrongPhase) ∷ (e, ForeignPermit) ∷ []) ≡ None
gate_passed b c e p q r = λ i. first ((p i, ArchiveLength) ∷ (q i, WrongPhase) ∷ (r i, ForeignPermit) ∷ [])

right_length : (f : Bool) (n m : ℕ) (b : Bool) → f ≡ true → n ≡ m → cond f (not (eqb n m)) b ≡ false
right_length f n m b t e = cond-true f _ _ t ∙ ap not (eq-eqb n m e)

neither : (a b : Bool) → a ≡ true → b ≡ false → (not a || b) ≡ false
neither a b p q = λ i. not (p i) || q i

pub out_settles : (d : Desk) (s : State) (n : ℕ) (p : ClosingPermit) → n ≡ 32 * d.slots → Out d s p → settle_refusal d s n p ≡ None
out_settles d s n p long o =
    gate_passed _ _ _
    (right_length d.founded n (32 * d.slots) _ o.founded long)
    (neither _ _ (closing_phase d.founded s.stage o.founded o.closed) o.held)
    (λ i. not (eq-eqb p.book d.number o.book i) || not (eq-eqb p.day s.day o.day i))

-- Room for so many entries and the settling.
pub roomy : (d : Desk) (k : ℕ) → has_room d k ≡ true → d.used + k + 33 ≤ d.slots
roomy d k h = let e : k + 32 ≤ d.slots - (d.used + 1) = leb-true (k + 32) (free_slots d) h in omega arith
