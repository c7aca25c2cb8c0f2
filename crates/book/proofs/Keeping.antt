-- A permit that is good for a book stays good through the calls that hand it back.
use Rattle.std.proofs.Common.{◌≡◌, ℕ, cond, not, ◌||◌, eqb, List, [], ◌∷◌, Some, None, Ok, Err, Option, Result, sym, refl, ap, ◌∙◌, arith}
use Rattle.refusal.specs.declared.Refusal.{Refusal}
use Rattle.refusal.specs.declared.Refusal.TheVariants.{WrongPhase, ForeignPermit}
use Rattle.refusal.specs.Reasons.{first}
use Rattle.ledger.specs.declared.state.Bargain.{Bargain}
use Rattle.ledger.specs.declared.state.Deal.{Deal}
use Rattle.ledger.specs.declared.state.State.{State}
use Rattle.ledger.specs.Cash.{credit_state, debit_state}
use Rattle.ledger.specs.Days.{close_state}
use Rattle.ledger.specs.Trade.{exchange_state}
use Rattle.book.specs.declared.desk.Desk.{Desk}
use Rattle.book.specs.declared.desk.Phase.TheVariants.{Idle}
use Rattle.book.specs.declared.entries.Movement.{Movement}
use Rattle.book.specs.declared.permit.DayPermit.{DayPermit}
use Rattle.book.specs.Cash.{pay_in_refusal, pay_in_moves, pay_out_refusal, pay_out_moves}
use Rattle.book.specs.Closing.{closing_for}
use Rattle.book.specs.Desk.{phase_in, is_day}
use Rattle.book.specs.Entries.{desk_with}
use Rattle.book.specs.Gates.{day_gate, spent_for}
use Rattle.book.specs.Trading.{trade_bargain, trade_moves}
use Rattle.book.proofs.Staged.{credit_stage, debit_stage}
use Rattle.book.proofs.Striking.{exchange_stage}
use Rattle.book.proofs.Entering.{with_founded, with_laid_kept, with_number}

-- The gate of a day permit looks at the phase, the note of a permit laid down, the number and the day alone.
day_same : (d e : Desk) (s u : State) (p : DayPermit) → e.founded ≡ d.founded → e.laid ≡ d.laid → e.number ≡ d.number → u.stage ≡ s.stage → u.day ≡ s.day → day_gate e u p ≡ day_gate d s p
day_same d e s u p f l n g t = λ i. first ((not (is_day (cond (f i) (phase_in (g i)) Idle)) || l i, WrongPhase) ∷ (not (eqb p.book (n i)) || not (eqb p.day (t i)), ForeignPermit) ∷ [])

pub day_kept : (d : Desk) (ms : List Movement) (s u : State) (p : DayPermit) → u.stage ≡ s.stage → u.day ≡ s.day → day_gate d s p ≡ None → day_gate (desk_with d ms) u p ≡ None
day_kept d ms s u p g t good = day_same d (desk_with d ms) s u p (with_founded ms d) (with_laid_kept ms d) (with_number ms d) g t ∙ good

-- The same, as the contract of a call tells it.
pub still_good : (d e : Desk) (ms : List Movement) (s u v : State) (p q : DayPermit) → q ≡ p → e ≡ desk_with d ms → v ≡ u → u.stage ≡ s.stage → u.day ≡ s.day → day_gate d s p ≡ None → day_gate e v q ≡ None
still_good d e ms s u v p q same desk state g t good = (λ i. day_gate (desk i) (state i) (same i)) ∙ day_kept d ms s u p g t good

pub credit_day : (o : Option Refusal) (s : State) (account fen : ℕ) → (credit_state o s account fen).day ≡ s.day
credit_day None s account fen = refl
credit_day (Some w) s account fen = refl

pub debit_day : (o : Option Refusal) (s : State) (account fen : ℕ) → (debit_state o s account fen).day ≡ s.day
debit_day None s account fen = refl
debit_day (Some w) s account fen = refl

pub exchange_day : (r : Result Bargain Refusal) (s : State) (d : Deal) → (exchange_state r s d).day ≡ s.day
exchange_day (Ok b) s d = refl
exchange_day (Err w) s d = refl

-- As the contracts of the calls tell it.
pub pay_in_good : (d e : Desk) (s v : State) (n : ℕ) (p q : DayPermit) (account fen : ℕ) → q ≡ p
    → e ≡ desk_with d (pay_in_moves (pay_in_refusal d s n p account fen) s account fen) → v ≡ credit_state (pay_in_refusal d s n p account fen) s account fen → day_gate d s p ≡ None → day_gate e v q ≡ None
pay_in_good d e s v n p q account fen same desk state good =
    let o = pay_in_refusal d s n p account fen in
    still_good d e (pay_in_moves o s account fen) s (credit_state o s account fen) v p q same desk state (credit_stage o s account fen) (credit_day o s account fen) good

pub pay_out_good : (d e : Desk) (s v : State) (n : ℕ) (p q : DayPermit) (account fen : ℕ) → q ≡ p
    → e ≡ desk_with d (pay_out_moves (pay_out_refusal d s n p account fen) s account fen) → v ≡ debit_state (pay_out_refusal d s n p account fen) s account fen → day_gate d s p ≡ None → day_gate e v q ≡ None
pay_out_good d e s v n p q account fen same desk state good =
    let o = pay_out_refusal d s n p account fen in
    still_good d e (pay_out_moves o s account fen) s (debit_state o s account fen) v p q same desk state (debit_stage o s account fen) (debit_day o s account fen) good

pub trade_good : (opening : ℕ → ℕ → ℕ → ℕ) (d e : Desk) (s v : State) (n : ℕ) (p q : DayPermit) (deal : Deal) → q ≡ p
    → e ≡ desk_with d (trade_moves (trade_bargain opening d s n p deal) s deal) → v ≡ exchange_state (trade_bargain opening d s n p deal) s deal → day_gate d s p ≡ None → day_gate e v q ≡ None
trade_good opening d e s v n p q deal same desk state good =
    let r = trade_bargain opening d s n p deal in
    still_good d e (trade_moves r s deal) s (exchange_state r s deal) v p q same desk state (exchange_stage r s deal) (exchange_day r s deal) good

-- An end that is refused hands the same permit back to the same book.
refused_same : (p q : DayPermit) (o : Option Refusal) (w : Refusal) → spent_for p (closing_for p) o ≡ Err (q, w) → (q ≡ p) × (o ≡ Some w)
refused_same p q None w h = let z : ◌≡◌ {A = ℕ} 0 1 = cc in absurd (omega arith)
refused_same p q (Some v) w h =
    let pair : (p, v) ≡ (q, w) = cc in
    (sym (ap (λ (x : DayPermit × Refusal). x.0) pair), ap (λ (x : DayPermit × Refusal). Some x.1) pair)

pub end_refused_good : (d e : Desk) (s v : State) (p q : DayPermit) (o : Option Refusal) (w : Refusal) (rate : ℕ) → spent_for p (closing_for p) o ≡ Err (q, w) → e ≡ d → v ≡ close_state o s rate → day_gate d s p ≡ None → day_gate e v q ≡ None
end_refused_good d e s v p q o w rate answer desk state good =
    let k = refused_same p q o w answer in
    (λ i. day_gate (desk i) ((state ∙ ap (λ x. close_state x s rate) k.1) i) (k.0 i)) ∙ good
