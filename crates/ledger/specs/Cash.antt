-- Pay-ins and pay-outs (docs/RULES.md, "Cash").
use Rattle.std.specs.Prelude.{ℕ, ◌+◌, ◌-◌, ◌*◌, Bool, not, ◌||◌, List, [], ◌∷◌, pos, ◌+ℤ◌, ◌-ℤ◌, Some, None, Option, ◌==◌, int_lt, nat_le, nat_lt}
use Rattle.refusal.specs.declared.Refusal.{Refusal}
use Rattle.refusal.specs.declared.Refusal.TheVariants.{WrongPhase, OutOfRange, CashAmount, NotAvailable, ThirdPayOut, NoRoom}
use Rattle.refusal.specs.Reasons.{first}
use Rattle.rules.specs.Units.{fen_units, yuan_units, kept_yuan, max_paid_in, day_pay_outs}
use Rattle.ledger.specs.declared.state.Account.{Account}
use Rattle.ledger.specs.declared.state.State.{State}
use Rattle.ledger.specs.Places.{account_at, with_account, is_open, known_account}

abbrev pub credit_reasons : State → ℕ → ℕ → Bool → List (Bool × Refusal)
credit_reasons s account fen room =
    (not (is_open s.stage), WrongPhase)
    ∷ (not (known_account account), OutOfRange)
    ∷ (fen == 0 || nat_lt max_paid_in ((account_at s (account - 1)).paid + fen), CashAmount)
    ∷ (not room, NoRoom)
    ∷ []

abbrev pub credit_refusal : State → ℕ → ℕ → Bool → Option Refusal
credit_refusal s account fen room = first (credit_reasons s account fen room)

abbrev pub credited_account : Account → ℕ → Account
credited_account x fen = record { available = x.available +ℤ pos (fen_units * fen); margin = x.margin; paid = x.paid + fen; payouts = x.payouts }

abbrev pub credit_state : Option Refusal → State → ℕ → ℕ → State
credit_state None s account fen = with_account s (account - 1) (credited_account (account_at s (account - 1)) fen)
credit_state (Some w) s account fen = s

-- A pay-out leaves 50 yuan.
abbrev pub debit_reasons : State → ℕ → ℕ → Bool → List (Bool × Refusal)
debit_reasons s account fen room =
    (not (is_open s.stage), WrongPhase)
    ∷ (not (known_account account), OutOfRange)
    ∷ ((fen == 0), CashAmount)
    ∷ (int_lt (account_at s (account - 1)).available (pos (fen_units * fen + kept_yuan * yuan_units)), NotAvailable)
    ∷ (nat_le day_pay_outs (account_at s (account - 1)).payouts, ThirdPayOut)
    ∷ (not room, NoRoom)
    ∷ []

abbrev pub debit_refusal : State → ℕ → ℕ → Bool → Option Refusal
debit_refusal s account fen room = first (debit_reasons s account fen room)

abbrev pub debited_account : Account → ℕ → Account
debited_account x fen = record { available = x.available -ℤ pos (fen_units * fen); margin = x.margin; paid = x.paid; payouts = x.payouts + 1 }

abbrev pub debit_state : Option Refusal → State → ℕ → ℕ → State
debit_state None s account fen = with_account s (account - 1) (debited_account (account_at s (account - 1)) fen)
debit_state (Some w) s account fen = s
