-- Every ledger agrees with the tally of its history.
use Rattle.std.specs.Prelude.{◌≡◌, ℕ, ◌-◌, ◌*◌, Bool, true, cond, List, [], ◌∷◌, ℤ, pos, ◌+ℤ◌, ◌-ℤ◌, Ok, Err, Result, ◌==◌, slice_index_or}
use Rattle.refusal.specs.declared.Refusal.{Refusal}
use Rattle.refusal.specs.declared.Refusal.TheVariants.{OutOfRange}
use Rattle.rules.specs.Units.{fen_units}
use Rattle.ledger.specs.declared.state.Deal.{Deal}
use Rattle.ledger.specs.declared.state.Settlement.{Settlement}
use Rattle.ledger.specs.declared.state.State.{State}
use Rattle.ledger.specs.Cash.{credit_refusal, debit_refusal}
use Rattle.ledger.specs.Places.{account_at, equity, known_account, known_place}
use Rattle.ledger.specs.Settle.{revalue_answer}
use Rattle.ledger.specs.Sums.{total_to}
use Rattle.ledger.specs.Trade.{bargain, exchange_answer}
use Rattle.tally.specs.Deeds.{Deed, Try, is_none, ledger, history}
use Rattle.tally.specs.Deeds.{Deed.lists, Deed.reweighs, Deed.opens, Deed.pays_in, Deed.pays_out, Deed.quotes, Deed.trades, Deed.delivers, Deed.closes, Deed.settles}
use Rattle.tally.specs.Tally.{History, if_so, long, short, tally_equity, all_cash_in, all_cash_out, just_settled}

-- What a transition says of an account's change: the answer of a trade is each side's fee, that of a settling every change.
abbrev pub fee_said : Result ℕ Refusal → Deal → ℕ → ℤ
fee_said (Ok fee) d a = (pos 0 -ℤ if_so (a == d.buyer) (pos fee)) -ℤ if_so (a == d.seller) (pos fee)
fee_said (Err w) d a = pos 0

abbrev pub change_said : Result Settlement Refusal → ℕ → ℤ
change_said (Ok x) a = slice_index_or x.changes (a - 1) (pos 0)
change_said (Err w) a = pos 0

abbrev pub said : State → Bool → Deed → ℕ → ℤ
said s room (lists l) a = pos 0
said s room (reweighs p ratio) a = pos 0
said s room opens a = pos 0
said s room (pays_in b fen) a = if_so (is_none (credit_refusal s b fen room)) (if_so (a == b) (pos (fen_units * fen)))
said s room (pays_out b fen) a = pos 0 -ℤ if_so (is_none (debit_refusal s b fen room)) (if_so (a == b) (pos (fen_units * fen)))
said s room (quotes p bid ask) a = pos 0
said s room (trades rule d) a = fee_said (exchange_answer (bargain rule.opening s d room) d) d a
said s room (delivers p price) a = pos 0
said s room (closes rate) a = pos 0
said s room (settles price margin) a = change_said (revalue_answer price.meaning margin.holding s) a

unfoldable pub changes : ℕ → List Try → ℕ → ℤ
changes start [] a = pos 0
changes start (t ∷ ts) a = changes start ts a +ℤ said (ledger start ts) t.room t.deed a

pub record Agrees (start : ℕ) (tries : List Try) (s : State) (h : History) : Type 0 where
  -- each account's equity is what the accepted deeds come to
  pub each : (a : ℕ) → known_account a ≡ true → equity (account_at s (a - 1)) ≡ tally_equity start h a
  -- all equities and the ledger's own fees are all cash in less all cash out
  pub all : total_to (λ a. equity (account_at s a)) 32 +ℤ pos s.fees ≡ pos (all_cash_in h) -ℤ pos (all_cash_out h)
  -- what each transition says it changed sums to the equity
  pub told : (a : ℕ) → known_account a ≡ true → changes start tries a ≡ equity (account_at s (a - 1))
  -- once settled, an account without an open contract has no margin
  pub idle : just_settled h ≡ true → (a : ℕ) → known_account a ≡ true
      → ((p : ℕ) → known_place p ≡ true → (long start h a p ≡ 0) × (short start h a p ≡ 0)) → (account_at s (a - 1)).margin ≡ 0

-- An account's equity, as a ledger has it and as a history tells it.
abbrev pub equity_at : State → ℕ → Result ℤ Refusal
equity_at s a = cond (known_account a) (Ok (equity (account_at s (a - 1)))) (Err OutOfRange)

abbrev pub equity_told : ℕ → History → ℕ → Result ℤ Refusal
equity_told start h a = cond (known_account a) (Ok (tally_equity start h a)) (Err OutOfRange)

-- An answer that is the tally of every history that leads to this state.
abbrev pub Tallied : State → ℕ → Result ℤ Refusal → Type 0
Tallied s a r = (start : ℕ) (tries : List Try) → s ≡ ledger start tries → r ≡ equity_told start (history start tries) a

-- For every starting rate and every list of tries, accepted or refused.
abbrev pub LedgersAgree : Type 0
LedgersAgree = (start : ℕ) (tries : List Try) → Agrees start tries (ledger start tries) (history start tries)
