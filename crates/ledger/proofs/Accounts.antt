-- One account changed, every other as it was.
use Rattle.std.proofs.Common.{◌≡◌, ℕ, ◌<◌, List, length, get_or, set, sym, subst, inl, inr, arith}
use Rattle.std.proofs.lemmas.List.{get_or-set_same, get_or-set_other}
use Rattle.std.proofs.lemmas.Bool.{cases_eq}
use Rattle.ledger.specs.declared.state.Account.{Account}
use Rattle.ledger.specs.declared.state.State.{State}
use Rattle.ledger.specs.Places.{no_account, with_account}
use Rattle.ledger.specs.Sound.{Sound, Bounded, Counted, settled_days, taken}

-- What holds of every account of a list holds after one of them is replaced.
pub each_account : (P : Account → Type 0) (xs : List Account) (a : ℕ) (x : Account) → length xs ≡ 32 → a < 32 → P x → ((b : ℕ) → b < 32 → P (get_or xs b no_account)) → (b : ℕ) → b < 32 → P (get_or (set xs a x) b no_account)
each_account P xs a x long lt new old b bl =
    elim (cases_eq b a) [
      | inl same ↦ subst (λ (i : ℕ). P (get_or (set xs a x) i no_account)) (sym same) (subst P (sym (get_or-set_same xs a x no_account (omega arith))) new)
      | inr ne ↦ subst P (sym (get_or-set_other xs a b x no_account ne)) (old b bl)
    ]

pub account_keeps : (s : State) (a : ℕ) (x : Account) → length s.accounts ≡ 32 → a < 32 → Sound s → Bounded (settled_days s) (taken s) x → Counted x → Sound (with_account s a x)
account_keeps s a x long lt sound bounds counts = record {
  ranges = sound.ranges;
  fees = sound.fees;
  rows = sound.rows;
  paths = sound.paths;
  terms = sound.terms;
  days = sound.days;
  deliveries = sound.deliveries;
  balance = sound.balance;
  traded = sound.traded;
  vacant = sound.vacant;
  accounts = each_account (Bounded (settled_days s) (taken s)) s.accounts a x long lt bounds sound.accounts;
  counts = each_account Counted s.accounts a x long lt counts sound.counts;
}
