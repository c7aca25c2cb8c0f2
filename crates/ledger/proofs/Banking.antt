-- Pay-ins and pay-outs keep a ledger sound.
use Rattle.std.proofs.Common.{◌≡◌, ℕ, ◌+◌, ◌-◌, ◌*◌, ◌<◌, ◌≤◌, Bool, false, not, eqb, leb, length, ℤ, pos, ◌≤ℤ◌, None, arith}
use lib.Signed.{lt_z}
use Rattle.std.proofs.lemmas.Int.{ints}
use Rattle.std.proofs.lemmas.Bool.{and_parts, or_parts, not-false, leb-true, leb-false, ltb-false}
use Rattle.refusal.proofs.Passed.{passed}
use Rattle.ledger.specs.declared.state.Account.{Account}
use Rattle.ledger.specs.declared.state.State.{State}
use Rattle.ledger.specs.Cash.{credit_reasons, debit_reasons, credit_refusal, credit_state, credited_account, debit_refusal, debit_state, debited_account}
use Rattle.ledger.specs.Places.{account_at, known_account}
use Rattle.ledger.specs.Sound.{Sound, Bounded, settled_days, taken}
use Rattle.ledger.proofs.Accounts.{account_keeps}

known : (a : ℕ) → not (known_account a) ≡ false → (1 ≤ a) × (a ≤ 32)
known a h = let p = and_parts (leb 1 a) (leb a 32) (not-false (known_account a) h) in (leb-true 1 a p.0, leb-true a 32 p.1)

credited_bounds : (days fees : ℕ) (x : Account) (fen : ℕ) → Bounded days fees x → Bounded days fees (credited_account x fen)
credited_bounds days fees x fen b =
    let low = b.0 in let high = b.1 in let free = b.2 in let margin = b.3 in
    (omega (arith, ints), omega (arith, ints), omega (arith, ints), omega arith)

pub credit_keeps : (s : State) (account fen : ℕ) (room : Bool) → length s.accounts ≡ 32 → Sound s → credit_refusal s account fen room ≡ None → Sound (credit_state None s account fen)
credit_keeps s account fen room long sound h =
    let ok = passed (credit_reasons s account fen room) h in
    let range = known account ok.1.0 in
    let amount = or_parts (eqb fen 0) _ ok.1.1.0 in
    let a = account - 1 in
    let lt : a < 32 = omega (arith, range.0, range.1) in
    let counts = sound.counts a lt in
    account_keeps s a (credited_account (account_at s a) fen) long lt sound
    (credited_bounds (settled_days s) (taken s) (account_at s a) fen (sound.accounts a lt))
    (ltb-false _ _ amount.1, counts.1)

not_below : (a b : ℤ) → lt_z a b ≡ false → b ≤ℤ a
not_below a b h = grind (arith, ints)

-- What is left after a pay-out is above zero, and so within every bound.
debited_bounds : (days fees : ℕ) (x : Account) (fen : ℕ) → pos (100 * fen + 500000) ≤ℤ x.available → Bounded days fees x → Bounded days fees (debited_account x fen)
debited_bounds days fees x fen left b =
    let high = b.1 in let margin = b.3 in
    (omega (arith, ints), omega (arith, ints), omega (arith, ints), omega arith)

pub debit_keeps : (s : State) (account fen : ℕ) (room : Bool) → length s.accounts ≡ 32 → Sound s → debit_refusal s account fen room ≡ None → Sound (debit_state None s account fen)
debit_keeps s account fen room long sound h =
    let ok = passed (debit_reasons s account fen room) h in
    let range = known account ok.1.0 in
    let a = account - 1 in
    let lt : a < 32 = omega (arith, range.0, range.1) in
    let counts = sound.counts a lt in
    let few = leb-false 2 (account_at s a).payouts ok.1.1.1.1.0 in
    account_keeps s a (debited_account (account_at s a) fen) long lt sound
    (debited_bounds (settled_days s) (taken s) (account_at s a) fen (not_below _ _ ok.1.1.1.0) (sound.accounts a lt))
    (counts.0, omega (arith, few))
