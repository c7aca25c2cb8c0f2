-- What the ledger's answer to a trade tells: a fee that fits, and two known accounts.
use Rattle.std.proofs.Common.{◌≡◌, ℕ, ◌*◌, ◌≤◌, Bool, true, ◌&&◌, Ok, Err, Result, sym, refl, ap₂, arith}
use Rattle.std.proofs.lemmas.Nat.{mul-le}
use Rattle.std.proofs.lemmas.Bool.{le-leb, not-false}
use Rattle.refusal.specs.declared.Refusal.{Refusal}
use Rattle.refusal.proofs.Passed.{passed}
use Rattle.rules.specs.Margin.{Fair}
use Rattle.ledger.specs.declared.state.Bargain.{Bargain}
use Rattle.ledger.specs.declared.state.Deal.{Deal}
use Rattle.ledger.specs.declared.state.State.{State}
use Rattle.ledger.specs.Places.{known_account}
use Rattle.ledger.specs.Sound.{Sound}
use Rattle.ledger.specs.Trade.{bargain, exchange_answer, exchange_state, fee_of, sides_reasons}
use Rattle.book.specs.Trading.{DealtIn}
use Rattle.ledger.proofs.Exchanging.{struck, tradable}

pub record Dealt (d : Deal) (room : Bool) (fee : ℕ) : Type 0 where
  pub roomy : room ≡ true
  pub fits : fee ≤ 8000000000000000000
  pub buyer : known_account d.buyer ≡ true
  pub seller : known_account d.seller ≡ true

among : (a : ℕ) → 1 ≤ a → a ≤ 32 → known_account a ≡ true
among a low high = ap₂ ◌&&◌ (le-leb 1 a low) (le-leb a 32 high)

pub dealt : (opening : ℕ → ℕ → ℕ → ℕ) (s : State) (d : Deal) (room : Bool) (fee : ℕ) → ((v q r : ℕ) → Fair v q r (opening v q r)) → Sound s → exchange_answer (bargain opening s d room) d ≡ Ok fee → Dealt d room fee
dealt opening s d room fee fair sound h = go (bargain opening s d room) refl h
  where
    go : (r : Result Bargain Refusal) → bargain opening s d room ≡ r → exchange_answer r d ≡ Ok fee → Dealt d room fee
    go (Ok b) e h =
        let k = struck opening s d room b e in
        let t = tradable opening s d room b fair sound k in
        let is : fee_of b.contract d ≡ fee = cc in
        let few = mul-le (100 * b.contract.fee) d.quantity 1000000 50000 (omega (arith, t.fee)) t.range.most in
        record { roomy = not-false room (passed (sides_reasons s d b room) k.sides).1.1.1.1.0; fits = omega (arith, few, is); buyer = among d.buyer t.range.buyer t.range.buyers; seller = among d.seller t.range.seller t.range.sellers }
    go (Err w) e h = let z : ◌≡◌ {A = ℕ} 0 1 = cc in absurd (omega arith)

pub exchange_stage : (r : Result Bargain Refusal) (s : State) (d : Deal) → (exchange_state r s d).stage ≡ s.stage
exchange_stage (Ok b) s d = refl
exchange_stage (Err w) s d = refl

pub dealt_in : (opening : ℕ → ℕ → ℕ → ℕ) (s : State) (d : Deal) (room : Bool) (r : Result ℕ Refusal) → ((v q r : ℕ) → Fair v q r (opening v q r)) → Sound s → r ≡ exchange_answer (bargain opening s d room) d → DealtIn d room r
dealt_in opening s d room (Ok fee) fair sound is = let k = dealt opening s d room fee fair sound (sym is) in (k.fits, k.buyer, k.seller, k.roomy)
dealt_in opening s d room (Err w) fair sound is = tt
