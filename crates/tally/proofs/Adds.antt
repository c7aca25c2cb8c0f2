-- All accounts together: what one buys another sells.
use Rattle.std.proofs.Common.{◌≡◌, ℕ, ◌+◌, ◌*◌, eqb, List, [], ◌∷◌, ℤ, pos, ◌+ℤ◌, ◌-ℤ◌, neg_ℤ, ap, ◌∙◌, ap₂, arith}
use lib.IntN.{+ℤ_invr}
use Rattle.ledger.specs.declared.state.State.{State}
use Rattle.ledger.specs.Places.{account_at, equity}
use Rattle.ledger.specs.Sums.{sum_to, total_to}
use Rattle.tally.specs.Tally.{History, Trade, share, if_so, sum, gain, gained, settled_trades, fees, cash_in, cash_out, all_cash_in, all_cash_out, tally_equity}
use Rattle.tally.proofs.Algebra.{lin}
use Rattle.tally.proofs.Lists.{Each, Each.none, Each.more, Among}
use Rattle.tally.proofs.Matches.{Matches, Past}
use Rattle.tally.proofs.Sums.{total_same, total_add, total_neg, total_pos, total_zero, total_single, sum_add, sum_single}

pub record Adds (start : ℕ) (s : State) (h : History) : Type 0 where
  pub collected : s.fees ≡ sum_to (λ a. fees start h (a + 1)) 32
  pub paid : sum_to (λ a. cash_in h (a + 1)) 32 ≡ all_cash_in h
  pub drawn : sum_to (λ a. cash_out h (a + 1)) 32 ≡ all_cash_out h

no_gain : (h : History) (k : ℕ) (t : Trade) → Past k t → total_to (λ a. gained h (a + 1) t) 32 ≡ pos 0
no_gain h k t f =
    let g = gain h t in
    total_add 32 (λ a. if_so (eqb (a + 1) t.deal.buyer) g) (λ a. neg_ℤ (if_so (eqb (a + 1) t.deal.seller) g))
    ∙ ap₂ (λ x y. x +ℤ y) (total_single 32 t.deal.buyer g f.buyer) (total_neg 32 (λ a. if_so (eqb (a + 1) t.deal.seller) g) ∙ ap neg_ℤ (total_single 32 t.deal.seller g f.seller))
    ∙ +ℤ_invr g

no_gains : (h : History) (k : ℕ) (ts : List Trade) → Each (Past k) ts → total_to (λ a. sum (gained h (a + 1)) ts) 32 ≡ pos 0
no_gains h k [] none = total_zero 32
no_gains h k (t ∷ ts) (more f fs) = total_add 32 (λ a. sum (gained h (a + 1)) ts) (λ a. gained h (a + 1) t) ∙ ap₂ (λ x y. x +ℤ y) (no_gains h k ts fs) (no_gain h k t f)

totals : (n : ℕ) (A B C : ℕ → ℕ) (T : ℕ → ℤ) → total_to (λ a. pos (A a) -ℤ pos (B a) -ℤ pos (C a) +ℤ T a) n ≡ pos (sum_to A n) -ℤ pos (sum_to B n) -ℤ pos (sum_to C n) +ℤ total_to T n
totals n A B C T =
    total_add n (λ a. pos (A a) -ℤ pos (B a) -ℤ pos (C a)) T ∙ ap (λ z. z +ℤ total_to T n)
    (total_add n (λ a. pos (A a) -ℤ pos (B a)) (λ a. neg_ℤ (pos (C a)))
    ∙ ap₂ (λ x y. x +ℤ y) (total_add n (λ a. pos (A a)) (λ a. neg_ℤ (pos (B a))) ∙ ap₂ (λ x y. x +ℤ y) (total_pos n A) (total_neg n (λ a. pos (B a)) ∙ ap neg_ℤ (total_pos n B)))
    (total_neg n (λ a. pos (C a)) ∙ ap neg_ℤ (total_pos n C)))

gathered : (f ci co F I O : ℕ) (T E : ℤ) → T ≡ pos 0 → f ≡ F → ci ≡ I → co ≡ O → E ≡ pos ci -ℤ pos co -ℤ pos F +ℤ T → E +ℤ pos f ≡ pos I -ℤ pos O
gathered f ci co F I O T E t e i o k = omega (arith, lin)

pub add_up : (start : ℕ) (s : State) (h : History) → Matches start s h → Adds start s h
    → total_to (λ a. equity (account_at s a)) 32 +ℤ pos s.fees ≡ pos (all_cash_in h) -ℤ pos (all_cash_out h)
add_up start s h m k =
    gathered s.fees (sum_to (λ a. cash_in h (a + 1)) 32) (sum_to (λ a. cash_out h (a + 1)) 32) (sum_to (λ a. fees start h (a + 1)) 32) (all_cash_in h) (all_cash_out h)
    (total_to (λ a. sum (gained h (a + 1)) (settled_trades start h)) 32) (total_to (λ a. equity (account_at s a)) 32) (no_gains h s.highest (settled_trades start h) m.past) k.collected k.paid k.drawn
    (total_same 32 (λ a. equity (account_at s a)) (λ a. tally_equity start h (a + 1)) (λ a i. ap (λ b. equity (account_at s b)) (omega arith) ∙ m.equity (a + 1) (record { low = omega arith; high = omega arith }))
    ∙ totals 32 (λ a. cash_in h (a + 1)) (λ a. cash_out h (a + 1)) (λ a. fees start h (a + 1)) (λ a. sum (gained h (a + 1)) (settled_trades start h)))

-- One share more.
pub one_more : (f : ℕ → ℕ) (b x : ℕ) → Among 32 b → sum_to (λ a. f a + share (eqb (a + 1) b) x) 32 ≡ sum_to f 32 + x
one_more f b x k = let e = sum_add 32 f (λ a. share (eqb (a + 1) b) x) in let z = sum_single 32 b x k in omega arith

pub two_more : (f : ℕ → ℕ) (b c x : ℕ) → Among 32 b → Among 32 c → sum_to (λ a. f a + (share (eqb (a + 1) b) x + share (eqb (a + 1) c) x)) 32 ≡ sum_to f 32 + 2 * x
two_more f b c x i j =
    let e = sum_add 32 f (λ a. share (eqb (a + 1) b) x + share (eqb (a + 1) c) x) in
    let d = sum_add 32 (λ a. share (eqb (a + 1) b) x) (λ a. share (eqb (a + 1) c) x) in
    let y = sum_single 32 b x i in let z = sum_single 32 c x j in omega arith
