-- Sums of outcomes.
use Rattle.std.proofs.Common.{◌≡◌, ℕ, ◌+◌, ◌*◌, ◌<◌, ◌≤◌, List, length, get_or, sum_by, ℤ, pos, Option, sym, refl, ap, ◌∙◌, subst, add-one, arith}
use Rattle.ledger.specs.declared.state.Outcome.{Outcome}
use Rattle.ledger.specs.declared.state.Account.{Account}
use Rattle.ledger.specs.declared.state.Contract.{Contract}
use Rattle.ledger.specs.declared.state.Settled.{Settled}
use Rattle.ledger.specs.declared.state.Stage.TheVariants.{Resting}
use Rattle.ledger.specs.declared.state.State.{State}
use Rattle.ledger.specs.declared.state.Table.{Table}
use Rattle.std.proofs.lemmas.Int.{ints}
use Rattle.ledger.specs.Places.{account_at, place_at, no_account}
use Rattle.ledger.specs.Rows.{Small, row_at}
use Rattle.ledger.specs.Settle.{outcome_at, outcome_to, added, nothing, change_of, settled_account, settled_place, settled_table, settled_by, settled_contract, settlement, Near, NearAll, Roomy, Settleable}
use Rattle.ledger.specs.Sound.{Sound}
use Rattle.ledger.specs.Sums.{sum_to, total_to, tabulated}
use Rattle.ledger.proofs.Exchanging.{small, days_small, taken_small}
use Rattle.ledger.proofs.Tabulated.{tabulated_at, tabulated_length, tabulated_same, sum_same, sum_most, sum_by_index}
use Rattle.ledger.proofs.Trading.{terms_at}

pub outcome_none : (holding : ℕ → ℕ → ℕ → ℕ → ℕ) (s : State) (ps : List ℕ) (a : ℕ) → nothing ≡ outcome_to holding s ps a 0
unfolding sum_to total_to
outcome_none holding s ps a = refl

pub outcome_more : (holding : ℕ → ℕ → ℕ → ℕ → ℕ) (s : State) (ps : List ℕ) (a n : ℕ) → outcome_to holding s ps a (n + 1) ≡ added (outcome_to holding s ps a n) (outcome_at holding s ps a n)
unfolding sum_to total_to
outcome_more holding s ps a n = rw add-one

pub near_more : (n : ℕ) (a b : Outcome) → Near n a → Near 1 b → Near (n + 1) (added a b)
near_more n a b h k =
    let h0 = h.0 in let h1 = h.1 in let h2 = h.2 in let h3 = h.3 in let k0 = k.0 in let k1 = k.1 in let k2 = k.2 in let k3 = k.3 in
    (omega (arith, ints), omega (arith, ints), omega arith, omega arith)

pub near_wide : (n : ℕ) (o : Outcome) → n ≤ 11 → Near n o → Near 11 o
near_wide n o le h =
    let h0 = h.0 in let h1 = h.1 in let h2 = h.2 in let h3 = h.3 in
    (omega (arith, ints), omega (arith, ints), omega arith, omega arith)

pub near_none : Near 0 nothing
near_none = (omega (arith, ints), omega (arith, ints), omega arith, omega arith)

-- A row and its place as a settling needs them.
pub settleable : (s : State) (p : ℕ) → p < 12 → Sound s → Settleable (place_at s p)
settleable s p lt sound c is = let t = terms_at s p c lt sound is in (t.previous, t.delivery)

pub small_row : (s : State) (a p : ℕ) → a < 32 → p < 12 → Sound s → Small (row_at s.table a p)
small_row s a p al pl sound = small _ (sound.rows (a * 12 + p) (omega arith)) (sound.paths (a * 12 + p) (omega arith))

-- Every account of a ledger has room to settle.
pub roomy : (s : State) (a : ℕ) → a < 32 → Sound s → Roomy (account_at s a)
roomy s a al sound =
    let b = sound.accounts a al in
    let b0 = b.0 in let b1 = b.1 in let b2 = b.2 in let b3 = b.3 in
    let p = (sound.counts a al).0 in
    let n = days_small s sound in
    let t = taken_small s sound in
    (omega (arith, ints), omega (arith, ints), omega arith, omega (arith, ints), omega (arith, ints))

-- Each account's outcome, as it was worked out.
pub each : (h : ℕ → ℕ → ℕ → ℕ → ℕ) (s : State) (ps qs : List ℕ) (os : List Outcome) → qs ≡ ps → os ≡ tabulated (λ a. outcome_to h s qs a 12) 32 → (a : ℕ) → a < 32 → get_or os a nothing ≡ outcome_to h s ps a 12
each h s ps qs os eq eo a l =
    ap (λ (zs : List Outcome). get_or zs a nothing) eo ∙ tabulated_at (λ a. outcome_to h s qs a 12) 32 a nothing l ∙ ap (λ (zs : List ℕ). outcome_to h s zs a 12) eq

-- What the delivery fees of all accounts come to at most.
pub fees_small : (os : List Outcome) → length os ≡ 32 → NearAll os → sum_by (λ o. o.fee) os ≤ 38400000000000
fees_small os long near =
    let e = sum_by_index (λ (o : Outcome). o.fee) os nothing in
    let m = sum_most (λ a. (get_or os a nothing).fee) 1200000000000 32 (λ a l. (near a l).2) in
    subst (λ (n : ℕ). n ≤ 38400000000000) (sym (subst (λ (n : ℕ). sum_by (λ (o : Outcome). o.fee) os ≡ sum_to (λ a. (get_or os a nothing).fee) n) long e)) m

-- The parts of a settling, put together.
pub assembled : (h : ℕ → ℕ → ℕ → ℕ → ℕ) (s : State) (ps qs : List ℕ) (os : List Outcome) (fees : ℕ) (xs : List Account) (ys : List (Option Contract)) (t : Table)
    → qs ≡ ps → os ≡ tabulated (λ a. outcome_to h s qs a 12) 32 → fees ≡ sum_by (λ o. o.fee) os
    → xs ≡ tabulated (λ a. settled_account (account_at s a) (get_or os a nothing)) 32 → ys ≡ tabulated (λ p. settled_place s.day (get_or qs p 0) (place_at s p)) 12 → t ≡ settled_table s
    → record { stage = Resting; rate = s.closing; closing = s.closing; day = s.day; highest = s.highest; fees = s.fees + fees; accounts = xs; places = ys; table = t } ≡ settled_by h s ps
assembled h s ps qs os fees xs ys t eq eo ef ex ey et =
    let f : fees ≡ sum_to (λ a. (outcome_to h s ps a 12).fee) 32 = ef ∙ sum_by_index _ os nothing ∙ ap (sum_to (λ a. (get_or os a nothing).fee)) (ap (λ (zs : List Outcome). length zs) eo ∙ tabulated_length _ 32) ∙ sum_same _ _ 32 (λ a l. ap (λ (o : Outcome). o.fee) (each h s ps qs os eq eo a l)) in
    let x : xs ≡ tabulated (λ a. settled_account (account_at s a) (outcome_to h s ps a 12)) 32 = ex ∙ tabulated_same _ _ 32 no_account (λ a l. ap (settled_account (account_at s a)) (each h s ps qs os eq eo a l)) in
    let y : ys ≡ tabulated (λ p. settled_place s.day (get_or ps p 0) (place_at s p)) 12 = ey ∙ ap (λ (zs : List ℕ). tabulated (λ p. settled_place s.day (get_or zs p 0) (place_at s p)) 12) eq in
    λ i. record { stage = Resting; rate = s.closing; closing = s.closing; day = s.day; highest = s.highest; fees = s.fees + f i; accounts = x i; places = y i; table = et i }

pub assembled_said : (h : ℕ → ℕ → ℕ → ℕ → ℕ) (s : State) (ps qs : List ℕ) (os : List Outcome) (cs : List (Option Settled)) (zs : List ℤ)
    → qs ≡ ps → os ≡ tabulated (λ a. outcome_to h s qs a 12) 32 → cs ≡ tabulated (λ p. settled_contract (get_or qs p 0) (place_at s p)) 12 → zs ≡ tabulated (λ a. change_of (get_or os a nothing)) 32
    → record { contracts = cs; changes = zs } ≡ settlement h s ps
assembled_said h s ps qs os cs zs eq eo ec ez =
    let c : cs ≡ tabulated (λ p. settled_contract (get_or ps p 0) (place_at s p)) 12 = ec ∙ ap (λ (zs : List ℕ). tabulated (λ p. settled_contract (get_or zs p 0) (place_at s p)) 12) eq in
    let z : zs ≡ tabulated (λ a. change_of (outcome_to h s ps a 12)) 32 = ez ∙ tabulated_same _ _ 32 (pos 0) (λ a l. ap change_of (each h s ps qs os eq eo a l)) in
    λ i. record { contracts = c i; changes = z i }
