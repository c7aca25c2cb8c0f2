-- The changes of entries, summed: along an account's list, and over the entries of a call.
use Rattle.std.proofs.Common.{◌≡◌, ℕ, zero, suc, ◌+◌, ◌-◌, ◌<◌, ◌≤◌, Bool, true, false, cond, eqb, ◌⊎◌, List, [], ◌∷◌, map, get_or, ℤ, pos, ◌+ℤ◌, Ok, Err, Result, refl, ap, ◌∙◌, inl, inr, arith}
use Rattle.std.proofs.lemmas.Bool.{eq-eqb, ne_eqb, cases_eq}
use Rattle.std.specs.List.{range_with_len}
use Rattle.refusal.specs.declared.Refusal.{Refusal}
use Rattle.archive.specs.declared.entry.Kind.TheVariants.{Settlement}
use Rattle.archive.specs.declared.entry.Link.{Link}
use Rattle.archive.specs.Gathered.{changes}
use Rattle.ledger.specs.declared.state.Account.{Account}
use Rattle.ledger.specs.Places.{no_account}
use Rattle.tally.specs.Tally.{if_so}
use Rattle.tally.proofs.Algebra.{lin}
use Rattle.book.specs.declared.entries.Movement.{Movement}
use Rattle.book.specs.Entries.{movement, settlement_from, settlement_moves}
use Rattle.law.specs.Entries.{said_along, chain_said, recorded}
use Rattle.law.specs.Law.{change_along}

abbrev pub summed : List Movement → ℤ
summed [] = pos 0
summed (m ∷ ms) = m.change +ℤ summed ms

-- What the entries of a call change of one account.
abbrev pub own : ℕ → List Movement → ℤ
own a [] = pos 0
own a (m ∷ ms) = if_so (eqb m.account a) m.change +ℤ own a ms

one_more : (b : Bool) (m : Movement) (ms : List Movement) → summed (cond b (m ∷ ms) ms) ≡ summed ms +ℤ if_so b m.change
one_more true m ms = omega (arith, lin)
one_more false m ms = omega (arith, lin)

pub summed_recorded : (a : ℕ) (ms before : List Movement) → summed (recorded a ms before) ≡ summed before +ℤ own a ms
summed_recorded a [] before = omega (arith, lin)
summed_recorded a (m ∷ ms) before =
    let rest = summed_recorded a ms (cond (eqb m.account a) (m ∷ before) before) in
    let here = one_more (eqb m.account a) m before in
    omega (arith, lin)

-- The changes along a chain are those of what it says.
changes_said : (ls : List Link) → changes ls ≡ summed (said_along ls)
changes_said [] = refl
changes_said (l ∷ ls) = ap (λ z. l.entry.change +ℤ z) (changes_said ls)

pub ok_same : (xs ys : List Movement) → ◌≡◌ {A = Result (List Movement) Refusal} (Ok xs) (Ok ys) → xs ≡ ys
ok_same xs ys h = cc

pub sums_along : (r : Result (List Link) Refusal) (ms : List Movement) → chain_said r ≡ Ok ms → change_along r ≡ Ok (summed ms)
sums_along (Ok ls) ms h = ap Ok (changes_said ls ∙ ap summed (ok_same (said_along ls) ms h))
sums_along (Err w) ms h = let z : ◌≡◌ {A = ℕ} 0 1 = cc in absurd (omega arith)

-- A settling enters one change for each account.
module _ (f : ℕ → Movement) (named : (i : ℕ) → (f i).account ≡ i + 1) where
  foreign : (a i : ℕ) → (i + 1 ≡ a → ⊥) → if_so (eqb (f i).account a) (f i).change ≡ pos 0
  foreign a i n = ap (λ b. if_so b (f i).change) (ap (λ x. eqb x a) (named i) ∙ ne_eqb (i + 1) a n)

  pub own_none : (a n i : ℕ) → a < i + 1 → own a (map f (range_with_len i n)) ≡ pos 0
  own_none a zero i h = refl
  own_none a (suc n) i h =
      let rest = own_none a n (i + 1) (omega arith) in
      let here = foreign a i (λ e. omega arith) in
      omega (arith, lin)

  pub own_each : (a n i : ℕ) → i + 1 ≤ a → a < i + 1 + n → own a (map f (range_with_len i n)) ≡ (f (a - 1)).change
  own_each a zero i low high = absurd (omega arith)
  own_each a (suc n) i low high = go (cases_eq (i + 1) a) (own_each a n (i + 1))
    where
      go : (i + 1 ≡ a) ⊎ (i + 1 ≡ a → ⊥) → (i + 1 + 1 ≤ a → a < i + 1 + 1 + n → own a (map f (range_with_len (i + 1) n)) ≡ (f (a - 1)).change) → if_so (eqb (f i).account a) (f i).change +ℤ own a (map f (range_with_len (i + 1) n)) ≡ (f (a - 1)).change
      go (inl e) later =
          let here : if_so (eqb (f i).account a) (f i).change ≡ (f i).change = ap (λ b. if_so b (f i).change) (ap (λ x. eqb x a) (named i) ∙ eq-eqb (i + 1) a e) in
          let rest = own_none a n (i + 1) (omega arith) in
          let same : (f (a - 1)).change ≡ (f i).change = ap (λ k. (f k).change) (omega arith) in
          omega (arith, lin)
      go (inr d) later =
          let here = foreign a i d in
          let rest = later (omega arith) (omega arith) in
          omega (arith, lin)

-- The entry of one account, counted from 0.
abbrev pub settled_entry : ℕ → List Account → List ℤ → ℕ → Movement
settled_entry day accounts changes a = movement day (a + 1) Settlement (get_or changes a (pos 0)) (get_or accounts a no_account)

pub own_settlement : (a day : ℕ) (accounts : List Account) (changes : List ℤ) → 1 ≤ a → a ≤ 32 → own a (settlement_moves day accounts changes) ≡ get_or changes (a - 1) (pos 0)
unfolding settlement_from
own_settlement a day accounts changes low high = own_each (settled_entry day accounts changes) (λ i. refl) a 32 0 (omega arith) (omega arith)
