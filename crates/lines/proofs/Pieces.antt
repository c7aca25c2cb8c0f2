-- Pieces and the spaces between them.
use Rattle.std.proofs.Common.{◌≡◌, ℕ, suc, ◌+◌, Bool, true, false, cond, eqb, ◌⊎◌, List, [], ◌∷◌, ◌++◌, take, drop, refl, ap, ◌∙◌, inl, inr, arith, eqb-true}
use Rattle.std.specs.List.{count_by}
use Rattle.std.proofs.lemmas.List.Recursion.{is_count_by}
use Rattle.lines.specs.Cut.{reach, before, past}
use Rattle.lines.specs.Field.{spaces, SpacesPartPieces}

-- In the steps below t says whether the byte is a space.
closed_more : (t : Bool) (b : ℕ) (bs : List ℕ) → eqb b 32 ≡ t → spaces (before 32 bs) ≡ 0 → spaces (take (cond t 0 (1 + reach 32 bs)) (b ∷ bs)) ≡ 0
closed_more true b bs e h = refl
closed_more false b bs e h =
    let r : ℕ = reach 32 bs in
    let k : 1 + r ≡ suc r = omega arith in
    ap (λ (n : ℕ). spaces (take n (b ∷ bs))) k ∙ (ap (λ (t : Bool). cond t (1 + spaces (take r bs)) (spaces (take r bs))) e ∙ h)

closed : (bs : List ℕ) → spaces (before 32 bs) ≡ 0
closed [] = refl
closed (b ∷ bs) = closed_more (eqb b 32) b bs refl (closed bs)

abbrev Parted : ℕ → List ℕ → List ℕ → List ℕ → Type 0
Parted n bs front back = ((n ≡ 0) × (bs ≡ front)) ⊎ ((n ≡ 1 + spaces back) × (bs ≡ front ++ (32 ∷ back)))

parted_more : (t : Bool) (b : ℕ) (bs : List ℕ) → eqb b 32 ≡ t → Parted (spaces bs) bs (before 32 bs) (past 32 bs) → Parted (cond t (1 + spaces bs) (spaces bs)) (b ∷ bs) (take (cond t 0 (1 + reach 32 bs)) (b ∷ bs)) (drop (cond t 0 (1 + reach 32 bs) + 1) (b ∷ bs))
parted_more true b bs e h = inr (refl, ap (λ (x : ℕ). x ∷ bs) (eqb-true b 32 e))
parted_more false b bs e (inl h) =
    let k : suc (reach 32 bs) ≡ 1 + reach 32 bs = omega arith in
    inl (h.0, ap (λ (xs : List ℕ). b ∷ xs) h.1 ∙ ap (λ (n : ℕ). take n (b ∷ bs)) k)
parted_more false b bs e (inr h) =
    let k : suc (reach 32 bs) ≡ 1 + reach 32 bs = omega arith in
    let m : suc (reach 32 bs + 1) ≡ 1 + reach 32 bs + 1 = omega arith in
    inr (
      h.0 ∙ ap (λ (n : ℕ). 1 + spaces (drop n (b ∷ bs))) m,
      ap (λ (xs : List ℕ). b ∷ xs) h.1 ∙ (λ i. take (k i) (b ∷ bs) ++ (32 ∷ drop (m i) (b ∷ bs))),
    )

parted : (bs : List ℕ) → Parted (spaces bs) bs (before 32 bs) (past 32 bs)
parted [] = inl (refl, refl)
parted (b ∷ bs) = parted_more (eqb b 32) b bs refl (parted bs)

pub spaces_part_pieces : SpacesPartPieces
spaces_part_pieces bs = (closed bs, parted bs)

pub spaces_counted : (bs : List ℕ) → spaces bs ≡ count_by (λ (b : ℕ). eqb b 32) bs
spaces_counted = is_count_by spaces (λ (b : ℕ). eqb b 32) refl (λ _ _. refl)
