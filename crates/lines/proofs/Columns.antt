-- Where the pieces of a line stand in it.
use Rattle.std.proofs.Common.{◌≡◌, ℕ, zero, suc, ◌+◌, ◌-◌, ◌<◌, ◌≤◌, ◌⊎◌, List, length, drop, sym, refl, ap, ◌∙◌, inl, inr, arith}
use Rattle.std.proofs.lemmas.List.{length-drop, drop-drop, drop_all}
use Rattle.std.proofs.lemmas.Bool.{cases_lt}
use Rattle.lines.specs.Cut.{reach}
use Rattle.lines.specs.Field.{Spot, start, next, ahead, ColumnsArePositions}

-- To drop n bytes is to drop as many as are then gone: n, or all where there are fewer.
taken_off : (bs : List ℕ) (n : ℕ) → (length bs < n) ⊎ (n ≤ length bs) → drop n bs ≡ drop (length bs - length (drop n bs)) bs
taken_off bs n (inl h) = drop_all n bs (omega arith) ∙ sym (drop_all (length bs - length (drop n bs)) bs (omega (arith, length-drop n bs)))
taken_off bs n (inr h) = let e : n ≡ length bs - length (drop n bs) = omega (arith, length-drop n bs) in ap (λ (k : ℕ). drop k bs) e

placed : (line : List ℕ) (k : ℕ) (s : Spot) → 1 ≤ s.column → s.bytes ≡ drop (s.column - 1) line → (ahead k s).bytes ≡ drop ((ahead k s).column - 1) line
placed line zero s l h = h
placed line (suc k) s l h =
    placed line k (next s) (omega arith)
    (taken_off s.bytes (reach 32 s.bytes + 1) (cases_lt _ _)
    ∙ ap (drop (length s.bytes - length (drop (reach 32 s.bytes + 1) s.bytes))) h
    ∙ drop-drop (length s.bytes - length (drop (reach 32 s.bytes + 1) s.bytes)) (s.column - 1) line
    ∙ ap (λ (i : ℕ). drop i line) (omega arith))

pub columns_are_positions : ColumnsArePositions
columns_are_positions line k = placed line k (start line) (omega arith) refl
