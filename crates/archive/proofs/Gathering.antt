-- Links gathered from the front of a chain.
use Rattle.std.proofs.Common.{◌≡◌, ℕ, ◌+◌, ◌<◌, List, [], ◌∷◌, ◌++◌, length, get_or, drop, ℤ, pos, ◌+ℤ◌, Ok, Err, Option, Result, sym, refl, ap, ◌∙◌, subst, w64, SFits}
use Rattle.std.proofs.lemmas.List.{at_drop_more}
use Rattle.std.specs.Result.{OkIff, result_ok}
use Rattle.std.specs.declared.num.TryFromIntError.{TryFromIntError}
use Rattle.refusal.specs.declared.Refusal.{Refusal}
use Rattle.archive.specs.declared.entry.Kind.TheVariants.{PayIn}
use Rattle.archive.specs.declared.entry.Link.{Link}
use Rattle.archive.specs.Chain.{before}
use Rattle.archive.specs.Gathered.{changes, Summed}

-- The links, and after them what a chain still gives.
abbrev pub onto : List Link → Result (List Link) Refusal → Result (List Link) Refusal
onto [] r = r
onto (l ∷ ls) r = before l (onto ls r)

pub onto_more : (ls : List Link) (l : Link) (r : Result (List Link) Refusal) → onto (ls ++ l ∷ []) r ≡ onto ls (before l r)
onto_more [] l r = refl
onto_more (x ∷ ls) l r = ap (before x) (onto_more ls l r)

pub onto_end : (ls : List Link) → onto ls (Ok []) ≡ Ok ls
onto_end [] = refl
onto_end (x ∷ ls) = ap (before x) (onto_end ls)

pub onto_refused : (ls : List Link) (w : Refusal) → onto ls (Err w) ≡ Err w
onto_refused [] w = refl
onto_refused (x ∷ ls) w = ap (before x) (onto_refused ls w)

-- What an index past the end reads.
abbrev pub blank : Link
blank = record { slot = 0; entry = record { next = 0; day = 0; kind = PayIn; account = 0; change = pos 0; available = pos 0; margin = 0 } }

-- One change more.
pub changes_more : (ls : List Link) (i : ℕ) → i < length ls → changes (drop i ls) ≡ (get_or ls i blank).entry.change +ℤ changes (drop (i + 1) ls)
changes_more ls i h = at_drop_more changes ls i blank h

-- Where the sum fits 64 bits it is answered, and else nothing is.
pub summed : (z x : ℤ) (r : Result ℤ TryFromIntError) (o : Option ℤ) → x ≡ z → OkIff r (SFits w64 x) x → o ≡ result_ok r → Summed z o
summed z x (Ok y) o e h k = subst (Summed z) (sym k) (h.1 ∙ e)
summed z x (Err y) o e h k = subst (Summed z) (sym k) (λ f. h (subst (SFits w64) (sym e) f))
