-- How a call's reasons to refuse become its answer: the first that holds decides, and nothing else is said.
use Rattle.std.specs.Prelude.{Bool, cond, List, [], ◌∷◌, Some, None, Ok, Err, Option, Result}
use Rattle.refusal.specs.declared.Refusal.{Refusal}

-- The first reason that holds; a call lists its reasons in the order of their numbers.
abbrev pub first : List (Bool × Refusal) → Option Refusal
first [] = None
first (r ∷ rs) = cond r.0 (Some r.1) (first rs)

-- The answer of a call that has nothing to say but that it was done.
abbrev pub answered : Option Refusal → Result (Unit {0}) Refusal
answered None = Ok tt
answered (Some w) = Err w
