-- The eleven words that may begin a line, and how many fields follow each (docs/RULES.md, "Instruction lines").
use Rattle.std.specs.Prelude.{ℕ, cond, List, [], ◌∷◌, Some, None, codes, Option}
use Rattle.std.specs.Str.{bytes_eq}
use Rattle.lines.specs.declared.verb.Verb.{Verb}
use Rattle.lines.specs.declared.verb.Verb.TheVariants.{Found, List as Listing, Ratio, Day, In, Out, Quote, Trade, Deliver, End, Settle}

-- The first of the words that is spelled so.
abbrev pub spelled : List ℕ → List (List ℕ × Verb) → Option Verb
spelled w [] = None
spelled w (v ∷ vs) = cond (bytes_eq w v.0) (Some v.1) (spelled w vs)

abbrev pub verb_of : List ℕ → Option Verb
verb_of w =
    spelled w
    ((codes "found", Found)
    ∷ (codes "list", Listing)
    ∷ (codes "ratio", Ratio)
    ∷ (codes "day", Day)
    ∷ (codes "in", In)
    ∷ (codes "out", Out)
    ∷ (codes "quote", Quote)
    ∷ (codes "trade", Trade)
    ∷ (codes "deliver", Deliver)
    ∷ (codes "end", End)
    ∷ (codes "settle", Settle)
    ∷ [])

abbrev pub fields_of : Verb → ℕ
fields_of Found = 2
fields_of Listing = 7
fields_of Ratio = 2
fields_of Day = 0
fields_of In = 2
fields_of Out = 2
fields_of Quote = 3
fields_of Trade = 7
fields_of Deliver = 2
fields_of End = 1
fields_of Settle = 0
