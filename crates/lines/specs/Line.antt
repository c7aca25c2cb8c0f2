-- What a line says, or the first thing that is wrong with it (docs/RULES.md, "Instruction lines").
use Rattle.std.specs.Prelude.{ℕ, ◌+◌, cond, List, length, Some, None, Ok, Err, Option, Result, nat_lt}
use Rattle.refusal.specs.declared.Refusal.TheVariants.{LineLength, UnknownWord, FieldCount}
use Rattle.lines.specs.declared.instruction.Instruction.{Instruction}
use Rattle.lines.specs.declared.instruction.Instruction.TheVariants.{Found, List as Listing, Ratio, Day, In, Out, Quote, Trade, Deliver, End, Settle}
use Rattle.lines.specs.declared.instruction.Spoiled.{Spoiled}
use Rattle.lines.specs.declared.verb.Verb.{Verb}
use Rattle.lines.specs.declared.verb.Verb.TheVariants as v
use Rattle.lines.specs.Token.{Mark, word, numeral, letter}
use Rattle.lines.specs.Field.{Spot, start, next, ahead, token_at, spaces, spoiled, number_at, side_at}
use Rattle.lines.specs.Verb.{verb_of, fields_of}

-- The first thing that is wrong stands; what follows is read only where nothing is.
abbrev pub then : {A B : Type 0} → Result A Spoiled → (A → Result B Spoiled) → Result B Spoiled
then (Ok x) f = f x
then (Err e) f = Err e

abbrev known : Option Verb → Result Verb Spoiled
known (Some w) = Ok w
known None = spoiled UnknownWord 1

-- Only a word can be one of the eleven.
abbrev pub verb_in : Mark → Result Verb Spoiled
verb_in (word bs c) = known (verb_of bs)
verb_in (numeral bs n c) = spoiled UnknownWord 1
verb_in (letter bs s c) = spoiled UnknownWord 1

-- A line with n fields is in order. `s` is the spot behind the word: a field that is missing would begin one past the
-- line's end, and the first too many begins n fields behind `s`.
abbrev pub counted : List ℕ → Spot → ℕ → Result (Unit {0}) Spoiled
counted line s n =
    cond (nat_lt (spaces line) n) (spoiled FieldCount (length line + 1))
    (cond (nat_lt n (spaces line)) (spoiled FieldCount (ahead n s).column) (Ok tt))

abbrev pub pair_at : Spot → Result (ℕ × ℕ) Spoiled
pair_at s = then (number_at 0 s) (λ a. then (number_at 1 s) (λ b. Ok (a, b)))

abbrev pub listing_at : Spot → Result Instruction Spoiled
listing_at s =
    then (number_at 0 s) (λ place.
    then (number_at 1 s) (λ number.
    then (number_at 2 s) (λ base.
    then (number_at 3 s) (λ ratio.
    then (number_at 4 s) (λ fee.
    then (number_at 5 s) (λ delivery.
    then (number_at 6 s) (λ last.
    Ok (Listing place number base ratio fee delivery last))))))))

abbrev pub quote_at : Spot → Result Instruction Spoiled
quote_at s =
    then (number_at 0 s) (λ place.
    then (number_at 1 s) (λ bid.
    then (number_at 2 s) (λ ask.
    Ok (Quote place bid ask))))

abbrev pub trade_at : Spot → Result Instruction Spoiled
trade_at s =
    then (number_at 0 s) (λ place.
    then (number_at 1 s) (λ price.
    then (number_at 2 s) (λ quantity.
    then (number_at 3 s) (λ buyer.
    then (side_at 4 s) (λ buying.
    then (number_at 5 s) (λ seller.
    then (side_at 6 s) (λ selling.
    Ok (Trade place price quantity buyer buying seller selling))))))))

-- The fields that belong to each word, from the spot behind it.
abbrev pub fields_at : Verb → Spot → Result Instruction Spoiled
fields_at v.Found s = then (pair_at s) (λ p. Ok (Found p.0 p.1))
fields_at v.List s = listing_at s
fields_at v.Ratio s = then (pair_at s) (λ p. Ok (Ratio p.0 p.1))
fields_at v.Day s = Ok Day
fields_at v.In s = then (pair_at s) (λ p. Ok (In p.0 p.1))
fields_at v.Out s = then (pair_at s) (λ p. Ok (Out p.0 p.1))
fields_at v.Quote s = quote_at s
fields_at v.Trade s = trade_at s
fields_at v.Deliver s = then (pair_at s) (λ p. Ok (Deliver p.0 p.1))
fields_at v.End s = then (number_at 0 s) (λ rate. Ok (End rate))
fields_at v.Settle s = Ok Settle

-- Asked in this order: the length, the word, the number of fields, and the fields from left to right.
abbrev pub instruction_of : List ℕ → Result Instruction Spoiled
instruction_of line =
    cond (nat_lt 80 (length line)) (spoiled LineLength 1)
    (then (verb_in (token_at (start line))) (λ verb.
    then (counted line (next (start line)) (fields_of verb)) (λ _.
    fields_at verb (next (start line)))))
