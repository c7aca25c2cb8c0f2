-- What the entries of an account say, newest first: as the calls defined them, and as the reader finds them.
use Rattle.std.specs.Prelude.{ℕ, cond, List, [], ◌∷◌, Ok, Err, Result, ◌==◌}
use Rattle.refusal.specs.declared.Refusal.{Refusal}
use Rattle.archive.specs.declared.entry.Entry.{Entry}
use Rattle.archive.specs.declared.entry.Link.{Link}
use Rattle.book.specs.declared.entries.Movement.{Movement}

-- What an entry says, apart from its link: account, day, kind, change, available and margin after.
abbrev pub said_by : Entry → Movement
said_by e = record { account = e.account; day = e.day; kind = e.kind; change = e.change; available = e.available; margin = e.margin }

abbrev pub said_along : List Link → List Movement
said_along [] = []
said_along (l ∷ ls) = said_by l.entry ∷ said_along ls

abbrev pub chain_said : Result (List Link) Refusal → Result (List Movement) Refusal
chain_said (Ok ls) = Ok (said_along ls)
chain_said (Err w) = Err w

-- The movements of one account among those of a call, put one after another before its earlier ones.
abbrev pub recorded : ℕ → List Movement → List Movement → List Movement
recorded a [] before = before
recorded a (m ∷ ms) before = recorded a ms (cond (m.account == a) (m ∷ before) before)
