-- A walk along an account's chain, link by link, and the search for its k-th entry.
use Rattle.std.specs.Prelude.{◌≡◌, ℕ, ◌-◌, ◌<◌, cond, List, [], Some, None, Ok, Err, Option, Result, ◌==◌}
use Rattle.refusal.specs.declared.Refusal.{Refusal}
use Rattle.archive.specs.declared.entry.Entry.{Entry}
use Rattle.archive.specs.declared.entry.Link.{Link}
use Rattle.archive.specs.declared.links.Links.{Links}
use Rattle.archive.specs.declared.read.Search.{Search}
use Rattle.archive.specs.Layout.{slot_at}
use Rattle.archive.specs.Chain.{before, chain_from, chain_of}
use Rattle.archive.specs.Gathered.{Holds}

-- The chain that is still ahead.
abbrev pub ahead : Links → Result (List Link) Refusal
ahead w = chain_from (slot_at w.archive.now) w.account w.slot

-- All of account a's chain is ahead, or why it cannot be read.
abbrev pub Opened : List ℕ → ℕ → Result Links Refusal → Type 0
Opened xs a (Ok w) = (ahead w ≡ chain_of xs a) × (0 < w.slot → Holds xs a)
Opened xs a (Err r) = chain_of xs a ≡ Err r

-- One step takes the next link, or finds the chain's end or where it is broken.
abbrev pub Steps : Links → Option (Result Link Refusal) → Links → Type 0
Steps w None v = ahead w ≡ Ok []
Steps w (Some (Ok l)) v = (ahead w ≡ before l (ahead v)) × (v.slot < w.slot)
Steps w (Some (Err r)) v = (ahead w ≡ Err r) × (v.slot < w.slot)

-- One link further on the search: the entry is found where it is the next one.
abbrev pub passed : Search → Entry → Search
passed x e = record { left = x.left - 1; found = cond (x.left == 1) (Some e) x.found }
