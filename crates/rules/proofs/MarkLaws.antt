-- A mark has a ceiling where price and rate have theirs (docs/RULES.md, "Settling").
use Rattle.std.proofs.Common.{ℕ, ◌≤◌}
use Rattle.std.proofs.lemmas.Nat.{mul-le}
use Rattle.rules.specs.Mark.{marked, max_mark}
use Rattle.rules.specs.Units.{max_price, max_rate}

pub marked_small : (price rate : ℕ) → price ≤ max_price → rate ≤ max_rate → marked price rate ≤ max_mark
marked_small price rate cheap low = mul-le price rate max_price max_rate cheap low
