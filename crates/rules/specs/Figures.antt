-- What the price rules may rely on in a day's figures (docs/RULES.md, "Price rules").
use Rattle.std.specs.Prelude.{◌*◌, ◌≤◌, IfSome}
use Rattle.rules.specs.declared.figures.Figures.{Figures}
use Rattle.rules.specs.Limits.{Within}

-- The previous price and the quotes there are lie within the limits, the value within the limits × quantity.
pub record Orderly (figures : Figures) : Type 0 where
  pub previous : Within figures.limits figures.previous
  pub bid : IfSome figures.bid (Within figures.limits)
  pub ask : IfSome figures.ask (Within figures.limits)
  pub least : figures.limits.lower * figures.quantity ≤ figures.value
  pub most : figures.value ≤ figures.limits.upper * figures.quantity
