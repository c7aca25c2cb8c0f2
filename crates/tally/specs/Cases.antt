-- Reading one deed.
use Rattle.std.specs.Prelude.{ℕ}
use Rattle.ledger.specs.declared.state.Deal.{Deal}
use Rattle.ledger.specs.declared.state.Listing.{Listing}
use Rattle.tally.specs.Deeds.{Deed, PriceRule, MarginRule}
use Rattle.tally.specs.Deeds.{Deed.lists, Deed.reweighs, Deed.opens, Deed.pays_in, Deed.pays_out, Deed.quotes, Deed.trades, Deed.delivers, Deed.closes, Deed.settles}

-- `on_settles x y c` is y of what a settling c brought, and x of any other deed c; so with each of the others.
abbrev pub on_lists : {X : Type 0} → X → (Listing → X) → Deed → X
on_lists x y (lists l) = y l
on_lists x y (reweighs p n) = x
on_lists x y opens = x
on_lists x y (pays_in a n) = x
on_lists x y (pays_out a n) = x
on_lists x y (quotes p b k) = x
on_lists x y (trades m d) = x
on_lists x y (delivers p n) = x
on_lists x y (closes n) = x
on_lists x y (settles f m) = x

abbrev pub on_reweighs : {X : Type 0} → X → (ℕ → ℕ → X) → Deed → X
on_reweighs x y (lists l) = x
on_reweighs x y (reweighs p n) = y p n
on_reweighs x y opens = x
on_reweighs x y (pays_in a n) = x
on_reweighs x y (pays_out a n) = x
on_reweighs x y (quotes p b k) = x
on_reweighs x y (trades m d) = x
on_reweighs x y (delivers p n) = x
on_reweighs x y (closes n) = x
on_reweighs x y (settles f m) = x

abbrev pub on_opens : {X : Type 0} → X → X → Deed → X
on_opens x y (lists l) = x
on_opens x y (reweighs p n) = x
on_opens x y opens = y
on_opens x y (pays_in a n) = x
on_opens x y (pays_out a n) = x
on_opens x y (quotes p b k) = x
on_opens x y (trades m d) = x
on_opens x y (delivers p n) = x
on_opens x y (closes n) = x
on_opens x y (settles f m) = x

abbrev pub on_pays_in : {X : Type 0} → X → (ℕ → ℕ → X) → Deed → X
on_pays_in x y (lists l) = x
on_pays_in x y (reweighs p n) = x
on_pays_in x y opens = x
on_pays_in x y (pays_in a n) = y a n
on_pays_in x y (pays_out a n) = x
on_pays_in x y (quotes p b k) = x
on_pays_in x y (trades m d) = x
on_pays_in x y (delivers p n) = x
on_pays_in x y (closes n) = x
on_pays_in x y (settles f m) = x

abbrev pub on_pays_out : {X : Type 0} → X → (ℕ → ℕ → X) → Deed → X
on_pays_out x y (lists l) = x
on_pays_out x y (reweighs p n) = x
on_pays_out x y opens = x
on_pays_out x y (pays_in a n) = x
on_pays_out x y (pays_out a n) = y a n
on_pays_out x y (quotes p b k) = x
on_pays_out x y (trades m d) = x
on_pays_out x y (delivers p n) = x
on_pays_out x y (closes n) = x
on_pays_out x y (settles f m) = x

abbrev pub on_quotes : {X : Type 0} → X → (ℕ → ℕ → ℕ → X) → Deed → X
on_quotes x y (lists l) = x
on_quotes x y (reweighs p n) = x
on_quotes x y opens = x
on_quotes x y (pays_in a n) = x
on_quotes x y (pays_out a n) = x
on_quotes x y (quotes p b k) = y p b k
on_quotes x y (trades m d) = x
on_quotes x y (delivers p n) = x
on_quotes x y (closes n) = x
on_quotes x y (settles f m) = x

abbrev pub on_trades : {X : Type 0} → X → (MarginRule → Deal → X) → Deed → X
on_trades x y (lists l) = x
on_trades x y (reweighs p n) = x
on_trades x y opens = x
on_trades x y (pays_in a n) = x
on_trades x y (pays_out a n) = x
on_trades x y (quotes p b k) = x
on_trades x y (trades m d) = y m d
on_trades x y (delivers p n) = x
on_trades x y (closes n) = x
on_trades x y (settles f m) = x

abbrev pub on_delivers : {X : Type 0} → X → (ℕ → ℕ → X) → Deed → X
on_delivers x y (lists l) = x
on_delivers x y (reweighs p n) = x
on_delivers x y opens = x
on_delivers x y (pays_in a n) = x
on_delivers x y (pays_out a n) = x
on_delivers x y (quotes p b k) = x
on_delivers x y (trades m d) = x
on_delivers x y (delivers p n) = y p n
on_delivers x y (closes n) = x
on_delivers x y (settles f m) = x

abbrev pub on_closes : {X : Type 0} → X → (ℕ → X) → Deed → X
on_closes x y (lists l) = x
on_closes x y (reweighs p n) = x
on_closes x y opens = x
on_closes x y (pays_in a n) = x
on_closes x y (pays_out a n) = x
on_closes x y (quotes p b k) = x
on_closes x y (trades m d) = x
on_closes x y (delivers p n) = x
on_closes x y (closes n) = y n
on_closes x y (settles f m) = x

abbrev pub on_settles : {X : Type 0} → X → (PriceRule → MarginRule → X) → Deed → X
on_settles x y (lists l) = x
on_settles x y (reweighs p n) = x
on_settles x y opens = x
on_settles x y (pays_in a n) = x
on_settles x y (pays_out a n) = x
on_settles x y (quotes p b k) = x
on_settles x y (trades m d) = x
on_settles x y (delivers p n) = x
on_settles x y (closes n) = x
on_settles x y (settles f m) = y f m
