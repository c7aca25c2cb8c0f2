-- The two days of docs/RULES.md, "Worked example", tallied from their deeds alone.
use Rattle.std.specs.Prelude.{◌≡◌, ◌+◌, [], ◌∷◌, pos}
use Rattle.ledger.specs.declared.state.Deal.{Deal}
use Rattle.ledger.specs.declared.state.Effect.TheVariants.{Opens}
use Rattle.ledger.specs.declared.state.Listing.{Listing}
use Rattle.tally.specs.Deeds.{PriceRule, MarginRule}
use Rattle.tally.specs.Deeds.{Deed.lists, Deed.opens, Deed.pays_in, Deed.trades, Deed.delivers, Deed.closes, Deed.settles}
use Rattle.tally.specs.Tally.{History, tally_equity, fees}

abbrev contract_101 : Listing
contract_101 = record { place = 1; number = 101; base = 1000; ratio = 1000; fee = 20; delivery = 30; last = 2 }

abbrev the_deal : Deal
the_deal = record { place = 1; price = 1010; quantity = 10; buyer = 1; bought = Opens; seller = 2; sold = Opens }

abbrev pub first_day : PriceRule → MarginRule → History
first_day price margin =
    settles price margin ∷ closes 68100 ∷ trades margin the_deal ∷ pays_in 2 10000000 ∷ pays_in 1 10000000 ∷ opens ∷ lists contract_101 ∷ []

abbrev pub both_days : PriceRule → MarginRule → History
both_days price margin = settles price margin ∷ closes 68200 ∷ delivers 1 1000 ∷ opens ∷ first_day price margin

-- Under any lawful rules: what stands in between is marked away by the delivery price.
pub record WorkedTally : Type 0 where
  pub buyer : (price : PriceRule) (margin : MarginRule) → tally_equity 68000 (both_days price margin) 1 ≡ pos 995150000
  pub seller : (price : PriceRule) (margin : MarginRule) → tally_equity 68000 (both_days price margin) 2 ≡ pos 1004750000
  pub collected : (price : PriceRule) (margin : MarginRule) → fees 68000 (both_days price margin) 1 + fees 68000 (both_days price margin) 2 ≡ 100000
