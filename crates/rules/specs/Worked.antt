-- The worked figures of docs/RULES.md, which the definitions give when they are computed.
use Rattle.std.specs.Prelude.{◌≡◌, ◌+◌, ◌*◌, ◌<◌, Some, None}
use Rattle.rules.specs.declared.figures.Figures.{Figures}
use Rattle.rules.specs.Limits.{limits_about}
use Rattle.rules.specs.Margin.{rated, both_sides, larger_side}
use Rattle.rules.specs.Mark.{max_mark}
use Rattle.rules.specs.Price.{freight_price, futures_price}
use Rattle.rules.specs.Units.{narrow_percent, max_margin_value}

-- 10 TEU at 1,010 and 10 at 1,011.
abbrev traded_day : Figures
traded_day =
    record { previous = 1000; limits = limits_about narrow_percent 1000; quantity = 10 + 10; value = 1010 * 10 + 1011 * 10; bid = None; ask = None }

abbrev quoted_day : Figures
quoted_day =
    record { previous = 1000; limits = limits_about narrow_percent 1000; quantity = 0; value = 0; bid = Some 1010; ask = Some 1020 }

pub record WorkedFigures : Type 0 where
  pub common_limits : limits_about narrow_percent 1019 ≡ record { lower = 969; upper = 1069 }
  pub closed_limits : limits_about narrow_percent 19 ≡ record { lower = 19; upper = 19 }
  pub capped_limits : limits_about narrow_percent 9600 ≡ record { lower = 9120; upper = 9999 }
  pub freight_traded : freight_price traded_day ≡ 1011
  pub futures_traded : futures_price traded_day ≡ 1011
  pub freight_quoted : freight_price quoted_day ≡ 1000
  pub futures_quoted : futures_price quoted_day ≡ 1010
  pub opening : rated 68850111 1 1000 ≡ 6885100
  pub holding_both : both_sides 68781000 10 4 1000 ≡ 96293400
  pub holding_larger : larger_side 68781000 10 4 1000 ≡ 68781000
  pub largest_mark : max_mark ≡ 999890001
  pub mark_has_margin : max_mark < max_margin_value
