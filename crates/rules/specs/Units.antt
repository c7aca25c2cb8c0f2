-- The units and ceilings of src/units.rt, one definition each, as all other definitions cite them
-- (docs/RULES.md, "Units and ceilings").
use Rattle.std.specs.Prelude.{ℕ}

-- Units of a yuan and of a fen.
abbrev pub yuan_units : ℕ
yuan_units = 10000

abbrev pub fen_units : ℕ
fen_units = 100

-- Dollars per TEU.
abbrev pub min_price : ℕ
min_price = 1

abbrev pub max_price : ℕ
max_price = 9999

-- Units per dollar.
abbrev pub min_rate : ℕ
min_rate = 10000

abbrev pub max_rate : ℕ
max_rate = 99999

-- Ten-thousandths.
abbrev pub ratio_parts : ℕ
ratio_parts = 10000

abbrev pub min_ratio : ℕ
min_ratio = 1

abbrev pub max_ratio : ℕ
max_ratio = 10000

-- Fen per TEU.
abbrev pub max_fee : ℕ
max_fee = 10000

-- Accounts, places where one contract each can stand, and days.
abbrev pub accounts : ℕ
accounts = 32

abbrev pub places : ℕ
places = 12

abbrev pub max_days : ℕ
max_days = 3000

-- TEU that an account holds on one side of a place, and that it trades there in a day.
abbrev pub max_side : ℕ
max_side = 50000

abbrev pub max_day : ℕ
max_day = 100000

-- Fen that an account pays in over all days.
abbrev pub max_paid_in : ℕ
max_paid_in = 1000000000000

-- Yuan that each pay-out leaves to an account, and pay-outs that it has in a day.
abbrev pub kept_yuan : ℕ
kept_yuan = 50

abbrev pub day_pay_outs : ℕ
day_pay_outs = 2

-- Percent of a price that its limits lie from it.
abbrev pub wide_percent : ℕ
wide_percent = 10

abbrev pub narrow_percent : ℕ
narrow_percent = 5

-- Units per TEU, and TEU, past which no margin is asked for.
abbrev pub max_margin_value : ℕ
max_margin_value = 1000000000

abbrev pub max_margin_teu : ℕ
max_margin_teu = 100000
