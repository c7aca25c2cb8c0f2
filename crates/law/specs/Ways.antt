-- Every way to use a book: tries of its calls, one after another, by the definitions that the calls' contracts cite.
use Rattle.std.specs.Prelude.{ℕ, Bool, true, false, cond, List, [], ◌∷◌, length, Some, None, Option}
use Rattle.refusal.specs.declared.Refusal.{Refusal}
use Rattle.rules.specs.Units.{min_rate}
use Rattle.ledger.specs.declared.state.Deal.{Deal}
use Rattle.ledger.specs.declared.state.Listing.{Listing}
use Rattle.ledger.specs.declared.state.State.{State}
use Rattle.ledger.specs.Cash.{credit_state, debit_state}
use Rattle.ledger.specs.Days.{open_state, close_state}
use Rattle.ledger.specs.Listing.{list_state, reweigh_state}
use Rattle.ledger.specs.Quotes.{quote_state, deliver_state}
use Rattle.ledger.specs.Trade.{exchange_state}
use Rattle.tally.specs.Deeds.{PriceRule, MarginRule, is_none}
use Rattle.tally.specs.Deeds.{Deed.lists, Deed.reweighs, Deed.opens, Deed.pays_in, Deed.pays_out, Deed.quotes, Deed.trades, Deed.delivers, Deed.closes, Deed.settles}
use Rattle.tally.specs.Tally.{History}
use Rattle.book.specs.declared.desk.Desk.{Desk}
use Rattle.book.specs.declared.entries.Movement.{Movement}
use Rattle.book.specs.declared.permit.ClosingPermit.{ClosingPermit}
use Rattle.book.specs.declared.permit.DayPermit.{DayPermit}
use Rattle.book.specs.Cash.{pay_in_refusal, pay_in_moves, pay_out_refusal, pay_out_moves}
use Rattle.book.specs.Closing.{end_refusal, closing_for, settle_refusal, settle_state, settle_moves, settle_desk}
use Rattle.book.specs.Entries.{desk_with, bytes_with}
use Rattle.book.specs.Founding.{idle_desk, idle_state, found_refusal, found_desk, found_state, found_bytes}
use Rattle.book.specs.Gates.{day_gate, closing_gate}
use Rattle.book.specs.Permits.{noted, take_up_day_refusal, take_up_closing_refusal, closing_permit}
use Rattle.book.specs.Resting.{listing_refusal, ratio_refusal, day_refusal}
use Rattle.book.specs.Trading.{quoting_refusal, delivery_refusal, trade_bargain, trade_refusal, trade_moves}
use Rattle.law.specs.Entries.{recorded}

-- A call with what it brings: any numbers, any permits, any lawful rules; and the book's own archive, where it is brought one.
pub data Call : Type 0 where
  -- book number and rate
  founding : ℕ → ℕ → Call
  listing : Listing → Call
  -- place and ratio
  ratio : ℕ → ℕ → Call
  day : Call
  -- account and fen
  pay_in : DayPermit → ℕ → ℕ → Call
  pay_out : DayPermit → ℕ → ℕ → Call
  -- place, bid and ask
  quote : DayPermit → ℕ → ℕ → ℕ → Call
  trade : DayPermit → MarginRule → Deal → Call
  -- place and price
  delivery : DayPermit → ℕ → ℕ → Call
  -- the settlement rate
  end_day : DayPermit → ℕ → Call
  settle : ClosingPermit → PriceRule → MarginRule → Call
  lay_down_day : DayPermit → Call
  lay_down_closing : ClosingPermit → Call
  take_up_day : Call
  take_up_closing : Call

-- A book, by its desk and its ledger's state, and the bytes of its archive.
pub record Held : Type 0 where
  pub desk : Desk
  pub state : State
  pub bytes : List ℕ

-- Why a call is refused, or none where it is accepted.
abbrev pub refused : Held → Call → Option Refusal
refused h (founding number rate) = found_refusal h.desk (length h.bytes) number rate
refused h (listing l) = listing_refusal h.desk h.state l
refused h (ratio place x) = ratio_refusal h.desk h.state place x
refused h day = day_refusal h.desk h.state
refused h (pay_in p account fen) = pay_in_refusal h.desk h.state (length h.bytes) p account fen
refused h (pay_out p account fen) = pay_out_refusal h.desk h.state (length h.bytes) p account fen
refused h (quote p place bid ask) = quoting_refusal h.desk h.state p place bid ask
refused h (trade p rule deal) = trade_refusal rule.opening h.desk h.state (length h.bytes) p deal
refused h (delivery p place price) = delivery_refusal h.desk h.state p place price
refused h (end_day p rate) = end_refusal h.desk h.state p rate
refused h (settle p price margin) = settle_refusal h.desk h.state (length h.bytes) p
refused h (lay_down_day p) = day_gate h.desk h.state p
refused h (lay_down_closing p) = closing_gate h.desk h.state p
refused h take_up_day = take_up_day_refusal h.desk h.state
refused h take_up_closing = take_up_closing_refusal h.desk h.state

-- What a call enters in the archive.
abbrev pub entered : Held → Call → List Movement
entered h (founding number rate) = []
entered h (listing l) = []
entered h (ratio place x) = []
entered h day = []
entered h (pay_in p account fen) = pay_in_moves (refused h (pay_in p account fen)) h.state account fen
entered h (pay_out p account fen) = pay_out_moves (refused h (pay_out p account fen)) h.state account fen
entered h (quote p place bid ask) = []
entered h (trade p rule deal) = trade_moves (trade_bargain rule.opening h.desk h.state (length h.bytes) p deal) h.state deal
entered h (delivery p place price) = []
entered h (end_day p rate) = []
entered h (settle p price margin) = settle_moves (refused h (settle p price margin)) price.meaning margin.holding h.state
entered h (lay_down_day p) = []
entered h (lay_down_closing p) = []
entered h take_up_day = []
entered h take_up_closing = []

-- The desk before the call's entries are written.
abbrev pub desk_before : Held → Call → Desk
desk_before h (founding number rate) = found_desk (refused h (founding number rate)) h.desk (length h.bytes) number
desk_before h (listing l) = h.desk
desk_before h (ratio place x) = h.desk
desk_before h day = h.desk
desk_before h (pay_in p account fen) = h.desk
desk_before h (pay_out p account fen) = h.desk
desk_before h (quote p place bid ask) = h.desk
desk_before h (trade p rule deal) = h.desk
desk_before h (delivery p place price) = h.desk
desk_before h (end_day p rate) = h.desk
desk_before h (settle p price margin) = settle_desk (refused h (settle p price margin)) price.meaning margin.holding h.desk h.state
desk_before h (lay_down_day p) = noted (refused h (lay_down_day p)) h.desk true
desk_before h (lay_down_closing p) = noted (refused h (lay_down_closing p)) h.desk true
desk_before h take_up_day = noted (refused h take_up_day) h.desk false
desk_before h take_up_closing = noted (refused h take_up_closing) h.desk false

-- The bytes before them: only a founding writes anything but entries.
abbrev pub bytes_before : Held → Call → List ℕ
bytes_before h (founding number rate) = found_bytes (refused h (founding number rate)) h.bytes number
bytes_before h (listing l) = h.bytes
bytes_before h (ratio place x) = h.bytes
bytes_before h day = h.bytes
bytes_before h (pay_in p account fen) = h.bytes
bytes_before h (pay_out p account fen) = h.bytes
bytes_before h (quote p place bid ask) = h.bytes
bytes_before h (trade p rule deal) = h.bytes
bytes_before h (delivery p place price) = h.bytes
bytes_before h (end_day p rate) = h.bytes
bytes_before h (settle p price margin) = h.bytes
bytes_before h (lay_down_day p) = h.bytes
bytes_before h (lay_down_closing p) = h.bytes
bytes_before h take_up_day = h.bytes
bytes_before h take_up_closing = h.bytes

-- The state that a call leaves its ledger in.
abbrev pub state_after : Held → Call → State
state_after h (founding number rate) = found_state (refused h (founding number rate)) h.state rate
state_after h (listing l) = list_state (refused h (listing l)) h.state l
state_after h (ratio place x) = reweigh_state (refused h (ratio place x)) h.state place x
state_after h day = open_state (refused h day) h.state
state_after h (pay_in p account fen) = credit_state (refused h (pay_in p account fen)) h.state account fen
state_after h (pay_out p account fen) = debit_state (refused h (pay_out p account fen)) h.state account fen
state_after h (quote p place bid ask) = quote_state (refused h (quote p place bid ask)) h.state place bid ask
state_after h (trade p rule deal) = exchange_state (trade_bargain rule.opening h.desk h.state (length h.bytes) p deal) h.state deal
state_after h (delivery p place price) = deliver_state (refused h (delivery p place price)) h.state place price
state_after h (end_day p rate) = close_state (refused h (end_day p rate)) h.state rate
state_after h (settle p price margin) = settle_state (refused h (settle p price margin)) price.meaning margin.holding h.state
state_after h (lay_down_day p) = h.state
state_after h (lay_down_closing p) = h.state
state_after h take_up_day = h.state
state_after h take_up_closing = h.state

abbrev pub after : Held → Call → Held
after h c = record {
  desk = desk_with (desk_before h c) (entered h c);
  state = state_after h c;
  bytes = bytes_with (desk_before h c) (bytes_before h c) (entered h c);
}

-- A new book, and memory for its archive that holds any bytes.
abbrev pub idle : List ℕ → Held
idle bytes = record { desk = idle_desk; state = idle_state; bytes = bytes }

-- The book and the archive after a list of tries, the newest first.
unfoldable pub way : List ℕ → List Call → Held
way bytes [] = idle bytes
way bytes (c ∷ cs) = after (way bytes cs) c

abbrev pub accepted : Held → Call → Bool
accepted h c = is_none (refused h c)

-- The accepted calls as deeds of the ledger: a founding begins them, and lay-down and take-up move nothing.
abbrev pub joined : Call → History → History
joined (founding number rate) h = []
joined (listing l) h = lists l ∷ h
joined (ratio place x) h = reweighs place x ∷ h
joined day h = opens ∷ h
joined (pay_in p account fen) h = pays_in account fen ∷ h
joined (pay_out p account fen) h = pays_out account fen ∷ h
joined (quote p place bid ask) h = quotes place bid ask ∷ h
joined (trade p rule deal) h = trades rule deal ∷ h
joined (delivery p place price) h = delivers place price ∷ h
joined (end_day p rate) h = closes rate ∷ h
joined (settle p price margin) h = settles price margin ∷ h
joined (lay_down_day p) h = h
joined (lay_down_closing p) h = h
joined take_up_day h = h
joined take_up_closing h = h

unfoldable pub deeds : List ℕ → List Call → History
deeds bytes [] = []
deeds bytes (c ∷ cs) = cond (accepted (way bytes cs) c) (joined c (deeds bytes cs)) (deeds bytes cs)

-- The rate of founding; an idle book's ledger has the lowest one.
abbrev pub rate_from : Call → ℕ → ℕ
rate_from (founding number rate) x = rate
rate_from (listing l) x = x
rate_from (ratio place y) x = x
rate_from day x = x
rate_from (pay_in p account fen) x = x
rate_from (pay_out p account fen) x = x
rate_from (quote p place bid ask) x = x
rate_from (trade p rule deal) x = x
rate_from (delivery p place price) x = x
rate_from (end_day p rate) x = x
rate_from (settle p price margin) x = x
rate_from (lay_down_day p) x = x
rate_from (lay_down_closing p) x = x
rate_from take_up_day x = x
rate_from take_up_closing x = x

unfoldable pub founding_rate : List ℕ → List Call → ℕ
founding_rate bytes [] = min_rate
founding_rate bytes (c ∷ cs) = cond (accepted (way bytes cs) c) (rate_from c (founding_rate bytes cs)) (founding_rate bytes cs)

-- The entries of an account that the calls defined, the newest first.
unfoldable pub entries : List ℕ → List Call → ℕ → List Movement
entries bytes [] a = []
entries bytes (c ∷ cs) a = recorded a (entered (way bytes cs) c) (entries bytes cs a)

-- The closing permit that the accepted calls have handed out and not taken back.
abbrev pub hand_after : Held → Call → Option ClosingPermit → Option ClosingPermit
hand_after h (founding number rate) o = o
hand_after h (listing l) o = o
hand_after h (ratio place x) o = o
hand_after h day o = o
hand_after h (pay_in p account fen) o = o
hand_after h (pay_out p account fen) o = o
hand_after h (quote p place bid ask) o = o
hand_after h (trade p rule deal) o = o
hand_after h (delivery p place price) o = o
hand_after h (end_day p rate) o = Some (closing_for p)
hand_after h (settle p price margin) o = None
hand_after h (lay_down_day p) o = o
hand_after h (lay_down_closing p) o = None
hand_after h take_up_day o = o
hand_after h take_up_closing o = Some (closing_permit h.desk h.state)

unfoldable pub in_hand : List ℕ → List Call → Option ClosingPermit
in_hand bytes [] = None
in_hand bytes (c ∷ cs) = cond (accepted (way bytes cs) c) (hand_after (way bytes cs) c (in_hand bytes cs)) (in_hand bytes cs)
