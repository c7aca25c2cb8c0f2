-- A refused call changes neither the book nor the archive, and enters nothing.
use Rattle.std.proofs.Common.{◌≡◌, ℕ, true, false, [], length, Some, None, Ok, Err, Result, refl, ap, arith}
use Rattle.refusal.specs.declared.Refusal.{Refusal}
use Rattle.ledger.specs.declared.state.Bargain.{Bargain}
use Rattle.ledger.specs.declared.state.Deal.{Deal}
use Rattle.ledger.specs.Cash.{credit_state, debit_state}
use Rattle.ledger.specs.Days.{open_state, close_state}
use Rattle.ledger.specs.Listing.{list_state, reweigh_state}
use Rattle.ledger.specs.Quotes.{quote_state, deliver_state}
use Rattle.ledger.specs.Trade.{exchange_answer, exchange_state}
use Rattle.book.specs.Cash.{pay_in_moves, pay_out_moves}
use Rattle.book.specs.Closing.{settle_state, settle_moves, settle_desk}
use Rattle.book.specs.Entries.{desk_with, bytes_with}
use Rattle.book.specs.Gates.{why}
use Rattle.book.specs.Founding.{found_desk, found_state, found_bytes}
use Rattle.book.specs.Permits.{noted}
use Rattle.book.specs.Trading.{trade_bargain, trade_moves}
use Rattle.law.specs.Ways.{Held, Call, refused, entered, after}
use Rattle.law.specs.Ways.{Call.founding, Call.listing, Call.ratio, Call.day, Call.pay_in, Call.pay_out, Call.quote, Call.trade, Call.delivery, Call.end_day, Call.settle, Call.lay_down_day, Call.lay_down_closing, Call.take_up_day, Call.take_up_closing}

pub why_err : (deal : Deal) (r : Result Bargain Refusal) (w : Refusal) → why (exchange_answer r deal) ≡ Some w → r ≡ Err w
why_err deal (Ok b) w h = let z : ◌≡◌ {A = ℕ} 0 1 = cc in absurd (omega arith)
why_err deal (Err v) w h = cc

pub why_ok : (deal : Deal) (r : Result Bargain Refusal) → why (exchange_answer r deal) ≡ None → (b : Bargain) × (r ≡ Ok b)
why_ok deal (Ok b) h = (b, refl)
why_ok deal (Err v) h = let z : ◌≡◌ {A = ℕ} 0 1 = cc in absurd (omega arith)

pub refusal_enters_nothing : (h : Held) (c : Call) (w : Refusal) → refused h c ≡ Some w → entered h c ≡ []
refusal_enters_nothing h (founding number rate) w e = refl
refusal_enters_nothing h (listing l) w e = refl
refusal_enters_nothing h (ratio place x) w e = refl
refusal_enters_nothing h day w e = refl
refusal_enters_nothing h (pay_in p account fen) w e = ap (λ o. pay_in_moves o h.state account fen) e
refusal_enters_nothing h (pay_out p account fen) w e = ap (λ o. pay_out_moves o h.state account fen) e
refusal_enters_nothing h (quote p place bid ask) w e = refl
refusal_enters_nothing h (trade p rule deal) w e =
    ap (λ r. trade_moves r h.state deal) (why_err deal (trade_bargain rule.opening h.desk h.state (length h.bytes) p deal) w e)
refusal_enters_nothing h (delivery p place price) w e = refl
refusal_enters_nothing h (end_day p rate) w e = refl
refusal_enters_nothing h (settle p price margin) w e = ap (λ o. settle_moves o price.meaning margin.holding h.state) e
refusal_enters_nothing h (lay_down_day p) w e = refl
refusal_enters_nothing h (lay_down_closing p) w e = refl
refusal_enters_nothing h take_up_day w e = refl
refusal_enters_nothing h take_up_closing w e = refl

pub refusal_changes_nothing : (h : Held) (c : Call) (w : Refusal) → refused h c ≡ Some w → after h c ≡ h
refusal_changes_nothing h (founding number rate) w e = λ i. record { desk = found_desk (e i) h.desk (length h.bytes) number; state = found_state (e i) h.state rate; bytes = found_bytes (e i) h.bytes number }
refusal_changes_nothing h (listing l) w e = λ i. record { desk = h.desk; state = list_state (e i) h.state l; bytes = h.bytes }
refusal_changes_nothing h (ratio place x) w e = λ i. record { desk = h.desk; state = reweigh_state (e i) h.state place x; bytes = h.bytes }
refusal_changes_nothing h day w e = λ i. record { desk = h.desk; state = open_state (e i) h.state; bytes = h.bytes }
refusal_changes_nothing h (pay_in p account fen) w e = λ i. record {
  desk = desk_with h.desk (pay_in_moves (e i) h.state account fen);
  state = credit_state (e i) h.state account fen;
  bytes = bytes_with h.desk h.bytes (pay_in_moves (e i) h.state account fen);
}
refusal_changes_nothing h (pay_out p account fen) w e = λ i. record {
  desk = desk_with h.desk (pay_out_moves (e i) h.state account fen);
  state = debit_state (e i) h.state account fen;
  bytes = bytes_with h.desk h.bytes (pay_out_moves (e i) h.state account fen);
}
refusal_changes_nothing h (quote p place bid ask) w e = λ i. record { desk = h.desk; state = quote_state (e i) h.state place bid ask; bytes = h.bytes }
refusal_changes_nothing h (trade p rule deal) w e =
    let f = why_err deal (trade_bargain rule.opening h.desk h.state (length h.bytes) p deal) w e in
    λ i. record {
      desk = desk_with h.desk (trade_moves (f i) h.state deal);
      state = exchange_state (f i) h.state deal;
      bytes = bytes_with h.desk h.bytes (trade_moves (f i) h.state deal);
    }
refusal_changes_nothing h (delivery p place price) w e = λ i. record { desk = h.desk; state = deliver_state (e i) h.state place price; bytes = h.bytes }
refusal_changes_nothing h (end_day p rate) w e = λ i. record { desk = h.desk; state = close_state (e i) h.state rate; bytes = h.bytes }
refusal_changes_nothing h (settle p price margin) w e = λ i. record {
  desk = desk_with (settle_desk (e i) price.meaning margin.holding h.desk h.state) (settle_moves (e i) price.meaning margin.holding h.state);
  state = settle_state (e i) price.meaning margin.holding h.state;
  bytes = bytes_with (settle_desk (e i) price.meaning margin.holding h.desk h.state) h.bytes (settle_moves (e i) price.meaning margin.holding h.state);
}
refusal_changes_nothing h (lay_down_day p) w e = λ i. record { desk = noted (e i) h.desk true; state = h.state; bytes = h.bytes }
refusal_changes_nothing h (lay_down_closing p) w e = λ i. record { desk = noted (e i) h.desk true; state = h.state; bytes = h.bytes }
refusal_changes_nothing h take_up_day w e = λ i. record { desk = noted (e i) h.desk false; state = h.state; bytes = h.bytes }
refusal_changes_nothing h take_up_closing w e = λ i. record { desk = noted (e i) h.desk false; state = h.state; bytes = h.bytes }
