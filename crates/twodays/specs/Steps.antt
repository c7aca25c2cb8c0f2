-- A step of an open day: a call of its book that is brought its permit.
use Rattle.std.specs.Prelude.{◌≡◌, ℕ, None, Option, Result}
use Rattle.std.specs.Fn.{Once}
use denote.Ref.{MutBor}
use Rattle.refusal.specs.declared.Refusal.{Refusal}
use Rattle.refusal.specs.Reasons.{answered}
use Rattle.rules.specs.Margin.{rated}
use Rattle.ledger.specs.declared.state.Deal.{Deal}
use Rattle.ledger.specs.Trade.{exchange_state}
use Rattle.book.specs.declared.book.Book.{Book}
use Rattle.book.specs.declared.permit.DayPermit.{DayPermit}
use Rattle.book.specs.Entries.{desk_with}
use Rattle.book.specs.Gates.{day_gate, handed_back}
use Rattle.book.specs.Trading.{trade_bargain, trade_refusal, trade_moves}

abbrev pub Reply : Type 0
Reply = Result DayPermit (DayPermit × Refusal)

module _ {F : Type 0} (g : Once F (MutBor Book × (DayPermit × Unit {0})) (Reply × (MutBor Book × Unit {0}))) (f : F) (b : Book) (p : DayPermit) where
  -- The call f of the book b with the permit p may reply r and leave the book c.
  pub record Calls (r : Reply) (c : Book) : Type 0 where
    pub shown : MutBor Book
    pub shows : shown.now ≡ b
    pub left : MutBor Book
    pub met : g.post f (shown, (p, tt)) (r, (left, tt))
    pub leaves : left.now ≡ c

  -- The permit is handed back whatever the reply, and is good for the book then.
  abbrev pub StaysOpen : Type 0
  StaysOpen = (r : Reply) (c : Book) → Calls r c → (o : Option Refusal) × (r ≡ handed_back p o) × (day_gate c.desk c.ledger.state p ≡ None)

  -- The answer and the book after some such call.
  pub record Steps (a : Result (Unit {0}) Refusal) (c : Book) : Type 0 where
    pub reply : Reply
    pub calls : Calls reply c
    pub answer : (o : Option Refusal) → reply ≡ handed_back p o → a ≡ answered o

-- A trade of the book b with the permit p, under the margin of both sides, that replies r and leaves the book c.
pub record Trades (b : Book) (n : ℕ) (p : DayPermit) (deal : Deal) (r : Reply) (c : Book) : Type 0 where
  pub answer : r ≡ handed_back p (trade_refusal rated b.desk b.ledger.state n p deal)
  pub desk : c.desk ≡ desk_with b.desk (trade_moves (trade_bargain rated b.desk b.ledger.state n p deal) b.ledger.state deal)
  pub ledger : c.ledger.state ≡ exchange_state (trade_bargain rated b.desk b.ledger.state n p deal) b.ledger.state deal
