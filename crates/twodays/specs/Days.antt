-- How a day of a book is opened and ended.
use Rattle.std.specs.Prelude.{◌≡◌, ℕ, Some, None, Ok, Err, Result}
use Rattle.refusal.specs.declared.Refusal.{Refusal}
use Rattle.ledger.specs.Days.{open_state, close_state}
use Rattle.book.specs.declared.book.Book.{Book}
use Rattle.book.specs.Closing.{end_refusal, closing_for}
use Rattle.book.specs.Resting.{day_refusal}
use Rattle.twodays.specs.declared.day.OpenDay.{OpenDay}
use Rattle.twodays.specs.declared.day.EndedDay.{EndedDay}

-- A day is opened, or the book comes back as it was.
abbrev pub Opens : Book → Result OpenDay (Book × Refusal) → Type 0
Opens b (Ok day) = (day_refusal b.desk b.ledger.state ≡ None) × (day.book.desk ≡ b.desk) × (day.book.ledger.state ≡ open_state None b.ledger.state)
Opens b (Err back) = (day_refusal b.desk b.ledger.state ≡ Some back.1) × (back.0.desk ≡ b.desk) × (back.0.ledger.state ≡ b.ledger.state)

-- A day is ended, its permit given up for the closing permit, or it goes on as it was.
abbrev pub Ends : OpenDay → ℕ → Result EndedDay (OpenDay × Refusal) → Type 0
Ends day rate (Ok ended) =
    (end_refusal day.book.desk day.book.ledger.state day.permit rate ≡ None) × (ended.permit ≡ closing_for day.permit)
    × (ended.book.desk ≡ day.book.desk) × (ended.book.ledger.state ≡ close_state None day.book.ledger.state rate)
Ends day rate (Err back) =
    (end_refusal day.book.desk day.book.ledger.state day.permit rate ≡ Some back.1)
    × (back.0.book.desk ≡ day.book.desk) × (back.0.book.ledger.state ≡ day.book.ledger.state)
