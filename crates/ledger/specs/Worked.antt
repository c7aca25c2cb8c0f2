-- The two days of docs/RULES.md, "Worked example", worked by the definitions alone, under the freight price rule and the
-- both-sides margin rule.
use Rattle.std.specs.Prelude.{◌≡◌, true, pos, Some, None, Ok, slice_index_or}
use Rattle.refusal.specs.declared.Refusal.TheVariants.{NotAvailable}
use Rattle.rules.specs.Margin.{rated, both_sides}
use Rattle.rules.specs.Price.{freight_price}
use Rattle.ledger.specs.declared.state.Deal.{Deal}
use Rattle.ledger.specs.declared.state.Effect.TheVariants.{Opens}
use Rattle.ledger.specs.declared.state.Listing.{Listing}
use Rattle.ledger.specs.declared.state.State.{State}
use Rattle.ledger.specs.Cash.{credit_refusal, credit_state, debit_refusal}
use Rattle.ledger.specs.Days.{started, open_refusal, open_state, close_refusal, close_state}
use Rattle.ledger.specs.Listing.{list_refusal, list_state}
use Rattle.ledger.specs.Questions.{funds_at}
use Rattle.ledger.specs.Quotes.{deliver_refusal, deliver_state}
use Rattle.ledger.specs.Settle.{prices_of, settled_by}
use Rattle.ledger.specs.Trade.{bargain, exchange_state}

abbrev contract_101 : Listing
contract_101 = record { place = 1; number = 101; base = 1000; ratio = 1000; fee = 20; delivery = 30; last = 2 }

abbrev the_deal : Deal
the_deal = record { place = 1; price = 1010; quantity = 10; buyer = 1; bought = Opens; seller = 2; sold = Opens }

-- Each step as the transition's own definitions give it, its refusal included.
unfoldable pub funded : State
funded =
    let a = list_state (list_refusal (started 68000) contract_101) (started 68000) contract_101 in
    let b = open_state (open_refusal a true) a in
    let c = credit_state (credit_refusal b 1 10000000 true) b 1 10000000 in
    credit_state (credit_refusal c 2 10000000 true) c 2 10000000

unfoldable pub first_closed : State
first_closed =
    let d = exchange_state (bargain rated funded the_deal true) funded the_deal in
    close_state (close_refusal d 68100) d 68100

unfoldable pub first_settled : State
first_settled = settled_by both_sides first_closed (prices_of freight_price first_closed)

unfoldable pub second_closed : State
second_closed =
    let a = open_state (open_refusal first_settled true) first_settled in
    let b = deliver_state (deliver_refusal a 1 1000) a 1 1000 in
    close_state (close_refusal b 68200) b 68200

unfoldable pub second_settled : State
second_settled = settled_by both_sides second_closed (prices_of freight_price second_closed)

pub record WorkedDays : Type 0 where
  pub price : slice_index_or (prices_of freight_price first_closed) 0 0 ≡ 1010
  pub buyer : funds_at first_settled 1 ≡ Ok (record { available = pos 932209000; margin = 68781000; equity = pos 1000990000; call = 0 })
  pub seller : funds_at first_settled 2 ≡ Ok (record { available = pos 930189000; margin = 68781000; equity = pos 998970000; call = 0 })
  pub fees : first_settled.fees ≡ 40000
  pub delivered : slice_index_or (prices_of freight_price second_closed) 0 0 ≡ 1000
  pub buyer_after : funds_at second_settled 1 ≡ Ok (record { available = pos 995150000; margin = 0; equity = pos 995150000; call = 0 })
  pub seller_after : funds_at second_settled 2 ≡ Ok (record { available = pos 1004750000; margin = 0; equity = pos 1004750000; call = 0 })
  pub fees_after : second_settled.fees ≡ 100000
  -- With 932,209,000 units available, 9,317,090 fen may leave and 9,317,091 not.
  pub may_leave : debit_refusal (open_state None first_settled) 1 9317090 true ≡ None
  pub may_not : debit_refusal (open_state None first_settled) 1 9317091 true ≡ Some NotAvailable
