use Rattle.std.proofs.Common.{length, refl}
use Rattle.book.specs.Cash.{pay_in_refusal, pay_in_moves}
use Rattle.ledger.specs.Cash.{credit_state}
use Rattle.book.proofs.Keeping.{still_good, credit_day}
use Rattle.book.proofs.Staged.{credit_stage}
use Rattle.twodays.proofs.day.OpenDay.pay_in_under.Goals as goal

pub invariant_of-self : goal.invariant_of-self
invariant_of-self c =
    let a = c.args in
    let b = a.self.now.book in
    let s = b.ledger.state in
    let e = c.pay_in.ensures in
    let o = pay_in_refusal b.desk s (length a.archive.now) a.stranger.permit a.account a.fen in
    record {
      good = still_good b.desk c.pay_in.new.self.desk (pay_in_moves o s a.account a.fen) s (credit_state o s a.account a.fen) c.pay_in.new.self.ledger.state a.self.now.permit a.self.now.permit refl
          e.desk e.ledger (credit_stage o s a.account a.fen) (credit_day o s a.account a.fen) a.self.now.good;
    }
