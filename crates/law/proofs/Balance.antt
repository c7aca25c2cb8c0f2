-- The law, from what stands along every way.
use Rattle.std.proofs.Common.{◌≡◌, ℕ, zero, suc, ◌-◌, Bool, true, false, cond, leb, List, [], ◌∷◌, length, Some, None, Ok, Err, Option, Result, sym, refl, ap, ◌∙◌, subst, inl, inr, arith}
use Rattle.std.proofs.lemmas.Bool.{and_parts, leb-true, cond-true}
use Rattle.refusal.specs.declared.Refusal.{Refusal}
use Rattle.refusal.specs.declared.Refusal.TheVariants.{OutOfRange}
use Rattle.rules.specs.Units.{min_rate}
use Rattle.archive.specs.declared.entry.Link.{Link}
use Rattle.archive.specs.Chain.{chain_of, reading, kth, picked}
use Rattle.ledger.specs.declared.state.State.{State}
use Rattle.ledger.specs.declared.state.Funds.{Funds}
use Rattle.ledger.specs.Places.{account_at, equity, known_account}
use Rattle.ledger.specs.Questions.{funds_of, funds_at}
use Rattle.ledger.specs.Sound.{Sound, standing, day_holds}
use Rattle.ledger.proofs.Contracts.{day_of}
use Rattle.ledger.proofs.Opening.{start_sound}
use Rattle.tally.specs.Agreement.{Agrees, changes}
use Rattle.tally.specs.Deeds.{Try, ledger, history}
use Rattle.tally.specs.Tally.{History, tally_equity}
use Rattle.tally.proofs.Run.{agree}
use Rattle.book.specs.declared.desk.Desk.{Desk}
use Rattle.book.specs.declared.entries.Movement.{Movement}
use Rattle.book.specs.declared.permit.ClosingPermit.{ClosingPermit}
use Rattle.book.specs.Closing.{settle_refusal}
use Rattle.law.specs.Entries.{said_along, chain_said}
use Rattle.law.specs.Law.{chain_read, entry_said, kth_of, equity_in, BooksBalance, Told}
use Rattle.law.specs.Ways.{Held, way, deeds, founding_rate, entries, in_hand}
use Rattle.law.proofs.Gates.{none_some, out_settles}
use Rattle.law.proofs.Refusing.{refusal_changes_nothing}
use Rattle.law.proofs.Run.{Stands, along}
use Rattle.law.proofs.Soundness.{sound_along}
use Rattle.law.proofs.Sums.{summed, ok_same, sums_along}

-- A book by the tries of its ledger, and what the reader finds in its archive.
record Backed (h : Held) (start : ℕ) (told : History) (es : ℕ → List Movement) (hand : Option ClosingPermit) : Type 0 where
  tries : List Try
  state : h.state ≡ ledger start tries
  tells : history start tries ≡ told
  sound : Sound h.state
  chains : (a : ℕ) → known_account a ≡ true → chain_said (chain_read h a) ≡ Ok (es a)
  sums : (a : ℕ) → known_account a ≡ true → summed (es a) ≡ changes start tries a
  settles : (p : ClosingPermit) → hand ≡ Some p → settle_refusal h.desk h.state (length h.bytes) p ≡ None

backed : (bytes : List ℕ) (h : Held) (start : ℕ) (told : History) (es : ℕ → List Movement) (hand : Option ClosingPermit) → Stands bytes h start told es hand → Backed h start told es hand
unfolding ledger history changes
backed bytes h start told es hand (inl i) = record {
  tries = [];
  state = ap (λ (x : Held). x.state) i.held ∙ ap (λ n. ledger n []) (sym i.start_is);
  tells = sym i.told_is;
  sound = subst (λ (x : Held). Sound x.state) (sym i.held) (start_sound min_rate refl);
  chains = λ a known. ap (λ (x : Held). chain_said (chain_read x a)) i.held ∙ ap Ok (sym (i.empty a));
  sums = λ a known. ap summed (i.empty a);
  settles = λ p is. absurd (none_some p (sym i.none_out ∙ is));
}
backed bytes h start told es hand (inr r) =
    let k = r.running in
    record {
      tries = r.tries;
      state = k.state;
      tells = k.tells;
      sound = subst Sound (sym k.state) (sound_along start k.rate r.tries);
      chains = λ a known. ap chain_said (cond-true h.desk.founded (chain_of h.bytes a) (Ok []) k.founded) ∙ k.archived.chains a known;
      sums = k.sums;
      settles = λ p is. out_settles h.desk h.state (length h.bytes) p k.archived.long (k.out p is);
    }

-- The k-th entry of a chain says the k-th of what the chain says.
kth_said : (ls : List Link) (k : ℕ) → entry_said (Ok (kth ls k)) ≡ Ok (kth_of (said_along ls) k)
kth_said [] k = refl
kth_said (l ∷ ls) zero = refl
kth_said (l ∷ ls) (suc zero) = refl
kth_said (l ∷ ls) (suc (suc k)) = kth_said ls (suc k)

picked_said : (r : Result (List Link) Refusal) (ms : List Movement) (k : ℕ) → chain_said r ≡ Ok ms → entry_said (picked r k) ≡ Ok (kth_of ms k)
picked_said (Ok ls) ms k h = kth_said ls k ∙ ap (λ (x : List Movement). Ok (kth_of x k)) (ok_same (said_along ls) ms h)
picked_said (Err w) ms k h = let z : ◌≡◌ {A = ℕ} 0 1 = cc in absurd (omega arith)

read_picked : (b : Bool) (h : Held) (a k : ℕ) → cond b (reading h.bytes a k) (Ok None) ≡ picked (cond b (chain_of h.bytes a) (Ok [])) k
read_picked true h a k = refl
read_picked false h a k = refl

pub balance : BooksBalance
balance bytes calls =
    let h = way bytes calls in
    let start = founding_rate bytes calls in
    let told = deeds bytes calls in
    let b = backed bytes h start told (entries bytes calls) (in_hand bytes calls) (along bytes calls) in
    let k = agree start b.tries in
    let same : (a : ℕ) → equity (account_at h.state (a - 1)) ≡ equity (account_at (ledger start b.tries) (a - 1)) = λ a. ap (λ (x : State). equity (account_at x (a - 1))) b.state in
    let agreed : Agrees start b.tries h.state told = subst (λ (x : State). Agrees start b.tries x told) (sym b.state) (subst (Agrees start b.tries (ledger start b.tries)) b.tells k) in
    record {
      each = agreed.each;
      all = agreed.all;
      sums = λ a known. sums_along (chain_read h a) (entries bytes calls a) (b.chains a known) ∙ ap Ok (b.sums a known ∙ agreed.told a known);
      chains = b.chains;
      reads = λ a known n. ap entry_said (read_picked h.desk.founded h a n) ∙ picked_said (chain_read h a) (entries bytes calls a) n (b.chains a known);
      settles = b.settles;
      idle = agreed.idle;
      even = λ p known. (let q = and_parts (leb 1 p) (leb p 12) known in let lo = leb-true 1 p q.0 in let hi = leb-true p 12 q.1 in b.sound.balance (p - 1) (omega arith));
      within = λ busy p known c is.
          let q = and_parts (leb 1 p) (leb p 12) known in
          let lo = leb-true 1 p q.0 in
          let hi = leb-true p 12 q.1 in
          let d = day_of h.state.day c (sym (ap (standing (day_holds h.state.day)) is) ∙ b.sound.days busy (p - 1) (omega arith)) in
          (d.least, d.most);
      refusals = refusal_changes_nothing h;
    }

-- What is answered of an account is what every way to the book tells.
pub told : (d : Desk) (s : State) (account : ℕ) (r : Result Funds Refusal) → r ≡ funds_at s account → Told d s account r
told d s account r is = record {
  tallied = λ bytes calls desk state. ap equity_in (is ∙ ap (λ (x : State). funds_at x account) (sym state)) ∙ go (way bytes calls).state (founding_rate bytes calls) (deeds bytes calls) ((balance bytes calls).each account) (known_account account) refl;
  chained = λ bytes calls desk state known.
      ap equity_in (is ∙ ap (λ (x : State). funds_at x account) (sym state) ∙ cond-true (known_account account) _ _ known) ∙ sym ((balance bytes calls).sums account known);
}
  where
    go : (u : State) (start : ℕ) (h : History) → (known_account account ≡ true → equity (account_at u (account - 1)) ≡ tally_equity start h account) → (b : Bool) → known_account account ≡ b
        → equity_in (cond b (Ok (funds_of (account_at u (account - 1)))) (Err OutOfRange)) ≡ cond b (Ok (tally_equity start h account)) (Err OutOfRange)
    go u start h each true known = ap Ok (each known)
    go u start h each false known = refl
