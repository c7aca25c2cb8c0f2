-- Every ledger of every list of tries is sound, and what an archive keeps of it fits its widths.
use Rattle.std.proofs.Common.{◌≡◌, ℕ, ◌+◌, ◌-◌, ◌*◌, ◌^◌, ◌<◌, Bool, true, false, cond, eqb, List, [], ◌∷◌, ℤ, pos, negsuc, neg_ℤ, ◌≤ℤ◌, Some, None, Ok, Err, Option, Result, refl, ◌∙◌, arith, w64, SFits}
use lib.Signed.{lt_z}
use Rattle.std.proofs.lemmas.List.{length-set}
use Rattle.std.proofs.lemmas.Int.{ints}
use Rattle.std.proofs.lemmas.Bool.{and_parts, or_parts, not-false, leb-true, ltb-false}
use Rattle.refusal.specs.declared.Refusal.{Refusal}
use Rattle.refusal.proofs.Passed.{passed}
use Rattle.rules.specs.declared.figures.Figures.{Figures}
use Rattle.rules.specs.Margin.{Fair}
use Rattle.rules.specs.Price.{Inside}
use Rattle.rules.specs.Units.{fen_units, yuan_units, kept_yuan, max_paid_in}
use Rattle.ledger.specs.declared.state.Bargain.{Bargain}
use Rattle.ledger.specs.declared.state.Contract.{Contract}
use Rattle.ledger.specs.declared.state.Deal.{Deal}
use Rattle.ledger.specs.declared.state.Listing.{Listing}
use Rattle.ledger.specs.declared.state.Outcome.{Outcome}
use Rattle.ledger.specs.declared.state.State.{State}
use Rattle.ledger.specs.Cash.{credit_reasons, credit_refusal, credit_state, debit_reasons, debit_refusal, debit_state}
use Rattle.ledger.specs.Days.{bad_rate, open_refusal, open_state, close_refusal, close_state}
use Rattle.ledger.specs.Listing.{list_refusal, list_state, reweigh_refusal, reweigh_state, at_place}
use Rattle.ledger.specs.Places.{account_at, place_at, known_account, is_closed}
use Rattle.ledger.specs.Quotes.{quote_refusal, quote_state, deliver_refusal, deliver_state}
use Rattle.ledger.specs.Settle.{prices_of, outcome_to, change_of, settled_by, Near}
use Rattle.ledger.specs.Sound.{Sound}
use Rattle.ledger.specs.Trade.{bargain, exchange_state, fee_of}
use Rattle.ledger.proofs.Banking.{credit_keeps, debit_keeps}
use Rattle.ledger.proofs.Exchanging.{struck, tradable, exchange_keeps, fee_small}
use Rattle.ledger.proofs.Listings.{list_keeps, reweigh_keeps, quote_keeps, deliver_keeps}
use Rattle.ledger.proofs.Opening.{start_sound, open_keeps, close_keeps}
use Rattle.ledger.proofs.Outcomes.{roomy}
use Rattle.ledger.proofs.Revaluing.{settle_keeps}
use Rattle.ledger.proofs.Tabulated.{tabulated_length}
use Rattle.tally.specs.Deeds.{Deed, Try, PriceRule, MarginRule, after, ledger}
use Rattle.tally.specs.Deeds.{Deed.lists, Deed.reweighs, Deed.opens, Deed.pays_in, Deed.pays_out, Deed.quotes, Deed.trades, Deed.delivers, Deed.closes, Deed.settles}
use Rattle.tally.proofs.Matches.{Sized}
use Rattle.law.proofs.NearRows.{near_settled}

-- Each deed leaves as many accounts, places and rows as there were.
module _ (s : State) (sized : Sized s) where
  sized_lists : (l : Listing) (r : Option Refusal) → Sized (list_state r s l)
  sized_lists l None = record { accounts = sized.accounts; places = length-set _ _ _ ∙ sized.places; rows = sized.rows }
  sized_lists l (Some w) = sized

  sized_place : (p : ℕ) (o : Option Contract) (change : Contract → Contract) → Sized (at_place s p o change)
  sized_place p None change = sized
  sized_place p (Some c) change = record { accounts = sized.accounts; places = length-set _ _ _ ∙ sized.places; rows = sized.rows }

  sized_reweighs : (p ratio : ℕ) (r : Option Refusal) → Sized (reweigh_state r s p ratio)
  sized_reweighs p ratio None = sized_place (p - 1) (place_at s (p - 1)) _
  sized_reweighs p ratio (Some w) = sized

  sized_opens : (r : Option Refusal) → Sized (open_state r s)
  sized_opens None = record { accounts = tabulated_length _ 32; places = tabulated_length _ 12; rows = tabulated_length _ 384 }
  sized_opens (Some w) = sized

  sized_pays_in : (a fen : ℕ) (r : Option Refusal) → Sized (credit_state r s a fen)
  sized_pays_in a fen None = record { accounts = length-set _ _ _ ∙ sized.accounts; places = sized.places; rows = sized.rows }
  sized_pays_in a fen (Some w) = sized

  sized_pays_out : (a fen : ℕ) (r : Option Refusal) → Sized (debit_state r s a fen)
  sized_pays_out a fen None = record { accounts = length-set _ _ _ ∙ sized.accounts; places = sized.places; rows = sized.rows }
  sized_pays_out a fen (Some w) = sized

  sized_quotes : (p bid ask : ℕ) (r : Option Refusal) → Sized (quote_state r s p bid ask)
  sized_quotes p bid ask None = sized_place (p - 1) (place_at s (p - 1)) _
  sized_quotes p bid ask (Some w) = sized

  sized_trades : (d : Deal) (r : Result Bargain Refusal) → Sized (exchange_state r s d)
  sized_trades d (Ok b) = record { accounts = length-set _ _ _ ∙ length-set _ _ _ ∙ sized.accounts; places = length-set _ _ _ ∙ sized.places; rows = length-set _ _ _ ∙ length-set _ _ _ ∙ sized.rows }
  sized_trades d (Err w) = sized

  sized_delivers : (p price : ℕ) (r : Option Refusal) → Sized (deliver_state r s p price)
  sized_delivers p price None = sized_place (p - 1) (place_at s (p - 1)) _
  sized_delivers p price (Some w) = sized

  sized_closes : (rate : ℕ) (r : Option Refusal) → Sized (close_state r s rate)
  sized_closes rate None = record { accounts = sized.accounts; places = sized.places; rows = sized.rows }
  sized_closes rate (Some w) = sized

  sized_settles : (holding : ℕ → ℕ → ℕ → ℕ → ℕ) (ps : List ℕ) (b : Bool) → Sized (cond b (settled_by holding s ps) s)
  sized_settles holding ps true = record { accounts = tabulated_length _ 32; places = tabulated_length _ 12; rows = tabulated_length _ 384 }
  sized_settles holding ps false = sized

pub sized_after : (s : State) → Sized s → (room : Bool) (c : Deed) → Sized (after s room c)
sized_after s k room (lists l) = sized_lists s k l (list_refusal s l)
sized_after s k room (reweighs p ratio) = sized_reweighs s k p ratio (reweigh_refusal s p ratio)
sized_after s k room opens = sized_opens s k (open_refusal s room)
sized_after s k room (pays_in a fen) = sized_pays_in s k a fen (credit_refusal s a fen room)
sized_after s k room (pays_out a fen) = sized_pays_out s k a fen (debit_refusal s a fen room)
sized_after s k room (quotes p bid ask) = sized_quotes s k p bid ask (quote_refusal s p bid ask)
sized_after s k room (trades rule d) = sized_trades s k d (bargain rule.opening s d room)
sized_after s k room (delivers p price) = sized_delivers s k p price (deliver_refusal s p price)
sized_after s k room (closes rate) = sized_closes s k rate (close_refusal s rate)
sized_after s k room (settles price margin) = sized_settles s k margin.holding (prices_of price.meaning s) (is_closed s.stage)

-- So every ledger has 32 accounts, 12 places and 384 rows.
pub sized_along : (start : ℕ) (tries : List Try) → Sized (ledger start tries)
unfolding ledger
sized_along start [] = record { accounts = refl; places = refl; rows = refl }
sized_along start (t ∷ ts) = sized_after (ledger start ts) (sized_along start ts) t.room t.deed

-- Each deed keeps a ledger sound: accepted by its own lemma, refused since nothing changed.
module _ (s : State) (sized : Sized s) (sound : Sound s) where
  sound_lists : (l : Listing) (r : Option Refusal) → list_refusal s l ≡ r → Sound (list_state r s l)
  sound_lists l None e = list_keeps s l sized.places sound e
  sound_lists l (Some w) e = sound

  sound_reweighs : (p ratio : ℕ) (r : Option Refusal) → reweigh_refusal s p ratio ≡ r → Sound (reweigh_state r s p ratio)
  sound_reweighs p ratio None e = reweigh_keeps s p ratio sized.places sound e
  sound_reweighs p ratio (Some w) e = sound

  sound_opens : (room : Bool) (r : Option Refusal) → open_refusal s room ≡ r → Sound (open_state r s)
  sound_opens room None e = open_keeps s room sound e
  sound_opens room (Some w) e = sound

  sound_pays_in : (a fen : ℕ) (room : Bool) (r : Option Refusal) → credit_refusal s a fen room ≡ r → Sound (credit_state r s a fen)
  sound_pays_in a fen room None e = credit_keeps s a fen room sized.accounts sound e
  sound_pays_in a fen room (Some w) e = sound

  sound_pays_out : (a fen : ℕ) (room : Bool) (r : Option Refusal) → debit_refusal s a fen room ≡ r → Sound (debit_state r s a fen)
  sound_pays_out a fen room None e = debit_keeps s a fen room sized.accounts sound e
  sound_pays_out a fen room (Some w) e = sound

  sound_quotes : (p bid ask : ℕ) (r : Option Refusal) → quote_refusal s p bid ask ≡ r → Sound (quote_state r s p bid ask)
  sound_quotes p bid ask None e = quote_keeps s p bid ask sized.places sound e
  sound_quotes p bid ask (Some w) e = sound

  sound_trades : (rule : MarginRule) (d : Deal) (room : Bool) (r : Result Bargain Refusal) → bargain rule.opening s d room ≡ r → Sound (exchange_state r s d)
  sound_trades rule d room (Ok b) e = exchange_keeps rule.opening s d room b sized.accounts sized.places sized.rows sound (struck rule.opening s d room b e)
  sound_trades rule d room (Err w) e = sound

  sound_delivers : (p price : ℕ) (r : Option Refusal) → deliver_refusal s p price ≡ r → Sound (deliver_state r s p price)
  sound_delivers p price None e = deliver_keeps s p price sized.places sound e
  sound_delivers p price (Some w) e = sound

  sound_closes : (rate : ℕ) (r : Option Refusal) → close_refusal s rate ≡ r → Sound (close_state r s rate)
  sound_closes rate None e = close_keeps s rate sound e
  sound_closes rate (Some w) e = sound

  sound_settles : (price : PriceRule) (margin : MarginRule) (b : Bool) → is_closed s.stage ≡ b → Sound (cond b (settled_by margin.holding s (prices_of price.meaning s)) s)
  sound_settles price margin true e = settle_keeps price.meaning margin.holding s price.inside (near_settled price.meaning margin.holding s price.inside margin.holds sound e) sound e
  sound_settles price margin false e = sound

pub sound_after : (s : State) → Sized s → Sound s → (room : Bool) (c : Deed) → Sound (after s room c)
sound_after s z k room (lists l) = sound_lists s z k l (list_refusal s l) refl
sound_after s z k room (reweighs p ratio) = sound_reweighs s z k p ratio (reweigh_refusal s p ratio) refl
sound_after s z k room opens = sound_opens s z k room (open_refusal s room) refl
sound_after s z k room (pays_in a fen) = sound_pays_in s z k a fen room (credit_refusal s a fen room) refl
sound_after s z k room (pays_out a fen) = sound_pays_out s z k a fen room (debit_refusal s a fen room) refl
sound_after s z k room (quotes p bid ask) = sound_quotes s z k p bid ask (quote_refusal s p bid ask) refl
sound_after s z k room (trades rule d) = sound_trades s z k rule d room (bargain rule.opening s d room) refl
sound_after s z k room (delivers p price) = sound_delivers s z k p price (deliver_refusal s p price) refl
sound_after s z k room (closes rate) = sound_closes s z k rate (close_refusal s rate) refl
sound_after s z k room (settles price margin) = sound_settles s z k price margin (is_closed s.stage) refl

-- So every ledger that began at a good rate is sound.
pub sound_along : (start : ℕ) → bad_rate start ≡ false → (tries : List Try) → Sound (ledger start tries)
unfolding ledger
sound_along start good [] = start_sound start good
sound_along start good (t ∷ ts) = sound_after (ledger start ts) (sized_along start ts) (sound_along start good ts) t.room t.deed

-- A signed amount this near to zero has 64 bits enough.
near_fits : (z : ℤ) → neg_ℤ (pos 9000000000000000000) ≤ℤ z → z ≤ℤ pos 9000000000000000000 → SFits w64 z
near_fits (pos n) lo hi = record { sfits = omega (arith, ints) }
near_fits (negsuc n) lo hi = record { sfits = omega (arith, ints) }

pub day_fits : (s : State) → Sound s → s.day < 2 ^ 16
day_fits s sound = let d = sound.ranges.0 in omega arith

pub available_fits : (s : State) → Sound s → (a : ℕ) → a < 32 → SFits w64 (account_at s a).available
available_fits s sound a al = let k = roomy s a al sound in let lo = k.0 in let hi = k.1 in near_fits (account_at s a).available (omega (arith, ints)) (omega (arith, ints))

pub margin_fits : (s : State) → Sound s → (a : ℕ) → a < 32 → (account_at s a).margin < 2 ^ 64
margin_fits s sound a al = let k = roomy s a al sound in let m = k.2 in omega arith

-- What a pay-in or a pay-out moves.
pub credit_fits : (s : State) (account fen : ℕ) (room : Bool) → credit_refusal s account fen room ≡ None → SFits w64 (pos (fen_units * fen))
credit_fits s account fen room h =
    let ok = passed (credit_reasons s account fen room) h in
    let amount = or_parts (eqb fen 0) _ ok.1.1.0 in
    let few = ltb-false max_paid_in _ amount.1 in
    near_fits (pos (fen_units * fen)) (omega (arith, ints)) (omega (arith, ints))

not_below : (a b : ℤ) → lt_z a b ≡ false → b ≤ℤ a
not_below a b h = grind (arith, ints)

pub debit_fits : (s : State) (account fen : ℕ) (room : Bool) → Sound s → debit_refusal s account fen room ≡ None → SFits w64 (neg_ℤ (pos (fen_units * fen)))
debit_fits s account fen room sound h =
    let ok = passed (debit_reasons s account fen room) h in
    let known = and_parts _ _ (not-false (known_account account) ok.1.0) in
    let low = leb-true 1 account known.0 in
    let high = leb-true account 32 known.1 in
    let most = (roomy s (account - 1) (omega arith) sound).1 in
    let left = not_below (account_at s (account - 1)).available (pos (fen_units * fen + kept_yuan * yuan_units)) ok.1.1.1.0 in
    near_fits (neg_ℤ (pos (fen_units * fen))) (omega (arith, ints)) (omega (arith, ints))

-- The fee of a trade.
pub fee_fits : (opening : ℕ → ℕ → ℕ → ℕ) (s : State) (d : Deal) (room : Bool) (b : Bargain) → ((v q r : ℕ) → Fair v q r (opening v q r)) → Sound s → bargain opening s d room ≡ Ok b → SFits w64 (neg_ℤ (pos (fee_of b.contract d)))
fee_fits opening s d room b law sound h =
    let t = tradable opening s d room b law sound (struck opening s d room b h) in
    let few = t.range.most in
    let cheap = fee_small s d b.contract t.fee in
    near_fits (neg_ℤ (pos (fee_of b.contract d))) (omega (arith, ints)) (omega (arith, ints))

-- What a settling changes an account by.
outcome_fits : (o : Outcome) → Near 12 o → SFits w64 (change_of o)
outcome_fits o n = let n0 = n.0 in let n1 = n.1 in let n2 = n.2 in near_fits (change_of o) (omega (arith, ints)) (omega (arith, ints))

pub change_fits : (f : Figures → ℕ) (holding : ℕ → ℕ → ℕ → ℕ → ℕ) (s : State) → Inside f → ((value long short ratio : ℕ) → Fair value (long + short) ratio (holding value long short ratio)) → Sound s → is_closed s.stage ≡ true → (a : ℕ) → a < 32 → SFits w64 (change_of (outcome_to holding s (prices_of f s) a 12))
change_fits f holding s law fair sound shut a al = outcome_fits (outcome_to holding s (prices_of f s) a 12) (near_settled f holding s law fair sound shut a al)
