-- What beginning an archive and one more entry do to the chains.
use Rattle.std.proofs.Common.{◌≡◌, ℕ, zero, suc, ◌+◌, ◌-◌, ◌*◌, ◌/◌, ◌^◌, ◌<◌, ◌≤◌, min, Bool, true, false, cond, not, eqb, ltb, leb, List, [], ◌∷◌, length, get_or, take, drop, Some, None, Ok, Result, sym, refl, ap, ◌∙◌, subst, inl, inr, arith, rules}
use Rattle.std.proofs.lemmas.List.{places, ext_get_or, length-take, length-drop}
use Rattle.std.proofs.lemmas.Bool.{and_from, and_parts, eq-eqb, lt-ltb, leb-false, ltb-true, eqb-false, cond-true}
use Rattle.std.proofs.lemmas.Bool.Decides.{nat_tests}
use Rattle.refusal.specs.declared.Refusal.{Refusal}
use Rattle.refusal.specs.declared.Refusal.TheVariants.{ArchiveLength, OutOfRange, NoRoom, NotAnArchive}
use Rattle.refusal.specs.Reasons.{first, answered}
use Rattle.archive.specs.declared.entry.Entry.{Entry}
use Rattle.archive.specs.declared.entry.Link.{Link}
use Rattle.archive.specs.declared.layout.Slot.{Slot}
use Rattle.archive.specs.Layout.{allowed, be4, num2, encoded, slot_at, slot_of, entry_of, header, used_in, patched}
use Rattle.archive.specs.Chain.{last, entry_on, link, before, joined, follow, chain_from, zeros, headed, known_account, unless, newest, chain_of}
use Rattle.archive.specs.Written.{begin_refusal, begun, append_refusal, appended, Empty, Continues, Grown, Stored}
use Rattle.archive.proofs.Chains.{chain_on, chain_end, next_below, last_here, last_below, last_none, last_le}
use Rattle.archive.proofs.Layouts.{outside, long_patched, be2_back, be4_back, num2_alike, long_encoded, Fit, written, untouched, entry_back}

-- Two archives that hold the same slots up to slot n.
abbrev Same : ℕ → (ℕ → Slot) → (ℕ → Slot) → Type 0
Same n at to = (s : ℕ) → 0 < s → s ≤ n → to s ≡ at s

last_same : (n : ℕ) (at to : ℕ → Slot) (a : ℕ) → Same n at to → last to a n ≡ last at a n
unfolding last
last_same zero at to a h = refl
last_same (suc n) at to a h =
    let e = h (suc n) (omega arith) (omega arith) in
    let below = last_same n at to a (λ s p q. h s p (omega arith)) in
    λ i. cond (eqb (e i).account a) (suc n) (below i)

follow_same : (f n : ℕ) (at to : ℕ → Slot) (a s : ℕ) → Same n at to → s ≤ n → follow f to a s ≡ follow f at a s
unfolding follow
follow_same zero n at to a s h l = refl
follow_same (suc f) n at to a zero h l = refl
follow_same (suc f) n at to a (suc s) h l =
    ap (λ (x : Slot). joined (suc s) (entry_on x a (suc s)) (follow f to a x.next)) (h (suc s) (omega arith) l)
    ∙ next_below (at (suc s)) a (suc s) _ _ (λ lt. follow_same f n at to a (at (suc s)).next h (omega arith))

chain_same : (n : ℕ) (at to : ℕ → Slot) (a s : ℕ) → Same n at to → s ≤ n → chain_from to a s ≡ chain_from at a s
chain_same n at to a s h l = follow_same s n at to a s h l

-- The account of the new entry has it before its old chain.
own_chain : (n : ℕ) (at to : ℕ → Slot) (e : Entry) → Same n at to → to (n + 1) ≡ slot_of e → e.next ≡ last at e.account n → chain_from to e.account (n + 1) ≡ before (link (n + 1) e) (chain_from at e.account (last at e.account n))
own_chain n at to e h new next =
    let le = last_le at e.account n in
    let on : entry_on (slot_of e) e.account (n + 1) ≡ Some e = cond-true _ _ _ (and_from _ _ (lt-ltb e.next (n + 1) (omega arith)) (eq-eqb e.account e.account refl)) ∙ entry_back e in
    chain_on to e.account (n + 1) e (omega arith) (ap (λ (x : Slot). entry_on x e.account (n + 1)) new ∙ on)
    ∙ ap (λ s. before (link (n + 1) e) (chain_from to e.account s)) next
    ∙ ap (before (link (n + 1) e)) (chain_same n at to e.account (last at e.account n) h le)

own_top : (n : ℕ) (to : ℕ → Slot) (e : Entry) → to (n + 1) ≡ slot_of e → last to e.account (n + 1) ≡ n + 1
own_top n to e new = last_here to e.account (n + 1) (omega arith) (ap (λ (x : Slot). x.account) new)

-- Every other account has its newest slot, and so its chain, as it was.
other_top : (n : ℕ) (at to : ℕ → Slot) (e : Entry) (b : ℕ) → Same n at to → to (n + 1) ≡ slot_of e → (e.account ≡ b → ⊥) → last to b (n + 1) ≡ last at b n
other_top n at to e b h new foreign =
    let under : n + 1 - 1 ≡ n = omega arith in
    last_below to b (n + 1) (omega arith) (λ x. foreign (ap (λ (x : Slot). x.account) (sym new) ∙ x)) ∙ ap (last to b) under ∙ last_same n at to b h

-- Slot 0 of a new book.
header_long : (u b : ℕ) → length (header u b) ≡ 32
unfolding header
header_long u b = refl

header_used : (xs : List ℕ) (u b : ℕ) → u < 2 ^ 32 → used_in (patched xs 0 32 (header u b)) ≡ u
unfolding header
header_used xs u b h = be4_back u h

header_book : (xs : List ℕ) (u b : ℕ) → b < 2 ^ 16 → num2 (patched xs 0 32 (header u b)) 4 ≡ b
unfolding header
header_book xs u b h = be2_back b h

header_zeros : (xs : List ℕ) (u b : ℕ) → zeros (take 26 (drop 6 (patched xs 0 32 (header u b)))) ≡ true
unfolding header
header_zeros xs u b = refl

zeros_kept : (ys xs : List ℕ) → length ys ≡ length xs → 32 ≤ length xs → ((k : ℕ) → 6 ≤ k → k < 32 → get_or ys k 0 ≡ get_or xs k 0) → take 26 (drop 6 ys) ≡ take 26 (drop 6 xs)
zeros_kept ys xs long l h =
    ext_get_or 0 (take 26 (drop 6 ys)) (take 26 (drop 6 xs)) (simp (length-take, length-drop) (ap (λ n. min 26 (n - 6)) long))
    (λ i lt. let few : i < 26 = omega (arith, length-take 26 (drop 6 ys)) in let same = h (6 + i) (omega arith) (omega arith) in search (rules, places))

headed_from : (xs ys : List ℕ) → allowed (length xs) ≡ true → length ys ≡ length xs → 0 < num2 ys 4 → zeros (take 26 (drop 6 ys)) ≡ true → used_in ys < length xs / 32 → headed ys ≡ true
headed_from xs ys ok same book rest few =
    and_from _ _ (ap allowed same ∙ ok) (and_from _ _ (lt-ltb _ _ book) (and_from _ _ rest (lt-ltb _ _ (subst (λ n. used_in ys < n / 32) (sym same) few))))

allowed_bounds : (n : ℕ) → allowed n ≡ true → (2048 ≤ n) × (64 ≤ n / 32) × (n / 32 ≤ 262144) × (32 * (n / 32) ≡ n)
allowed_bounds n h = grind (arith, nat_tests)

-- In an archive, only an account out of range is refused before its chain is looked at.
abbrev gate : ℕ → Result (List Link) Refusal → Result (List Link) Refusal
gate a r = unless (first ((not (known_account a), OutOfRange) ∷ [])) r

gated : (xs : List ℕ) (a : ℕ) → headed xs ≡ true → chain_of xs a ≡ gate a (chain_from (slot_at xs) a (newest xs a))
unfolding chain_of
gated xs a h = λ i. unless (first ((not (known_account a), OutOfRange) ∷ (not (h i), NotAnArchive) ∷ [])) (chain_from (slot_at xs) a (newest xs a))

before_gate : (b : Bool) (w : Refusal) (l : Link) (r : Result (List Link) Refusal) → unless (first ((b, w) ∷ [])) (before l r) ≡ before l (unless (first ((b, w) ∷ [])) r)
before_gate true w l r = refl
before_gate false w l r = refl

pub begun_empty : (xs ys : List ℕ) (book : ℕ) → allowed (length xs) ≡ true → 0 < book → book < 2 ^ 16 → ys ≡ patched xs 0 32 (header 0 book) → Empty ys
begun_empty xs ys book ok lo hi is =
    let size = allowed_bounds (length xs) ok in
    let long : length ys ≡ length xs = ap length is ∙ long_patched xs 0 32 (header 0 book) (omega (arith, size.0)) (header_long 0 book) in
    let none : used_in ys ≡ 0 = ap used_in is ∙ header_used xs 0 book (omega arith) in
    let named : num2 ys 4 ≡ book = ap (λ zs. num2 zs 4) is ∙ header_book xs 0 book hi in
    let rest : zeros (take 26 (drop 6 ys)) ≡ true = ap (λ zs. zeros (take 26 (drop 6 zs))) is ∙ header_zeros xs 0 book in
    let good : headed ys ≡ true = headed_from xs ys ok long (omega arith) rest (omega (arith, size.1)) in
    let bare : (a : ℕ) → newest ys a ≡ 0 = λ a. last_none (slot_at ys) a (used_in ys) none in
    record {
      sound = good;
      unused = none;
      chains = λ a k. gated ys a good ∙ (λ i. unless (first ((not (k i), OutOfRange) ∷ [])) (chain_from (slot_at ys) a (newest ys a))) ∙ chain_end (slot_at ys) a (newest ys a) (bare a);
      tops = bare;
    }

-- An archive of xs with entry e in the slot after the used ones, and the new count.
abbrev grown : List ℕ → ℕ → Entry → List ℕ
grown xs used e = patched (patched xs (32 * (used + 1)) 32 (encoded (slot_of e))) 0 4 (be4 (used + 1))

-- The bytes of slot 0 behind the count stay.
header_kept : (xs : List ℕ) (used : ℕ) (e : Entry) (k : ℕ) → 32 * (used + 1) + 32 ≤ length xs → 4 ≤ k → k < 32 → get_or (grown xs used e) k 0 ≡ get_or xs k 0
header_kept xs used e k l lo hi =
    let long = long_patched xs (32 * (used + 1)) 32 (encoded (slot_of e)) l (long_encoded (slot_of e)) in
    outside (patched xs (32 * (used + 1)) 32 (encoded (slot_of e))) 0 4 (be4 (used + 1)) k (omega arith) refl (inr (omega arith))
    ∙ outside xs (32 * (used + 1)) 32 (encoded (slot_of e)) k l (long_encoded (slot_of e)) (inl (omega arith))

pub grown_long : (xs : List ℕ) (used : ℕ) (e : Entry) → 32 * (used + 1) + 32 ≤ length xs → length (grown xs used e) ≡ length xs
grown_long xs used e l =
    let long = long_patched xs (32 * (used + 1)) 32 (encoded (slot_of e)) l (long_encoded (slot_of e)) in
    long_patched (patched xs (32 * (used + 1)) 32 (encoded (slot_of e))) 0 4 (be4 (used + 1)) (omega arith) refl ∙ long

-- The new slot holds the entry, and the slots before it what they held.
grown_new : (xs : List ℕ) (used : ℕ) (e : Entry) → 32 * (used + 1) + 32 ≤ length xs → Fit (slot_of e) → slot_at (grown xs used e) (used + 1) ≡ slot_of e
grown_new xs used e l f =
    let long = long_patched xs (32 * (used + 1)) 32 (encoded (slot_of e)) l (long_encoded (slot_of e)) in
    untouched (patched xs (32 * (used + 1)) 32 (encoded (slot_of e))) 0 4 (be4 (used + 1)) (used + 1) (omega arith) refl (inr (omega arith))
    ∙ written xs (used + 1) (slot_of e) l f

grown_old : (xs : List ℕ) (used : ℕ) (e : Entry) → 32 * (used + 1) + 32 ≤ length xs → Same used (slot_at xs) (slot_at (grown xs used e))
grown_old xs used e l s p q =
    let long = long_patched xs (32 * (used + 1)) 32 (encoded (slot_of e)) l (long_encoded (slot_of e)) in
    untouched (patched xs (32 * (used + 1)) 32 (encoded (slot_of e))) 0 4 (be4 (used + 1)) s (omega arith) refl (inr (omega arith))
    ∙ untouched xs (32 * (used + 1)) 32 (encoded (slot_of e)) s l (long_encoded (slot_of e)) (inl (omega arith))

pub stored : (xs : List ℕ) (used : ℕ) (e : Entry) → 32 * (used + 1) + 32 ≤ length xs → Fit (slot_of e) → Stored (grown xs used e) used e
stored xs used e l f = ap entry_of (grown_new xs used e l f) ∙ entry_back e

grown_used : (xs : List ℕ) (used : ℕ) (e : Entry) → used + 1 < 2 ^ 32 → used_in (grown xs used e) ≡ used + 1
grown_used xs used e h = be4_back (used + 1) h

grown_headed : (xs : List ℕ) (used : ℕ) (e : Entry) → headed xs ≡ true → 32 * (used + 1) + 32 ≤ length xs → used + 1 < 2 ^ 32 → headed (grown xs used e) ≡ true
grown_headed xs used e h l few =
    let parts = and_parts (allowed (length xs)) _ h in
    let book = and_parts (ltb 0 (num2 xs 4)) _ parts.1 in
    let rest = and_parts (zeros (take 26 (drop 6 xs))) _ book.1 in
    let size = allowed_bounds (length xs) parts.0 in
    let ys = grown xs used e in
    let kept : (k : ℕ) → 4 ≤ k → k < 32 → get_or ys k 0 ≡ get_or xs k 0 = λ k lo hi. header_kept xs used e k l lo hi in
    let long = grown_long xs used e l in
    let named : num2 ys 4 ≡ num2 xs 4 = num2_alike ys 4 xs 4 (λ d lt. kept (4 + d) (omega arith) (omega arith)) in
    let same : take 26 (drop 6 ys) ≡ take 26 (drop 6 xs) = zeros_kept ys xs long (omega (arith, size.0)) (λ k lo hi. kept k (omega arith) hi) in
    headed_from xs ys parts.0 long (omega (arith, named, ltb-true 0 (num2 xs 4) book.0)) (ap zeros same ∙ rest.0) (omega (arith, size.3, grown_used xs used e few))

pub entry_grown : (xs : List ℕ) (used : ℕ) (e : Entry) → 32 * (used + 1) + 32 ≤ length xs → used + 1 < 2 ^ 32 → Fit (slot_of e) → Continues xs used e → Grown xs (grown xs used e) used e
entry_grown xs used e l few f on =
    let at = slot_at xs in
    let to = slot_at (grown xs used e) in
    let a = e.account in
    let old = grown_old xs used e l in
    let new = grown_new xs used e l f in
    let count = grown_used xs used e few in
    let good = grown_headed xs used e on.sound l few in
    let was : (b : ℕ) → newest xs b ≡ last at b used = λ b. ap (last at b) on.count in
    let now : (b : ℕ) → newest (grown xs used e) b ≡ last to b (used + 1) = λ b. ap (last to b) count in
    let tops : (b : ℕ) → (a ≡ b → ⊥) → newest (grown xs used e) b ≡ newest xs b = λ b ne. now b ∙ other_top used at to e b old new ne ∙ sym (was b) in
    let top : newest (grown xs used e) a ≡ used + 1 = now a ∙ own_top used to e new in
    record {
      sound = good;
      count = count;
      front =
          gated (grown xs used e) a good
          ∙ ap (λ s. gate a (chain_from to a s)) top
          ∙ ap (gate a) (own_chain used at to e old new (on.next ∙ was a) ∙ ap (λ s. before (link (used + 1) e) (chain_from at a s)) (sym (was a)))
          ∙ before_gate (not (known_account a)) OutOfRange (link (used + 1) e) (chain_from at a (newest xs a))
          ∙ ap (before (link (used + 1) e)) (sym (gated xs a on.sound));
      others = λ b ne.
          gated (grown xs used e) b good
          ∙ ap (λ s. gate b (chain_from to b s)) (tops b ne)
          ∙ ap (gate b) (chain_same used at to b (newest xs b) old (subst (λ s. s ≤ used) (sym (was b)) (last_le at b used)))
          ∙ sym (gated xs b on.sound);
      top = top;
      tops = tops;
    }

-- What an accepted call passed: both reasons to refuse failed.
accepted : (b c : Bool) (v w : Refusal) → answered (first ((not b, v) ∷ (c, w) ∷ [])) ≡ Ok tt → (b ≡ true) × (c ≡ false)
accepted true false v w h = (refl, refl)
accepted true true v w h = let z : ◌≡◌ {A = ℕ} 0 1 = cc in absurd (omega arith)
accepted false true v w h = let z : ◌≡◌ {A = ℕ} 0 1 = cc in absurd (omega arith)
accepted false false v w h = let z : ◌≡◌ {A = ℕ} 0 1 = cc in absurd (omega arith)

-- An archive that was begun has 32 empty chains.
pub begin_empties : (xs ys : List ℕ) (book : ℕ) → book < 2 ^ 16 → ys ≡ begun (begin_refusal (length xs) book) xs book → answered (begin_refusal (length xs) book) ≡ Ok tt → Empty ys
begin_empties xs ys book hi is h =
    let ok = accepted (allowed (length xs)) (eqb book 0) ArchiveLength OutOfRange h in
    let done : begin_refusal (length xs) book ≡ None = λ i. first ((not (ok.0 i), ArchiveLength) ∷ (ok.1 i, OutOfRange) ∷ []) in
    let some = eqb-false book 0 ok.1 in
    begun_empty xs ys book ok.0 (omega arith) hi (is ∙ ap (λ o. begun o xs book) done)

-- Room for the entry, and a count that fits its four bytes.
append_room : (n used : ℕ) → answered (append_refusal n used) ≡ Ok tt → (32 * (used + 1) + 32 ≤ n) × (used + 1 < 2 ^ 32) × (append_refusal n used ≡ None)
append_room n used h =
    let ok = accepted (allowed n) (leb (n / 32) (used + 1)) ArchiveLength NoRoom h in
    let size = allowed_bounds n ok.0 in
    let free = leb-false (n / 32) (used + 1) ok.1 in
    (omega (arith, size.3, free), omega (arith, size.2, free), λ i. first ((not (ok.0 i), ArchiveLength) ∷ (ok.1 i, NoRoom) ∷ []))

pub append_stores : (xs ys : List ℕ) (used : ℕ) (e : Entry) → Fit (slot_of e) → ys ≡ appended (append_refusal (length xs) used) xs used e → answered (append_refusal (length xs) used) ≡ Ok tt → Stored ys used e
append_stores xs ys used e f is h =
    let room = append_room (length xs) used h in
    subst (λ zs. Stored zs used e) (sym (is ∙ ap (λ o. appended o xs used e) room.2)) (stored xs used e room.0 f)

-- An entry that goes on where the archive stands grows it.
pub append_grows : (xs ys : List ℕ) (used : ℕ) (e : Entry) → Fit (slot_of e) → ys ≡ appended (append_refusal (length xs) used) xs used e → answered (append_refusal (length xs) used) ≡ Ok tt → Continues xs used e → Grown xs ys used e
append_grows xs ys used e f is h on =
    let room = append_room (length xs) used h in
    subst (λ zs. Grown xs zs used e) (sym (is ∙ ap (λ o. appended o xs used e) room.2)) (entry_grown xs used e room.0 room.1 f on)
