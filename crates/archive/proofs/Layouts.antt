-- What is read back from patched bytes: the slot that was written, and every other slot as it was.
use Rattle.std.proofs.Common.{◌≡◌, ℕ, ◌+◌, ◌*◌, ◌/◌, ◌%◌, ◌^◌, ◌<◌, ◌==◌, ◌&&◌, ◌≤◌, ◌⊎◌, List, [], ◌∷◌, length, get_or, ℤ, Some, refl, ap, ◌∙◌, inl, inr, ⊎_elim, add-zero, arith, slice_range, SFits, to_z, of_z, rules}
use lib.Arith.{mod-mul}
use Rattle.std.specs.Int.{w16, w32, w64, from_be_bytes}
use Rattle.std.proofs.lemmas.List.{places}
use Rattle.std.specs.List.{list_all}
use Rattle.std.proofs.lemmas.Int.{to_z-of_z}
use Rattle.archive.specs.declared.entry.Entry.{Entry}
use Rattle.archive.specs.declared.entry.Kind.{Kind}
use Rattle.archive.specs.declared.entry.Kind.TheVariants.{PayIn, PayOut, TradeFee, Settlement}
use Rattle.archive.specs.declared.layout.Slot.{Slot}
use Rattle.archive.specs.Kinds.{kind_byte, kind_of}
use Rattle.archive.specs.Chain.{zeros}
use Rattle.archive.specs.Layout.{be2, be4, be8, num2, num4, num8, encoded, slot_at, slot_of, with_kind, entry_of, patched}

pub inside : (xs : List ℕ) (i n : ℕ) (bs : List ℕ) (j k : ℕ) → i ≤ length xs → j ≡ i + k → k < length bs → get_or (patched xs i n bs) j 0 ≡ get_or bs k 0
inside xs i n bs j k l e h = search (rules, places)

pub outside : (xs : List ℕ) (i n : ℕ) (bs : List ℕ) (j : ℕ) → i + n ≤ length xs → length bs ≡ n → (j < i) ⊎ (i + n ≤ j) → get_or (patched xs i n bs) j 0 ≡ get_or xs j 0
outside xs i n bs j l e (inl p) = search (rules, places)
outside xs i n bs j l e (inr p) = search (rules, places)

pub long_patched : (xs : List ℕ) (i n : ℕ) (bs : List ℕ) → i + n ≤ length xs → length bs ≡ n → length (patched xs i n bs) ≡ length xs
long_patched xs i n bs l e = search (rules, places)

-- One more byte of a number.
digit : (n c : ℕ) → 0 < c → n % (256 * c) ≡ (n / c % 256) * c + n % c
digit n c h = mod-mul n (omega arith) h

pub be2_back : (n : ℕ) → n < 2 ^ 16 → num2 (be2 n) 0 ≡ n
be2_back n h = omega arith

pub be4_back : (n : ℕ) → n < 2 ^ 32 → num4 (be4 n) 0 ≡ n
be4_back n h = omega (arith, digit n 256 (omega arith), digit n 65536 (omega arith), digit n 16777216 (omega arith))

be8_back : (n : ℕ) → n < 2 ^ 64 → num8 (be8 n) 0 ≡ n
be8_back n h =
    omega (arith, digit n 256 (omega arith), digit n 65536 (omega arith), digit n 16777216 (omega arith), digit n 4294967296 (omega arith), digit n 1099511627776 (omega arith), digit n 281474976710656 (omega arith), digit n 72057594037927936 (omega arith))

signed_back : (z : ℤ) → SFits w64 z → to_z w64 (num8 (be8 (of_z w64 z)) 0) ≡ z
signed_back z f = ap (to_z w64) (be8_back (of_z w64 z) (search rules)) ∙ to_z-of_z w64 z f

-- A number is what its bytes say, cut out of the list.
cut : (xs : List ℕ) (i n k : ℕ) → i + n ≤ length xs → k < n → get_or (slice_range xs i (i + n)) k 0 ≡ get_or xs (i + k) 0
cut xs i n k l h = search (rules, places)

pub num2_cut : (xs : List ℕ) (i : ℕ) → i + 2 ≤ length xs → from_be_bytes w16 (slice_range xs i (i + 2)) ≡ num2 xs i
num2_cut xs i l =
    let first : get_or (slice_range xs i (i + 2)) 0 0 ≡ get_or xs i 0 = simp add-zero at (cut xs i 2 0 l (omega arith)) in
    omega (arith, first, cut xs i 2 1 l (omega arith))

pub num4_cut : (xs : List ℕ) (i : ℕ) → i + 4 ≤ length xs → from_be_bytes w32 (slice_range xs i (i + 4)) ≡ num4 xs i
num4_cut xs i l =
    let first : get_or (slice_range xs i (i + 4)) 0 0 ≡ get_or xs i 0 = simp add-zero at (cut xs i 4 0 l (omega arith)) in
    omega (arith, first, cut xs i 4 1 l (omega arith), cut xs i 4 2 l (omega arith), cut xs i 4 3 l (omega arith))

pub num8_cut : (xs : List ℕ) (i : ℕ) → i + 8 ≤ length xs → from_be_bytes w64 (slice_range xs i (i + 8)) ≡ num8 xs i
num8_cut xs i l =
    let first : get_or (slice_range xs i (i + 8)) 0 0 ≡ get_or xs i 0 = simp add-zero at (cut xs i 8 0 l (omega arith)) in
    omega (arith, first, cut xs i 8 1 l (omega arith), cut xs i 8 2 l (omega arith), cut xs i 8 3 l (omega arith), cut xs i 8 4 l (omega arith), cut xs i 8 5 l (omega arith), cut xs i 8 6 l (omega arith), cut xs i 8 7 l (omega arith))

-- Two lists that hold the same bytes from places i and j on, as many as a number has, hold the same number there.
abbrev pub Alike : List ℕ → ℕ → List ℕ → ℕ → ℕ → Type 0
Alike xs i ys j n = (d : ℕ) → d < n → get_or xs (i + d) 0 ≡ get_or ys (j + d) 0

pub num2_alike : (xs : List ℕ) (i : ℕ) (ys : List ℕ) (j : ℕ) → Alike xs i ys j 2 → num2 xs i ≡ num2 ys j
num2_alike xs i ys j h =
    let first : get_or xs i 0 ≡ get_or ys j 0 = simp add-zero at (h 0 (omega arith)) in
    omega (arith, first, h 1 (omega arith))

pub num4_alike : (xs : List ℕ) (i : ℕ) (ys : List ℕ) (j : ℕ) → Alike xs i ys j 4 → num4 xs i ≡ num4 ys j
num4_alike xs i ys j h =
    let first : get_or xs i 0 ≡ get_or ys j 0 = simp add-zero at (h 0 (omega arith)) in
    omega (arith, first, h 1 (omega arith), h 2 (omega arith), h 3 (omega arith))

num8_alike : (xs : List ℕ) (i : ℕ) (ys : List ℕ) (j : ℕ) → Alike xs i ys j 8 → num8 xs i ≡ num8 ys j
num8_alike xs i ys j h =
    let first : get_or xs i 0 ≡ get_or ys j 0 = simp add-zero at (h 0 (omega arith)) in
    omega (arith, first, h 1 (omega arith), h 2 (omega arith), h 3 (omega arith), h 4 (omega arith), h 5 (omega arith), h 6 (omega arith), h 7 (omega arith))

part : (xs : List ℕ) (i : ℕ) (ys : List ℕ) (j o n : ℕ) → o + n ≤ 32 → Alike xs i ys j 32 → Alike xs (i + o) ys (j + o) n
part xs i ys j o n few h d lt =
    let p : i + o + d ≡ i + (o + d) = omega arith in
    let q : j + o + d ≡ j + (o + d) = omega arith in
    rw (p, q) (h (o + d) (omega arith))

-- Slots with the same bytes hold the same numbers.
pub slots_alike : (xs : List ℕ) (s : ℕ) (ys : List ℕ) (t : ℕ) → Alike xs (32 * s) ys (32 * t) 32 → slot_at xs s ≡ slot_at ys t
unfolding slot_at
slots_alike xs s ys t h =
    let nx = num4_alike xs (32 * s) ys (32 * t) (λ d lt. h d (omega arith)) in
    let dy = num2_alike xs (32 * s + 4) ys (32 * t + 4) (part xs (32 * s) ys (32 * t) 4 2 (omega arith) h) in
    let ch = num8_alike xs (32 * s + 8) ys (32 * t + 8) (part xs (32 * s) ys (32 * t) 8 8 (omega arith) h) in
    let av = num8_alike xs (32 * s + 16) ys (32 * t + 16) (part xs (32 * s) ys (32 * t) 16 8 (omega arith) h) in
    let mg = num8_alike xs (32 * s + 24) ys (32 * t + 24) (part xs (32 * s) ys (32 * t) 24 8 (omega arith) h) in
    λ i. record {
      next = nx i;
      day = dy i;
      kind = h 6 (omega arith) i;
      account = h 7 (omega arith) i;
      change = to_z w64 (ch i);
      available = to_z w64 (av i);
      margin = mg i;
    }

-- The numbers of a slot fit their widths, as those of the code do.
pub record Fit (x : Slot) : Type 0 where
  pub next : x.next < 2 ^ 32
  pub day : x.day < 2 ^ 16
  pub change : SFits w64 x.change
  pub available : SFits w64 x.available
  pub margin : x.margin < 2 ^ 64

pub long_encoded : (x : Slot) → length (encoded x) ≡ 32
unfolding encoded
long_encoded x = refl

decoded : (x : Slot) → Fit x → slot_at (encoded x) 0 ≡ x
unfolding slot_at encoded
decoded x f =
    let nx = be4_back x.next f.next in
    let dy = be2_back x.day f.day in
    let ch = signed_back x.change f.change in
    let av = signed_back x.available f.available in
    let mg = be8_back x.margin f.margin in
    λ i. record { next = nx i; day = dy i; kind = x.kind; account = x.account; change = ch i; available = av i; margin = mg i }

-- What was written into a slot is read from it.
pub written : (xs : List ℕ) (s : ℕ) (x : Slot) → 32 * s + 32 ≤ length xs → Fit x → slot_at (patched xs (32 * s) 32 (encoded x)) s ≡ x
written xs s x l f =
    slots_alike (patched xs (32 * s) 32 (encoded x)) s (encoded x) 0
    (λ d lt. inside xs (32 * s) 32 (encoded x) (32 * s + d) (0 + d) (omega arith) (omega arith) (omega (arith, long_encoded x)))
    ∙ decoded x f

-- Every slot that lies apart from the bytes written reads as before.
pub untouched : (xs : List ℕ) (i n : ℕ) (bs : List ℕ) (t : ℕ) → i + n ≤ length xs → length bs ≡ n → (32 * t + 32 ≤ i) ⊎ (i + n ≤ 32 * t) → slot_at (patched xs i n bs) t ≡ slot_at xs t
untouched xs i n bs t l e apart =
    slots_alike (patched xs i n bs) t xs t
    (λ d lt. outside xs i n bs (32 * t + d) l e (⊎_elim (λ p. inl (omega arith)) (λ p. inr (omega arith)) apart))

known : (k : Kind) → kind_of (kind_byte k) ≡ Some k
known PayIn = refl
known PayOut = refl
known TradeFee = refl
known Settlement = refl

-- The entry of a slot that was made from it.
pub entry_back : (e : Entry) → entry_of (slot_of e) ≡ Some e
entry_back e = ap (with_kind (slot_of e)) (known e.kind)

-- The bytes are zeros where each of them is.
pub all_zeros : (bs : List ℕ) → list_all (λ b. b == 0) bs ≡ zeros bs
all_zeros [] = refl
all_zeros (b ∷ bs) = ap (λ t. b == 0 && t) (all_zeros bs)
