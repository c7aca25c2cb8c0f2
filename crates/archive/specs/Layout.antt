-- Where each number lies in a slot of 32 bytes, and what a written slot leaves of the rest (docs/ARCHIVE.md).
use Rattle.std.specs.Prelude.{ℕ, ◌+◌, ◌*◌, ◌/◌, ◌%◌, Bool, ◌&&◌, List, [], ◌∷◌, ◌++◌, take, drop, replicate, Some, None, Option, Result, ok_or, ◌==◌, nat_le, slice_index}
use Rattle.std.proofs.Common.{to_z, of_z}
use Rattle.std.specs.Int.{w64}
use Rattle.archive.specs.declared.entry.Entry.{Entry}
use Rattle.archive.specs.declared.entry.Kind.{Kind}
use Rattle.archive.specs.declared.entry.UnknownKind.{UnknownKind}
use Rattle.archive.specs.declared.layout.Slot.{Slot}
use Rattle.archive.specs.Kinds.{kind_byte, kind_of}

-- An archive has 64 to 262,144 slots of 32 bytes.
abbrev pub allowed : ℕ → Bool
allowed n = n % 32 == 0 && (nat_le 64 (n / 32) && nat_le (n / 32) 262144)

-- Numbers of two, four and eight bytes, the highest byte first.
abbrev pub be2 : ℕ → List ℕ
be2 n = (n / 256 % 256) ∷ (n % 256) ∷ []

abbrev pub be4 : ℕ → List ℕ
be4 n = (n / 16777216 % 256) ∷ (n / 65536 % 256) ∷ (n / 256 % 256) ∷ (n % 256) ∷ []

abbrev pub be8 : ℕ → List ℕ
be8 n =
    (n / 72057594037927936 % 256) ∷ (n / 281474976710656 % 256) ∷ (n / 1099511627776 % 256) ∷ (n / 4294967296 % 256)
    ∷ (n / 16777216 % 256) ∷ (n / 65536 % 256) ∷ (n / 256 % 256) ∷ (n % 256) ∷ []

-- The number that stands in the bytes from place i on.
abbrev pub num2 : List ℕ → ℕ → ℕ
num2 b i = slice_index b i * 256 + slice_index b (i + 1)

abbrev pub num4 : List ℕ → ℕ → ℕ
num4 b i = slice_index b i * 16777216 + slice_index b (i + 1) * 65536 + slice_index b (i + 2) * 256 + slice_index b (i + 3)

abbrev pub num8 : List ℕ → ℕ → ℕ
num8 b i =
    slice_index b i * 72057594037927936 + slice_index b (i + 1) * 281474976710656 + slice_index b (i + 2) * 1099511627776
    + slice_index b (i + 3) * 4294967296 + slice_index b (i + 4) * 16777216 + slice_index b (i + 5) * 65536 + slice_index b (i + 6) * 256
    + slice_index b (i + 7)

-- The 32 bytes of a slot: next, day, kind, account, change, available, margin.
unfoldable pub encoded : Slot → List ℕ
encoded x =
    be4 x.next ++ (be2 x.day ++ (x.kind ∷ x.account
    ∷ (be8 (of_z w64 x.change) ++ (be8 (of_z w64 x.available) ++ be8 x.margin))))

-- What the bytes of slot s say, whatever they are.
unfoldable pub slot_at : List ℕ → ℕ → Slot
slot_at xs s = record {
  next = num4 xs (32 * s);
  day = num2 xs (32 * s + 4);
  kind = slice_index xs (32 * s + 6);
  account = slice_index xs (32 * s + 7);
  change = to_z w64 (num8 xs (32 * s + 8));
  available = to_z w64 (num8 xs (32 * s + 16));
  margin = num8 xs (32 * s + 24);
}

-- An entry as it lies in its slot, and the entry that a slot holds, if its kind is known.
abbrev pub slot_of : Entry → Slot
slot_of e = record {
  next = e.next;
  day = e.day;
  kind = kind_byte e.kind;
  account = e.account;
  change = e.change;
  available = e.available;
  margin = e.margin;
}

abbrev pub with_kind : Slot → Option Kind → Option Entry
with_kind x None = None
with_kind x (Some k) = Some (record {
  next = x.next;
  day = x.day;
  kind = k;
  account = x.account;
  change = x.change;
  available = x.available;
  margin = x.margin;
})

abbrev pub entry_of : Slot → Option Entry
entry_of x = with_kind x (kind_of x.kind)

-- The same, with the byte of its kind where that is unknown.
abbrev pub entry_from : Slot → Result Entry UnknownKind
entry_from x = ok_or (entry_of x) (record { 0 = x.kind })

-- Slot 0: the entries used, the book's number, and zeros.
unfoldable pub header : ℕ → ℕ → List ℕ
header used book = be4 used ++ (be2 book ++ replicate 26 0)

abbrev pub used_in : List ℕ → ℕ
used_in xs = num4 xs 0

-- The bytes with the n from place i on replaced by others.
abbrev pub patched : List ℕ → ℕ → ℕ → List ℕ → List ℕ
patched xs i n bytes = take i xs ++ (bytes ++ drop (i + n) xs)
