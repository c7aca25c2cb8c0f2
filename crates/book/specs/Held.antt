-- What holds of every book, so that an entry always finds its slot.
use Rattle.std.specs.Prelude.{◌≡◌, ℕ, ◌+◌, ◌*◌, ◌≤◌, true, false}
use Rattle.ledger.specs.declared.state.State.{State}
use Rattle.ledger.specs.Places.{is_resting}
use Rattle.book.specs.declared.desk.Desk.{Desk}

-- The archive has 64 slots to 262,144, and no more entries than slots.
abbrev pub SlotsIn : Desk → Type 0
SlotsIn d = (d.slots ≤ 262144) × (d.used ≤ d.slots) × (d.founded ≡ true → 64 ≤ d.slots)

-- The archive, of so many bytes, is that of a founded book, and so many entries more go into it.
pub record Takes (d : Desk) (n entries : ℕ) : Type 0 where
  pub founded : d.founded ≡ true
  pub bytes : n ≡ 32 * d.slots
  pub room : d.used + 1 + entries ≤ d.slots

-- From day to settle the 32 slots of the settling stay free.
abbrev pub RoomIn : Desk → State → Type 0
RoomIn d s = is_resting s.stage ≡ false → (d.founded ≡ true) × (d.used + 33 ≤ d.slots)

-- While the book rests, no permit is laid down.
abbrev pub RestIn : Desk → State → Type 0
RestIn d s = is_resting s.stage ≡ true → d.laid ≡ false
