-- What stands in the places of a ring: the entries that wait, the room, the place of the next entry; and the ring itself, empty and
-- after each call.
use Rattle.std.specs.Prelude.{◌≡◌, ℕ, ◌+◌, ◌-◌, List}
use Rattle.std.specs.Borrow.{MutBor}
use Rattle.formats.specs.declared.entry.SentEntry.{SentEntry}
use Rattle.outlet.specs.Backing.{Backing, over}
use Rattle.outlet.specs.Bytes.{entries_in}
use Rattle.outlet.specs.declared.ring.Ring.{Ring}
use Rattle.outlet.specs.Ring.{wrapped, ring_of, count_claimed, first_released}

-- the entries that wait, oldest first
abbrev pub in_ring : {A : Type 0} → List A → Ring → List A
in_ring xs ring = ring_of xs ring.first ring.count

-- those of an outlet over bytes
abbrev pub waiting_in : MutBor (List ℕ) → Ring → List SentEntry
waiting_in bytes ring = in_ring (entries_in bytes.now) ring

-- how many more there is room for
abbrev pub room_in : Ring → ℕ
room_in ring = ring.places - ring.count

-- where the next entry goes
abbrev pub next_place : Ring → ℕ
next_place ring = wrapped ring.places (ring.first + ring.count)

-- what an outlet over bytes stands on
abbrev pub bytes_backing : MutBor (List ℕ) → Ring → Backing
bytes_backing bytes ring = over bytes.ghost_name bytes.now ring.first ring.count

-- a ring of so many places, none of them filled
abbrev pub Empty : ℕ → Ring → Type 0
Empty places ring = (ring.places ≡ places) × (ring.first ≡ 0) × (ring.count ≡ 0)

-- the ring after a place was asked for
abbrev pub Claimed : Ring → Ring → Type 0
Claimed was is = (is.places ≡ was.places) × (is.first ≡ was.first) × (is.count ≡ count_claimed was.places was.count)

-- the ring after its oldest place was given up
abbrev pub Released : Ring → Ring → Type 0
Released was is =
    (is.places ≡ was.places) × (is.first ≡ first_released was.places was.first was.count) × (is.count ≡ was.count - 1)
