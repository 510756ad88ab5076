-- Sending into a ring of slots in bytes, and taking from it.
use Rattle.std.proofs.Common.{◌≡◌, ℕ, ◌+◌, ◌-◌, ◌/◌, ◌<◌, ◌≤◌, cond, ltb, List, length, get_or, Some, None, sym, ◌∙◌, arith}
use Rattle.std.proofs.lemmas.Bool.Decides.{nat_tests}
use Rattle.formats.specs.declared.entry.SentEntry.{SentEntry}
use Rattle.formats.specs.Sents.{sent_bytes}
use Rattle.codecs.specs.PackedList.{with_entry}
use Rattle.outlet.specs.Bytes.{entry_in, entries_in}
use Rattle.outlet.specs.Ring.{wrapped, ring_of}
use Rattle.outlet.specs.Waiting.{sent}
use Rattle.outlet.proofs.Slots.{entries_length, entries_put, entry_at}
use Rattle.outlet.proofs.Turns.{sends}

module _ (bs : List ℕ) (places first count place : ℕ) (whole : places ≡ length bs / 5) (inside : first ≤ places - 1) (v : Some place ≡ cond (ltb count places) (Some (wrapped places (first + count))) None) where
  -- the claimed slot is one of the slots
  pub claimed_inside : place < length bs / 5
  claimed_inside = grind (arith, nat_tests)

  -- an entry put there waits behind the others
  pub image_sends : (e : SentEntry) → ring_of (entries_in (with_entry 5 (sent_bytes e) bs place)) first (count + 1) ≡ sent (ring_of (entries_in bs) first count) (places - count) e
  image_sends e = rw (entries_put bs place e claimed_inside) (sends (entries_in bs) places first count place (entries_length bs ∙ sym whole) inside v e)

module _ (bs : List ℕ) (places first count place : ℕ) (whole : places ≡ length bs / 5) (inside : first ≤ places - 1) (filled : count ≤ places) (v : Some place ≡ cond (ltb 0 count) (Some first) None) where
  -- the released slot is one of the slots
  pub released_inside : place < length bs / 5
  released_inside = grind (arith, nat_tests)

  -- the entry in it
  pub image_takes : (d : SentEntry) → entry_in bs place ≡ get_or (entries_in bs) place d
  image_takes d = sym (entry_at bs place d released_inside)
