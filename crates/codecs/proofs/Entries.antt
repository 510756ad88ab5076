-- Where the bytes of an entry stand, and what it unpacks to.
-- Assumes nothing.
use Rattle.std.proofs.Common.{◌≡◌, ℕ, ◌+◌, ◌-◌, ◌*◌, ◌/◌, ◌<◌, ◌≤◌, List, length, take, drop, Ok, Err, Result, arith, length-drop}
use Rattle.std.proofs.Common.{length-take-le, drop-drop, lt-ltb}
use Rattle.std.proofs.lemmas.Bool.Decides.{nat_tests}
use borrow.Rule.Slice.PartMut.{put_mid}
use Rattle.formats.specs.declared.refusal.Placed.{Placed}
use Rattle.formats.specs.declared.refusal.ListRefusal.TheVariants.{Entry}
use Rattle.formats.specs.Refusals.{placed_fault}
use Rattle.formats.specs.Bytes.{AllBytes, AreBytes, bytes_of, spelled}
use Rattle.formats.proofs.Bytes.{bytes_again}
use Rattle.codecs.specs.PackedList.{entry_bytes, entry_at, with_entry}

-- what stands at a place inside, from what its bytes unpack to
module _ {E F : Type 0} (w : ℕ) (unpacked : List ℕ → Result E F) (bytes : List ℕ) (place : ℕ) (inside : place < length bytes / w) where
  pub entry_ok : (e : E) → placed_fault place (unpacked (entry_bytes w bytes place)) ≡ Ok e → Ok e ≡ entry_at w unpacked bytes place
  entry_ok e is = grind (arith, nat_tests)

  pub entry_err : (p : Placed F) → placed_fault place (unpacked (entry_bytes w bytes place)) ≡ Err p → Err (Entry p) ≡ entry_at w unpacked bytes place
  entry_err p is = grind (arith, nat_tests)

-- what a write to the entry's bytes leaves
pub written : (w : ℕ) (packed bytes : List ℕ) (place a : ℕ) → place < length bytes / w → a ≡ place * w → put_mid a w bytes packed ≡ with_entry w packed bytes place
written w packed bytes place a inside is = rw (lt-ltb place (length bytes / w) inside, is, drop-drop w (place * w) bytes)

-- what the number that an entry's bytes spell unpacks to
pub unpacked_code : {R : Type 0} (w : ℕ) (unpacked : List ℕ → R) (bytes : List ℕ) (place from to code : ℕ) → from ≡ place * w → to ≡ from + w → to ≤ length bytes → code ≡ spelled (take (to - from) (drop from bytes)) → AllBytes (take (to - from) (drop from bytes)) → unpacked (bytes_of w code) ≡ unpacked (entry_bytes w bytes place)
unpacked_code w unpacked bytes place from to code start long within is all =
    let wide : to - from ≡ w = omega (arith, long) in
    let slice : take (to - from) (drop from bytes) ≡ entry_bytes w bytes place = rw (wide, start) in
    let sized : length (entry_bytes w bytes place) ≡ w = length-take-le w (drop (place * w) bytes) (omega (arith, length-drop (place * w) bytes)) in
    rw (is, slice, bytes_again w (entry_bytes w bytes place) (sized, rw slice at all))

-- the bytes that packing writes are the packed form
pub packed_code : (w k : ℕ) (packed : List ℕ) → AreBytes w packed → k ≡ w → bytes_of k (spelled packed) ≡ packed
packed_code w k packed sized is = rw is (bytes_again w packed sized)
