-- What a ring that claims a place, or releases its oldest, makes of the entries that wait in it.
use Rattle.std.proofs.Common.{◌≡◌, ℕ, ◌+◌, ◌-◌, ◌<◌, ◌≤◌, cond, ltb, List, ◌∷◌, length, get_or, set, Some, None, Ok, arith}
use Rattle.std.proofs.lemmas.Bool.{lt-ltb}
use Rattle.std.proofs.lemmas.Bool.Decides.{nat_tests}
use Rattle.formats.specs.declared.entry.SentEntry.{SentEntry}
use Rattle.outlet.specs.Ring.{wrapped, ring_of}
use Rattle.outlet.specs.Waiting.{sent, take_answer, taken, room_taken}
use Rattle.outlet.proofs.Rings.{ring_more, ring_less}

-- a place that was claimed: there was one, behind the filled ones
module _ (places first count place : ℕ) (v : Some place ≡ cond (ltb count places) (Some (wrapped places (first + count))) None) where
  pub claimed_room : count < places
  claimed_room = grind (arith, nat_tests)

  pub claimed_place : place ≡ wrapped places (first + count)
  claimed_place = grind (arith, nat_tests)

-- the oldest place, that was released: there was one
module _ (first count place : ℕ) (v : Some place ≡ cond (ltb 0 count) (Some first) None) where
  pub released_some : 0 < count
  released_some = grind (arith, nat_tests)

  pub released_place : place ≡ first
  released_place = grind (arith, nat_tests)

module _ (xs : List SentEntry) (places first count place : ℕ) (long : length xs ≡ places) (inside : first ≤ places - 1) (v : Some place ≡ cond (ltb count places) (Some (wrapped places (first + count))) None) where
  -- an entry written to the claimed place waits behind the others
  pub sends : (e : SentEntry) → ring_of (set xs place e) first (count + 1) ≡ sent (ring_of xs first count) (places - count) e
  sends e =
      let h : count < places = claimed_room places first count place v in
      let p : place ≡ wrapped (length xs) (first + count) = rw long (claimed_place places first count place v) in
      rw (p, ring_more xs first count e (omega arith) (omega arith), lt-ltb 0 (places - count) (omega arith))

module _ (xs : List SentEntry) (places first count place : ℕ) (d : SentEntry) (long : length xs ≡ places) (inside : first ≤ places - 1) (filled : count ≤ places) (v : Some place ≡ cond (ltb 0 count) (Some first) None) where
  -- the entry at the released place is the oldest, and those from the next on still wait
  oldest : ring_of xs first count ≡ get_or xs place d ∷ ring_of xs (wrapped places (first + 1)) (count - 1)
  oldest =
      let h : 0 < count = released_some first count place v in
      rw (released_place first count place v, ← long) (ring_less xs first count d (omega arith) h (omega arith))

  pub takes : Ok (get_or xs place d) ≡ take_answer (ring_of xs first count)
  takes = rw oldest

  pub takes_rest : ring_of xs (wrapped places (first + 1)) (count - 1) ≡ taken (ring_of xs first count)
  takes_rest = rw oldest

  pub takes_room : places - (count - 1) ≡ room_taken (ring_of xs first count) (places - count)
  takes_room = let h = released_some first count place v in rw oldest (omega arith)
