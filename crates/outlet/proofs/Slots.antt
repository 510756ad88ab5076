-- The entries in the slots of bytes: how many, which, and what putting one makes of them.
use Rattle.std.proofs.Common.{◌≡◌, ℕ, ◌+◌, ◌-◌, ◌*◌, ◌/◌, ◌<◌, List, length, get_or, take, drop, set, refl, inl, inr, arith}
use Rattle.std.proofs.Common.{length-append, length-drop, length-set, length-take, get_or-set_other, get_or-set_same}
use borrow.Rule.Slice.PartMut.{put_mid}
use Rattle.std.proofs.lemmas.List.FromFn.{length-map-range_with_len, get_or-map-range_with_len}
use Rattle.std.proofs.lemmas.List.{same_lists}
use Rattle.std.proofs.lemmas.Slice.{between_is, take-put_mid_below, drop-put_mid, between-put_mid}
use Rattle.std.proofs.lemmas.Bool.{cases_lt}
use Rattle.formats.specs.declared.entry.SentEntry.{SentEntry}
use Rattle.formats.specs.Bytes.{spelled}
use Rattle.formats.specs.Sents.{sent_code, sent_of, sent_bytes}
use Rattle.formats.proofs.Bytes.{bytes_sized, number_again}
use Rattle.formats.proofs.Sents.{code_fits, code_again}
use Rattle.codecs.specs.PackedList.{entry_bytes, with_entry}
use Rattle.codecs.proofs.Entries.{written}
use Rattle.outlet.specs.Bytes.{entry_in, entries_in}

-- one entry for every five bytes
pub entries_length : (bs : List ℕ) → length (entries_in bs) ≡ length bs / 5
entries_length bs = length-map-range_with_len (entry_in bs) 0 (length bs / 5)

-- the entry at a place is that in the slot
pub entry_at : (bs : List ℕ) (i : ℕ) (d : SentEntry) → i < length bs / 5 → get_or (entries_in bs) i d ≡ entry_in bs i
entry_at bs i d h = get_or-map-range_with_len (entry_in bs) 0 (length bs / 5) i i d h (omega arith)

-- an entry's bytes unpack to it
entry_again : (e : SentEntry) → sent_of (spelled (sent_bytes e)) ≡ e
entry_again e = rw (number_again 5 (sent_code e) (code_fits e)) (cc (code_again e))

-- five bytes written over those of a slot
module _ (bs new : List ℕ) (i : ℕ) (inside : i < length bs / 5) (five : length new ≡ 5) where
  after : put_mid (i * 5) 5 bs new ≡ with_entry 5 new bs i
  after = written 5 new bs i (i * 5) inside refl

  -- are in the slot then
  slot_put : entry_bytes 5 (with_entry 5 new bs i) i ≡ new
  slot_put =
      let n : i * 5 + 5 - i * 5 ≡ 5 = omega arith in
      rw (← after) (rw n at (between-put_mid (i * 5) 5 bs new (i * 5 + 5) (omega arith) (omega arith)))

  -- and leave the slots before it and behind it
  slot_before : (k : ℕ) → k < i → entry_bytes 5 (with_entry 5 new bs i) k ≡ entry_bytes 5 bs k
  slot_before k h =
      let n : k * 5 + 5 - k * 5 ≡ 5 = omega arith in
      let front = take-put_mid_below (i * 5) 5 bs new (k * 5 + 5) (omega arith) (omega arith) in
      let slot : (xs : List ℕ) → entry_bytes 5 xs k ≡ drop (k * 5) (take (k * 5 + 5) xs) = λ xs. rw n at (between_is xs (k * 5) (k * 5 + 5)) in
      rw (← after, slot (put_mid (i * 5) 5 bs new), front, slot bs)

  slot_behind : (k : ℕ) → i < k → entry_bytes 5 (with_entry 5 new bs i) k ≡ entry_bytes 5 bs k
  slot_behind k h = rw (← after, drop-put_mid (i * 5) 5 bs new (k * 5) (omega arith) (omega arith) five)

  -- the bytes stay as many
  put_length : length (with_entry 5 new bs i) ≡ length bs
  put_length = rw (← after) (simp (length-append, length-drop, length-take) (omega arith))

-- an entry put into a slot is in it, and all other slots hold what they held
pub entries_put : (bs : List ℕ) (i : ℕ) (e : SentEntry) → i < length bs / 5 → entries_in (with_entry 5 (sent_bytes e) bs i) ≡ set (entries_in bs) i e
entries_put bs i e h =
    let five : length (sent_bytes e) ≡ 5 = (bytes_sized 5 (sent_code e)).0 in
    let after : List ℕ = with_entry 5 (sent_bytes e) bs i in
    let many : length (entries_in after) ≡ length bs / 5 = rw (entries_length after, put_length bs (sent_bytes e) i h five) in
    same_lists (entries_in after) (set (entries_in bs) i e)
    (rw (many, length-set (entries_in bs) i e, entries_length bs))
    (λ k d b.
    let inside : k < length bs / 5 = omega arith in
    let there = entry_at after k d (omega (arith, entries_length after)) in
    elim (cases_lt k i) [
      | inl lt ↦ rw (there, get_or-set_other (entries_in bs) i k e d (λ same. omega arith), entry_at bs k d inside, slot_before bs (sent_bytes e) i h five k lt)
      | inr ge ↦ elim (cases_lt i k) [
        | inl lt ↦ rw (there, get_or-set_other (entries_in bs) i k e d (λ same. omega arith), entry_at bs k d inside, slot_behind bs (sent_bytes e) i h five k lt)
        | inr le ↦
            let same : k ≡ i = omega arith in
            rw (there, same, slot_put bs (sent_bytes e) i h five, entry_again e, get_or-set_same (entries_in bs) i e d (omega (arith, entries_length bs)))
      ]
    ])
