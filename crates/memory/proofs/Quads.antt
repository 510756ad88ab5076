-- The words that bytes hold: how many, which, and what pasting a word's bytes makes of them.
use Rattle.std.proofs.Common.{◌≡◌, ℕ, zero, suc, ◌+◌, ◌*◌, ◌/◌, ◌%◌, ◌<◌, ◌≤◌, List, ◌∷◌, [], length, drop, set, refl, arith, drop-drop}
use Rattle.std.proofs.Common.{length-take}
use borrow.Rule.Slice.PartMut.{put_mid}
use Rattle.std.proofs.lemmas.Slice.{drop-put_mid}
use Rattle.std.specs.Int.{from_be_bytes, w32}
use Rattle.std.specs.Prelude.{map}
use Rattle.std.specs.Simd.{first_chunks}
use Rattle.memory.specs.Bytes.{word_of, bytes_of, words_in, memory_in, pasted}

-- one word for every four bytes
pub words_length : (bs : List ℕ) → length (words_in bs) ≡ length bs / 4
words_length (a ∷ b ∷ c ∷ d ∷ rest) = omega (arith, words_length rest)
words_length _ = refl

-- the words are the numbers of the chunks of four
pub words_of_chunks : (bs : List ℕ) → map (from_be_bytes w32) (first_chunks 4 (length bs / 4) bs) ≡ words_in bs
words_of_chunks bs = rw (← words_length bs) (each bs)
  where
    each : (bs : List ℕ) → map (from_be_bytes w32) (first_chunks 4 (length (words_in bs)) bs) ≡ words_in bs
    each (a ∷ b ∷ c ∷ d ∷ rest) =
        let e : from_be_bytes w32 (a ∷ b ∷ c ∷ d ∷ []) ≡ word_of a b c d = omega arith in
        let h = each rest in
        cc
    each _ = refl

-- a word put together from its bytes
pub word_again : (w : ℕ) → w < 4294967296 → word_of (w / 16777216 % 256) (w / 65536 % 256) (w / 256 % 256) (w % 256) ≡ w
word_again w h = omega arith

-- pasting past the first element leaves it
paste_past : (x : ℕ) (xs : List ℕ) (at : ℕ) (new : List ℕ) → pasted (x ∷ xs) (suc at) new ≡ x ∷ pasted xs at new
paste_past x xs at new = let e : suc at + length new ≡ suc (at + length new) = omega arith in rw e

paste_past_four : (a b c d : ℕ) (rest : List ℕ) (i : ℕ) (new : List ℕ) → pasted (a ∷ b ∷ c ∷ d ∷ rest) (4 * suc i) new ≡ a ∷ b ∷ c ∷ d ∷ pasted rest (4 * i) new
paste_past_four a b c d rest i new =
    let e : 4 * suc i ≡ suc (suc (suc (suc (4 * i)))) = omega arith in
    rw (e, paste_past a, paste_past b, paste_past c, paste_past d)

-- pasting a word's bytes at its place replaces that word alone
pub words_pasted : (bs : List ℕ) (i w : ℕ) → w < 4294967296 → i < length (words_in bs) → words_in (pasted bs (4 * i) (bytes_of w)) ≡ set (words_in bs) i w
words_pasted (a ∷ b ∷ c ∷ d ∷ rest) zero w f h = rw (word_again w f) refl
words_pasted (a ∷ b ∷ c ∷ d ∷ rest) (suc i) w f h = rw (paste_past_four a b c d rest i (bytes_of w), words_pasted rest i w f (omega arith))
words_pasted _ i w f h = absurd (omega arith)

-- what a write to a part of a slice leaves is a paste
pub pasted_part : (xs : List ℕ) (at k : ℕ) (new : List ℕ) → length new ≡ k → put_mid at k xs new ≡ pasted xs at new
pasted_part xs at k new e = rw (drop-drop k at xs, ← e)

-- a paste leaves what lies past it
pub past_paste : (xs : List ℕ) (at : ℕ) (new : List ℕ) (n : ℕ) → at + length new ≤ n → at ≤ length xs → drop n (pasted xs at new) ≡ drop n xs
past_paste xs at new n h k = rw (← pasted_part xs at (length new) new refl) (drop-put_mid at (length new) xs new n h k refl)

-- the bytes of a word of the memory lie inside
pub quad_inside : (bs : List ℕ) (a : ℕ) → a < length (memory_in bs) → 4 * a + 4 ≤ length bs
quad_inside bs a h = omega (arith, words_length bs, length-take 65536 (words_in bs))
