-- Numbers as bytes, each way.
-- Assumes nothing.
use Rattle.std.proofs.Common.{◌≡◌, ℕ, zero, suc, ◌/◌, ◌%◌, ◌^◌, ◌<◌, ◌≤◌, List, [], ◌∷◌, ◌++◌, length, get_or, take, Ok, Result, refl}
use Rattle.std.proofs.Common.{pow-suc, arith, length-append, take_all, take-suc}
use native.Mathlib.Nat.{div-div-eq-div-mul}
use Rattle.std.specs.Int.Digits.{AllBelowBase}
use Rattle.std.proofs.lemmas.Nat.{div-mul-add, mod-mul-add}
use Rattle.std.proofs.lemmas.Int.Digits.{number_push, number_lt}
use Rattle.formats.specs.Bytes.{AllBytes, AreBytes, bytes_of, spelled}

-- one byte more
pub all_push : (bs : List ℕ) (b : ℕ) → AllBytes bs → b < 256 → AllBytes (bs ++ (b ∷ []))
all_push [] b h k = (k, tt)
all_push (x ∷ bs) b h k = (h.0, all_push bs b h.1 k)

-- a byte at a place is below 256
pub byte_at : (bs : List ℕ) (i : ℕ) → AllBytes bs → get_or bs i 0 < 256
byte_at [] i h = omega arith
byte_at (b ∷ bs) zero h = h.0
byte_at (b ∷ bs) (suc i) h = byte_at bs i h.1

-- the lowest k bytes are k bytes
pub bytes_sized : (k n : ℕ) → AreBytes k (bytes_of k n)
unfolding bytes_of
bytes_sized zero n = (refl, tt)
bytes_sized (suc k) n =
    let h = bytes_sized k (n / 256) in
    (rw (length-append, h.0) (omega arith), all_push (bytes_of k (n / 256)) (n % 256) h.1 (omega arith))

-- bytes of a number that fits spell the number
pub number_again : (k n : ℕ) → n < 256 ^ k → spelled (bytes_of k n) ≡ n
unfolding bytes_of
number_again zero n h = omega arith
number_again (suc k) n h =
    rw (number_push, number_again k (n / 256) (omega (arith, pow-suc 256 k))) (omega arith)

front_again : (bs : List ℕ) (i : ℕ) → i ≤ length bs → AllBytes bs → bytes_of i (spelled (take i bs)) ≡ take i bs
unfolding bytes_of
front_again bs zero h all = refl
front_again bs (suc i) h all =
    let below : get_or bs i 0 < 256 = byte_at bs i all in
    rw (take-suc bs i 0 h, number_push 256 (take i bs) (get_or bs i 0), div-mul-add, mod-mul-add, front_again bs i (omega arith) all)

-- bytes are those of the number that they spell
pub bytes_again : (k : ℕ) (bs : List ℕ) → AreBytes k bs → bytes_of k (spelled bs) ≡ bs
bytes_again k bs h =
    rw (take_all k bs (omega (arith, h.0))) at (front_again bs k (omega (arith, h.0)) h.1)

-- what k bytes spell has k bytes
pub spelled_fits : (k : ℕ) (bs : List ℕ) → AreBytes k bs → spelled bs < 256 ^ k
spelled_fits k bs h = rw (← h.0) (number_lt 256 bs (under bs h.1))
  where
    under : (bs : List ℕ) → AllBytes bs → AllBelowBase 256 bs
    under [] h = tt
    under (b ∷ bs) h = (h.0, under bs h.1)

-- a kind whose entries are numbers of k bytes: unpacking what was packed gives the entry
pub again_from : {E F : Type 0} (k : ℕ) (code : E → ℕ) (decode : ℕ → Result E F) → ((e : E) → code e < 256 ^ k) → ((e : E) → decode (code e) ≡ Ok e) → (e : E) → decode (spelled (bytes_of k (code e))) ≡ Ok e
again_from k code decode fits again e = rw (number_again k (code e) (fits e)) (again e)

-- and packing what unpacks gives the bytes
pub back_from : {E F : Type 0} (k : ℕ) (code : E → ℕ) (decode : ℕ → Result E F) → ((n : ℕ) (e : E) → n < 256 ^ k → decode n ≡ Ok e → code e ≡ n) → (bs : List ℕ) (e : E) → AreBytes k bs → decode (spelled bs) ≡ Ok e → bytes_of k (code e) ≡ bs
back_from k code decode back bs e h is = rw (back (spelled bs) e (spelled_fits k bs h) is) (bytes_again k bs h)

-- the lowest four bytes of a number spell its remainder by 2 ^ 32
pub low_four : (n : ℕ) → spelled (bytes_of 4 n) ≡ n % 4294967296
unfolding bytes_of
low_four n = omega arith

-- the lowest five bytes, written out
pub low_bytes : (n : ℕ) → (n / 4294967296 % 256) ∷ (n / 16777216 % 256) ∷ (n / 65536 % 256) ∷ (n / 256 % 256) ∷ (n % 256) ∷ [] ≡ bytes_of 5 n
unfolding bytes_of
low_bytes n = simp div-div-eq-div-mul

-- the lowest five bytes of a number spell its remainder by 2 ^ 40
pub low_five : (n : ℕ) → spelled (bytes_of 5 n) ≡ n % 2 ^ 40
unfolding bytes_of
low_five n = omega arith
