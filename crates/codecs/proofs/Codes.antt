-- Up to eight bytes as one number.
-- Assumes nothing.
use Rattle.std.proofs.Common.{◌≡◌, ℕ, zero, suc, ◌-◌, ◌/◌, ◌%◌, ◌<◌, ◌≤◌, List, [], ◌∷◌, ◌++◌, length, get_or, drop, ap, arith}
use native.Mathlib.Nat.{div-div-eq-div-mul, suc-sub-suc}
use lib.Seq.{drop-append-le}
use Rattle.std.proofs.lemmas.List.{drop_all}
use borrow.Rule.Slice.PartMut.{put_mid}
use Rattle.std.specs.Int.{from_be_bytes, w64}
use Rattle.formats.specs.Bytes.{AllBytes, bytes_of, spelled}
use Rattle.formats.proofs.Bytes.{bytes_sized}

-- numbers that each fit a byte are bytes
pub all_bytes : (bs : List ℕ) → ((i : ℕ) → get_or bs i 0 < 256) → AllBytes bs
all_bytes [] h = tt
all_bytes (b ∷ bs) h = (h 0, all_bytes bs (λ i. h (suc i)))

-- bytes at the end of eight, behind zeros, spell the same as by themselves
pub spelled_behind : (bs : List ℕ) → length bs ≤ 8 → from_be_bytes w64 (put_mid (8 - length bs) (8 - (8 - length bs)) (0 ∷ 0 ∷ 0 ∷ 0 ∷ 0 ∷ 0 ∷ 0 ∷ 0 ∷ []) bs) ≡ spelled bs
spelled_behind [] few = omega arith
spelled_behind (a ∷ []) few = omega arith
spelled_behind (a ∷ b ∷ []) few = omega arith
spelled_behind (a ∷ b ∷ c ∷ []) few = omega arith
spelled_behind (a ∷ b ∷ c ∷ d ∷ []) few = omega arith
spelled_behind (a ∷ b ∷ c ∷ d ∷ e ∷ []) few = omega arith
spelled_behind (a ∷ b ∷ c ∷ d ∷ e ∷ f ∷ []) few = omega arith
spelled_behind (a ∷ b ∷ c ∷ d ∷ e ∷ f ∷ g ∷ []) few = omega arith
spelled_behind (a ∷ b ∷ c ∷ d ∷ e ∷ f ∷ g ∷ h ∷ []) few = omega arith
spelled_behind (a ∷ b ∷ c ∷ d ∷ e ∷ f ∷ g ∷ h ∷ i ∷ bs) few = absurd (omega arith)

-- the last k of a number's m lowest bytes are its k lowest
pub last_bytes : (m k n : ℕ) → k ≤ m → drop (m - k) (bytes_of m n) ≡ bytes_of k n
unfolding bytes_of
last_bytes m zero n h = drop_all (m - 0) (bytes_of m n) (omega (arith, (bytes_sized m n).0))
last_bytes zero (suc k) n h = absurd (omega arith)
last_bytes (suc m) (suc k) n h =
    rw (suc-sub-suc m k, drop-append-le (m - k) (bytes_of m (n / 256)) (n % 256 ∷ []) (omega (arith, (bytes_sized m (n / 256)).0)))
    (ap (λ l. l ++ (n % 256 ∷ [])) (last_bytes m k (n / 256) (omega arith)))

-- a number's eight lowest bytes, written out
pub eight_bytes : (n : ℕ) → (n / 72057594037927936 % 256) ∷ (n / 281474976710656 % 256) ∷ (n / 1099511627776 % 256) ∷ (n / 4294967296 % 256) ∷ (n / 16777216 % 256) ∷ (n / 65536 % 256) ∷ (n / 256 % 256) ∷ (n % 256) ∷ [] ≡ bytes_of 8 n
unfolding bytes_of
eight_bytes n = simp div-div-eq-div-mul
