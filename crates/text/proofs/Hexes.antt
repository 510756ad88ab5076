-- Bytes as hexadecimal text.
-- Assumes nothing.
use Rattle.std.proofs.Common.{◌≡◌, ℕ, zero, suc, ◌+◌, ◌/◌, ◌%◌, ◌<◌, ◌-◌, List, [], ◌∷◌, ◌++◌, ◌≤◌, length, get_or, take, drop, min, sym, ap, add-zero, add-suc, ◌∙◌, arith}
use native.Mathlib.Nat.{div-div-eq-div-mul}
use Rattle.std.proofs.lemmas.List.{take_all, take_more, flat_map_more, drop_all, drop-append-le}
use Rattle.formats.specs.Bytes.{bytes_of}
use Rattle.formats.proofs.Bytes.{bytes_sized}
use Rattle.text.specs.Digits.{hex_byte, hex_text}

-- a number's eight bytes
abbrev pub eight : ℕ → List ℕ
eight n = (n / 72057594037927936 % 256) ∷ (n / 281474976710656 % 256) ∷ (n / 1099511627776 % 256) ∷ (n / 4294967296 % 256) ∷ (n / 16777216 % 256) ∷ (n / 65536 % 256) ∷ (n / 256 % 256) ∷ (n % 256) ∷ []

eight_bytes : (n : ℕ) → eight n ≡ bytes_of 8 n
unfolding bytes_of
eight_bytes n = simp div-div-eq-div-mul

-- the lowest of some bytes
pub lowest : (j k n : ℕ) → drop j (bytes_of (j + k) n) ≡ bytes_of k n
unfolding bytes_of
lowest j zero n = rw add-zero (drop_all j (bytes_of j n) (omega (arith, (bytes_sized j n).0)))
lowest j (suc k) n =
    let long : j ≤ length (bytes_of (j + k) (n / 256)) = omega (arith, (bytes_sized (j + k) (n / 256)).0) in
    rw (add-suc, drop-append-le) (ap (λ (l : List ℕ). l ++ (n % 256 ∷ [])) (lowest j k (n / 256)))

-- the bytes that are written are the lowest, at most eight
pub chosen : (n k skipped : ℕ) (bs : List ℕ) → bs ≡ eight n → skipped ≡ 8 - k → take (8 - skipped) (drop skipped bs) ≡ bytes_of (min k 8) n
chosen n k skipped bs is skips =
    let whole : skipped + min k 8 ≡ 8 = omega arith in
    let all : bs ≡ bytes_of (skipped + min k 8) n = is ∙ eight_bytes n ∙ ap (λ m. bytes_of m n) (sym whole) in
    let low : drop skipped bs ≡ bytes_of (min k 8) n = ap (drop skipped) all ∙ lowest skipped (min k 8) n in
    let long : length (drop skipped bs) ≡ min k 8 = ap length low ∙ (bytes_sized (min k 8) n).0 in
    take_all (8 - skipped) (drop skipped bs) (omega arith) ∙ low

-- one byte more
pub one_more : (m n : ℕ) (bs : List ℕ) (i : ℕ) → bs ≡ bytes_of m n → i < length bs → hex_text (take i bs) ++ hex_byte (get_or bs i 0) ≡ hex_text (take (i + 1) bs)
one_more m n bs i are inside = flat_map_more hex_byte [] (take i bs) (get_or bs i 0) ∙ ap hex_text (sym (take_more bs i 0 inside))

-- and all of them
pub all_bytes : (m n : ℕ) (bs : List ℕ) (i : ℕ) → bs ≡ bytes_of m n → length bs ≤ i → hex_text (take i bs) ≡ hex_text (bytes_of m n)
all_bytes m n bs i are past = ap hex_text (take_all i bs past ∙ are)
