-- A token of pairs of hexadecimal digits as the library decodes it.
-- Assumes nothing.
use Rattle.std.proofs.Common.{◌≡◌, ℕ, zero, suc, ◌+◌, ◌*◌, ◌/◌, ◌<◌, ◌≤◌, true, false, List, [], ◌∷◌, length, get_or, map, Some, None, Ok, Err, Result, sym, refl, ap, ◌∙◌, inl, inr, arith}
use Rattle.std.specs.Char.{digit_value, is_digit}
use Rattle.std.specs.List.{prefix_len, range_with_len}
use Rattle.std.specs.Result.{result_unwrap_or}
use Rattle.std.proofs.lemmas.Bool.{cases_lt}
use Rattle.std.proofs.lemmas.List.FromFn.{fill_by_all}
use Rattle.std.proofs.lemmas.List.Sums.{prefix_len_is, prefix_len_passes}
use Rattle.std.proofs.lemmas.Bool.Decides.{nat_tests}
use Rattle.hex.specs.declared.error.FromHexError.{FromHexError}
use Rattle.hex.specs.Hex.{is_hex_digit, value_at, pair_value, decode_pairs, decode_of, ◌>>=◌}
use Rattle.hex.proofs.HexLemmas.{decode_of-ok, decode_of-err, decode_of-even}
use Rattle.text.specs.Numbers.{byte_at, pairs, read_pairs}

-- a digit of the library is one, and is worth as much
same_digit : (c : ℕ) → is_hex_digit c ≡ is_digit c 16
same_digit c = grind (arith, nat_tests)

worth : (c i v : ℕ) → value_at c i ≡ Ok v → v ≡ digit_value c
worth c i v h = grind (arith, nat_tests)

-- what went well in two steps
both_ok : {A B : Type 0} (r : Result A FromHexError) (f : A → Result B FromHexError) (y : B) → (r >>= f) ≡ Ok y → (x : A) × (r ≡ Ok x) × (f x ≡ Ok y)
both_ok (Ok x) f y h = (x, refl, h)
both_ok (Err e) f y h = cc h

-- one pair more in front
pair_more : (a b byte : ℕ) (rest others : List ℕ) (k : ℕ) → byte ≡ digit_value a * 16 + digit_value b → ((j : ℕ) → j < length others → get_or others j 0 ≡ byte_at rest j) → k < length (byte ∷ others) → get_or (byte ∷ others) k 0 ≡ byte_at (a ∷ b ∷ rest) k
pair_more a b byte rest others zero is each small = is
pair_more a b byte rest others (suc k) is each small =
    let high : 2 * suc k ≡ suc (suc (2 * k)) = omega arith in
    let low : suc (suc (2 * k)) + 1 ≡ suc (suc (2 * k + 1)) = omega arith in
    rw (high, low) (each k (omega arith))

-- each byte is that of its pair
byte_is : (i : ℕ) (s bytes : List ℕ) → decode_pairs i s ≡ Ok bytes → (k : ℕ) → k < length bytes → get_or bytes k 0 ≡ byte_at s k
unfolding decode_pairs
byte_is i [] bytes h k small =
    let e : [] ≡ bytes = ap (λ (r : Result (List ℕ) FromHexError). result_unwrap_or r []) h in
    absurd (omega (arith, ap length e))
byte_is i (a ∷ []) bytes h k small = cc h
byte_is i (a ∷ b ∷ rest) bytes h k small =
    let pair = both_ok (pair_value a b i) _ bytes h in
    let high = both_ok (value_at a i) _ pair.0 pair.1 in
    let low = both_ok (value_at b (i + 1)) _ pair.0 high.2 in
    let others = both_ok (decode_pairs (i + 2) rest) _ bytes pair.2 in
    let e : pair.0 ∷ others.0 ≡ bytes = ap (λ (r : Result (List ℕ) FromHexError). result_unwrap_or r []) others.2 in
    let byte : high.0 * 16 + low.0 ≡ pair.0 = ap (λ (r : Result ℕ FromHexError). result_unwrap_or r 0) low.2 in
    let is : pair.0 ≡ digit_value a * 16 + digit_value b = omega (arith, worth a i high.0 high.1, worth b (i + 1) low.0 low.1) in
    let more = pair_more a b pair.0 rest others.0 k is (byte_is (i + 2) rest others.0 others.1) in
    rw (← e) (more (rw (← e) at small))

-- what the library decodes are the bytes that the pairs write
pub decoded : (token bytes : List ℕ) → decode_of token ≡ Ok bytes → Some bytes ≡ read_pairs token
decoded token bytes is =
    let ok = decode_of-ok token bytes is in
    let all = prefix_len_is (λ c. is_digit c 16) token (length token) 0 (omega arith) (λ k h. sym (same_digit (get_or token k 0)) ∙ ok.1 k 0 h) (λ h. absurd (omega arith)) in
    let half : length token / 2 ≡ length bytes = omega (arith, ok) in
    let whole : bytes ≡ map (byte_at token) (range_with_len 0 (length bytes)) = fill_by_all (byte_at token) bytes (length bytes) 0 refl (λ k h. byte_is 0 token bytes (sym (decode_of-even token ok.0) ∙ is) k h) in
    let is_pairs : pairs token ≡ true = grind (arith, nat_tests, ok.0, all) in
    rw (is_pairs, half) (ap Some whole)

-- what it refuses is no pairs
pub refused : (token : List ℕ) (e : FromHexError) → decode_of token ≡ Err e → None ≡ read_pairs token
refused token e is =
    let no_pairs : pairs token ≡ false =
    elim (decode_of-err token e is) [
      | inl odd ↦ grind (arith, nat_tests, odd.0)
      | inr wrong ↦
          let fails : is_digit (get_or token wrong.0 0) 16 ≡ false = sym (same_digit (get_or token wrong.0 0)) ∙ wrong.3 in
          let k = wrong.0 in
          let inside : k < length token = wrong.2 in
          let less : prefix_len (λ c. is_digit c 16) token ≤ k =
          elim (cases_lt k (prefix_len (λ c. is_digit c 16) token)) [
            | inl h ↦ let passes = prefix_len_passes (λ c. is_digit c 16) token k 0 h in cc
            | inr h ↦ h
          ] in
          grind (arith, nat_tests)
    ] in
    rw no_pairs
