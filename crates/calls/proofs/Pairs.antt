-- The numbers that pairs of bytes hold: how many, and which.
-- Assumes nothing.
use Rattle.std.proofs.Common.{◌≡◌, ℕ, ◌+◌, ◌-◌, ◌*◌, ◌/◌, ◌<◌, ◌≤◌, min, List, [], ◌∷◌, ◌++◌, length, get_or, take, drop, sym, refl, ap}
use Rattle.std.proofs.Common.{◌∙◌, arith, length-take, length-take-le, take_all}
use Rattle.std.proofs.lemmas.List.{take_min, take_rest, take-map, map_more, length-map}
use Rattle.std.specs.Int.{from_be_bytes, w16}
use Rattle.std.specs.Prelude.{map}
use Rattle.std.specs.Simd.{first_chunks}
use Rattle.calls.specs.Settings.{pairs_in, places_in}

-- one number for every two bytes
pub pairs_length : (bs : List ℕ) → length (pairs_in bs) ≡ length bs / 2
pairs_length [] = refl
pairs_length (a ∷ []) = refl
pairs_length (a ∷ b ∷ rest) = let h = pairs_length rest in omega arith

-- they are the numbers of the chunks of two
pairs_of_chunks : (bs : List ℕ) → map (from_be_bytes w16) (first_chunks 2 (length bs / 2) bs) ≡ pairs_in bs
pairs_of_chunks bs = ap (λ k. map (from_be_bytes w16) (first_chunks 2 k bs)) (sym (pairs_length bs)) ∙ each bs
  where
    each : (bs : List ℕ) → map (from_be_bytes w16) (first_chunks 2 (length (pairs_in bs)) bs) ≡ pairs_in bs
    each [] = refl
    each (a ∷ []) = refl
    each (a ∷ b ∷ rest) =
        let e : from_be_bytes w16 (a ∷ b ∷ []) ≡ a * 256 + b = omega arith in
        let h = each rest in
        cc

-- the first nine of them, taken one after the other from the chunks that are kept
module _ (chunks : List (List ℕ)) (count i : ℕ) (items : List ℕ) (nine : count ≡ min (length chunks) 9) (so_far : items ≡ map (from_be_bytes w16) (take i (take count chunks))) where
  pub kept_few : i < length (take count chunks) → length items < 9
  kept_few h =
      let l : length items ≡ i = ap length so_far ∙ length-map (take i (take count chunks)) (from_be_bytes w16) ∙ length-take-le i (take count chunks) (omega arith) in
      let k = length-take count chunks in
      omega arith

  pub kept_more : (x : ℕ) (none : List ℕ) → i < length (take count chunks) → x ≡ from_be_bytes w16 (get_or (take count chunks) i none) → items ++ (x ∷ []) ≡ map (from_be_bytes w16) (take (i + 1) (take count chunks))
  kept_more x none h is = let m = map_more (from_be_bytes w16) (take count chunks) i none h in cc

  pub kept_all : (bs : List ℕ) → chunks ≡ first_chunks 2 (length bs / 2) bs → length (take count chunks) ≤ i → items ≡ take 9 (pairs_in bs)
  kept_all bs are h =
      let k : count ≡ min 9 (length chunks) = omega arith in
      so_far
      ∙ ap (map (from_be_bytes w16)) (take_all i (take count chunks) h ∙ ap (λ n. take n chunks) k ∙ take_min 9 chunks)
      ∙ sym (take-map (from_be_bytes w16) 9 chunks)
      ∙ ap (λ xs. take 9 (map (from_be_bytes w16) xs)) are
      ∙ ap (take 9) (pairs_of_chunks bs)

-- the entry places that settings hold, by the bytes past the first
pub places_are : (bs : List ℕ) → take 9 (pairs_in (take (length bs - 1) (drop 1 bs))) ≡ places_in bs
places_are [] = refl
places_are (l ∷ rest) = ap (λ x. take 9 (pairs_in x)) (take_rest (l ∷ rest) 1)
