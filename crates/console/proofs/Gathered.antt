-- Lines that are appended one after another.
-- Assumes nothing.
use Rattle.std.proofs.Common.{◌≡◌, ℕ, ◌+◌, List, [], ◌∷◌, ◌++◌, sym, ap, ◌∙◌, append_assoc, arith}
use Rattle.std.specs.List.{range_with_len, flat_map}
use Rattle.std.proofs.lemmas.List.FromFn.{map-range_with_len_more}
use Rattle.std.proofs.lemmas.List.{flat_map_more, map-id}

counted : (n : ℕ) → range_with_len 0 (n + 1) ≡ range_with_len 0 n ++ (n ∷ [])
counted n =
    sym (map-id (range_with_len 0 (n + 1))) ∙ map-range_with_len_more (λ (i : ℕ). i) 0 n n (omega arith) ∙ ap (λ (l : List ℕ). l ++ (n ∷ [])) (map-id (range_with_len 0 n))

-- one line more
pub line_more : (f : ℕ → List ℕ) (before : List ℕ) (n : ℕ) → (before ++ flat_map f (range_with_len 0 n)) ++ f n ≡ before ++ flat_map f (range_with_len 0 (n + 1))
line_more f before n = flat_map_more f before (range_with_len 0 n) n ∙ ap (λ l. before ++ flat_map f l) (sym (counted n))

-- a first line, and then some lines
pub gathered : (f : ℕ → List ℕ) (before head written after : List ℕ) (n m : ℕ) → after ≡ written ++ flat_map f (range_with_len 0 n) → written ≡ before ++ head → n ≡ m → after ≡ before ++ (head ++ flat_map f (range_with_len 0 m))
gathered f before head written after n m all first same =
    all ∙ ap (λ (l : List ℕ). l ++ flat_map f (range_with_len 0 n)) first ∙ append_assoc before head (flat_map f (range_with_len 0 n)) ∙ ap (λ (k : ℕ). before ++ (head ++ flat_map f (range_with_len 0 k))) same
