-- One entry more at the end of a ring, and one less at its start.
use Rattle.std.proofs.Common.{◌≡◌, ℕ, zero, suc, ◌+◌, ◌-◌, ◌<◌, ◌≤◌, ◌≢◌, List, [], ◌∷◌, ◌++◌, length, get_or, drop, set, sym, ap, ◌∙◌}
use Rattle.std.proofs.Common.{inl, inr, arith, length-append, length-drop, length-set, length-take, get_or-drop, get_or-set_other}
use Rattle.std.proofs.Common.{get_or-take, get_or-set_same}
use Rattle.std.proofs.lemmas.List.{get_or_append_left, get_or-append_right, take_more, same_lists, drop_more, drop_at, take-append-le}
use Rattle.std.proofs.lemmas.Bool.{lt-ltb, le-ltb, cases_lt}
use Rattle.std.proofs.lemmas.Bool.Decides.{nat_tests}
use Rattle.outlet.specs.Ring.{wrapped, ring_of}

-- an entry of a list gone round twice stands at the wrapped place
round_at : {A : Type 0} (xs : List A) (i : ℕ) (d : A) → get_or (xs ++ xs) i d ≡ get_or xs (wrapped (length xs) i) d
round_at xs i d = grind (arith, nat_tests, get_or_append_left xs xs d i, get_or-append_right xs xs (length xs) i d)

-- two places of a ring that are less than a round apart
wrapped_apart : (n f k c : ℕ) → f < n → c < n → k < c → wrapped n (f + k) ≢ wrapped n (f + c)
wrapped_apart n f k c hf hc hk e = grind (arith, nat_tests)

-- a place gone round lies inside
pub wrapped_inside : (n f c : ℕ) → f < n → c ≤ n → wrapped n (f + c) < n
wrapped_inside n f c hf hc = grind (arith, nat_tests)

module _ {A : Type 0} (xs : List A) (first count : ℕ) where
  -- an entry of the ring
  ring_at : (k : ℕ) (d : A) → k < count → get_or (ring_of xs first count) k d ≡ get_or xs (wrapped (length xs) (first + k)) d
  ring_at k d h = rw (get_or-take count (drop first (xs ++ xs)) k d h, get_or-drop first (xs ++ xs) k d) (round_at xs (first + k) d)

  -- how many it has
  ring_length : first < length xs → count ≤ length xs → length (ring_of xs first count) ≡ count
  ring_length hf hc = simp (length-take, length-drop, length-append) (omega arith)

module _ {A : Type 0} (xs : List A) (first count : ℕ) (e : A) (hf : first < length xs) (hc : count < length xs) where
  -- an entry put behind the others leaves them
  ring_kept : ring_of (set xs (wrapped (length xs) (first + count)) e) first count ≡ ring_of xs first count
  ring_kept =
      let p = wrapped (length xs) (first + count) in
      let l : length (set xs p e) ≡ length xs = length-set xs p e in
      same_lists (ring_of (set xs p e) first count) (ring_of xs first count)
      (ring_length (set xs p e) first count (omega arith) (omega arith) ∙ sym (ring_length xs first count hf (omega arith)))
      (λ k d h.
      let j : k < count = omega (arith, ring_length (set xs p e) first count (omega arith) (omega arith)) in
      rw (ring_at (set xs p e) first count k d j, ring_at xs first count k d j, l) (get_or-set_other xs p (wrapped (length xs) (first + k)) e d (wrapped_apart (length xs) first k count hf hc j)))

  -- and is the last
  pub ring_more : ring_of (set xs (wrapped (length xs) (first + count)) e) first (count + 1) ≡ ring_of xs first count ++ e ∷ []
  ring_more =
      let p = wrapped (length xs) (first + count) in
      let ys = set xs p e in
      let l : length ys ≡ length xs = length-set xs p e in
      let b = length-drop first (ys ++ ys) in
      let c = length-append ys ys in
      let here : get_or (drop first (ys ++ ys)) count e ≡ e =
      rw (get_or-drop first (ys ++ ys) count e, round_at ys (first + count) e, l) (get_or-set_same xs p e e (wrapped_inside (length xs) first count hf (omega arith))) in
      rw (take_more (drop first (ys ++ ys)) count e (omega arith), here, ring_kept)

-- the oldest entry stands at the first place, and the others from the next on
pub ring_less : {A : Type 0} (xs : List A) (first count : ℕ) (d : A) → first < length xs → 0 < count → count ≤ length xs → ring_of xs first count ≡ get_or xs first d ∷ ring_of xs (wrapped (length xs) (first + 1)) (count - 1)
ring_less xs first zero d hf h0 hc = absurd (omega arith)
ring_less xs first (suc m) d hf h0 hc =
    let c = length-append xs xs in
    let one : suc m - 1 ≡ m = omega arith in
    rw (one, drop_more (xs ++ xs) first d (omega arith), get_or_append_left xs xs d first hf)
    (ap (λ zs. get_or xs first d ∷ zs) (elim (cases_lt (first + 1) (length xs)) [
      | inl h ↦ rw (lt-ltb (first + 1) (length xs) h)
      | inr h ↦
          let whole : first + 1 - length xs ≡ 0 = omega arith in
          rw (le-ltb (first + 1) (length xs) h, whole, drop_at xs xs (first + 1) (omega arith), take-append-le m xs xs (omega arith))
    ]))
