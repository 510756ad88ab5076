-- Reading a memory that is the front of a list: what is answered inside and outside.
use Rattle.std.proofs.Common.{◌≡◌, ℕ, ◌<◌, ◌≤◌, min, ltb, true, false, Option, Some, None, List, length, get_or, take, Ok, Err, Result}
use Rattle.std.proofs.Common.{sym, refl, ap, ◌∙◌, arith}
use Rattle.std.proofs.lemmas.Bool.{lt-ltb, le-ltb}
use Rattle.std.proofs.lemmas.Bool.Decides.{nat_tests}
use Rattle.std.proofs.lemmas.List.{take_min, length-map, get_or-map}
use Rattle.std.specs.Borrow.{Bor}
use Rattle.std.specs.Prelude.{map}
use Rattle.std.specs.Result.{IsErr}
use Rattle.std.specs.Slice.{IsItemAt}
use Rattle.formats.specs.declared.refusal.OutsideMemory.{OutsideMemory}
use Rattle.memory.specs.Shared.{word_at}

-- the front, cut at the lesser of its bound and the list's length
pub front_is : {X : Type 0} (n m : ℕ) (xs : List X) → m ≡ min (length xs) n → take m xs ≡ take n xs
front_is n m xs e =
    let k : m ≡ min n (length xs) = omega arith in
    rw k (take_min n xs)

-- an address whose word is answered lies inside, and one that is refused outside
pub read_inside : (ws : List ℕ) (a x : ℕ) → word_at ws a ≡ Ok x → a < length ws
read_inside ws a x e = grind (arith, nat_tests)

pub read_outside : (ws : List ℕ) (a : ℕ) (x : OutsideMemory) → word_at ws a ≡ Err x → length ws ≤ a
read_outside ws a x e = grind (arith, nat_tests)

-- the same of a read of items whose numbers are the words
pub item_read : (f : List ℕ → ℕ) (xs : List (List ℕ)) (ws : List ℕ) (a : ℕ) (r : Option (Bor (List ℕ))) (x : Bor (List ℕ)) → map f xs ≡ ws → IsItemAt xs a r → r ≡ Some x → Ok (f x.now) ≡ word_at ws a
item_read f xs ws a None x e at is = cc
item_read f xs ws a (Some y) x e at is =
    let h : a < length xs = at.3.0 in
    let l : length ws ≡ length xs = sym (ap length e) ∙ length-map xs f in
    let t : ltb a (length ws) ≡ true = lt-ltb a (length ws) (omega arith) in
    let same : y ≡ x = cc in
    let k : get_or ws a 0 ≡ f x.now =
    ap (λ l. get_or l a 0) (sym e) ∙ get_or-map f xs a y.now 0 h ∙ ap f (sym at.1) ∙ ap (λ (b : Bor (List ℕ)). f b.now) same in
    rw (t, k)

pub item_refused : (f : List ℕ → ℕ) (xs : List (List ℕ)) (ws : List ℕ) (a : ℕ) (r : Option (Bor (List ℕ))) → map f xs ≡ ws → IsItemAt xs a r → r ≡ None → Err (record {}) ≡ word_at ws a
item_refused f xs ws a None e at is =
    let l : length ws ≡ length xs = sym (ap length e) ∙ length-map xs f in
    let t : ltb a (length ws) ≡ false = le-ltb a (length ws) (omega (arith, at.3)) in
    rw t
item_refused f xs ws a (Some y) e at is = cc

-- there is but one refusal
pub refused : {T : Type 0} (r : Result T OutsideMemory) → IsErr r → r ≡ Err (record {})
refused (Ok u) h = cc
refused (Err x) h = refl
