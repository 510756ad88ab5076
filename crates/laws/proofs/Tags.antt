-- A core's lines are at different addresses, and so its tags can be copied, each once.
-- Assumes nothing.
use Rattle.std.proofs.Common.{count_by, eqb, ◌≡◌, ℕ, ◌≤◌, false, cond, ltb, leb, List, [], ◌∷◌, ◌++◌, length, drop, Ok, Err, Result}
use Rattle.std.proofs.Common.{refl, ap, ◌∙◌, inl, inr, arith}
use Rattle.std.proofs.lemmas.List.{length-append, length-drop, take_at, drop_at}
use Rattle.std.proofs.lemmas.List.Sums.{sum_by-cons}
use Rattle.std.proofs.lemmas.Bool.Decides.{nat_tests}
use Rattle.std.proofs.lemmas.Bool.{cases_Bool, leb-true}
use Rattle.model.specs.declared.refusal.TagsRefusal.{TagsRefusal}
use Rattle.model.specs.declared.refusal.TagsRefusal.TheVariants.{NoSuchCore, TooShort}
use Rattle.model.specs.declared.line.Line.{Line}
use Rattle.model.specs.Lines.{has_line, tagged, store_at, after_write, tags, Distinct}
use Rattle.model.specs.Calls.{TagsCopied, Tags}
use Rattle.model.specs.Engine.{Engine, core_at}
use Rattle.model.proofs.Lines.{untagged}
use Rattle.laws.proofs.Lines.{has_line_append, has_line_store_at}

-- lines stay at different addresses

pub distinct_append : (ls : List Line) (l : Line) → Distinct ls → has_line ls l.address ≡ false → Distinct (ls ++ l ∷ [])
distinct_append [] l d h = (refl, tt)
distinct_append (k ∷ ls) l d h = grind (arith, nat_tests, has_line_append ls l k.address, distinct_append ls l)

pub distinct_store_at : (ls : List Line) (a w : ℕ) → Distinct ls → Distinct (store_at ls a w)
distinct_store_at [] a w d = tt
distinct_store_at (l ∷ ls) a w d = grind (arith, has_line_store_at ls a w l.address, distinct_store_at ls a w)

has_line_after_write : (ls : List Line) (a : ℕ) → has_line (after_write ls) a ≡ has_line ls a
has_line_after_write [] a = refl
has_line_after_write (l ∷ ls) a = grind (arith, has_line_after_write ls a)

pub distinct_after_write : (ls : List Line) → Distinct ls → Distinct (after_write ls)
distinct_after_write [] d = tt
distinct_after_write (l ∷ ls) d = grind (arith, has_line_after_write ls l.address, distinct_after_write ls)

-- the tags of different lines, each once

each_once : (ls : List Line) (a : ℕ) → Distinct ls → count_by (λ x. eqb x a) (tags ls) ≡ cond (tagged ls a) 1 0
each_once [] a d = refl
each_once (l ∷ ls) a d = grind (arith, nat_tests, each_once ls a, untagged ls a, sum_by-cons (λ x. cond (eqb x a) 1 0) l.address (tags ls))

-- copying the tags in the order of the lines is one way
pub copied :
    (ls : List Line) (before : List ℕ) → Distinct ls → length (tags ls) ≤ length before →
    TagsCopied ls before (tags ls ++ drop (length (tags ls)) before) (length (tags ls))
copied ls before d fits = record {
  counted = refl;
  size = simp (length-append, length-drop) (omega arith);
  each = λ a. ap (count_by (λ x. eqb x a)) (take_at (tags ls) (drop (length (tags ls)) before) (length (tags ls)) refl) ∙ each_once ls a d;
  rest = drop_at (tags ls) (drop (length (tags ls)) before) (length (tags ls)) refl;
}

-- tags can be served
pub served :
    (e : Engine) (i : ℕ) (before : List ℕ) → Distinct (core_at e i).lines →
    (after : List ℕ) × (answer : Result ℕ TagsRefusal) × Tags e i before after answer
served e i before d =
    let ls = (core_at e i).lines in
    let n = length (tags ls) in
    elim (cases_Bool (ltb i (length e.cores))) [
      | inl t ↦ elim (cases_Bool (leb n (length before))) [
        | inl u ↦ (tags ls ++ drop n before, Ok n, rw (t, u) (n, refl, copied ls before d (leb-true n (length before) u)))
        | inr u ↦ (before, Err TooShort, rw (t, u) (refl, refl))
      ]
      | inr t ↦ (before, Err NoSuchCore, rw t (refl, refl))
    ]
