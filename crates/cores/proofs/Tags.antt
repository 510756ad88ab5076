-- The tagged addresses of lines.
-- Assumes nothing.
use Rattle.std.proofs.Common.{◌≡◌, ℕ, ◌≤◌, ◌<◌, false, zero-add, cond, eqb, List, [], ◌∷◌, ◌++◌, length, take, drop, Ok, Err, Result}
use Rattle.std.proofs.Common.{Some, Option, sym, refl, ap, ◌∙◌, subst, inl, inr, arith, length-append, length-drop, take_all}
use Rattle.std.specs.List.{count_by}
use Rattle.std.specs.Result.{OnErr, MatchResult}
use Rattle.std.specs.Iterator.{Drains, Yields, YieldsThen}
use Rattle.std.proofs.lemmas.Iterator.{YieldsList}
use Rattle.std.proofs.lemmas.Iterator.Consumers.{nth_from_yields_List}
use Rattle.std.proofs.lemmas.Iterator.Adapters.{items_from_extend}
use Rattle.std.proofs.lemmas.Option.{slice_get_past}
use Rattle.std.proofs.lemmas.List.Sums.{sum_by-cons}
use Rattle.std.proofs.lemmas.List.{drop_all, take-append-le, drop-append-le}
use Rattle.std.proofs.lemmas.Bool.{cases_Bool, eqb-true, le-leb, lt-leb}
use Rattle.model.specs.declared.line.Line.{Line}
use Rattle.model.specs.Lines.{has_line, tagged, tags, Distinct}
use Rattle.model.specs.declared.refusal.TagsRefusal.TheVariants.{TooShort}
use Rattle.model.specs.Calls.{LineTags}
use Rattle.model.proofs.Lines.{untagged}

-- all that are given are added to a list of 32 places, where they find room
pub all_added : {S E : Type 0} {steps : S → Option ℕ → S → Type 0} {s : S} {old items : List ℕ} (all : List ℕ) (r : Result (Unit {0}) E) → old ≡ []
    → ((it : S) × (xs : List ℕ) × (it ≡ s) × (items ≡ old ++ xs) × MatchResult r (λ _. Drains steps it xs) (λ _. (t : S) × Yields steps it xs t))
    → OnErr r (length items ≡ 32)
    → OnErr r ((it : S) × (xs : List ℕ) × (x : ℕ) × (rest : S) × (it ≡ s) × YieldsThen steps it xs (Some x) rest × (items ≡ old ++ xs))
    → YieldsList steps (λ x. x) s all → length all ≤ 32 → items ≡ all
all_added {E = E} {old = old} {items = items} all (Ok u) none ran full more given few = items_from_extend {E = E} {P = λ xs. items ≡ old ++ xs} (Ok u) ran given ∙ ap (λ l. l ++ all) none
all_added {steps = steps} {old = old} all (Err e) none ran full (it, xs, x, rest, is, then, added) given few =
    let next = nth_from_yields_List (Some x) rest (length xs) (xs, subst (λ i. YieldsThen steps i xs (Some x) rest) is then, refl) given in
    let past = slice_get_past all (length xs) (omega (arith, full, ap length (added ∙ ap (λ l. l ++ xs) none), few)) in
    cc

-- each tagged address stands once, since no other line is there
pub each_once : (ls : List Line) (a : ℕ) → Distinct ls → count_by (λ x. eqb x a) (tags ls) ≡ cond (tagged ls a) 1 0
each_once [] a d = refl
each_once (l ∷ ls) a d =
    let ih = each_once ls a d.1 in
    let step = sum_by-cons (λ x. cond (eqb x a) 1 0) l.address (tags ls) in
    elim (cases_Bool (eqb l.address a)) [
      | inl e ↦
          let none : has_line ls a ≡ false = ap (has_line ls) (sym (eqb-true l.address a e)) ∙ d.0 in
          let gone = rw (untagged ls a none) at ih in
          elim (cases_Bool l.tag) [ inl t ↦ rw t (step ∙ rw e (omega (arith, gone))) | inr t ↦ rw (e, t) ih ]
      | inr e ↦ elim (cases_Bool l.tag) [ inl t ↦ rw t (step ∙ rw e (zero-add _ ∙ ih)) | inr t ↦ rw (e, t) ih ]
    ]

-- they find no place
pub not_copied : (ls : List Line) (list : List ℕ) → length list < length (tags ls) → LineTags ls list list (Err TooShort)
not_copied ls list h = rw (lt-leb (length (tags ls)) (length list) h) (refl, refl)

-- all of them are copied
pub copied_all : (ls : List Line) (before after : List ℕ) (n : ℕ) → n ≡ length (tags ls) → after ≡ tags ls ++ drop n before →
    Distinct ls → n ≤ length before → LineTags ls before after (Ok n)
copied_all ls before after n long all d enough =
    let within : n ≤ length (tags ls) = omega (arith, long) in
    let front : take n after ≡ tags ls =
    ap (take n) all ∙ take-append-le n (tags ls) (drop n before) within ∙ take_all n (tags ls) (omega (arith, long)) in
    let back : drop n after ≡ drop n before =
    ap (drop n) all ∙ drop-append-le n (tags ls) (drop n before) within ∙ ap (λ l. l ++ drop n before) (drop_all n (tags ls) (omega (arith, long))) in
    rw (le-leb (length (tags ls)) (length before) (omega (arith, long))) (
      n,
      refl,
      record {
        counted = long;
        size = omega (arith, ap length all, length-append (tags ls) (drop n before), length-drop n before, long, enough);
        each = λ a. ap (count_by (λ x. eqb x a)) front ∙ each_once ls a d;
        rest = back;
      },
    )
