-- What a line that was found tells of the lines, and lines that stay at different addresses.
-- Assumes nothing.
use Rattle.std.proofs.Common.{◌≡◌, ℕ, zero, suc, ◌+◌, ◌<◌, Bool, false, cond, ltb, eqb, List, [], ◌∷◌, ◌++◌, length}
use Rattle.std.proofs.Common.{set, Some, None, Option, MatchOption, sym, refl, ap, ◌∙◌, subst, inl, inr, arith, lt-ltb, le-ltb}
use Rattle.std.specs.List.{position, position_or_len}
use Rattle.std.proofs.lemmas.Bool.{cases_Bool, cond-false, ltb-true, ltb-false, or_parts}
use Rattle.std.proofs.lemmas.Bool.Decides.{nat_tests}
use Rattle.model.specs.declared.line.Line.{Line}
use Rattle.model.specs.declared.effect.Effect.TheVariants.{Nothing, Wrote}
use Rattle.model.specs.Lines.{has_line, next_write, after_write, Distinct}
use Rattle.cores.specs.Buffers.{line_at, dirty_index, LineOf}

-- one place further on
abbrev later : Option ℕ → Option ℕ
later None = None
later (Some i) = Some (suc i)

-- where the first line that passes stands, one line after the other
position_next : (test : Line → Bool) (l : Line) (ls : List Line) → position test (l ∷ ls) ≡ cond (test l) (Some 0) (later (position test ls))
position_next test l ls =
    let n = position_or_len test ls in
    elim (cases_Bool (test l)) [
      | inl t ↦ rw (t, lt-ltb 0 (suc (length ls)) (omega arith)) refl
      | inr t ↦
          elim (cases_Bool (ltb n (length ls))) [
            | inl u ↦ rw (t, u, lt-ltb (1 + n) (suc (length ls)) (omega (arith, ltb-true n (length ls) u))) (ap Some (omega arith))
            | inr u ↦ rw (t, u, le-ltb (1 + n) (suc (length ls)) (omega (arith, ltb-false n (length ls) u))) refl
          ]
    ]

later_some : (o : Option ℕ) (i : ℕ) → later o ≡ Some i → (j : ℕ) × (o ≡ Some j) × (i ≡ suc j)
later_some None i h = cc
later_some (Some j) i h = (j, refl, cc)

later_none : (o : Option ℕ) → later o ≡ None → o ≡ None
later_none None h = refl
later_none (Some j) h = cc

-- where the line at an address stands
abbrev index_of : List Line → ℕ → Option ℕ
index_of ls a = position (λ l. eqb l.address a) ls

found_later : (l : Line) (ls : List Line) (a i : ℕ) → eqb l.address a ≡ false → LineOf ls a i → LineOf (l ∷ ls) a (suc i)
found_later l ls a i t f =
    record { within = omega (arith, f.within); has = rw t f.has; value = rw t f.value; stored = λ w. rw t (ap (λ x. l ∷ x) (f.stored w)) }

-- a line that was found
pub found : (ls : List Line) (a i : ℕ) → index_of ls a ≡ Some i → LineOf ls a i
found [] a i h = cc
found (l ∷ ls) a i h =
    let e = sym (position_next (λ l. eqb l.address a) l ls) ∙ h in
    elim (cases_Bool (eqb l.address a)) [
      | inl t ↦
          let f : Some 0 ≡ Some i = rw t at e in
          let first : i ≡ 0 = cc in
          rw first (record { within = omega arith; has = rw t; value = rw t; stored = λ w. rw t })
      | inr t ↦
          let p = later_some (index_of ls a) i (rw t at e) in
          subst (λ i. LineOf (l ∷ ls) a i) (sym p.2) (found_later l ls a p.0 t (found ls a p.0 p.1))
    ]

-- no line was found
pub not_found : (ls : List Line) (a : ℕ) → index_of ls a ≡ None → has_line ls a ≡ false
not_found [] a h = refl
not_found (l ∷ ls) a h =
    let e = sym (position_next (λ l. eqb l.address a) l ls) ∙ h in
    elim (cases_Bool (eqb l.address a)) [
      | inl t ↦ let f : ◌≡◌ {A = Option ℕ} (Some 0) None = rw t at e in cc
      | inr t ↦ rw t (not_found ls a (later_none (index_of ls a) (rw t at e)))
    ]

-- what looking for an address tells
pub looked_up : (ls : List Line) (a : ℕ) (o : Option ℕ) → o ≡ index_of ls a → MatchOption o (has_line ls a ≡ false) (LineOf ls a)
looked_up ls a None h = not_found ls a (sym h)
looked_up ls a (Some i) h = found ls a i (sym h)

-- a line that was written
abbrev pub written_out : Line → Line
written_out l = record l { dirty = false }

-- the oldest dirty line
pub record Oldest (ls : List Line) (i : ℕ) : Type 0 where
  pub within : i < length ls
  pub writes : next_write ls ≡ Wrote (line_at ls i).address (line_at ls i).value
  pub rest : after_write ls ≡ set ls i (written_out (line_at ls i))

oldest_later : (l : Line) (ls : List Line) (i : ℕ) → l.dirty ≡ false → Oldest ls i → Oldest (l ∷ ls) (suc i)
oldest_later l ls i t f =
    record { within = omega (arith, f.within); writes = rw t f.writes; rest = cond-false l.dirty _ _ t ∙ ap (λ x. l ∷ x) f.rest }

pub oldest : (ls : List Line) (i : ℕ) → dirty_index ls ≡ Some i → Oldest ls i
oldest [] i h = cc
oldest (l ∷ ls) i h =
    let e = sym (position_next (λ l. l.dirty) l ls) ∙ h in
    elim (cases_Bool l.dirty) [
      | inl t ↦
          let f : Some 0 ≡ Some i = rw t at e in
          let first : i ≡ 0 = cc in
          rw first (record { within = omega arith; writes = rw t; rest = rw t })
      | inr t ↦
          let p = later_some (dirty_index ls) i (rw t at e) in
          subst (λ i. Oldest (l ∷ ls) i) (sym p.2) (oldest_later l ls p.0 t (oldest ls p.0 p.1))
    ]

-- no line is dirty
pub record Clean (ls : List Line) : Type 0 where
  pub silent : next_write ls ≡ Nothing
  pub same : after_write ls ≡ ls

pub clean : (ls : List Line) → dirty_index ls ≡ None → Clean ls
clean [] h = record { silent = refl; same = refl }
clean (l ∷ ls) h =
    let e = sym (position_next (λ l. l.dirty) l ls) ∙ h in
    elim (cases_Bool l.dirty) [
      | inl t ↦ let f : ◌≡◌ {A = Option ℕ} (Some 0) None = rw t at e in cc
      | inr t ↦
          let rest = clean ls (later_none (dirty_index ls) (rw t at e)) in
          record { silent = rw t rest.silent; same = cond-false l.dirty _ _ t ∙ ap (λ x. l ∷ x) rest.same }
    ]

-- lines that change but stay where they are
has_line_set : (ls : List Line) (i : ℕ) (k : Line) (a : ℕ) → k.address ≡ (line_at ls i).address → has_line (set ls i k) a ≡ has_line ls a
has_line_set [] i k a h = refl
has_line_set (l ∷ ls) zero k a h = rw h
has_line_set (l ∷ ls) (suc i) k a h = rw (has_line_set ls i k a h)

pub distinct_set : (ls : List Line) (i : ℕ) (k : Line) → k.address ≡ (line_at ls i).address → Distinct ls → Distinct (set ls i k)
distinct_set [] i k h d = d
distinct_set (l ∷ ls) zero k h d = (ap (has_line ls) h ∙ d.0, d.1)
distinct_set (l ∷ ls) (suc i) k h d = (has_line_set ls i k l.address h ∙ d.0, distinct_set ls i k h d.1)

-- one more line, at an address that has none
has_line_push : (ls : List Line) (k : Line) (a : ℕ) → has_line ls a ≡ false → eqb k.address a ≡ false → has_line (ls ++ k ∷ []) a ≡ false
has_line_push [] k a h n = rw n
has_line_push (l ∷ ls) k a h n = let p = or_parts (eqb l.address a) (has_line ls a) h in rw p.0 (has_line_push ls k a p.1 n)

eqb_swap : (a b : ℕ) → eqb a b ≡ false → eqb b a ≡ false
eqb_swap a b h = grind (arith, nat_tests)

pub distinct_push : (ls : List Line) (k : Line) → has_line ls k.address ≡ false → Distinct ls → Distinct (ls ++ k ∷ [])
distinct_push [] k h d = (refl, tt)
distinct_push (l ∷ ls) k h d =
    let p = or_parts (eqb l.address k.address) (has_line ls k.address) h in (has_line_push ls k l.address d.0 (eqb_swap l.address k.address p.0), distinct_push ls k p.1 d.1)
