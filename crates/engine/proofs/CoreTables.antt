-- Broadcasting a write to the other cores, one core after the other; and new cores, one after the other.
-- Assumes nothing.
use Rattle.std.proofs.Common.{◌≡◌, ℕ, zero, suc, ◌+◌, ◌<◌, ◌≤◌, true, ltb, List, [], ◌∷◌, ◌++◌, map, length, get_or, take, drop, set}
use Rattle.std.proofs.Common.{sym, refl, ap, ◌∙◌, append_assoc, append-nil, le_of_suc-le-suc, arith, length-take-le, take_all}
use lib.Seq.{set_at, get_or_at}
use Rattle.std.proofs.lemmas.List.{length-map, take_more, drop_more, drop_all, get_or-map}
use Rattle.std.proofs.lemmas.Bool.{and_parts}
use Rattle.std.proofs.lemmas.Bool.Decides.{nat_tests}
use Rattle.model.specs.Cores.{Core}
use Rattle.model.specs.Engine.{blank, all_below, new_core}
use Rattle.engine.specs.CoreTables.{after_write_at, others_after}

-- as many cores as before
others_length : (w a : ℕ) (cs : List Core) → length (others_after w a cs) ≡ length cs
others_length w a [] = refl
others_length zero a (c ∷ cs) = ap suc (length-map cs (after_write_at a))
others_length (suc w) a (c ∷ cs) = ap suc (others_length w a cs)

-- the writer stays
pub others_writer : (w a : ℕ) (cs : List Core) → get_or (others_after w a cs) w blank ≡ get_or cs w blank
others_writer w a [] = refl
others_writer zero a (c ∷ cs) = refl
others_writer (suc w) a (c ∷ cs) = others_writer w a cs

-- every other core learns of it
others_other : (w a : ℕ) (cs : List Core) (i : ℕ) → i < length cs → (i ≡ w → ⊥) → get_or (others_after w a cs) i blank ≡ after_write_at a (get_or cs i blank)
others_other w a [] i h ne = absurd (omega arith)
others_other zero a (c ∷ cs) zero h ne = absurd (ne refl)
others_other zero a (c ∷ cs) (suc i) h ne = get_or-map (after_write_at a) cs i blank blank (le_of_suc-le-suc h)
others_other (suc w) a (c ∷ cs) zero h ne = refl
others_other (suc w) a (c ∷ cs) (suc i) h ne = others_other w a cs i (le_of_suc-le-suc h) (λ e. ne (ap suc e))

-- one more of the aim's
shift : (aim os : List Core) (i : ℕ) (v : Core) → i < length aim → v ≡ get_or aim i blank → take i aim ++ (v ∷ drop (i + 1) os) ≡ take (i + 1) aim ++ drop (i + 1) os
shift aim os i v h is =
    ap (λ x. take i aim ++ (x ∷ drop (i + 1) os)) is ∙ sym (append_assoc (take i aim) (get_or aim i blank ∷ []) (drop (i + 1) os)) ∙ ap (λ l. l ++ drop (i + 1) os) (sym (take_more aim i blank h))

module _ (w a : ℕ) (cores olds : List Core) (i : ℕ) (within : i < length olds) (same : length cores ≡ length olds) (sofar : cores ≡ take i (others_after w a olds) ++ drop i olds) where
  inside_aim : i < length (others_after w a olds)
  inside_aim = omega (arith, others_length w a olds, within)

  front : length (take i (others_after w a olds)) ≡ i
  front = length-take-le i (others_after w a olds) (omega (arith, inside_aim))

  opened : cores ≡ take i (others_after w a olds) ++ (get_or olds i blank ∷ drop (i + 1) olds)
  opened = sofar ∙ ap (λ l. take i (others_after w a olds) ++ l) (drop_more olds i blank within)

  -- the core at the place is as it was
  here : (x : Core) → get_or cores i x ≡ get_or olds i blank
  here x =
      ap (λ l. get_or l i x) opened ∙ get_or_at (take i (others_after w a olds)) (get_or olds i blank) (drop (i + 1) olds) x i front

  -- the writer is passed over
  pub passed : i ≡ w → cores ≡ take (i + 1) (others_after w a olds) ++ drop (i + 1) olds
  passed e =
      opened ∙ shift (others_after w a olds) olds i (get_or olds i blank) inside_aim (sym (ap (λ k. get_or (others_after w a olds) k blank) e ∙ others_writer w a olds ∙ ap (λ k. get_or olds k blank) (sym e)))

  -- another core learns of it
  pub reached : (x new : Core) → (i ≡ w → ⊥) → new ≡ after_write_at a (get_or cores i x) → set cores i new ≡ take (i + 1) (others_after w a olds) ++ drop (i + 1) olds
  reached x new ne is =
      let v : new ≡ get_or (others_after w a olds) i blank = is ∙ ap (after_write_at a) (here x) ∙ sym (others_other w a olds i within ne) in
      ap (λ l. set l i new) opened ∙ set_at (take i (others_after w a olds)) (get_or olds i blank) (drop (i + 1) olds) new i front
      ∙ shift (others_after w a olds) olds i new inside_aim v

-- all are reached
pub all_reached : (w a : ℕ) (cores olds : List Core) (i : ℕ) → length olds ≤ i → cores ≡ take i (others_after w a olds) ++ drop i olds → cores ≡ others_after w a olds
all_reached w a cores olds i past sofar =
    sofar ∙ ap (λ l. l ++ drop i olds) (take_all i (others_after w a olds) (omega (arith, others_length w a olds)))
    ∙ ap (λ l. others_after w a olds ++ l) (drop_all i olds (omega arith)) ∙ append-nil (others_after w a olds)

-- a place of some that are below a bound
pub place_below : (ps : List ℕ) (i n : ℕ) → i < length ps → all_below ps n ≡ true → get_or ps i 0 < n
place_below [] i n h all = absurd (omega arith)
place_below (q ∷ ps) zero n h all = grind (arith, nat_tests)
place_below (q ∷ ps) (suc i) n h all = place_below ps i n (le_of_suc-le-suc h) (and_parts (ltb q n) (all_below ps n) all).1

-- new cores at the first so many places
pub record Filled (cores : List Core) (places : List ℕ) (i : ℕ) : Type 0 where
  pub made : cores ≡ map new_core (take i places)

-- broadcasting after the writer has moved, or before it
pub broadcast_after : (w a : ℕ) (cs : List Core) (c : Core) → others_after w a (set cs w c) ≡ set (map (after_write_at a) cs) w c
broadcast_after w a [] c = refl
broadcast_after zero a (d ∷ cs) c = refl
broadcast_after (suc w) a (d ∷ cs) c = ap (λ l. after_write_at a d ∷ l) (broadcast_after w a cs c)
