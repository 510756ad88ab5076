-- What one more move tells of an open block whose core is in TRANSACTION.
-- Assumes nothing.
use Rattle.std.proofs.Common.{◌≡◌, ℕ, true, false, cond, ◌≢◌, List, [], ◌∷◌, ◌++◌, arith}
use Rattle.std.proofs.lemmas.Bool.Decides.{nat_tests}
use Rattle.model.specs.declared.effect.Effect.TheVariants.{Wrote}
use Rattle.model.specs.declared.line.Line.{Line}
use Rattle.model.specs.Lines.{has_line, tagged}
use Rattle.model.specs.Blocks.{Move, Reads, Writes, At, touch}
use Rattle.laws.proofs.Lines.{has_line_append, tagged_append}
use Rattle.laws.proofs.Invariant.{Tracks}

-- a block has just opened
pub tracks_none : (i : ℕ) → Tracks i [] []
tracks_none i = record { unhit = λ x. x; taken = λ a. grind arith; touched = λ a. grind arith }

module _ (v : Move) (i : ℕ) (ls : List Line) (vs : List Move) (r : Tracks i ls vs) where
  -- another core's, that writes no word that is tagged
  pub tracks_other : i ≢ v.core → ((a w : ℕ) → v.effect ≡ Wrote a w → tagged ls a ≡ false) → Tracks i ls (v ∷ vs)
  tracks_other ne q = record {
    unhit = grind (arith, r.taken, r.unhit);
    taken = λ a. grind (arith, r.taken a);
    touched = λ a. grind (arith, r.touched a);
  }

  -- the core's own, that touches at most a word that is in a line
  pub tracks_same :
      v.core ≡ i → (ls' : List Line) → ((a : ℕ) → tagged ls' a ≡ tagged ls a) → ((a : ℕ) → has_line ls' a ≡ has_line ls a) →
      ((a : ℕ) → At (touch v.action) a → has_line ls a ≡ true) → Tracks i ls' (v ∷ vs)
  tracks_same own ls' tag line in_line = record {
    unhit = grind (arith, r.unhit);
    taken = λ a. grind (arith, r.taken a, r.touched a, tag a, in_line a);
    touched = λ a. grind (arith, r.touched a, line a, in_line a);
  }

  -- the core's own, that makes a line
  pub tracks_new :
      v.core ≡ i → (l : Line) → touch v.action ≡ cond l.tag (Reads l.address) (Writes l.address) → has_line ls l.address ≡ false →
      Tracks i (ls ++ l ∷ []) (v ∷ vs)
  tracks_new own l t absent = record {
    unhit = grind (arith, r.unhit);
    taken = λ a. grind (arith, nat_tests, r.taken a, r.touched a, tagged_append ls l a);
    touched = λ a. grind (arith, nat_tests, r.touched a, has_line_append ls l a);
  }
