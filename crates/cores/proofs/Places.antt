-- The places of a buffer, of which the first are used.
-- Assumes nothing.
use Rattle.std.proofs.Common.{◌≡◌, ℕ, ◌+◌, ◌-◌, ◌<◌, false, List, [], ◌∷◌, ◌++◌, length, take, drop, set, replicate, sym, ap, ◌∙◌, subst, arith}
use Rattle.std.proofs.Common.{length-set, length-take-le}
use Rattle.std.proofs.Math.Seq.{take-set-lt}
use Rattle.std.proofs.lemmas.List.{drop-drop, drop-replicate, drop-set-lt, take_more_set}
use Rattle.formats.specs.declared.bounds.TheConstants.{MOST_LINES}
use Rattle.model.specs.declared.line.Line.{Line}
use Rattle.model.specs.Lines.{has_line, Distinct}
use Rattle.cores.specs.Buffers.{no_line, line_at, Filled}
use Rattle.cores.proofs.Buffers.{distinct_push, distinct_set}

-- one more place is used, for a line at an address that has none
module _ (places : List Line) (used : ℕ) (l : Line) (f : Filled places used) (room : used < MOST_LINES) where
  pub pushed : take (used + 1) (set places used l) ≡ take used places ++ l ∷ []
  pushed = take_more_set places used l (omega (arith, f.sized, room))

  pub filled_push : has_line (take used places) l.address ≡ false → Filled (set places used l) (used + 1)
  filled_push fresh = record {
    few = omega (arith, room);
    sized = length-set places used l ∙ f.sized;
    blank =
        drop-set-lt (used + 1) places used l (omega arith) ∙ sym (drop-drop 1 used places) ∙ ap (drop 1) f.blank ∙ drop-replicate 1 (MOST_LINES - used) no_line
        ∙ ap (λ n. replicate n no_line) (omega arith);
    apart = subst Distinct (sym pushed) (distinct_push (take used places) l fresh f.apart);
  }

-- a line that is used changes, and stays at its address: `shown` is what is looked at for the change
module _ (places : List Line) (used : ℕ) (f : Filled places used) (ls shown : List Line) (seen : take used places ≡ ls) (same : shown ≡ ls) (i : ℕ) (within : i < length ls) where
  used_within : i < used
  used_within = omega (arith, within, ap length seen, length-take-le used places (omega (arith, f.few, f.sized)))

  pub line_shown : line_at shown i ≡ line_at ls i
  line_shown = ap (λ l. line_at l i) same

  pub set_shown : (l : Line) → take used (set places i l) ≡ set ls i l
  set_shown l = take-set-lt used places i l used_within ∙ ap (λ x. set x i l) seen

  pub filled_set : (l : Line) → l.address ≡ (line_at shown i).address → Filled (set places i l) used
  filled_set l stays = record {
    few = f.few;
    sized = length-set places i l ∙ f.sized;
    blank = drop-set-lt used places i l used_within ∙ f.blank;
    apart = subst Distinct (sym (set_shown l)) (distinct_set ls i l (stays ∙ ap (λ k. k.address) line_shown) (subst Distinct seen f.apart));
  }
