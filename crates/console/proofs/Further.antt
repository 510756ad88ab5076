-- One move more.
-- Assumes nothing.
use Rattle.std.proofs.Common.{◌≡◌, ℕ, suc, ◌+◌, ◌-◌, ◌<◌, true, false, is_err, Some, Ok, Err, Option, Result, sym, ap, ◌∙◌, add-one, arith}
use Rattle.formats.specs.declared.answer.Answer.{Answer}
use Rattle.model.specs.declared.refusal.StepRefusal.{StepRefusal}
use Rattle.model.specs.Engine.{Engine}
use Rattle.model.specs.Calls.{After, stays}
use Rattle.console.specs.declared.command.Move.{Move}
use Rattle.console.specs.declared.moves.Moved.{Moved}
use Rattle.console.specs.Repeated.{moved, called, unless_refused, further_moves}

-- the last answer and how many were called
abbrev pub moved_so_far : Option (Result Answer StepRefusal) → ℕ → Moved
moved_so_far last n = record { last = last; count = n }

-- no move is left
pub none_left : (times n : ℕ) (m : Move) (e : Engine) (before : Moved) → times - n ≡ 0 → further_moves (times - n) m e before ≡ stays e before
unfolding further_moves
none_left times n m e before none = ap (λ (k : ℕ). further_moves k m e before) none

opened : (k : ℕ) (m : Move) (e e' : Engine) (before : Moved) (answer : Result Answer StepRefusal) → e' ≡ (moved e m).engine → answer ≡ (moved e m).answer → further_moves (suc k) m e before ≡ unless_refused answer (further_moves k m e' (called before answer)) (stays e' (called before answer))
unfolding further_moves
opened k m e e' before answer eng ans =
    λ j. unless_refused (sym ans j) (further_moves k m (sym eng j) (called before (sym ans j))) (stays (sym eng j) (called before (sym ans j)))

-- what a move gives, and what is left after it
one_more : (times n : ℕ) (m : Move) (e e' : Engine) (last : Option (Result Answer StepRefusal)) (answer : Result Answer StepRefusal) → n < times → e' ≡ (moved e m).engine → answer ≡ (moved e m).answer → further_moves (times - n) m e (moved_so_far last n) ≡ unless_refused answer (further_moves (times - (n + 1)) m e' (moved_so_far (Some answer) (n + 1))) (stays e' (moved_so_far (Some answer) (n + 1)))
one_more times n m e e' last answer less eng ans =
    let left : times - n ≡ suc (times - (n + 1)) = omega arith in
    let after_count : ℕ → After Moved = λ k. unless_refused answer (further_moves (times - (n + 1)) m e' (moved_so_far (Some answer) k)) (stays e' (moved_so_far (Some answer) k)) in
    ap (λ (k : ℕ). further_moves k m e (moved_so_far last n)) left
    ∙ opened (times - (n + 1)) m e e' (moved_so_far last n) answer eng ans
    ∙ ap after_count (sym (add-one n))

-- a move that is not refused, and one that is
pub moved_on : (times n : ℕ) (m : Move) (e e' : Engine) (last : Option (Result Answer StepRefusal)) (answer : Result Answer StepRefusal) → n < times → e' ≡ (moved e m).engine → answer ≡ (moved e m).answer → is_err answer ≡ false → further_moves (times - (n + 1)) m e' (moved_so_far (Some answer) (n + 1)) ≡ further_moves (times - n) m e (moved_so_far last n)
moved_on times n m e e' last (Ok a) less eng ans fine = sym (one_more times n m e e' last (Ok a) less eng ans)
moved_on times n m e e' last (Err r) less eng ans fine = let z : ◌≡◌ {A = ℕ} 0 1 = cc in absurd (omega arith)

pub moved_last : (times n : ℕ) (m : Move) (e e' : Engine) (last : Option (Result Answer StepRefusal)) (answer : Result Answer StepRefusal) → n < times → e' ≡ (moved e m).engine → answer ≡ (moved e m).answer → is_err answer ≡ true → stays e' (moved_so_far (Some answer) (n + 1)) ≡ further_moves (times - n) m e (moved_so_far last n)
moved_last times n m e e' last (Ok a) less eng ans refused = let z : ◌≡◌ {A = ℕ} 0 1 = cc in absurd (omega arith)
moved_last times n m e e' last (Err r) less eng ans refused = sym (one_more times n m e e' last (Err r) less eng ans)
