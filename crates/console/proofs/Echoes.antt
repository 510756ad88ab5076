-- The words of a text, written one after another.
-- Assumes nothing.
use Rattle.std.proofs.Common.{◌≡◌, ℕ, List, [], ◌∷◌, ◌++◌, Some, None, sym, ap, ◌∙◌, append_assoc, append-nil}
use Rattle.text.specs.Lines.{next_token}
use Rattle.console.specs.Words.{words_of}
use Rattle.console.specs.Printed.{echo, echoed}
use Rattle.console.proofs.Left.{no_word, one_word}

-- one word more is written
pub echoed_more : (out out' text word rest all : List ℕ) → Some (word, rest) ≡ next_token text → out' ≡ (out ++ word) ++ (32 ∷ []) → out ++ echoed (words_of text) ≡ all → out' ++ echoed (words_of rest) ≡ all
echoed_more out out' text word rest all next written is =
    ap (λ (l : List ℕ). l ++ echoed (words_of rest)) (written ∙ append_assoc out word (32 ∷ []))
    ∙ append_assoc out (echo word) (echoed (words_of rest))
    ∙ ap (λ (ws : List (List ℕ)). out ++ echoed ws) (sym (one_word text (word, rest) next))
    ∙ is

-- no word is left
pub echoed_all : (out text all : List ℕ) → None ≡ next_token text → out ++ echoed (words_of text) ≡ all → out ≡ all
echoed_all out text all none is =
    sym (append-nil out) ∙ ap (λ (ws : List (List ℕ)). out ++ echoed ws) (sym (no_word text none)) ∙ is
