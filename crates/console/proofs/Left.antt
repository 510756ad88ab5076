-- The words of a text, one by one.
-- Assumes nothing.
use Rattle.std.proofs.Common.{◌≡◌, ℕ, zero, suc, ◌≤◌, List, [], ◌∷◌, length, Some, None, Option, sym, refl, ap, ◌∙◌, arith}
use Rattle.text.specs.Lines.{next_token}
use Rattle.text.proofs.Tokens.{after_less}
use Rattle.console.specs.Words.{listed, words_up_to, words_of}

none_at : (n : ℕ) → words_up_to n [] ≡ []
none_at zero = refl
none_at (suc n) = refl

-- as many as bytes are enough
enough : (n m : ℕ) (text : List ℕ) → length text ≤ n → length text ≤ m → words_up_to n text ≡ words_up_to m text
enough n m [] a b = none_at n ∙ sym (none_at m)
enough zero m (x ∷ xs) a b = absurd (omega arith)
enough (suc n) zero (x ∷ xs) a b = absurd (omega arith)
enough (suc n) (suc m) (x ∷ xs) a b =
    let each : (o : Option (List ℕ × List ℕ)) → o ≡ next_token (x ∷ xs) → listed (words_up_to n) o ≡ listed (words_up_to m) o = λ o.
    elim o as (λ v. v ≡ next_token (x ∷ xs) → listed (words_up_to n) v ≡ listed (words_up_to m) v) [
      | None ↦ λ e. refl
      | Some p ↦ λ e. let less = after_less (x ∷ xs) p e in ap (λ ws. p.0 ∷ ws) (enough n m p.1 (omega arith) (omega arith))
    ] in
    each (next_token (x ∷ xs)) refl

none_in : (n : ℕ) (text : List ℕ) → None ≡ next_token text → words_up_to n text ≡ []
none_in zero text none = refl
none_in (suc n) text none = ap (listed (words_up_to n)) (sym none)

-- a text without a token has no word
pub no_word : (text : List ℕ) → None ≡ next_token text → words_of text ≡ []
unfolding words_of
no_word text none = none_in (length text) text none

-- else its first word is the token, and the others are those of the text after it
pub one_word : (text : List ℕ) (p : List ℕ × List ℕ) → Some p ≡ next_token text → words_of text ≡ p.0 ∷ words_of p.1
unfolding words_of
one_word text p some =
    let less = after_less text p some in
    enough (length text) (suc (length text)) text (omega arith) (omega arith) ∙ ap (listed (words_up_to (length text))) (sym some) ∙ ap (λ ws. p.0 ∷ ws) (enough (length text) (length p.1) p.1 (omega arith) (omega arith))
