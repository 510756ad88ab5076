-- What follows the longest front of a list that passes a test, and what follows a token.
-- Assumes nothing.
use Rattle.std.proofs.Common.{◌≡◌, ℕ, ◌<◌, Bool, not, eqb, List, [], ◌∷◌, length, drop, Some, None, sym, ap, inl, inr, one-add, length-drop, false-eqb, arith}
use Rattle.std.specs.List.{prefix_len}
use Rattle.std.proofs.lemmas.Bool.{cases_Bool}
use Rattle.text.specs.declared.class.Class.TheVariants.{Blank, NotBlank}
use Rattle.text.specs.Lines.{in_class, from_token, split, next_token}

-- it begins with an element that fails it
pub begins : (p : ℕ → Bool) (xs : List ℕ) → 0 < length (drop (prefix_len p xs) xs) → 0 < prefix_len (λ x. not (p x)) (drop (prefix_len p xs) xs)
begins p [] h = h
begins p (x ∷ xs) h =
    elim (cases_Bool (p x)) [
      | inl t ↦ rw (t, one-add) (begins p xs (rw (t, one-add) at h))
      | inr t ↦ rw (t, t) (omega arith)
    ]

-- the text after a token is shorter
pub after_less : (text : List ℕ) (p : List ℕ × List ℕ) → Some p ≡ next_token text → length p.1 < length text
after_less text p e =
    elim (cases_Bool (eqb (length (from_token text)) 0)) [
      | inl t ↦
          let none : next_token text ≡ None = rw t in
          let z : ◌≡◌ {A = ℕ} 0 1 = cc in
          absurd (omega arith)
      | inr f ↦
          let some : next_token text ≡ Some (split (from_token text)) = rw f in
          let same : p ≡ split (from_token text) = cc in
          let long : length p.1 ≡ length (drop (prefix_len (in_class NotBlank) (from_token text)) (from_token text)) = ap (λ q. length q.1) same in
          let more : 0 < length (from_token text) = omega (arith, false-eqb _ 0 (sym f)) in
          omega (arith, begins (in_class Blank) text more, length-drop (prefix_len (in_class Blank) text) text, length-drop (prefix_len (in_class NotBlank) (from_token text)) (from_token text))
    ]
