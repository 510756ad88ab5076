-- Some values, a space before each, value by value.
-- Assumes nothing.
use Rattle.std.proofs.Common.{◌≡◌, ℕ, List, [], ◌∷◌, ◌++◌, Some, None, IfSome, codes, decimal, Option, sym, refl, ap, ◌∙◌, subst, append_assoc}
use Rattle.std.specs.Fmt.{option_append}
use Rattle.std.proofs.lemmas.List.{append-nil}
use Rattle.console.specs.ReplyTexts.{spaced_values, spaced_text}

-- a text that was appended, if both have one
pub appended : (a b : Option (List ℕ)) (written after : List ℕ) → IfSome a (λ text. written ≡ text) → IfSome b (λ text. after ≡ written ++ text) → IfSome (option_append a b) (λ text. after ≡ text)
appended None b written after is more = tt
appended (Some a) None written after is more = tt
appended (Some a) (Some b) written after is more = more ∙ ap (λ (l : List ℕ). l ++ b) is

regroup : (a b c : Option (List ℕ)) → option_append a (option_append b c) ≡ option_append (option_append a b) c
regroup None b c = refl
regroup (Some a) None c = refl
regroup (Some a) (Some b) None = refl
regroup (Some a) (Some b) (Some c) = ap Some (sym (append_assoc a b c))

at_first : (a : Option (List ℕ)) → option_append a (Some []) ≡ option_append (Some []) a
at_first None = refl
at_first (Some a) = ap Some (append-nil a)

-- one value more
pub spaced_more : {T : Type 0} (output : T → Option (List ℕ)) (xs : List T) (x : T) → spaced_values output (xs ++ (x ∷ [])) ≡ option_append (spaced_values output xs) (option_append (Some (codes " ")) (output x))
spaced_more output [] x = at_first (option_append (Some (codes " ")) (output x))
spaced_more output (y ∷ xs) x =
    let one = option_append (Some (codes " ")) (output y) in
    ap (option_append one) (spaced_more output xs x) ∙ regroup one (spaced_values output xs) (option_append (Some (codes " ")) (output x))

-- numbers have texts
pub spaced_numbers : (ns : List ℕ) → spaced_values (λ n. Some (decimal n)) ns ≡ Some (spaced_text ns)
spaced_numbers [] = refl
spaced_numbers (n ∷ ns) = ap (option_append (Some (codes " " ++ decimal n))) (spaced_numbers ns)

pub numbers_text : (ns bytes : List ℕ) → IfSome (spaced_values (λ n. Some (decimal n)) ns) (λ text. bytes ≡ text) → bytes ≡ spaced_text ns
numbers_text ns bytes is = subst (λ o. IfSome o (λ text. bytes ≡ text)) (spaced_numbers ns) is
