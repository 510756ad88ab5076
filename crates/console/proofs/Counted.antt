-- Words as numbers, word by word.
-- Assumes nothing.
use Rattle.std.proofs.Common.{◌≡◌, ℕ, List, [], ◌∷◌, ◌++◌, Some, None, Ok, Err, Result, sym, refl, ap, ◌∙◌, append_assoc, append-nil, arith}
use Rattle.std.specs.Result.{result_map_both}
use Rattle.text.specs.Numbers.{read_number}
use Rattle.console.specs.declared.reason.Reason.{Reason}
use Rattle.console.specs.Reasons.{number_reason}
use Rattle.console.specs.Words.{first, others, and_then, as_number, numbers_of}

-- the words are the one that was taken and those that are left
pub taken : (ws rest : List (List ℕ)) (word : List ℕ) → Some word ≡ first ws → rest ≡ others ws → ws ≡ word ∷ rest
taken [] rest word e r =
    let z : ◌≡◌ {A = ℕ} 0 1 = cc in
    absurd (omega arith)
taken (w ∷ ws) rest word e r = cc

-- a word that is no number
pub faulty : (ws rest : List (List ℕ)) (word : List ℕ) (reason : Reason) (next : List ℕ → Result (List ℕ) Reason) → ws ≡ word ∷ rest → Err reason ≡ as_number word → Err reason ≡ and_then (numbers_of ws) next
unfolding numbers_of
faulty ws rest word reason next e f =
    ap (λ r. and_then (and_then r (λ n. and_then (numbers_of rest) (λ ns. Ok (n ∷ ns)))) next) f ∙ ap (λ v. and_then (numbers_of v) next) (sym e)

regroup : (n : ℕ) (xs : List ℕ) (r : Result (List ℕ) Reason) → and_then (and_then r (λ ns. Ok (n ∷ ns))) (λ ns. Ok (xs ++ ns)) ≡ and_then r (λ ns. Ok ((xs ++ n ∷ []) ++ ns))
regroup n xs (Ok ns) = ap Ok (sym (append_assoc xs (n ∷ []) ns))
regroup n xs (Err reason) = refl

-- a word that is a number
pub counted : (ws rest : List (List ℕ)) (word : List ℕ) (n : ℕ) (xs : List ℕ) → ws ≡ word ∷ rest → Ok n ≡ read_number word → and_then (numbers_of ws) (λ ns. Ok (xs ++ ns)) ≡ and_then (numbers_of rest) (λ ns. Ok ((xs ++ n ∷ []) ++ ns))
unfolding numbers_of
counted ws rest word n xs e f =
    ap (λ v. and_then (numbers_of v) (λ ns. Ok (xs ++ ns))) e ∙ ap (λ r. and_then (and_then (result_map_both (λ m. m) number_reason r) (λ m. and_then (numbers_of rest) (λ ns. Ok (m ∷ ns)))) (λ ns. Ok (xs ++ ns))) (sym f) ∙ regroup n xs (numbers_of rest)

-- no word, no number
pub none_counted : (ws : List (List ℕ)) (xs : List ℕ) → None ≡ first ws → Ok xs ≡ and_then (numbers_of ws) (λ ns. Ok (xs ++ ns))
unfolding numbers_of
none_counted [] xs e = ap Ok (sym (append-nil xs))
none_counted (w ∷ ws) xs e =
    let z : ◌≡◌ {A = ℕ} 0 1 = cc in
    absurd (omega arith)
