-- The words of a line, taken from left to right.
-- Assumes nothing.
use Rattle.std.specs.Prelude.{◌≡◌, ℕ, zero, suc, if◌then◌else◌, List, [], ◌∷◌, length, Some, None, Ok, Err, Option, Result, nat_lt}
use Rattle.std.specs.Option.{ok_or}
use Rattle.std.specs.Result.{result_map_both}
use Rattle.text.specs.Lines.{next_token}
use Rattle.text.specs.Numbers.{read_number, read_bytes}
use Rattle.console.specs.declared.reason.Reason.{Reason}
use Rattle.console.specs.declared.reason.Reason.TheVariants.{MissingWord, NumberTooLarge, NoBytes, ExtraWord}
use Rattle.console.specs.Reasons.{number_reason}

-- a token, and the words of the text after it
abbrev pub listed : (List ℕ → List (List ℕ)) → Option (List ℕ × List ℕ) → List (List ℕ)
listed words None = []
listed words (Some p) = p.0 ∷ words p.1

-- the first words of a text, so many at most
abbrev pub words_up_to : ℕ → List ℕ → List (List ℕ)
words_up_to zero text = []
words_up_to (suc n) text = listed (words_up_to n) (next_token text)

-- all words of a text: there are no more than bytes
unfoldable pub words_of : List ℕ → List (List ℕ)
words_of text = words_up_to (length text) text

-- the next word, if there is one
abbrev pub first : List (List ℕ) → Option (List ℕ)
first [] = None
first (word ∷ words) = Some word

-- the words after it
abbrev pub others : List (List ℕ) → List (List ℕ)
others [] = []
others (word ∷ words) = words

-- the next word is taken, if there is one
abbrev pub GivesWord : List (List ℕ) → Option (List ℕ) → List (List ℕ) → Type 0
GivesWord before word after = (word ≡ first before) × (after ≡ others before)

-- one question after another: the first refusal stays
abbrev pub and_then : {A B : Type 0} → Result A Reason → (A → Result B Reason) → Result B Reason
and_then (Ok a) next = next a
and_then (Err reason) next = Err reason

-- the next word, which has to be there
abbrev pub word_of : List (List ℕ) → Result (List ℕ) Reason
word_of words = ok_or (first words) MissingWord

-- the number that a word writes
abbrev pub as_number : List ℕ → Result ℕ Reason
as_number word = result_map_both (λ n. n) number_reason (read_number word)

-- the next word as a number
unfoldable pub number_of : List (List ℕ) → Result ℕ Reason
number_of words = and_then (word_of words) as_number

-- 65,536 at most
abbrev pub at_most_65536 : ℕ → Result ℕ Reason
at_most_65536 n = if nat_lt 65536 n then Err NumberTooLarge else Ok n

-- the next word as a number of steps, turns, bytes or places
unfoldable pub times_of : List (List ℕ) → Result ℕ Reason
times_of words = and_then (number_of words) at_most_65536

-- the next word as bytes
unfoldable pub bytes_of : List (List ℕ) → Result (List ℕ) Reason
bytes_of words = and_then (word_of words) (λ word. ok_or (read_bytes word) NoBytes)

-- all words as numbers: the first that is none decides
unfoldable pub numbers_of : List (List ℕ) → Result (List ℕ) Reason
numbers_of [] = Ok []
numbers_of (word ∷ words) = and_then (as_number word) (λ n. and_then (numbers_of words) (λ ns. Ok (n ∷ ns)))

-- a value, where no word is left
abbrev pub ended : {A : Type 0} → List (List ℕ) → A → Result A Reason
ended [] value = Ok value
ended (word ∷ words) value = Err ExtraWord
