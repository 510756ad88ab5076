-- A memory over handed-in bytes, four to a word, most significant first: its words, and what a write leaves of all bytes.
use Rattle.std.specs.Prelude.{ℕ, ◌+◌, ◌*◌, ◌/◌, ◌%◌, cond, List, [], ◌∷◌, ◌++◌, length, take, drop, nat_lt}
use Rattle.std.specs.Borrow.{MutBor}
use Rattle.memory.specs.Backing.{Backing, over}

-- the word of four bytes
abbrev pub word_of : ℕ → ℕ → ℕ → ℕ → ℕ
word_of a b c d = a * 16777216 + b * 65536 + c * 256 + d

-- the four bytes of a word
abbrev pub bytes_of : ℕ → List ℕ
bytes_of w = (w / 16777216 % 256) ∷ (w / 65536 % 256) ∷ (w / 256 % 256) ∷ (w % 256) ∷ []

-- the words that bytes hold: one for every four, and none for the one, two or three that may be left
abbrev pub words_in : List ℕ → List ℕ
words_in [] = []
words_in (a ∷ []) = []
words_in (a ∷ b ∷ []) = []
words_in (a ∷ b ∷ c ∷ []) = []
words_in (a ∷ b ∷ c ∷ d ∷ rest) = word_of a b c d ∷ words_in rest

-- the memory: the first 65,536 of those words
abbrev pub memory_in : List ℕ → List ℕ
memory_in bytes = take 65536 (words_in bytes)

-- its backing: the bytes past its words
abbrev pub bytes_backing : MutBor (List ℕ) → Backing
bytes_backing bytes = over bytes.ghost_name (drop (4 * length (memory_in bytes.now)) bytes.now)

-- a list with others in the place of as many of its elements, from a place on
abbrev pub pasted : List ℕ → ℕ → List ℕ → List ℕ
pasted xs at new = take at xs ++ (new ++ drop (at + length new) xs)

-- all handed-in bytes after writing an address: the word's four alone are replaced, if the memory has it
abbrev pub bytes_written : List ℕ → ℕ → ℕ → List ℕ
bytes_written bytes a w = cond (nat_lt a (length (memory_in bytes))) (pasted bytes (4 * a) (bytes_of w)) bytes
