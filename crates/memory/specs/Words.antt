-- A memory over handed-in words: which of them it is, and what a write leaves of all of them.
use Rattle.std.specs.Prelude.{ℕ, cond, List, length, take, drop, nat_lt, slice_set}
use Rattle.std.specs.Borrow.{MutBor}
use Rattle.memory.specs.Backing.{Backing, over}

-- the memory: the first 65,536 of the words handed in
abbrev pub memory_of : List ℕ → List ℕ
memory_of all = take 65536 all

-- its backing: those past them
abbrev pub words_backing : MutBor (List ℕ) → Backing
words_backing all = over all.ghost_name (drop 65536 all.now)

-- all handed-in words after writing an address: that word alone is replaced, if the memory has it
abbrev pub all_written : List ℕ → ℕ → ℕ → List ℕ
all_written all a w = cond (nat_lt a (length (memory_of all))) (slice_set all a w) all
