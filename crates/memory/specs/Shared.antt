-- What reading and writing a shared memory answer and leave, over the list of words that it means.
use Rattle.std.specs.Prelude.{ℕ, cond, List, length, Ok, Err, Result, nat_lt, slice_index, slice_set}
use Rattle.formats.specs.declared.refusal.OutsideMemory.{OutsideMemory}

-- what reading an address answers: the word there, or the refusal of an address outside
abbrev pub word_at : List ℕ → ℕ → Result ℕ OutsideMemory
word_at ws a = cond (nat_lt a (length ws)) (Ok (slice_index ws a)) (Err (record {}))

-- what writing an address answers
abbrev pub write_answer : List ℕ → ℕ → Result (Unit {0}) OutsideMemory
write_answer ws a = cond (nat_lt a (length ws)) (Ok tt) (Err (record {}))

-- the words after writing an address: that word alone is replaced, and at an address outside none is
abbrev pub written : List ℕ → ℕ → ℕ → List ℕ
written ws a w = cond (nat_lt a (length ws)) (slice_set ws a w) ws
