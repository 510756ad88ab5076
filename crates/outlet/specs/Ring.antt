-- A ring: a list of places that is gone round, where the entries from the first on, so many, are those that count.
use Rattle.std.specs.Prelude.{ℕ, ◌+◌, ◌-◌, cond, List, ◌++◌, take, drop, Some, None, Option, nat_lt}

-- a place below twice the number of places, gone round
abbrev pub wrapped : ℕ → ℕ → ℕ
wrapped places i = cond (nat_lt i places) i (i - places)

-- so many entries from the first on, in the order of the ring
abbrev pub ring_of : {A : Type 0} → List A → ℕ → ℕ → List A
ring_of xs first count = take count (drop first (xs ++ xs))

-- claiming the place behind the filled ones: which it is, or none where all are filled; and how many are filled then
abbrev pub claim_answer : ℕ → ℕ → ℕ → Option ℕ
claim_answer places first count = cond (nat_lt count places) (Some (wrapped places (first + count))) None

abbrev pub count_claimed : ℕ → ℕ → ℕ
count_claimed places count = cond (nat_lt count places) (count + 1) count

-- releasing the oldest filled place: which it is, or none where none is filled; and which is the oldest then
abbrev pub release_answer : ℕ → ℕ → Option ℕ
release_answer first count = cond (nat_lt 0 count) (Some first) None

abbrev pub first_released : ℕ → ℕ → ℕ → ℕ
first_released places first count = cond (nat_lt 0 count) (wrapped places (first + 1)) first
