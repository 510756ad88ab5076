-- Blocks as an observer knows them: from the answers of cores, the instructions that they performed, and the words that they wrote.
--   Move       one move of a core
--   block      what was performed, and what others did, since a core's open block began
--   Occurs     a fact of some move and of those before it
--   Touched    the block has performed a LOAD or a STORE at an address
--   Taken      the block has taken the word at an address from shared memory
--   Hit        another core has since written a word that the block had taken
-- Assumes nothing.
use Rattle.std.specs.Prelude.{◌≡◌, ℕ, if◌then◌else◌, ◌≢◌, ◌⊎◌, List, [], ◌∷◌, ◌==◌}
use Rattle.std.proofs.Math.Option.{Option, none, some}
use Rattle.formats.specs.declared.answer.Answer.{Answer}
use Rattle.formats.specs.declared.answer.Answer.TheVariants.{Running, Done, RolledBack, Retried, Faulted}
use Rattle.model.specs.declared.action.Operation.TheVariants.{Loads, Stores}
use Rattle.model.specs.declared.action.Action.{Action}
use Rattle.model.specs.declared.action.Action.TheVariants.{Performs}
use Rattle.model.specs.declared.effect.Effect.{Effect}
use Rattle.model.specs.declared.effect.Effect.TheVariants.{Wrote}

-- a move of a core: what its instruction asked for, what it answered, what it wrote or sent
pub record Move : Type 0 where
  pub core : ℕ
  pub action : Action
  pub answer : Answer
  pub effect : Effect

-- what an instruction touches
pub data Touch : Type 0 where
  Reads : ℕ → Touch
  Writes : ℕ → Touch
  Neither : Touch

-- LOAD and STORE touch a word
abbrev pub touch : Action → Touch
touch (Performs (Loads a d)) = Reads a
touch (Performs (Stores a w)) = Writes a
touch _ = Neither

-- one more move since a block began, if one is open
abbrev pub also : Move → Option (List Move) → Option (List Move)
also v none = none
also v (some vs) = some (v ∷ vs)

-- a core's own move: "running" opens a block where none is open, and else performs an instruction of it; four answers close it
abbrev pub own_move : Answer → Move → Option (List Move) → Option (List Move)
own_move Running v none = some []
own_move Running v (some vs) = some (v ∷ vs)
own_move Done v b = none
own_move RolledBack v b = none
own_move Retried v b = none
own_move (Faulted f pc) v b = none
own_move _ v b = b

-- a core's open block: its own performed instructions and the moves of others since it opened, latest first; none where no block is open
abbrev pub block : ℕ → List Move → Option (List Move)
block i [] = none
block i (v ∷ vs) = if i == v.core then own_move v.answer v (block i vs) else also v (block i vs)

-- a fact of some move of a list, latest first, and of those before it
abbrev pub Occurs : (Move → List Move → Type 0) → List Move → Type 0
Occurs P [] = ⊥
Occurs P (v ∷ vs) = P v vs ⊎ Occurs P vs

-- a touch of the word at an address
abbrev pub At : Touch → ℕ → Type 0
At (Reads b) a = b ≡ a
At (Writes b) a = b ≡ a
At Neither a = ⊥

-- the block of a core has performed a LOAD or a STORE at an address
abbrev pub Touched : ℕ → ℕ → List Move → Type 0
Touched i a = Occurs (λ v before. (v.core ≡ i) × At (touch v.action) a)

-- the block of a core has taken the word at an address: it performed a LOAD there, and no LOAD or STORE there before
abbrev pub Taken : ℕ → ℕ → List Move → Type 0
Taken i a = Occurs (λ v before. (v.core ≡ i) × (touch v.action ≡ Reads a) × (Touched i a before → ⊥))

-- another core has written a word that the block of a core had taken by then
abbrev pub Hit : ℕ → List Move → Type 0
Hit i = Occurs (λ v before. (v.core ≢ i) × ((a w : ℕ) × (v.effect ≡ Wrote a w) × Taken i a before))

-- a core has an open block that is hit
abbrev pub OpenAndHit : ℕ → List Move → Type 0
OpenAndHit i moves = (vs : List Move) × (block i moves ≡ some vs) × Hit i vs
