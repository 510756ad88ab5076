-- What a memory stands on besides its words.
use Rattle.std.specs.Prelude.{ℕ, List}
use Rattle.std.specs.Borrow.{GName}

-- a handed-in buffer, by the name of its reference, and what of it is no word of the memory;
-- or two memories that make one, and their words past the largest memory
pub data Backing : Type 0 where
  over : GName → List ℕ → Backing
  both : Backing → Backing → List ℕ → Backing
