-- What a written word does to the cores of a table.
-- Assumes nothing.
use Rattle.std.specs.Prelude.{ℕ, zero, suc, List, [], ◌∷◌, map}
use Rattle.model.specs.Cores.{Core}
use Rattle.model.specs.Engine.{written_at}

-- a core once another has written the word at an address
abbrev pub after_write_at : ℕ → Core → Core
after_write_at a c = written_at c.state a c

-- the cores once one of them has written there: the writer stays as it is
abbrev pub others_after : (writer : ℕ) → ℕ → List Core → List Core
others_after w a [] = []
others_after zero a (c ∷ cs) = c ∷ map (after_write_at a) cs
others_after (suc w) a (c ∷ cs) = after_write_at a c ∷ others_after w a cs
