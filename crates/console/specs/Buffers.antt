-- Buffers for a memory and an outlet as values, with lists in the place of what is held in memory; and how large the two are over them.
-- Assumes nothing.
use Rattle.std.specs.Prelude.{ℕ, ◌/◌, List, length, vec_items}
use Rattle.memory.specs.Bytes.{memory_in}
use Rattle.memory.specs.Words.{memory_of}
use Rattle.console.specs.declared.buffers.MemoryBuffer.{MemoryBuffer}
use Rattle.console.specs.declared.buffers.MemoryBuffer.TheVariants.{Words, Bytes}
use Rattle.console.specs.declared.buffers.OutletBuffer.{OutletBuffer}
use Rattle.console.specs.declared.buffers.OutletBuffer.TheVariants.{Store, Bytes as OutletBytes}

-- a buffer for a memory: words, or bytes
pub data MemoryValue : Type 0 where
  words : List ℕ → MemoryValue
  bytes : List ℕ → MemoryValue

-- a buffer for an outlet: the store, or bytes
pub data OutletValue : Type 0 where
  store : OutletValue
  over : List ℕ → OutletValue

-- the value of each
abbrev pub memory_value : MemoryBuffer → MemoryValue
memory_value (Words v) = words (vec_items v)
memory_value (Bytes v) = bytes (vec_items v)

abbrev pub outlet_value : OutletBuffer → OutletValue
outlet_value Store = store
outlet_value (OutletBytes v) = over (vec_items v)

-- the number of words that a memory has over its buffer
abbrev pub words_in : MemoryValue → ℕ
words_in (words ws) = length (memory_of ws)
words_in (bytes bs) = length (memory_in bs)

-- the number of entries that a new outlet has room for
abbrev pub room_in : OutletValue → ℕ
room_in store = 64
room_in (over bs) = length bs / 5
