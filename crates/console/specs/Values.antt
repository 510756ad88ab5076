-- Commands as values: with lists in the place of what is held in memory.
-- Assumes nothing.
use Rattle.std.specs.Prelude.{ℕ, List, vec_items}
use Rattle.console.specs.Buffers.{MemoryValue, OutletValue, memory_value, outlet_value}
use Rattle.console.specs.declared.command.Command.{Command}
use Rattle.console.specs.declared.command.Command.TheVariants.{Packed, Memory, Outlet, Make, Engine}
use Rattle.console.specs.declared.command.Settings.{Settings}
use Rattle.console.specs.declared.kind.Kind.{Kind}
use Rattle.console.specs.declared.command.EngineCommand.{EngineCommand}
use Rattle.console.specs.declared.packed_command.PackedCommand.{PackedCommand}
use Rattle.console.specs.declared.packed_command.PackedCommand.TheVariants.{Program, List as Listing, One, Image}

-- a command on programs and packed words
pub data PackedValue : Type 0 where
  program : List ℕ → PackedValue
  listing : PackedValue
  one : Kind → List ℕ → PackedValue
  image : Kind → List ℕ → PackedValue

-- how many lines a core has, and where each core starts
pub record SettingsValue : Type 0 where
  pub lines : ℕ
  pub places : List ℕ

-- a command
pub data CommandValue : Type 0 where
  packed : PackedValue → CommandValue
  memory : MemoryValue → CommandValue
  outlet : OutletValue → CommandValue
  make : SettingsValue → CommandValue
  engine : EngineCommand → CommandValue

-- the value of each
abbrev pub packed_value : PackedCommand → PackedValue
packed_value (Program v) = program (vec_items v)
packed_value Listing = listing
packed_value (One kind v) = one kind (vec_items v)
packed_value (Image kind v) = image kind (vec_items v)

abbrev pub settings_value : Settings → SettingsValue
settings_value s = record { lines = s.lines; places = vec_items s.places }

abbrev pub command_value : Command → CommandValue
command_value (Packed c) = packed (packed_value c)
command_value (Memory b) = memory (memory_value b)
command_value (Outlet b) = outlet (outlet_value b)
command_value (Make s) = make (settings_value s)
command_value (Engine c) = engine c
