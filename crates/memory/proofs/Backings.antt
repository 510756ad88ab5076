-- What a memory that is the same beside its words tells of its buffer.
-- Assumes nothing.
use Rattle.std.proofs.Common.{◌≡◌, ℕ, List}
use base.Fml.{GName}
use Rattle.memory.specs.Backing.{over}

-- it is the same buffer
pub same_buffer : {g h : GName} {s t : List ℕ} → over g s ≡ over h t → g ≡ h
same_buffer e = cc

-- its spare part is as it was
pub same_spare : {g h : GName} {s t : List ℕ} → over g s ≡ over h t → s ≡ t
same_spare e = cc
