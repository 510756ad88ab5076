use Rattle.std.proofs.Common.{◌≡◌, ◌-◌, length, take, drop, replicate}
use Rattle.std.specs.Int.{from_be_bytes, w16}
use Rattle.std.specs.Prelude.{map}
use Rattle.calls.proofs.settings.Settings.read.Given as goal

abbrev pub invariant-loop-i : goal.invariant-loop-i
invariant-loop-i l = (take l.i l.kept ≡ map (from_be_bytes w16) (take l.i l.first)) × (length l.kept ≡ 9) × (drop l.i l.kept ≡ replicate (9 - l.i) 0)
