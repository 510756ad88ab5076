-- Two numbers below one limit with the same value are the same.
-- Assumes nothing.
use Rattle.std.proofs.Common.{◌≡◌, ℕ, ◌<◌}
use mathlib.Core.HLevel.{is_prop→PathP}
use native.Mathlib.Bridge.{le_prop}
use Rattle.formats.specs.declared.below.Below.{Below}

pub same_value : (limit : ℕ) (i j : Below limit) → i.value ≡ j.value → i ≡ j
same_value limit i j e = λ k. record {
  value = e k;
  fits = is_prop→PathP (λ k. e k < limit) (λ k. le_prop) i.fits j.fits k;
}
