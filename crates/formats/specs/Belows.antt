-- Numbers that fit a field, from a number of any size: its remainder.
-- Assumes nothing.
use Rattle.std.specs.Prelude.{ℕ, ◌%◌, ◌<◌}
use Rattle.std.proofs.Common.{lit<}
use Rattle.std.proofs.lemmas.Nat.{mod_below}
use Rattle.formats.specs.declared.below.Below.{Below}

-- the remainder by the limit
abbrev pub below : (limit : ℕ) → 0 < limit → ℕ → Below limit
below limit some n = record { value = n % limit; fits = mod_below n limit some }

-- an 18-bit constant, a channel, a core's number and a unit's count
abbrev pub immediate_of : ℕ → Below 262144
immediate_of = below 262144 (lit< tt)

abbrev pub channel_of : ℕ → Below 256
channel_of = below 256 (lit< tt)

abbrev pub core_of : ℕ → Below 8
core_of = below 8 (lit< tt)

abbrev pub count_of : ℕ → Below 4097
count_of = below 4097 (lit< tt)
