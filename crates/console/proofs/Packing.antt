-- The bytes of an entry's packed form, by the number that they spell.
-- Assumes nothing.
use Rattle.std.proofs.Common.{◌≡◌, ℕ, List, ap, ◌∙◌}
use Rattle.formats.specs.Bytes.{AreBytes, bytes_of, spelled}
use Rattle.formats.proofs.Bytes.{bytes_again}

pub packs : (k code : ℕ) (bytes : List ℕ) → code ≡ spelled bytes → AreBytes k bytes → bytes_of k code ≡ bytes
packs k code bytes is are = ap (bytes_of k) is ∙ bytes_again k bytes are
