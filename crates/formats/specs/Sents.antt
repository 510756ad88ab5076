-- An outlet entry as five bytes: the channel, then the word.
-- Assumes nothing.
use Rattle.std.specs.Prelude.{ℕ, ◌+◌, ◌*◌, ◌/◌, ◌%◌, ◌^◌, List, Ok, Result}
use Rattle.std.proofs.Common.{lit<}
use Rattle.std.specs.declared.convert.Infallible.{Infallible}
use Rattle.std.proofs.lemmas.Nat.{mod_below}
use Rattle.formats.specs.declared.below.Below.{Below}
use Rattle.formats.specs.declared.entry.SentEntry.{SentEntry}
use Rattle.formats.specs.Belows.{channel_of}
use Rattle.formats.specs.Bytes.{bytes_of, spelled}

-- a word sent on a channel
abbrev pub sent_word : Below 256 → ℕ → SentEntry
sent_word channel word = record { channel = channel; word = word % 2 ^ 32; fits = mod_below word (2 ^ 32) (lit< tt) }

-- an entry as a number of 40 bits
abbrev pub sent_code : SentEntry → ℕ
sent_code e = e.channel.value * 2 ^ 32 + e.word

-- the entry of such a number
abbrev pub sent_of : ℕ → SentEntry
sent_of n = sent_word (channel_of (n / 2 ^ 32)) n

-- every number unpacks
abbrev pub code_sent : ℕ → Result SentEntry Infallible
code_sent n = Ok (sent_of n)

-- the same over five bytes
abbrev pub sent_bytes : SentEntry → List ℕ
sent_bytes e = bytes_of 5 (sent_code e)

abbrev pub bytes_sent : List ℕ → Result SentEntry Infallible
bytes_sent bs = code_sent (spelled bs)
