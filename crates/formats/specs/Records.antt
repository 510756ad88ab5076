-- A record entry as one word: core 3 bits, mark 2, zero 11, count 16.
-- Assumes nothing.
use Rattle.std.specs.Prelude.{ℕ, ◌+◌, ◌*◌, ◌/◌, ◌%◌, ◌^◌, Bool, cond, ◌&&◌, List, Ok, Err, Result, ◌==◌, nat_le}
use Rattle.formats.specs.declared.refusal.EntryFault.{EntryFault}
use Rattle.formats.specs.declared.refusal.EntryFault.TheVariants.{OutOfRange}
use Rattle.formats.specs.declared.entry.Mark.{Mark}
use Rattle.formats.specs.declared.entry.Mark.TheVariants.{Completed, Discarded, Kept}
use Rattle.formats.specs.declared.entry.RecordEntry.{RecordEntry}
use Rattle.formats.specs.Belows.{core_of, count_of}
use Rattle.formats.specs.Bytes.{bytes_of, spelled}

-- a mark's number
abbrev pub mark_number : Mark → ℕ
mark_number Completed = 0
mark_number Discarded = 1
mark_number Kept = 2

-- the mark of a number from 0 to 2
abbrev pub mark_at : ℕ → Mark
mark_at n = cond (n == 0) Completed (cond (n == 1) Discarded Kept)

-- the same, or the fault of any other number
abbrev pub mark_from : ℕ → Result Mark EntryFault
mark_from n = cond (nat_le n 2) (Ok (mark_at n)) (Err OutOfRange)

-- the entry of a core's number, a mark and a count, each number cut to its field
abbrev pub entry : ℕ → Mark → ℕ → RecordEntry
entry i mark n = record { core = core_of i; mark = mark; count = count_of n }

-- an entry's word
abbrev pub record_word : RecordEntry → ℕ
record_word e = e.core.value * 2 ^ 29 + mark_number e.mark * 2 ^ 27 + e.count.value

-- mark 0 to 2, the 11 bits zero, count at most 4,096
abbrev pub in_range : ℕ → Bool
in_range w = nat_le (w / 2 ^ 27 % 4) 2 && w / 2 ^ 16 % 2 ^ 11 == 0 && nat_le (w % 2 ^ 16) 4096

-- what a word unpacks to
abbrev pub word_record : ℕ → Result RecordEntry EntryFault
word_record w =
    cond (in_range w) (Ok (entry (w / 2 ^ 29) (mark_at (w / 2 ^ 27 % 4)) (w % 2 ^ 16))) (Err OutOfRange)

-- the same over four bytes
abbrev pub record_bytes : RecordEntry → List ℕ
record_bytes e = bytes_of 4 (record_word e)

abbrev pub bytes_record : List ℕ → Result RecordEntry EntryFault
bytes_record bs = word_record (spelled bs)
