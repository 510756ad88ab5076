-- Record entries as words, each way.
-- Assumes nothing.
use Rattle.std.proofs.Common.{◌≡◌, ℕ, ◌/◌, ◌%◌, ◌^◌, ◌<◌, true, Ok, arith}
use Rattle.std.proofs.lemmas.Bool.Decides.{nat_tests}
use Rattle.formats.specs.declared.entry.Mark.{Mark}
use Rattle.formats.specs.declared.entry.RecordEntry.{RecordEntry}
use Rattle.formats.specs.Belows.{core_of, count_of}
use Rattle.formats.specs.Records.{mark_number, mark_at, entry, record_word, in_range, word_record}
use Rattle.formats.proofs.Belows.{same_value}

mark_again : (m : Mark) → mark_at (mark_number m) ≡ m
mark_again m = grind arith

word_in_range : (e : RecordEntry) → in_range (record_word e) ≡ true
word_in_range e = grind (arith, nat_tests)

-- an entry's word is a word
pub word_fits : (e : RecordEntry) → record_word e < 256 ^ 4
word_fits e = grind (arith, e.core.fits, e.count.fits)

-- unpacking an entry's word gives the entry
pub word_again : (e : RecordEntry) → word_record (record_word e) ≡ Ok e
word_again e =
    let mark : record_word e / 134217728 % 4 ≡ mark_number e.mark = grind arith in
    let core : core_of (record_word e / 536870912) ≡ e.core = same_value _ _ _ (grind (arith, e.core.fits, e.count.fits)) in
    let count : count_of (record_word e % 65536) ≡ e.count = same_value _ _ _ (grind (arith, e.core.fits, e.count.fits)) in
    rw (word_in_range e, mark, core, count, mark_again e.mark)

-- the entry of an entry's own numbers is that entry
pub entry_again : (e : RecordEntry) → entry e.core.value e.mark e.count.value ≡ e
entry_again e =
    let core : core_of e.core.value ≡ e.core = same_value _ _ _ (omega (arith, e.core.fits)) in
    let count : count_of e.count.value ≡ e.count = same_value _ _ _ (omega (arith, e.count.fits)) in
    rw (core, count)

-- packing what a word unpacks to gives the word
pub word_back : (w : ℕ) (e : RecordEntry) → w < 256 ^ 4 → word_record w ≡ Ok e → record_word e ≡ w
word_back w e fits is = grind (arith, nat_tests)
