use Rattle.std.proofs.Common.{◌≡◌, ◌+◌, ◌-◌, ◌*◌, length, set, refl, sym, ap, ◌∙◌, arith, rules, length-take, length-set}
use lib.Seq.{take-set-lt}
use borrow.Rule.Slice.PartMut.{put_mid}
use Rattle.std.proofs.lemmas.Bool.{lt-ltb, le-ltb}
use Rattle.memory.specs.Backing.{over}
use Rattle.memory.specs.Bytes.{memory_in, words_in, bytes_of, pasted}
use Rattle.memory.proofs.Fronts.{read_inside, read_outside, refused}
use Rattle.memory.proofs.Quads.{quad_inside, words_pasted, pasted_part, past_paste}
use Rattle.memory.proofs.bytes.ByteMemoryMemory.write.Goals as goal

pub overflow_mul-at : goal.overflow_mul-at
overflow_mul-at c = omega (arith, read_inside _ c.args.address _ (sym c.read.ensures ∙ c.in_ok-read.was), length-take 65536 (words_in c.args.self.now.bytes.now))

pub overflow_add-at : goal.overflow_add-at
overflow_add-at c = omega (arith, read_inside _ c.args.address _ (sym c.read.ensures ∙ c.in_ok-read.was), length-take 65536 (words_in c.args.self.now.bytes.now))

pub slice_bounds-copy_from_slice-end : goal.slice_bounds-copy_from_slice-end
slice_bounds-copy_from_slice-end c = let h = quad_inside c.args.self.now.bytes.now c.args.address (read_inside _ c.args.address _ (sym c.read.ensures ∙ c.in_ok-read.was)) in search rules

pub returns-in_err-read : goal.returns-in_err-read
returns-in_err-read c =
    let bytes = c.args.self.now.bytes.now in
    let a = c.args.address in
    let outside = le-ltb a (length (memory_in bytes)) (read_outside _ a _ (sym c.read.ensures ∙ c.in_err-read.was)) in
    let same = refused c.from_residual.result c.from_residual.ensures.0 in
    record { value = rw outside same; after = rw outside; same = refl; buffer = rw outside }

pub returns : goal.returns
returns c =
    let bytes = c.args.self.now.bytes.now in
    let a = c.args.address in
    let w = c.args.word in
    let at = 4 * a in
    let words = words_in bytes in
    let long = length-take 65536 words in
    let h = read_inside _ c.args.address _ (sym c.read.ensures ∙ c.in_ok-read.was) in
    let there = lt-ltb a (length (memory_in bytes)) h in
    let all : put_mid at (at + 4 - at) bytes c.copy_from_slice.new.self ≡ pasted bytes at (bytes_of w) =
    rw (c.copy_from_slice.ensures.after, c.to_be_bytes.ensures) (pasted_part bytes at (at + 4 - at) (bytes_of w) (omega arith)) in
    let after : memory_in (pasted bytes at (bytes_of w)) ≡ set (memory_in bytes) a w = rw (words_pasted bytes a w (omega arith) (omega arith)) (take-set-lt 65536 words a w (omega arith)) in
    let size : length (memory_in (pasted bytes at (bytes_of w))) ≡ length (memory_in bytes) = ap length after ∙ length-set (memory_in bytes) a w in
    record {
      value = rw there;
      after = rw (there, all) after;
      same = ap (over c.args.self.now.bytes.ghost_name) (rw (all, size) (past_paste bytes at (bytes_of w) (4 * length (memory_in bytes)) (omega arith) (omega (arith, quad_inside bytes a h))));
      buffer = rw (there, all);
    }
