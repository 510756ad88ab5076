use Rattle.std.proofs.Common.{◌<◌, length, refl, sym, ap, ◌∙◌, arith, length-take, drop-set-lt}
use lib.Seq.{take-set-lt}
use Rattle.std.proofs.lemmas.Bool.{lt-ltb, le-ltb}
use Rattle.memory.specs.Backing.{over}
use Rattle.memory.specs.Words.{memory_of}
use Rattle.memory.proofs.Fronts.{read_inside, read_outside, refused}
use Rattle.memory.proofs.words.WordMemoryMemory.write.Goals as goal

-- the address lies in the memory
inside : (c : goal.In_ok-read) → c.args.address < length (memory_of c.args.self.now.all.now)
inside c = read_inside _ c.args.address _ (sym c.read.ensures ∙ c.in_ok-read.was)

pub offset_bounds-self-address : goal.offset_bounds-self-address
offset_bounds-self-address c = omega (arith, inside c, length-take 65536 c.args.self.now.all.now)

pub bounds-self-address : goal.bounds-self-address
bounds-self-address c = omega (arith, inside c, length-take 65536 c.args.self.now.all.now)

pub returns-in_err-read : goal.returns-in_err-read
returns-in_err-read c =
    let all = c.args.self.now.all.now in
    let a = c.args.address in
    let outside = le-ltb a (length (memory_of all)) (read_outside _ a _ (sym c.read.ensures ∙ c.in_err-read.was)) in
    let same = refused c.from_residual.result c.from_residual.ensures.0 in
    record { value = rw outside same; after = rw outside; same = refl; buffer = rw outside }

pub returns : goal.returns
returns c =
    let all = c.args.self.now.all.now in
    let a = c.args.address in
    let low : a < 65536 = omega (arith, inside c, length-take 65536 all) in
    let there = lt-ltb a (length (memory_of all)) (inside c) in
    record {
      value = rw there;
      after = rw there (take-set-lt 65536 all a c.args.word low);
      same = ap (over c.args.self.now.all.ghost_name) (drop-set-lt 65536 all a c.args.word low);
      buffer = rw there;
    }
