use Rattle.std.proofs.Common.{◌≡◌, ◌≤◌, length, take, Ok, sym, ap, ◌∙◌, arith, length-take-le}
use Rattle.std.proofs.lemmas.List.{drop-replicate}
use Rattle.std.proofs.lemmas.Result.{err_from_is_err_and}
use Rattle.formats.specs.declared.instruction.Instruction.TheVariants.{Halt}
use Rattle.codecs.specs.Accepted.{ends, last_of}
use Rattle.codecs.specs.Reading.{read_from}
use Rattle.codecs.proofs.Programs.{sofar_more, sofar_stop, sofar_all, last_item, count_good}
use Rattle.codecs.proofs.program.Program.read.Goals as goal
use Rattle.codecs.proofs.program.Program.read.Goals.{After-may_end}

pub loop-place-preserved : goal.loop-place-preserved
loop-place-preserved c =
    let g = count_good (length c.args.bytes.now) c.count-count.result (sym c.if-not-good_count.ensures) c.count-count.ensures in
    sofar_more c.count-count.result c.args.bytes.now c.loop-place.instructions c.loop-place.place g.1 c.loop-place.invariant c.in_ok-instructions.field-0 c.loop-place-test.true (sym c.instruction_at.ensures ∙ c.in_ok-instructions.was)

pub returns-in_err-instructions : goal.returns-in_err-instructions
returns-in_err-instructions c =
    let bytes = c.args.bytes.now in
    let good = sym c.if-not-good_count.ensures in
    let p = err_from_is_err_and c.from_residual.result c.from_residual.ensures.1 in
    let r = c.in_err-instructions.field-0.0 in
    let stop = sofar_stop c.count-count.result bytes c.loop-place.instructions c.loop-place.place (count_good (length bytes) c.count-count.result good c.count-count.ensures).1 c.loop-place.invariant r c.loop-place-test.true (sym c.instruction_at.ensures ∙ c.in_err-instructions.was) in
    rw (p.1, p.2, good, ← c.count-count.ensures, stop)

-- all is read
whole : (c : After-may_end) → read_from c.count-count.result c.count-count.result c.args.bytes.now 0 ≡ Ok (take c.count-count.result c.loop-place.instructions)
whole c =
    let bytes = c.args.bytes.now in
    let g = count_good (length bytes) c.count-count.result (sym c.if-not-good_count.ensures) c.count-count.ensures in
    sofar_all c.count-count.result bytes c.loop-place.instructions c.loop-place.place g.1 c.loop-place.invariant (omega arith)

-- and the last of it was looked at
last_is : (c : After-may_end) → c.may_end.result ≡ ends (last_of (take c.count-count.result c.loop-place.instructions))
last_is c =
    let bytes = c.args.bytes.now in
    let g = count_good (length bytes) c.count-count.result (sym c.if-not-good_count.ensures) c.count-count.ensures in
    let within : c.count-count.result ≤ length c.loop-place.instructions = omega (arith, c.loop-place.invariant.long, g.1) in
    rw c.may_end.ensures (ap ends (last_item c.loop-place.instructions c.count-count.result c.index-instructions-count.result g.0 within))

pub invariant_of-result : goal.invariant_of-result
invariant_of-result c =
    let bytes = c.args.bytes.now in
    let is = c.loop-place.instructions in
    let g = count_good (length bytes) c.count-count.result (sym c.if-not-good_count.ensures) c.count-count.ensures in
    let end = (goal.at.invariant_of-result c).After-may_end in
    let all : c.loop-place.place ≡ c.count-count.result = omega arith in
    let long : length (take c.count-count.result is) ≡ c.count-count.result = length-take-le _ _ (omega (arith, c.loop-place.invariant.long, g.1)) in
    record {
      sized = c.loop-place.invariant.long;
      within = g.1;
      blank = rw all at c.loop-place.invariant.blank ∙ drop-replicate c.count-count.result 512 Halt;
      accepted = record {
        some = omega (arith, long, g.0);
        few = omega (arith, long, g.1);
        targets = rw long (rw all at c.loop-place.invariant.targets);
        last = sym (last_is end) ∙ c.if-may_end.true;
      };
    }

pub returns-then-may_end : goal.returns-then-may_end
returns-then-may_end c =
    let end = (goal.at.returns-then-may_end c).After-may_end in
    rw (sym c.if-not-good_count.ensures, ← c.count-count.ensures, whole end, sym (last_is end) ∙ c.if-may_end.true)

pub returns-else-may_end : goal.returns-else-may_end
returns-else-may_end c =
    let bytes = c.args.bytes.now in
    let end = (goal.at.returns-else-may_end c).After-may_end in
    let good = sym c.if-not-good_count.ensures in
    let long : length (take c.count-count.result c.loop-place.instructions) ≡ c.count-count.result = length-take-le _ _ (omega (arith, c.loop-place.invariant.long, (count_good (length bytes) c.count-count.result good c.count-count.ensures).1)) in
    rw (good, ← c.count-count.ensures, whole end, sym (last_is end) ∙ c.if-may_end.false, long)
