use Rattle.std.proofs.Common.{◌≡◌, ℕ, List, ◌++◌, length, Some, vec_items, codes, decimal, sym, ap, ◌∙◌, arith}
use Rattle.std.proofs.lemmas.List.{get_or_default}
use Rattle.formats.specs.declared.instruction.Instruction.TheVariants.{Halt}
use Rattle.console.specs.Lines.{ended, instruction_line, line_at, listed}
use Rattle.console.proofs.Gathered.{line_more, gathered}
use Rattle.console.proofs.packed_answers.list.Goals as goal

pub loop-place-preserved : goal.loop-place-preserved
loop-place-preserved c =
    let is = c.as_slice-instructions.result.now in
    let f = line_at is in
    let place = c.loop-place.place in
    let item = c.index-instructions-place.result in
    let here = c.index-instructions-place.is ∙ get_or_default is place item Halt (omega arith) in
    let wrote : vec_items c.list_one.new.out ≡ vec_items c.loop-place.out ++ instruction_line place item = c.in_ok-list_one.ensures in
    wrote ∙ ap (λ i. vec_items c.loop-place.out ++ instruction_line place i) here ∙ ap (λ (l : List ℕ). l ++ f c.loop-place.place) c.loop-place.invariant ∙ line_more f (vec_items c.write_line-2.new.out) c.loop-place.place

pub returns : goal.returns
returns c =
    let is = c.as_slice-instructions.result.now in
    let before = vec_items c.args.out.now in
    let first = c.in_ok-write_line.ensures ∙ ap (λ (l : List ℕ). before ++ ended l) (c.as_str.ensures.value ∙ c.in_ok-head.ensures.ok) in
    let same : c.loop-place.place ≡ length is = omega arith in
    gathered (line_at is) before (ended (codes "instructions " ++ decimal (length is))) (vec_items c.write_line-2.new.out) (vec_items c.loop-place.out) c.loop-place.place (length is) c.loop-place.invariant first same
    ∙ ap (λ is. before ++ listed (Some is)) c.as_slice-instructions.ensures.value
    ∙ ap (λ o. before ++ listed o) (sym c.in-Some.is)
