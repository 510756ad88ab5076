use Rattle.std.proofs.Common.{◌≤◌, map, ap, rules, arith, length}
use Rattle.std.specs.List.{filter}
use Rattle.std.proofs.lemmas.Iterator.{YieldsList-from_slice, YieldsList-from_map}
use Rattle.std.proofs.lemmas.Iterator.Consumers.{YieldsList-from_filter}
use Rattle.std.proofs.lemmas.List.{length-map}
use Rattle.std.proofs.lemmas.List.Sums.{length-filter, count_by-le-length}
use Rattle.model.specs.declared.line.Line.{Line}
use Rattle.cores.proofs.Tags.{all_added}
use Rattle.cores.proofs.buffer.Buffer.tagged_addresses.Goals as goal

pub returns-clause-value : goal.returns-clause-value
returns-clause-value c =
    let ls = c.args.self.now in
    let all = map (λ (l : Line). l.address) (filter (λ (l : Line). l.tag) ls) in
    let few : length all ≤ 32 =
    omega (
      arith,
      length-map (filter (λ (l : Line). l.tag) ls) (λ (l : Line). l.address),
      length-filter (λ (l : Line). l.tag) ls,
      count_by-le-length (λ (l : Line). l.tag) ls,
      c.lines.ensures.few,
      ap length c.lines.ensures.value,
    ) in
    let given = YieldsList-from_map _ (λ (l : Line). l.address)
    (YieldsList-from_filter _ (λ (l : Line). l.tag) (YieldsList-from_slice ls cc) (cc) (λ x b q k. search rules)) (cc) (λ x r q k. search rules) in
    all_added all c.extend.result c.new-addresses.ensures c.extend.ensures.ran c.extend.ensures.full c.extend.ensures.one_more given few
