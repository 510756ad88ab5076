use Rattle.std.proofs.Common.{◌≡◌, ◌-◌, length, drop, ◌∙◌, rules}
use Rattle.std.proofs.lemmas.List.{take_rest}
use Rattle.codecs.proofs.Codes.{last_bytes, eight_bytes}
use Rattle.codecs.proofs.packed_list.code.write.Goals as goal

pub returns : goal.returns
returns c =
    let all = c.to_be_bytes-all.ensures ∙ eight_bytes c.args.code in
    let part : c.copy_from_slice.new.self ≡ drop (8 - length c.args.out.now) c.to_be_bytes-all.result = search (rules, take_rest) in
    rw (part, all) (last_bytes 8 (length c.args.out.now) c.args.code c.requires)
