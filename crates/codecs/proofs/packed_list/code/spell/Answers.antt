use Rattle.std.proofs.Common.{ℕ, ◌-◌, List, [], ◌∷◌, length, ap, ◌∙◌, arith}
use borrow.Rule.Slice.PartMut.{put_mid}
use Rattle.std.specs.Int.{from_be_bytes, w64}
use Rattle.codecs.proofs.Codes.{all_bytes, spelled_behind}
use Rattle.codecs.proofs.packed_list.code.spell.Goals as goal

pub returns : goal.returns
returns c =
    let bs = c.args.bytes.now in
    let from = 8 - length bs in
    let zeros : List ℕ = 0 ∷ 0 ∷ 0 ∷ 0 ∷ 0 ∷ 0 ∷ 0 ∷ 0 ∷ [] in
    record {
      value = c.from_be_bytes.ensures
          ∙ ap (λ (part : List ℕ). from_be_bytes w64 (put_mid from (8 - from) zeros part)) c.copy_from_slice.ensures.after
          ∙ spelled_behind bs c.requires;
      bytes = all_bytes bs (λ i. omega (arith, c.type_inv.bytes i));
    }
