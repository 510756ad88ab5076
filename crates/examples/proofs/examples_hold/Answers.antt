-- `crate::examples_hold`: the examples hold by computation.
-- Assumes nothing.
use Rattle.std.proofs.Common.{◌≡◌, [], ◌∷◌, Ok, refl, ap}
use Rattle.formats.specs.declared.instruction.Instruction.TheVariants.{Jump}
use Rattle.formats.specs.Belows.{immediate_of}
use Rattle.formats.specs.Bytes.{bytes_of}
use Rattle.formats.proofs.Belows.{same_value}
use Rattle.model.specs.Instructions.{action_at, decision_at}
use Rattle.codecs.specs.Reading.{read_from, read_program}
use Rattle.examples.proofs.examples_hold.Goals as goal

pub returns : goal.returns
unfolding bytes_of read_from action_at decision_at
returns c =
    let loop : read_program (bytes_of 4 0x38000000) ≡ Ok (Jump (immediate_of 0) ∷ []) = ap (λ n. Ok (Jump n ∷ [])) (same_value 262144 (immediate_of 0x38000000) (immediate_of 0) refl) in
    assumption
