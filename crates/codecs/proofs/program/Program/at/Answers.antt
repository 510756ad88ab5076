use Rattle.std.proofs.Common.{◌≡◌, rules}
use Rattle.codecs.specs.Programs.{instruction_in}
use Rattle.codecs.proofs.Programs.{halt_past, jumps_below}
use Rattle.codecs.proofs.program.Program.at.Goals as goal

pub returns-clause-targets : goal.returns-clause-targets
returns-clause-targets c =
    let is = c.args.self.now in
    let pc = c.args.pc in
    let found : c.copied.result ≡ instruction_in is pc = search rules in
    rw (c.unwrap_or.ensures, found, halt_past is pc) (jumps_below is pc c.as_slice.ensures.accepted)
