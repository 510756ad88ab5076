use Rattle.std.proofs.Common.{string_bytes, rules}
use Rattle.console.proofs.Spaced.{numbers_text}
use Rattle.console.proofs.replies.status_reply.Goals as goal

pub returns : goal.returns
returns c =
    let registers = numbers_text c.in-Some.status.registers (string_bytes c.in_ok-registers.registers) c.in_ok-registers.ensures in
    search rules
