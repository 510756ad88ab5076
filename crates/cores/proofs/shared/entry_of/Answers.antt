use Rattle.std.proofs.Common.{◌≡◌, sym, arith}
use Rattle.formats.proofs.Records.{entry_again}
use Rattle.cores.proofs.shared.entry_of.Goals as goal

pub returns : goal.returns
returns c =
    let same : c.unwrap.result.value ≡ c.args.count = grind (arith, c.new.ensures) in
    rw (← same) (sym (entry_again (record { core = c.args.me; mark = c.args.mark; count = c.unwrap.result })))
