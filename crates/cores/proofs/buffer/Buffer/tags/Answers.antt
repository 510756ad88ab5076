use Rattle.std.proofs.Common.{◌++◌, length, drop, ap, ◌∙◌, arith}
use Rattle.cores.proofs.Tags.{copied_all, not_copied}
use Rattle.cores.proofs.buffer.Buffer.tags.Goals as goal

pub returns-then-count-list : goal.returns-then-count-list
returns-then-count-list c =
    not_copied c.args.self.now c.args.list.now (omega (arith, c.len-count.ensures.value, ap length c.tagged_addresses-addresses.ensures.value))

pub returns : goal.returns
returns c =
    let listed = c.tagged_addresses-addresses.ensures.value in
    let n = c.len-count.result in
    let put = ap (λ l. l ++ drop n c.args.list.now) (c.copy_from_slice.ensures.after ∙ c.deref.ensures.0 ∙ listed) in
    copied_all c.args.self.now c.args.list.now _ n (c.len-count.ensures.value ∙ ap length listed) put c.tagged_addresses-addresses.ensures.apart (omega arith)
