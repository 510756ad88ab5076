use Rattle.std.proofs.Common.{◌≡◌, ℕ, ltb, true, false, Option, Some, None, List, length, get_or, sym, ap, ◌∙◌, arith}
use Rattle.std.proofs.lemmas.Bool.{le-ltb}
use Rattle.std.specs.Borrow.{Bor}
use Rattle.std.specs.Option.{ok_or, option_copied}
use Rattle.std.specs.Slice.{IsItemAt}
use Rattle.memory.specs.Shared.{word_at}
use Rattle.memory.proofs.words.WordMemoryMemory.read.Goals as goal

-- the item at an address, or the refusal of an address outside
found : (ws : List ℕ) (a : ℕ) (r : Option (Bor ℕ)) → IsItemAt ws a r → ok_or (option_copied r) (record {}) ≡ word_at ws a
found ws a None at = let t : ltb a (length ws) ≡ false = le-ltb a (length ws) (omega (arith, at.3)) in rw t
found ws a (Some x) at =
    let t : ltb a (length ws) ≡ true = sym at.0 in
    let e : get_or ws a 0 ≡ x.now = sym (at.4 (omega arith) 0) in
    rw (t, e)

pub returns : goal.returns
returns c =
    c.ok_or.ensures.value
    ∙ ap (λ o. ok_or o (record {})) c.copied.ensures
    ∙ found c.words.result.now c.args.address c.get.result c.get.ensures.lookup
    ∙ ap (λ ws. word_at ws c.args.address) c.words.ensures
