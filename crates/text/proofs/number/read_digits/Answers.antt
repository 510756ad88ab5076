use Rattle.std.proofs.Common.{◌≡◌, ◌+◌, ◌*◌, ◌<◌, true, false, Err, ◌≤◌, get_or, take, sym, ap, ◌∙◌, arith, rules, take_all}
use Rattle.std.specs.Option.{ok_or, option_and_then}
use Rattle.std.specs.Str.Parse.{digits_value}
use Rattle.std.specs.Char.{digit_value, is_digit}
use Rattle.std.proofs.lemmas.Int.Digits.{digits_value_more}
use Rattle.std.proofs.lemmas.Bool.Decides.{nat_tests}
use Rattle.std.proofs.lemmas.List.Sums.{prefix_len-drop_yes, prefix_len-drop_no, prefix_len-drop_all}
use Rattle.text.specs.declared.number.NumberFault.TheVariants.{NoNumber, TooLarge}
use Rattle.text.specs.Numbers.{fitting}
use Rattle.text.proofs.Digits.{more_fitting, no_digits, all_digits}
use Rattle.text.proofs.number.read_digits.Goals as goal

pub loop-b-preserved : goal.loop-b-preserved
loop-b-preserved c =
    let base = c.args.base in
    let ds = c.args.digits.now in
    let i = c.loop-b.b-index in
    let is : c.in_ok-digit.digit ≡ digit_value (get_or ds i 0) = search rules in
    let within : digit_value (get_or ds i 0) < base = search rules in
    let passes : is_digit (get_or ds i 0) base ≡ true = grind (arith, nat_tests) in
    let run = prefix_len-drop_yes (λ b. is_digit b base) ds i 0 c.loop-b-test.true passes in
    record {
      digits = omega (arith, c.loop-b.invariant.digits);
      value =
          c.with_digit-value.ensures
          ∙ (λ k. option_and_then (λ n. fitting (n * base + is k)) (c.loop-b.invariant.value k))
          ∙ more_fitting base (digits_value base (take i ds)) (digit_value (get_or ds i 0)) (omega arith)
          ∙ ap fitting (sym (digits_value_more base ds i c.loop-b-test.true));
    }

pub returns-in_err-digit : goal.returns-in_err-digit
returns-in_err-digit c =
    let base = c.args.base in
    let ds = c.args.digits.now in
    let i = c.loop-b.b-index in
    let over : base ≤ digit_value (get_or ds i 0) = search rules in
    let fails : is_digit (get_or ds i 0) base ≡ false = grind (arith, nat_tests) in
    let run = prefix_len-drop_no (λ b. is_digit b base) ds i 0 c.loop-b-test.true fails in
    let is : c.from_residual.result ≡ Err NoNumber = search rules in
    is ∙ no_digits base ds i c.loop-b-test.true (omega (arith, c.loop-b.invariant.digits))

pub returns : goal.returns
returns c =
    let base = c.args.base in
    let ds = c.args.digits.now in
    let i = c.loop-b.b-index in
    let none = prefix_len-drop_all (λ b. is_digit b base) ds i c.loop-b-test.false in
    let value = c.loop-b.invariant.value ∙ ap (λ l. fitting (digits_value base l)) (take_all i ds c.loop-b-test.false) in
    c.ok_or-2.ensures.value ∙ ap (λ o. ok_or o TooLarge) value ∙ all_digits base ds (search rules) (omega (arith, c.loop-b.invariant.digits))
