use Rattle.std.proofs.Common.{◌≡◌, ◌+◌, take, drop}
use Rattle.std.specs.Char.{is_digit}
use Rattle.std.specs.List.{prefix_len}
use Rattle.std.specs.Str.Parse.{digits_value}
use Rattle.text.specs.Numbers.{fitting}
use Rattle.text.proofs.number.read_digits.Given as goal

abbrev pub invariant-loop-b : goal.invariant-loop-b
invariant-loop-b l = record {
  digits : prefix_len (λ b. is_digit b l.base) l.digits ≡ l.b-index + prefix_len (λ b. is_digit b l.base) (drop l.b-index l.digits);
  value : l.value ≡ fitting (digits_value l.base (take l.b-index l.digits));
}
