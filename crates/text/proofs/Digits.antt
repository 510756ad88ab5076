-- The number that digits write, if it is not too large.
-- Assumes nothing.
use Rattle.std.proofs.Common.{◌≡◌, ℕ, ◌+◌, ◌*◌, ◌<◌, ◌≤◌, List, length, Err, inl, inr, le-mul_of_pos_right, arith}
use Rattle.std.specs.Char.{is_digit}
use Rattle.std.specs.List.{prefix_len}
use Rattle.std.specs.Option.{ok_or, option_and_then}
use Rattle.std.specs.Str.Parse.{digits_value}
use Rattle.std.proofs.lemmas.Bool.{cases_lt}
use Rattle.std.proofs.lemmas.Bool.Decides.{nat_tests}
use Rattle.text.specs.declared.number.NumberFault.TheVariants.{NoNumber, TooLarge}
use Rattle.text.specs.Numbers.{fitting, read_digits}

-- a number with one digit more
pub more_fitting : (base n d : ℕ) → 1 ≤ base → option_and_then (λ v. fitting (v * base + d)) (fitting n) ≡ fitting (n * base + d)
more_fitting base n d some =
    elim (cases_lt n 4294967296) [
      | inl h ↦ grind (arith, nat_tests)
      | inr h ↦ let near : n ≤ n * base = le-mul_of_pos_right n some in grind (arith, nat_tests)
    ]

-- a byte that is no digit decides
pub no_digits : (base : ℕ) (ds : List ℕ) (i : ℕ) → i < length ds → prefix_len (λ b. is_digit b base) ds ≡ i → Err NoNumber ≡ read_digits base ds
no_digits base ds i inside run = grind (arith, nat_tests)

-- digits throughout
pub all_digits : (base : ℕ) (ds : List ℕ) → 0 < length ds → prefix_len (λ b. is_digit b base) ds ≡ length ds → ok_or (fitting (digits_value base ds)) TooLarge ≡ read_digits base ds
all_digits base ds some all = grind (arith, nat_tests)
