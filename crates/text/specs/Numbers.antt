-- Tokens as numbers and as bytes.
-- Assumes nothing.
use Rattle.std.specs.Prelude.{ℕ, ◌+◌, ◌*◌, ◌/◌, ◌%◌, ◌^◌, Bool, ◌&&◌, ◌==◌, if◌then◌else◌, nat_lt, List, [], map, length, drop, slice_index}
use Rattle.std.specs.Prelude.{Some, None, Ok, Err, Option, Result}
use Rattle.std.specs.List.{range_with_len, prefix_len}
use Rattle.std.specs.Str.Parse.{digits_value}
use Rattle.std.specs.Char.{digit_value, is_digit}
use Rattle.text.specs.declared.number.NumberFault.{NumberFault}
use Rattle.text.specs.declared.number.NumberFault.TheVariants.{NoNumber, TooLarge}

-- every byte passes the test
abbrev pub throughout : (ℕ → Bool) → List ℕ → Bool
throughout test bs = prefix_len test bs == length bs

-- a number that 32 bits hold
abbrev pub fitting : ℕ → Option ℕ
fitting n = if nat_lt n (2 ^ 32) then Some n else None

-- what digits write in a base: first each has to be a digit, and then the number has to fit
abbrev pub read_digits : ℕ → List ℕ → Result ℕ NumberFault
read_digits base ds =
    if nat_lt 0 (length ds) && throughout (λ b. is_digit b base) ds
    then (if nat_lt (digits_value base ds) (2 ^ 32) then Ok (digits_value base ds) else Err TooLarge)
    else Err NoNumber

-- the token begins with 0x
abbrev pub hexadecimal : List ℕ → Bool
hexadecimal token = slice_index token 0 == 48 && slice_index token 1 == 120

-- the number that a token writes: hexadecimal after 0x, else decimal
abbrev pub read_number : List ℕ → Result ℕ NumberFault
read_number token =
    if hexadecimal token then read_digits 16 (drop 2 token) else read_digits 10 token

-- the i-th byte of a token of pairs of hexadecimal digits
abbrev pub byte_at : List ℕ → ℕ → ℕ
byte_at token i = digit_value (slice_index token (2 * i)) * 16 + digit_value (slice_index token (2 * i + 1))

-- the token is a single -
abbrev pub dash : List ℕ → Bool
dash token = length token == 1 && slice_index token 0 == 45

-- the token is pairs of hexadecimal digits
abbrev pub pairs : List ℕ → Bool
pairs token = length token % 2 == 0 && throughout (λ b. is_digit b 16) token

-- the bytes that pairs write, if the token is some
abbrev pub read_pairs : List ℕ → Option (List ℕ)
read_pairs token =
    if pairs token then Some (map (byte_at token) (range_with_len 0 (length token / 2))) else None

-- the bytes that a token writes, if it writes some
abbrev pub read_bytes : List ℕ → Option (List ℕ)
read_bytes token = if dash token then Some [] else read_pairs token
