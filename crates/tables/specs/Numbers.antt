-- Numbers are decimal, without sign or leading zeros.
use Rattle.std.specs.Prelude.{Bool, false, if◌then◌else◌, not, ◌&&◌, ◌||◌, ◌==◌, nat_lt, List, [], ◌∷◌, ℕ, ◌+◌, ◌-◌, ◌*◌, ◌^◌, min, length, Option, Some, None}
use Rattle.std.specs.Char.{is_ascii_digit}
use Rattle.std.specs.Str.{all_ascii_digits}

-- digits, one at least, and only one if the first is 0
abbrev pub spelled : List ℕ → Bool
spelled [] = false
spelled (byte ∷ bytes) = all_ascii_digits (byte ∷ bytes) && (not (byte == 48) || length bytes == 0)

-- the number that digits spell after those of a number
abbrev pub value_after : ℕ → List ℕ → ℕ
value_after number [] = number
value_after number (byte ∷ bytes) = value_after (10 * number + (byte - 48)) bytes

abbrev pub value_of : List ℕ → ℕ
value_of field = value_after 0 field

-- what a field holds is a number below a limit
abbrev pub number_below : ℕ → List ℕ → Bool
number_below limit field = spelled field && nat_lt (value_of field) limit

-- the 32-bit number that a field holds
abbrev pub number_in : List ℕ → Option ℕ
number_in field = (if number_below (2 ^ 32) field then Some (value_of field) else None)

-- in the machine: the digits in front of a text read on after a number, as far as 32 bits hold it
abbrev pub read_digits : ℕ → List ℕ → ℕ
read_digits value [] = value
read_digits value (byte ∷ text) = (if is_ascii_digit byte then read_digits (min (10 * value + (byte - 48)) (2 ^ 32)) text else value)
