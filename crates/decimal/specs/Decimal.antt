-- The decimal digits of a number as bytes: no sign, no needless leading zero.
use Rattle.std.specs.Prelude.{ℕ, zero, suc, ◌+◌, ◌/◌, ◌%◌, List, [], ◌∷◌, ◌++◌, cond, ltb}

-- the most digits that a 32-bit number has
abbrev pub max_digits : ℕ
max_digits = 10

-- the ASCII byte of the digit 0
abbrev pub zero_byte : ℕ
zero_byte = 48

-- the ASCII byte of v's last digit
abbrev pub last_digit : ℕ → ℕ
last_digit v = zero_byte + v % 10

-- v's last digits, at most as many as the fuel, with no leading zero
unfoldable pub digits_within : ℕ → ℕ → List ℕ
digits_within zero v = []
digits_within (suc fuel) v = cond (ltb v 10) (last_digit v ∷ []) (digits_within fuel (v / 10) ++ (last_digit v ∷ []))

-- the bytes of a 32-bit number in decimal
unfoldable pub decimal : ℕ → List ℕ
decimal v = digits_within max_digits v
