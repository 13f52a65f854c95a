-- Reading a decimal number: "decimal, no sign, no needless leading zero, at most 4294967295".
use Rattle.std.specs.Prelude.{ℕ, ◌+◌, ◌-◌, ◌*◌, List, [], ◌∷◌, Option, Some, None, option_and_then, cond, ltb, eqb}
use Rattle.decimal.specs.Decimal.{zero_byte}

-- the greatest 32-bit number
abbrev pub most : ℕ
most = 4294967295

-- the ASCII byte of the digit 9
abbrev pub nine_byte : ℕ
nine_byte = 57

-- n with the digit c after it
abbrev pub appended : ℕ → ℕ → ℕ
appended n c = n * 10 + (c - zero_byte)

-- the same where c is a digit and the number at most the greatest
unfoldable pub with_digit : ℕ → ℕ → Option ℕ
with_digit n c = cond (ltb c zero_byte) None (cond (ltb nine_byte c) None (cond (ltb most (appended n c)) None (Some (appended n c))))

-- n with all digits of a list after it
unfoldable pub with_digits : ℕ → List ℕ → Option ℕ
with_digits n [] = Some n
with_digits n (c ∷ cs) = option_and_then (λ m. with_digits m cs) (with_digit n c)

-- a zero stands alone
abbrev pub lone_zero : List ℕ → Option ℕ
lone_zero [] = Some 0
lone_zero (c ∷ cs) = None

-- the number that a list of bytes is in decimal
unfoldable pub parsed : List ℕ → Option ℕ
parsed [] = None
parsed (c ∷ cs) = cond (eqb c zero_byte) (lone_zero cs) (with_digits 0 (c ∷ cs))
