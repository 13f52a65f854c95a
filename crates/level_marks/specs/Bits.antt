-- Words as bits: the word of a test, a bit of a word, and the first number that passes a test.
use Rattle.std.specs.Prelude.{Bool, cond, ℕ, zero, suc, ◌+◌, ◌*◌, ◌/◌, ◌%◌, ◌^◌, eqb}

-- the word of k bits in which bit l is set exactly where l passes the test
unfoldable pub word_where : ℕ → (ℕ → Bool) → ℕ
word_where zero p = 0
word_where (suc k) p = word_where k (λ l. p (suc l)) * 2 + cond (p 0) 1 0

-- bit l of a word is set
unfoldable pub is_set : ℕ → ℕ → Bool
is_set word l = eqb (word / 2 ^ l % 2) 1

-- the first number below k that passes the test, k where none does
unfoldable pub first_where : ℕ → (ℕ → Bool) → ℕ
first_where zero p = 0
first_where (suc k) p = cond (p 0) 0 (suc (first_where k (λ l. p (suc l))))
