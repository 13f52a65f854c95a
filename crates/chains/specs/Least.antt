-- The least value of the numbers whose chain leads to a number, in two wordings.
use Rattle.std.specs.Prelude.{◌≡◌, Bool, cond, ℕ, zero, suc, ◌<◌, min}
use Rattle.std.proofs.Math.Option.{Option, some}
use Rattle.lists.specs.Test.{holds}
use Rattle.lists.specs.Count.{member}
use Rattle.chains.specs.Chain.{walk}

-- the least of d and the values of f at the numbers below n that pass the test
unfoldable pub least : ℕ → (ℕ → Bool) → (ℕ → ℕ) → ℕ → ℕ
least zero p f d = d
least (suc n) p f d = cond (p n) (min (f n) (least n p f d)) (least n p f d)

-- i stands on the chain from j, j itself included
unfoldable pub leads_to : ℕ → (ℕ → Option ℕ) → ℕ → ℕ → Bool
leads_to n next j i = member i (walk n next (some j))

-- the least own value among i and the numbers below n whose chain leads to i
unfoldable pub least_leading : ℕ → (ℕ → Option ℕ) → (ℕ → ℕ) → ℕ → ℕ
least_leading n next own i = least n (λ j. leads_to n next j i) own (own i)

-- f is, at each i below n, the least of i's own value and of f at the numbers whose next is i
abbrev pub Recursive : ℕ → (ℕ → Option ℕ) → (ℕ → ℕ) → (ℕ → ℕ) → Type 0
Recursive n next own f = (i : ℕ) → i < n → f i ≡ least n (λ k. holds (next k) i) f (own i)
