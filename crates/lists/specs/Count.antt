-- How many times a number stands in a list. Exactly one place is then one equation of counts.
use Rattle.std.specs.Prelude.{List, [], ◌∷◌, Bool, cond, ℕ, ◌+◌, ltb, eqb}
use Rattle.std.proofs.Math.Option.{Option, none, some}

-- 1 where the two are equal, else 0
unfoldable pub eqn : ℕ → ℕ → ℕ
eqn x y = cond (eqb x y) 1 0

unfoldable pub occ : ℕ → List ℕ → ℕ
occ y [] = 0
occ y (x ∷ l) = eqn x y + occ y l

abbrev pub member : ℕ → List ℕ → Bool
member i l = ltb 0 (occ i l)

-- 1 where i is below n, else 0
unfoldable pub below : ℕ → ℕ → ℕ
below i n = cond (ltb i n) 1 0

-- the list of what is there
abbrev pub opt : Option ℕ → List ℕ
opt none = []
opt (some i) = i ∷ []
