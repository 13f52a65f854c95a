-- Tables as lists: changed by their places, with unused places, and filled by a function.
use Rattle.std.specs.Prelude.{List, [], ◌∷◌, ◌++◌, Bool, cond, ℕ, zero, suc, ◌-◌, length, replicate}

-- each element changed by a function of its place
unfoldable pub edit : {A : Type 0} → (ℕ → A → A) → List A → List A
edit f [] = []
edit f (x ∷ l) = f 0 x ∷ edit (λ i. f (suc i)) l

-- at the places that pass the test, what v gives for the place
abbrev pub put_where : {A : Type 0} → (ℕ → Bool) → (ℕ → A) → List A → List A
put_where p v l = edit (λ i x. cond (p i) (v i) x) l

-- a table of n places whose first ones hold l; d stands in the unused ones
unfoldable pub pad : {A : Type 0} → ℕ → A → List A → List A
pad n d l = l ++ replicate (n - length l) d

-- the table of what f gives for the places 0 to n - 1
unfoldable pub filled : {A : Type 0} → ℕ → (ℕ → A) → List A
filled zero f = []
filled (suc n) f = filled n f ++ (f n ∷ [])
