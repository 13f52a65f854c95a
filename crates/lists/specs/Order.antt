-- Lists in ascending order of a key: places at the tail and at the head of a key's run, and the stable order.
use Rattle.std.specs.Prelude.{◌≡◌, List, [], ◌∷◌, ◌++◌, Bool, true, cond, not, ℕ, zero, suc, ◌≤◌, ◌<◌, ltb, leb, eqb}
use Rattle.std.proofs.Math.Option.{Option, none, some}
use Rattle.lists.specs.Test.{◌and◌, ◌or◌}
use Rattle.lists.specs.Count.{occ, member}

-- what passes the test, in its order
unfoldable pub keep : (ℕ → Bool) → List ℕ → List ℕ
keep p [] = []
keep p (x ∷ l) = cond (p x) (x ∷ keep p l) (keep p l)

-- the numbers 0 to n - 1
unfoldable pub range : ℕ → List ℕ
range zero = []
range (suc n) = range n ++ (n ∷ [])

-- the numbers below n that pass the test, ascending
unfoldable pub by_id : ℕ → (ℕ → Bool) → List ℕ
by_id n p = keep p (range n)

-- x before the first that passes the test
unfoldable pub place : (ℕ → Bool) → ℕ → List ℕ → List ℕ
place p x [] = x ∷ []
place p x (y ∷ l) = cond (p y) (x ∷ y ∷ l) (y ∷ place p x l)

-- x behind all whose key is at most its own: the tail of its key's run
unfoldable pub insert_tail : (ℕ → ℕ) → ℕ → List ℕ → List ℕ
insert_tail f x = place (λ y. ltb (f x) (f y)) x

-- x before all whose key is at least its own: the head of its key's run
unfoldable pub insert_head : (ℕ → ℕ) → ℕ → List ℕ → List ℕ
insert_head f x = place (λ y. leb (f x) (f y)) x

-- one after another, each at the tail of its key's run
unfoldable pub insert_all : (ℕ → ℕ) → List ℕ → List ℕ → List ℕ
insert_all f [] l = l
insert_all f (x ∷ xs) l = insert_all f xs (insert_tail f x l)

-- in ascending order of the key, equal keys as they stood
unfoldable pub stable : (ℕ → ℕ) → List ℕ → List ℕ
stable f l = insert_all f l []

-- ascending: each key is at most every later one
abbrev pub Asc : (ℕ → ℕ) → List ℕ → Type 0
Asc f [] = Unit
Asc f (x ∷ l) = ((y : ℕ) → 1 ≤ occ y l → f x ≤ f y) × Asc f l

-- ascending, as a test of neighbours
unfoldable pub ascb : (ℕ → ℕ) → List ℕ → Bool
ascb f [] = true
ascb f (x ∷ []) = true
ascb f (x ∷ y ∷ l) = leb (f x) (f y) and ascb f (y ∷ l)

-- equal keys by number
abbrev pub Ties : (ℕ → ℕ) → List ℕ → Type 0
Ties f [] = Unit
Ties f (x ∷ l) = ((y : ℕ) → 1 ≤ occ y l → f x ≡ f y → x < y) × Ties f l

-- equal keys by number, as a test of neighbours
unfoldable pub tiesb : (ℕ → ℕ) → List ℕ → Bool
tiesb f [] = true
tiesb f (x ∷ []) = true
tiesb f (x ∷ y ∷ l) = (not (eqb (f x) (f y)) or ltb x y) and tiesb f (y ∷ l)

-- the first whose key is l
unfoldable pub first_at : (ℕ → ℕ) → ℕ → List ℕ → Option ℕ
first_at f l [] = none
first_at f l (x ∷ xs) = cond (eqb (f x) l) (some x) (first_at f l xs)

unfoldable pub or_else : Option ℕ → Option ℕ → Option ℕ
or_else none r = r
or_else (some x) r = some x

-- the first found going through n keys from l on
unfoldable pub first_from : (ℕ → ℕ) → ℕ → ℕ → List ℕ → Option ℕ
first_from f zero l xs = none
first_from f (suc n) l xs = or_else (first_at f l xs) (first_from f n (suc l) xs)

-- the first of least key, x the best so far
unfoldable pub least_of : (ℕ → ℕ) → ℕ → List ℕ → ℕ
least_of f x [] = x
least_of f x (y ∷ l) = cond (ltb (f y) (f x)) (least_of f y l) (least_of f x l)

-- the first of least key
unfoldable pub least_first : (ℕ → ℕ) → List ℕ → Option ℕ
least_first f [] = none
least_first f (x ∷ l) = some (least_of f x l)

-- up to the first x, without it
unfoldable pub before : ℕ → List ℕ → List ℕ
before x [] = []
before x (y ∷ l) = cond (eqb y x) [] (y ∷ before x l)

-- x stands before y. Where x doesn't stand in the list that is false, and where y doesn't it asks for x alone
abbrev pub stands_before : ℕ → ℕ → List ℕ → Bool
stands_before x y l = member x (before y l)

-- every number of the list is below n
unfoldable pub inside : ℕ → List ℕ → Bool
inside n [] = true
inside n (x ∷ l) = ltb x n and inside n l
