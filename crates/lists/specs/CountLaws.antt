-- Laws of counts; distinct numbers below n are at most n.
use Rattle.std.specs.Prelude.{◌≡◌, refl, List, [], ◌∷◌, ◌++◌, ℕ, zero, suc, ◌+◌, ◌≤◌, ◌<◌, length, get_or}
use Rattle.std.proofs.Common.{ap, arith, lt-ltb, le-ltb, eq-eqb, ne_eqb}
use Rattle.std.proofs.Math.Option.{Option, none, some}
use Rattle.std.proofs.Math.Decide.{ℕ_discrete, dec_lt}
use Rattle.lists.specs.Count.{eqn, occ, below, opt}

pub eqn_at : (x y : ℕ) → x ≡ y → eqn x y ≡ 1
unfolding eqn
eqn_at x y e = rw (eq-eqb x y e) refl

pub eqn_other : (x y : ℕ) → (x ≡ y → ⊥) → eqn x y ≡ 0
unfolding eqn
eqn_other x y h = rw (ne_eqb x y h) refl

pub occ_append : (y : ℕ) (s t : List ℕ) → occ y (s ++ t) ≡ occ y s + occ y t
unfolding occ
occ_append y [] t = omega arith
occ_append y (x ∷ s) t = omega (arith, occ_append y s t)

pub occ_head : (x : ℕ) (l : List ℕ) → 1 ≤ occ x (x ∷ l)
unfolding occ
occ_head x l = omega (arith, eqn_at x x refl)

pub occ_opt : (o : Option ℕ) (i : ℕ) → o ≡ some i → occ i (opt o) ≡ 1
unfolding occ
occ_opt o i e = rw e (omega (arith, eqn_at i i refl))

pub occ_opt_other : (o : Option ℕ) (i : ℕ) → (o ≡ some i → ⊥) → occ i (opt o) ≡ 0
unfolding occ
occ_opt_other none i h = refl
occ_opt_other (some r) i h = omega (arith, eqn_other r i (λ e. h (ap some e)))

pub below_in : (i n : ℕ) → i < n → below i n ≡ 1
unfolding below
below_in i n h = rw (lt-ltb i n h) refl

pub below_out : (i n : ℕ) → n ≤ i → below i n ≡ 0
unfolding below
below_out i n h = rw (le-ltb i n h) refl

pub in_below : (i n : ℕ) → 1 ≤ below i n → i < n
in_below i n h = elim (dec_lt i n) [ yes q ↦ q | no q ↦ absurd (omega (arith, below_out i n (omega arith))) ]

pub below_le : (i n : ℕ) → below i n ≤ 1
below_le i n = elim (dec_lt i n) [ yes q ↦ omega (arith, below_in i n q) | no q ↦ omega (arith, below_out i n (omega arith)) ]

pub below_suc : (i n : ℕ) → below i (suc n) ≡ below i n + eqn n i
below_suc i n = elim (ℕ_discrete n i) [
  | yes e ↦ omega (arith, eqn_at n i e, below_in i (suc n) (omega arith), below_out i n (omega arith))
  | no q ↦ elim (dec_lt i n) [
    | yes h ↦ omega (arith, eqn_other n i q, below_in i (suc n) (omega arith), below_in i n h)
    | no h ↦ omega (arith, eqn_other n i q, below_out i (suc n) (omega arith), below_out i n (omega arith))
  ]
]

-- the numbers below n that stand in l, each counted as often as it stands there
total : ℕ → List ℕ → ℕ
total zero l = 0
total (suc n) l = occ n l + total n l

total_nil : (n : ℕ) → total n [] ≡ 0
unfolding total occ
total_nil zero = refl
total_nil (suc n) = omega (arith, total_nil n)

total_out : (n x : ℕ) (l : List ℕ) → n ≤ x → total n (x ∷ l) ≡ total n l
unfolding total occ
total_out zero x l h = refl
total_out (suc n) x l h = omega (arith, total_out n x l (omega arith), eqn_other x n (λ e. omega arith))

total_cons : (n x : ℕ) (l : List ℕ) → x < n → total n (x ∷ l) ≡ suc (total n l)
unfolding total occ
total_cons zero x l h = absurd (omega arith)
total_cons (suc n) x l h = elim (ℕ_discrete x n) [
  | yes e ↦ omega (arith, total_out n x l (omega arith), eqn_at x n e)
  | no e ↦ omega (arith, total_cons n x l (omega arith), eqn_other x n e)
]

total_length : (n : ℕ) (l : List ℕ) → ((y : ℕ) → 1 ≤ occ y l → y < n) → total n l ≡ length l
unfolding occ
total_length n [] h = total_nil n
total_length n (x ∷ l) h = omega (arith, total_cons n x l (h x (occ_head x l)), total_length n l (λ y m. h y (omega arith)))

total_le : (n : ℕ) (l : List ℕ) → ((y : ℕ) → occ y l ≤ 1) → total n l ≤ n
unfolding total
total_le zero l h = omega arith
total_le (suc n) l h = omega (arith, total_le n l h, h n)

-- distinct numbers below n are at most n
pub pigeonhole : (n : ℕ) (l : List ℕ) → ((y : ℕ) → occ y l ≤ 1) → ((y : ℕ) → 1 ≤ occ y l → y < n) → length l ≤ n
pigeonhole n l d b = omega (arith, total_length n l b, total_le n l d)

-- what stands at a place stands in the list
occ_at : (l : List ℕ) (i : ℕ) → i < length l → 1 ≤ occ (get_or l i 0) l
unfolding occ
occ_at [] i h = absurd (omega arith)
occ_at (x ∷ l) zero h = occ_head x l
occ_at (x ∷ l) (suc i) h = omega (arith, occ_at l i (omega arith))

-- what stands in a list once stands at one place only
pub one_place : (l : List ℕ) → ((y : ℕ) → occ y l ≤ 1) → (i j : ℕ) → i < length l → j < length l → get_or l i 0 ≡ get_or l j 0 → i ≡ j
unfolding occ
one_place [] d i j h k e = absurd (omega arith)
one_place (x ∷ l) d zero zero h k e = refl
one_place (x ∷ l) d zero (suc j) h k e = absurd (omega (arith, d x, occ_at l j (omega arith), eqn_at x x refl, ap (λ y. occ y l) e))
one_place (x ∷ l) d (suc i) zero h k e = absurd (omega (arith, d x, occ_at l i (omega arith), eqn_at x x refl, ap (λ y. occ y l) e))
one_place (x ∷ l) d (suc i) (suc j) h k e = ap suc (one_place l (λ y. omega (arith, d y)) i j (omega arith) (omega arith) e)
