-- The first found going through the keys is the first of least key.
use Rattle.std.specs.Prelude.{◌≡◌, eqb}
use Rattle.std.proofs.Math.Path.{refl, ap, sym}
use Rattle.std.proofs.Common.{◌∙◌}
use mathlib.Core.List.{List, [], ◌∷◌}
use Rattle.std.proofs.Math.Logic.{inl, inr}
use Rattle.std.proofs.Math.Option.{Option, none, some}
use Prim.Native.Nat.{ℕ, zero, suc, ◌+◌, ◌≤◌, ◌<◌}
use native.Mathlib.Omega.{arith}
use Rattle.std.proofs.Math.Decide.{ℕ_discrete, dec_lt}
use borrow.Author.Tests.{eqb-true, eqb-false, lt-ltb, le-ltb}
use Rattle.lists.specs.Count.{occ}
use Rattle.lists.specs.Order.{first_at, or_else, first_from, least_of, least_first}
use Rattle.lists.specs.TestLaws.{which, none_some, some_same}
use Rattle.lists.specs.CountLaws.{eqn_other, occ_head}

module _ (f : ℕ → ℕ) where
  first_none : (k : ℕ) (l : List ℕ) → first_at f k l ≡ none → (y : ℕ) → 1 ≤ occ y l → f y ≡ k → ⊥
  unfolding first_at occ
  first_none k [] e y m q = omega arith
  first_none k (z ∷ l) e y m q = elim (which (eqb (f z) k)) [
    | inl t ↦ none_some (rw t at e) refl
    | inr t ↦ elim (ℕ_discrete z y) [
      | yes u ↦ eqb-false (f z) k t (ap f u ∙ q)
      | no n ↦ first_none k l (rw t at e) y (omega (arith, eqn_other z y n)) q
    ]
  ]

  -- z stays the best where nothing is better
  least_stay : (z : ℕ) (l : List ℕ) → ((y : ℕ) → 1 ≤ occ y l → f z ≤ f y) → least_of f z l ≡ z
  unfolding least_of occ
  least_stay z [] h = refl
  least_stay z (y ∷ l) h = rw (le-ltb (f y) (f z) (h y (occ_head y l))) (least_stay z l (λ u m. h u (omega arith)))

  -- the first of key k, where k is least, wins over a z of greater key
  least_go : (k x z : ℕ) (l : List ℕ) → k < f z → first_at f k l ≡ some x → ((y : ℕ) → 1 ≤ occ y l → k ≤ f y) → least_of f z l ≡ x
  unfolding least_of first_at occ
  least_go k x z [] h e lo = none_some refl e
  least_go k x z (y ∷ l) h e lo = elim (which (eqb (f y) k)) [
    | inl t ↦ (let q : f y ≡ k = eqb-true (f y) k t in
        rw (lt-ltb (f y) (f z) (omega arith)) (least_stay y l (λ u m. omega (arith, lo u (omega arith))) ∙ some_same (rw t at e)))
    | inr t ↦ (let g : k < f y = omega (arith, lo y (occ_head y l), eqb-false (f y) k t) in elim (dec_lt (f y) (f z)) [
      | yes u ↦ rw (lt-ltb (f y) (f z) u) (least_go k x y l g (rw t at e) (λ v m. lo v (omega arith)))
      | no u ↦ rw (le-ltb (f y) (f z) (omega arith)) (least_go k x z l h (rw t at e) (λ v m. lo v (omega arith)))
    ])
  ]

  first_least : (k x : ℕ) (l : List ℕ) → first_at f k l ≡ some x → ((y : ℕ) → 1 ≤ occ y l → k ≤ f y) → least_first f l ≡ some x
  unfolding least_first first_at occ
  first_least k x [] e lo = none_some refl e
  first_least k x (z ∷ l) e lo = ap some (elim (which (eqb (f z) k)) [
    | inl t ↦ least_stay z l (λ u m. omega (arith, lo u (omega arith), eqb-true (f z) k t)) ∙ some_same (rw t at e)
    | inr t ↦ least_go k x z l (omega (arith, lo z (occ_head z l), eqb-false (f z) k t)) (rw t at e) (λ v m. lo v (omega arith))
  ])

  nobody : (l : List ℕ) → ((y : ℕ) → 1 ≤ occ y l → ⊥) → none ≡ least_first f l
  unfolding least_first
  nobody [] h = refl
  nobody (x ∷ l) h = absurd (h x (occ_head x l))

  from_least : (n k : ℕ) (l : List ℕ) → ((y : ℕ) → 1 ≤ occ y l → k ≤ f y) → ((y : ℕ) → 1 ≤ occ y l → f y < k + n) → first_from f n k l ≡ least_first f l
  unfolding first_from or_else
  from_least zero k l lo hi = nobody l (λ y m. omega (arith, lo y m, hi y m))
  from_least (suc n) k l lo hi = go (first_at f k l) refl (λ none_here. from_least n (suc k) l (λ y m. omega (arith, lo y m, first_none k l none_here y m)) (λ y m. omega (arith, hi y m)))
    where
      go : (o : Option ℕ) → first_at f k l ≡ o → (first_at f k l ≡ none → first_from f n (suc k) l ≡ least_first f l) → or_else o (first_from f n (suc k) l) ≡ least_first f l
      go (some x) e rest = sym (first_least k x l e lo)
      go none e rest = rest e

  -- where all keys are below n
  pub first_is_least : (n : ℕ) (l : List ℕ) → ((y : ℕ) → 1 ≤ occ y l → f y < n) → first_from f n 0 l ≡ least_first f l
  first_is_least n l hi = from_least n 0 l (λ y m. omega arith) (λ y m. omega (arith, hi y m))
