-- Who stands before whom: in what a test keeps, behind and ahead of others, by number, and in the stable order.
use Rattle.std.specs.Prelude.{◌≡◌, Bool, true, ℕ, zero, suc, ◌≤◌, ◌<◌, ltb, eqb}
use Rattle.std.proofs.Math.Path.{refl, ap, sym}
use Rattle.std.proofs.Common.{◌∙◌}
use mathlib.Core.List.{List, [], ◌∷◌, ◌++◌, append-nil, append_assoc}
use Rattle.std.proofs.Math.Logic.{inl, inr}
use native.Mathlib.Omega.{arith}
use Rattle.std.proofs.Math.Decide.{ℕ_discrete}
use borrow.Author.Tests.{ltb-true, eqb-true, lt-ltb, le-ltb, eq-eqb, ne_eqb}
use Rattle.lists.specs.Count.{occ}
use Rattle.lists.specs.Order.{keep, range, place, insert_tail, insert_all, stable, before, stands_before, Asc}
use Rattle.lists.specs.TestLaws.{which, clash}
use Rattle.lists.specs.CountLaws.{eqn_at, eqn_other, below_in, below_out}
use Rattle.lists.specs.OrderLaws.{asc_first, asc_insert_tail, occ_range, occ_before, before_without, keep_none, keep_append}

-- two that a test keeps stand as they stood
module _ (x y : ℕ) where
  before_keep : (p : ℕ → Bool) → p x ≡ true → p y ≡ true → (l : List ℕ) → occ x (before y (keep p l)) ≡ occ x (before y l)
  unfolding keep before occ
  before_keep p hx hy [] = refl
  before_keep p hx hy (z ∷ l) = elim (which (p z)) [
    | inl e ↦ rw e (elim (ℕ_discrete z y) [
      | yes q ↦ rw (eq-eqb z y q) refl
      | no q ↦ rw (ne_eqb z y q) (omega (arith, before_keep p hx hy l))
    ])
    | inr e ↦ rw (e, ne_eqb z y (λ q. clash hy (rw q at e))) (omega (arith, before_keep p hx hy l, eqn_other z x (λ q. clash hx (rw q at e))))
  ]

  pub stands_kept : (p : ℕ → Bool) → p x ≡ true → p y ≡ true → (l : List ℕ) → stands_before x y (keep p l) ≡ stands_before x y l
  stands_kept p hx hy l = ap (ltb 0) (before_keep p hx hy l)

  -- behind others
  before_behind : (k l : List ℕ) → occ x k ≡ 0 → occ y k ≡ 0 → occ x (before y (k ++ l)) ≡ occ x (before y l)
  unfolding before occ
  before_behind [] l hx hy = refl
  before_behind (z ∷ k) l hx hy = elim (ℕ_discrete z y) [
    | yes q ↦ absurd (omega (arith, hy, eqn_at z y q))
    | no q ↦ rw (ne_eqb z y q) (omega (arith, before_behind k l (omega arith) (omega arith)))
  ]

  pub stands_behind : (k l : List ℕ) → occ x k ≡ 0 → occ y k ≡ 0 → stands_before x y (k ++ l) ≡ stands_before x y l
  stands_behind k l hx hy = ap (ltb 0) (before_behind k l hx hy)

  before_ahead : (k l : List ℕ) → occ y k ≡ 0 → occ x k ≤ occ x (before y (k ++ l))
  unfolding before occ
  before_ahead [] l hy = omega arith
  before_ahead (z ∷ k) l hy = elim (ℕ_discrete z y) [
    | yes q ↦ absurd (omega (arith, hy, eqn_at z y q))
    | no q ↦ rw (ne_eqb z y q) (omega (arith, before_ahead k l (omega arith)))
  ]

  pub stands_ahead : (k l : List ℕ) → 1 ≤ occ x k → occ y k ≡ 0 → stands_before x y (k ++ l) ≡ true
  stands_ahead k l hx hy = lt-ltb 0 (occ x (before y (k ++ l))) (omega (arith, before_ahead k l hy))

  -- ahead of others
  before_front : (k l : List ℕ) → 1 ≤ occ y k → before y (k ++ l) ≡ before y k
  unfolding before occ
  before_front [] l hy = absurd (omega arith)
  before_front (z ∷ k) l hy = elim (ℕ_discrete z y) [
    | yes q ↦ rw (eq-eqb z y q) refl
    | no q ↦ rw (ne_eqb z y q) (ap (z ∷◌) (before_front k l (omega (arith, hy, eqn_other z y q))))
  ]

  pub stands_front : (k l : List ℕ) → 1 ≤ occ y k → stands_before x y (k ++ l) ≡ stands_before x y k
  stands_front k l hy = ap (λ (s : List ℕ). ltb 0 (occ x s)) (before_front k l hy)

  -- beside another that goes in
  before_place : (p : ℕ → Bool) (z : ℕ) → (z ≡ x → ⊥) → (z ≡ y → ⊥) → (l : List ℕ) → occ x (before y (place p z l)) ≡ occ x (before y l)
  unfolding place before occ
  before_place p z nx ny [] = rw (ne_eqb z y ny) (omega (arith, eqn_other z x nx))
  before_place p z nx ny (u ∷ l) = elim (which (p u)) [
    | inl e ↦ rw (e, ne_eqb z y ny) (omega (arith, eqn_other z x nx))
    | inr e ↦ rw e (elim (ℕ_discrete u y) [
      | yes q ↦ rw (eq-eqb u y q) refl
      | no q ↦ rw (ne_eqb u y q) (omega (arith, before_place p z nx ny l))
    ])
  ]

  pub stands_place : (p : ℕ → Bool) (z : ℕ) → (z ≡ x → ⊥) → (z ≡ y → ⊥) → (l : List ℕ) → stands_before x y (place p z l) ≡ stands_before x y l
  stands_place p z nx ny l = ap (ltb 0) (before_place p z nx ny l)

-- numbers stand by number
pub stands_range : (x y n : ℕ) → x < n → y < n → stands_before x y (range n) ≡ ltb x y
unfolding range
stands_range x y zero hx hy = absurd (omega arith)
stands_range x y (suc n) hx hy = elim (ℕ_discrete y n) [
  | yes e ↦ elim (ℕ_discrete x n) [
    | yes q ↦ le-ltb 0 (occ x (before y (range n ++ (n ∷ [])))) (omega (arith, ap (λ k. occ k (before y (range n ++ (n ∷ [])))) (q ∙ sym e), before_without y (range n ++ (n ∷ [])))) ∙ sym (le-ltb x y (omega arith))
    | no q ↦ stands_ahead x y (range n) (n ∷ []) (omega (arith, occ_range x n, below_in x n (omega arith))) (omega (arith, occ_range y n, below_out y n (omega arith))) ∙ sym (lt-ltb x y (omega arith))
  ]
  | no e ↦ stands_front x y (range n) (n ∷ []) (omega (arith, occ_range y n, below_in y n (omega arith))) ∙ elim (ℕ_discrete x n) [
    | yes q ↦ le-ltb 0 (occ x (before y (range n))) (omega (arith, occ_before y x (range n), occ_range x n, below_out x n (omega arith))) ∙ sym (le-ltb x y (omega arith))
    | no q ↦ stands_range x y n (omega arith) (omega arith)
  ]
]

-- those of one key: who goes in stands behind them where it has that key, else they stay
module _ (f : ℕ → ℕ) (v : ℕ) where
  abbrev run : ℕ → Bool
  run y = eqb (f y) v

  nothing : keep run [] ≡ []
  unfolding keep
  nothing = refl

  above_none : (z : ℕ) (l : List ℕ) → Asc f (z ∷ l) → v < f z → keep run (z ∷ l) ≡ []
  above_none z l a h = keep_none run (z ∷ l) (λ y m. ne_eqb (f y) v (λ e. omega (arith, asc_first f z l a y m)))

  ahead : (x : ℕ) (l : List ℕ) → (run x ≡ true → keep run l ≡ []) → keep run (x ∷ l) ≡ keep run l ++ keep run (x ∷ [])
  unfolding keep
  ahead x l h = elim (which (run x)) [ inl e ↦ rw (e, h e) refl | inr e ↦ rw e (sym (append-nil (keep run l))) ]

  below : (z : ℕ) (k l xs : List ℕ) → keep run k ≡ keep run l ++ keep run xs → keep run (z ∷ k) ≡ keep run (z ∷ l) ++ keep run xs
  unfolding keep
  below z k l xs h = elim (which (run z)) [ inl q ↦ rw q (ap (z ∷◌) h) | inr q ↦ rw q h ]

  tail_kept : (x : ℕ) (l : List ℕ) → Asc f l → keep run (insert_tail f x l) ≡ keep run l ++ keep run (x ∷ [])
  unfolding insert_tail place
  tail_kept x [] a = ahead x [] (λ e. nothing)
  tail_kept x (z ∷ l) a = elim (which (ltb (f x) (f z))) [
    | inl e ↦ rw e (ahead x (z ∷ l) (λ q. above_none z l a (omega (arith, ltb-true (f x) (f z) e, eqb-true (f x) v q))))
    | inr e ↦ rw e (below z _ l (x ∷ []) (tail_kept x l a.1))
  ]

  all_kept : (xs l : List ℕ) → Asc f l → keep run (insert_all f xs l) ≡ keep run l ++ keep run xs
  unfolding insert_all
  all_kept [] l a = sym (ap (λ (s : List ℕ). keep run l ++ s) nothing ∙ append-nil (keep run l))
  all_kept (x ∷ xs) l a = all_kept xs (insert_tail f x l) (asc_insert_tail f x l a)
      ∙ ap (λ (s : List ℕ). s ++ keep run xs) (tail_kept x l a)
      ∙ append_assoc (keep run l) (keep run (x ∷ [])) (keep run xs)
      ∙ ap (λ (s : List ℕ). keep run l ++ s) (sym (keep_append run (x ∷ []) xs))

  -- the stable order keeps the order within a key
  pub stable_kept : (l : List ℕ) → keep run (stable f l) ≡ keep run l
  unfolding stable keep
  stable_kept l = all_kept l [] tt

-- two of one key stand in the stable order as they stood
pub stands_stable : (f : ℕ → ℕ) (x y : ℕ) → f x ≡ f y → (l : List ℕ) → stands_before x y (stable f l) ≡ stands_before x y l
stands_stable f x y e l =
    sym (stands_kept x y (run f (f y)) (eq-eqb (f x) (f y) e) (eq-eqb (f y) (f y) refl) (stable f l))
    ∙ ap (stands_before x y) (stable_kept f (f y) l)
    ∙ stands_kept x y (run f (f y)) (eq-eqb (f x) (f y) e) (eq-eqb (f y) (f y) refl) l
