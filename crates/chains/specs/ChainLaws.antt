-- Laws of chains: they are unique, hold nothing twice, and end after a change from whose places the new chain ends.
use Rattle.std.specs.Prelude.{◌≡◌, List, [], ◌∷◌, true, ◌⊎◌, length}
use Rattle.std.proofs.Math.Path.{refl, ap}
use Rattle.std.proofs.Common.{sym, subst, ◌∙◌, inl, inr}
use Rattle.std.proofs.Math.Option.{Option, none, some}
use Prim.Native.Nat.{ℕ, zero, suc, ◌+◌, ◌≤◌, ◌<◌}
use native.Mathlib.Omega.{arith}
use Rattle.std.proofs.Math.Decide.{ℕ_discrete, dec_le}
use Rattle.lists.specs.Count.{occ}
use Rattle.lists.specs.Order.{before}
use Rattle.lists.specs.TestLaws.{clash}
use Rattle.lists.specs.CountLaws.{eqn_at, eqn_other, occ_head, pigeonhole}
use Rattle.lists.specs.OrderLaws.{occ_before, before_without}
use Rattle.chains.specs.Chain.{Chain, end, link, Ends, From, here, on, walk, endsb, Ended}

module _ {next : ℕ → Option ℕ} where
  pub chain_walk : {o : Option ℕ} {l : List ℕ} → Chain next o l → (f : ℕ) → length l ≤ f → walk f next o ≡ l
  unfolding walk
  chain_walk end zero h = refl
  chain_walk end (suc f) h = refl
  chain_walk (link c) zero h = absurd (omega arith)
  chain_walk (link {i = i} c) (suc f) h = ap (i ∷◌) (chain_walk c f (omega arith))

  chain_unique : {o : Option ℕ} {l l' : List ℕ} → Chain next o l → Chain next o l' → l ≡ l'
  chain_unique {l = l} {l' = l'} c d =
      sym (chain_walk c (length l + length l') (omega arith)) ∙ chain_walk d (length l + length l') (omega arith)

  pub mem_from : {o : Option ℕ} {l : List ℕ} → Chain next o l → (k : ℕ) → 1 ≤ occ k l → From next o k
  unfolding occ
  mem_from end k h = absurd (omega arith)
  mem_from (link {i = i} c) k h = elim (ℕ_discrete i k) [
    | yes e ↦ rw e here
    | no n ↦ on (mem_from c k (omega (arith, eqn_other i k n)))
  ]

  pub from_mem : {o : Option ℕ} {l : List ℕ} {k : ℕ} → Chain next o l → From next o k → 1 ≤ occ k l
  unfolding occ
  from_mem end g = elim g [ ]
  from_mem (link {i = i} c) here = omega (arith, eqn_at i i refl)
  from_mem (link c) (on g) = omega (arith, from_mem c g)

  suffix : {o : Option ℕ} {l : List ℕ} {k : ℕ} → Chain next o l → From next o k → (l' : List ℕ) × Chain next (some k) l' × (length l' ≤ length l)
  suffix end g = elim g [ ]
  suffix (link {i = i} {l = l} c) here = (i ∷ l, link c, omega arith)
  suffix (link c) (on g) = let r = suffix c g in (r.0, r.1, omega arith)

  -- a chain that ends does not come back to where it began
  pub no_ring : {k : ℕ} {l : List ℕ} → Chain next (some k) l → From next (next k) k → ⊥
  no_ring (link {i = k} {l = l} c) g = let r = suffix c g in omega (arith, ap length (chain_unique r.1 (link c)))

  not_again : (i : ℕ) {l : List ℕ} → Chain next (next i) l → occ i l ≡ 0
  not_again i {l} c = elim (dec_le 1 (occ i l)) [ yes m ↦ absurd (no_ring (link c) (mem_from c i m)) | no m ↦ omega arith ]

  pub distinct : {o : Option ℕ} {l : List ℕ} → Chain next o l → (y : ℕ) → occ y l ≤ 1
  unfolding occ
  distinct end y = omega arith
  distinct (link {i = i} {l = l} c) y = elim (ℕ_discrete i y) [
    | yes e ↦ subst (λ (z : ℕ). occ z (i ∷ l) ≤ 1) e (omega (arith, not_again i c, eqn_at i i refl))
    | no n ↦ omega (arith, distinct c y, eqn_other i y n)
  ]

  chain_bound : (n : ℕ) → ((i j : ℕ) → next i ≡ some j → j < n) → {o : Option ℕ} {l : List ℕ} → Chain next o l
      → ((j : ℕ) → o ≡ some j → j < n) → (y : ℕ) → 1 ≤ occ y l → y < n
  unfolding occ
  chain_bound n b end h y m = absurd (omega arith)
  chain_bound n b (link {i = i} c) h y m = elim (ℕ_discrete i y) [
    | yes e ↦ omega (arith, h i refl)
    | no q ↦ chain_bound n b c (b i) y (omega (arith, eqn_other i y q))
  ]

  pub chain_short : (n : ℕ) → ((i j : ℕ) → next i ≡ some j → j < n) → {o : Option ℕ} {l : List ℕ} → Chain next o l
      → ((j : ℕ) → o ≡ some j → j < n) → length l ≤ n
  chain_short n b {l = l} c h = pigeonhole n l (distinct c) (chain_bound n b c h)

  -- without one number below n, the chain has at most n - 1
  pub before_short : (n r : ℕ) → r < n → ((i j : ℕ) → next i ≡ some j → j < n) → {o : Option ℕ} {l : List ℕ} → Chain next o l
      → ((j : ℕ) → o ≡ some j → j < n) → length (before r l) < n
  unfolding occ
  before_short n r h b {l = l} c k = pigeonhole n (r ∷ before r l)
      (λ y. elim (ℕ_discrete r y) [
        | yes e ↦ subst (λ (z : ℕ). occ z (r ∷ before r l) ≤ 1) e (omega (arith, eqn_at r r refl, before_without r l))
        | no q ↦ omega (arith, eqn_other r y q, occ_before r y l, distinct c y)
      ])
      (λ y m. elim (ℕ_discrete r y) [
        | yes e ↦ omega arith
        | no q ↦ chain_bound n b c k y (omega (arith, eqn_other r y q, occ_before r y l))
      ])

  pub from_snoc : {o : Option ℕ} {k i : ℕ} → From next o k → next k ≡ some i → From next o i
  from_snoc {k} {i} here e = on {i = k} {k = i} (rw e here)
  from_snoc (on g) e = on (from_snoc g e)

  -- the last link
  pub from_last : {o : Option ℕ} {i : ℕ} → From next o i → (o ≡ some i) ⊎ ((k : ℕ) × From next o k × (next k ≡ some i))
  from_last here = inl refl
  from_last (on {i = j} g) = elim (from_last g) [
    | inl e ↦ inr (j, here, e)
    | inr r ↦ inr (r.0, on r.1, r.2)
  ]

  -- where the chain from o has a number, o is one
  pub from_some : {o : Option ℕ} {i : ℕ} → From next o i → (j : ℕ) × (o ≡ some j)
  from_some (here {k = k}) = (k, refl)
  from_some (on {i = j} g) = (j, refl)

  -- the test of an end
  pub ends_true : (f : ℕ) (o : Option ℕ) → endsb f next o ≡ true → Ends next o
  unfolding endsb
  ends_true zero none e = ([], end)
  ends_true zero (some i) e = absurd (clash e refl)
  ends_true (suc f) none e = ([], end)
  ends_true (suc f) (some i) e = let r = ends_true f (next i) e in (i ∷ r.0, link r.1)

  pub true_ends : {o : Option ℕ} {l : List ℕ} → Chain next o l → (f : ℕ) → length l ≤ f → endsb f next o ≡ true
  unfolding endsb
  true_ends end zero h = refl
  true_ends end (suc f) h = refl
  true_ends (link c) zero h = absurd (omega arith)
  true_ends (link c) (suc f) h = true_ends c f (omega arith)

-- the chain from nobody ends
pub ends_none : (next : ℕ → Option ℕ) (f : ℕ) → endsb f next none ≡ true
unfolding endsb
ends_none next zero = refl
ends_none next (suc f) = refl

pub walk_none : (next : ℕ → Option ℕ) (f : ℕ) → walk f next none ≡ []
unfolding walk
walk_none next zero = refl
walk_none next (suc f) = refl

-- the fuel n cuts no chain of a map among the numbers below n
module _ {n : ℕ} {next : ℕ → Option ℕ} (s : Ended n next) where
  pub walk_is_chain : (o : Option ℕ) → ((j : ℕ) → o ≡ some j → j < n) → Chain next o (walk n next o)
  unfolding walk
  walk_is_chain none h = rw (chain_walk {next = next} end n (omega arith)) end
  walk_is_chain (some i) h = rw (chain_walk (s.ends i).1 n (chain_short n s.to (s.ends i).1 h)) (s.ends i).1

  pub walk_short : (r : ℕ) (o : Option ℕ) → r < n → ((j : ℕ) → o ≡ some j → j < n) → length (before r (walk n next o)) < n
  walk_short r o k h = before_short n r k s.to (walk_is_chain o h) h

-- a step changes the map at some places, from each of which the new chain ends
module _ {next next' : ℕ → Option ℕ} where
  pub ends_change : ((x : ℕ) → (next' x ≡ next x) ⊎ Ends next' (next' x)) → {o : Option ℕ} {l : List ℕ} → Chain next o l → Ends next' o
  ends_change h end = ([], end)
  ends_change h (link {i = i} c) = elim (h i) [
    | inl e ↦ (let r = ends_change h c in (i ∷ r.0, link {i = i} {l = r.0} (rw e r.1)))
    | inr r ↦ (i ∷ r.0, link r.1)
  ]

  chain_same : {o : Option ℕ} {l : List ℕ} → Chain next o l → ((x : ℕ) → 1 ≤ occ x l → next' x ≡ next x) → Chain next' o l
  unfolding occ
  chain_same end h = end
  chain_same (link {i = i} {l = l} c) h = link {i = i} {l = l} (rw (h i (occ_head i l)) (chain_same c (λ x m. h x (omega arith))))

  -- a begins to wait for what b owns, and b's chain does not come to a
  pub ends_wait : (a b : ℕ) → next' a ≡ some b → ((x : ℕ) → (x ≡ a → ⊥) → next' x ≡ next x)
      → {l : List ℕ} → Chain next (some b) l → occ a l ≡ 0 → {o : Option ℕ} {k : List ℕ} → Chain next o k → Ends next' o
  ends_wait a b at other {l} c clear = ends_change (λ x. elim (ℕ_discrete x a) [
    | yes e ↦ inr (rw (e, at) (l, chain_same c (λ y m. other y (λ q. absurd (omega (arith, away q m))))))
    | no n ↦ inl (other x n)
  ])
    where
      away : {y : ℕ} → y ≡ a → 1 ≤ occ y l → 1 ≤ 0
      away q m = omega (arith, ap (λ z. occ z l) q)

  -- w waits for nobody, and others wait for w
  pub ends_pass : (w : ℕ) → next' w ≡ none → ((x : ℕ) → (next' x ≡ next x) ⊎ (next' x ≡ some w))
      → {o : Option ℕ} {k : List ℕ} → Chain next o k → Ends next' o
  ends_pass w at each = ends_change (λ x. elim (each x) [
    | inl e ↦ inl e
    | inr e ↦ inr (rw e (w ∷ [], link {i = w} {l = []} (rw at end)))
  ])

  -- some wait for nobody any more
  pub ends_drop : ((x : ℕ) → (next' x ≡ next x) ⊎ (next' x ≡ none)) → {o : Option ℕ} {k : List ℕ} → Chain next o k → Ends next' o
  ends_drop each = ends_change (λ x. elim (each x) [ inl e ↦ inl e | inr e ↦ inr (rw e ([], end)) ])
