-- The walks' definitions, step by step as the code takes them.
use mathlib.Core.Path.{◌≡◌, refl, sym, ◌∙◌}
use mathlib.Core.List.{List, [], ◌∷◌}
use mathlib.Core.Bool.{true, false}
use Prim.Native.Nat.{ℕ, zero, suc, ◌+◌, ◌-◌, ◌≤◌, ◌<◌, min}
use native.Mathlib.Omega.{arith}
use native.Mathlib.Numerals.{add-one}
use lib.ListN.{length, get_or, set}
use lib.Seq.{set-get_or}
use borrow.Author.Tests.{lt-ltb, eq-eqb, ne_eqb}
use Rattle.lists.specs.Count.{eqn, occ, member}
use Rattle.lists.specs.Order.{before}
use Rattle.lists.specs.TestLaws.{by_test}
use Rattle.lists.specs.CountLaws.{eqn_at, eqn_other}
use Rattle.chains.specs.Chain.{walk, endsb}
use Rattle.rules.specs.Sizes.{task_places}
use Rattle.walks.specs.Walk.{task_at, next_in, lifted, raised, chain_from, lent, lent_by}
use Rattle.walks.specs.WalkLaws.{task_in, task_out, next_in_lem, get_d_lifted}

-- the chain from an id: spent fuel, no task, and one task more
module _ (next : List ℕ) (at : ℕ) where
  chain_spent : (f : ℕ) → f ≡ 0 → chain_from next at f ≡ []
  unfolding walk
  chain_spent f e = rw e refl

  chain_out : (f : ℕ) → task_places ≤ at → chain_from next at f ≡ []
  unfolding walk
  chain_out zero h = refl
  chain_out (suc f) h = rw (task_out at h) refl

  chain_in : (f : ℕ) → 0 < f → at < task_places → chain_from next at f ≡ at ∷ chain_from next (get_or next at 0) (f - 1)
  unfolding walk
  chain_in zero p h = absurd (omega arith)
  chain_in (suc f) p h =
      let q : suc f - 1 ≡ f = omega arith in rw (task_in at h, q, next_in_lem next at h) refl

  -- what lift leaves
  module _ (levels : List ℕ) (p : ℕ) where
    pub lift_spent : (f : ℕ) → f ≡ 0 → levels ≡ lifted levels p (chain_from next at f)
    unfolding lifted
    lift_spent f e = rw (chain_spent f e) refl

    pub lift_out : (f : ℕ) → task_places ≤ at → levels ≡ lifted levels p (chain_from next at f)
    unfolding lifted
    lift_out f h = rw (chain_out f h) refl

    lift_in : (f : ℕ) → 0 < f → at < task_places
        → lifted levels p (chain_from next at f) ≡ lifted (set levels at (min p (get_or levels at 0))) p (chain_from next (get_or next at 0) (f - 1))
    unfolding lifted
    lift_in f q h = rw (chain_in f q h) refl

    pub raise_lower : p < get_or levels at 0 → set levels at p ≡ set levels at (min p (get_or levels at 0))
    raise_lower h = let e : min p (get_or levels at 0) ≡ p = omega arith in rw e refl

    pub raise_not : get_or levels at 0 ≤ p → levels ≡ set levels at (min p (get_or levels at 0))
    raise_not h = let e : min p (get_or levels at 0) ≡ get_or levels at 0 = omega arith in rw e (sym (set-get_or levels at 0))

    -- one call: the first task of the chain lifted, then the rest
    pub lift_on : (l r : List ℕ) (f : ℕ) → 0 < f → at < task_places → l ≡ set levels at (min p (get_or levels at 0))
        → r ≡ lifted l p (chain_from next (get_or next at 0) (f - 1)) → r ≡ lifted levels p (chain_from next at f)
    lift_on l r f q h e u = u ∙ rw e (sym (lift_in f q h))

  -- what follow finds
  module _ (caller : ℕ) where
    pub links_spent : (f : ℕ) → f ≡ 0 → 0 ≡ length (before caller (chain_from next at f))
    unfolding before
    links_spent f e = rw (chain_spent f e) refl

    pub ring_spent : (f : ℕ) → f ≡ 0 → false ≡ member caller (chain_from next at f)
    unfolding occ
    ring_spent f e = rw (chain_spent f e) refl

    pub links_out : (f : ℕ) → task_places ≤ at → 0 ≡ length (before caller (chain_from next at f))
    unfolding before
    links_out f h = rw (chain_out f h) refl

    pub ring_out : (f : ℕ) → task_places ≤ at → false ≡ member caller (chain_from next at f)
    unfolding occ
    ring_out f h = rw (chain_out f h) refl

    module _ (f : ℕ) (left : 0 < f) (task : at < task_places) where
      pub links_here : at ≡ caller → 0 ≡ length (before caller (chain_from next at f))
      unfolding before
      links_here e = rw (chain_in f left task, eq-eqb at caller e) refl

      pub ring_here : at ≡ caller → true ≡ member caller (chain_from next at f)
      unfolding occ
      ring_here e = rw (chain_in f left task) (sym (lt-ltb 0 (eqn at caller + occ caller (chain_from next (get_or next at 0) (f - 1))) (omega (arith, eqn_at at caller e))))

      pub links_on : (at ≡ caller → ⊥) → length (before caller (chain_from next at f)) ≡ length (before caller (chain_from next (get_or next at 0) (f - 1))) + 1
      unfolding before
      links_on n = rw (chain_in f left task, ne_eqb at caller n, add-one) refl

      pub ring_on : (at ≡ caller → ⊥) → member caller (chain_from next at f) ≡ member caller (chain_from next (get_or next at 0) (f - 1))
      unfolding occ
      ring_on n =
          let q : eqn at caller + occ caller (chain_from next (get_or next at 0) (f - 1)) ≡ occ caller (chain_from next (get_or next at 0) (f - 1)) = omega (arith, eqn_other at caller n) in
          rw (chain_in f left task, q) refl

  -- whether it ends
  pub ends_out : (f : ℕ) → task_places ≤ at → true ≡ endsb f (next_in next) (task_at at)
  unfolding endsb
  ends_out zero h = rw (task_out at h) refl
  ends_out (suc f) h = rw (task_out at h) refl

  pub ends_spent : (f : ℕ) → f ≡ 0 → at < task_places → false ≡ endsb f (next_in next) (task_at at)
  unfolding endsb
  ends_spent f e h = rw (e, task_in at h) refl

  pub ends_in : (f : ℕ) → 0 < f → at < task_places
      → endsb f (next_in next) (task_at at) ≡ endsb (f - 1) (next_in next) (task_at (get_or next at 0))
  unfolding endsb
  ends_in zero p h = absurd (omega arith)
  ends_in (suc f) p h =
      let q : suc f - 1 ≡ f = omega arith in rw (task_in at h, q, next_in_lem next at h) refl

-- levels task by task
pub raised_none : (own next : List ℕ) (n : ℕ) → own ≡ raised own next n 0
unfolding raised
raised_none own next n = refl

pub raised_step : (own next l m : List ℕ) (n j : ℕ) → l ≡ raised own next n j → m ≡ lifted l (get_or own j 0) (chain_from next j n)
    → m ≡ raised own next n (j + 1)
unfolding raised
raised_step own next l m n j e f = rw (add-one, ← e) f

-- no level is less urgent than the own priority
raised_le : (own next : List ℕ) (n j i : ℕ) → get_or (raised own next n j) i 0 ≤ get_or own i 0
unfolding raised
raised_le own next n zero i = omega arith
raised_le own next n (suc j) i =
    let b : get_or (raised own next n j) i 0 ≤ get_or own i 0 = raised_le own next n j i in
    rw (get_d_lifted (raised own next n j) (get_or own j 0) (walk n (next_in next) (task_at j)) i)
    (by_test (λ (v : ℕ). v ≤ get_or own i 0) (member i (walk n (next_in next) (task_at j))) (λ u. omega arith) (λ u. omega arith))

-- a task that leads nowhere lifts only itself, and stands there already
pub raised_alone : (own next l : List ℕ) (n j : ℕ) → l ≡ raised own next n j → 0 < n → j < task_places → task_places ≤ get_or next j 0
    → l ≡ raised own next n (j + 1)
raised_alone own next l n j e some-fuel task nowhere =
    let b : get_or l j 0 ≤ get_or own j 0 = rw e (raised_le own next n j j) in
    raised_step own next l l n j e
    (lift_on next j l (get_or own j 0) l l n some-fuel task (raise_not next j l (get_or own j 0) b)
    (lift_out next (get_or next j 0) l (get_or own j 0) (n - 1) nowhere))

-- what is lent, task by task
pub lent_none : (own to level : List ℕ) → own ≡ lent_by own to level 0
unfolding lent_by
lent_none own to level = refl

pub lent_step : (own to level l m : List ℕ) (j : ℕ) → l ≡ lent_by own to level j → m ≡ lent l (get_or to j 0) (get_or level j 0) → m ≡ lent_by own to level (j + 1)
unfolding lent_by
lent_step own to level l m j e f = rw (add-one, ← e) f

pub lent_done : (own to level l : List ℕ) (j n : ℕ) → j ≡ n → l ≡ lent_by own to level j → l ≡ lent_by own to level n
lent_done own to level l j n q e = rw (← q) e
