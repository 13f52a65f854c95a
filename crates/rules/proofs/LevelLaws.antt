-- Chains and levels where the tables are sound: no chain is cut, links are at most 15, and the level is what its recursive wording says.
use Rattle.std.specs.Prelude.{◌≡◌, false, ◌⊎◌, eqb}
use Rattle.std.proofs.Math.Path.{refl}
use Rattle.std.proofs.Common.{sym, ◌∙◌, inl, inr, arith, ne_eqb}
use Rattle.std.proofs.Math.Option.{Option, none, some}
use Prim.Native.Nat.{ℕ, zero, suc, ◌≤◌, ◌<◌}
use Rattle.std.proofs.Math.Decide.{dec_lt}
use Rattle.std.proofs.Math.ListN.{length, get_or-eq_default}
use Rattle.lists.specs.Count.{occ}
use Rattle.lists.specs.Order.{before}
use Rattle.lists.specs.TestLaws.{by_test, none_some}
use Rattle.chains.specs.Chain.{Chain, walk, Ended}
use Rattle.chains.specs.Least.{Recursive}
use Rattle.chains.specs.ChainLaws.{walk_none, walk_is_chain, walk_short, ends_drop}
use Rattle.chains.specs.LeastLaws.{leading_att, leading_recursive, leading_only}
use Rattle.rules.specs.Sizes.{levels, inheriting}
use Rattle.rules.specs.Tables.{Awaited, mutex_of, sem_of, room_in, message_in, time, Wait, Tables, task_count, priority_of, wait_of, kind_of, owner_of, queue_owner_of}
use Rattle.rules.specs.Levels.{owner_awaited, heir_awaited, of_wait, next, lends, level_in, chain_of, links_of, closes_ring}
use Rattle.rules.specs.Invariant.{Facts}

-- behind the last task nobody waits
pub wait_out : (t : Tables) → length t.tasks.waits ≡ task_count t → (i : ℕ) → task_count t ≤ i → wait_of t i ≡ none
wait_out t e i h = get_or-eq_default t.tasks.waits none (omega arith)

-- who does not wait has no next
pub next_none : (t : Tables) (i : ℕ) → wait_of t i ≡ none → next t i ≡ none
unfolding next of_wait
next_none t i e = rw e refl

-- whom a wait leads to, what it is for leads to
pub of_wait_lem : (f : Awaited → Option ℕ) (w : Option Wait) (j : ℕ) → of_wait f w ≡ some j → (a : Awaited) × (f a ≡ some j)
unfolding of_wait
of_wait_lem f none j e = none_some refl e
of_wait_lem f (some w) j e = (w.on, e)

-- the owner of what is awaited owns a mutex or a queue
pub owner_awaited_lem : (t : Tables) (a : Awaited) (j : ℕ) → owner_awaited t a ≡ some j → ((m : ℕ) × (owner_of t m ≡ some j)) ⊎ ((q : ℕ) × (queue_owner_of t q ≡ some j))
unfolding owner_awaited
owner_awaited_lem t (mutex_of m) j e = inl (m, e)
owner_awaited_lem t (sem_of k) j e = none_some refl e
owner_awaited_lem t (room_in q) j e = inr (q, e)
owner_awaited_lem t (message_in q) j e = none_some refl e
owner_awaited_lem t time j e = none_some refl e

-- the inheriting waits are among the waits
heir_or : (t : Tables) (a : Awaited) → (heir_awaited t a ≡ owner_awaited t a) ⊎ (heir_awaited t a ≡ none)
unfolding heir_awaited owner_awaited
heir_or t (mutex_of m) = by_test (λ (q : Option ℕ). (q ≡ owner_of t m) ⊎ (q ≡ none)) (eqb (kind_of t m) inheriting) (λ e. inl refl) (λ e. inr refl)
heir_or t (sem_of k) = inr refl
heir_or t (room_in q) = inl refl
heir_or t (message_in q) = inr refl
heir_or t time = inr refl

-- what nobody owns lends to nobody
pub heir_none : (t : Tables) (a : Awaited) → owner_awaited t a ≡ none → heir_awaited t a ≡ none
heir_none t a e = elim (heir_or t a) [ inl q ↦ q ∙ e | inr q ↦ q ]

pub lend_or : (t : Tables) (i : ℕ) → (lends t i ≡ next t i) ⊎ (lends t i ≡ none)
unfolding lends next of_wait
lend_or t i = go (wait_of t i)
  where
    go : (w : Option Wait) → (of_wait (heir_awaited t) w ≡ of_wait (owner_awaited t) w) ⊎ (of_wait (heir_awaited t) w ≡ none)
    go none = inr refl
    go (some w) = heir_or t w.on

pub lend_next : (t : Tables) (i j : ℕ) → lends t i ≡ some j → next t i ≡ some j
lend_next t i j e = elim (lend_or t i) [ inl q ↦ sym q ∙ e | inr q ↦ none_some q e ]

module _ (t : Tables) (F : Facts t) where
  -- the owner of what is awaited is a task
  pub awaited_owner : (a : Awaited) (o : ℕ) → owner_awaited t a ≡ some o → o < task_count t
  awaited_owner a o e = elim (owner_awaited_lem t a o e) [ inl r ↦ F.owners r.0 o r.1 | inr r ↦ F.owned_queues r.0 o r.1 ]

  -- a wait leads to a task, the waiter is a task, and every chain of waits ends
  pub next_ended : Ended (task_count t) (next t)
  unfolding next
  next_ended = record {
    ends = F.ends;
    to = λ i j e. (let r = of_wait_lem (owner_awaited t) (wait_of t i) j e in awaited_owner r.0 j r.1);
    of = λ i j e. elim (dec_lt i (task_count t)) [
      | yes h ↦ h
      | no h ↦ none_some (next_none t i (wait_out t F.wait_column i (omega arith))) e
    ];
  }

  pub lends_ended : Ended (task_count t) (lends t)
  lends_ended = record {
    ends = λ i. ends_drop (lend_or t) (F.ends i).1;
    to = λ i j e. next_ended.to i j (lend_next t i j e);
    of = λ i j e. next_ended.of i j (lend_next t i j e);
  }

  -- the fuel cuts no chain
  pub chain_whole : (a : Awaited) → Chain (next t) (owner_awaited t a) (chain_of t a)
  unfolding chain_of
  chain_whole a = walk_is_chain next_ended (owner_awaited t a) (awaited_owner a)

  -- what nobody owns has no chain, so a wait for it closes no ring
  pub ring_none : (r : ℕ) (a : Awaited) → owner_awaited t a ≡ none → closes_ring t r a ≡ false
  unfolding chain_of occ
  ring_none r a e = rw (e, walk_none (next t) (task_count t)) refl

  pub links_below : (r : ℕ) (a : Awaited) → r < task_count t → links_of t r a < task_count t
  unfolding chain_of
  links_below r a h = walk_short next_ended r (owner_awaited t a) h (awaited_owner a)

  -- "1 to 15": the one bound here that depends on how many tasks there may be
  pub links_at_most : (r : ℕ) (a : Awaited) → r < task_count t → links_of t r a ≤ 15
  links_at_most r a h = omega (arith, links_below r a h, F.few_tasks)

  -- and at least 1: the owner, which is not the caller, stands on the chain
  pub links_at_least : (r : ℕ) (a : Awaited) (o : ℕ) → owner_awaited t a ≡ some o → (o ≡ r → ⊥) → 1 ≤ links_of t r a
  unfolding chain_of walk before
  links_at_least r a o e n = rw e (go (task_count t) (omega (arith, awaited_owner a o e)))
    where
      go : (f : ℕ) → 0 < f → 1 ≤ length (before r (walk f (next t) (some o)))
      go zero h = absurd (omega arith)
      go (suc f) h = rw (ne_eqb o r n) (omega arith)

  -- "A task's level is the smallest of its own priority and the levels of all tasks waiting on inheriting mutexes that it owns": so it is
  pub level_recursive : Recursive (task_count t) (lends t) (priority_of t) (level_in t)
  unfolding level_in
  level_recursive = leading_recursive (priority_of t) lends_ended

  -- and nothing else is
  pub level_only : (f : ℕ → ℕ) → Recursive (task_count t) (lends t) (priority_of t) f → (i : ℕ) → i < task_count t → f i ≡ level_in t i
  unfolding level_in
  level_only = leading_only (priority_of t) lends_ended

  -- the level is some task's own priority
  pub level_in_lem : (i : ℕ) → i < task_count t → level_in t i < levels
  unfolding level_in
  level_in_lem i h = let a = leading_att (priority_of t) lends_ended i h in omega (arith, F.priorities a.0 a.1)
