-- The code's own test of rings and of stored levels. It follows the chains of owners only, since every chain is one from its second task on.
-- It tests levels by their recursive wording, one link far, which tells the levels where no chain is a ring.
use Rattle.std.specs.Prelude.{◌≡◌, refl, List, ℕ, ◌≤◌, ◌<◌, get_or}
use Rattle.std.proofs.Math.Path.{ap, sym}
use Rattle.std.proofs.Common.{◌∙◌, inl, inr, arith}
use Rattle.std.proofs.Math.Bool.{true}
use Rattle.std.proofs.Math.Option.{Option, none, some}
use Rattle.std.proofs.Math.Decide.{dec_lt}
use borrow.Author.Tests.{eqb-true, eq-eqb}
use Rattle.lists.specs.Test.{allb, holds}
use Rattle.lists.specs.Table.{filled}
use Rattle.lists.specs.TestLaws.{none_some, and_l, and_r, true_and, all_true, true_all, same_test}
use Rattle.chains.specs.Chain.{endsb}
use Rattle.chains.specs.Least.{least, Recursive}
use Rattle.chains.specs.ChainLaws.{chain_short, ends_true, true_ends, ends_none}
use Rattle.chains.specs.LeastLaws.{least_start}
use Rattle.rules.specs.Sizes.{task_places, max_mutexes, max_queues}
use Rattle.rules.specs.Tables.{Tables, task_count, priority_of, wait_of, owner_of, queue_owner_of}
use Rattle.rules.specs.Levels.{owner_awaited, of_wait, next, lends, level_in}
use Rattle.rules.specs.Sound.{ownersb, no_ringb}
use Rattle.rules.specs.Invariant.{Facts}
use Rattle.rules.proofs.SoundLaws.{owner_there, queue_owner_there}
use Rattle.rules.proofs.LevelLaws.{of_wait_lem, owner_awaited_lem, next_ended, level_recursive, level_only}
use Rattle.task_lists.specs.TaskList.{key_of}
use Rattle.walks.specs.Walk.{task_at, next_in, lent_by}
use Rattle.walks.specs.WalkLaws.{ends_ext, least_ext, lent_ext}
use Rattle.record.specs.Record.{view_tables}
use Rattle.record.specs.SoundRecord.{tidyb, levelsb}
use Rattle.record.specs.Reads.{next_at, lends_at}
use Rattle.record.specs.Whole.{whole}
use Rattle.record.specs.GoodRecord.{Typed}
use Rattle.record.specs.TidyLaws.{tasks_fit, mutexes_fit, queues_fit, unused_at_lem}
use Rattle.record.specs.ViewLaws.{stored_level, unused_owner, view_tasks_lem, view_priority, view_wait_out, view_owner, unused_queue_owner, view_queue_owner, next_same, lends_same}
use Rattle.checks.specs.Checks.{ringless, same_at, levels_in}
use Rattle.checks.specs.TableCheckLaws.{owner_read, queue_owner_any}
use Rattle.record.specs.declared.State.{State}  -- keep

-- where owners exist and the chain of each ends, that of each task does, within as many links as there are tasks
owners_ring : (t : Tables) → ownersb t ≡ true → ((m o : ℕ) → owner_of t m ≡ some o → endsb task_places (next t) (some o) ≡ true)
    → ((q o : ℕ) → queue_owner_of t q ≡ some o → endsb task_places (next t) (some o) ≡ true) → no_ringb t ≡ true
unfolding no_ringb next of_wait
owners_ring t w h g = true_all (task_count t) _ (λ i l. go i (next t i) refl)
  where
    to : (i o : ℕ) → next t i ≡ some o → o < task_count t
    to i o e = let a = of_wait_lem (owner_awaited t) (wait_of t i) o e in elim (owner_awaited_lem t a.0 o a.1) [ inl r ↦ owner_there t w r.0 o r.1 | inr r ↦ queue_owner_there t w r.0 o r.1 ]

    ended : (i o : ℕ) → next t i ≡ some o → endsb task_places (next t) (some o) ≡ true
    ended i o e = let a = of_wait_lem (owner_awaited t) (wait_of t i) o e in elim (owner_awaited_lem t a.0 o a.1) [ inl r ↦ h r.0 o r.1 | inr r ↦ g r.0 o r.1 ]

    go : (i : ℕ) (o : Option ℕ) → next t i ≡ o → endsb (task_count t) (next t) o ≡ true
    go i none e = ends_none (next t) (task_count t)
    go i (some o) e = let c = ends_true task_places (some o) (ended i o e) in true_ends c.1 (task_count t) (chain_short (task_count t) to c.1 (λ j q. to i j (e ∙ q)))

-- the chain of an owner ends, and is no longer than there are tasks
ring_owners : (t : Tables) → Facts t → (q : Option ℕ) → ((o : ℕ) → q ≡ some o → o < task_count t) → endsb task_places (next t) q ≡ true
ring_owners t F none b = ends_none (next t) task_places
ring_owners t F (some o) b = let c = (F.ends o).1 in true_ends c task_places (omega (arith, chain_short (task_count t) (next_ended t F).to c b, F.few_tasks))

module _ (k : State) (ws b : List ℕ) (T : Typed k) (tidy : tidyb k ≡ true) where
  -- the code's test of one owner is that of its chain
  ends_at : (x : ℕ) (o : Option ℕ) → task_at x ≡ o
      → endsb task_places (next_in (filled task_places (next_at k.tasks k.mutexes k.queues))) (task_at x) ≡ endsb task_places (next (view_tables (whole k ws b))) o
  ends_at x o e =
      ends_ext (next_in (filled task_places (next_at k.tasks k.mutexes k.queues))) (next (view_tables (whole k ws b))) (next_same k ws b T tidy) task_places (task_at x)
      ∙ ap (endsb task_places (next (view_tables (whole k ws b)))) e

  ends_same : (j : ℕ) → j < max_mutexes
      → endsb task_places (next_in (filled task_places (next_at k.tasks k.mutexes k.queues))) (task_at (get_or k.mutexes.owner j 0))
      ≡ endsb task_places (next (view_tables (whole k ws b))) (owner_of (view_tables (whole k ws b)) j)
  ends_same j h = ends_at (get_or k.mutexes.owner j 0) (owner_of (view_tables (whole k ws b)) j) (ap task_at (owner_read k ws b T tidy j h) ∙ sym (view_owner k ws b T tidy j))

  queue_ends_same : (j : ℕ) → j < max_queues
      → endsb task_places (next_in (filled task_places (next_at k.tasks k.mutexes k.queues))) (task_at (get_or k.queues.owner j 0))
      ≡ endsb task_places (next (view_tables (whole k ws b))) (queue_owner_of (view_tables (whole k ws b)) j)
  queue_ends_same j h = ends_at (get_or k.queues.owner j 0) (queue_owner_of (view_tables (whole k ws b)) j) (ap task_at (queue_owner_any k ws b T tidy j h) ∙ sym (view_queue_owner k ws b T tidy j))

  pub ringless_ring : ownersb (view_tables (whole k ws b)) ≡ true → ringless k.tasks.wait k.tasks.object k.mutexes k.queues ≡ true → no_ringb (view_tables (whole k ws b)) ≡ true
  unfolding ringless
  ringless_ring w e = owners_ring (view_tables (whole k ws b)) w
      (λ m o q. elim (dec_lt m max_mutexes) [
        | yes h ↦ rw (← q) (sym (ends_same m h) ∙ all_true max_mutexes _ (and_l _ _ e) m h)
        | no h ↦ none_some (view_owner k ws b T tidy m ∙ ap task_at (unused_owner k ws b T tidy m (omega (arith, mutexes_fit k tidy)))) q
      ])
      (λ m o q. elim (dec_lt m max_queues) [
        | yes h ↦ rw (← q) (sym (queue_ends_same m h) ∙ all_true max_queues _ (and_r _ _ e) m h)
        | no h ↦ none_some (view_queue_owner k ws b T tidy m ∙ ap task_at (unused_queue_owner k ws b T tidy m (omega (arith, queues_fit k tidy)))) q
      ])

  pub facts_ringless : Facts (view_tables (whole k ws b)) → ringless k.tasks.wait k.tasks.object k.mutexes k.queues ≡ true
  unfolding ringless
  facts_ringless F = true_and _ _
      (true_all max_mutexes _ (λ j h. ends_same j h ∙ ring_owners (view_tables (whole k ws b)) F (owner_of (view_tables (whole k ws b)) j) (F.owners j)))
      (true_all max_queues _ (λ j h. queue_ends_same j h ∙ ring_owners (view_tables (whole k ws b)) F (queue_owner_of (view_tables (whole k ws b)) j) (F.owned_queues j)))

  -- the least of the own priority of i and of the stored levels that are lent to i by one link
  abbrev lent_levels : List ℕ
  lent_levels = lent_by k.tasks.priority (filled task_places (lends_at k.tasks k.mutexes k.queues)) k.tasks.level task_places

  lent_at : (i : ℕ) → i < task_places
      → key_of lent_levels i ≡ least k.tasks.n (λ j. holds (lends (view_tables (whole k ws b)) j) i) (key_of k.tasks.level) (key_of k.tasks.priority i)
  unfolding lends of_wait
  lent_at i h = lent_ext k.tasks.priority (filled task_places (lends_at k.tasks k.mutexes k.queues)) k.tasks.level k.tasks.n (lends (view_tables (whole k ws b)))
      (tasks_fit k tidy) (lends_same k ws b T tidy) (λ j q. rw (view_wait_out k ws b T tidy j q) refl) i h

  -- behind the last task the level is 0, and so is what it is held to, which is at most the own priority
  lent_unused : (i : ℕ) → k.tasks.n ≤ i → i < task_places → key_of k.tasks.level i ≡ key_of lent_levels i
  lent_unused i h l = omega (
    arith,
    lent_at i l,
    least_start (λ j. holds (lends (view_tables (whole k ws b)) j) i) (key_of k.tasks.level) (key_of k.tasks.priority i) k.tasks.n,
    (unused_at_lem k tidy i h l).no_priority,
    (unused_at_lem k tidy i h l).no_level,
  )

  lent_used : (i : ℕ) → i < k.tasks.n
      → key_of lent_levels i ≡ least (task_count (view_tables (whole k ws b))) (λ j. holds (lends (view_tables (whole k ws b)) j) i) (key_of k.tasks.level) (priority_of (view_tables (whole k ws b)) i)
  lent_used i h = rw (view_tasks_lem k ws b T tidy, view_priority k ws b T tidy i h) (lent_at i (omega (arith, tasks_fit k tidy)))

  -- only the levels as defined are the least of the own priority and of what one link lends
  pub levels_same : Facts (view_tables (whole k ws b)) → levels_in k.tasks.priority k.tasks.level k.tasks.wait k.tasks.object k.mutexes k.queues ≡ levelsb (whole k ws b)
  unfolding levels_in levelsb
  levels_same F = same_test _ _
      (λ e. true_all k.tasks.n _ (λ i h. eq-eqb _ _ (level_only (view_tables (whole k ws b)) F (key_of k.tasks.level) (recursive e) i (omega (arith, view_tasks_lem k ws b T tidy)))))
      (λ e. true_all task_places _ (λ i l. eq-eqb (key_of k.tasks.level i) (key_of lent_levels i) (elim (dec_lt i k.tasks.n) [
        | yes h ↦ least_of_lem e i h ∙ sym (lent_used i h)
        | no h ↦ lent_unused i (omega arith) l
      ])))
    where
      recursive : allb task_places (same_at k.tasks.level lent_levels) ≡ true → Recursive (task_count (view_tables (whole k ws b))) (lends (view_tables (whole k ws b))) (priority_of (view_tables (whole k ws b))) (key_of k.tasks.level)
      recursive e i h =
          let q : i < k.tasks.n = omega (arith, view_tasks_lem k ws b T tidy) in
          eqb-true _ _ (all_true task_places (same_at k.tasks.level lent_levels) e i (omega (arith, tasks_fit k tidy))) ∙ lent_used i q

      least_of_lem : levelsb (whole k ws b) ≡ true → (i : ℕ) → i < k.tasks.n
          → key_of k.tasks.level i ≡ least (task_count (view_tables (whole k ws b))) (λ j. holds (lends (view_tables (whole k ws b)) j) i) (key_of k.tasks.level) (priority_of (view_tables (whole k ws b)) i)
      least_of_lem e i h =
          stored_level k ws b e i h
          ∙ level_recursive (view_tables (whole k ws b)) F i (omega (arith, view_tasks_lem k ws b T tidy))
          ∙ least_ext (task_count (view_tables (whole k ws b))) (λ j. holds (lends (view_tables (whole k ws b)) j) i) (level_in (view_tables (whole k ws b))) (key_of k.tasks.level) (priority_of (view_tables (whole k ws b)) i)
          (λ j q. sym (stored_level k ws b e j (omega (arith, view_tasks_lem k ws b T tidy))))
