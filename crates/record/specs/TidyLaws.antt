-- What the test of unused places and absent fields tells of a record, phrase by phrase.
use Rattle.std.specs.Prelude.{◌≡◌, ℕ, ◌<◌, ◌≤◌, true, false, ◌⊎◌, ◌==◌, nat_le, nat_lt, slice_index, slice_index_or}
use Rattle.std.proofs.Math.Logic.{inl, inr}
use Rattle.std.proofs.Common.{arith}
use Rattle.lists.specs.Test.{◌and◌}
use borrow.Author.Tests.{ltb-true, leb-true, eqb-true, not-true, lt-ltb, le-ltb, eq-eqb}
use Rattle.lists.specs.TestLaws.{clash, and_l, and_r, or_true, all_true}
use Rattle.rules.specs.Sizes.{task_places, max_mutexes, max_semaphores, max_queues, on_receive}
use Rattle.task_lists.specs.TaskList.{places, no_id}
use Rattle.record.specs.SoundRecord.{used_taskb, unused_taskb, task_placeb, tasks_tidyb, idb, mutex_placeb, mutexes_tidyb, sem_placeb, semaphores_tidyb, queue_placeb, queues_tidyb, task_list_tidyb, tidyb}
use Rattle.record.specs.declared.State.{State}  -- keep
use Rattle.record.specs.declared.Tasks.{Tasks}  -- keep
use Rattle.record.specs.declared.Queues.{Queues}  -- keep

-- what an unused place of a task holds
pub record Unused (t : Tasks) (i : ℕ) : Type 0 where
  pub no_priority : slice_index_or t.priority i 0 ≡ 0
  pub no_level : slice_index_or t.level i 0 ≡ 0
  pub no_outcome : slice_index_or t.outcome i 0 ≡ 0
  pub no_wait : slice_index_or t.wait i 0 ≡ 0
  pub no_object : slice_index_or t.object i 0 ≡ 0
  pub no_timed : slice_index_or t.timed i 0 ≡ 0
  pub no_due : slice_index_or t.due i 0 ≡ 0

unused_places : (t : Tasks) (i : ℕ) → unused_taskb t i ≡ true → Unused t i
unfolding unused_taskb
unused_places t i e =
    let e1 = and_r _ _ e in
    let e2 = and_r _ _ e1 in
    let e3 = and_r _ _ e2 in
    let e4 = and_r _ _ e3 in
    let e5 = and_r _ _ e4 in
    record {
      no_priority = eqb-true _ _ (and_l _ _ e);
      no_level = eqb-true _ _ (and_l _ _ e1);
      no_outcome = eqb-true _ _ (and_l _ _ e2);
      no_wait = eqb-true _ _ (and_l _ _ e3);
      no_object = eqb-true _ _ (and_l _ _ e4);
      no_timed = eqb-true _ _ (and_l _ _ e5);
      no_due = eqb-true _ _ (and_r _ _ e5);
    }

-- what an unused place of a queue holds
pub record UnusedQueue (x : Queues) (q : ℕ) : Type 0 where
  pub no_width : slice_index_or x.width q 0 ≡ 0
  pub no_depth : slice_index_or x.depth q 0 ≡ 0
  pub no_owner : slice_index_or x.owner q 0 ≡ no_id
  pub no_oldest : slice_index_or x.oldest q 0 ≡ 0
  pub no_used : slice_index_or x.used q 0 ≡ 0

module _ (k : State) (tidy : tidyb k ≡ true) where
  pub tasks_fit : k.tasks.n ≤ task_places
  unfolding tidyb tasks_tidyb
  tasks_fit = leb-true _ _ (and_l _ _ (and_l _ _ tidy))

  pub mutexes_fit : k.mutexes.n ≤ max_mutexes
  unfolding tidyb mutexes_tidyb
  mutexes_fit = leb-true _ _ (and_l _ _ (and_l _ _ (and_r _ _ tidy)))

  pub semaphores_fit : k.semaphores.n ≤ max_semaphores
  unfolding tidyb semaphores_tidyb
  semaphores_fit = leb-true _ _ (and_l _ _ (and_l _ _ (and_r _ _ (and_r _ _ tidy))))

  pub ready_fits : k.ready.n ≤ places
  unfolding tidyb task_list_tidyb
  ready_fits = leb-true _ _ (and_l _ _ (and_l _ _ (and_r _ _ (and_r _ _ (and_r _ _ tidy)))))

  pub waiting_fits : k.waiting.n ≤ places
  unfolding tidyb task_list_tidyb
  waiting_fits = leb-true _ _ (and_l _ _ (and_l _ _ (and_r _ _ (and_r _ _ (and_r _ _ (and_r _ _ tidy))))))

  pub started_flag : nat_le k.started 1 ≡ true
  unfolding tidyb
  started_flag = and_l _ _ (and_r _ _ (and_r _ _ (and_r _ _ (and_r _ _ (and_r _ _ tidy)))))

  pub running_id : idb k.running ≡ true
  unfolding tidyb
  running_id = and_l _ _ (and_r _ _ (and_r _ _ (and_r _ _ (and_r _ _ (and_r _ _ (and_r _ _ tidy))))))

  queues_tidy : queues_tidyb k.queues ≡ true
  unfolding tidyb
  queues_tidy = and_r _ _ (and_r _ _ (and_r _ _ (and_r _ _ (and_r _ _ (and_r _ _ (and_r _ _ tidy))))))

  pub queues_fit : k.queues.n ≤ max_queues
  unfolding queues_tidyb
  queues_fit = leb-true _ _ (and_l _ _ queues_tidy)

  pub running_or : (k.running < task_places) ⊎ (k.running ≡ no_id)
  running_or = elim (or_true _ _ running_id) [ inl u ↦ inl (ltb-true _ _ u) | inr u ↦ inr (eqb-true _ _ u) ]

  -- one place of each table
  pub task_place : (i : ℕ) → i < task_places → task_placeb k.tasks i ≡ true
  unfolding tidyb tasks_tidyb
  task_place = all_true task_places (task_placeb k.tasks) (and_r _ _ (and_l _ _ tidy))

  pub mutex_place : (j : ℕ) → j < max_mutexes → mutex_placeb k.mutexes j ≡ true
  unfolding tidyb mutexes_tidyb
  mutex_place = all_true max_mutexes (mutex_placeb k.mutexes) (and_r _ _ (and_l _ _ (and_r _ _ tidy)))

  pub sem_place : (j : ℕ) → j < max_semaphores → sem_placeb k.semaphores j ≡ true
  unfolding tidyb semaphores_tidyb
  sem_place = all_true max_semaphores (sem_placeb k.semaphores) (and_r _ _ (and_l _ _ (and_r _ _ (and_r _ _ tidy))))

  pub queue_place : (q : ℕ) → q < max_queues → queue_placeb k.queues q ≡ true
  unfolding queues_tidyb
  queue_place = all_true max_queues (queue_placeb k.queues) (and_r _ _ queues_tidy)

  pub used_queue : (q : ℕ) → q < k.queues.n → idb (slice_index k.queues.owner q) and nat_lt (slice_index k.queues.oldest q) (slice_index k.queues.depth q) ≡ true
  unfolding queue_placeb
  used_queue q h = rw (lt-ltb q k.queues.n h) at (queue_place q (omega (arith, queues_fit)))

  pub unused_queue : (q : ℕ) → k.queues.n ≤ q → q < max_queues → UnusedQueue k.queues q
  unfolding queue_placeb
  unused_queue q h l =
      let e = rw (le-ltb q k.queues.n h) at (queue_place q l) in
      let e1 = and_r _ _ e in
      let e2 = and_r _ _ e1 in
      let e3 = and_r _ _ e2 in
      record {
        no_width = eqb-true _ _ (and_l _ _ e);
        no_depth = eqb-true _ _ (and_l _ _ e1);
        no_owner = eqb-true _ _ (and_l _ _ e2);
        no_oldest = eqb-true _ _ (and_l _ _ e3);
        no_used = eqb-true _ _ (and_r _ _ e3);
      }

  pub used_task : (i : ℕ) → i < k.tasks.n → used_taskb k.tasks i ≡ true
  unfolding task_placeb
  used_task i h = rw (lt-ltb i k.tasks.n h) at (task_place i (omega (arith, tasks_fit)))

  unused_task : (i : ℕ) → k.tasks.n ≤ i → i < task_places → unused_taskb k.tasks i ≡ true
  unfolding task_placeb
  unused_task i h l = rw (le-ltb i k.tasks.n h) at (task_place i l)

  pub unused_at_lem : (i : ℕ) → k.tasks.n ≤ i → i < task_places → Unused k.tasks i
  unused_at_lem i h l = unused_places k.tasks i (unused_task i h l)

  -- the kind of wait is one of the five, and who does not wait has no due time
  pub wait_kind : (i : ℕ) → i < k.tasks.n → slice_index k.tasks.wait i ≤ on_receive
  unfolding used_taskb
  wait_kind i h = leb-true _ _ (and_l _ _ (used_task i h))

  pub timed_waits : (i : ℕ) → i < k.tasks.n → slice_index k.tasks.wait i ≡ 0 → slice_index k.tasks.timed i ≡ 0
  unfolding used_taskb
  timed_waits i h e = elim (or_true _ _ (and_l _ _ (and_r _ _ (and_r _ _ (and_r _ _ (used_task i h)))))) [
    | inl u ↦ eqb-true _ _ u
    | inr u ↦ absurd (clash (eq-eqb (slice_index k.tasks.wait i) 0 e) (not-true _ u))
  ]

  -- who has no time has no due time
  pub untimed_due : (i : ℕ) → i < k.tasks.n → (slice_index k.tasks.timed i == 1) ≡ false → slice_index k.tasks.due i ≡ 0
  unfolding used_taskb
  untimed_due i h e = elim (or_true _ _ (and_r _ _ (and_r _ _ (and_r _ _ (and_r _ _ (used_task i h)))))) [
    | inl u ↦ eqb-true _ _ u
    | inr u ↦ absurd (clash u e)
  ]
