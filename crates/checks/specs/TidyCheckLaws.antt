-- The code's own test of a record and unused places: the tests of sizes, tasks, objects and lists make the record tidy, and a tidy record
-- passes all that they ask of unused places and of a wait's places.
use Rattle.std.specs.Prelude.{◌≡◌, refl, List, Bool, true, ℕ, ◌≤◌, ◌<◌, ltb, eqb, length, get_or}
use Rattle.std.proofs.Common.{sym, ◌∙◌, arith}
use Rattle.std.proofs.Math.Logic.{inl, inr}
use Rattle.std.proofs.Math.Decide.{dec_lt}
use borrow.Author.Tests.{ltb-true, ltb-false, leb-true, eqb-true, lt-ltb, le-leb, eq-eqb}
use Rattle.lists.specs.Test.{◌and◌, ◌or◌, allb}
use Rattle.lists.specs.TestLaws.{which, by_test, and_l, and_r, true_and, or_true, or_l, or_r, all_true, true_all}
use Rattle.rules.specs.Sizes.{task_places, max_mutexes, max_semaphores, max_queues}
use Rattle.task_lists.specs.TaskList.{places, no_id, id_fits_at}
use Rattle.task_lists.specs.TaskListLaws.{ids_fit}
use Rattle.record.specs.SoundRecord.{is_object_wait, queue_placeb, queues_tidyb, used_taskb, unused_taskb, task_placeb, tasks_tidyb, idb, mutex_placeb, mutexes_tidyb, sem_placeb, semaphores_tidyb, task_list_tidyb, tidyb}
use Rattle.record.specs.GoodRecord.{Typed}
use Rattle.record.specs.TidyLaws.{tasks_fit, mutexes_fit, semaphores_fit, queues_fit, ready_fits, waiting_fits, started_flag, used_task, unused_at_lem}
use Rattle.checks.specs.Checks.{queue_fits, queue_fits_at, queues_in, sizes_in, unused_at, unused_in, wait_fits, wait_fits_at, time_fits, time_fits_at, tasks_in, mutex_fits, mutex_fits_at, sem_fits, sem_fits_at, objects_in, lists_in}
use Rattle.record.specs.declared.State.{State}  -- keep
use Rattle.task_lists.specs.declared.TaskList.{TaskList}  -- keep

-- a column whose places from n on hold 0, and its test
zero_at : (column : List ℕ) (n : ℕ) → allb task_places (unused_at column n) ≡ true → (i : ℕ) → n ≤ i → i < task_places → eqb (get_or column i 0) 0 ≡ true
zero_at column n e i h l = elim (or_true _ _ (all_true task_places (unused_at column n) e i l)) [
  | inl u ↦ absurd (omega (arith, ltb-true i n u))
  | inr u ↦ u
]

at_zero : (column : List ℕ) (n : ℕ) → ((i : ℕ) → n ≤ i → i < task_places → get_or column i 0 ≡ 0) → allb task_places (unused_at column n) ≡ true
at_zero column n h = true_all task_places (unused_at column n) (λ i l. elim (dec_lt i n) [ yes u ↦ or_l _ _ (lt-ltb i n u) | no u ↦ or_r _ _ (eq-eqb _ 0 (h i (omega arith) l)) ])

-- a due time only for a timed wait
due_timed : (kind timed due clock : ℕ) → time_fits kind timed due clock ≡ true → eqb due 0 or eqb timed 1 ≡ true
unfolding time_fits
due_timed kind timed due clock e = elim (which (eqb timed 1)) [ inl u ↦ or_r _ _ u | inr u ↦ or_l _ _ (and_l _ _ (rw u at e)) ]

-- the id of one of the tasks, or none
id_in : (x n : ℕ) → n ≤ task_places → eqb x no_id or ltb x n ≡ true → idb x ≡ true
id_in x n h e = elim (or_true _ _ e) [ inl u ↦ or_r _ _ u | inr u ↦ or_l _ _ (lt-ltb x task_places (omega (arith, ltb-true x n u))) ]

-- the tasks' places
module _ (k : State) (tasks : tasks_in k.tasks k.clock ≡ true) where
  wait_fits_lem : (i : ℕ) → i < task_places → wait_fits_at k.tasks.wait k.tasks.object k.tasks.timed i ≡ true
  unfolding tasks_in
  wait_fits_lem = all_true task_places (wait_fits_at k.tasks.wait k.tasks.object k.tasks.timed) (and_l _ _ (and_r _ _ (and_r _ _ tasks)))

  time_fits_lem : (i : ℕ) → i < task_places → time_fits_at k.tasks.wait k.tasks.timed k.tasks.due k.clock i ≡ true
  unfolding tasks_in
  time_fits_lem = all_true task_places (time_fits_at k.tasks.wait k.tasks.timed k.tasks.due k.clock) (and_l _ _ (and_r _ _ (and_r _ _ (and_r _ _ tasks))))

  due_fits : (i : ℕ) → i < task_places → eqb (get_or k.tasks.due i 0) 0 or eqb (get_or k.tasks.timed i 0) 1 ≡ true
  due_fits i l = due_timed (get_or k.tasks.wait i 0) (get_or k.tasks.timed i 0) (get_or k.tasks.due i 0) k.clock (time_fits_lem i l)

  used_fits : (i : ℕ) → i < task_places → used_taskb k.tasks i ≡ true
  unfolding used_taskb wait_fits
  used_fits i l =
      let w₀ = wait_fits_lem i l in
      let w₁ = and_r _ _ w₀ in
      let w₂ = and_r _ _ w₁ in
      true_and _ _ (and_l _ _ w₀) (true_and _ _ (and_l _ _ w₁) (true_and _ _ (and_l _ _ w₂) (true_and _ _ (and_r _ _ w₂) (due_fits i l))))

  unused_fits : (i : ℕ) → k.tasks.n ≤ i → i < task_places → unused_taskb k.tasks i ≡ true
  unfolding tasks_in unused_in unused_taskb
  unused_fits i h l =
      let u₀ = and_l _ _ tasks in
      let u₁ = and_r _ _ u₀ in
      let u₂ = and_r _ _ u₁ in
      let u₃ = and_r _ _ u₂ in
      let u₄ = and_r _ _ u₃ in
      let timed = zero_at k.tasks.timed k.tasks.n (and_r _ _ u₄) i h l in
      true_and _ _ (zero_at k.tasks.priority k.tasks.n (and_l _ _ u₀) i h l)
      (true_and _ _ (zero_at k.tasks.level k.tasks.n (and_l _ _ u₁) i h l)
      (true_and _ _ (zero_at k.tasks.outcome k.tasks.n (and_l _ _ u₂) i h l)
      (true_and _ _ (zero_at k.tasks.wait k.tasks.n (and_l _ _ u₃) i h l)
      (true_and _ _ (zero_at k.tasks.object k.tasks.n (and_l _ _ u₄) i h l)
      (true_and _ _ timed (elim (or_true _ _ (due_fits i l)) [
        | inl u ↦ u
        | inr u ↦ absurd (omega (arith, eqb-true (get_or k.tasks.timed i 0) 0 timed, eqb-true (get_or k.tasks.timed i 0) 1 u))
      ]))))))

  tasks_tidy : k.tasks.n ≤ task_places → tasks_tidyb k.tasks ≡ true
  unfolding tasks_tidyb task_placeb
  tasks_tidy few = true_and _ _ (le-leb k.tasks.n task_places few)
      (true_all task_places _ (λ i l. by_test (λ (b : Bool). b ≡ true) (ltb i k.tasks.n) (λ u. used_fits i l) (λ u. unused_fits i (ltb-false i k.tasks.n u) l)))

-- the objects' places
module _ (k : State) (objects : objects_in k.mutexes k.semaphores k.tasks.n ≡ true) where
  mutex_fits_lem : (j : ℕ) → j < max_mutexes → mutex_fits_at k.mutexes.kind k.mutexes.owner k.mutexes.n k.tasks.n j ≡ true
  unfolding objects_in
  mutex_fits_lem = all_true max_mutexes (mutex_fits_at k.mutexes.kind k.mutexes.owner k.mutexes.n k.tasks.n) (and_l _ _ objects)

  mutexes_tidy : k.tasks.n ≤ task_places → k.mutexes.n ≤ max_mutexes → mutexes_tidyb k.mutexes ≡ true
  unfolding mutexes_tidyb mutex_placeb mutex_fits
  mutexes_tidy few fit = true_and _ _ (le-leb k.mutexes.n max_mutexes fit) (true_all max_mutexes _ (λ j l. elim (which (ltb j k.mutexes.n)) [
    | inl u ↦ rw u (id_in (get_or k.mutexes.owner j 0) k.tasks.n few (and_r _ _ (rw u at (mutex_fits_lem j l))))
    | inr u ↦ rw u (rw u at (mutex_fits_lem j l))
  ]))

  sem_fits_lem : (j : ℕ) → j < max_semaphores → sem_fits_at k.semaphores.count k.semaphores.maximum k.semaphores.n j ≡ true
  unfolding objects_in
  sem_fits_lem = all_true max_semaphores (sem_fits_at k.semaphores.count k.semaphores.maximum k.semaphores.n) (and_r _ _ objects)

  semaphores_tidy : k.semaphores.n ≤ max_semaphores → semaphores_tidyb k.semaphores ≡ true
  unfolding semaphores_tidyb sem_placeb sem_fits
  semaphores_tidy fit = true_and _ _ (le-leb k.semaphores.n max_semaphores fit) (true_all max_semaphores _ (λ j l. elim (which (ltb j k.semaphores.n)) [
    | inl u ↦ or_l _ _ u
    | inr u ↦ or_r _ _ (rw u at (sem_fits_lem j l))
  ]))

-- the queues' places
module _ (k : State) (space : ℕ) (queues : queues_in k.queues k.tasks.n space ≡ true) where
  queue_fits_lem : (q : ℕ) → q < max_queues → queue_fits_at k.queues k.tasks.n q ≡ true
  unfolding queues_in
  queue_fits_lem = all_true max_queues (queue_fits_at k.queues k.tasks.n) (and_l _ _ queues)

  queues_tidy : k.tasks.n ≤ task_places → k.queues.n ≤ max_queues → queues_tidyb k.queues ≡ true
  unfolding queues_tidyb queue_placeb queue_fits
  queues_tidy few fit = true_and _ _ (le-leb k.queues.n max_queues fit) (true_all max_queues _ (λ q l. elim (which (ltb q k.queues.n)) [
    | inl u ↦ (let e = and_r _ _ (and_r _ _ (rw u at (queue_fits_lem q l))) in rw u (true_and _ _ (id_in (get_or k.queues.owner q 0) k.tasks.n few (and_l _ _ e)) (and_l _ _ (and_r _ _ e))))
    | inr u ↦ rw u (rw u at (queue_fits_lem q l))
  ]))

-- a list's places
list_tidy : (q : TaskList) (tasks : ℕ) → q.n ≤ places → length q.ids ≡ places → allb places (id_fits_at q.ids q.n tasks) ≡ true → task_list_tidyb q ≡ true
unfolding task_list_tidyb
list_tidy q tasks h k e = true_and _ _ (le-leb q.n places h) (and_r _ _ (sym (ids_fit q tasks h k) ∙ e))

-- a record that passes these tests is tidy
pub checks_tidy : (k : State) (space : ℕ) → Typed k → sizes_in k ≡ true → tasks_in k.tasks k.clock ≡ true → objects_in k.mutexes k.semaphores k.tasks.n ≡ true
    → queues_in k.queues k.tasks.n space ≡ true → lists_in k.ready k.waiting k.tasks.n ≡ true → tidyb k ≡ true
unfolding sizes_in lists_in tidyb
checks_tidy k space T s₀ tasks objects queues lists =
    let s₁ = and_r _ _ s₀ in
    let s₂ = and_r _ _ s₁ in
    let q₂ = and_r _ _ s₂ in
    let s₃ = and_r _ _ q₂ in
    let s₄ = and_r _ _ s₃ in
    let s₅ = and_r _ _ s₄ in
    let few = leb-true k.tasks.n task_places (and_l _ _ s₀) in
    true_and _ _ (tasks_tidy k tasks few)
    (true_and _ _ (mutexes_tidy k objects few (leb-true _ _ (and_l _ _ s₁)))
    (true_and _ _ (semaphores_tidy k objects (leb-true _ _ (and_l _ _ s₂)))
    (true_and _ _ (list_tidy k.ready k.tasks.n (leb-true _ _ (and_l _ _ s₃)) T.ready_length (and_l _ _ lists))
    (true_and _ _ (list_tidy k.waiting k.tasks.n (leb-true _ _ (and_l _ _ s₄)) T.waiting_length (and_r _ _ lists))
    (true_and _ _ (and_l _ _ s₅) (true_and _ _ (id_in k.running k.tasks.n few (and_r _ _ s₅)) (queues_tidy k space queues few (leb-true _ _ (and_l _ _ q₂)))))))))

module _ (k : State) (tidy : tidyb k ≡ true) where
  used_wait : (i : ℕ) → i < k.tasks.n → wait_fits_at k.tasks.wait k.tasks.object k.tasks.timed i ≡ true
  unfolding used_taskb wait_fits
  used_wait i h =
      let u₀ = used_task k tidy i h in
      let u₁ = and_r _ _ u₀ in
      let u₂ = and_r _ _ u₁ in
      true_and _ _ (and_l _ _ u₀) (true_and _ _ (and_l _ _ u₁) (true_and _ _ (and_l _ _ u₂) (and_l _ _ (and_r _ _ u₂))))

  -- a tidy record passes the tests of sizes, of unused places and of waits' places
  pub tidy_sizes : eqb k.running no_id or ltb k.running k.tasks.n ≡ true → sizes_in k ≡ true
  unfolding sizes_in
  tidy_sizes runner =
      true_and _ _ (le-leb _ task_places (tasks_fit k tidy))
      (true_and _ _ (le-leb _ max_mutexes (mutexes_fit k tidy))
      (true_and _ _ (le-leb _ max_semaphores (semaphores_fit k tidy))
      (true_and _ _ (le-leb _ max_queues (queues_fit k tidy))
      (true_and _ _ (le-leb _ places (ready_fits k tidy))
      (true_and _ _ (le-leb _ places (waiting_fits k tidy))
      (true_and _ _ (started_flag k tidy) runner))))))

  pub tidy_unused : unused_in k.tasks ≡ true
  unfolding unused_in
  tidy_unused =
      true_and _ _ (at_zero k.tasks.priority k.tasks.n (λ i h l. (unused_at_lem k tidy i h l).no_priority))
      (true_and _ _ (at_zero k.tasks.level k.tasks.n (λ i h l. (unused_at_lem k tidy i h l).no_level))
      (true_and _ _ (at_zero k.tasks.outcome k.tasks.n (λ i h l. (unused_at_lem k tidy i h l).no_outcome))
      (true_and _ _ (at_zero k.tasks.wait k.tasks.n (λ i h l. (unused_at_lem k tidy i h l).no_wait))
      (true_and _ _ (at_zero k.tasks.object k.tasks.n (λ i h l. (unused_at_lem k tidy i h l).no_object))
      (at_zero k.tasks.timed k.tasks.n (λ i h l. (unused_at_lem k tidy i h l).no_timed))))))

  pub tidy_waits : allb task_places (wait_fits_at k.tasks.wait k.tasks.object k.tasks.timed) ≡ true
  unfolding wait_fits is_object_wait ◌and◌ ◌or◌
  tidy_waits = true_all task_places _ (λ i l. elim (dec_lt i k.tasks.n) [
    | yes h ↦ used_wait i h
    | no h ↦ (let u = unused_at_lem k tidy i (omega arith) l in rw (u.no_wait, u.no_object, u.no_timed) refl)
  ])
