-- The code's own test of tasks, objects and lists, conjunct by conjunct: of a tidy record, each says the same as the rules' test of the view.
-- Unused places pass each test, so that it is one of the places in use.
use Rattle.std.specs.Prelude.{◌≡◌, List, Bool, true, false, cond, ◌⊎◌, ℕ, zero, suc, ◌*◌, ◌%◌, ◌≤◌, ◌<◌, leb, length, drop}
use Rattle.std.proofs.Math.Path.{refl, ap, sym}
use Rattle.std.proofs.Common.{◌∙◌, get_or-take, get_or-drop}
use Rattle.std.proofs.Math.Bool.{not}
use Rattle.std.proofs.Math.Logic.{inl, inr}
use Rattle.std.proofs.Math.Option.{Option}
use native.Mathlib.Omega.{arith}
use Rattle.std.proofs.Math.Decide.{dec_lt}
use Rattle.std.proofs.Math.Dec.{ltb, eqb}
use Rattle.std.proofs.Math.ListN.{get_or}
use borrow.Author.Tests.{ltb-true, leb-true, eqb-true, lt-ltb, le-ltb, ne_eqb}
use Rattle.lists.specs.Test.{◌and◌, ◌or◌, allb, someb}
use Rattle.lists.specs.Order.{inside}
use Rattle.lists.specs.TestLaws.{which, and_l, and_r, true_and, or_true, same_test, and_same, all_same, all_used, all_and}
use Rattle.lists.specs.TableLaws.{read_any}
use Rattle.rules.specs.Sizes.{held_words, on_send, on_receive, task_places, max_mutexes, max_semaphores, max_queues, levels, kinds, max_ticks, on_mutex, on_semaphore, on_time}
use Rattle.rules.specs.Tables.{queue_count, words_of, width_of, depth_of, queue_owner_of, messages_of, awaited_kind, Tables, task_count, mutex_count, sem_count, priority_of, kind_of, owner_of, count_of, wait_of}
use Rattle.rules.specs.Sound.{is_own, pastb, suitsb, queuedb, queue_waitsb, unavailableb, leftb, blockedb, timedb, waitersb, timesb, existsb, countsb, outcomeb, outcomesb}
use Rattle.task_lists.specs.TaskList.{places, no_id, items, key_of, id_fits_at}
use Rattle.task_lists.specs.TaskListLaws.{ids_fit}
use Rattle.walks.specs.Walk.{task_at}
use Rattle.walks.specs.WalkLaws.{task_in}
use Rattle.record.specs.Record.{awaited_by, wait_with, ticks_left, left_in, wait_in, wait_at, view_tables}
use Rattle.record.specs.SoundRecord.{mutex_placeb, sem_placeb, task_list_tidyb, tidyb}
use Rattle.record.specs.Reads.{queue_owner_at, owner_at}
use Rattle.record.specs.GoodRecord.{Typed, WordsTyped}
use Rattle.record.specs.Whole.{whole}
use Rattle.record.specs.TidyLaws.{queues_fit, used_queue, tasks_fit, mutexes_fit, semaphores_fit, mutex_place, sem_place, unused_at_lem, wait_kind, timed_waits, untimed_due}
use Rattle.record.specs.ViewLaws.{view_queues_lem, view_width, view_depth, view_used, view_words, view_queue_owner, owner_id, unused_owner, view_tasks_lem, view_mutexes_lem, view_semaphores_lem, view_priority, view_outcome, view_wait, view_kind, view_owner, view_count, view_maximum}
use Rattle.checks.specs.Checks.{past_at, queue_wait_fits, queue_waits_in, priority_at, time_fits, time_fits_at, outcome_fits, outcome_fits_at, mutex_fits, mutex_fits_at, sem_fits, sem_fits_at, lists_in, blocked_by, blocked_at, blocked_in}
use Rattle.record.specs.declared.State.{State}  -- keep
use Rattle.task_lists.specs.declared.TaskList.{TaskList}  -- keep

-- an id, and the task that it stands for
pub exists_id : (x n : ℕ) → (x < task_places) ⊎ (x ≡ no_id) → eqb x no_id or ltb x n ≡ existsb n (task_at x)
unfolding ◌or◌ existsb
exists_id x n c = elim c [
  | inl h ↦ rw (task_in x h, ne_eqb x no_id (λ e. omega arith)) refl
  | inr e ↦ rw e refl
]

pub no_id_lem : (x : ℕ) → (x < task_places) ⊎ (x ≡ no_id) → eqb x no_id ≡ not (someb (task_at x))
unfolding someb
no_id_lem x c = elim c [
  | inl h ↦ rw (task_in x h, ne_eqb x no_id (λ e. omega arith)) refl
  | inr e ↦ rw e refl
]

-- none, or its own
own_id : (x i : ℕ) → (x < task_places) ⊎ (x ≡ no_id) → eqb x no_id or eqb x i ≡ is_own (task_at x) i
unfolding ◌or◌ is_own
own_id x i c = elim c [
  | inl h ↦ rw (task_in x h, ne_eqb x no_id (λ e. omega arith)) refl
  | inr e ↦ rw e refl
]

twice : (b : Bool) → not (not b) ≡ b
twice true = refl
twice false = refl

-- tests joined
three : (a c d : Bool) → (a and c) and d ≡ true and a and c and d
unfolding ◌and◌
three true c d = refl
three false c d = refl

yes_and : (a : Bool) → true and a ≡ true and a
yes_and a = refl

-- one wait, by the places of its task
blocked_wait : (t : Tables) (i kind object : ℕ) (left : Option ℕ)
    → blockedb t (wait_in kind object left) and queuedb t i (wait_in kind object left)
    ≡ cond (eqb kind on_mutex) (someb (owner_of t object)) (cond (eqb kind on_semaphore) (ltb object (sem_count t) and eqb (count_of t object) 0) true)
    and cond (eqb kind on_send) (ltb object (queue_count t) and eqb (length (messages_of t object)) (depth_of t object) and pastb (width_of t object) (words_of t i))
    (cond (eqb kind on_receive) (ltb object (queue_count t) and eqb (length (messages_of t object)) 0 and is_own (queue_owner_of t object) i) true)
unfolding wait_with awaited_by blockedb unavailableb queuedb suitsb
blocked_wait t i kind object left = elim (which (eqb kind on_mutex)) [
  | inl e ↦ (let k = eqb-true kind on_mutex e in rw (e, ne_eqb kind on_send (λ z. omega arith), ne_eqb kind on_receive (λ z. omega arith)) refl)
  | inr e ↦ rw e (elim (which (eqb kind on_semaphore)) [
    | inl u ↦ (let k = eqb-true kind on_semaphore u in rw (u, ne_eqb kind on_send (λ z. omega arith), ne_eqb kind on_receive (λ z. omega arith)) refl)
    | inr u ↦ rw u (elim (which (eqb kind on_time)) [
      | inl v ↦ (let k = eqb-true kind on_time v in rw (v, ne_eqb kind on_send (λ z. omega arith), ne_eqb kind on_receive (λ z. omega arith)) refl)
      | inr v ↦ rw v (elim (which (eqb kind on_send)) [
        | inl w ↦ rw w (three _ _ _)
        | inr w ↦ rw w (elim (which (eqb kind on_receive)) [ inl y ↦ rw y (three _ _ _) | inr y ↦ rw y (yes_and _) ])
      ])
    ])
  ])
]

timed_wait : (kind object timed due clock : ℕ) → kind ≤ on_receive → (kind ≡ 0 → timed ≡ 0)
    → cond (eqb timed 1) (ltb 0 (ticks_left due clock) and leb (ticks_left due clock) max_ticks) (not (eqb kind on_time)) ≡ timedb (wait_in kind object (left_in timed due clock))
unfolding wait_with awaited_by awaited_kind left_in timedb leftb
timed_wait zero object timed due clock h z = rw (z refl) refl
timed_wait (suc zero) object timed due clock h z = elim (which (eqb timed 1)) [ inl e ↦ rw e refl | inr e ↦ rw e refl ]
timed_wait (suc (suc zero)) object timed due clock h z = elim (which (eqb timed 1)) [ inl e ↦ rw e refl | inr e ↦ rw e refl ]
timed_wait (suc (suc (suc zero))) object timed due clock h z = elim (which (eqb timed 1)) [ inl e ↦ rw e refl | inr e ↦ rw e refl ]
timed_wait (suc (suc (suc (suc zero)))) object timed due clock h z = elim (which (eqb timed 1)) [ inl e ↦ rw e refl | inr e ↦ rw e refl ]
timed_wait (suc (suc (suc (suc (suc zero))))) object timed due clock h z = elim (which (eqb timed 1)) [ inl e ↦ rw e refl | inr e ↦ rw e refl ]
timed_wait (suc (suc (suc (suc (suc (suc kind)))))) object timed due clock h z = absurd (omega arith)

-- where who has no time has no due time
time_fits_lem : (kind timed due clock : ℕ) → (eqb timed 1 ≡ false → due ≡ 0)
    → time_fits kind timed due clock ≡ cond (eqb timed 1) (ltb 0 (ticks_left due clock) and leb (ticks_left due clock) max_ticks) (not (eqb kind on_time))
unfolding time_fits ◌and◌
time_fits_lem kind timed due clock z = elim (which (eqb timed 1)) [ inl e ↦ rw e refl | inr e ↦ rw (e, z e) refl ]

outcome_wait : (kind object : ℕ) (left : Option ℕ) (n : ℕ) → kind ≤ on_receive → outcome_fits kind n ≡ outcomeb (wait_in kind object left) n
unfolding outcome_fits wait_with awaited_by outcomeb
outcome_wait zero object left n h = refl
outcome_wait (suc zero) object left n h = refl
outcome_wait (suc (suc zero)) object left n h = refl
outcome_wait (suc (suc (suc zero))) object left n h = refl
outcome_wait (suc (suc (suc (suc zero)))) object left n h = refl
outcome_wait (suc (suc (suc (suc (suc zero))))) object left n h = refl
outcome_wait (suc (suc (suc (suc (suc (suc kind)))))) object left n h = absurd (omega arith)

-- the ids of a tidy list
list_same : (q : TaskList) (tasks : ℕ) → length q.ids ≡ places → task_list_tidyb q ≡ true → allb places (id_fits_at q.ids q.n tasks) ≡ inside tasks (items q)
unfolding task_list_tidyb
list_same q tasks k tidy = ids_fit q tasks (leb-true _ _ (and_l _ _ tidy)) k ∙ same_test _ _ (λ e. and_l _ _ e) (λ e. true_and _ _ e (and_r _ _ tidy))

module _ (k : State) (ws b : List ℕ) (T : Typed k) (tidy : tidyb k ≡ true) where
  -- a test that unused places pass, and that says the same of each place in use as one of the view
  pub used_tasks : (p q : ℕ → Bool) → ((i : ℕ) → k.tasks.n ≤ i → i < task_places → p i ≡ true) → ((i : ℕ) → i < k.tasks.n → p i ≡ q i)
      → allb task_places p ≡ allb (task_count (view_tables (whole k ws b))) q
  used_tasks p q out same = all_used k.tasks.n task_places p (tasks_fit k tidy) out ∙ all_same _ _ p q (sym (view_tasks_lem k ws b T tidy)) same

  pub used_mutexes : (p q : ℕ → Bool) → ((j : ℕ) → k.mutexes.n ≤ j → j < max_mutexes → p j ≡ true) → ((j : ℕ) → j < k.mutexes.n → p j ≡ q j)
      → allb max_mutexes p ≡ allb (mutex_count (view_tables (whole k ws b))) q
  used_mutexes p q out same = all_used k.mutexes.n max_mutexes p (mutexes_fit k tidy) out ∙ all_same _ _ p q (sym (view_mutexes_lem k ws b T tidy)) same

  used_semaphores : (p q : ℕ → Bool) → ((j : ℕ) → k.semaphores.n ≤ j → j < max_semaphores → p j ≡ true) → ((j : ℕ) → j < k.semaphores.n → p j ≡ q j)
      → allb max_semaphores p ≡ allb (sem_count (view_tables (whole k ws b))) q
  used_semaphores p q out same = all_used k.semaphores.n max_semaphores p (semaphores_fit k tidy) out ∙ all_same _ _ p q (sym (view_semaphores_lem k ws b T tidy)) same

  -- tasks: priorities, times, outcomes
  pub priorities_same : allb task_places (priority_at k.tasks.priority) ≡ allb (task_count (view_tables (whole k ws b))) (λ i. ltb (priority_of (view_tables (whole k ws b)) i) levels)
  priorities_same = used_tasks _ _
      (λ i h l. lt-ltb (key_of k.tasks.priority i) levels (omega (arith, (unused_at_lem k tidy i h l).no_priority)))
      (λ i h. ap (λ (x : ℕ). ltb x levels) (sym (view_priority k ws b T tidy i h)))

  pub times_same : allb task_places (time_fits_at k.tasks.wait k.tasks.timed k.tasks.due k.clock) ≡ timesb (view_tables (whole k ws b))
  unfolding timesb time_fits wait_at ◌and◌
  times_same = used_tasks _ _
      (λ i h l. (let u = unused_at_lem k tidy i h l in rw (u.no_wait, u.no_timed, u.no_due) refl))
      (λ i h. rw (view_wait k ws b T tidy i h)
      (time_fits_lem (key_of k.tasks.wait i) (key_of k.tasks.timed i) (key_of k.tasks.due i) k.clock (untimed_due k tidy i h)
      ∙ timed_wait (key_of k.tasks.wait i) (key_of k.tasks.object i) (key_of k.tasks.timed i) (key_of k.tasks.due i) k.clock (wait_kind k tidy i h) (timed_waits k tidy i h)))

  pub outcomes_same : allb task_places (outcome_fits_at k.tasks.wait k.tasks.outcome) ≡ outcomesb (view_tables (whole k ws b))
  unfolding outcomesb outcome_fits wait_at ◌or◌
  outcomes_same = used_tasks _ _
      (λ i h l. (let u = unused_at_lem k tidy i h l in rw (u.no_wait, u.no_outcome) refl))
      (λ i h. rw (view_wait k ws b T tidy i h, view_outcome k ws b T tidy i h) (outcome_wait (key_of k.tasks.wait i) (key_of k.tasks.object i) _ (key_of k.tasks.outcome i) (wait_kind k tidy i h)))

  -- objects
  pub owner_read : (j : ℕ) → j < max_mutexes → get_or k.mutexes.owner j 0 ≡ owner_at k.mutexes j
  owner_read j h = read_any k.mutexes.owner j 0 no_id (omega (arith, T.owner_length))

  pub mutexes_same : allb max_mutexes (mutex_fits_at k.mutexes.kind k.mutexes.owner k.mutexes.n k.tasks.n)
      ≡ allb (mutex_count (view_tables (whole k ws b))) (λ j. ltb (kind_of (view_tables (whole k ws b)) j) kinds) and allb (mutex_count (view_tables (whole k ws b))) (λ j. existsb (task_count (view_tables (whole k ws b))) (owner_of (view_tables (whole k ws b)) j))
  unfolding mutex_fits mutex_placeb
  mutexes_same = used_mutexes _ (λ j. ltb (kind_of (view_tables (whole k ws b)) j) kinds and existsb (task_count (view_tables (whole k ws b))) (owner_of (view_tables (whole k ws b)) j))
      (λ j h l. rw (le-ltb j k.mutexes.n h) (rw (le-ltb j k.mutexes.n h) at (mutex_place k tidy j l)))
      (λ j h. rw (lt-ltb j k.mutexes.n h, owner_read j (omega (arith, mutexes_fit k tidy)), view_kind k ws b T tidy j h, view_owner k ws b T tidy j, view_tasks_lem k ws b T tidy)
      (ap (λ (b : Bool). ltb (get_or k.mutexes.kind j 0) kinds and b) (exists_id (owner_at k.mutexes j) k.tasks.n (owner_id k ws b T tidy j))))
      ∙ all_and (mutex_count (view_tables (whole k ws b))) _ _

  pub counts_same : allb max_semaphores (sem_fits_at k.semaphores.count k.semaphores.maximum k.semaphores.n) ≡ countsb (view_tables (whole k ws b))
  unfolding countsb sem_fits sem_placeb
  counts_same = used_semaphores _ _
      (λ j h l. rw (le-ltb j k.semaphores.n h) (elim (or_true _ _ (sem_place k tidy j l)) [ inl u ↦ absurd (omega (arith, ltb-true j k.semaphores.n u)) | inr u ↦ u ]))
      (λ j h. rw (lt-ltb j k.semaphores.n h, view_count k ws b T tidy j h, view_maximum k ws b T tidy j h) refl)

  -- lists
  pub lists_same : lists_in k.ready k.waiting k.tasks.n ≡ inside k.tasks.n (items k.ready) and inside k.tasks.n (items k.waiting)
  unfolding lists_in tidyb
  lists_same =
      let t = and_r _ _ (and_r _ _ (and_r _ _ tidy)) in
      rw (list_same k.ready k.tasks.n T.ready_length (and_l _ _ t), list_same k.waiting k.tasks.n T.waiting_length (and_l _ _ (and_r _ _ t))) refl

  -- waits: the object that is read is the awaited one where there is such an object
  owned_same : (j : ℕ) → ltb j max_mutexes and not (eqb (get_or k.mutexes.owner (j % max_mutexes) 0) no_id) ≡ someb (owner_of (view_tables (whole k ws b)) j)
  unfolding ◌and◌ someb
  owned_same j = elim (dec_lt j max_mutexes) [
    | yes h ↦ (let m : j % max_mutexes ≡ j = omega arith in
        rw (lt-ltb j max_mutexes h, m, owner_read j h, view_owner k ws b T tidy j) (ap not (no_id_lem (owner_at k.mutexes j) (owner_id k ws b T tidy j)) ∙ twice _))
    | no h ↦ (let l : max_mutexes ≤ j = omega arith in
        rw (le-ltb j max_mutexes l, view_owner k ws b T tidy j) (ap (λ (x : ℕ). someb (task_at x)) (sym (unused_owner k ws b T tidy j (omega (arith, mutexes_fit k tidy))))))
  ]

  credit_same : (j : ℕ) → ltb j k.semaphores.n and eqb (get_or k.semaphores.count (j % max_semaphores) 0) 0 ≡ ltb j (sem_count (view_tables (whole k ws b))) and eqb (count_of (view_tables (whole k ws b)) j) 0
  credit_same j = rw (view_semaphores_lem k ws b T tidy) (and_same _ _ _ (λ u.
      let h = ltb-true j k.semaphores.n u in
      let m : j % max_semaphores ≡ j = omega (arith, semaphores_fit k tidy) in
      rw m (ap (λ (x : ℕ). eqb x 0) (sym (view_count k ws b T tidy j h)))))

  -- a queue's owner is an id
  pub queue_owner_any : (q : ℕ) → q < max_queues → get_or k.queues.owner q 0 ≡ queue_owner_at k.queues q
  queue_owner_any q h = read_any k.queues.owner q 0 no_id (omega (arith, T.queue_owner_length))

  pub queue_id : (q : ℕ) → q < k.queues.n → (get_or k.queues.owner q 0 < task_places) ⊎ (get_or k.queues.owner q 0 ≡ no_id)
  queue_id q h = elim (or_true (ltb (get_or k.queues.owner q 0) task_places) (eqb (get_or k.queues.owner q 0) no_id) (and_l _ _ (used_queue k tidy q h))) [
    | inl u ↦ inl (ltb-true _ _ u)
    | inr u ↦ inr (eqb-true _ _ u)
  ]

  -- waits at queues, where tasks hold as many words as they may
  module _ (W : WordsTyped ws) where
    pub past_same : (i w : ℕ) → i < k.tasks.n → past_at ws i w ≡ pastb w (words_of (view_tables (whole k ws b)) i)
    unfolding pastb
    past_same i w h = all_same held_words held_words _ _ refl (λ n l. ap (λ (z : ℕ). ltb n w or eqb z 0)
        (sym (get_or-drop (held_words * i) ws n 0) ∙ sym (get_or-take held_words (drop (held_words * i) ws) n 0 l) ∙ ap (λ z. get_or z n 0) (sym (view_words k ws b T tidy i h))))

    own_same : (q i : ℕ) → q < k.queues.n → eqb (get_or k.queues.owner q 0) no_id or eqb (get_or k.queues.owner q 0) i ≡ is_own (queue_owner_of (view_tables (whole k ws b)) q) i
    own_same q i h = own_id (get_or k.queues.owner q 0) i (queue_id q h) ∙ ap (λ x. is_own (task_at x) i) (queue_owner_any q (omega (arith, queues_fit k tidy))) ∙ ap (λ o. is_own o i) (sym (view_queue_owner k ws b T tidy q))

    send_same : (i q : ℕ) → i < k.tasks.n → ltb q k.queues.n and eqb (get_or k.queues.used q 0) (get_or k.queues.depth q 0) and past_at ws i (get_or k.queues.width q 0)
        ≡ ltb q (queue_count (view_tables (whole k ws b))) and eqb (length (messages_of (view_tables (whole k ws b)) q)) (depth_of (view_tables (whole k ws b)) q) and pastb (width_of (view_tables (whole k ws b)) q) (words_of (view_tables (whole k ws b)) i)
    send_same i q h = rw (view_queues_lem k ws b T tidy) (and_same _ _ _ (λ u. let l = ltb-true q k.queues.n u in
        rw (view_used k ws b T tidy q l, view_depth k ws b T tidy q l, view_width k ws b T tidy q l, past_same i (get_or k.queues.width q 0) h) refl))

    receive_same : (i q : ℕ) → i < k.tasks.n → ltb q k.queues.n and eqb (get_or k.queues.used q 0) 0 and (eqb (get_or k.queues.owner q 0) no_id or eqb (get_or k.queues.owner q 0) i)
        ≡ ltb q (queue_count (view_tables (whole k ws b))) and eqb (length (messages_of (view_tables (whole k ws b)) q)) 0 and is_own (queue_owner_of (view_tables (whole k ws b)) q) i
    receive_same i q h = rw (view_queues_lem k ws b T tidy) (and_same _ _ _ (λ u. let l = ltb-true q k.queues.n u in
        rw (view_used k ws b T tidy q l, own_same q i l) refl))

    unused_blocked : (i : ℕ) → k.tasks.n ≤ i → i < task_places
        → blocked_at k.tasks.wait k.tasks.object k.mutexes.owner k.semaphores.count k.semaphores.n i and queue_wait_fits k.queues ws i (get_or k.tasks.wait i 0) (get_or k.tasks.object i 0) ≡ true
    unfolding blocked_by queue_wait_fits ◌and◌
    unused_blocked i h l = rw (unused_at_lem k tidy i h l).no_wait refl

    used_blocked : (i : ℕ) → i < k.tasks.n
        → blocked_at k.tasks.wait k.tasks.object k.mutexes.owner k.semaphores.count k.semaphores.n i and queue_wait_fits k.queues ws i (get_or k.tasks.wait i 0) (get_or k.tasks.object i 0)
        ≡ blockedb (view_tables (whole k ws b)) (wait_of (view_tables (whole k ws b)) i) and queuedb (view_tables (whole k ws b)) i (wait_of (view_tables (whole k ws b)) i)
    unfolding blocked_by queue_wait_fits wait_at
    used_blocked i h = rw (view_wait k ws b T tidy i h, blocked_wait, owned_same (key_of k.tasks.object i), credit_same (key_of k.tasks.object i), send_same i (key_of k.tasks.object i) h, receive_same i (key_of k.tasks.object i) h) refl

    pub blocked_same : blocked_in k.tasks.wait k.tasks.object k.mutexes k.semaphores and queue_waits_in k.tasks.wait k.tasks.object k.queues ws
        ≡ waitersb (view_tables (whole k ws b)) and queue_waitsb (view_tables (whole k ws b))
    unfolding blocked_in queue_waits_in waitersb queue_waitsb
    blocked_same = sym (all_and task_places _ _) ∙ used_tasks _ _ unused_blocked used_blocked ∙ all_and (task_count (view_tables (whole k ws b))) _ _
