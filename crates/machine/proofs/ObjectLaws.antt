-- Mutexes, semaphores and tasks of the packed tables, made and changed; and when no level changes.
use Rattle.std.specs.Prelude.{◌≡◌, List, [], ◌∷◌, ◌++◌, map, Bool, true, ℕ, suc, ◌<◌, length, get_or}
use Rattle.std.proofs.Math.Path.{refl, ap, sym, fun_ext}
use Rattle.std.proofs.Common.{◌∙◌, arith, length-append, length-set, get_or-set_other, lt-ltb}
use Rattle.std.proofs.Math.Bool.{false}
use Rattle.std.proofs.Math.Logic.{inl, inr}
use Rattle.std.proofs.Math.Option.{Option, none, some}
use Rattle.std.proofs.Math.Decide.{ℕ_discrete}
use Rattle.std.proofs.Math.ListN.{set, get_or-map, length-map, get_or-append}
use Rattle.std.proofs.Math.Seq.{get_or-set_same}
use Rattle.lists.specs.Table.{pad, filled}
use Rattle.lists.specs.TestLaws.{which, clash}
use Rattle.lists.specs.TableLaws.{snoc_default, snoc_last, length_snoc, length_filled, filled_ext, pad_set, pad_snoc}
use Rattle.chains.specs.Least.{least_leading}
use Rattle.rules.specs.Sizes.{task_places, max_mutexes, max_semaphores, levels}
use Rattle.rules.specs.Levels.{heir_awaited, of_wait, lends, level_in, same_awaited, wait_is_for, awaits}
use Rattle.rules.specs.Effect.{set_messages, hands, add_task, add_mutex, add_sem, give, set_count, begin_wait, end_waits, age, age_all}
use Rattle.rules.specs.Invariant.{Facts}
use Rattle.rules.proofs.FactsLaws.{wait_ended}
use Rattle.rules.proofs.WaiterLaws.{awaited_self, level_alone}
use Rattle.rules.proofs.CreationLaws.{facts_add_task}
use Rattle.task_lists.specs.TaskList.{no_id, id_of}
use Rattle.record.specs.Record.{kind_code, object_code, timed_code, due_code, pack_tasks, pack_mutexes, pack_semaphores}
use Rattle.machine.specs.Machine.{owner_set, count_set, task_added, mutex_added, sem_added}
use Rattle.record.specs.PackLaws.{same_tasks, same_mutexes, same_semaphores}
use Rattle.record.specs.ColumnLaws.{chosen, pad_default, map_set, map_snoc}
use Rattle.rules.specs.Tables.{Awaited, mutex_of, sem_of, room_in, message_in, time, Wait, TaskTable, SemTable, Tables, with_tasks, with_semaphores, task_count, mutex_count, sem_count, priority_of, wait_of}  -- keep

module _ (t : Tables) (F : Facts t) where
  pub owner_set_lem : (m : ℕ) (o : Option ℕ) → m < mutex_count t → owner_set (pack_mutexes t) m (id_of o) ≡ pack_mutexes (give t m o)
  unfolding owner_set pack_mutexes
  owner_set_lem m o h = chosen _ _ _ (lt-ltb m max_mutexes (omega (arith, F.few_mutexes)))
      ∙ same_mutexes _ _ refl (pad_set max_mutexes no_id (map id_of t.mutexes.owners) m (id_of o) (omega (arith, length-map t.mutexes.owners id_of)) ∙ ap (pad max_mutexes no_id) (sym (map_set id_of t.mutexes.owners m o)))
      (sym (length-set t.mutexes.owners m o))

  pub count_set_lem : (k v : ℕ) → k < sem_count t → count_set (pack_semaphores t) k v ≡ pack_semaphores (set_count t k v)
  unfolding count_set pack_semaphores
  count_set_lem k v h = chosen _ _ _ (lt-ltb k max_semaphores (omega (arith, F.few_semaphores)))
      ∙ same_semaphores _ _ (pad_set max_semaphores 0 t.semaphores.counts k v h) refl (sym (length-set t.semaphores.counts k v))

  pub mutex_added_lem : (q : ℕ) → mutex_count t < max_mutexes → mutex_added (pack_mutexes t) q ≡ pack_mutexes (add_mutex t q)
  unfolding mutex_added pack_mutexes id_of
  mutex_added_lem q h = chosen _ _ _ (lt-ltb (mutex_count t) max_mutexes h)
      ∙ same_mutexes _ _ (ap (λ i. set (pad max_mutexes 0 t.mutexes.kinds) i q) (sym F.kind_column) ∙ pad_snoc max_mutexes 0 t.mutexes.kinds q (omega (arith, F.kind_column)))
      (sym (ap (pad max_mutexes no_id) (map_snoc id_of t.mutexes.owners none) ∙ pad_default max_mutexes no_id (map id_of t.mutexes.owners) (omega (arith, length-map t.mutexes.owners id_of))))
      (sym (length-append t.mutexes.owners (none ∷ [])))

  pub sem_added_lem : (count max : ℕ) → sem_count t < max_semaphores → sem_added (pack_semaphores t) count max ≡ pack_semaphores (add_sem t count max)
  unfolding sem_added pack_semaphores
  sem_added_lem count max h = chosen _ _ _ (lt-ltb (sem_count t) max_semaphores h)
      ∙ same_semaphores _ _ (pad_snoc max_semaphores 0 t.semaphores.counts count h)
      (ap (λ i. set (pad max_semaphores 0 t.semaphores.maxima) i max) (sym F.maximum_column) ∙ pad_snoc max_semaphores 0 t.semaphores.maxima max (omega (arith, F.maximum_column)))
      (sym (length-append t.semaphores.counts (count ∷ [])))

-- levels stay where nobody lends otherwise
pub level_same : (t t' : Tables) → ((i : ℕ) → lends t' i ≡ lends t i) → t'.tasks.priorities ≡ t.tasks.priorities → (i : ℕ) → level_in t' i ≡ level_in t i
unfolding level_in
level_same t t' h e i = ap (λ (l : List ℕ). least_leading (length l) (lends t') (λ j. get_or l j 0) i) e ∙ ap (λ (f : ℕ → Option ℕ). least_leading (task_count t) f (priority_of t) i) (fun_ext h)

-- who lends to whom, where mutexes and owners of queues stay as they are
lends_kept : (t : Tables) (x : TaskTable) (c : SemTable) (i : ℕ) → lends (with_tasks (with_semaphores t c) x) i ≡ of_wait (heir_awaited t) (get_or x.waits i none)
unfolding lends of_wait heir_awaited
lends_kept t x c i = go (get_or x.waits i none)
  where
    heir : (a : Awaited) → heir_awaited (with_tasks (with_semaphores t c) x) a ≡ heir_awaited t a
    heir (mutex_of m) = refl
    heir (sem_of k) = refl
    heir (room_in q) = refl
    heir (message_in q) = refl
    heir time = refl

    go : (w : Option Wait) → of_wait (heir_awaited (with_tasks (with_semaphores t c) x)) w ≡ of_wait (heir_awaited t) w
    go none = refl
    go (some w) = heir w.on

module _ (t : Tables) where
  -- a wait begins for what lends to nobody
  pub lends_begin : (r : ℕ) (w : Wait) → r < length t.tasks.waits → wait_of t r ≡ none → heir_awaited t w.on ≡ none → (i : ℕ) → lends (begin_wait t r w) i ≡ lends t i
  unfolding lends of_wait
  lends_begin r w h idle e i = lends_kept t (begin_wait t r w).tasks t.semaphores i ∙ elim (ℕ_discrete i r) [
    | yes q ↦ rw (q, get_or-set_same t.tasks.waits r (some w) none h, idle) e
    | no q ↦ rw (get_or-set_other t.tasks.waits r i (some w) none q) refl
  ]

  -- waits end that lent to nobody
  pub lends_end : (p : ℕ → Bool) (out : ℕ → ℕ) → ((i : ℕ) → p i ≡ true → lends t i ≡ none) → (i : ℕ) → lends (end_waits t p out) i ≡ lends t i
  unfolding of_wait
  lends_end p out h i = lends_kept t (end_waits t p out).tasks t.semaphores i ∙ ap (of_wait (heir_awaited t)) (wait_ended t p out i)
      ∙ elim (which (p i)) [ inl e ↦ rw e (sym (h i e)) | inr e ↦ rw e (sym (lends_kept t t.tasks t.semaphores i)) ]

  -- a mutex for which nobody waits gets another owner
  pub lends_give : (m : ℕ) (o : Option ℕ) → ((i : ℕ) → awaits t (mutex_of m) i ≡ false) → (i : ℕ) → lends (give t m o) i ≡ lends t i
  unfolding lends of_wait wait_is_for heir_awaited
  lends_give m o h i = go (wait_of t i) (h i)
    where
      heir : (a : Awaited) → same_awaited a (mutex_of m) ≡ false → heir_awaited (give t m o) a ≡ heir_awaited t a
      heir (mutex_of j) e = rw (get_or-set_other t.mutexes.owners m j o none (λ q. clash (ap (λ z. same_awaited (mutex_of z) (mutex_of m)) q ∙ awaited_self (mutex_of m)) e)) refl
      heir (sem_of k) e = refl
      heir (room_in q) e = refl
      heir (message_in q) e = refl
      heir time e = refl

      go : (w : Option Wait) → wait_is_for w (mutex_of m) ≡ false → of_wait (heir_awaited (give t m o)) w ≡ of_wait (heir_awaited t) w
      go none e = refl
      go (some w) e = heir w.on e

  -- semaphores lend nothing
  pub lends_semaphores : (c : SemTable) (i : ℕ) → lends (with_semaphores t c) i ≡ lends t i
  lends_semaphores c i = lends_kept t t.tasks c i ∙ sym (lends_kept t t.tasks t.semaphores i)

  -- messages and held words lend nothing
  pub lends_messages : (q : ℕ) (ms : List (List ℕ)) (i : ℕ) → lends (set_messages t q ms) i ≡ lends t i
  unfolding lends of_wait heir_awaited
  lends_messages q ms i = go (wait_of t i)
    where
      heir : (a : Awaited) → heir_awaited (set_messages t q ms) a ≡ heir_awaited t a
      heir (mutex_of j) = refl
      heir (sem_of k) = refl
      heir (room_in j) = refl
      heir (message_in j) = refl
      heir time = refl

      go : (w : Option Wait) → of_wait (heir_awaited (set_messages t q ms)) w ≡ of_wait (heir_awaited t) w
      go none = refl
      go (some w) = heir w.on

  pub lends_hands : (j : ℕ) (m : List ℕ) (i : ℕ) → lends (hands t j m) i ≡ lends t i
  lends_hands j m i = lends_kept t (hands t j m).tasks t.semaphores i ∙ sym (lends_kept t t.tasks t.semaphores i)

  -- all waits are a tick older
  pub lends_age : (i : ℕ) → lends (age_all t) i ≡ lends t i
  unfolding lends of_wait age
  lends_age i = lends_kept t (age_all t).tasks t.semaphores i ∙ ap (of_wait (heir_awaited t)) (get_or-map age t.tasks.waits i none) ∙ go (wait_of t i)
    where
      go : (w : Option Wait) → of_wait (heir_awaited t) (age w) ≡ of_wait (heir_awaited t) w
      go none = refl
      go (some w) = refl

  -- nobody waits, so nobody lends
  pub lends_none : (i : ℕ) → wait_of t i ≡ none → lends t i ≡ none
  unfolding lends of_wait
  lends_none i e = rw e refl

-- a task made while nobody waits
module _ (t : Tables) (F : Facts t) (silent : (i : ℕ) → wait_of t i ≡ none) (p : ℕ) (low : p < levels) (room : task_count t < task_places) where
  new_facts : Facts (add_task t p)
  new_facts = facts_add_task t p low room F

  more : task_count (add_task t p) ≡ suc (task_count t)
  more = length_snoc t.tasks.priorities p

  new_level : (i : ℕ) → i < suc (task_count t) → level_in (add_task t p) i ≡ priority_of (add_task t p) i
  new_level i h = level_alone (add_task t p) new_facts (λ j. snoc_default none t.tasks.waits j ∙ silent j) i (omega (arith, more))

  made_level : level_in (add_task t p) (task_count t) ≡ p
  made_level = new_level (task_count t) (omega arith) ∙ snoc_last p 0 t.tasks.priorities

  pub old_level : (i : ℕ) → i < task_count t → level_in (add_task t p) i ≡ level_in t i
  old_level i h = new_level i (omega arith) ∙ (get_or-append t.tasks.priorities (p ∷ []) 0 i h ∙ sym (level_alone t F silent i h))

  level_added : set (pad task_places 0 (filled (task_count t) (level_in t))) (task_count t) p ≡ pad task_places 0 (filled (task_count (add_task t p)) (level_in (add_task t p)))
  unfolding filled
  level_added =
      ap (λ n. set (pad task_places 0 (filled (task_count t) (level_in t))) n p) (sym (length_filled (task_count t) (level_in t)))
      ∙ pad_snoc task_places 0 (filled (task_count t) (level_in t)) p (omega (arith, length_filled (task_count t) (level_in t)))
      ∙ sym (ap (λ n. pad task_places 0 (filled n (level_in (add_task t p)))) more
      ∙ ap (λ l. pad task_places 0 (l ++ (level_in (add_task t p) (task_count t) ∷ []))) (filled_ext (task_count t) (level_in (add_task t p)) (level_in t) old_level)
      ∙ ap (λ x. pad task_places 0 (filled (task_count t) (level_in t) ++ (x ∷ []))) made_level)

  code_added : (f : Option Wait → ℕ) → f none ≡ 0 → pad task_places 0 (map f t.tasks.waits) ≡ pad task_places 0 (map f (t.tasks.waits ++ (none ∷ [])))
  code_added f e = sym (ap (pad task_places 0) (map_snoc f t.tasks.waits none ∙ ap (λ x. map f t.tasks.waits ++ (x ∷ [])) e)
      ∙ pad_default task_places 0 (map f t.tasks.waits) (omega (arith, length-map t.tasks.waits f, F.wait_column)))

  pub task_added_lem : (c : ℕ) → task_added (pack_tasks t c) p ≡ pack_tasks (add_task t p) c
  unfolding task_added pack_tasks kind_code object_code timed_code due_code
  task_added_lem c = chosen _ _ _ (lt-ltb (task_count t) task_places room)
      ∙ same_tasks _ _ (code_added (due_code c) refl) (pad_snoc task_places 0 t.tasks.priorities p room) level_added
      (sym (pad_default task_places 0 t.tasks.outcomes (omega (arith, F.outcome_column)))) (code_added kind_code refl) (code_added object_code refl) (code_added timed_code refl)
      (sym (length-append t.tasks.priorities (p ∷ [])))
