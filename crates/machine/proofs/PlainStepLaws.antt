-- Steps that begin and end no wait, on a packed sound state: each is the packed rule.
use Rattle.std.specs.Prelude.{◌≡◌, true, false, ltb, eqb, length, get_or}
use Rattle.std.proofs.Math.Path.{refl, ap}
use Rattle.std.proofs.Common.{sym, ◌∙◌, arith}
use mathlib.Core.List.{List, [], ◌∷◌}
use Rattle.std.proofs.Math.Option.{none, some}
use Prim.Native.Nat.{ℕ, ◌+◌, ◌-◌, ◌≤◌, ◌<◌}
use borrow.Author.Tests.{ltb-false, leb-false, eqb-false}
use Rattle.lists.specs.Count.{occ, opt}
use Rattle.lists.specs.Order.{insert_tail}
use Rattle.lists.specs.TestLaws.{clash, or_none}
use Rattle.lists.specs.CountLaws.{below_le, pigeonhole}
use Rattle.lists.specs.TableLaws.{get_d_pad}
use Rattle.rules.specs.Sizes.{max_tasks, task_places, max_mutexes, max_semaphores, levels, kinds}
use Rattle.rules.specs.Levels.{level_in}
use Rattle.rules.specs.Step.{task, mutex, sem, start, yield, hold, free, level, outcome}
use Rattle.rules.specs.Effect.{done, add_task, add_mutex, add_sem, yield_by, effect}
use Rattle.rules.specs.Settle.{settled_ready, settle, dispatch}
use Rattle.rules.specs.Refusal.{refusals}
use Rattle.rules.specs.Invariant.{Inv}
use Rattle.rules.proofs.SettleLaws.{settled_one}
use Rattle.rules.proofs.WaiterLaws.{wait_none}
use Rattle.rules.proofs.CreationLaws.{facts_add_mutex, facts_add_sem, ready_in}
use Rattle.task_lists.specs.TaskList.{no_id, task_list_of, tailed, id_of}
use Rattle.task_lists.specs.TaskListLaws.{tail_task_list_of}
use Rattle.machine.specs.Planned.{plan_for}
use Rattle.moves.specs.declared.Move.TheVariants.{Nothing}  -- keep
use Rattle.record.specs.Record.{pack_tasks, pack_mutexes, pack_semaphores, pack}
use Rattle.machine.specs.Machine.{dispatched, entered, task_added, answer_in, task_step, mutex_step, sem_step, start_step, yield_step, hold_step, free_step, level_step, outcome_step}
use Rattle.record.specs.PackLaws.{level_column, pack_with}
use Rattle.record.specs.ReadLaws.{key_levels, level_read}
use Rattle.record.specs.ColumnLaws.{chosen, skipped}
use Rattle.machine.proofs.StageLaws.{unchanged_pack}
use Rattle.machine.proofs.ObjectLaws.{mutex_added_lem, sem_added_lem, level_same, lends_none, old_level, task_added_lem}
use Rattle.machine.proofs.RowLaws.{still, by_rows, on_row, on_accept, held_on, held_off, either, called_some, id_some, on_caller, on_set_up}
use Rattle.machine.proofs.FinishLaws.{dispatch_still, quiet_pack, one_finish, unchanged_finish}
use Rattle.record.specs.Setters.{put_ready, put_running, put_mutexes, put_semaphores, put_tasks}  -- keep
use Rattle.rules.specs.State.{State as Model, level_of, placed, with_tables}  -- keep
use Rattle.rules.specs.State.{with_hold, with_started}  -- keep
use Rattle.rules.specs.Tables.{Tables, task_count, mutex_count, sem_count, outcome_of, wait_of}  -- keep
use Rattle.rules.specs.Answer.{step_sound}  -- keep

module _ (os : List ℕ) (s : Model) (I : Inv s) where
  -- nothing changes
  pub idle_pack : pack os s ≡ pack os (dispatch (settle (level_of s) s []))
  unfolding pack pack_tasks pack_with level_column
  idle_pack = quiet_pack os s I s.tables s.clock s.hold I.facts refl refl (λ i. refl) (λ e. e)

  pub level_step_pack : (i : ℕ) → level_step (pack os s) i ≡ plan_for os Nothing (step_sound s (level i))
  unfolding level_step pack pack_tasks refusals effect
  level_step_pack i = by_rows os s (level i) (on_row (still os) s (level i) _ _ refl (λ e. chosen _ _ _ e) (λ e. skipped _ _ _ e
      ∙ ap (answer_in (pack os s) 0) (level_read s.tables s.clock i) ∙ on_accept (still os) s (level i) (done s [] (level_of s i)) (pack os s) refl refl idle_pack))

  pub outcome_pack : (i : ℕ) → outcome_step (pack os s) i ≡ plan_for os Nothing (step_sound s (outcome i))
  unfolding outcome_step pack pack_tasks refusals effect
  outcome_pack i = by_rows os s (outcome i) (on_row (still os) s (outcome i) _ _ refl (λ e. chosen _ _ _ e) (λ e. skipped _ _ _ e
      ∙ ap (answer_in (pack os s) 0) (get_d_pad task_places 0 s.tables.tasks.outcomes i) ∙ on_accept (still os) s (outcome i) (done s [] (outcome_of s.tables i)) (pack os s) refl refl idle_pack))

  pub hold_pack : hold_step (pack os s) ≡ plan_for os Nothing (step_sound s hold)
  unfolding hold_step pack pack_tasks pack_with level_column refusals effect
  hold_pack = by_rows os s hold (on_caller (still os) s I hold _ (λ r a b run. on_row (still os) s hold _ _ refl (λ e. chosen _ _ _ e) (λ e. skipped _ _ _ e
      ∙ on_accept (still os) s hold (done (with_hold s (s.hold + 1)) [] 0) _ refl refl
      (quiet_pack os s I s.tables s.clock (s.hold + 1) I.facts refl refl (λ i. refl) (λ z. absurd (omega arith))))))

  pub free_pack : free_step (pack os s) ≡ plan_for os Nothing (step_sound s free)
  unfolding free_step pack pack_tasks pack_with level_column refusals effect
  free_pack = by_rows os s free (on_caller (still os) s I free _ (λ r a b run. on_row (still os) s free _ _ refl (λ e. chosen _ _ _ e) (λ e. skipped _ _ _ e
      ∙ on_accept (still os) s free (done (with_hold s (s.hold - 1)) [] 0) _ refl refl
      (unchanged_finish os s I (with_hold s (s.hold - 1)) I.facts refl I.places I.ascending (λ i. refl)))))

  pub start_pack : start_step (pack os s) ≡ plan_for os Nothing (step_sound s start)
  unfolding start_step pack pack_tasks pack_with level_column refusals effect
  start_pack = by_rows os s start (on_set_up (still os) s I start _ (λ e.
      on_accept (still os) s start (done (with_started s true) [] 0) _ refl refl
      (unchanged_finish os s I (with_started s true) I.facts refl I.places I.ascending (λ i. refl))))

  -- the caller goes to the tail of its level
  yield_ready : (r : ℕ) → s.running ≡ some r
      → dispatched (put_running (entered (pack os s) (pack os s).running) no_id) ≡ pack os (dispatch (settle (level_of s) (placed s none s.ready) (r ∷ [])))
  unfolding pack pack_tasks pack_with level_column entered occ id_of
  yield_ready r run =
      ap (λ x. dispatched (put_running (entered (pack os s) x) no_id)) (id_some s.running r run)
      ∙ one_finish os s I (placed s none s.ready) (r ∷ []) I.facts (λ i. omega (arith, I.places i, ap (λ o. occ i (opt o)) run))
      (pack os (placed s none s.ready)) (unchanged_pack os s (placed s none s.ready) refl I.ascending (λ i h. refl)) r refl

  pub yield_pack : yield_step (pack os s) ≡ plan_for os Nothing (step_sound s yield)
  unfolding yield_step pack pack_tasks refusals effect yield_by
  yield_pack = by_rows os s yield (on_caller (still os) s I yield _ (λ r a b run. on_row (still os) s yield _ _ refl (λ e. skipped _ _ _ (held_on s.hold e)) (λ e. chosen _ _ _ (held_off s.hold e)
      ∙ on_accept (still os) s yield (yield_by s r) _ (called_some s s.running (yield_by s) r run) refl (yield_ready r run))))

  -- creation
  module _ (off : s.started ≡ false) where
    silent : (i : ℕ) → wait_of s.tables i ≡ none
    silent i = wait_none (wait_of s.tables i) (sym (I.facts.waiting i) ∙ (I.at_set_up off).nobody_waits i)

    -- nobody lends, before and after
    lone : (t : Tables) → t.tasks.waits ≡ s.tables.tasks.waits → t.tasks.priorities ≡ s.tables.tasks.priorities → (i : ℕ) → level_in t i ≡ level_of s i
    lone t e f = level_same s.tables t (λ i. lends_none t i (ap (λ l. get_or l i none) e ∙ silent i) ∙ sym (lends_none s.tables i (silent i))) f

  pub mutex_pack : (q : ℕ) → mutex_step (pack os s) q ≡ plan_for os Nothing (step_sound s (mutex q))
  unfolding mutex_step pack pack_tasks pack_mutexes pack_semaphores pack_with level_column refusals effect
  mutex_pack q = by_rows os s (mutex q) (on_set_up (still os) s I (mutex q) _ (λ off. on_row (still os) s (mutex q) _ _ refl (λ e. chosen _ _ _ e) (λ e. skipped _ _ _ e
      ∙ on_row (still os) s (mutex q) _ _ refl (λ f. chosen _ _ _ f) (λ f. skipped _ _ _ f
      ∙ on_accept (still os) s (mutex q) (done (with_tables s (add_mutex s.tables q)) [] (mutex_count s.tables)) _ refl refl
      (ap (put_mutexes (pack os s)) (mutex_added_lem s.tables I.facts q (leb-false max_mutexes (mutex_count s.tables) f))
      ∙ quiet_pack os s I (add_mutex s.tables q) s.clock s.hold
      (facts_add_mutex s.tables q (leb-false kinds q e) (leb-false max_mutexes (mutex_count s.tables) f) I.facts) refl refl (lone off (add_mutex s.tables q) refl refl) (λ z. z))))))

  pub sem_pack : (count max : ℕ) → sem_step (pack os s) count max ≡ plan_for os Nothing (step_sound s (sem count max))
  unfolding sem_step pack pack_tasks pack_mutexes pack_semaphores pack_with level_column refusals effect
  sem_pack count max = by_rows os s (sem count max) (on_set_up (still os) s I (sem count max) _ (λ off. either _ _ _ _ ∙ on_row (still os) s (sem count max) _ _ refl (λ e. chosen _ _ _ e) (λ e. skipped _ _ _ e
      ∙ on_row (still os) s (sem count max) _ _ refl (λ f. chosen _ _ _ f) (λ f. skipped _ _ _ f
      ∙ (let d = or_none (eqb max 0) (ltb max count) e in
      let room = leb-false max_semaphores (sem_count s.tables) f in
      on_accept (still os) s (sem count max) (done (with_tables s (add_sem s.tables count max)) [] (sem_count s.tables)) _ refl refl
      (ap (put_semaphores (pack os s)) (sem_added_lem s.tables I.facts count max room)
      ∙ quiet_pack os s I (add_sem s.tables count max) s.clock s.hold
      (facts_add_sem s.tables count max (omega (arith, eqb-false max 0 d.0)) (ltb-false max count d.1) room I.facts) refl refl
      (lone off (add_sem s.tables count max) refl refl) (λ z. z)))))))

  -- "A task becomes ready at the tail of its level."
  module _ (off : s.started ≡ false) (p : ℕ) (low : p < levels) (room : task_count s.tables < task_places) where
    abbrev grown : Tables
    grown = add_task s.tables p

    ready_short : length s.ready ≤ task_count s.tables
    ready_short = pigeonhole (task_count s.tables) s.ready (λ y. omega (arith, I.places y, below_le y (task_count s.tables))) (ready_in s I)

    order : settled_ready (task_count grown) (level_of s) (level_in grown) s.ready (task_count s.tables ∷ []) ≡ insert_tail (level_in grown) (task_count s.tables) s.ready
    order = settled_one (task_count grown) (task_count s.tables) (level_of s) (level_in grown) s.ready
        (λ i m. old_level s.tables I.facts (silent off) p low room i (ready_in s I i m)) I.ascending

    last : tailed (task_list_of s.ready) (pack_tasks grown s.clock).level (task_count s.tables)
        ≡ task_list_of (settled_ready (task_count grown) (level_of s) (level_in grown) s.ready (task_count s.tables ∷ []))
    unfolding pack_tasks level_column
    last = tail_task_list_of (pack_tasks grown s.clock).level (task_count s.tables) s.ready (omega (arith, ready_short))
        ∙ ap (λ (f : ℕ → ℕ). task_list_of (insert_tail f (task_count s.tables) s.ready)) (key_levels grown) ∙ ap task_list_of (sym order)

    made_pack : entered (put_tasks (pack os s) (task_added (pack os s).tasks p)) (pack os s).tasks.n ≡ pack os (dispatch (settle (level_of s) (with_tables s grown) (task_count s.tables ∷ [])))
    unfolding entered pack pack_mutexes pack_semaphores pack_tasks
    made_pack =
        ap (λ z. put_ready (put_tasks (pack os s) z) (tailed (task_list_of s.ready) z.level (task_count s.tables)))
        (task_added_lem s.tables I.facts (silent off) p low room s.clock)
        ∙ ap (λ q. put_ready (put_tasks (pack os s) (pack_tasks grown s.clock)) q) last
        ∙ ap (pack os) (sym (dispatch_still (settle (level_of s) (with_tables s grown) (task_count s.tables ∷ [])) (λ e. absurd (clash e off))))

  pub task_pack : (p : ℕ) → task_step (pack os s) p ≡ plan_for os Nothing (step_sound s (task p))
  unfolding task_step pack pack_tasks refusals effect
  task_pack p = by_rows os s (task p) (on_set_up (still os) s I (task p) _ (λ off. on_row (still os) s (task p) _ _ refl (λ e. chosen _ _ _ e) (λ e. skipped _ _ _ e
      ∙ on_row (still os) s (task p) _ _ refl (λ f. chosen _ _ _ f) (λ f. skipped _ _ _ f
      ∙ on_accept (still os) s (task p) (done (with_tables s (add_task s.tables p)) (task_count s.tables ∷ []) (task_count s.tables)) _ refl refl
      (made_pack off p (leb-false levels p e) (omega (arith, leb-false max_tasks (task_count s.tables) f)))))))
