-- Each effect on the packed tables is the packing of the rules' effect, with the old table of levels.
use Rattle.std.specs.Prelude.{◌≡◌, refl, List, ◌∷◌, map, Bool, true, not, ℕ, suc, ◌≤◌, ◌<◌, eqb, length, get_or, set}
use Rattle.std.proofs.Math.Path.{ap, fun_ext}
use Rattle.std.proofs.Common.{sym, ◌∙◌, inl, inr, arith, lt-ltb}
use Rattle.std.proofs.Math.Bool.{cond}
use Rattle.std.proofs.Math.Option.{Option, none, some}
use Rattle.std.proofs.Math.Decide.{dec_lt}
use Rattle.std.proofs.Math.ListN.{get_or-eq_default, get_or-map}
use Rattle.std.proofs.lemmas.List.{length-map}
use Rattle.lists.specs.Test.{someb}
use Rattle.lists.specs.Count.{occ, opt}
use Rattle.lists.specs.Order.{keep}
use Rattle.lists.specs.Table.{pad}
use Rattle.lists.specs.TestLaws.{which, by_test}
use Rattle.lists.specs.CountLaws.{in_below, below_le, pigeonhole}
use Rattle.lists.specs.TableLaws.{length_edit, get_d_edit, pad_set, get_d_pad}
use Rattle.rules.specs.Sizes.{task_places, forever, pending, on_time}
use Rattle.rules.specs.Effect.{begin_wait, end_waits, ended}
use Rattle.rules.specs.Sound.{wait_count}
use Rattle.rules.specs.Invariant.{Facts, Inv}
use Rattle.rules.proofs.FactsLaws.{wait_ended}
use Rattle.rules.proofs.WaiterLaws.{wait_in_lem}
use Rattle.rules.proofs.StepLaws.{caller_in}
use Rattle.task_lists.specs.TaskList.{no_id, task_list_of, key_of, pushed, kept, id_of}
use Rattle.task_lists.specs.TaskListLaws.{push_task_list_of, kept_task_list_of}
use Rattle.record.specs.Record.{left_code, kind_code, object_code, timed_code, due_code, pack_tasks, pack_mutexes, pack_semaphores, pack}
use Rattle.record.specs.Setters.{put_tasks, put_level}
use Rattle.machine.specs.Machine.{wait_begun, put_flagged, outcome_on, ended_where, woke, timed_for, due_for, blocked_on}
use Rattle.record.specs.PackLaws.{level_column, pack_with}
use Rattle.record.specs.ColumnLaws.{chosen, map_set, wait_code}
use Rattle.machine.proofs.FlagLaws.{Flags, flag_one, flag_zero, flagged_column}
use Rattle.record.specs.declared.Tasks.{Tasks}  -- keep
use Rattle.record.specs.Setters.{put_waiting, put_running}  -- keep
use Rattle.rules.specs.State.{State as Model, placed, with_tables}  -- keep
use Rattle.rules.specs.Tables.{awaited_kind, awaited_object, Tables, Wait, Awaited, task_count, outcome_of, wait_of, ticks_of, wait_for}  -- keep

-- the columns that waits change
abbrev columns : Tasks → List ℕ → List ℕ → List ℕ → List ℕ → List ℕ → Tasks
columns t d o w b m = record { due = d; priority = t.priority; level = t.level; outcome = o; wait = w; object = b; timed = m; n = t.n }

same_columns : (t : Tasks) {d d' o o' w w' b b' m m' : List ℕ} → d ≡ d' → o ≡ o' → w ≡ w' → b ≡ b' → m ≡ m' → columns t d o w b m ≡ columns t d' o' w' b' m'
same_columns t e f g h k = rw (e, f, g, h, k) refl

-- the flagged ones of the waiting order are who becomes ready, in that order
pub flagged_ended : (t : Tables) (p : ℕ → Bool) (flags : List ℕ) → Flags flags p → keep (λ i. eqb (key_of flags i) 1) t.tasks.waiting ≡ ended t p
flagged_ended t p flags fl = ap (λ (q : ℕ → Bool). keep q t.tasks.waiting) (fun_ext (flag_one flags p fl))

-- the waits of those who pass the test end
module _ (t : Tables) (F : Facts t) (p : ℕ → Bool) (named : (i : ℕ) → p i ≡ true → wait_count (wait_of t i) ≡ 1) where
  module _ (flags : List ℕ) (fl : Flags flags p) where
    -- the order of the waits
    pub kept_ended : kept (task_list_of t.tasks.waiting) flags 0 ≡ task_list_of (keep (λ i. not (p i)) t.tasks.waiting)
    kept_ended = kept_task_list_of flags 0 t.tasks.waiting ∙ ap (λ (q : ℕ → Bool). task_list_of (keep q t.tasks.waiting)) (fun_ext (flag_zero flags p fl))

    -- a column of codes
    module _ (out : ℕ → ℕ) where
      ended_code : (f : Option Wait → ℕ) → f none ≡ 0
          → put_flagged flags (λ i. 0) (pad task_places 0 (map f t.tasks.waits)) ≡ pad task_places 0 (map f (end_waits t p out).tasks.waits)
      ended_code f e = flagged_column flags (λ i. 0) (pad task_places 0 (map f t.tasks.waits)) (map f (end_waits t p out).tasks.waits)
          (omega (arith, length-map (end_waits t p out).tasks.waits f, length_edit (λ i x. cond (p i) none x) t.tasks.waits, F.wait_column, F.few_tasks))
          (λ i. ap (λ b. cond b 0 (get_or (pad task_places 0 (map f t.tasks.waits)) i 0)) (flag_one flags p fl i)
          ∙ ap (cond (p i) 0) (wait_code t f i e)
          ∙ by_test (λ (z : ℕ). z ≡ f (cond (p i) none (wait_of t i))) (p i) (λ q. rw q (sym e)) (λ q. rw q refl)
          ∙ ap f (sym (wait_ended t p out i)) ∙ sym (get_or-map f (end_waits t p out).tasks.waits i none) ∙ ap (get_or (map f (end_waits t p out).tasks.waits) i) e)

      module _ (v : ℕ → ℕ) (same : (i : ℕ) → p i ≡ true → v i ≡ out i) where
        ended_outcome : put_flagged flags v (pad task_places 0 t.tasks.outcomes) ≡ pad task_places 0 (end_waits t p out).tasks.outcomes
        ended_outcome = flagged_column flags v (pad task_places 0 t.tasks.outcomes) (end_waits t p out).tasks.outcomes
            (omega (arith, length_edit (λ i x. cond (p i) (out i) x) t.tasks.outcomes, F.outcome_column, F.few_tasks))
            (λ i. ap (λ b. cond b (v i) (get_or (pad task_places 0 t.tasks.outcomes) i 0)) (flag_one flags p fl i)
            ∙ ap (cond (p i) (v i)) (get_d_pad task_places 0 t.tasks.outcomes i)
            ∙ at i)
          where
            at : (i : ℕ) → cond (p i) (v i) (outcome_of t i) ≡ get_or (end_waits t p out).tasks.outcomes i 0
            at i = elim (dec_lt i (task_count t)) [
              | yes h ↦ by_test (λ (z : ℕ). z ≡ cond (p i) (out i) (outcome_of t i)) (p i) (λ q. rw q (same i q)) (λ q. rw q refl)
                  ∙ sym (get_d_edit (λ j x. cond (p j) (out j) x) 0 t.tasks.outcomes i (omega (arith, F.outcome_column)))
              | no h ↦ by_test (λ (z : ℕ). z ≡ get_or (end_waits t p out).tasks.outcomes i 0) (p i)
                  (λ q. absurd (h (wait_in_lem t F i (omega (arith, named i q)))))
                  (λ q. get_or-eq_default t.tasks.outcomes 0 (omega (arith, F.outcome_column))
                  ∙ sym (get_or-eq_default (end_waits t p out).tasks.outcomes 0 (omega (arith, length_edit (λ j x. cond (p j) (out j) x) t.tasks.outcomes, F.outcome_column))))
            ]

      module _ (c slept other : ℕ) (same : (i : ℕ) → p i ≡ true → cond (eqb (kind_code (wait_of t i)) on_time) slept other ≡ out i) where
        pub tasks_ended : ended_where (pack_tasks t c) flags slept other ≡ put_level (pack_tasks (end_waits t p out) c) (level_column t)
        unfolding ended_where outcome_on pack_tasks level_column kind_code object_code timed_code due_code
        tasks_ended = same_columns (pack_tasks t c) (ended_code (due_code c) refl)
            (ended_outcome (λ i. outcome_on (key_of (pack_tasks t c).wait i) slept other) (λ i e. ap (λ z. cond (eqb z on_time) slept other) (wait_code t kind_code i refl) ∙ same i e))
            (ended_code kind_code refl) (ended_code object_code refl) (ended_code timed_code refl)

pub woke_pack : (o : List ℕ) (s : Model) → Facts s.tables → (p : ℕ → Bool) → ((i : ℕ) → p i ≡ true → wait_count (wait_of s.tables i) ≡ 1) → (flags : List ℕ) → Flags flags p
    → (out : ℕ → ℕ) (slept other : ℕ) → ((i : ℕ) → p i ≡ true → cond (eqb (kind_code (wait_of s.tables i)) on_time) slept other ≡ out i)
    → woke (pack o s) flags slept other ≡ pack_with o (level_column s.tables) (with_tables s (end_waits s.tables p out))
unfolding woke pack pack_with pack_semaphores pack_mutexes
woke_pack o s F p named flags fl out slept other same =
    ap (λ z. put_waiting (put_tasks (pack o s) z) (kept (pack o s).waiting flags 0)) (tasks_ended s.tables F p named flags fl out s.clock slept other same)
    ∙ ap (λ z. put_waiting (put_tasks (pack o s) (put_level (pack_tasks (end_waits s.tables p out) s.clock) (level_column s.tables))) z) (kept_ended s.tables F p named flags fl)

-- a wait that begins, as it stands in the places of a task
timed_for_lem : (a : Awaited) (t : ℕ) → timed_for t ≡ timed_code (some (wait_for a t))
unfolding timed_for timed_code ticks_of someb
timed_for_lem a t = elim (which (eqb t forever)) [ inl e ↦ rw e refl | inr e ↦ rw e refl ]

due_for_lem : (a : Awaited) (c t : ℕ) → due_for c t ≡ due_code c (some (wait_for a t))
unfolding due_for due_code left_code ticks_of
due_for_lem a c t = elim (which (eqb t forever)) [ inl e ↦ rw e refl | inr e ↦ rw e refl ]

module _ (t : Tables) (F : Facts t) (r : ℕ) (h : r < task_count t) where
  begun_code : (f : Option Wait → ℕ) (w : Wait) {v : ℕ} → v ≡ f (some w) → set (pad task_places 0 (map f t.tasks.waits)) r v ≡ pad task_places 0 (map f (set t.tasks.waits r (some w)))
  begun_code f w e = ap (set (pad task_places 0 (map f t.tasks.waits)) r) e
      ∙ pad_set task_places 0 (map f t.tasks.waits) r (f (some w)) (omega (arith, length-map t.tasks.waits f, F.wait_column)) ∙ ap (pad task_places 0) (sym (map_set f t.tasks.waits r (some w)))

  tasks_begun : (c : ℕ) (a : Awaited) (x : ℕ)
      → wait_begun (pack_tasks t c) r (awaited_kind a) (awaited_object a) (timed_for x) (due_for c x) ≡ put_level (pack_tasks (begin_wait t r (wait_for a x)) c) (level_column t)
  unfolding pack_tasks level_column wait_begun kind_code object_code
  tasks_begun c a x = chosen _ _ _ (lt-ltb r task_places (omega (arith, F.few_tasks)))
      ∙ same_columns (pack_tasks t c) (begun_code (due_code c) (wait_for a x) (due_for_lem a c x)) (pad_set task_places 0 t.tasks.outcomes r pending (omega (arith, F.outcome_column)))
      (begun_code kind_code (wait_for a x) refl) (begun_code object_code (wait_for a x) refl) (begun_code timed_code (wait_for a x) (timed_for_lem a x))

-- the caller waits
module _ (o : List ℕ) (s : Model) (I : Inv s) (r : ℕ) (run : s.running ≡ some r) where
  waiting_short : suc (length s.tables.tasks.waiting) ≤ task_count s.tables
  unfolding occ
  waiting_short = pigeonhole (task_count s.tables) (r ∷ s.tables.tasks.waiting)
      (λ y. omega (arith, I.places y, ap (λ o. occ y (opt o)) run, below_le y (task_count s.tables)))
      (λ y m. in_below y (task_count s.tables) (omega (arith, I.places y, ap (λ o. occ y (opt o)) run)))

  pub blocked_pack : (a : Awaited) (x : ℕ)
      → blocked_on (pack o s) r (awaited_kind a) (awaited_object a) x ≡ pack_with o (level_column s.tables) (placed (with_tables s (begin_wait s.tables r (wait_for a x))) none s.ready)
  unfolding blocked_on pack pack_with pack_mutexes pack_semaphores id_of
  blocked_pack a x =
      ap (λ z. put_running (put_waiting (put_tasks (pack o s) z) (pushed (pack o s).waiting r)) no_id) (tasks_begun s.tables I.facts r (caller_in s I r run) s.clock a x)
      ∙ ap (λ z. put_running (put_waiting (put_tasks (pack o s) (put_level (pack_tasks (begin_wait s.tables r (wait_for a x)) s.clock) (level_column s.tables))) z) no_id)
      (push_task_list_of s.tables.tasks.waiting r (omega (arith, waiting_short, I.facts.few_tasks)))
