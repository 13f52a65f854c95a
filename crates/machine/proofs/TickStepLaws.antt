-- Tick on a packed sound state is the packed rule: due times stand still while the clock goes on.
use Rattle.std.specs.Prelude.{◌≡◌, Bool, true, false, cond, not, length, get_or}
use Rattle.std.proofs.Math.Path.{refl, ap, sym}
use Rattle.std.proofs.Common.{◌∙◌, arith}
use mathlib.Core.List.{List, [], ◌∷◌, map}
use Rattle.std.proofs.Math.Logic.{inl, inr}
use Rattle.std.proofs.Math.Option.{Option, none}
use Prim.Native.Nat.{ℕ, suc, ◌+◌, ◌%◌}
use Rattle.std.proofs.Math.ListN.{get_or-map, length-map}
use Rattle.lists.specs.Table.{edit, pad, filled}
use Rattle.lists.specs.TestLaws.{which, by_test}
use Rattle.lists.specs.OrderLaws.{keep_all, keep_none}
use Rattle.lists.specs.TableLaws.{length_filled}
use Rattle.rules.specs.Sizes.{task_places, word_size, granted, timed_out}
use Rattle.rules.specs.Step.{tick}
use Rattle.rules.specs.Effect.{end_waits, ended, is_due, due, outcome_due, age, age_all, tick_of, effect}
use Rattle.rules.specs.Settle.{settle, dispatch}
use Rattle.rules.specs.Refusal.{refusals}
use Rattle.rules.specs.Sound.{wait_count}
use Rattle.rules.specs.Invariant.{Facts, Inv}
use Rattle.rules.proofs.FactsLaws.{wait_ended, facts_end, facts_age}
use Rattle.rules.proofs.WaiterLaws.{due_waits, not_due, outcome_due_lem, places_end}
use Rattle.task_lists.specs.TaskList.{task_list_of}
use Rattle.machine.specs.Planned.{plan_for}
use Rattle.moves.specs.declared.Move.TheVariants.{Nothing}  -- keep
use Rattle.record.specs.Record.{due_at, kind_code, object_code, timed_code, due_code, pack_tasks, pack_mutexes, pack_semaphores, pack}
use Rattle.record.specs.Setters.{put_level}
use Rattle.machine.specs.Machine.{due_flag, any_flag, settled, dispatched, woke, all_entered, answer_in, tick_step}
use Rattle.record.specs.PackLaws.{level_column, pack_with}
use Rattle.record.specs.ColumnLaws.{chosen, skipped, pad_ext}
use Rattle.machine.proofs.FlagLaws.{Flags, flag_one, no_flag}
use Rattle.machine.proofs.WaitLaws.{due_kind, aged_code, aged_kind, aged_object, aged_timed, due_flags}
use Rattle.machine.proofs.EffectLaws.{flagged_ended, woke_pack}
use Rattle.machine.proofs.ObjectLaws.{level_same, lends_age}
use Rattle.machine.proofs.RowLaws.{still, ruled, by_rows, on_accept, on_started}
use Rattle.machine.proofs.StageLaws.{settle_pack}
use Rattle.machine.proofs.FinishLaws.{quiet_pack, all_finish}
use Rattle.record.specs.declared.State.{State}  -- keep
use Rattle.record.specs.declared.Tasks.{Tasks}  -- keep
use Rattle.record.specs.Setters.{put_clock, put_tasks}  -- keep
use Rattle.rules.specs.State.{State as Model, level_of, with_tables, with_clock}  -- keep
use Rattle.rules.specs.Tables.{Tables, Wait, wait_of, with_tasks}  -- keep
use Rattle.rules.specs.Answer.{step_sound}  -- keep

-- a change that changes nothing
edit_same : {A : Type 0} (f : ℕ → A → A) (l : List A) → ((i : ℕ) (x : A) → f i x ≡ x) → edit f l ≡ l
unfolding edit
edit_same f [] h = refl
edit_same f (x ∷ l) h = rw (h 0 x, edit_same (λ i. f (suc i)) l (λ i. h (suc i))) refl

-- where nobody passes the test, no wait ends
end_nobody : (t : Tables) (p : ℕ → Bool) (out : ℕ → ℕ) → ((i : ℕ) → p i ≡ false) → end_waits t p out ≡ t
end_nobody t p out h = λ i. with_tasks t (record {
  priorities = t.tasks.priorities;
  outcomes = edit_same (λ j x. cond (p j) (out j) x) t.tasks.outcomes (λ j x. skipped _ _ _ (h j)) i;
  waits = edit_same (λ j x. cond (p j) none x) t.tasks.waits (λ j x. skipped _ _ _ (h j)) i;
  words = t.tasks.words;
  waiting = keep_all (λ j. not (p j)) t.tasks.waiting (λ y m. ap not (h y)) i;
})

-- the columns of waits that are a tick older
module _ (t : Tables) (F : Facts t) where
  aged_column : (f g : Option Wait → ℕ) → f none ≡ 0 → g none ≡ 0 → ((i : ℕ) → g (age (wait_of t i)) ≡ f (wait_of t i)) → pad task_places 0 (map f t.tasks.waits) ≡ pad task_places 0 (map g (age_all t).tasks.waits)
  unfolding age
  aged_column f g e h same = pad_ext task_places 0 (map f t.tasks.waits) (map g (age_all t).tasks.waits)
      (omega (arith, length-map t.tasks.waits f, F.wait_column, F.few_tasks)) (omega (arith, length-map (age_all t).tasks.waits g, length-map t.tasks.waits age, F.wait_column, F.few_tasks))
      (λ i. ap (get_or (map f t.tasks.waits) i) (sym e) ∙ get_or-map f t.tasks.waits i none ∙ sym (same i) ∙ ap g (sym (get_or-map age t.tasks.waits i none))
      ∙ sym (get_or-map g (age_all t).tasks.waits i none) ∙ ap (get_or (map g (age_all t).tasks.waits) i) h)

  tasks_aged : (c : ℕ) (l : List ℕ) → ((i : ℕ) → due t i ≡ false) → put_level (pack_tasks t c) l ≡ put_level (pack_tasks (age_all t) ((c + 1) % word_size)) l
  unfolding pack_tasks kind_code object_code timed_code due_code
  tasks_aged c l later = aged_columns (put_level (pack_tasks t c) l)
      (aged_column (due_code c) (due_code ((c + 1) % word_size)) refl refl (λ i. aged_code c (wait_of t i) (F.timed i) (later i)))
      (aged_column kind_code kind_code refl refl (λ i. aged_kind (wait_of t i)))
      (aged_column object_code object_code refl refl (λ i. aged_object (wait_of t i)))
      (aged_column timed_code timed_code refl refl (λ i. aged_timed (wait_of t i)))
    where
      columns : Tasks → List ℕ → List ℕ → List ℕ → List ℕ → Tasks
      columns k d w b m = record { due = d; priority = k.priority; level = k.level; outcome = k.outcome; wait = w; object = b; timed = m; n = k.n }

      aged_columns : (k : Tasks) {d d' w w' b b' m m' : List ℕ} → d ≡ d' → w ≡ w' → b ≡ b' → m ≡ m' → columns k d w b m ≡ columns k d' w' b' m'
      aged_columns k e f g h = rw (e, f, g, h) refl

-- a clock that goes on
aged_pack : (os : List ℕ) (s : Model) (l : List ℕ) → Facts s.tables → ((i : ℕ) → due s.tables i ≡ false)
    → put_clock (pack_with os l s) (due_at s.clock 1) ≡ pack_with os l (with_clock (with_tables s (age_all s.tables)) ((s.clock + 1) % word_size))
unfolding pack pack_with pack_mutexes pack_semaphores
aged_pack os s l F later = ap (λ z. put_clock (put_tasks (pack_with os l s) z) (due_at s.clock 1)) (tasks_aged s.tables F s.clock l later)

tick_done : (os : List ℕ) (s : Model) (k : State) → k ≡ pack os (dispatch (settle (level_of s) (tick_of s).state (tick_of s).woken)) → answer_in k 0 0 ≡ ruled (still os) s tick []
unfolding tick_of effect
tick_done os s k q = on_accept (still os) s tick (tick_of s) k refl refl q

module _ (os : List ℕ) (s : Model) (I : Inv s) where
  abbrev flags : List ℕ
  flags = filled task_places (due_flag (pack os s).tasks (pack os s).clock)

  abbrev expired : Tables
  expired = end_waits s.tables (due s.tables) (λ i. outcome_due (wait_of s.tables i))

  flags_due : Flags flags (due s.tables)
  unfolding pack
  flags_due = due_flags s.tables I.facts s.clock I.clock_in

  wide : length flags ≡ task_places
  wide = length_filled task_places (due_flag (pack os s).tasks (pack os s).clock)

  named : (i : ℕ) → due s.tables i ≡ true → wait_count (wait_of s.tables i) ≡ 1
  named i e = due_waits (wait_of s.tables i) e

  expired_facts : Facts expired
  expired_facts = facts_end s.tables (due s.tables) (λ i. outcome_due (wait_of s.tables i)) (λ i q. outcome_due_lem (wait_of s.tables i)) I.facts

  later : (i : ℕ) → due expired i ≡ false
  later i = rw (wait_ended s.tables (due s.tables) (λ j. outcome_due (wait_of s.tables j)) i)
      (by_test (λ (w : Option Wait). is_due w ≡ false) (due s.tables i) (λ e. not_due) (λ e. e))

  -- some waits are due
  due_base : settled (put_clock (woke (pack os s) flags granted timed_out) (due_at s.clock 1)) ≡ pack os (settle (level_of s) (tick_of s).state [])
  unfolding tick_of
  due_base =
      ap (λ z. settled (put_clock z (due_at s.clock 1))) (woke_pack os s I.facts (due s.tables) named flags flags_due
      (λ i. outcome_due (wait_of s.tables i)) granted timed_out (λ i e. due_kind (wait_of s.tables i) e))
      ∙ ap settled (aged_pack os (with_tables s expired) (level_column s.tables) expired_facts later)
      ∙ settle_pack os s (with_clock (with_tables s (age_all expired)) ((s.clock + 1) % word_size)) (facts_age expired later expired_facts) refl (λ i. omega (arith, I.places i)) I.ascending

  due_finish : dispatched (all_entered (settled (put_clock (woke (pack os s) flags granted timed_out) (due_at s.clock 1))) (task_list_of s.tables.tasks.waiting) flags)
      ≡ pack os (dispatch (settle (level_of s) (tick_of s).state (tick_of s).woken))
  unfolding tick_of
  due_finish = all_finish os s I (tick_of s).state (ended s.tables (due s.tables)) (facts_age expired later expired_facts)
      (places_end s (age_all expired) (due s.tables) refl refl I.places) _ due_base s.tables.tasks.waiting flags (flagged_ended s.tables (due s.tables) flags flags_due)

  -- none is
  nobody_due : any_flag flags ≡ false → (i : ℕ) → due s.tables i ≡ false
  nobody_due e i = sym (flag_one flags (due s.tables) flags_due i) ∙ no_flag flags wide e i

  still_finish : ((i : ℕ) → due s.tables i ≡ false) → put_clock (pack os s) (due_at s.clock 1) ≡ pack os (dispatch (settle (level_of s) (tick_of s).state (tick_of s).woken))
  unfolding tick_of pack pack_tasks pack_with level_column
  still_finish none-due = aged_pack os s (level_column s.tables) I.facts none-due
      ∙ quiet_pack os s I (age_all s.tables) ((s.clock + 1) % word_size) s.hold (facts_age s.tables none-due I.facts) refl refl
      (level_same s.tables (age_all s.tables) (lends_age s.tables) refl) (λ z. z)
      ∙ ap (λ t. pack os (dispatch (settle (level_of s) (with_clock (with_tables s (age_all t)) ((s.clock + 1) % word_size)) [])))
      (sym (end_nobody s.tables (due s.tables) (λ i. outcome_due (wait_of s.tables i)) none-due))
      ∙ ap (λ w. pack os (dispatch (settle (level_of s) (with_clock (with_tables s (age_all expired)) ((s.clock + 1) % word_size)) w)))
      (sym (keep_none (due s.tables) s.tables.tasks.waiting (λ y m. none-due y)))

  pub tick_pack : tick_step (pack os s) ≡ plan_for os Nothing (step_sound s tick)
  unfolding tick_step pack refusals effect
  tick_pack = by_rows os s tick (on_started (still os) s I tick _ (λ on. elim (which (any_flag flags)) [
    | inl e ↦ chosen _ _ _ e ∙ tick_done os s _ due_finish
    | inr e ↦ skipped _ _ _ e ∙ tick_done os s _ (still_finish (nobody_due e))
  ]))
