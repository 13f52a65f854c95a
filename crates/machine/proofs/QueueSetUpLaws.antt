-- A queue made, and a word read, on a packed sound state: the packed rule.
use Rattle.std.specs.Prelude.{◌≡◌, true, false, not, ℕ, ◌+◌, ◌*◌, ltb, length, get_or}
use Rattle.std.proofs.Math.Path.{refl, ap, sym}
use Rattle.std.proofs.Common.{◌∙◌, arith}
use mathlib.Core.List.{List, [], ◌∷◌, ◌++◌}
use Rattle.std.proofs.Math.Bool.{cond}
use Rattle.std.proofs.Math.Option.{Option, none, some}
use Rattle.std.proofs.Math.Decide.{dec_lt}
use Rattle.std.proofs.Math.Dec.{leb}
use borrow.Author.Tests.{leb-false, ltb-false, not-true, not-false, lt-ltb, le-ltb, le-leb, lt-leb}
use Rattle.lists.specs.Test.{◌and◌, ◌or◌}
use Rattle.lists.specs.TestLaws.{clash, and_l, and_r, or_none}
use Rattle.rules.specs.Sizes.{max_queues, held_words}
use Rattle.rules.specs.Tables.{QueueTable, task_count, queue_count, wait_of, words_of, space_taken}
use Rattle.rules.specs.Step.{Step, queue, word}
use Rattle.rules.specs.Effect.{done, add_queue, effect}
use Rattle.rules.specs.Refusal.{Row, ◌when◌, refusals}
use Rattle.rules.specs.Sound.{is_width, is_depth, existsb}
use Rattle.rules.specs.Invariant.{Inv}
use Rattle.rules.proofs.SoundLaws.{depth_true, exists_true}
use Rattle.rules.proofs.CreationLaws.{facts_add_queue}
use Rattle.rules.proofs.WaiterLaws.{wait_none}
use Rattle.rules.specs.Answer.{step_sound}
use Rattle.task_lists.specs.TaskList.{id_of}
use Rattle.record.specs.Record.{pack_tasks, pack_mutexes, pack_semaphores, pack_queues, pack, pack_words}
use Rattle.record.specs.PackLaws.{level_column, pack_with}
use Rattle.record.specs.ColumnLaws.{chosen, skipped}
use Rattle.record.specs.WordsPackLaws.{word_packed}
use Rattle.machine.specs.Planned.{plan_for}
use Rattle.machine.specs.Machine.{queue_added, too_large, answer_in, queue_made, queue_step, owned_queue_step, word_step}
use Rattle.machine.proofs.ObjectLaws.{level_same, lends_none}
use Rattle.machine.proofs.QueueObjectLaws.{taken_packed, queue_added_lem}
use Rattle.machine.proofs.RowLaws.{Course, still, ruled, by_rows, on_row, on_accept, on_set_up, either}
use Rattle.machine.proofs.FinishLaws.{quiet_pack}
use Rattle.machine.proofs.PlainStepLaws.{idle_pack}
use Rattle.machine.proofs.SendStepLaws.{going}
use Rattle.moves.specs.declared.Move.TheVariants.{Nothing}  -- keep
use Rattle.record.specs.Setters.{put_queues}  -- keep
use Rattle.rules.specs.State.{State as Model, with_tables}  -- keep

-- no task has a number that is not below their count
not_below : (o n : ℕ) → not (ltb o n) ≡ leb n o
not_below o n = elim (dec_lt o n) [ yes h ↦ rw (lt-ltb o n h, lt-leb n o h) refl | no h ↦ rw (le-ltb o n (omega arith), le-leb n o (omega arith)) refl ]

exists_none : (n : ℕ) → existsb n none ≡ true
unfolding existsb
exists_none n = refl

exists_some : (n o : ℕ) → not (existsb n (some o)) ≡ leb n o
unfolding existsb
exists_some n o = not_below o n

packed_count : (os : List ℕ) (x : QueueTable) → (pack_queues os x).n ≡ length x.owners
unfolding pack_queues
packed_count os x = refl

packed_tasks : (os : List ℕ) (s : Model) → (pack os s).tasks.n ≡ task_count s.tables
unfolding pack pack_tasks
packed_tasks os s = refl

module _ (os : List ℕ) (s : Model) (I : Inv s) where
  -- `word` is allowed as `level` is
  pub word_pack : (i n : ℕ) → word_step (pack os s) i n (pack_words s.tables) ≡ plan_for os Nothing (step_sound s (word i n))
  unfolding word_step pack pack_tasks refusals effect
  word_pack i n = by_rows os s (word i n) (on_row (still os) s (word i n) _ _ refl (λ e. chosen _ _ _ e) (λ e. skipped _ _ _ e
      ∙ on_row (still os) s (word i n) _ _ refl (λ f. chosen _ _ _ f) (λ f. skipped _ _ _ f
      ∙ ap (answer_in (pack os s) 0) (word_packed s.tables I.facts i n (leb-false (task_count s.tables) i e) (leb-false held_words n f))
      ∙ on_accept (still os) s (word i n) (done s [] (get_or (words_of s.tables i) n 0)) (pack os s) refl refl (idle_pack os s I))))

  module _ (column : length os ≡ queue_count s.tables) (space : ℕ) (spaced : space ≡ s.tables.queues.space) (w d : ℕ) (p : Option ℕ) where
    abbrev x : Step
    x = queue w d p

    abbrev c : Course
    c = going os s I (os ++ (0 ∷ [])) Nothing

    abbrev later : List Row
    later = (7 when not (is_width w and is_depth d)) ∷ (8 when leb max_queues (queue_count s.tables) or ltb s.tables.queues.space (space_taken s.tables + w * d)) ∷ []

    large_test : too_large (pack os s).queues w d space ≡ ltb s.tables.queues.space (space_taken s.tables + w * d)
    unfolding pack
    large_test = rw (taken_packed s.tables I.facts os, spaced) refl

    made_pack : s.started ≡ false → existsb (task_count s.tables) p ≡ true → queue_made (pack os s) w d (id_of p) space ≡ ruled c s x later
    unfolding queue_made pack pack_tasks pack_mutexes pack_semaphores pack_with level_column effect
    made_pack off there = on_row c s x _ _ refl (λ e. skipped _ _ _ (not-true (is_width w and is_depth d) e)) (λ e. chosen _ _ _ (not-false (is_width w and is_depth d) e) ∙ either _ _ _ _
        ∙ ap (λ z. cond (z or too_large (pack os s).queues w d space) (answer_in (pack os s) 8 0) (answer_in (put_queues (pack os s) (queue_added (pack os s).queues w d (id_of p))) 0 (pack os s).queues.n)) few_test
        ∙ ap (λ z. cond (leb max_queues (queue_count s.tables) or z) (answer_in (pack os s) 8 0) (answer_in (put_queues (pack os s) (queue_added (pack os s).queues w d (id_of p))) 0 (pack os s).queues.n)) large_test
        ∙ on_row c s x _ _ refl (λ f. chosen _ _ _ f) (λ f. skipped _ _ _ f
        ∙ (let g = not-false (is_width w and is_depth d) e in
        let h = depth_true d (and_r _ _ g) in
        let k = or_none _ _ f in
        let few = leb-false max_queues (queue_count s.tables) k.0 in
        ap (answer_in (put_queues (pack os s) (queue_added (pack os s).queues w d (id_of p))) 0) count
        ∙ on_accept c s x (done (with_tables s (add_queue s.tables w d p)) [] (queue_count s.tables)) _ refl refl
        (ap (put_queues (pack os s)) (queue_added_lem s.tables I.facts os w d p few column)
        ∙ quiet_pack (os ++ (0 ∷ [])) s I (add_queue s.tables w d p) s.clock s.hold
        (facts_add_queue s.tables w d p (and_l _ _ g) h.0 h.1 (exists_true (task_count s.tables) p there) few (ltb-false s.tables.queues.space (space_taken s.tables + w * d) k.1) silent I.facts) refl refl
        (level_same s.tables (add_queue s.tables w d p) (λ i. lends_none (add_queue s.tables w d p) i (silent i) ∙ sym (lends_none s.tables i (silent i))) refl) (λ z. z)))))
      where
        silent : (i : ℕ) → wait_of s.tables i ≡ none
        silent i = wait_none (wait_of s.tables i) (sym (I.facts.waiting i) ∙ (I.at_set_up off).nobody_waits i)

        count : (pack_queues os s.tables.queues).n ≡ queue_count s.tables
        count = packed_count os s.tables.queues

        few_test : leb max_queues (pack_queues os s.tables.queues).n ≡ leb max_queues (queue_count s.tables)
        few_test = ap (leb max_queues) count

  module _ (column : length os ≡ queue_count s.tables) (space : ℕ) (spaced : space ≡ s.tables.queues.space) (w d : ℕ) where
    pub queue_pack : queue_step (pack os s) w d space ≡ ruled (going os s I (os ++ (0 ∷ [])) Nothing) s (queue w d none) (refusals s (queue w d none))
    unfolding queue_step refusals id_of
    queue_pack = on_set_up (going os s I (os ++ (0 ∷ [])) Nothing) s I (queue w d none) _ (λ off. on_row (going os s I (os ++ (0 ∷ [])) Nothing) s (queue w d none) _ _ refl
        (λ e. absurd (clash (exists_none (task_count s.tables)) (not-true _ e))) (λ e. made_pack column space spaced w d none off (exists_none (task_count s.tables))))

    pub owned_queue_pack : (o : ℕ) → owned_queue_step (pack os s) w d o space ≡ ruled (going os s I (os ++ (0 ∷ [])) Nothing) s (queue w d (some o)) (refusals s (queue w d (some o)))
    unfolding owned_queue_step refusals id_of
    owned_queue_pack o = on_set_up (going os s I (os ++ (0 ∷ [])) Nothing) s I (queue w d (some o)) _ (λ off. on_row (going os s I (os ++ (0 ∷ [])) Nothing) s (queue w d (some o)) _ _ refl
        (λ e. chosen _ _ _ (tasks_n ∙ sym (exists_some (task_count s.tables) o) ∙ e))
        (λ e. skipped _ _ _ (tasks_n ∙ sym (exists_some (task_count s.tables) o) ∙ e) ∙ made_pack column space spaced w d (some o) off (not-false _ e)))
      where
        tasks_n : leb (pack os s).tasks.n o ≡ leb (task_count s.tables) o
        tasks_n = ap (λ n. leb n o) (packed_tasks os s)
