-- The code's own test of a record is `sound_of`: the ready order, the two phases, and the whole.
use Rattle.std.specs.Prelude.{◌≡◌, refl, List, [], ◌∷◌, Bool, true, false, cond, not, ◌⊎◌, ℕ, zero, suc, ◌≤◌, ◌<◌, ltb, leb, eqb, length, get_or, take}
use Rattle.std.proofs.Math.Path.{sym}
use Rattle.std.proofs.Common.{◌∙◌, inl, inr, arith}
use Rattle.std.proofs.Math.Option.{none, some}
use Rattle.std.proofs.Math.Decide.{dec_lt}
use borrow.Author.Tests.{ltb-true, eqb-true, lt-ltb, le-ltb, le-leb, eq-eqb, ne_eqb}
use Rattle.lists.specs.Test.{◌and◌, ◌or◌, allb, someb}
use Rattle.lists.specs.Count.{occ}
use Rattle.lists.specs.Order.{ascb, tiesb, inside}
use Rattle.lists.specs.TestLaws.{and_l, and_r, true_and, or_true, or_r, same_test}
use Rattle.lists.specs.CountLaws.{occ_head}
use Rattle.lists.specs.OrderLaws.{inside_true}
use Rattle.rules.specs.Sizes.{task_places, max_mutexes, max_semaphores, max_queues, max_hold, granted}
use Rattle.rules.specs.Tables.{task_count, mutex_count, sem_count, queue_count, outcome_of, owner_of}
use Rattle.rules.specs.Levels.{level_in}
use Rattle.rules.specs.Sound.{columnsb, sizesb, rangesb, clockb, ownersb, ascendingb, none_in, runsb, holdb, urgent_top, urgentb, set_upb, tablesb, soundb}
use Rattle.rules.proofs.SoundLaws.{tables_facts}
use Rattle.task_lists.specs.TaskList.{no_id, items, key_of}
use Rattle.walks.specs.Walk.{task_at}
use Rattle.walks.specs.WalkLaws.{task_in}
use Rattle.record.specs.Record.{view_tables, view}
use Rattle.record.specs.SoundRecord.{words_tidyb, tidyb, levelsb, sound_of}
use Rattle.record.specs.Reads.{owner_at}
use Rattle.record.specs.GoodRecord.{Typed, WordsTyped}
use Rattle.record.specs.Whole.{whole}
use Rattle.record.specs.TidyLaws.{tasks_fit, mutexes_fit, semaphores_fit, queues_fit, ready_fits, waiting_fits, running_or, unused_at_lem}
use Rattle.record.specs.ViewLaws.{stored_level, owner_id, unused_owner, view_tasks_lem, view_outcomes, view_waits, view_mutexes_lem, view_kinds, view_semaphores_lem, view_maxima, view_outcome, view_owner, view_queues_lem, view_widths, view_depths, view_message_lists, view_word_lists}
use Rattle.checks.specs.Checks.{sizes_in, unused_at, tasks_in, objects_in, tables_in, waits_in, started_in, free_at, at_rest, set_up_in, checks}
use Rattle.checks.specs.TidyCheckLaws.{checks_tidy, tidy_sizes, tidy_unused, tidy_waits}
use Rattle.checks.specs.TableCheckLaws.{no_id_lem, used_tasks, used_mutexes, priorities_same, times_same, outcomes_same, owner_read, mutexes_same, counts_same, lists_same, blocked_same}
use Rattle.checks.specs.QueueCheckLaws.{queues_checked, owners_checked, checked_queues, words_checked, empty_same, zero_same}
use Rattle.checks.specs.PlaceCheckLaws.{places_same, waiting_view, places_view}
use Rattle.checks.specs.LevelCheckLaws.{ringless_ring, facts_ringless, levels_same}
use Rattle.record.specs.declared.State.{State}  -- keep

-- four tests first, and then the others
four_first : (a b c d r : Bool) → (a and b and c and d) and r ≡ a and b and c and d and r
unfolding ◌and◌
four_first true true true d r = refl
four_first true true false d r = refl
four_first true false c d r = refl
four_first false b c d r = refl

-- another key that agrees on the list
asc_same_key : (f g : ℕ → ℕ) (l : List ℕ) → ((y : ℕ) → 1 ≤ occ y l → f y ≡ g y) → ascb f l ≡ ascb g l
unfolding ascb occ
asc_same_key f g [] h = refl
asc_same_key f g (x ∷ []) h = refl
asc_same_key f g (x ∷ y ∷ l) h = rw (h x (occ_head x (y ∷ l)), h y (omega (arith, occ_head y l)), asc_same_key f g (y ∷ l) (λ z m. h z (omega arith))) refl

ties_same_key : (f g : ℕ → ℕ) (l : List ℕ) → ((y : ℕ) → 1 ≤ occ y l → f y ≡ g y) → tiesb f l ≡ tiesb g l
unfolding tiesb occ
ties_same_key f g [] h = refl
ties_same_key f g (x ∷ []) h = refl
ties_same_key f g (x ∷ y ∷ l) h = rw (h x (occ_head x (y ∷ l)), h y (omega (arith, occ_head y l)), ties_same_key f g (y ∷ l) (λ z m. h z (omega arith))) refl

inside_member : (n : ℕ) (l : List ℕ) → inside n l ≡ true → (y : ℕ) → 1 ≤ occ y l → y < n
inside_member n l e y m = elim (dec_lt y n) [ yes h ↦ h | no h ↦ absurd (omega (arith, inside_true n l e y (omega arith))) ]

-- a list's items, and its first
none_items : (n : ℕ) (ids : List ℕ) → n ≤ length ids → eqb n 0 ≡ none_in (take n ids)
unfolding none_in
none_items zero ids h = refl
none_items (suc n) [] h = absurd (omega arith)
none_items (suc n) (x ∷ ids) h = ne_eqb (suc n) 0 (λ e. omega arith)

top_same : (f g : ℕ → ℕ) (n r : ℕ) (ids : List ℕ) → n ≤ length ids → f r ≡ g r → ((y : ℕ) → 1 ≤ occ y (take n ids) → f y ≡ g y)
    → cond (eqb n 0) true (leb (f r) (f (get_or ids 0 0))) ≡ urgent_top g (some r) (take n ids)
unfolding urgent_top
top_same f g zero r ids h e m = refl
top_same f g (suc n) r [] h e m = absurd (omega arith)
top_same f g (suc n) r (x ∷ ids) h e m = rw (ne_eqb (suc n) 0 (λ q. omega arith), e, m x (occ_head x (take n ids))) refl

-- after start: nobody runs, or somebody does
idle_same : (g : ℕ → ℕ) (l : List ℕ) (b : Bool) → none_in l and b ≡ (false or none_in l) and (b or false) and (not b or urgent_top g none l)
unfolding ◌and◌ ◌or◌ none_in urgent_top
idle_same g [] true = refl
idle_same g [] false = refl
idle_same g (x ∷ l) b = refl

busy_same : (b u v w : Bool) → u ≡ v → cond b u true ≡ (true or w) and (b or true) and (not b or v)
unfolding ◌and◌ ◌or◌
busy_same true u v w e = e
busy_same false u v w e = refl

started_same_key : (f g : ℕ → ℕ) (n r h : ℕ) (ids : List ℕ) → n ≤ length ids → (r < task_places) ⊎ (r ≡ no_id) → (r < task_places → f r ≡ g r)
    → ((y : ℕ) → 1 ≤ occ y (take n ids) → f y ≡ g y)
    → cond (eqb r no_id) (eqb n 0 and eqb h 0) (cond (eqb h 0) (cond (eqb n 0) true (leb (f r) (f (get_or ids 0 0)))) true)
    ≡ (someb (task_at r) or none_in (take n ids)) and (eqb h 0 or someb (task_at r)) and (not (eqb h 0) or urgent_top g (task_at r) (take n ids))
unfolding someb
started_same_key f g n r h ids size c e m = elim c [
  | inl l ↦ rw (ne_eqb r no_id (λ q. omega arith), task_in r l) (busy_same (eqb h 0) _ _ (none_in (take n ids)) (top_same f g n r ids size (e l) m))
  | inr q ↦ rw (q, none_items n ids size) (idle_same g (take n ids) (eqb h 0))
]

phases : (b x y : Bool) → cond b x y ≡ cond (not b) y x
phases true x y = refl
phases false x y = refl

-- who runs, by the test of sizes
runner_in : (k : State) → sizes_in k ≡ true → eqb k.running no_id or ltb k.running k.tasks.n ≡ true
unfolding sizes_in
runner_in k e = and_r _ _ (and_r _ _ (and_r _ _ (and_r _ _ (and_r _ _ (and_r _ _ (and_r _ _ e))))))

-- a record that passes is tidy
tidy_of : (k : State) (ws : List ℕ) (space : ℕ) → Typed k → checks k ws space ≡ true → (tidyb k and words_tidyb ws k.tasks.n) ≡ true
unfolding checks tables_in
tidy_of k ws space T c₀ =
    let table = and_l _ _ c₀ in
    let c₁ = and_r _ _ table in
    let c₂ = and_r _ _ c₁ in
    let c₃ = and_r _ _ c₂ in
    let c₄ = and_r _ _ c₃ in
    true_and _ _ (checks_tidy k space T (and_l _ _ table) (and_l _ _ c₁) (and_l _ _ c₂) (and_l _ _ c₃) (and_r _ _ c₄)) (and_l _ _ c₄)

module _ (k : State) (ws b : List ℕ) (T : Typed k) (tidy : tidyb k ≡ true) (held : words_tidyb ws k.tasks.n ≡ true) where
  -- where the sizes and the clock are in range, and columns have one place for each
  columns_true : columnsb (view_tables (whole k ws b)) ≡ true
  unfolding columnsb
  columns_true =
      true_and _ _ (eq-eqb _ _ (view_waits k ws b T tidy ∙ sym (view_tasks_lem k ws b T tidy)))
      (true_and _ _ (eq-eqb _ _ (view_outcomes k ws b T tidy ∙ sym (view_tasks_lem k ws b T tidy)))
      (true_and _ _ (eq-eqb _ _ (view_kinds k ws b T tidy ∙ sym (view_mutexes_lem k ws b T tidy)))
      (true_and _ _ (eq-eqb _ _ (view_maxima k ws b T tidy ∙ sym (view_semaphores_lem k ws b T tidy)))
      (true_and _ _ (eq-eqb _ _ (view_word_lists k ws b T tidy ∙ sym (view_tasks_lem k ws b T tidy)))
      (true_and _ _ (eq-eqb _ _ (view_widths k ws b T tidy ∙ sym (view_queues_lem k ws b T tidy)))
      (true_and _ _ (eq-eqb _ _ (view_depths k ws b T tidy ∙ sym (view_queues_lem k ws b T tidy)))
      (eq-eqb _ _ (view_message_lists k ws b T tidy ∙ sym (view_queues_lem k ws b T tidy)))))))))

  sizes_true : sizesb (view_tables (whole k ws b)) ≡ true
  unfolding sizesb
  sizes_true =
      true_and _ _ (le-leb (task_count (view_tables (whole k ws b))) task_places (omega (arith, view_tasks_lem k ws b T tidy, tasks_fit k tidy)))
      (true_and _ _ (le-leb (mutex_count (view_tables (whole k ws b))) max_mutexes (omega (arith, view_mutexes_lem k ws b T tidy, mutexes_fit k tidy)))
      (true_and _ _ (le-leb (sem_count (view_tables (whole k ws b))) max_semaphores (omega (arith, view_semaphores_lem k ws b T tidy, semaphores_fit k tidy)))
      (le-leb (queue_count (view_tables (whole k ws b))) max_queues (omega (arith, view_queues_lem k ws b T tidy, queues_fit k tidy)))))

  clock_true : clockb (view (whole k ws b)) ≡ true
  unfolding clockb view
  clock_true = true_and _ _ (lt-ltb _ _ T.clock_word) (le-leb k.hold max_hold (omega (arith, T.hold_byte)))

  words_typed : WordsTyped ws
  unfolding words_tidyb
  words_typed = eqb-true _ _ (and_l _ _ held)

  -- in set-up, no mutex is owned and every outcome is 0, at unused places anyway
  unowned : allb max_mutexes (free_at k.mutexes.owner) ≡ allb (mutex_count (view_tables (whole k ws b))) (λ j. not (someb (owner_of (view_tables (whole k ws b)) j)))
  unowned = used_mutexes k ws b T tidy _ _
      (λ j h l. eq-eqb _ _ (owner_read k ws b T tidy j l ∙ unused_owner k ws b T tidy j h))
      (λ j h. rw (owner_read k ws b T tidy j (omega (arith, mutexes_fit k tidy)), view_owner k ws b T tidy j) (no_id_lem (owner_at k.mutexes j) (owner_id k ws b T tidy j)))

  granted_all : allb task_places (unused_at k.tasks.outcome 0) ≡ allb (task_count (view_tables (whole k ws b))) (λ i. eqb (outcome_of (view_tables (whole k ws b)) i) granted)
  unfolding ◌or◌
  granted_all = used_tasks k ws b T tidy _ _
      (λ i h l. or_r (ltb i 0) _ (eq-eqb _ _ (unused_at_lem k tidy i h l).no_outcome))
      (λ i h. rw (le-ltb i 0 (omega arith), view_outcome k ws b T tidy i h) refl)

  -- where stored levels are as defined and the list of ready tasks and the running one are in range
  module _ (stored : levelsb (whole k ws b) ≡ true) (listed : inside k.tasks.n (items k.ready) ≡ true) (runner : eqb k.running no_id or ltb k.running k.tasks.n ≡ true) where
    level_ready : (y : ℕ) → 1 ≤ occ y (items k.ready) → key_of k.tasks.level y ≡ level_in (view_tables (whole k ws b)) y
    level_ready y m = stored_level k ws b stored y (inside_member k.tasks.n (items k.ready) listed y m)

    level_running : k.running < task_places → key_of k.tasks.level k.running ≡ level_in (view_tables (whole k ws b)) k.running
    level_running h = elim (or_true _ _ runner) [
      | inl e ↦ absurd (omega (arith, eqb-true k.running no_id e))
      | inr e ↦ stored_level k ws b stored k.running (ltb-true _ _ e)
    ]

    ascending_same : ascb (key_of k.tasks.level) (items k.ready) ≡ ascendingb (view (whole k ws b))
    unfolding ascendingb view
    ascending_same = asc_same_key _ _ (items k.ready) level_ready

    started_same : started_in k.tasks.level k.ready k.running k.hold ≡ runsb (view (whole k ws b)) and holdb (view (whole k ws b)) and urgentb (view (whole k ws b))
    unfolding started_in runsb holdb urgentb view
    started_same = started_same_key (key_of k.tasks.level) (level_in (view_tables (whole k ws b))) k.ready.n k.running k.hold k.ready.ids
        (omega (arith, T.ready_length, ready_fits k tidy)) (running_or k tidy) level_running level_ready

    set_up_same : at_rest k.clock k.hold k.running k.waiting.n and set_up_in k.mutexes.owner k.tasks.outcome k.ready k.tasks.level k.queues.used ws ≡ set_upb (view (whole k ws b))
    unfolding at_rest set_up_in set_upb view view_tables
    set_up_same = rw (
      four_first (eqb k.clock 0) (eqb k.hold 0) (eqb k.running no_id) (eqb k.waiting.n 0),
      no_id_lem k.running (running_or k tidy),
      none_items k.waiting.n k.waiting.ids (omega (arith, T.waiting_length, waiting_fits k tidy)),
      unowned,
      granted_all,
      empty_same k ws b T tidy words_typed,
      zero_same k ws b T tidy words_typed held,
      ties_same_key (key_of k.tasks.level) (level_in (view_tables (whole k ws b))) (items k.ready) level_ready,
    )

    phase_same : cond (eqb k.started 0) (at_rest k.clock k.hold k.running k.waiting.n and set_up_in k.mutexes.owner k.tasks.outcome k.ready k.tasks.level k.queues.used ws) (started_in k.tasks.level k.ready k.running k.hold) ≡ cond (view (whole k ws b)).started (runsb (view (whole k ws b)) and holdb (view (whole k ws b)) and urgentb (view (whole k ws b))) (set_upb (view (whole k ws b)))
    unfolding view
    phase_same = rw (set_up_same, started_same) (phases (eqb k.started 0) _ _)

  -- what a sound state says of the view, from the code's test, and back
  checked_sound : checks k ws (length b) ≡ true → levelsb (whole k ws b) and soundb (view (whole k ws b)) ≡ true
  unfolding checks tables_in tasks_in objects_in waits_in soundb tablesb rangesb ownersb view
  checked_sound c₀ =
      let table = and_l _ _ c₀ in
      let c₁ = and_r _ _ table in
      let c₂ = and_r _ _ c₁ in
      let c₃ = and_r _ _ c₂ in
      let c₄ = and_r _ _ c₀ in
      let c₅ = and_r _ _ c₄ in
      let c₆ = and_r _ _ c₅ in
      let c₇ = and_r _ _ c₆ in
      let runner = runner_in k (and_l _ _ table) in
      let task = and_r _ _ (and_l _ _ c₁) in
      let times = and_r _ _ (and_r _ _ task) in
      let object = and_l _ _ c₂ in
      let mutex = sym (mutexes_same k ws b T tidy) ∙ and_l _ _ object in
      let queue = and_l _ _ c₃ in
      let lists = sym (lists_same k ws b T tidy) ∙ and_r _ _ (and_r _ _ c₃) in
      let listed = and_l _ _ lists in
      let spots = sym (places_same k ws b T tidy listed (and_r _ _ lists)) ∙ and_l _ _ c₄ in
      let wait = and_l _ _ c₅ in
      let blocked = sym (blocked_same k ws b T tidy words_typed) ∙ true_and _ _ (and_l _ _ wait) (and_l _ _ (and_r _ _ wait)) in
      let owners = true_and _ _ (and_r _ _ mutex) (owners_checked k ws b T tidy queue) in
      let tables =
      true_and _ _ columns_true
      (true_and _ _ sizes_true
      (true_and _ _ (true_and _ _ (sym (priorities_same k ws b T tidy) ∙ and_l _ _ task) (and_l _ _ mutex))
      (true_and _ _ (waiting_view k ws b T tidy ∙ true_and _ _ (and_r _ _ lists) (and_l _ _ spots))
      (true_and _ _ (and_l _ _ blocked)
      (true_and _ _ (sym (times_same k ws b T tidy) ∙ and_l _ _ times)
      (true_and _ _ owners
      (true_and _ _ (ringless_ring k ws b T tidy owners (and_r _ _ (and_r _ _ wait)))
      (true_and _ _ (sym (counts_same k ws b T tidy) ∙ and_r _ _ object)
      (true_and _ _ (sym (outcomes_same k ws b T tidy) ∙ and_r _ _ times)
      (true_and _ _ (queues_checked k ws b T tidy queue) (true_and _ _ (words_checked k ws b T tidy words_typed) (and_r _ _ blocked)))))))))))) in
      let stored = sym (levels_same k ws b T tidy (tables_facts (view_tables (whole k ws b)) tables)) ∙ and_l _ _ c₆ in
      true_and _ _ stored
      (true_and _ _ tables
      (true_and _ _ clock_true
      (true_and _ _ (places_view k ws b T tidy ∙ true_and _ _ listed (true_and _ _ runner (and_r _ _ spots)))
      (true_and _ _ (sym (ascending_same stored listed runner) ∙ and_l _ _ c₇) (sym (phase_same stored listed runner) ∙ and_r _ _ c₇)))))

  sound_checked : levelsb (whole k ws b) and soundb (view (whole k ws b)) ≡ true → checks k ws (length b) ≡ true
  unfolding checks tables_in tasks_in objects_in waits_in soundb tablesb rangesb ownersb view
  sound_checked e =
      let s₀ = and_r _ _ e in
      let s₁ = and_r _ _ (and_r _ _ s₀) in
      let s₂ = and_r _ _ s₁ in
      let t₂ = and_r _ _ (and_r _ _ (and_l _ _ s₀)) in
      let t₃ = and_r _ _ t₂ in
      let t₄ = and_r _ _ t₃ in
      let t₅ = and_r _ _ t₄ in
      let t₆ = and_r _ _ t₅ in
      let t₈ = and_r _ _ (and_r _ _ t₆) in
      let t₉ = and_r _ _ t₈ in
      let t₁₀ = and_r _ _ t₉ in
      let F = tables_facts (view_tables (whole k ws b)) (and_l _ _ s₀) in
      let stored = and_l _ _ e in
      let waits = sym (waiting_view k ws b T tidy) ∙ and_l _ _ t₃ in
      let spots = sym (places_view k ws b T tidy) ∙ and_l _ _ s₁ in
      let listed = and_l _ _ spots in
      let runner = and_l _ _ (and_r _ _ spots) in
      let owners = and_l _ _ t₆ in
      let blocked = blocked_same k ws b T tidy words_typed ∙ true_and _ _ (and_l _ _ t₄) (and_r _ _ (and_r _ _ t₁₀)) in
      true_and _ _ (true_and _ _ (tidy_sizes k tidy runner)
      (true_and _ _ (true_and _ _ (tidy_unused k tidy)
      (true_and _ _ (priorities_same k ws b T tidy ∙ and_l _ _ (and_l _ _ t₂))
      (true_and _ _ (tidy_waits k tidy)
      (true_and _ _ (times_same k ws b T tidy ∙ and_l _ _ t₅) (outcomes_same k ws b T tidy ∙ and_l _ _ t₉)))))
      (true_and _ _ (true_and _ _ (mutexes_same k ws b T tidy ∙ true_and _ _ (and_r _ _ (and_l _ _ t₂)) (and_l _ _ owners)) (counts_same k ws b T tidy ∙ and_l _ _ t₈))
      (true_and _ _ (checked_queues k ws b T tidy (and_l _ _ t₁₀) (and_r _ _ owners))
      (true_and _ _ held (lists_same k ws b T tidy ∙ true_and _ _ listed (and_l _ _ waits)))))))
      (true_and _ _ (places_same k ws b T tidy listed (and_l _ _ waits) ∙ true_and _ _ (and_r _ _ waits) (and_r _ _ (and_r _ _ spots)))
      (true_and _ _ (true_and _ _ (and_l _ _ blocked) (true_and _ _ (and_r _ _ blocked) (facts_ringless k ws b T tidy F)))
      (true_and _ _ (levels_same k ws b T tidy F ∙ stored)
      (true_and _ _ (ascending_same stored listed runner ∙ and_l _ _ s₂) (phase_same stored listed runner ∙ and_r _ _ s₂)))))

-- the code's own test of a record is "sound state", for every block of that length
pub checks_sound : (k : State) (ws b : List ℕ) → Typed k → checks k ws (length b) ≡ sound_of (whole k ws b)
unfolding sound_of
checks_sound k ws b T = same_test _ _
    (λ c. (let t = tidy_of k ws (length b) T c in
    true_and _ _ (and_l _ _ t) (true_and _ _ (and_r _ _ t) (checked_sound k ws b T (and_l _ _ t) (and_r _ _ t) c))))
    (λ s. sound_checked k ws b T (and_l _ _ s) (and_l _ _ (and_r _ _ s)) (and_r _ _ (and_r _ _ s)))
