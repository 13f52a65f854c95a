-- What the view of a record holds at each place, where unused places are as in the fresh state.
use Rattle.std.specs.Prelude.{◌≡◌, ℕ, ◌<◌, ◌≤◌, min, Bool, true, false, cond, ◌⊎◌, List, [], length, get_or, take, ◌==◌, slice_index, slice_index_or}
use Rattle.std.proofs.Math.Path.{refl, ap, sym}
use Rattle.std.proofs.Common.{◌∙◌, arith}
use Rattle.std.proofs.Math.Logic.{inl, inr}
use Rattle.std.proofs.Math.Option.{Option, none}
use Rattle.std.proofs.Math.Decide.{dec_lt}
use Rattle.std.proofs.Math.ListN.{get_or-eq_default, get_or-map, length-map, length-take}
use Rattle.std.proofs.Math.Seq.{length-take-le, get_or-take}
use borrow.Author.Tests.{ltb-true, eqb-true, lt-ltb, le-ltb, ne_eqb}
use Rattle.lists.specs.Table.{filled}
use Rattle.lists.specs.TestLaws.{which, and_r, or_true, all_true}
use Rattle.lists.specs.TableLaws.{length_filled, get_d_filled, read_any}
use Rattle.chains.specs.Least.{least_leading}
use Rattle.rules.specs.Sizes.{task_places, max_mutexes, max_queues, inheriting, on_mutex, on_semaphore, on_time, on_send, on_receive}
use Rattle.rules.specs.Tables.{Awaited, mutex_of, sem_of, room_in, message_in, time, task_count, mutex_count, sem_count, queue_count, priority_of, outcome_of, wait_of, words_of, kind_of, owner_of, count_of, maximum_of, width_of, depth_of, queue_owner_of, messages_of}
use Rattle.rules.specs.Levels.{owner_awaited, heir_awaited, of_wait, next, lends, level_in}
use Rattle.task_lists.specs.TaskList.{no_id, key_of}
use Rattle.walks.specs.Walk.{task_at, next_in, raised}
use Rattle.walks.specs.WalkLaws.{next_in_lem, next_out, next_agrees, leading_own, raised_ext}
use Rattle.record.specs.Record.{awaited_by, wait_with, wait_in, wait_at, ring_at, view_tables}
use Rattle.record.specs.Whole.{whole}
use Rattle.rings.specs.Ring.{messages}
use Rattle.rings.specs.Held.{held_by}
use Rattle.record.specs.SoundRecord.{mutex_placeb, tidyb, levelsb}
use Rattle.record.specs.Reads.{owner_at, kind_at, queue_owner_at, led_by, leads_at, next_at, heir_at, lends_at, new_levels, count_at, maximum_at}
use Rattle.record.specs.GoodRecord.{Typed}
use Rattle.record.specs.TidyLaws.{tasks_fit, mutexes_fit, semaphores_fit, queues_fit, mutex_place, unused_queue, unused_at_lem}
use Rattle.record.specs.declared.State.{State}  -- keep

-- a stored level, where stored levels are as defined
pub stored_level : (k : State) (ws b : List ℕ) → levelsb (whole k ws b) ≡ true → (i : ℕ) → i < k.tasks.n → key_of k.tasks.level i ≡ level_in (view_tables (whole k ws b)) i
unfolding levelsb
stored_level k ws b e i h = eqb-true _ _ (all_true k.tasks.n _ e i h)

-- only waits for mutexes and for room in a queue lead to anyone
pub record Leading (f : Awaited → Option ℕ) : Type 0 where
  pub no_sem : (j : ℕ) → f (sem_of j) ≡ none
  pub no_message : (j : ℕ) → f (message_in j) ≡ none
  pub no_time : f time ≡ none

-- whom such a wait leads to, by the places of its task; this depends on no kind of wait being another
after_wait : (kind object : ℕ) (left : Option ℕ) (f : Awaited → Option ℕ) → Leading f
    → of_wait f (wait_in kind object left) ≡ cond (kind == on_mutex) (f (mutex_of object)) (cond (kind == on_send) (f (room_in object)) none)
unfolding wait_with awaited_by of_wait
after_wait kind object left f L = elim (which (kind == on_mutex)) [
  | inl e ↦ rw e refl
  | inr e ↦ rw e (elim (which (kind == on_semaphore)) [
    | inl u ↦ rw (u, ne_eqb kind on_send (λ v. omega (arith, eqb-true kind on_semaphore u))) (L.no_sem object)
    | inr u ↦ rw u (elim (which (kind == on_time)) [
      | inl v ↦ rw (v, ne_eqb kind on_send (λ w. omega (arith, eqb-true kind on_time v))) L.no_time
      | inr v ↦ rw v (elim (which (kind == on_send)) [
        | inl w ↦ rw w refl
        | inr w ↦ rw w (elim (which (kind == on_receive)) [ inl y ↦ rw y (L.no_message object) | inr y ↦ rw y refl ])
      ])
    ])
  ])
]

task_cond : (b : Bool) (x : ℕ) → task_at (cond b x no_id) ≡ cond b (task_at x) none
task_cond true x = refl
task_cond false x = refl

task_conds : (b c : Bool) (x y : ℕ) → task_at (cond b x (cond c y no_id)) ≡ cond b (task_at x) (cond c (task_at y) none)
task_conds true c x y = refl
task_conds false c x y = task_cond c y

either : (b : Bool) (x : ℕ) → cond b x x ≡ x
either true x = refl
either false x = refl

nothing : (b c : Bool) → ◌≡◌ {A = Option ℕ} (cond b none none) (cond c none none)
nothing true true = refl
nothing true false = refl
nothing false true = refl
nothing false false = refl

-- a table of ids and a map that agree on the first n tasks, and lead nowhere from the others
map_same : (f : ℕ → ℕ) (g : ℕ → Option ℕ) (n : ℕ) → n ≤ task_places → ((i : ℕ) → i < n → task_at (f i) ≡ g i)
    → ((i : ℕ) → n ≤ i → f i ≡ no_id) → ((i : ℕ) → n ≤ i → g i ≡ none) → (i : ℕ) → next_in (filled task_places f) i ≡ g i
map_same f g n fit same out none_out = next_agrees (filled task_places f) g n
    (λ i h. in_table i (omega arith) ∙ same i h)
    (λ i h. elim (dec_lt i task_places) [
      | yes l ↦ in_table i l ∙ ap task_at (out i h)
      | no l ↦ next_out (filled task_places f) i (omega arith)
    ])
    none_out
  where
    in_table : (i : ℕ) → i < task_places → next_in (filled task_places f) i ≡ task_at (f i)
    in_table i l = next_in_lem (filled task_places f) i l ∙ ap task_at (get_d_filled task_places f 0 i l)

-- what the view's columns read
module _ (k : State) (ws b : List ℕ) (T : Typed k) (tidy : tidyb k ≡ true) where
  -- behind the last task nobody waits
  pub unused_wait : (i : ℕ) → k.tasks.n ≤ i → slice_index k.tasks.wait i ≡ 0
  unused_wait i h = elim (dec_lt i task_places) [
    | yes l ↦ (unused_at_lem k tidy i h l).no_wait
    | no l ↦ get_or-eq_default k.tasks.wait 0 (omega (arith, T.wait_length))
  ]

  -- an owner is an id, and there is none behind the last mutex
  pub owner_id : (j : ℕ) → (owner_at k.mutexes j < task_places) ⊎ (owner_at k.mutexes j ≡ no_id)
  unfolding mutex_placeb
  owner_id j = elim (dec_lt j max_mutexes) [
    | yes l ↦ (let d : get_or k.mutexes.owner j 0 ≡ owner_at k.mutexes j = read_any k.mutexes.owner j 0 no_id (omega (arith, T.owner_length)) in
        elim (dec_lt j k.mutexes.n) [
          | yes h ↦ elim (or_true _ _ (rw (lt-ltb j k.mutexes.n h) at (mutex_place k tidy j l))) [
            | inl u ↦ inl (omega (arith, ltb-true (slice_index k.mutexes.owner j) task_places u))
            | inr u ↦ inr (omega (arith, eqb-true (slice_index k.mutexes.owner j) no_id u))
          ]
          | no h ↦ inr (omega (arith, eqb-true (slice_index k.mutexes.owner j) no_id (and_r _ _ (rw (le-ltb j k.mutexes.n (omega arith)) at (mutex_place k tidy j l)))))
        ])
    | no l ↦ inr (get_or-eq_default k.mutexes.owner no_id (omega (arith, T.owner_length)))
  ]

  pub unused_owner : (j : ℕ) → k.mutexes.n ≤ j → owner_at k.mutexes j ≡ no_id
  unfolding mutex_placeb
  unused_owner j h = elim (dec_lt j max_mutexes) [
    | yes l ↦ sym (read_any k.mutexes.owner j 0 no_id (omega (arith, T.owner_length)))
        ∙ eqb-true _ _ (and_r _ _ (rw (le-ltb j k.mutexes.n h) at (mutex_place k tidy j l)))
    | no l ↦ get_or-eq_default k.mutexes.owner no_id (omega (arith, T.owner_length))
  ]

  pub view_tasks_lem : task_count (view_tables (whole k ws b)) ≡ k.tasks.n
  unfolding view_tables
  view_tasks_lem = length-take-le k.tasks.n k.tasks.priority (omega (arith, T.priority_length, tasks_fit k tidy))

  pub view_outcomes : length (view_tables (whole k ws b)).tasks.outcomes ≡ k.tasks.n
  unfolding view_tables
  view_outcomes = length-take-le k.tasks.n k.tasks.outcome (omega (arith, T.outcome_length, tasks_fit k tidy))

  pub view_waits : length (view_tables (whole k ws b)).tasks.waits ≡ k.tasks.n
  unfolding view_tables
  view_waits = length_filled k.tasks.n (wait_at k.tasks k.clock)

  pub view_mutexes_lem : mutex_count (view_tables (whole k ws b)) ≡ k.mutexes.n
  unfolding view_tables
  view_mutexes_lem = length-map (take k.mutexes.n k.mutexes.owner) task_at
      ∙ length-take-le k.mutexes.n k.mutexes.owner (omega (arith, T.owner_length, mutexes_fit k tidy))

  pub view_kinds : length (view_tables (whole k ws b)).mutexes.kinds ≡ k.mutexes.n
  unfolding view_tables
  view_kinds = length-take-le k.mutexes.n k.mutexes.kind (omega (arith, T.kind_length, mutexes_fit k tidy))

  pub view_semaphores_lem : sem_count (view_tables (whole k ws b)) ≡ k.semaphores.n
  unfolding view_tables
  view_semaphores_lem = length-take-le k.semaphores.n k.semaphores.count (omega (arith, T.count_length, semaphores_fit k tidy))

  pub view_maxima : length (view_tables (whole k ws b)).semaphores.maxima ≡ k.semaphores.n
  unfolding view_tables
  view_maxima = length-take-le k.semaphores.n k.semaphores.maximum (omega (arith, T.maximum_length, semaphores_fit k tidy))

  pub view_priority : (i : ℕ) → i < k.tasks.n → priority_of (view_tables (whole k ws b)) i ≡ key_of k.tasks.priority i
  unfolding view_tables
  view_priority i h = get_or-take k.tasks.n k.tasks.priority i 0 h

  pub view_outcome : (i : ℕ) → i < k.tasks.n → outcome_of (view_tables (whole k ws b)) i ≡ key_of k.tasks.outcome i
  unfolding view_tables
  view_outcome i h = get_or-take k.tasks.n k.tasks.outcome i 0 h

  pub view_wait : (i : ℕ) → i < k.tasks.n → wait_of (view_tables (whole k ws b)) i ≡ wait_at k.tasks k.clock i
  unfolding view_tables
  view_wait i h = get_d_filled k.tasks.n (wait_at k.tasks k.clock) none i h

  pub view_wait_out : (i : ℕ) → k.tasks.n ≤ i → wait_of (view_tables (whole k ws b)) i ≡ none
  view_wait_out i h = get_or-eq_default (view_tables (whole k ws b)).tasks.waits none (omega (arith, view_waits))

  pub view_kind : (j : ℕ) → j < k.mutexes.n → kind_of (view_tables (whole k ws b)) j ≡ kind_at k.mutexes j
  unfolding view_tables
  view_kind j h = get_or-take k.mutexes.n k.mutexes.kind j 0 h

  pub view_owner : (j : ℕ) → owner_of (view_tables (whole k ws b)) j ≡ task_at (owner_at k.mutexes j)
  unfolding view_tables
  view_owner j = get_or-map task_at (take k.mutexes.n k.mutexes.owner) j no_id ∙ ap task_at same
    where
      same : get_or (take k.mutexes.n k.mutexes.owner) j no_id ≡ owner_at k.mutexes j
      same = elim (dec_lt j k.mutexes.n) [
        | yes h ↦ get_or-take k.mutexes.n k.mutexes.owner j no_id h
        | no h ↦ get_or-eq_default (take k.mutexes.n k.mutexes.owner) no_id (omega (arith, length-take k.mutexes.n k.mutexes.owner)) ∙ sym (unused_owner j (omega arith))
      ]

  pub view_count : (j : ℕ) → j < k.semaphores.n → count_of (view_tables (whole k ws b)) j ≡ count_at k.semaphores j
  unfolding view_tables
  view_count j h = get_or-take k.semaphores.n k.semaphores.count j 0 h

  pub view_maximum : (j : ℕ) → j < k.semaphores.n → maximum_of (view_tables (whole k ws b)) j ≡ maximum_at k.semaphores j
  unfolding view_tables
  view_maximum j h = get_or-take k.semaphores.n k.semaphores.maximum j 0 h

  -- an owner of a queue is an id, and there is none behind the last queue
  pub unused_queue_owner : (q : ℕ) → k.queues.n ≤ q → queue_owner_at k.queues q ≡ no_id
  unused_queue_owner q h = elim (dec_lt q max_queues) [
    | yes l ↦ sym (read_any k.queues.owner q 0 no_id (omega (arith, T.queue_owner_length))) ∙ (unused_queue k tidy q h l).no_owner
    | no l ↦ get_or-eq_default k.queues.owner no_id (omega (arith, T.queue_owner_length))
  ]

  pub view_queues_lem : queue_count (view_tables (whole k ws b)) ≡ k.queues.n
  unfolding view_tables
  view_queues_lem = length-map (take k.queues.n k.queues.owner) task_at
      ∙ length-take-le k.queues.n k.queues.owner (omega (arith, T.queue_owner_length, queues_fit k tidy))

  pub view_widths : length (view_tables (whole k ws b)).queues.widths ≡ k.queues.n
  unfolding view_tables
  view_widths = length-take-le k.queues.n k.queues.width (omega (arith, T.width_length, queues_fit k tidy))

  pub view_depths : length (view_tables (whole k ws b)).queues.depths ≡ k.queues.n
  unfolding view_tables
  view_depths = length-take-le k.queues.n k.queues.depth (omega (arith, T.depth_length, queues_fit k tidy))

  pub view_message_lists : length (view_tables (whole k ws b)).queues.messages ≡ k.queues.n
  unfolding view_tables
  view_message_lists = length_filled k.queues.n (λ q. messages b (ring_at k.queues q))

  pub view_word_lists : length (view_tables (whole k ws b)).tasks.words ≡ k.tasks.n
  unfolding view_tables
  view_word_lists = length_filled k.tasks.n (held_by ws)

  pub view_width : (q : ℕ) → q < k.queues.n → width_of (view_tables (whole k ws b)) q ≡ slice_index k.queues.width q
  unfolding view_tables
  view_width q h = get_or-take k.queues.n k.queues.width q 0 h

  pub view_depth : (q : ℕ) → q < k.queues.n → depth_of (view_tables (whole k ws b)) q ≡ slice_index k.queues.depth q
  unfolding view_tables
  view_depth q h = get_or-take k.queues.n k.queues.depth q 0 h

  pub view_messages : (q : ℕ) → q < k.queues.n → messages_of (view_tables (whole k ws b)) q ≡ messages b (ring_at k.queues q)
  unfolding view_tables
  view_messages q h = get_d_filled k.queues.n (λ j. messages b (ring_at k.queues j)) [] q h

  -- how many messages a queue has
  pub view_used : (q : ℕ) → q < k.queues.n → length (messages_of (view_tables (whole k ws b)) q) ≡ slice_index k.queues.used q
  view_used q h = ap length (view_messages q h) ∙ length_filled (slice_index k.queues.used q) _

  pub view_words : (i : ℕ) → i < k.tasks.n → words_of (view_tables (whole k ws b)) i ≡ held_by ws i
  unfolding view_tables
  view_words i h = get_d_filled k.tasks.n (held_by ws) [] i h

  pub view_queue_owner : (q : ℕ) → queue_owner_of (view_tables (whole k ws b)) q ≡ task_at (queue_owner_at k.queues q)
  unfolding view_tables
  view_queue_owner q = get_or-map task_at (take k.queues.n k.queues.owner) q no_id ∙ ap task_at same
    where
      same : get_or (take k.queues.n k.queues.owner) q no_id ≡ queue_owner_at k.queues q
      same = elim (dec_lt q k.queues.n) [
        | yes h ↦ get_or-take k.queues.n k.queues.owner q no_id h
        | no h ↦ get_or-eq_default (take k.queues.n k.queues.owner) no_id (omega (arith, length-take k.queues.n k.queues.owner)) ∙ sym (unused_queue_owner q (omega arith))
      ]

  -- whom a wait leads to, where two tables tell whom a wait for each mutex, and one to send to each queue, leads to
  led_wait : (l m : List ℕ) (f : Awaited → Option ℕ) → ((j : ℕ) → task_at (slice_index_or l j no_id) ≡ f (mutex_of j)) → ((j : ℕ) → task_at (slice_index_or m j no_id) ≡ f (room_in j)) → Leading f
      → (i : ℕ) → i < k.tasks.n → task_at (leads_at k.tasks l m i) ≡ of_wait f (wait_of (view_tables (whole k ws b)) i)
  unfolding led_by wait_at
  led_wait l m f told told-queue L i h =
      let kind = get_or k.tasks.wait i 0 in
      let object = get_or k.tasks.object i 0 in
      rw (view_wait i h) (task_conds (kind == on_mutex) (kind == on_send) (slice_index_or l object no_id) (slice_index_or m object no_id)
      ∙ ap (λ o. cond (kind == on_mutex) o (cond (kind == on_send) (task_at (slice_index_or m object no_id)) none)) (told object)
      ∙ ap (λ o. cond (kind == on_mutex) (f (mutex_of object)) (cond (kind == on_send) o none)) (told-queue object) ∙ sym (after_wait kind object _ f L))

  -- the owner of an inheriting mutex
  view_heir : (j : ℕ) → task_at (slice_index_or (filled max_mutexes (heir_at k.mutexes)) j no_id) ≡ heir_awaited (view_tables (whole k ws b)) (mutex_of j)
  unfolding heir_awaited
  view_heir j = elim (dec_lt j k.mutexes.n) [
    | yes h ↦ ap task_at (get_d_filled max_mutexes (heir_at k.mutexes) no_id j (omega (arith, mutexes_fit k tidy)))
        ∙ task_cond (kind_at k.mutexes j == inheriting) (owner_at k.mutexes j) ∙ sym (rw (view_kind j h, view_owner j) refl)
    | no h ↦ ap task_at (heir_out j (omega arith)) ∙ rw (view_owner j, unused_owner j (omega arith)) (nothing true (kind_of (view_tables (whole k ws b)) j == inheriting))
  ]
    where
      heir_out : (j : ℕ) → k.mutexes.n ≤ j → slice_index_or (filled max_mutexes (heir_at k.mutexes)) j no_id ≡ no_id
      heir_out j h = elim (dec_lt j max_mutexes) [
        | yes l ↦ get_d_filled max_mutexes (heir_at k.mutexes) no_id j l ∙ rw (unused_owner j h) (either (kind_at k.mutexes j == inheriting) no_id)
        | no l ↦ get_or-eq_default (filled max_mutexes (heir_at k.mutexes)) no_id (omega (arith, length_filled max_mutexes (heir_at k.mutexes)))
      ]

  pub next_at_lem : (i : ℕ) → i < k.tasks.n → task_at (next_at k.tasks k.mutexes k.queues i) ≡ next (view_tables (whole k ws b)) i
  unfolding next owner_awaited
  next_at_lem = led_wait k.mutexes.owner k.queues.owner (owner_awaited (view_tables (whole k ws b))) (λ j. sym (view_owner j)) (λ j. sym (view_queue_owner j))
      (record { no_sem = λ j. refl; no_message = λ j. refl; no_time = refl })

  pub lends_at_lem : (i : ℕ) → i < k.tasks.n → task_at (lends_at k.tasks k.mutexes k.queues i) ≡ lends (view_tables (whole k ws b)) i
  unfolding lends heir_awaited
  lends_at_lem = led_wait (filled max_mutexes (heir_at k.mutexes)) k.queues.owner (heir_awaited (view_tables (whole k ws b))) view_heir (λ j. sym (view_queue_owner j))
      (record { no_sem = λ j. refl; no_message = λ j. refl; no_time = refl })

  -- behind the last task there is none
  leads_out : (l m : List ℕ) (i : ℕ) → k.tasks.n ≤ i → leads_at k.tasks l m i ≡ no_id
  unfolding led_by
  leads_out l m i h = rw (ne_eqb (slice_index k.tasks.wait i) on_mutex (λ e. omega (arith, unused_wait i h)), ne_eqb (slice_index k.tasks.wait i) on_send (λ e. omega (arith, unused_wait i h))) refl

  -- the tables of ids and the rules' maps
  pub next_same : (i : ℕ) → next_in (filled task_places (next_at k.tasks k.mutexes k.queues)) i ≡ next (view_tables (whole k ws b)) i
  unfolding next of_wait
  next_same = map_same (next_at k.tasks k.mutexes k.queues) (next (view_tables (whole k ws b))) k.tasks.n (tasks_fit k tidy) next_at_lem (leads_out k.mutexes.owner k.queues.owner) (λ i h. rw (view_wait_out i h) refl)

  pub lends_same : (i : ℕ) → next_in (filled task_places (lends_at k.tasks k.mutexes k.queues)) i ≡ lends (view_tables (whole k ws b)) i
  unfolding lends of_wait
  lends_same = map_same (lends_at k.tasks k.mutexes k.queues) (lends (view_tables (whole k ws b))) k.tasks.n (tasks_fit k tidy) lends_at_lem (leads_out (filled max_mutexes (heir_at k.mutexes)) k.queues.owner) (λ i h. rw (view_wait_out i h) refl)

  -- the levels that the code works out are those of the rules
  pub new_level : (i : ℕ) → i < k.tasks.n → slice_index (new_levels k.tasks k.mutexes k.queues) i ≡ level_in (view_tables (whole k ws b)) i
  unfolding new_levels level_in
  new_level i h =
      ap (λ (m : ℕ). slice_index (raised k.tasks.priority (filled task_places (lends_at k.tasks k.mutexes k.queues)) k.tasks.n m) i) all
      ∙ raised_ext k.tasks.priority (filled task_places (lends_at k.tasks k.mutexes k.queues)) k.tasks.n (tasks_fit k tidy) (lends (view_tables (whole k ws b))) lends_same i
      ∙ leading_own k.tasks.n (lends (view_tables (whole k ws b))) (key_of k.tasks.priority) (priority_of (view_tables (whole k ws b))) (λ j q. sym (view_priority j q)) i h
      ∙ ap (λ (m : ℕ). least_leading m (lends (view_tables (whole k ws b))) (priority_of (view_tables (whole k ws b))) i) (sym view_tasks_lem)
    where
      all : min k.tasks.n task_places ≡ k.tasks.n
      all = omega (arith, tasks_fit k tidy)
