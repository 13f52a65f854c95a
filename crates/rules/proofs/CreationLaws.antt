-- Creation keeps the facts of the tables and, in set-up, the invariant.
use Rattle.std.specs.Prelude.{◌≡◌, refl, List, [], ◌∷◌, ◌++◌, true, false, length, get_or}
use Rattle.std.proofs.Math.Path.{ap, sym, subst}
use Rattle.std.proofs.Common.{◌∙◌, inl, arith}
use Rattle.std.proofs.Math.Option.{Option, none, some}
use Prim.Native.Nat.{ℕ, zero, suc, ◌+◌, ◌*◌, ◌≤◌, ◌<◌}
use Rattle.std.proofs.Math.Decide.{ℕ_discrete, dec_lt}
use Rattle.std.proofs.Math.ListN.{get_or-eq_default, get_or-append}
use Rattle.std.proofs.lemmas.List.{get_or_at}
use Rattle.lists.specs.Count.{occ, below}
use Rattle.lists.specs.Order.{insert_tail, Ties}
use Rattle.lists.specs.TestLaws.{none_some}
use Rattle.lists.specs.CountLaws.{in_below, below_suc}
use Rattle.lists.specs.OrderLaws.{ties_insert_tail, asc_change, ties_change}
use Rattle.lists.specs.TableLaws.{snoc_default, snoc_last, length_snoc}
use Rattle.rules.specs.Sizes.{max_tasks, max_mutexes, max_semaphores, max_queues, max_depth, levels, kinds, granted}
use Rattle.rules.specs.Tables.{Tables, task_count, mutex_count, sem_count, queue_count, priority_of, outcome_of, wait_of, words_of, owner_of, messages_of, taken_by, space_taken}
use Rattle.rules.specs.Levels.{level_in}
use Rattle.rules.specs.State.{State, with_tables, level_of}
use Rattle.rules.specs.Effect.{done, held_for, add_task, add_mutex, add_sem, add_queue}
use Rattle.rules.specs.Sound.{is_width}
use Rattle.rules.specs.Settle.{settled_ready, finish}
use Rattle.rules.specs.Invariant.{Facts, SetUp, Inv}
use Rattle.rules.proofs.LevelLaws.{wait_out, next_none}
use Rattle.rules.proofs.FactsLaws.{next_same, ends_same, still, queued_same}
use Rattle.rules.proofs.QueueLaws.{length_held, held_past}
use Rattle.rules.proofs.SettleLaws.{settled_same, settled_one, finish_inv}
use Rattle.rules.proofs.WaiterLaws.{wait_none, level_alone}

-- one more place, for which nobody waits as yet
pub facts_add_task : (t : Tables) (p : ℕ) → p < levels → task_count t < max_tasks → Facts t → Facts (add_task t p)
facts_add_task t p low room F = record {
  wait_column = omega (arith, F.wait_column, length_snoc t.tasks.waits none, more);
  outcome_column = omega (arith, F.outcome_column, length_snoc t.tasks.outcomes granted, more);
  kind_column = F.kind_column;
  maximum_column = F.maximum_column;
  word_column = omega (arith, F.word_column, length_snoc t.tasks.words (held_for []), more);
  width_column = F.width_column;
  depth_column = F.depth_column;
  message_column = F.message_column;
  few_tasks = omega (arith, more);
  few_mutexes = F.few_mutexes;
  few_semaphores = F.few_semaphores;
  few_queues = F.few_queues;
  priorities = λ i h. elim (ℕ_discrete i (task_count t)) [
    | yes e ↦ rw (e, snoc_last p 0 t.tasks.priorities) low
    | no n ↦ (let k : i < task_count t = omega (arith, more) in rw (get_or-append t.tasks.priorities (p ∷ []) 0 i k) (F.priorities i k))
  ];
  kinds_in = F.kinds_in;
  waiting = λ i. rw (snoc_default none t.tasks.waits i) (F.waiting i);
  blocked = λ i. rw (snoc_default none t.tasks.waits i) (still t (add_task t p) (λ m o e. (o, e)) (λ k h e. (h, e)) (λ q h. (h, refl, refl)) (wait_of t i) (F.blocked i));
  timed = λ i. rw (snoc_default none t.tasks.waits i) (F.timed i);
  owners = λ m o e. omega (arith, F.owners m o e, more);
  owned_queues = λ q o e. omega (arith, F.owned_queues q o e, more);
  ends = ends_same t (add_task t p) (λ x. next_same t (add_task t p) x (snoc_default none t.tasks.waits x) (λ m. refl) (λ q. refl)) F.ends;
  counts = F.counts;
  outcomes = λ i h. rw (snoc_default none t.tasks.waits i, snoc_default granted t.tasks.outcomes i) (elim (dec_lt i (task_count t)) [
    | yes k ↦ F.outcomes i k
    | no n ↦ rw (wait_out t F.wait_column i (omega arith)) (inl (get_or-eq_default t.tasks.outcomes granted (omega (arith, F.outcome_column))))
  ]);
  queues = F.queues;
  placed_in = F.placed_in;
  words = λ i h. elim (ℕ_discrete i (length t.tasks.words)) [
    | yes e ↦ rw (e, snoc_last (held_for []) [] t.tasks.words) (length_held [] (omega arith))
    | no n ↦ (let k : i < length t.tasks.words = omega (arith, more, F.word_column) in rw (kept i k) (F.words i (omega (arith, F.word_column))))
  ];
  queued = λ i. rw (snoc_default none t.tasks.waits i) (elim (dec_lt i (task_count t)) [
    | yes h ↦ queued_same t (add_task t p) i refl refl (kept i (omega (arith, F.word_column))) (wait_of t i) (F.queued i)
    | no h ↦ rw (wait_out t F.wait_column i (omega arith)) tt
  ]);
}
  where
    more : length (t.tasks.priorities ++ (p ∷ [])) ≡ suc (task_count t)
    more = length_snoc t.tasks.priorities p

    kept : (i : ℕ) → i < length t.tasks.words → words_of (add_task t p) i ≡ words_of t i
    kept i k = get_or-append t.tasks.words (held_for [] ∷ []) [] i k

pub facts_add_mutex : (t : Tables) (k : ℕ) → k < kinds → mutex_count t < max_mutexes → Facts t → Facts (add_mutex t k)
facts_add_mutex t k low room F = record {
  wait_column = F.wait_column;
  outcome_column = F.outcome_column;
  kind_column = omega (arith, F.kind_column, length_snoc t.mutexes.kinds k, more);
  maximum_column = F.maximum_column;
  word_column = F.word_column;
  width_column = F.width_column;
  depth_column = F.depth_column;
  message_column = F.message_column;
  few_tasks = F.few_tasks;
  few_mutexes = omega (arith, more);
  few_semaphores = F.few_semaphores;
  few_queues = F.few_queues;
  priorities = F.priorities;
  kinds_in = λ m h. elim (ℕ_discrete m (length t.mutexes.kinds)) [
    | yes e ↦ rw (e, snoc_last k 0 t.mutexes.kinds) low
    | no n ↦ (let q : m < length t.mutexes.kinds = omega (arith, more, F.kind_column) in
        rw (get_or-append t.mutexes.kinds (k ∷ []) 0 m q) (F.kinds_in m (omega (arith, F.kind_column))))
  ];
  waiting = F.waiting;
  blocked = λ i. still t (add_mutex t k) (λ m o e. (o, snoc_default none t.mutexes.owners m ∙ e)) (λ j h e. (h, e)) (λ q h. (h, refl, refl)) (wait_of t i) (F.blocked i);
  timed = F.timed;
  owners = λ m o e. F.owners m o (sym (snoc_default none t.mutexes.owners m) ∙ e);
  owned_queues = F.owned_queues;
  ends = ends_same t (add_mutex t k) (λ x. next_same t (add_mutex t k) x refl (snoc_default none t.mutexes.owners) (λ q. refl)) F.ends;
  counts = F.counts;
  outcomes = F.outcomes;
  queues = F.queues;
  placed_in = F.placed_in;
  words = F.words;
  queued = λ i. queued_same t (add_mutex t k) i refl refl refl (wait_of t i) (F.queued i);
}
  where
    more : length (t.mutexes.owners ++ (none ∷ [])) ≡ suc (mutex_count t)
    more = length_snoc t.mutexes.owners none

pub facts_add_sem : (t : Tables) (count max : ℕ) → 1 ≤ max → count ≤ max → sem_count t < max_semaphores → Facts t → Facts (add_sem t count max)
facts_add_sem t count max one low room F = record {
  wait_column = F.wait_column;
  outcome_column = F.outcome_column;
  kind_column = F.kind_column;
  maximum_column = omega (arith, F.maximum_column, length_snoc t.semaphores.maxima max, more);
  word_column = F.word_column;
  width_column = F.width_column;
  depth_column = F.depth_column;
  message_column = F.message_column;
  few_tasks = F.few_tasks;
  few_mutexes = F.few_mutexes;
  few_semaphores = omega (arith, more);
  few_queues = F.few_queues;
  priorities = F.priorities;
  kinds_in = F.kinds_in;
  waiting = F.waiting;
  blocked = λ i. still t (add_sem t count max) (λ m o e. (o, e)) (λ k h e. (omega (arith, more), get_or-append t.semaphores.counts (count ∷ []) 0 k h ∙ e)) (λ q h. (h, refl, refl)) (wait_of t i) (F.blocked i);
  timed = F.timed;
  owners = F.owners;
  owned_queues = F.owned_queues;
  ends = ends_same t (add_sem t count max) (λ x. next_same t (add_sem t count max) x refl (λ m. refl) (λ q. refl)) F.ends;
  counts = λ k h. elim (ℕ_discrete k (sem_count t)) [
    | yes e ↦ rw (e, snoc_last count 0 t.semaphores.counts, ← F.maximum_column, snoc_last max 0 t.semaphores.maxima) (low, one)
    | no n ↦ (let q : k < sem_count t = omega (arith, more) in
        rw (get_or-append t.semaphores.counts (count ∷ []) 0 k q, get_or-append t.semaphores.maxima (max ∷ []) 0 k (omega (arith, F.maximum_column))) (F.counts k q))
  ];
  outcomes = F.outcomes;
  queues = F.queues;
  placed_in = F.placed_in;
  words = F.words;
  queued = λ i. queued_same t (add_sem t count max) i refl refl refl (wait_of t i) (F.queued i);
}
  where
    more : length (t.semaphores.counts ++ (count ∷ [])) ≡ suc (sem_count t)
    more = length_snoc t.semaphores.counts count

-- the words that the first n queues take do not depend on the queues behind them
pub taken_snoc : (ws ds : List ℕ) (w d n : ℕ) → n ≤ length ws → n ≤ length ds → taken_by (ws ++ (w ∷ [])) (ds ++ (d ∷ [])) n ≡ taken_by ws ds n
unfolding taken_by
taken_snoc ws ds w d zero h k = refl
taken_snoc ws ds w d (suc n) h k = rw (taken_snoc ws ds w d n (omega arith) (omega arith), get_or-append ws (w ∷ []) 0 n (omega arith), get_or-append ds (d ∷ []) 0 n (omega arith)) refl

-- and with the new one, its own words more
taken_more : (ws ds : List ℕ) (w d n : ℕ) → length ws ≡ n → length ds ≡ n → taken_by (ws ++ (w ∷ [])) (ds ++ (d ∷ [])) (suc n) ≡ taken_by ws ds n + w * d
unfolding taken_by
taken_more ws ds w d n e f = rw (taken_snoc ws ds w d n (omega arith) (omega arith), get_or_at ws w [] 0 n e, get_or_at ds d [] 0 n f) refl

-- one more queue, behind the others in the block and empty, while nobody waits
pub facts_add_queue : (t : Tables) (w d : ℕ) (o : Option ℕ) → is_width w ≡ true → 1 ≤ d → d ≤ max_depth → ((i : ℕ) → o ≡ some i → i < task_count t) → queue_count t < max_queues
    → space_taken t + w * d ≤ t.queues.space → ((i : ℕ) → wait_of t i ≡ none) → Facts t → Facts (add_queue t w d o)
facts_add_queue t w d o wide above deep owned few room silent F = record {
  wait_column = F.wait_column;
  outcome_column = F.outcome_column;
  kind_column = F.kind_column;
  maximum_column = F.maximum_column;
  word_column = F.word_column;
  width_column = omega (arith, F.width_column, length_snoc t.queues.widths w, more);
  depth_column = omega (arith, F.depth_column, length_snoc t.queues.depths d, more);
  message_column = omega (arith, F.message_column, length_snoc t.queues.messages [], more);
  few_tasks = F.few_tasks;
  few_mutexes = F.few_mutexes;
  few_semaphores = F.few_semaphores;
  few_queues = omega (arith, more);
  priorities = F.priorities;
  kinds_in = F.kinds_in;
  waiting = F.waiting;
  blocked = λ i. rw (silent i) tt;
  timed = F.timed;
  owners = F.owners;
  owned_queues = λ q i e. elim (ℕ_discrete q (queue_count t)) [
    | yes p ↦ owned i (sym (snoc_last o none t.queues.owners) ∙ rw p at e)
    | no n ↦ elim (dec_lt q (queue_count t)) [
      | yes h ↦ F.owned_queues q i (sym (get_or-append t.queues.owners (o ∷ []) none q h) ∙ e)
      | no h ↦ none_some (get_or-eq_default (t.queues.owners ++ (o ∷ [])) none (omega (arith, more))) e
    ]
  ];
  ends = ends_same t (add_queue t w d o) (λ x. next_none (add_queue t w d o) x (silent x) ∙ sym (next_none t x (silent x))) F.ends;
  counts = F.counts;
  outcomes = F.outcomes;
  queues = λ q h. elim (ℕ_discrete q (queue_count t)) [
    | yes p ↦ rw (p, get_or_at t.queues.widths w [] 0 (queue_count t) F.width_column, get_or_at t.queues.depths d [] 0 (queue_count t) F.depth_column, get_or_at t.queues.messages [] [] [] (queue_count t) F.message_column)
        (record { width_in = wide; depth_above = above; depth_in = deep; room = omega arith; wide = λ k l. absurd (omega arith) })
    | no n ↦ (let l : q < queue_count t = omega (arith, more) in rw (
      get_or-append t.queues.widths (w ∷ []) 0 q (omega (arith, F.width_column)),
      get_or-append t.queues.depths (d ∷ []) 0 q (omega (arith, F.depth_column)),
      get_or-append t.queues.messages ([] ∷ []) [] q (omega (arith, F.message_column)),
    ) (F.queues q l))
  ];
  placed_in = rw (more, taken_more t.queues.widths t.queues.depths w d (queue_count t) F.width_column F.depth_column) room;
  words = F.words;
  queued = λ i. rw (silent i) tt;
}
  where
    more : length (t.queues.owners ++ (o ∷ [])) ≡ suc (queue_count t)
    more = length_snoc t.queues.owners o

-- who is ready exists
pub ready_in : (s : State) → Inv s → (i : ℕ) → 1 ≤ occ i s.ready → i < task_count s.tables
ready_in s I i m = in_below i (task_count s.tables) (omega (arith, I.places i))

-- in set-up, where a level is the own priority
module _ (s : State) (I : Inv s) (off : s.started ≡ false) where
  U : SetUp s
  U = I.at_set_up off

  -- nobody waits, so nobody lends
  alone : (t : Tables) → Facts t → ((i : ℕ) → occ i t.tasks.waiting ≡ 0) → (i : ℕ) → i < task_count t → level_in t i ≡ priority_of t i
  alone t F h i k = level_alone t F (λ j. wait_none (wait_of t j) (sym (F.waiting j) ∙ h j)) i k

  ready_alone : (t : Tables) → Facts t → ((i : ℕ) → occ i t.tasks.waiting ≡ 0) → task_count s.tables ≤ task_count t
      → ((i : ℕ) → i < task_count s.tables → priority_of t i ≡ priority_of s.tables i) → (i : ℕ) → 1 ≤ occ i s.ready → level_in t i ≡ level_of s i
  ready_alone t F h le same i m = let k = ready_in s I i m in
      alone t F h i (omega arith) ∙ (same i k ∙ sym (alone s.tables I.facts U.nobody_waits i k))

  -- a creation that makes no task
  object_inv : (t : Tables) (v : ℕ) → Facts t → task_count t ≡ task_count s.tables → t.tasks.waiting ≡ s.tables.tasks.waiting → ((m : ℕ) → owner_of t m ≡ none)
      → ((i : ℕ) → outcome_of t i ≡ granted) → ((i : ℕ) → priority_of t i ≡ priority_of s.tables i) → ((q : ℕ) → length (messages_of t q) ≡ 0)
      → t.tasks.words ≡ s.tables.tasks.words → Inv (finish s (done (with_tables s t) [] v))
  object_inv t v F n w o c p ms h = finish_inv s (done (with_tables s t) [] v) F I.clock_in I.hold_in
      (λ i. omega (arith, I.places i, ap (occ i) w, ap (below i) n)) (λ h. absurd (omega (arith, U.hold_0)))
      (λ e. record {
        clock_0 = U.clock_0;
        hold_0 = U.hold_0;
        idle = U.idle;
        nobody_waits = silent;
        nothing_owned = o;
        outcomes_0 = c;
        queues_empty = ms;
        words_0 = λ i k. ap (λ l. get_or (get_or l i []) k 0) h ∙ U.words_0 i k;
        id_order = subst (Ties (level_in t)) (sym (settled_same (task_count t) (level_of s) (level_in t) s.ready same I.ascending))
            (ties_change (level_of s) (level_in t) s.ready (λ y m. sym (same y m)) U.id_order);
      })
    where
      silent : (i : ℕ) → occ i t.tasks.waiting ≡ 0
      silent i = ap (occ i) w ∙ U.nobody_waits i

      same : (i : ℕ) → 1 ≤ occ i s.ready → level_in t i ≡ level_of s i
      same = ready_alone t F silent (omega arith) (λ i h. p i)

  pub mutex_inv : (k v : ℕ) → k < kinds → mutex_count s.tables < max_mutexes → Inv (finish s (done (with_tables s (add_mutex s.tables k)) [] v))
  mutex_inv k v low room = object_inv (add_mutex s.tables k) v (facts_add_mutex s.tables k low room I.facts) refl refl
      (λ m. snoc_default none s.tables.mutexes.owners m ∙ U.nothing_owned m) U.outcomes_0 (λ i. refl) U.queues_empty refl

  pub sem_inv : (count max v : ℕ) → 1 ≤ max → count ≤ max → sem_count s.tables < max_semaphores
      → Inv (finish s (done (with_tables s (add_sem s.tables count max)) [] v))
  sem_inv count max v one low room = object_inv (add_sem s.tables count max) v (facts_add_sem s.tables count max one low room I.facts) refl refl
      U.nothing_owned U.outcomes_0 (λ i. refl) U.queues_empty refl

  pub queue_inv : (w d : ℕ) (o : Option ℕ) (v : ℕ) → is_width w ≡ true → 1 ≤ d → d ≤ max_depth → ((i : ℕ) → o ≡ some i → i < task_count s.tables)
      → queue_count s.tables < max_queues → space_taken s.tables + w * d ≤ s.tables.queues.space → Inv (finish s (done (with_tables s (add_queue s.tables w d o)) [] v))
  queue_inv w d o v wide above deep owned few room = object_inv (add_queue s.tables w d o) v
      (facts_add_queue s.tables w d o wide above deep owned few room (λ i. wait_none (wait_of s.tables i) (sym (I.facts.waiting i) ∙ U.nobody_waits i)) I.facts) refl refl
      U.nothing_owned U.outcomes_0 (λ i. refl) (λ q. ap length (snoc_default [] s.tables.queues.messages q) ∙ U.queues_empty q) refl

  pub task_inv : (p v : ℕ) → p < levels → task_count s.tables < max_tasks → Inv (finish s (done (with_tables s (add_task s.tables p)) (task_count s.tables ∷ []) v))
  unfolding occ
  task_inv p v low room = finish_inv s (done (with_tables s t) (n ∷ []) v) F I.clock_in I.hold_in
      (λ i. omega (arith, I.places i, below_suc i n, ap (below i) more)) (λ h. absurd (omega (arith, U.hold_0)))
      (λ e. record {
        clock_0 = U.clock_0;
        hold_0 = U.hold_0;
        idle = U.idle;
        nobody_waits = U.nobody_waits;
        nothing_owned = U.nothing_owned;
        outcomes_0 = λ i. snoc_default granted s.tables.tasks.outcomes i ∙ U.outcomes_0 i;
        queues_empty = U.queues_empty;
        words_0 = held;
        id_order = subst (Ties (level_in t)) (sym order)
            (ties_insert_tail (level_in t) n s.ready (asc_change (level_of s) (level_in t) s.ready (λ y m. sym (same y m)) I.ascending) (ready_in s I)
            (ties_change (level_of s) (level_in t) s.ready (λ y m. sym (same y m)) U.id_order));
      })
    where
      n : ℕ
      n = task_count s.tables

      t : Tables
      t = add_task s.tables p

      F : Facts t
      F = facts_add_task s.tables p low room I.facts

      more : task_count t ≡ suc n
      more = length_snoc s.tables.tasks.priorities p

      held : (i k : ℕ) → get_or (words_of t i) k 0 ≡ 0
      held i k = elim (dec_lt i (length s.tables.tasks.words)) [
        | yes h ↦ ap (λ l. get_or l k 0) (get_or-append s.tables.tasks.words (held_for [] ∷ []) [] i h) ∙ U.words_0 i k
        | no h ↦ elim (ℕ_discrete i (length s.tables.tasks.words)) [
          | yes e ↦ ap (λ j. get_or (words_of t j) k 0) e ∙ (ap (λ l. get_or l k 0) (snoc_last (held_for []) [] s.tables.tasks.words) ∙ held_past [] k (omega arith))
          | no e ↦ ap (λ l. get_or l k 0) (get_or-eq_default (s.tables.tasks.words ++ (held_for [] ∷ [])) [] (omega (arith, length_snoc s.tables.tasks.words (held_for []))))
        ]
      ]

      same : (i : ℕ) → 1 ≤ occ i s.ready → level_in t i ≡ level_of s i
      same = ready_alone t F U.nobody_waits (omega (arith, more)) (λ i h. get_or-append s.tables.tasks.priorities (p ∷ []) 0 i h)

      order : settled_ready (task_count t) (level_of s) (level_in t) s.ready (n ∷ []) ≡ insert_tail (level_in t) n s.ready
      order = settled_one (task_count t) n (level_of s) (level_in t) s.ready same I.ascending
