-- A sound state of the rules is the view of its packing, and its packing is a sound record.
use Rattle.std.specs.Prelude.{◌≡◌, ℕ, suc, ◌+◌, ◌<◌, ◌≤◌, Bool, true, false, cond, not, ltb, leb, List, [], ◌∷◌, map, length, ◌==◌, nat_eq, nat_le, nat_lt, slice_index, slice_index_or}
use Rattle.std.proofs.Math.Path.{refl, ap, sym}
use Rattle.std.proofs.Common.{◌∙◌, arith}
use Rattle.std.proofs.Math.Logic.{inl, inr}
use Rattle.std.proofs.Math.Option.{Option, none, some}
use Rattle.std.proofs.Math.Decide.{dec_lt}
use Rattle.std.proofs.Math.ListN.{get_or-eq_default, get_or-map, length-map}
use Rattle.std.proofs.Math.Seq.{length-take-le, get_or-take}
use Rattle.rings.specs.Ring.{Ring, messages}
use Rattle.rings.proofs.StartsLaws.{start_same}
use borrow.Author.Tests.{ltb-true, ltb-false, lt-ltb, le-ltb, le-leb, eq-eqb}
use Rattle.lists.specs.Test.{◌and◌, ◌or◌, someb}
use Rattle.lists.specs.Count.{occ, below, opt}
use Rattle.lists.specs.Table.{pad, filled}
use Rattle.lists.specs.TestLaws.{which, by_test, and_l, and_r, true_and, or_l, or_r, true_all, none_some, some_same}
use Rattle.lists.specs.CountLaws.{occ_opt, in_below, below_le, pigeonhole}
use Rattle.lists.specs.TableLaws.{length_filled, get_d_filled, filled_is, take_pad, length_pad, get_d_pad, read_any}
use Rattle.rules.specs.Sizes.{task_places, max_mutexes, max_semaphores, max_queues, word_size, on_receive}
use Rattle.rules.specs.Levels.{level_in}
use Rattle.rules.specs.Sound.{soundb}
use Rattle.rules.specs.Invariant.{Left, Timed, Facts, Inv}
use Rattle.rules.proofs.LevelLaws.{wait_out}
use Rattle.rules.proofs.SoundLaws.{sound_inv, inv_sound}
use Rattle.task_lists.specs.TaskList.{places, no_id, task_list_of, id_of}
use Rattle.task_lists.specs.TaskListLaws.{items_task_list_of, rest_task_list_of}
use Rattle.walks.specs.Walk.{task_at}
use Rattle.record.specs.Record.{awaited_by, due_at, left_in, wait_with, wait_in, wait_at, view_tables, view, left_code, kind_code, object_code, timed_code, due_code, pack_tasks, pack_mutexes, pack_semaphores, pack_queues, pack, pack_words, ring_at, oldest_in}
use Rattle.record.specs.Whole.{Whole, whole}
use Rattle.record.specs.Layout.{ring_of, Stands}
use Rattle.record.specs.SoundRecord.{is_object_wait, used_taskb, unused_taskb, task_placeb, tasks_tidyb, idb, mutex_placeb, mutexes_tidyb, sem_placeb, semaphores_tidyb, queue_placeb, queues_tidyb, words_tidyb, task_list_tidyb, tidyb, levelsb, sound_of}
use Rattle.record.specs.GoodRecord.{Typed, WordsTyped}
use Rattle.record.specs.TidyLaws.{queues_fit, used_queue}
use Rattle.record.specs.ViewLaws.{view_queues_lem}
use Rattle.record.specs.WordsPackLaws.{words_back, words_tidy, words_pack}
use Rattle.record.specs.PackLaws.{ticks_back, task_back, good_queues, good_pack}
use Rattle.record.specs.ReadLaws.{level_out, kind_read, object_read, timed_read, due_read, priority_read, level_read, outcome_read, owner_read, mutex_read, count_read, maximum_read, queue_owner_read, width_read, depth_read, oldest_read, used_read, level_pack}
use Rattle.record.specs.declared.Queues.{Queues}  -- keep
use Rattle.rules.specs.State.{State as Model}  -- keep
use Rattle.rules.specs.Tables.{Awaited, mutex_of, sem_of, room_in, message_in, time, awaited_kind, awaited_object, Wait, TaskTable, MutexTable, SemTable, QueueTable, Tables, task_count, mutex_count, sem_count, queue_count, wait_of, owner_of, depth_of, queue_owner_of}  -- keep

-- a packed queue's ring
same_ring : (a b : Ring) → a.at ≡ b.at → a.width ≡ b.width → a.depth ≡ b.depth → a.oldest ≡ b.oldest → a.used ≡ b.used → a ≡ b
same_ring a b p q r s t = λ i. record { at = p i; width = q i; depth = r i; oldest = s i; used = t i }

pub ring_pack : (o : List ℕ) (x : QueueTable) (q : ℕ) → ring_at (pack_queues o x) q ≡ ring_of o x q
unfolding pack_queues
ring_pack o x q = same_ring _ _
    (start_same _ _ x.widths x.depths q (λ i h. get_d_pad max_queues 0 x.widths i) (λ i h. get_d_pad max_queues 0 x.depths i))
    (get_d_pad max_queues 0 x.widths q)
    (get_d_pad max_queues 0 x.depths q)
    (get_d_pad max_queues 0 o q)
    (get_d_pad max_queues 0 (map length x.messages) q ∙ get_or-map length x.messages q [])

-- a time left is below the number of words
left_word : (a : Awaited) (o : Option ℕ) → Left a o → (n : ℕ) → o ≡ some n → n < word_size
left_word a none L n e = none_some refl e
left_word a (some k) L n e = omega (arith, L.1, some_same e)

-- a wait is read back from its codes
module _ (clock : ℕ) (word : clock < word_size) where
  left_back : (o : Option ℕ) → ((n : ℕ) → o ≡ some n → n < word_size) → left_in (cond (someb o) 1 0) (left_code clock o) clock ≡ o
  unfolding left_in left_code someb
  left_back none h = refl
  left_back (some n) h = ap some (ticks_back clock word n (h n refl))

  wait_back : (w : Option Wait) → Timed w → wait_in (kind_code w) (object_code w) (left_in (timed_code w) (due_code clock w) clock) ≡ w
  unfolding wait_with awaited_by kind_code object_code timed_code due_code awaited_kind awaited_object
  wait_back none T = refl
  wait_back (some w) T = ap (λ o. wait_in (awaited_kind w.on) (awaited_object w.on) o) (left_back w.left (left_word w.on w.left T)) ∙ go w.on w.left
    where
      go : (a : Awaited) (o : Option ℕ) → wait_in (awaited_kind a) (awaited_object a) o ≡ some (record { on = a; left = o })
      go (mutex_of m) o = refl
      go (sem_of m) o = refl
      go (room_in q) o = refl
      go (message_in q) o = refl
      go time o = refl

owner_list : (l : List (Option ℕ)) → ((m o : ℕ) → slice_index_or l m none ≡ some o → o < task_places) → map task_at (map id_of l) ≡ l
owner_list [] h = refl
owner_list (o ∷ l) h = rw (task_back o (h 0), owner_list l (λ m. h (suc m)))

same_task_table : (a b : TaskTable) → a.priorities ≡ b.priorities → a.outcomes ≡ b.outcomes → a.waits ≡ b.waits → a.words ≡ b.words → a.waiting ≡ b.waiting → a ≡ b
same_task_table a b p q r u s = λ i. record { priorities = p i; outcomes = q i; waits = r i; words = u i; waiting = s i }

same_mutex_table : (a b : MutexTable) → a.kinds ≡ b.kinds → a.owners ≡ b.owners → a ≡ b
same_mutex_table a b p q = λ i. record { kinds = p i; owners = q i }

same_sem_table : (a b : SemTable) → a.counts ≡ b.counts → a.maxima ≡ b.maxima → a ≡ b
same_sem_table a b p q = λ i. record { counts = p i; maxima = q i }

same_queue_table : (a b : QueueTable) → a.widths ≡ b.widths → a.depths ≡ b.depths → a.owners ≡ b.owners → a.messages ≡ b.messages → a.space ≡ b.space → a ≡ b
same_queue_table a b p q r s t = λ i. record { widths = p i; depths = q i; owners = r i; messages = s i; space = t i }

same_tables : (a b : Tables) → a.tasks ≡ b.tasks → a.mutexes ≡ b.mutexes → a.semaphores ≡ b.semaphores → a.queues ≡ b.queues → a ≡ b
same_tables a b p q r s = λ i. record { tasks = p i; mutexes = q i; semaphores = r i; queues = s i }

same_model : (a b : Model) → a.tables ≡ b.tables → a.started ≡ b.started → a.clock ≡ b.clock → a.hold ≡ b.hold → a.running ≡ b.running → a.ready ≡ b.ready → a ≡ b
same_model a b p1 p2 p3 p4 p5 p6 = λ i. record { tables = p1 i; started = p2 i; clock = p3 i; hold = p4 i; running = p5 i; ready = p6 i }

module _ (s : Model) (o b : List ℕ) (F : Facts s.tables) (word : s.clock < word_size) (S : Stands o b s.tables.queues) where
  wait_view : (i : ℕ) → wait_at (pack_tasks s.tables s.clock) s.clock i ≡ wait_of s.tables i
  unfolding wait_at
  wait_view i = rw (kind_read t c i, object_read t c i, timed_read t c i, due_read t c i) (wait_back c word (wait_of t i) (F.timed i))
    where
      t : Tables
      t = s.tables

      c : ℕ
      c = s.clock

  waits_view : filled (task_count s.tables) (wait_at (pack_tasks s.tables s.clock) s.clock) ≡ s.tables.tasks.waits
  waits_view = filled_is (task_count s.tables) _ none s.tables.tasks.waits F.wait_column (λ i h. wait_view i)

  queues_n : (pack_queues o s.tables.queues).n ≡ queue_count s.tables
  unfolding pack_queues
  queues_n = refl

  -- the messages stand in the block
  messages_view : filled (queue_count s.tables) (λ q. messages b (ring_at (pack_queues o s.tables.queues) q)) ≡ s.tables.queues.messages
  messages_view = filled_is (queue_count s.tables) _ [] s.tables.queues.messages F.message_column
      (λ q h. ap (messages b) (ring_pack o s.tables.queues q) ∙ S.there q h)

  pub tables_pack : view_tables (whole (pack o s) (pack_words s.tables) b) ≡ s.tables
  unfolding view_tables pack pack_tasks pack_mutexes pack_semaphores pack_queues
  tables_pack = same_tables _ _
      (same_task_table _ _
      (take_pad task_places 0 (task_count s.tables) s.tables.tasks.priorities refl)
      (take_pad task_places 0 (task_count s.tables) s.tables.tasks.outcomes F.outcome_column)
      waits_view
      (words_back s.tables F)
      (items_task_list_of s.tables.tasks.waiting))
      (same_mutex_table _ _
      (take_pad max_mutexes 0 (mutex_count s.tables) s.tables.mutexes.kinds F.kind_column)
      (ap (map task_at) (take_pad max_mutexes no_id (mutex_count s.tables) (map id_of s.tables.mutexes.owners) (length-map s.tables.mutexes.owners id_of))
      ∙ owner_list s.tables.mutexes.owners (λ m o e. omega (arith, F.owners m o e, F.few_tasks))))
      (same_sem_table _ _
      (take_pad max_semaphores 0 (sem_count s.tables) s.tables.semaphores.counts refl)
      (take_pad max_semaphores 0 (sem_count s.tables) s.tables.semaphores.maxima F.maximum_column))
      (same_queue_table _ _
      (take_pad max_queues 0 (queue_count s.tables) s.tables.queues.widths F.width_column)
      (take_pad max_queues 0 (queue_count s.tables) s.tables.queues.depths F.depth_column)
      (ap (map task_at) (take_pad max_queues no_id (queue_count s.tables) (map id_of s.tables.queues.owners) (length-map s.tables.queues.owners id_of))
      ∙ owner_list s.tables.queues.owners (λ q i e. omega (arith, F.owned_queues q i e, F.few_tasks)))
      messages_view
      S.space)

flag_back : (b : Bool) → not (cond b 1 0 == 0) ≡ b
flag_back true = refl
flag_back false = refl

module _ (s : Model) (I : Inv s) where
  ids_in : (i : ℕ) → occ i s.ready + (occ i s.tables.tasks.waiting + occ i (opt s.running)) ≤ below i (task_count s.tables)
  ids_in i = omega (arith, I.places i)

  runner_low : (i : ℕ) → s.running ≡ some i → i < task_places
  runner_low i e = omega (arith, I.facts.few_tasks, in_below i (task_count s.tables) (omega (arith, ids_in i, occ_opt s.running i e)))

  -- what the packing of a sound state stands for, with a block that holds its messages, is the state
  pub view_pack : (o b : List ℕ) → Stands o b s.tables.queues → view (whole (pack o s) (pack_words s.tables) b) ≡ s
  unfolding view pack
  view_pack o b S = same_model _ _ (tables_pack s o b I.facts I.clock_in S) (flag_back s.started) refl refl (task_back s.running runner_low) (items_task_list_of s.ready)

  ready_fits : length s.ready ≤ task_places
  ready_fits = omega (arith, I.facts.few_tasks, pigeonhole (task_count s.tables) s.ready (λ y. omega (arith, ids_in y, below_le y (task_count s.tables))) (λ y m. in_below y (task_count s.tables) (omega (arith, ids_in y))))

  waiting_fits : length s.tables.tasks.waiting ≤ task_places
  waiting_fits = omega (arith, I.facts.few_tasks, pigeonhole (task_count s.tables) s.tables.tasks.waiting (λ y. omega (arith, ids_in y, below_le y (task_count s.tables))) (λ y m. in_below y (task_count s.tables) (omega (arith, ids_in y))))

-- the codes of a wait keep the record's rules
used_code : (clock : ℕ) (w : Option Wait)
    → leb (kind_code w) on_receive and (nat_eq (object_code w) 0 or is_object_wait (kind_code w)) and leb (timed_code w) 1
    and (nat_eq (timed_code w) 0 or not (kind_code w == 0)) and (nat_eq (due_code clock w) 0 or nat_eq (timed_code w) 1) ≡ true
unfolding kind_code object_code timed_code due_code awaited_kind awaited_object left_code someb ◌and◌ ◌or◌ is_object_wait
used_code clock none = refl
used_code clock (some w) = go w.on w.left
  where
    go : (a : Awaited) (o : Option ℕ)
        → leb (awaited_kind a) on_receive and (nat_eq (awaited_object a) 0 or is_object_wait (awaited_kind a)) and leb (cond (someb o) 1 0) 1
        and (nat_eq (cond (someb o) 1 0) 0 or not (awaited_kind a == 0)) and (nat_eq (left_code clock o) 0 or nat_eq (cond (someb o) 1 0) 1) ≡ true
    go (mutex_of m) none = true_and _ _ (or_r (m == 0) _ refl) refl
    go (sem_of m) none = true_and _ _ (or_r (m == 0) _ refl) refl
    go (room_in m) none = true_and _ _ (or_r (m == 0) _ refl) refl
    go (message_in m) none = true_and _ _ (or_r (m == 0) _ refl) refl
    go time none = refl
    go (mutex_of m) (some n) = true_and _ _ (or_r (m == 0) _ refl) (or_r (due_at clock n == 0) _ refl)
    go (sem_of m) (some n) = true_and _ _ (or_r (m == 0) _ refl) (or_r (due_at clock n == 0) _ refl)
    go (room_in m) (some n) = true_and _ _ (or_r (m == 0) _ refl) (or_r (due_at clock n == 0) _ refl)
    go (message_in m) (some n) = true_and _ _ (or_r (m == 0) _ refl) (or_r (due_at clock n == 0) _ refl)
    go time (some n) = or_r (due_at clock n == 0) _ refl

true_id : (o : Option ℕ) → ((i : ℕ) → o ≡ some i → i < task_places) → idb (id_of o) ≡ true
unfolding id_of
true_id none h = or_r (nat_lt no_id task_places) _ refl
true_id (some i) h = or_l _ _ (lt-ltb i task_places (h i refl))

true_flag : (b : Bool) → nat_le (cond b 1 0) 1 ≡ true
true_flag true = refl
true_flag false = refl

-- the packed tables are tidy
module _ (t : Tables) (F : Facts t) (clock : ℕ) where
  used_tidy : (i : ℕ) → used_taskb (pack_tasks t clock) i ≡ true
  unfolding used_taskb
  used_tidy i = rw (kind_read t clock i, object_read t clock i, timed_read t clock i, due_read t clock i) (used_code clock (wait_of t i))

  unused_tidy : (i : ℕ) → task_count t ≤ i → unused_taskb (pack_tasks t clock) i ≡ true
  unfolding unused_taskb kind_code object_code timed_code due_code ◌and◌
  unused_tidy i h = rw (
    priority_read t clock i ∙ get_or-eq_default t.tasks.priorities 0 h,
    level_read t clock i ∙ level_out t i h,
    outcome_read t clock i ∙ get_or-eq_default t.tasks.outcomes 0 short,
    kind_read t clock i ∙ ap kind_code nobody,
    object_read t clock i ∙ ap object_code nobody,
    timed_read t clock i ∙ ap timed_code nobody,
    due_read t clock i ∙ ap (due_code clock) nobody,
  ) refl
    where
      short : length t.tasks.outcomes ≤ i
      short = omega (arith, F.outcome_column)

      nobody : wait_of t i ≡ none
      nobody = wait_out t F.wait_column i h

  tasks_tidy : tasks_tidyb (pack_tasks t clock) ≡ true
  unfolding tasks_tidyb task_placeb pack_tasks
  tasks_tidy = true_and _ _ (le-leb _ _ F.few_tasks) (true_all task_places _ (λ i h. elim (dec_lt i (task_count t)) [
    | yes q ↦ rw (lt-ltb i (task_count t) q) (used_tidy i)
    | no q ↦ rw (le-ltb i (task_count t) (omega arith)) (unused_tidy i (omega arith))
  ]))

  owner_zero : (j : ℕ) → j < max_mutexes → slice_index (pack_mutexes t).owner j ≡ id_of (owner_of t j)
  unfolding pack_mutexes
  owner_zero j h = read_any (pad max_mutexes no_id (map id_of t.mutexes.owners)) j 0 no_id (omega (arith, length_pad max_mutexes no_id (map id_of t.mutexes.owners) (omega (arith, F.few_mutexes, length-map t.mutexes.owners id_of)))) ∙ owner_read t j

  mutexes_n : (pack_mutexes t).n ≡ mutex_count t
  unfolding pack_mutexes
  mutexes_n = refl

  mutexes_tidy : mutexes_tidyb (pack_mutexes t) ≡ true
  unfolding mutexes_tidyb mutex_placeb id_of
  mutexes_tidy = true_and _ _ (le-leb (pack_mutexes t).n max_mutexes (omega (arith, F.few_mutexes, mutexes_n))) (true_all max_mutexes _ (λ j h. by_test (λ (b : Bool). b ≡ true) (nat_lt j (pack_mutexes t).n)
      (λ q. rw (owner_zero j h) (true_id (owner_of t j) (λ o e. omega (arith, F.owners j o e, F.few_tasks))))
      (λ q. unused j h (ltb-false j _ q))))
    where
      unused : (j : ℕ) → j < max_mutexes → (pack_mutexes t).n ≤ j → nat_eq (slice_index (pack_mutexes t).kind j) 0 and nat_eq (slice_index (pack_mutexes t).owner j) no_id ≡ true
      unused j h q =
          let b : length t.mutexes.kinds ≤ j = omega (arith, F.kind_column, mutexes_n) in
          let c : length t.mutexes.owners ≤ j = omega (arith, mutexes_n) in
          true_and _ _ (eq-eqb _ _ (mutex_read t j ∙ get_or-eq_default t.mutexes.kinds 0 b)) (eq-eqb _ _ (owner_zero j h ∙ ap id_of (get_or-eq_default t.mutexes.owners none c)))

  semaphores_n : (pack_semaphores t).n ≡ sem_count t
  unfolding pack_semaphores
  semaphores_n = refl

  semaphores_tidy : semaphores_tidyb (pack_semaphores t) ≡ true
  unfolding semaphores_tidyb sem_placeb
  semaphores_tidy = true_and _ _ (le-leb (pack_semaphores t).n max_semaphores (omega (arith, F.few_semaphores, semaphores_n))) (true_all max_semaphores _ (λ j h. elim (which (nat_lt j (pack_semaphores t).n)) [
    | inl q ↦ or_l _ _ q
    | inr q ↦ (
        let b : length t.semaphores.counts ≤ j = omega (arith, ltb-false j _ q, semaphores_n) in
        let c : length t.semaphores.maxima ≤ j = omega (arith, F.maximum_column) in
        or_r _ _ (true_and _ _ (eq-eqb _ _ (count_read t j ∙ get_or-eq_default t.semaphores.counts 0 b)) (eq-eqb _ _ (maximum_read t j ∙ get_or-eq_default t.semaphores.maxima 0 c)))
        )
  ]))

-- the packed queues are tidy where their oldest messages stand in their rings
module _ (t : Tables) (F : Facts t) (o b : List ℕ) (S : Stands o b t.queues) where
  queue_owner_zero : (q : ℕ) → q < max_queues → slice_index (pack_queues o t.queues).owner q ≡ id_of (queue_owner_of t q)
  unfolding pack_queues
  queue_owner_zero q h = read_any (pad max_queues no_id (map id_of t.queues.owners)) q 0 no_id (omega (arith, length_pad max_queues no_id (map id_of t.queues.owners) (omega (arith, F.few_queues, length-map t.queues.owners id_of)))) ∙ queue_owner_read t o q

  packed_n : (pack_queues o t.queues).n ≡ queue_count t
  unfolding pack_queues
  packed_n = refl

  used_queue_tidy : (q : ℕ) → q < max_queues → q < queue_count t
      → idb (slice_index (pack_queues o t.queues).owner q) and ltb (slice_index (pack_queues o t.queues).oldest q) (slice_index (pack_queues o t.queues).depth q) ≡ true
  used_queue_tidy q h l = rw (queue_owner_zero q h, oldest_read t o q, depth_read t o q)
      (true_and _ _ (true_id (queue_owner_of t q) (λ i f. omega (arith, F.owned_queues q i f, F.few_tasks))) (lt-ltb (slice_index o q) (depth_of t q) (S.in_ring q l)))

  queue_tidy : (q : ℕ) → q < max_queues → queue_placeb (pack_queues o t.queues) q ≡ true
  unfolding queue_placeb id_of ◌and◌
  queue_tidy q h = by_test (λ (z : Bool). z ≡ true) (nat_lt q (pack_queues o t.queues).n)
      (λ e. used_queue_tidy q h (omega (arith, ltb-true q (pack_queues o t.queues).n e, packed_n)))
      (λ e. (let l : queue_count t ≤ q = omega (arith, ltb-false q (pack_queues o t.queues).n e, packed_n) in
      rw (
        width_read t o q ∙ get_or-eq_default t.queues.widths 0 (omega (arith, F.width_column)),
        depth_read t o q ∙ get_or-eq_default t.queues.depths 0 (omega (arith, F.depth_column)),
        queue_owner_zero q h ∙ ap id_of (get_or-eq_default t.queues.owners none l),
        oldest_read t o q ∙ get_or-eq_default o 0 (omega (arith, S.oldest_column)),
        used_read t o q ∙ ap length (get_or-eq_default t.queues.messages [] (omega (arith, F.message_column))),
      ) refl))

  pub queues_tidy : queues_tidyb (pack_queues o t.queues) ≡ true
  unfolding queues_tidyb
  queues_tidy = true_and _ _ (le-leb (pack_queues o t.queues).n max_queues (omega (arith, F.few_queues, packed_n))) (true_all max_queues _ queue_tidy)

task_list_tidy : (l : List ℕ) → length l ≤ places → task_list_tidyb (task_list_of l) ≡ true
unfolding task_list_tidyb task_list_of
task_list_tidy l h = true_and _ _ (le-leb (length l) places h) (rest_task_list_of l)

module _ (s : Model) (I : Inv s) (o b : List ℕ) (S : Stands o b s.tables.queues) where
  pub pack_tidy : tidyb (pack o s) ≡ true
  unfolding tidyb pack
  pack_tidy =
      true_and _ _ (tasks_tidy s.tables I.facts s.clock)
      (true_and _ _ (mutexes_tidy s.tables I.facts s.clock)
      (true_and _ _ (semaphores_tidy s.tables I.facts s.clock)
      (true_and _ _ (task_list_tidy s.ready (ready_fits s I))
      (true_and _ _ (task_list_tidy s.tables.tasks.waiting (waiting_fits s I))
      (true_and _ _ (true_flag s.started) (true_and _ _ (true_id s.running (runner_low s I)) (queues_tidy s.tables I.facts o b S)))))))

  pub pack_levels : levelsb (whole (pack o s) (pack_words s.tables) b) ≡ true
  unfolding levelsb
  pack_levels = true_all _ _ (λ i h. eq-eqb _ _ (level_pack s o i ∙ ap (λ t. level_in t i) (sym (tables_pack s o b I.facts I.clock_in S))))

  tasks_n : (pack o s).tasks.n ≡ task_count s.tables
  unfolding pack pack_tasks
  tasks_n = refl

  -- the packing of a sound state is a sound record
  pub pack_sound : sound_of (whole (pack o s) (pack_words s.tables) b) ≡ true
  unfolding sound_of
  pack_sound = true_and _ _ pack_tidy (true_and _ _ (ap (words_tidyb (pack_words s.tables)) tasks_n ∙ words_tidy s.tables I.facts)
      (true_and _ _ pack_levels (ap soundb (view_pack s I o b S) ∙ inv_sound s I)))

-- due times fit into a word
left_small : (clock : ℕ) (o : Option ℕ) → left_code clock o < word_size
unfolding left_code
left_small clock none = omega arith
left_small clock (some n) = omega arith

due_small : (clock : ℕ) (w : Option Wait) → due_code clock w < word_size
unfolding due_code
due_small clock none = omega arith
due_small clock (some w) = left_small clock w.left

-- the packing of a sound state has the lengths and the numbers of the record's type
module _ (s : Model) (I : Inv s) where
  task_column : (l : List ℕ) → length l ≡ task_count s.tables → length (pad task_places 0 l) ≡ task_places
  task_column l e = length_pad task_places 0 l (omega (arith, I.facts.few_tasks))

  wait_codes : (f : Option Wait → ℕ) → length (pad task_places 0 (map f s.tables.tasks.waits)) ≡ task_places
  wait_codes f = task_column (map f s.tables.tasks.waits) (length-map s.tables.tasks.waits f ∙ I.facts.wait_column)

  due_in_lem : (i : ℕ) → slice_index (pack_tasks s.tables s.clock).due i < word_size
  due_in_lem i = rw (due_read s.tables s.clock i) (due_small s.clock (wait_of s.tables i))

  pub pack_typed : (o : List ℕ) → length o ≤ max_queues → Typed (pack o s)
  unfolding pack pack_tasks pack_mutexes pack_semaphores pack_queues task_list_of
  pack_typed o few =
      let t = s.tables in
      record {
        due_length = wait_codes (due_code s.clock);
        priority_length = task_column t.tasks.priorities refl;
        level_length = task_column (filled (task_count t) (level_in t)) (length_filled (task_count t) (level_in t));
        outcome_length = task_column t.tasks.outcomes I.facts.outcome_column;
        wait_length = wait_codes kind_code;
        object_length = wait_codes object_code;
        timed_length = wait_codes timed_code;
        kind_length = length_pad max_mutexes 0 t.mutexes.kinds (omega (arith, I.facts.kind_column, I.facts.few_mutexes));
        owner_length = length_pad max_mutexes no_id (map id_of t.mutexes.owners) (omega (arith, length-map t.mutexes.owners id_of, I.facts.few_mutexes));
        count_length = length_pad max_semaphores 0 t.semaphores.counts I.facts.few_semaphores;
        maximum_length = length_pad max_semaphores 0 t.semaphores.maxima (omega (arith, I.facts.maximum_column, I.facts.few_semaphores));
        width_length = length_pad max_queues 0 t.queues.widths (omega (arith, I.facts.width_column, I.facts.few_queues));
        depth_length = length_pad max_queues 0 t.queues.depths (omega (arith, I.facts.depth_column, I.facts.few_queues));
        queue_owner_length = length_pad max_queues no_id (map id_of t.queues.owners) (omega (arith, length-map t.queues.owners id_of, I.facts.few_queues));
        oldest_length = length_pad max_queues 0 o few;
        used_length = length_pad max_queues 0 (map length t.queues.messages) (omega (arith, length-map t.queues.messages length, I.facts.message_column, I.facts.few_queues));
        ready_length = length_pad places no_id s.ready (ready_fits s I);
        waiting_length = length_pad places no_id t.tasks.waiting (waiting_fits s I);
        due_word = due_in_lem;
        clock_word = I.clock_in;
        hold_byte = omega (arith, I.hold_in);
      }

-- a sound record is the packing of a sound state, that which it stands for with its words and block
module _ (h : Whole) (sound : sound_of h ≡ true) where
  pub sound_view : Inv (view h)
  unfolding sound_of
  sound_view = sound_inv (view h) (and_r _ _ (and_r _ _ (and_r _ _ sound)))

  pub sound_tidy : tidyb h.state ≡ true
  unfolding sound_of
  sound_tidy = and_l _ _ sound

  pub sound_pack : Typed h.state → pack (oldest_in h.state.queues) (view h) ≡ h.state
  unfolding sound_of
  sound_pack T = good_pack h.state h.words h.block T (and_l _ _ sound) (and_l _ _ (and_r _ _ (and_r _ _ sound)))

  pub sound_words : WordsTyped h.words → pack_words (view_tables h) ≡ h.words
  unfolding sound_of
  sound_words T = words_pack h.state h.words h.block T (and_l _ _ sound) (and_l _ _ (and_r _ _ sound))

  view_queues_is : (view h).tables.queues ≡ (view_tables h).queues
  unfolding view
  view_queues_is = refl

  pub sound_stands : Typed h.state → Stands (oldest_in h.state.queues) h.block (view_tables h).queues
  unfolding view_tables
  sound_stands T = record {
    oldest_column = length-take-le x.n x.oldest (omega (arith, T.oldest_length, few)) ∙ sym n;
    in_ring = λ q l. (let i : q < x.n = omega (arith, n) in
        omega (arith, get_or-take x.n x.oldest q 0 i, get_or-take x.n x.depth q 0 i, ltb-true (slice_index x.oldest q) (slice_index x.depth q) (and_r _ _ (used_queue h.state sound_tidy q i))));
    there = λ q l. ap (messages h.block) (sym (ring_pack (oldest_in x) (view_tables h).queues q))
        ∙ ap (λ z. messages h.block (ring_at z q)) (good_queues h.state h.words h.block T sound_tidy)
        ∙ sym (get_d_filled x.n (λ j. messages h.block (ring_at x j)) [] q (omega (arith, n)));
    space = refl;
  }
    where
      x : Queues
      x = h.state.queues

      few : x.n ≤ max_queues
      few = queues_fit h.state sound_tidy

      n : queue_count (view_tables h) ≡ x.n
      n = view_queues_lem h.state h.words h.block T sound_tidy
