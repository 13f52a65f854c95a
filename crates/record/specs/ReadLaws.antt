-- Reading the packed tables: each place holds the code of what the rules' tables hold, and the code's levels are the levels.
use Rattle.std.specs.Prelude.{◌≡◌, ℕ, ◌≤◌, min, true, List, [], map, length, get_or, ◌==◌, slice_index, slice_index_or}
use Rattle.std.proofs.Math.Path.{refl, ap, sym, fun_ext}
use Rattle.std.proofs.Common.{◌∙◌, arith, ext_get_or}
use Rattle.std.proofs.Math.Logic.{inl, inr}
use Rattle.std.proofs.Math.Option.{Option, none, some}
use Rattle.std.proofs.Math.Decide.{dec_lt}
use Rattle.std.proofs.Math.ListN.{get_or-eq_default, get_or-map}
use Rattle.std.proofs.lemmas.Bool.{not-true}
use Rattle.lists.specs.Table.{filled}
use Rattle.lists.specs.TestLaws.{which, by_test, or_none}
use Rattle.lists.specs.TableLaws.{length_filled, get_d_filled, length_pad, get_d_pad}
use Rattle.chains.specs.Least.{leads_to, least_leading}
use Rattle.chains.specs.LeastLaws.{least_start}
use Rattle.rules.specs.Sizes.{task_places, max_mutexes, max_semaphores, max_queues, inheriting}
use Rattle.rules.specs.Tables.{awaited_kind, awaited_object, outcome_of, count_of, maximum_of, kind_of, owner_of}
use Rattle.rules.specs.Levels.{owner_awaited, heir_awaited, of_wait, next, lends, level_in}
use Rattle.rules.specs.Invariant.{Facts}
use Rattle.rules.proofs.LevelLaws.{wait_out, lends_ended}
use Rattle.task_lists.specs.TaskList.{no_id, key_of, id_of}
use Rattle.walks.specs.Walk.{task_at, next_in, raised}
use Rattle.walks.specs.WalkLaws.{next_in_lem, next_out, length_raised, raised_ext, raised_out}
use Rattle.record.specs.Record.{kind_code, object_code, timed_code, due_code, pack_tasks, pack_mutexes, pack_semaphores, pack_queues, pack}
use Rattle.record.specs.Setters.{put_level}
use Rattle.record.specs.Reads.{owner_at, kind_at, queue_owner_at, led_by, leads_at, leads_nowhere_at, next_at, heir_at, lends_at, new_levels, count_at, maximum_at}
use Rattle.record.specs.PackLaws.{level_column, pack_with, task_back}
use Rattle.record.specs.ViewLaws.{Leading}
use Rattle.rules.specs.State.{State as Model}  -- keep
use Rattle.rules.specs.Tables.{Tables, Wait, Awaited, mutex_of, sem_of, room_in, message_in, time, task_count, priority_of, wait_of, owner_of, kind_of, width_of, depth_of, queue_owner_of, messages_of}  -- keep

-- behind the last task every level is 0
pub level_out : (t : Tables) (i : ℕ) → task_count t ≤ i → level_in t i ≡ 0
unfolding level_in least_leading
level_out t i h = omega (arith, least_start (λ j. leads_to (task_count t) (lends t) j i) (priority_of t) (priority_of t i) (task_count t), get_or-eq_default t.tasks.priorities 0 h)

-- the table of levels reads as the levels, at every place
pub key_level : (t : Tables) (i : ℕ) → key_of (level_column t) i ≡ level_in t i
unfolding level_column
key_level t i = get_d_pad task_places 0 (filled (task_count t) (level_in t)) i ∙ elim (dec_lt i (task_count t)) [
  | yes h ↦ get_d_filled (task_count t) (level_in t) 0 i h
  | no h ↦ (let b : length (filled (task_count t) (level_in t)) ≤ i = omega (arith, length_filled (task_count t) (level_in t)) in
      get_or-eq_default (filled (task_count t) (level_in t)) 0 b ∙ sym (level_out t i (omega arith)))
]

pub key_levels : (t : Tables) → key_of (level_column t) ≡ level_in t
key_levels t = fun_ext (key_level t)

pub length_levels : (t : Tables) → task_count t ≤ task_places → length (level_column t) ≡ task_places
unfolding level_column
length_levels t h = length_pad task_places 0 (filled (task_count t) (level_in t)) (omega (arith, length_filled (task_count t) (level_in t)))

-- the packed columns, read at every place
module _ (t : Tables) (clock : ℕ) (i : ℕ) where
  pub kind_read : key_of (pack_tasks t clock).wait i ≡ kind_code (wait_of t i)
  unfolding pack_tasks kind_code
  kind_read = get_d_pad task_places 0 (map kind_code t.tasks.waits) i ∙ get_or-map kind_code t.tasks.waits i none

  pub object_read : key_of (pack_tasks t clock).object i ≡ object_code (wait_of t i)
  unfolding pack_tasks object_code
  object_read = get_d_pad task_places 0 (map object_code t.tasks.waits) i ∙ get_or-map object_code t.tasks.waits i none

  pub timed_read : key_of (pack_tasks t clock).timed i ≡ timed_code (wait_of t i)
  unfolding pack_tasks timed_code
  timed_read = get_d_pad task_places 0 (map timed_code t.tasks.waits) i ∙ get_or-map timed_code t.tasks.waits i none

  pub due_read : key_of (pack_tasks t clock).due i ≡ due_code clock (wait_of t i)
  unfolding pack_tasks due_code
  due_read = get_d_pad task_places 0 (map (due_code clock) t.tasks.waits) i ∙ get_or-map (due_code clock) t.tasks.waits i none

  pub priority_read : key_of (pack_tasks t clock).priority i ≡ priority_of t i
  unfolding pack_tasks
  priority_read = get_d_pad task_places 0 t.tasks.priorities i

  pub level_read : key_of (pack_tasks t clock).level i ≡ level_in t i
  unfolding pack_tasks level_column
  level_read = key_level t i

  pub outcome_read : key_of (pack_tasks t clock).outcome i ≡ outcome_of t i
  unfolding pack_tasks
  outcome_read = get_d_pad task_places 0 t.tasks.outcomes i

module _ (t : Tables) (m : ℕ) where
  pub owner_read : owner_at (pack_mutexes t) m ≡ id_of (owner_of t m)
  unfolding pack_mutexes id_of
  owner_read = get_d_pad max_mutexes no_id (map id_of t.mutexes.owners) m ∙ get_or-map id_of t.mutexes.owners m none

  pub mutex_read : kind_at (pack_mutexes t) m ≡ kind_of t m
  unfolding pack_mutexes
  mutex_read = get_d_pad max_mutexes 0 t.mutexes.kinds m

  pub count_read : count_at (pack_semaphores t) m ≡ count_of t m
  unfolding pack_semaphores
  count_read = get_d_pad max_semaphores 0 t.semaphores.counts m

  pub maximum_read : maximum_at (pack_semaphores t) m ≡ maximum_of t m
  unfolding pack_semaphores
  maximum_read = get_d_pad max_semaphores 0 t.semaphores.maxima m

-- the packed queues, read at every place: `o` has the ring places of the oldest messages
module _ (t : Tables) (o : List ℕ) (q : ℕ) where
  pub queue_owner_read : queue_owner_at (pack_queues o t.queues) q ≡ id_of (queue_owner_of t q)
  unfolding pack_queues id_of
  queue_owner_read = get_d_pad max_queues no_id (map id_of t.queues.owners) q ∙ get_or-map id_of t.queues.owners q none

  pub width_read : get_or (pack_queues o t.queues).width q 0 ≡ width_of t q
  unfolding pack_queues
  width_read = get_d_pad max_queues 0 t.queues.widths q

  pub depth_read : get_or (pack_queues o t.queues).depth q 0 ≡ depth_of t q
  unfolding pack_queues
  depth_read = get_d_pad max_queues 0 t.queues.depths q

  pub oldest_read : get_or (pack_queues o t.queues).oldest q 0 ≡ slice_index o q
  unfolding pack_queues
  oldest_read = get_d_pad max_queues 0 o q

  pub used_read : get_or (pack_queues o t.queues).used q 0 ≡ length (messages_of t q)
  unfolding pack_queues
  used_read = get_d_pad max_queues 0 (map length t.queues.messages) q ∙ get_or-map length t.queues.messages q []

-- an owner stands for itself
module _ (t : Tables) (F : Facts t) (m : ℕ) where
  pub owner_back : task_at (id_of (owner_of t m)) ≡ owner_of t m
  owner_back = task_back (owner_of t m) (λ o e. omega (arith, F.owners m o e, F.few_tasks))

  pub queue_owner_back : task_at (id_of (queue_owner_of t m)) ≡ queue_owner_of t m
  queue_owner_back = task_back (queue_owner_of t m) (λ o e. omega (arith, F.owned_queues m o e, F.few_tasks))

-- who leads to whom, by the packed tables
module _ (t : Tables) (F : Facts t) where
  -- by tables that tell whom a wait for each mutex, and one to send to each queue, leads to
  led_code : (l n : List ℕ) (f : Awaited → Option ℕ) → ((j : ℕ) → task_at (slice_index_or l j no_id) ≡ f (mutex_of j)) → ((j : ℕ) → task_at (slice_index_or n j no_id) ≡ f (room_in j)) → Leading f
      → (w : Option Wait) → task_at (led_by l n (kind_code w) (object_code w)) ≡ of_wait f w
  unfolding kind_code object_code awaited_kind awaited_object of_wait led_by
  led_code l n f told told-queue L none = refl
  led_code l n f told told-queue L (some w) = go w.on
    where
      go : (a : Awaited) → task_at (led_by l n (awaited_kind a) (awaited_object a)) ≡ f a
      go (mutex_of m) = told m
      go (sem_of k) = sym (L.no_sem k)
      go (room_in q) = told-queue q
      go (message_in q) = sym (L.no_message q)
      go time = sym L.no_time

  -- the owner of an inheriting mutex
  heir_code : (j : ℕ) → task_at (slice_index_or (filled max_mutexes (heir_at (pack_mutexes t))) j no_id) ≡ heir_awaited t (mutex_of j)
  unfolding heir_awaited
  heir_code j = elim (dec_lt j max_mutexes) [
    | yes h ↦ ap task_at (get_d_filled max_mutexes (heir_at (pack_mutexes t)) no_id j h)
        ∙ rw (owner_read t j, mutex_read t j) (elim (which (kind_of t j == inheriting)) [ inl e ↦ rw e (owner_back t F j) | inr e ↦ rw e refl ])
    | no h ↦ ap task_at (get_or-eq_default (filled max_mutexes (heir_at (pack_mutexes t))) no_id (omega (arith, length_filled max_mutexes (heir_at (pack_mutexes t)))))
        ∙ sym (rw (get_or-eq_default t.mutexes.owners none {n = j} (omega (arith, F.few_mutexes))) (by_test (λ (o : Option ℕ). o ≡ none) (kind_of t j == inheriting) (λ e. refl) (λ e. refl)))
  ]

  -- a table of what f gives, as a map
  filled_next : (f : ℕ → ℕ) (g : ℕ → Option ℕ) → ((i : ℕ) → task_at (f i) ≡ g i) → ((i : ℕ) → task_places ≤ i → g i ≡ none) → (i : ℕ) → next_in (filled task_places f) i ≡ g i
  filled_next f g e o i = elim (dec_lt i task_places) [
    | yes h ↦ next_in_lem (filled task_places f) i h ∙ ap task_at (get_d_filled task_places f 0 i h) ∙ e i
    | no h ↦ next_out (filled task_places f) i (omega arith) ∙ sym (o i (omega arith))
  ]

  -- the table of whom each task leads to, as a map
  led_table : (l n : List ℕ) (f : Awaited → Option ℕ) → ((j : ℕ) → task_at (slice_index_or l j no_id) ≡ f (mutex_of j)) → ((j : ℕ) → task_at (slice_index_or n j no_id) ≡ f (room_in j)) → Leading f
      → (clock : ℕ) (lv : List ℕ) (i : ℕ) → next_in (filled task_places (leads_at (put_level (pack_tasks t clock) lv) l n)) i ≡ of_wait f (wait_of t i)
  unfolding of_wait
  led_table l n f told told-queue L clock lv = filled_next _ (λ i. of_wait f (wait_of t i))
      (λ i. rw (kind_read t clock i, object_read t clock i) (led_code l n f told told-queue L (wait_of t i)))
      (λ i h. rw (wait_out t F.wait_column i (omega (arith, F.few_tasks))) refl)

  pub next_table : (o : List ℕ) (clock : ℕ) (lv : List ℕ) (i : ℕ) → next_in (filled task_places (next_at (put_level (pack_tasks t clock) lv) (pack_mutexes t) (pack_queues o t.queues))) i ≡ next t i
  unfolding next owner_awaited
  next_table o = led_table (pack_mutexes t).owner (pack_queues o t.queues).owner (owner_awaited t) (λ j. ap task_at (owner_read t j) ∙ owner_back t F j)
      (λ j. ap task_at (queue_owner_read t o j) ∙ queue_owner_back t F j) (record { no_sem = λ j. refl; no_message = λ j. refl; no_time = refl })

  pub lends_table : (o : List ℕ) (clock : ℕ) (lv : List ℕ) (i : ℕ) → next_in (filled task_places (lends_at (put_level (pack_tasks t clock) lv) (pack_mutexes t) (pack_queues o t.queues))) i ≡ lends t i
  unfolding lends heir_awaited
  lends_table o = led_table (filled max_mutexes (heir_at (pack_mutexes t))) (pack_queues o t.queues).owner (heir_awaited t) heir_code
      (λ j. ap task_at (queue_owner_read t o j) ∙ queue_owner_back t F j) (record { no_sem = λ j. refl; no_message = λ j. refl; no_time = refl })

  -- the levels that the code makes are the levels
  levels_table : (o : List ℕ) (clock : ℕ) (lv : List ℕ) → new_levels (put_level (pack_tasks t clock) lv) (pack_mutexes t) (pack_queues o t.queues) ≡ level_column t
  unfolding new_levels level_in pack_tasks
  levels_table o clock lv = rw fuel (ext_get_or 0 made (level_column t) sizes (λ i h. elim (dec_lt i n) [
    | yes q ↦ raised_ext own links n F.few_tasks (lends t) (lends_table o clock lv) i ∙ ap (λ f. least_leading n (lends t) f i) (fun_ext (priority_read t clock)) ∙ sym (key_level t i)
    | no q ↦ raised_out own links n F.few_tasks (λ k m l e. (lends_ended t F).to k m (sym (lends_table o clock lv k) ∙ e)) i (omega arith)
        ∙ priority_read t clock i ∙ out i (omega arith) ∙ sym (key_level t i ∙ level_out t i (omega arith))
  ]))
    where
      n : ℕ
      n = task_count t

      own : List ℕ
      own = (pack_tasks t clock).priority

      links : List ℕ
      links = filled task_places (lends_at (put_level (pack_tasks t clock) lv) (pack_mutexes t) (pack_queues o t.queues))

      made : List ℕ
      made = raised own links n n

      fuel : min n task_places ≡ n
      fuel = omega (arith, F.few_tasks)

      sizes : length made ≡ length (level_column t)
      sizes = length_raised own links n n ∙ length_pad task_places 0 t.tasks.priorities F.few_tasks ∙ sym (length_levels t F.few_tasks)

      out : (i : ℕ) → n ≤ i → priority_of t i ≡ 0
      out i h = get_or-eq_default t.tasks.priorities 0 h

module _ (s : Model) (F : Facts s.tables) where
  pub next_pack : (o : List ℕ) (i : ℕ) → next_in (filled task_places (next_at (pack o s).tasks (pack o s).mutexes (pack o s).queues)) i ≡ next s.tables i
  unfolding pack
  next_pack o = next_table s.tables F o s.clock (pack_tasks s.tables s.clock).level

  pub new_levels_lem : (o lv : List ℕ) → new_levels (pack_with o lv s).tasks (pack_with o lv s).mutexes (pack_with o lv s).queues ≡ level_column s.tables
  unfolding pack pack_with
  new_levels_lem o lv = levels_table s.tables F o s.clock lv

pub level_pack : (s : Model) (o : List ℕ) (i : ℕ) → key_of (pack o s).tasks.level i ≡ level_in s.tables i
unfolding pack
level_pack s o i = level_read s.tables s.clock i

-- a wait for no mutex and not to send leads to nobody
pub led_none : (mutexes queues waits objects : List ℕ) (i : ℕ) → leads_nowhere_at waits i ≡ true → led_by mutexes queues (slice_index waits i) (slice_index objects i) ≡ no_id
unfolding led_by
led_none mutexes queues waits objects i e = let n = or_none _ _ (not-true _ e) in rw (n.0, n.1) refl
