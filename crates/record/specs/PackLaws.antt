-- The record and the rules agree: a tidy record is the packing of its view, and a state is the view of its packing.
use Rattle.std.specs.Prelude.{◌≡◌, ℕ, zero, suc, ◌<◌, ◌≤◌, true, cond, not, ◌⊎◌, List, [], ◌∷◌, map, length, take, ◌==◌, ◌≢◌, nat_eq, slice_index, slice_index_or}
use Rattle.std.proofs.Math.Path.{refl, sym}
use Rattle.std.proofs.Common.{◌∙◌, arith, get_or-take}
use Rattle.std.proofs.Math.Logic.{inl, inr}
use Rattle.std.proofs.Math.Option.{Option, none, some}
use Rattle.std.proofs.lemmas.List.{length-map}
use Rattle.std.proofs.Math.Seq.{length-take-le}
use borrow.Author.Tests.{ltb-true, leb-true, eqb-true, eqb-false, not-true, lt-ltb, le-ltb}
use Rattle.lists.specs.Test.{◌and◌, someb}
use Rattle.lists.specs.Table.{pad, filled}
use Rattle.lists.specs.TestLaws.{and_l, and_r, or_true}
use Rattle.lists.specs.TableLaws.{length_filled, filled_ext, map_filled, pad_filled, pad_take, read_any}
use Rattle.rules.specs.Sizes.{task_places, max_mutexes, max_semaphores, max_queues, word_size}
use Rattle.rules.specs.Tables.{awaited_kind, awaited_object, Wait, Tables, task_count}
use Rattle.rules.specs.Levels.{level_in}
use Rattle.rules.specs.Effect.{due}
use Rattle.task_lists.specs.TaskList.{places, no_id, items, task_list_of, id_of}
use Rattle.task_lists.specs.TaskListLaws.{list_of_items}
use Rattle.walks.specs.Walk.{task_at}
use Rattle.walks.specs.WalkLaws.{task_in}
use Rattle.record.specs.Record.{awaited_by, ticks_left, due_at, left_in, wait_with, wait_in, wait_at, view_tables, view, left_code, kind_code, object_code, timed_code, due_code, pack_tasks, pack_mutexes, pack_semaphores, pack_queues, pack, ring_at, oldest_in}
use Rattle.record.specs.Whole.{whole}
use Rattle.rings.specs.Ring.{messages}
use Rattle.record.specs.SoundRecord.{is_object_wait, used_taskb, idb, mutex_placeb, sem_placeb, task_list_tidyb, tidyb, levelsb}
use Rattle.record.specs.Setters.{put_tasks, put_level}
use Rattle.record.specs.GoodRecord.{Typed}
use Rattle.record.specs.TidyLaws.{tasks_fit, mutexes_fit, semaphores_fit, queues_fit, mutex_place, sem_place, used_queue, unused_queue, used_task, unused_at_lem}
use Rattle.record.specs.ViewLaws.{stored_level, view_tasks_lem}
use Rattle.record.specs.declared.State.{State}  -- keep
use Rattle.record.specs.declared.Tasks.{Tasks}  -- keep
use Rattle.record.specs.declared.Mutexes.{Mutexes}  -- keep
use Rattle.record.specs.declared.Semaphores.{Semaphores}  -- keep
use Rattle.record.specs.declared.Queues.{Queues}  -- keep
use Rattle.task_lists.specs.declared.TaskList.{TaskList}  -- keep
use Rattle.rules.specs.State.{State as Model}  -- keep

-- the table of levels
unfoldable pub level_column : Tables → List ℕ
level_column t = pad task_places 0 (filled (task_count t) (level_in t))

-- the packing of a state, but with these levels
unfoldable pub pack_with : List ℕ → List ℕ → Model → State
pack_with o lv s = put_tasks (pack o s) (put_level (pack o s).tasks lv)

-- these are the places of a wait
abbrev Codes : ℕ → Option Wait → ℕ → ℕ → ℕ → ℕ → Type 0
Codes clock w kind object timed due = (kind_code w ≡ kind) × (object_code w ≡ object) × (timed_code w ≡ timed) × (due_code clock w ≡ due)

-- a wait and its places
module _ (clock : ℕ) (word : clock < word_size) where
  pub due_back : (due : ℕ) → due < word_size → due_at clock (ticks_left due clock) ≡ due
  due_back due h = omega arith

  pub ticks_back : (n : ℕ) → n < word_size → ticks_left (due_at clock n) clock ≡ n
  ticks_back n h = omega arith

  left_codes : (timed due : ℕ) → due < word_size → timed ≤ 1 → (due ≡ 0) ⊎ (timed ≡ 1)
      → (cond (someb (left_in timed due clock)) 1 0 ≡ timed) × (left_code clock (left_in timed due clock) ≡ due)
  unfolding left_in left_code someb
  left_codes zero due h l c = (refl, elim c [ inl e ↦ sym e | inr e ↦ absurd (omega arith) ])
  left_codes (suc zero) due h l c = (refl, due_back due h)
  left_codes (suc (suc n)) due h l c = absurd (omega arith)

  -- the places of a task that keep the record's rules are the codes of the wait they stand for
  wait_codes : (kind object timed due : ℕ) → due < word_size → kind ≤ 5 → (object ≡ 0) ⊎ ((kind ≢ 0) × (kind ≢ 3)) → timed ≤ 1
      → (timed ≡ 0) ⊎ (kind ≢ 0) → (due ≡ 0) ⊎ (timed ≡ 1)
      → Codes clock (wait_in kind object (left_in timed due clock)) kind object timed due
  unfolding wait_with awaited_by kind_code object_code timed_code due_code awaited_kind awaited_object
  wait_codes zero object timed due h k o l t c = (
    refl,
    sym (elim o [ inl e ↦ e | inr e ↦ absurd (e.0 refl) ]),
    sym zero_timed,
    sym (elim c [ inl e ↦ e | inr e ↦ absurd (omega (arith, zero_timed)) ]),
  )
    where
      zero_timed : timed ≡ 0
      zero_timed = elim t [ inl e ↦ e | inr e ↦ absurd (e refl) ]
  wait_codes (suc zero) object timed due h k o l t c = (refl, refl, (left_codes timed due h l c).0, (left_codes timed due h l c).1)
  wait_codes (suc (suc zero)) object timed due h k o l t c = (refl, refl, (left_codes timed due h l c).0, (left_codes timed due h l c).1)
  wait_codes (suc (suc (suc zero))) object timed due h k o l t c = (
    refl,
    sym (elim o [ inl e ↦ e | inr e ↦ absurd (e.1 refl) ]),
    (left_codes timed due h l c).0,
    (left_codes timed due h l c).1,
  )
  wait_codes (suc (suc (suc (suc zero)))) object timed due h k o l t c = (refl, refl, (left_codes timed due h l c).0, (left_codes timed due h l c).1)
  wait_codes (suc (suc (suc (suc (suc zero))))) object timed due h k o l t c = (refl, refl, (left_codes timed due h l c).0, (left_codes timed due h l c).1)
  wait_codes (suc (suc (suc (suc (suc (suc n)))))) object timed due h k o l t c = absurd (omega arith)

-- what tidiness tells of a task's places
used_codes : (t : Tasks) (clock i : ℕ) → clock < word_size → slice_index t.due i < word_size → used_taskb t i ≡ true
    → Codes clock (wait_at t clock i) (slice_index t.wait i) (slice_index t.object i) (slice_index t.timed i) (slice_index t.due i)
unfolding used_taskb is_object_wait wait_at
used_codes t clock i word h e =
    let e1 = and_r _ _ e in
    let e2 = and_r _ _ e1 in
    let e3 = and_r _ _ e2 in
    wait_codes clock word (slice_index t.wait i) (slice_index t.object i) (slice_index t.timed i) (slice_index t.due i) h
    (leb-true _ _ (and_l _ _ e))
    (elim (or_true _ _ (and_l _ _ e1)) [
      | inl f ↦ inl (eqb-true _ _ f)
      | inr f ↦ inr (eqb-false _ _ (not-true _ (and_l _ _ f)), eqb-false _ _ (not-true _ (and_r _ _ f)))
    ])
    (leb-true _ _ (and_l _ _ e2))
    (elim (or_true _ _ (and_l _ _ e3)) [ inl f ↦ inl (eqb-true _ _ f) | inr f ↦ inr (eqb-false _ _ (not-true _ f)) ])
    (elim (or_true _ _ (and_r _ _ e3)) [ inl f ↦ inl (eqb-true _ _ f) | inr f ↦ inr (eqb-true _ _ f) ])

-- records are equal where their parts are
pub same_tasks : (a b : Tasks) → a.due ≡ b.due → a.priority ≡ b.priority → a.level ≡ b.level → a.outcome ≡ b.outcome
    → a.wait ≡ b.wait → a.object ≡ b.object → a.timed ≡ b.timed → a.n ≡ b.n → a ≡ b
same_tasks a b p1 p2 p3 p4 p5 p6 p7 p8 = λ i. record { due = p1 i; priority = p2 i; level = p3 i; outcome = p4 i; wait = p5 i; object = p6 i; timed = p7 i; n = p8 i }

pub same_mutexes : (a b : Mutexes) → a.kind ≡ b.kind → a.owner ≡ b.owner → a.n ≡ b.n → a ≡ b
same_mutexes a b p q r = λ i. record { kind = p i; owner = q i; n = r i }

pub same_semaphores : (a b : Semaphores) → a.count ≡ b.count → a.maximum ≡ b.maximum → a.n ≡ b.n → a ≡ b
same_semaphores a b p q r = λ i. record { count = p i; maximum = q i; n = r i }

pub same_queues : (a b : Queues) → a.width ≡ b.width → a.depth ≡ b.depth → a.owner ≡ b.owner → a.oldest ≡ b.oldest → a.used ≡ b.used → a.n ≡ b.n → a ≡ b
same_queues a b p1 p2 p3 p4 p5 p6 = λ i. record { width = p1 i; depth = p2 i; owner = p3 i; oldest = p4 i; used = p5 i; n = p6 i }

pub same_state : (a b : State) → a.tasks ≡ b.tasks → a.semaphores ≡ b.semaphores → a.clock ≡ b.clock → a.mutexes ≡ b.mutexes
    → a.queues ≡ b.queues → a.ready ≡ b.ready → a.waiting ≡ b.waiting → a.started ≡ b.started → a.hold ≡ b.hold → a.running ≡ b.running → a ≡ b
same_state a b p1 p2 p3 p4 p5 p6 p7 p8 p9 p10 = λ i. record { tasks = p1 i; semaphores = p2 i; clock = p3 i; mutexes = p4 i; queues = p5 i; ready = p6 i; waiting = p7 i; started = p8 i; hold = p9 i; running = p10 i }

-- an id is that of its task
pub id_back : (x : ℕ) → idb x ≡ true → id_of (task_at x) ≡ x
unfolding id_of
id_back x e = elim (or_true _ _ e) [
  | inl f ↦ rw (task_in x (ltb-true x task_places f)) refl
  | inr f ↦ rw (eqb-true x no_id f) refl
]

pub task_back : (o : Option ℕ) → ((i : ℕ) → o ≡ some i → i < task_places) → task_at (id_of o) ≡ o
unfolding id_of
task_back none h = refl
task_back (some i) h = task_in i (h i refl)

-- the tables of tasks
module _ (k : State) (ws b : List ℕ) (T : Typed k) (tidy : tidyb k ≡ true) where
  codes_at : (i : ℕ) → i < k.tasks.n
      → Codes k.clock (wait_at k.tasks k.clock i) (slice_index k.tasks.wait i) (slice_index k.tasks.object i) (slice_index k.tasks.timed i) (slice_index k.tasks.due i)
  codes_at i h = used_codes k.tasks k.clock i T.clock_word (T.due_word i) (used_task k tidy i h)

  -- a column of codes
  code_column : (f : Option Wait → ℕ) (a : List ℕ) → length a ≡ task_places
      → ((i : ℕ) → i < k.tasks.n → f (wait_at k.tasks k.clock i) ≡ slice_index a i) → ((i : ℕ) → k.tasks.n ≤ i → i < task_places → slice_index a i ≡ 0)
      → pad task_places 0 (map f (filled k.tasks.n (wait_at k.tasks k.clock))) ≡ a
  code_column f a e u v = rw (map_filled f k.tasks.n (wait_at k.tasks k.clock)) (pad_filled task_places 0 k.tasks.n (λ i. f (wait_at k.tasks k.clock i)) a (tasks_fit k tidy) e u v)

  good_levels : levelsb (whole k ws b) ≡ true → pad task_places 0 (filled (task_count (view_tables (whole k ws b))) (level_in (view_tables (whole k ws b)))) ≡ k.tasks.level
  good_levels lv = pad_filled task_places 0 (task_count (view_tables (whole k ws b))) (level_in (view_tables (whole k ws b))) k.tasks.level (omega (arith, tasks_fit k tidy, view_tasks_lem k ws b T tidy)) T.level_length
      (λ i h. sym (stored_level k ws b lv i (omega (arith, view_tasks_lem k ws b T tidy)))) (λ i h l. (unused_at_lem k tidy i (omega (arith, view_tasks_lem k ws b T tidy)) l).no_level)

  good_tasks : levelsb (whole k ws b) ≡ true → pack_tasks (view_tables (whole k ws b)) k.clock ≡ k.tasks
  unfolding pack_tasks view_tables
  good_tasks lv = same_tasks _ _
      (code_column (due_code k.clock) k.tasks.due T.due_length (λ i h. (codes_at i h).3) (λ i h l. (unused_at_lem k tidy i h l).no_due))
      (pad_take task_places 0 k.tasks.n k.tasks.priority (tasks_fit k tidy) T.priority_length (λ i h l. (unused_at_lem k tidy i h l).no_priority))
      (good_levels lv)
      (pad_take task_places 0 k.tasks.n k.tasks.outcome (tasks_fit k tidy) T.outcome_length (λ i h l. (unused_at_lem k tidy i h l).no_outcome))
      (code_column kind_code k.tasks.wait T.wait_length (λ i h. (codes_at i h).0) (λ i h l. (unused_at_lem k tidy i h l).no_wait))
      (code_column object_code k.tasks.object T.object_length (λ i h. (codes_at i h).1) (λ i h l. (unused_at_lem k tidy i h l).no_object))
      (code_column timed_code k.tasks.timed T.timed_length (λ i h. (codes_at i h).2) (λ i h l. (unused_at_lem k tidy i h l).no_timed))
      (view_tasks_lem k ws b T tidy)

-- the tables of mutexes
owners_back : (l : List ℕ) → ((i : ℕ) → i < length l → idb (slice_index_or l i no_id) ≡ true) → map id_of (map task_at l) ≡ l
owners_back [] h = refl
owners_back (x ∷ l) h = rw (id_back x (h 0 (omega arith)), owners_back l (λ i q. h (suc i) (omega arith)))

module _ (k : State) (ws b : List ℕ) (T : Typed k) (tidy : tidyb k ≡ true) where
  other : (i : ℕ) → i < max_mutexes → slice_index k.mutexes.owner i ≡ slice_index_or k.mutexes.owner i no_id
  other i h = read_any k.mutexes.owner i 0 no_id (omega (arith, T.owner_length))

  owner_in_lem : (i : ℕ) → i < k.mutexes.n → idb (slice_index_or k.mutexes.owner i no_id) ≡ true
  unfolding mutex_placeb
  owner_in_lem i h = rw (← other i (omega (arith, mutexes_fit k tidy))) (rw (lt-ltb i k.mutexes.n h) at (mutex_place k tidy i (omega (arith, mutexes_fit k tidy))))

  mutex_out : (i : ℕ) → k.mutexes.n ≤ i → i < max_mutexes → (slice_index k.mutexes.kind i ≡ 0) × (slice_index_or k.mutexes.owner i no_id ≡ no_id)
  unfolding mutex_placeb
  mutex_out i h l = let e = rw (le-ltb i k.mutexes.n h) at (mutex_place k tidy i l) in (eqb-true _ _ (and_l _ _ e), sym (other i l) ∙ eqb-true _ _ (and_r _ _ e))

  good_mutexes : pack_mutexes (view_tables (whole k ws b)) ≡ k.mutexes
  unfolding pack_mutexes view_tables
  good_mutexes = same_mutexes _ _
      (pad_take max_mutexes 0 k.mutexes.n k.mutexes.kind (mutexes_fit k tidy) T.kind_length (λ i h l. (mutex_out i h l).0))
      (rw (owners_back (take k.mutexes.n k.mutexes.owner) (λ i h. let q : i < k.mutexes.n = omega (arith, m) in rw (get_or-take k.mutexes.n k.mutexes.owner i no_id q) (owner_in_lem i q)))
      (pad_take max_mutexes no_id k.mutexes.n k.mutexes.owner (mutexes_fit k tidy) T.owner_length (λ i h l. (mutex_out i h l).1)))
      (length-map (take k.mutexes.n k.mutexes.owner) task_at ∙ m)
    where
      m : length (take k.mutexes.n k.mutexes.owner) ≡ k.mutexes.n
      m = length-take-le k.mutexes.n k.mutexes.owner (omega (arith, mutexes_fit k tidy, T.owner_length))

-- the tables of semaphores
good_semaphores : (k : State) (ws b : List ℕ) → Typed k → tidyb k ≡ true → pack_semaphores (view_tables (whole k ws b)) ≡ k.semaphores
unfolding sem_placeb pack_semaphores view_tables
good_semaphores k ws b T tidy = same_semaphores _ _
    (pad_take max_semaphores 0 k.semaphores.n k.semaphores.count few T.count_length (λ i h l. eqb-true _ _ (and_l _ _ (out i h l))))
    (pad_take max_semaphores 0 k.semaphores.n k.semaphores.maximum few T.maximum_length (λ i h l. eqb-true _ _ (and_r _ _ (out i h l))))
    (length-take-le k.semaphores.n k.semaphores.count (omega (arith, few, T.count_length)))
  where
    few : k.semaphores.n ≤ max_semaphores
    few = semaphores_fit k tidy

    out : (i : ℕ) → k.semaphores.n ≤ i → i < max_semaphores → nat_eq (slice_index k.semaphores.count i) 0 and nat_eq (slice_index k.semaphores.maximum i) 0 ≡ true
    out i h l = elim (or_true _ _ (sem_place k tidy i l)) [
      | inl f ↦ absurd (omega (arith, ltb-true i k.semaphores.n f))
      | inr f ↦ f
    ]

-- the tables of queues
module _ (k : State) (ws b : List ℕ) (T : Typed k) (tidy : tidyb k ≡ true) where
  -- how many messages each queue has
  used_column : map length (filled k.queues.n (λ q. messages b (ring_at k.queues q))) ≡ filled k.queues.n (λ q. slice_index k.queues.used q)
  used_column = map_filled length k.queues.n (λ q. messages b (ring_at k.queues q))
      ∙ filled_ext k.queues.n _ _ (λ q h. length_filled (slice_index k.queues.used q) _)

  pub good_queues : pack_queues (oldest_in k.queues) (view_tables (whole k ws b)).queues ≡ k.queues
  unfolding pack_queues view_tables
  good_queues = same_queues _ _
      (pad_take max_queues 0 k.queues.n k.queues.width few T.width_length (λ q h l. (unused_queue k tidy q h l).no_width))
      (pad_take max_queues 0 k.queues.n k.queues.depth few T.depth_length (λ q h l. (unused_queue k tidy q h l).no_depth))
      (rw (owners_back (take k.queues.n k.queues.owner) owner_ids)
      (pad_take max_queues no_id k.queues.n k.queues.owner few T.queue_owner_length (λ q h l. sym (any q l) ∙ (unused_queue k tidy q h l).no_owner)))
      (pad_take max_queues 0 k.queues.n k.queues.oldest few T.oldest_length (λ q h l. (unused_queue k tidy q h l).no_oldest))
      (rw used_column (pad_filled max_queues 0 k.queues.n (λ q. slice_index k.queues.used q) k.queues.used few T.used_length (λ q h. refl) (λ q h l. (unused_queue k tidy q h l).no_used)))
      (length-map (take k.queues.n k.queues.owner) task_at ∙ m)
    where
      few : k.queues.n ≤ max_queues
      few = queues_fit k tidy

      any : (q : ℕ) → q < max_queues → slice_index k.queues.owner q ≡ slice_index_or k.queues.owner q no_id
      any q l = read_any k.queues.owner q 0 no_id (omega (arith, T.queue_owner_length))

      m : length (take k.queues.n k.queues.owner) ≡ k.queues.n
      m = length-take-le k.queues.n k.queues.owner (omega (arith, few, T.queue_owner_length))

      owner_ids : (q : ℕ) → q < length (take k.queues.n k.queues.owner) → idb (slice_index_or (take k.queues.n k.queues.owner) q no_id) ≡ true
      owner_ids q h =
          let l : q < k.queues.n = omega (arith, m) in
          rw (get_or-take k.queues.n k.queues.owner q no_id l, ← any q (omega (arith, few))) (and_l _ _ (used_queue k tidy q l))

good_list : (q : TaskList) → length q.ids ≡ places → task_list_tidyb q ≡ true → task_list_of (items q) ≡ q
unfolding task_list_tidyb
good_list q h e = sym (list_of_items q (leb-true _ _ (and_l _ _ e)) h (and_r _ _ e))

started_back : (x : ℕ) → x ≤ 1 → cond (not (x == 0)) 1 0 ≡ x
started_back zero h = refl
started_back (suc zero) h = refl
started_back (suc (suc x)) h = absurd (omega arith)

-- a tidy record with the levels as defined is the packing of what it stands for
pub good_pack : (k : State) (ws b : List ℕ) → Typed k → tidyb k ≡ true → levelsb (whole k ws b) ≡ true → pack (oldest_in k.queues) (view (whole k ws b)) ≡ k
unfolding tidyb pack view view_tables
good_pack k ws b T e lv =
    let e1 = and_r _ _ e in
    let e2 = and_r _ _ e1 in
    let e3 = and_r _ _ e2 in
    let e4 = and_r _ _ e3 in
    let e5 = and_r _ _ e4 in
    same_state _ _
    (good_tasks k ws b T e lv)
    (good_semaphores k ws b T e)
    refl
    (good_mutexes k ws b T e)
    (good_queues k ws b T e)
    (good_list k.ready T.ready_length (and_l _ _ e3))
    (good_list k.waiting T.waiting_length (and_l _ _ e4))
    (started_back k.started (leb-true _ _ (and_l _ _ e5)))
    refl
    (id_back k.running (and_l _ _ (and_r _ _ e5)))
