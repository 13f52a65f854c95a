-- Tests by flags and by tables made beforehand are the tests by counts and columns.
use Rattle.std.specs.Prelude.{◌≡◌, refl, ◌⊎◌, List, Bool, true, false, cond, not, ℕ, zero, suc, ◌%◌, ◌<◌, ltb, eqb, length, get_or}
use Rattle.std.proofs.Common.{ap, ◌∙◌, inl, inr, arith, eqb-true, lt-ltb, le-ltb}
use Rattle.std.proofs.Math.Option.{none}
use Rattle.std.proofs.Math.Decide.{dec_lt}
use Rattle.std.proofs.Math.ListN.{get_or-eq_default}
use Rattle.lists.specs.Test.{◌and◌, ◌or◌, allb}
use Rattle.lists.specs.Table.{filled}
use Rattle.lists.specs.TestLaws.{clash, which, true_and, all_true, true_all, all_same, all_and}
use Rattle.lists.specs.TableLaws.{read_any, get_d_filled}
use Rattle.chains.specs.Chain.{endsb}
use Rattle.chains.specs.ChainLaws.{ends_none}
use Rattle.rules.specs.Sizes.{task_places, max_mutexes, max_semaphores, max_queues, levels, on_mutex, on_semaphore, on_time}
use Rattle.task_lists.specs.TaskList.{no_id, used_places, id_fits, id_fits_at, id_fits_by}
use Rattle.task_lists.specs.TaskListLaws.{used_flag}
use Rattle.walks.specs.Walk.{task_at, next_in, lent, lent_by}
use Rattle.record.specs.Reads.{led_by, leads_nowhere_at, heir_at}
use Rattle.record.specs.ReadLaws.{led_none}
use Rattle.record.specs.SoundRecord.{is_object_wait}
use Rattle.checks.specs.Checks.{unused_at, unused_by, unused_in, priority_at, priority_fits_by, others_unused, wait_fits_at, time_fits_at, outcome_fits_at, tasks_in, no_object_at, blocked_by, blocked_at, blocked_in, blocked_fits, blocked_fits_at, empty_at, at_object, queue_wait_fits, queue_waits_in, ringless, waits_in, same_at, levels_in}
use Rattle.record.specs.declared.Tasks.{Tasks}  -- keep
use Rattle.record.specs.declared.Mutexes.{Mutexes}  -- keep
use Rattle.record.specs.declared.Semaphores.{Semaphores}  -- keep
use Rattle.record.specs.declared.Queues.{Queues}  -- keep

pub unused_same : (column : List ℕ) (n : ℕ) → allb task_places (unused_by column (used_places n)) ≡ allb task_places (unused_at column n)
unused_same column n = all_same _ _ _ _ refl (λ i h. ap (λ (b : Bool). b or eqb (get_or column i 0) 0) (used_flag n i h))

-- a priority that is 0 is in range
priority_fits : (used x : ℕ) → cond (eqb used 1) (ltb x levels) (eqb x 0) ≡ (eqb used 1 or eqb x 0) and ltb x levels
unfolding ◌and◌ ◌or◌
priority_fits used x = elim (which (eqb used 1)) [
  | inl e ↦ rw e refl
  | inr e ↦ rw e (elim (which (eqb x 0)) [ inl u ↦ rw (u, eqb-true x 0 u) refl | inr u ↦ rw u refl ])
]

-- so the test of range and unused places together is the two tests
priorities_fit : (column used : List ℕ) → allb task_places (priority_fits_by column used) ≡ allb task_places (unused_by column used) and allb task_places (priority_at column)
priorities_fit column used =
    all_same _ _ _ _ refl (λ i h. priority_fits (get_or used i 0) (get_or column i 0))
    ∙ all_and task_places (unused_by column used) (priority_at column)

-- four tests in another order
exchange : (u v p r : Bool) → (u and v) and p and r ≡ (u and p) and v and r
unfolding ◌and◌
exchange true true p r = refl
exchange true false true r = refl
exchange true false false r = refl
exchange false v p r = refl

-- the tests of the tasks, with the unused places of the priorities among the tests of the priorities
pub tasks_tested : (t : Tasks) (clock : ℕ) → tasks_in t clock ≡ allb task_places (priority_fits_by t.priority (used_places t.n)) and others_unused t (used_places t.n)
    and allb task_places (wait_fits_at t.wait t.object t.timed) and allb task_places (time_fits_at t.wait t.timed t.due clock)
    and allb task_places (outcome_fits_at t.wait t.outcome)
unfolding tasks_in unused_in others_unused
tasks_tested t clock = rw (
  priorities_fit t.priority (used_places t.n),
  unused_same t.priority t.n,
  unused_same t.level t.n,
  unused_same t.outcome t.n,
  unused_same t.wait t.n,
  unused_same t.object t.n,
  unused_same t.timed t.n,
)
    (exchange _ _ _ _)

pub ids_same : (ids : List ℕ) (n tasks : ℕ) → allb task_places (id_fits_by ids (used_places n) tasks) ≡ allb task_places (id_fits_at ids n tasks)
ids_same ids n tasks = all_same _ _ _ _ refl (λ i h. ap (λ (b : Bool). id_fits b tasks (get_or ids i 0)) (used_flag n i h))

-- a mutex that has an owner, read at its place
owned : (object : ℕ) (owners : List ℕ) → length owners ≡ max_mutexes
    → not (eqb (get_or owners object no_id) no_id) ≡ ltb object max_mutexes and not (eqb (get_or owners (object % max_mutexes) 0) no_id)
unfolding ◌and◌
owned object owners g = elim (dec_lt object max_mutexes) [
  | yes h ↦ (let q : object % max_mutexes ≡ object = omega arith in
      rw (lt-ltb object max_mutexes h, q, read_any owners object 0 no_id (omega (arith, g))) refl)
  | no h ↦ rw (le-ltb object max_mutexes (omega arith), get_or-eq_default owners no_id {n = object} (omega (arith, g))) refl
]

-- what is awaited isn't available: one task, by the tables
blocked_task : (kind object n : ℕ) (owners queues counts : List ℕ) → length owners ≡ max_mutexes
    → blocked_fits kind object n (led_by owners queues kind object) (empty_at counts (object % max_semaphores))
    ≡ blocked_by kind object n (get_or owners (object % max_mutexes) 0) (get_or counts (object % max_semaphores) 0)
unfolding blocked_fits blocked_by led_by
blocked_task kind object n owners queues counts g = elim (which (eqb kind on_mutex)) [
  | inl e ↦ rw e (owned object owners g)
  | inr e ↦ rw e (elim (which (eqb kind on_semaphore)) [
    | inl u ↦ rw u (empty (eqb (get_or counts (object % max_semaphores) 0) 0))
    | inr u ↦ rw u refl
  ])
]
  where
    empty : (b : Bool) → ltb object n and eqb (cond b 1 0) 1 ≡ ltb object n and b
    empty true = refl
    empty false = refl

pub blocked_tables : (waits objects owners queues counts : List ℕ) (n : ℕ) → length owners ≡ max_mutexes
    → allb task_places (blocked_fits_at waits objects (filled task_places (λ i. led_by owners queues (get_or waits i 0) (get_or objects i 0)))
    (filled task_places (at_object objects (filled max_semaphores (empty_at counts)))) n)
    ≡ allb task_places (blocked_at waits objects owners counts n)
blocked_tables waits objects owners queues counts n g = all_same _ _ _ _ refl (λ i h.
    rw (
      get_d_filled task_places (λ j. led_by owners queues (get_or waits j 0) (get_or objects j 0)) 0 i h,
      get_d_filled task_places (at_object objects (filled max_semaphores (empty_at counts))) 0 i h,
      get_d_filled max_semaphores (empty_at counts) 0 (get_or objects i 0 % max_semaphores) (omega arith),
    )
    (blocked_task (get_or waits i 0) (get_or objects i 0) n owners queues counts g))

-- where nobody is lent anything, levels are own priorities
lent_none : (own to level : List ℕ) (n : ℕ) → ((i : ℕ) → i < n → get_or to i 0 ≡ no_id) → lent_by own to level n ≡ own
unfolding lent_by lent
lent_none own to level zero h = refl
lent_none own to level (suc n) h = rw (h n (omega arith), lent_none own to level n (λ i l. h i (omega arith))) refl

-- so it is where nobody waits for a mutex or to send
pub levels_none : (own level waits objects : List ℕ) (m : Mutexes) (x : Queues) → allb task_places (leads_nowhere_at waits) ≡ true
    → levels_in own level waits objects m x ≡ allb task_places (same_at level own)
unfolding levels_in
levels_none own level waits objects m x e =
    let heirs = filled max_mutexes (heir_at m) in
    let to : ℕ → ℕ = λ i. led_by heirs x.owner (get_or waits i 0) (get_or objects i 0) in
    ap (λ (l : List ℕ). allb task_places (same_at level l)) (lent_none own (filled task_places to) level task_places
    (λ i h. get_d_filled task_places to 0 i h ∙ led_none heirs x.owner waits objects i (all_true task_places (leads_nowhere_at waits) e i h)))

-- a wait for no object is none, or for time
no_object : (kind : ℕ) → not (is_object_wait kind) ≡ true → (kind ≡ 0) ⊎ (kind ≡ on_time)
unfolding is_object_wait ◌and◌
no_object kind e = elim (which (eqb kind 0)) [
  | inl u ↦ inl (eqb-true kind 0 u)
  | inr u ↦ elim (which (eqb kind on_time)) [ inl v ↦ inr (eqb-true kind on_time v) | inr v ↦ absurd (clash e (rw (u, v) refl)) ]
]

-- where no task leads to another, each chain has at most one link
one_link : (next : List ℕ) (f o : ℕ) → 0 < f → ((i : ℕ) → i < task_places → get_or next i 0 ≡ no_id) → endsb f (next_in next) (task_at o) ≡ true
unfolding endsb
one_link next zero o p g = absurd (omega arith)
one_link next (suc f) o p g = elim (dec_lt o task_places) [
  | yes h ↦ (let e : next_in next o ≡ none = rw (lt-ltb o task_places h, g o h) refl in rw (lt-ltb o task_places h) (ap (endsb f (next_in next)) e ∙ ends_none (next_in next) f))
  | no h ↦ rw (le-ltb o task_places (omega arith)) refl
]

-- where nobody waits for an object, waits are as they should be, and there is no ring
pub waits_none : (waits objects : List ℕ) (m : Mutexes) (c : Semaphores) (x : Queues) (words : List ℕ)
    → allb task_places (no_object_at waits) ≡ true → waits_in waits objects m c x words ≡ true
unfolding waits_in blocked_in blocked_by queue_waits_in queue_wait_fits ringless ◌or◌
waits_none waits objects m c x words e =
    true_and _ _ (true_all task_places _ (λ i h. elim (kind i h) [ inl u ↦ rw u refl | inr u ↦ rw u refl ]))
    (true_and _ _ (true_all task_places _ (λ i h. elim (kind i h) [ inl u ↦ rw u refl | inr u ↦ rw u refl ]))
    (true_and _ _ (true_all max_mutexes _ (λ j h. one_link next task_places (get_or m.owner j 0) (omega arith) alone)) (true_all max_queues _ (λ j h. one_link next task_places (get_or x.owner j 0) (omega arith) alone))))
  where
    kind : (i : ℕ) → i < task_places → (get_or waits i 0 ≡ 0) ⊎ (get_or waits i 0 ≡ on_time)
    kind i h = no_object (get_or waits i 0) (all_true task_places (no_object_at waits) e i h)

    to : ℕ → ℕ
    to i = led_by m.owner x.owner (get_or waits i 0) (get_or objects i 0)

    next : List ℕ
    next = filled task_places to

    alone : (i : ℕ) → i < task_places → get_or next i 0 ≡ no_id
    alone i h = get_d_filled task_places to 0 i h ∙ led_none m.owner x.owner waits objects i (elim (kind i h) [ inl u ↦ rw u refl | inr u ↦ rw u refl ])
