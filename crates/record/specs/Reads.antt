-- What stands at a place of the record, with what an unused place holds for a number that is no place, and who leads to whom.
use Rattle.std.specs.Prelude.{ℕ, min, Bool, cond, not, List, ◌==◌, nat_eq, slice_index, slice_index_or}
use Rattle.lists.specs.Test.{◌or◌}
use Rattle.lists.specs.Table.{filled}
use Rattle.rules.specs.Sizes.{task_places, max_mutexes, inheriting, on_mutex, on_send}
use Rattle.task_lists.specs.TaskList.{no_id}
use Rattle.walks.specs.Walk.{raised}
use Rattle.record.specs.declared.Tasks.{Tasks}  -- keep
use Rattle.record.specs.declared.Mutexes.{Mutexes}  -- keep
use Rattle.record.specs.declared.Semaphores.{Semaphores}  -- keep
use Rattle.record.specs.declared.Queues.{Queues}  -- keep
use Rattle.task_lists.specs.declared.TaskList.{TaskList}  -- keep

-- a mutex's owner and kind
abbrev pub owner_at : Mutexes → ℕ → ℕ
owner_at m j = slice_index_or m.owner j no_id

abbrev pub kind_at : Mutexes → ℕ → ℕ
kind_at m j = slice_index m.kind j

-- a semaphore's count and maximum
abbrev pub count_at : Semaphores → ℕ → ℕ
count_at c j = slice_index c.count j

abbrev pub maximum_at : Semaphores → ℕ → ℕ
maximum_at c j = slice_index c.maximum j

-- a queue's owner
abbrev pub queue_owner_at : Queues → ℕ → ℕ
queue_owner_at x q = slice_index_or x.owner q no_id

-- who stands first in a list
abbrev pub first_id : TaskList → ℕ
first_id q = slice_index q.ids 0

-- whom a wait leads to, by its kind and object: `mutexes` says whom a wait for each mutex leads to, `queues` whom a wait to send to each queue does
unfoldable pub led_by : List ℕ → List ℕ → ℕ → ℕ → ℕ
led_by mutexes queues kind object = cond (kind == on_mutex) (slice_index_or mutexes object no_id) (cond (kind == on_send) (slice_index_or queues object no_id) no_id)

abbrev pub leads_at : Tasks → List ℕ → List ℕ → ℕ → ℕ
leads_at t mutexes queues i = led_by mutexes queues (slice_index t.wait i) (slice_index t.object i)

-- i waits for no mutex and not to send, and leads to nobody
abbrev pub leads_nowhere_at : List ℕ → ℕ → Bool
leads_nowhere_at waits i = not (nat_eq (slice_index waits i) on_mutex or nat_eq (slice_index waits i) on_send)

-- the owner of what i waits for
abbrev pub next_at : Tasks → Mutexes → Queues → ℕ → ℕ
next_at t m x = leads_at t m.owner x.owner

-- who is lent the levels of those that wait for a mutex: its owner, where it is inheriting
abbrev pub heir_by : ℕ → ℕ → ℕ
heir_by kind owner = cond (kind == inheriting) owner no_id

abbrev pub heir_at : Mutexes → ℕ → ℕ
heir_at m j = heir_by (kind_at m j) (owner_at m j)

-- who is lent the level of i
abbrev pub lends_at : Tasks → Mutexes → Queues → ℕ → ℕ
lends_at t m x = leads_at t (filled max_mutexes (heir_at m)) x.owner

-- the own priorities, raised along the chains of waits on inheriting mutexes and to send; ViewLaws proves them the levels as defined
unfoldable pub new_levels : Tasks → Mutexes → Queues → List ℕ
new_levels t m x = raised t.priority (filled task_places (lends_at t m x)) t.n (min t.n task_places)
