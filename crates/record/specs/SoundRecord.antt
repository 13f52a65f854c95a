-- "Sound state" of a record: unused places and absent fields as in the fresh state, stored levels as defined, and the rules' test of what it stands for.
use Rattle.std.specs.Prelude.{ℕ, ◌*◌, Bool, cond, not, ltb, leb, List, length, ◌==◌, nat_eq, nat_le, nat_lt, slice_index}
use Rattle.lists.specs.Test.{◌and◌, ◌or◌, allb}
use Rattle.rules.specs.Sizes.{task_places, max_mutexes, max_semaphores, max_queues, held_words, on_time, on_receive}
use Rattle.rules.specs.Levels.{level_in}
use Rattle.rules.specs.Sound.{soundb}
use Rattle.task_lists.specs.TaskList.{places, no_id}
use Rattle.record.specs.Record.{view_tables, view}
use Rattle.record.specs.declared.State.{State}  -- keep
use Rattle.record.specs.declared.Tasks.{Tasks}  -- keep
use Rattle.record.specs.declared.Mutexes.{Mutexes}  -- keep
use Rattle.record.specs.declared.Semaphores.{Semaphores}  -- keep
use Rattle.record.specs.declared.Queues.{Queues}  -- keep
use Rattle.record.specs.Whole.{Whole}
use Rattle.task_lists.specs.declared.TaskList.{TaskList}  -- keep

-- a wait on an object, not for time
unfoldable pub is_object_wait : ℕ → Bool
is_object_wait kind = not (kind == 0) and not (kind == on_time)

-- the places of a task that is there: an object only for a wait on one, a due time only for a timed wait
unfoldable pub used_taskb : Tasks → ℕ → Bool
used_taskb t i = nat_le (slice_index t.wait i) on_receive
    and (nat_eq (slice_index t.object i) 0 or is_object_wait (slice_index t.wait i))
    and leb (slice_index t.timed i) 1
    and (nat_eq (slice_index t.timed i) 0 or not (slice_index t.wait i == 0))
    and (nat_eq (slice_index t.due i) 0 or nat_eq (slice_index t.timed i) 1)

-- "unused table places as in the fresh state"
unfoldable pub unused_taskb : Tasks → ℕ → Bool
unused_taskb t i = nat_eq (slice_index t.priority i) 0 and nat_eq (slice_index t.level i) 0 and nat_eq (slice_index t.outcome i) 0
    and nat_eq (slice_index t.wait i) 0 and nat_eq (slice_index t.object i) 0 and nat_eq (slice_index t.timed i) 0 and nat_eq (slice_index t.due i) 0

unfoldable pub task_placeb : Tasks → ℕ → Bool
task_placeb t i = cond (nat_lt i t.n) (used_taskb t i) (unused_taskb t i)

unfoldable pub tasks_tidyb : Tasks → Bool
tasks_tidyb t = leb t.n task_places and allb task_places (task_placeb t)

-- an id is that of a place in the table of tasks, or none
abbrev pub idb : ℕ → Bool
idb x = ltb x task_places or nat_eq x no_id

unfoldable pub mutex_placeb : Mutexes → ℕ → Bool
mutex_placeb m j = cond (nat_lt j m.n) (idb (slice_index m.owner j)) (nat_eq (slice_index m.kind j) 0 and nat_eq (slice_index m.owner j) no_id)

unfoldable pub mutexes_tidyb : Mutexes → Bool
mutexes_tidyb m = leb m.n max_mutexes and allb max_mutexes (mutex_placeb m)

unfoldable pub sem_placeb : Semaphores → ℕ → Bool
sem_placeb c k = ltb k c.n or (nat_eq (slice_index c.count k) 0 and nat_eq (slice_index c.maximum k) 0)

unfoldable pub semaphores_tidyb : Semaphores → Bool
semaphores_tidyb c = leb c.n max_semaphores and allb max_semaphores (sem_placeb c)

-- a queue's owner is an id and its oldest message stands in its ring; unused places as in the fresh state
unfoldable pub queue_placeb : Queues → ℕ → Bool
queue_placeb x q = cond (nat_lt q x.n) (idb (slice_index x.owner q) and ltb (slice_index x.oldest q) (slice_index x.depth q))
    (nat_eq (slice_index x.width q) 0 and nat_eq (slice_index x.depth q) 0 and nat_eq (slice_index x.owner q) no_id and nat_eq (slice_index x.oldest q) 0 and nat_eq (slice_index x.used q) 0)

unfoldable pub queues_tidyb : Queues → Bool
queues_tidyb x = leb x.n max_queues and allb max_queues (queue_placeb x)

-- the words of the first n tasks may be anything, those of unused ones are 0, and there are no others
unfoldable pub words_tidyb : List ℕ → ℕ → Bool
words_tidyb words n = nat_eq (length words) (held_words * task_places) and allb (held_words * task_places) (λ j. ltb j (held_words * n) or nat_eq (slice_index words j) 0)

unfoldable pub task_list_tidyb : TaskList → Bool
task_list_tidyb q = leb q.n places and allb places (λ i. ltb i q.n or nat_eq (slice_index q.ids i) no_id)

unfoldable pub tidyb : State → Bool
tidyb k = tasks_tidyb k.tasks and mutexes_tidyb k.mutexes and semaphores_tidyb k.semaphores and task_list_tidyb k.ready and task_list_tidyb k.waiting
    and leb k.started 1 and idb k.running and queues_tidyb k.queues

-- "stored levels as defined"
unfoldable pub levelsb : Whole → Bool
levelsb h = allb h.state.tasks.n (λ i. nat_eq (slice_index h.state.tasks.level i) (level_in (view_tables h) i))

-- document 01's term "sound state", of a record with its words and block
unfoldable pub sound_of : Whole → Bool
sound_of h = tidyb h.state and words_tidyb h.words h.state.tasks.n and levelsb h and soundb (view h)
