-- The record and the rules: which state of the rules a record stands for with its words and block (`view`), and the one record of a state where it is
-- known which ring place holds each queue's oldest message (`pack`).
use Rattle.std.specs.Prelude.{ℕ, ◌+◌, ◌-◌, ◌*◌, ◌%◌, cond, not, List, [], ◌∷◌, ◌++◌, map, length, take, ◌==◌, slice_index}
use Rattle.std.proofs.Math.Option.{Option, none, some}
use Rattle.lists.specs.Test.{someb}
use Rattle.lists.specs.Table.{pad, filled}
use Rattle.rules.specs.Sizes.{task_places, max_mutexes, max_semaphores, max_queues, held_words, word_size, on_mutex, on_semaphore, on_time, on_send, on_receive}
use Rattle.rules.specs.Tables.{task_count, mutex_count, sem_count}
use Rattle.rules.specs.Levels.{level_in}
use Rattle.rings.specs.Ring.{Ring, messages}
use Rattle.rings.specs.Starts.{start_of}
use Rattle.rings.specs.Held.{held_by}
use Rattle.rules.specs.Effect.{due}
use Rattle.task_lists.specs.TaskList.{no_id, items, task_list_of, id_of}
use Rattle.walks.specs.Walk.{task_at}
use Rattle.record.specs.declared.State.{State}  -- keep
use Rattle.record.specs.declared.Tasks.{Tasks}  -- keep
use Rattle.record.specs.declared.Mutexes.{Mutexes}  -- keep
use Rattle.record.specs.declared.Semaphores.{Semaphores}  -- keep
use Rattle.record.specs.declared.Queues.{Queues}  -- keep
use Rattle.record.specs.Whole.{Whole}
use Rattle.rules.specs.State.{State as Model}  -- keep
use Rattle.rules.specs.Tables.{Awaited, mutex_of, sem_of, room_in, message_in, time, awaited_kind, awaited_object, Wait, TaskTable, MutexTable, SemTable, QueueTable, Tables}  -- keep

-- "Wrapping add steps the clock and makes due times; wrapping subtract gives ticks left for each timed wait."
abbrev pub ticks_left : ℕ → ℕ → ℕ
ticks_left due clock = (due + word_size - clock) % word_size

abbrev pub due_at : ℕ → ℕ → ℕ
due_at clock ticks = (clock + ticks) % word_size

-- what a kind of wait and an object stand for
unfoldable pub awaited_by : ℕ → ℕ → Option Awaited
awaited_by kind object =
    cond (kind == on_mutex) (some (mutex_of object))
    (cond (kind == on_semaphore) (some (sem_of object))
    (cond (kind == on_time) (some time)
    (cond (kind == on_send) (some (room_in object))
    (cond (kind == on_receive) (some (message_in object)) none))))

-- the wait that a task's places stand for
unfoldable pub left_in : ℕ → ℕ → ℕ → Option ℕ
left_in timed due clock = cond (timed == 1) (some (ticks_left due clock)) none

unfoldable pub wait_with : Option ℕ → Option Awaited → Option Wait
wait_with left none = none
wait_with left (some a) = some (record { on = a; left = left })

abbrev pub wait_in : ℕ → ℕ → Option ℕ → Option Wait
wait_in kind object left = wait_with left (awaited_by kind object)

unfoldable pub wait_at : Tasks → ℕ → ℕ → Option Wait
wait_at t clock i = wait_in (slice_index t.wait i) (slice_index t.object i) (left_in (slice_index t.timed i) (slice_index t.due i) clock)

-- the state that a record stands for
abbrev pub view_tasks : State → List ℕ → TaskTable
view_tasks k words = record {
  priorities = take k.tasks.n k.tasks.priority;
  outcomes = take k.tasks.n k.tasks.outcome;
  waits = filled k.tasks.n (wait_at k.tasks k.clock);
  words = filled k.tasks.n (held_by words);
  waiting = items k.waiting;
}

abbrev pub view_mutexes : Mutexes → MutexTable
view_mutexes m = record { kinds = take m.n m.kind; owners = map task_at (take m.n m.owner) }

abbrev pub view_semaphores : Semaphores → SemTable
view_semaphores c = record { counts = take c.n c.count; maxima = take c.n c.maximum }

-- a queue's ring of words: it begins where the queues before it end
abbrev pub ring_at : Queues → ℕ → Ring
ring_at x q = record {
  at = start_of x.width x.depth q;
  width = slice_index x.width q;
  depth = slice_index x.depth q;
  oldest = slice_index x.oldest q;
  used = slice_index x.used q;
}

abbrev pub view_queues : Queues → List ℕ → QueueTable
view_queues x block = record {
  widths = take x.n x.width;
  depths = take x.n x.depth;
  owners = map task_at (take x.n x.owner);
  messages = filled x.n (λ q. messages block (ring_at x q));
  space = length block;
}

unfoldable pub view_tables : Whole → Tables
view_tables h = record {
  tasks = view_tasks h.state h.words;
  mutexes = view_mutexes h.state.mutexes;
  semaphores = view_semaphores h.state.semaphores;
  queues = view_queues h.state.queues h.block;
}

unfoldable pub view : Whole → Model
view h = record {
  tables = view_tables h;
  started = not (h.state.started == 0);
  clock = h.state.clock;
  hold = h.state.hold;
  running = task_at h.state.running;
  ready = items h.state.ready;
}

-- a wait as it stands in the places of a task
unfoldable pub left_code : ℕ → Option ℕ → ℕ
left_code clock none = 0
left_code clock (some n) = due_at clock n

unfoldable pub kind_code : Option Wait → ℕ
kind_code none = 0
kind_code (some w) = awaited_kind w.on

unfoldable pub object_code : Option Wait → ℕ
object_code none = 0
object_code (some w) = awaited_object w.on

unfoldable pub timed_code : Option Wait → ℕ
timed_code none = 0
timed_code (some w) = cond (someb w.left) 1 0

unfoldable pub due_code : ℕ → Option Wait → ℕ
due_code clock none = 0
due_code clock (some w) = left_code clock w.left

-- the record of a state: unused places and absent fields as in the fresh state, levels as defined
unfoldable pub pack_tasks : Tables → ℕ → Tasks
pack_tasks t clock = record {
  due = pad task_places 0 (map (due_code clock) t.tasks.waits);
  priority = pad task_places 0 t.tasks.priorities;
  level = pad task_places 0 (filled (task_count t) (level_in t));
  outcome = pad task_places 0 t.tasks.outcomes;
  wait = pad task_places 0 (map kind_code t.tasks.waits);
  object = pad task_places 0 (map object_code t.tasks.waits);
  timed = pad task_places 0 (map timed_code t.tasks.waits);
  n = task_count t;
}

unfoldable pub pack_mutexes : Tables → Mutexes
pack_mutexes t = record { kind = pad max_mutexes 0 t.mutexes.kinds; owner = pad max_mutexes no_id (map id_of t.mutexes.owners); n = mutex_count t }

unfoldable pub pack_semaphores : Tables → Semaphores
pack_semaphores t = record { count = pad max_semaphores 0 t.semaphores.counts; maximum = pad max_semaphores 0 t.semaphores.maxima; n = sem_count t }

-- `oldest` is the ring place of each queue's oldest message
unfoldable pub pack_queues : List ℕ → QueueTable → Queues
pack_queues oldest x = record {
  width = pad max_queues 0 x.widths;
  depth = pad max_queues 0 x.depths;
  owner = pad max_queues no_id (map id_of x.owners);
  oldest = pad max_queues 0 oldest;
  used = pad max_queues 0 (map length x.messages);
  n = length x.owners;
}

unfoldable pub pack : List ℕ → Model → State
pack oldest s = record {
  tasks = pack_tasks s.tables s.clock;
  semaphores = pack_semaphores s.tables;
  clock = s.clock;
  mutexes = pack_mutexes s.tables;
  queues = pack_queues oldest s.tables.queues;
  ready = task_list_of s.ready;
  waiting = task_list_of s.tables.tasks.waiting;
  started = cond s.started 1 0;
  hold = s.hold;
  running = id_of s.running;
}

-- the words that tasks hold, one task's behind another's; an unused task's are 0
unfoldable pub joined : List (List ℕ) → List ℕ
joined [] = []
joined (l ∷ ls) = l ++ joined ls

unfoldable pub pack_words : Tables → List ℕ
pack_words t = pad (held_words * task_places) 0 (joined t.tasks.words)

-- the ring places of the oldest messages that a record has
abbrev pub oldest_in : Queues → List ℕ
oldest_in x = take x.n x.oldest
