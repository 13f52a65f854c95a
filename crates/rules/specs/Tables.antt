-- "The parts of a state": the tables of tasks, mutexes, semaphores and message queues, and the order of the waits.
use Rattle.std.specs.Prelude.{List, [], Bool, cond, ℕ, zero, suc, ◌+◌, ◌*◌, eqb, length, get_or}
use Rattle.std.proofs.Math.Option.{Option, none, some}
use Rattle.rules.specs.Sizes.{forever, on_mutex, on_semaphore, on_time, on_send, on_receive}

-- what a task waits for
pub data Awaited : Type 0 where
  mutex_of sem_of : ℕ → Awaited
  -- a wait to send is for room in a queue, a wait to receive for a message in it
  room_in message_in : ℕ → Awaited
  time : Awaited

-- the same as two numbers: the kind of wait, and the object's number, 0 for time
unfoldable pub awaited_kind : Awaited → ℕ
awaited_kind (mutex_of m) = on_mutex
awaited_kind (sem_of k) = on_semaphore
awaited_kind (room_in q) = on_send
awaited_kind (message_in q) = on_receive
awaited_kind time = on_time

unfoldable pub awaited_object : Awaited → ℕ
awaited_object (mutex_of m) = m
awaited_object (sem_of k) = k
awaited_object (room_in q) = q
awaited_object (message_in q) = q
awaited_object time = 0

abbrev pub is_sleep : Awaited → Bool
is_sleep a = eqb (awaited_kind a) on_time

-- a wait, with the ticks left, or none where it is forever
pub record Wait : Type 0 where
  pub on : Awaited
  pub left : Option ℕ

-- a wait that begins with time t
unfoldable pub ticks_of : ℕ → Option ℕ
ticks_of t = cond (eqb t forever) none (some t)

abbrev pub wait_for : Awaited → ℕ → Wait
wait_for a t = record { on = a; left = ticks_of t }

-- a table has one column for each part, a task's, a mutex's, a semaphore's, a queue's number being its place
pub record TaskTable : Type 0 where
  pub priorities : List ℕ
  pub outcomes : List ℕ
  pub waits : List (Option Wait)
  -- document 02, K1: "A task holds eight words"
  pub words : List (List ℕ)
  -- "the waiting tasks in the order in which their waits began"
  pub waiting : List ℕ

pub record MutexTable : Type 0 where
  pub kinds : List ℕ
  pub owners : List (Option ℕ)

pub record SemTable : Type 0 where
  pub counts : List ℕ
  pub maxima : List ℕ

-- document 02, K1: queues of messages, each a list of words
pub record QueueTable : Type 0 where
  -- how many words a message has, and how many messages there is room for
  pub widths : List ℕ
  pub depths : List ℕ
  -- "A queue may have an owner, the only task that may receive"
  pub owners : List (Option ℕ)
  -- oldest first
  pub messages : List (List (List ℕ))
  -- how many words the lent block has
  pub space : ℕ

-- one table for each kind of object
pub record Tables : Type 0 where
  pub tasks : TaskTable
  pub mutexes : MutexTable
  pub semaphores : SemTable
  pub queues : QueueTable

-- one setter for each table
abbrev pub with_tasks : Tables → TaskTable → Tables
with_tasks t x = record { tasks = x; mutexes = t.mutexes; semaphores = t.semaphores; queues = t.queues }

abbrev pub with_mutexes : Tables → MutexTable → Tables
with_mutexes t x = record { tasks = t.tasks; mutexes = x; semaphores = t.semaphores; queues = t.queues }

abbrev pub with_semaphores : Tables → SemTable → Tables
with_semaphores t x = record { tasks = t.tasks; mutexes = t.mutexes; semaphores = x; queues = t.queues }

abbrev pub with_queues : Tables → QueueTable → Tables
with_queues t x = record { tasks = t.tasks; mutexes = t.mutexes; semaphores = t.semaphores; queues = x }

-- how many there are of each
abbrev pub task_count : Tables → ℕ
task_count t = length t.tasks.priorities

abbrev pub mutex_count : Tables → ℕ
mutex_count t = length t.mutexes.owners

abbrev pub sem_count : Tables → ℕ
sem_count t = length t.semaphores.counts

abbrev pub queue_count : Tables → ℕ
queue_count t = length t.queues.owners

-- the columns read at a place, with what an unused place holds
abbrev pub priority_of : Tables → ℕ → ℕ
priority_of t i = get_or t.tasks.priorities i 0

abbrev pub outcome_of : Tables → ℕ → ℕ
outcome_of t i = get_or t.tasks.outcomes i 0

abbrev pub wait_of : Tables → ℕ → Option Wait
wait_of t i = get_or t.tasks.waits i none

abbrev pub words_of : Tables → ℕ → List ℕ
words_of t i = get_or t.tasks.words i []

abbrev pub kind_of : Tables → ℕ → ℕ
kind_of t m = get_or t.mutexes.kinds m 0

abbrev pub owner_of : Tables → ℕ → Option ℕ
owner_of t m = get_or t.mutexes.owners m none

abbrev pub count_of : Tables → ℕ → ℕ
count_of t k = get_or t.semaphores.counts k 0

abbrev pub maximum_of : Tables → ℕ → ℕ
maximum_of t k = get_or t.semaphores.maxima k 0

abbrev pub width_of : Tables → ℕ → ℕ
width_of t q = get_or t.queues.widths q 0

abbrev pub depth_of : Tables → ℕ → ℕ
depth_of t q = get_or t.queues.depths q 0

abbrev pub queue_owner_of : Tables → ℕ → Option ℕ
queue_owner_of t q = get_or t.queues.owners q none

abbrev pub messages_of : Tables → ℕ → List (List ℕ)
messages_of t q = get_or t.queues.messages q []

-- "w times d words each": the words of the block that the first n queues take
unfoldable pub taken_by : List ℕ → List ℕ → ℕ → ℕ
taken_by ws ds zero = 0
taken_by ws ds (suc n) = taken_by ws ds n + get_or ws n 0 * get_or ds n 0

-- those that all of them take
abbrev pub space_taken : Tables → ℕ
space_taken t = taken_by t.queues.widths t.queues.depths (queue_count t)
