-- One setter for each part of the record that changes by itself: no other text of the steps writes the record out.
use Rattle.std.specs.Prelude.{ℕ, List}
use Rattle.record.specs.declared.State.{State}  -- keep
use Rattle.record.specs.declared.Tasks.{Tasks}  -- keep
use Rattle.record.specs.declared.Mutexes.{Mutexes}  -- keep
use Rattle.record.specs.declared.Semaphores.{Semaphores}  -- keep
use Rattle.record.specs.declared.Queues.{Queues}  -- keep
use Rattle.task_lists.specs.declared.TaskList.{TaskList}  -- keep

abbrev pub put_tasks : State → Tasks → State
put_tasks k t = record { tasks = t; semaphores = k.semaphores; clock = k.clock; mutexes = k.mutexes; queues = k.queues; ready = k.ready; waiting = k.waiting; started = k.started; hold = k.hold; running = k.running }

abbrev pub put_semaphores : State → Semaphores → State
put_semaphores k c = record { tasks = k.tasks; semaphores = c; clock = k.clock; mutexes = k.mutexes; queues = k.queues; ready = k.ready; waiting = k.waiting; started = k.started; hold = k.hold; running = k.running }

abbrev pub put_clock : State → ℕ → State
put_clock k c = record { tasks = k.tasks; semaphores = k.semaphores; clock = c; mutexes = k.mutexes; queues = k.queues; ready = k.ready; waiting = k.waiting; started = k.started; hold = k.hold; running = k.running }

abbrev pub put_mutexes : State → Mutexes → State
put_mutexes k m = record { tasks = k.tasks; semaphores = k.semaphores; clock = k.clock; mutexes = m; queues = k.queues; ready = k.ready; waiting = k.waiting; started = k.started; hold = k.hold; running = k.running }

abbrev pub put_queues : State → Queues → State
put_queues k q = record { tasks = k.tasks; semaphores = k.semaphores; clock = k.clock; mutexes = k.mutexes; queues = q; ready = k.ready; waiting = k.waiting; started = k.started; hold = k.hold; running = k.running }

abbrev pub put_ready : State → TaskList → State
put_ready k q = record { tasks = k.tasks; semaphores = k.semaphores; clock = k.clock; mutexes = k.mutexes; queues = k.queues; ready = q; waiting = k.waiting; started = k.started; hold = k.hold; running = k.running }

abbrev pub put_waiting : State → TaskList → State
put_waiting k q = record { tasks = k.tasks; semaphores = k.semaphores; clock = k.clock; mutexes = k.mutexes; queues = k.queues; ready = k.ready; waiting = q; started = k.started; hold = k.hold; running = k.running }

abbrev pub put_started : State → ℕ → State
put_started k x = record { tasks = k.tasks; semaphores = k.semaphores; clock = k.clock; mutexes = k.mutexes; queues = k.queues; ready = k.ready; waiting = k.waiting; started = x; hold = k.hold; running = k.running }

abbrev pub put_hold : State → ℕ → State
put_hold k x = record { tasks = k.tasks; semaphores = k.semaphores; clock = k.clock; mutexes = k.mutexes; queues = k.queues; ready = k.ready; waiting = k.waiting; started = k.started; hold = x; running = k.running }

abbrev pub put_running : State → ℕ → State
put_running k x = record { tasks = k.tasks; semaphores = k.semaphores; clock = k.clock; mutexes = k.mutexes; queues = k.queues; ready = k.ready; waiting = k.waiting; started = k.started; hold = k.hold; running = x }

abbrev pub put_level : Tasks → List ℕ → Tasks
put_level t l = record { due = t.due; priority = t.priority; level = l; outcome = t.outcome; wait = t.wait; object = t.object; timed = t.timed; n = t.n }
