-- What a step puts together of the parts it has worked out is what the stages give: waits begun or ended, levels and order settled, the running task chosen.
use Rattle.std.specs.Prelude.{◌≡◌, refl, List, ℕ}
use Rattle.task_lists.specs.TaskList.{no_id, items, pushed, kept, tailed, inserted_flagged}
use Rattle.record.specs.Setters.{put_tasks, put_waiting, put_running}
use Rattle.machine.specs.Machine.{wait_begun, ended_where, timed_for, due_for, order_of, put_order, settled, turn_of, put_turn, dispatched, woke, entered, all_entered, blocked_on}
use Rattle.record.specs.declared.State.{State}  -- keep
use Rattle.record.specs.declared.Tasks.{Tasks}  -- keep
use Rattle.task_lists.specs.declared.TaskList.{TaskList}  -- keep
use Rattle.machine.specs.declared.Order.{Order}  -- keep
use Rattle.machine.specs.declared.Turn.{Turn}  -- keep

-- settled, and then dispatched
pub settled_parts : (k : State) (o : Order) (t : Turn) → o ≡ order_of k.tasks k.mutexes k.queues k.ready → t ≡ turn_of k.started o.ready o.level k.running k.hold
    → put_turn (put_order k o) t ≡ dispatched (settled k)
unfolding settled dispatched
settled_parts k o t e f = rw (f, e) refl

-- settled, then i becomes ready, and then dispatched
pub entered_parts : (k : State) (i : ℕ) (o : Order) (q : TaskList) (t : Turn) → o ≡ order_of k.tasks k.mutexes k.queues k.ready → q ≡ tailed o.ready o.level i
    → t ≡ turn_of k.started q o.level k.running k.hold → put_turn (put_order k o) t ≡ dispatched (entered (settled k) i)
unfolding settled entered dispatched
entered_parts k i o q t e g f = rw (f, g, e) refl

-- settled, then those of an order that have a flag become ready, and then dispatched
pub all_entered_parts : (k : State) (order : TaskList) (flags : List ℕ) (o : Order) (q : TaskList) (t : Turn) → o ≡ order_of k.tasks k.mutexes k.queues k.ready
    → q ≡ inserted_flagged o.ready o.level flags (items order) → t ≡ turn_of k.started q o.level k.running k.hold
    → put_turn (put_order k o) t ≡ dispatched (all_entered (settled k) order flags)
unfolding settled all_entered dispatched
all_entered_parts k order flags o q t e g f = rw (f, g, e) refl

-- r waits, and nobody runs
pub blocked_parts : (k : State) (r kind object x : ℕ) (t : Tasks) (w : TaskList) → t ≡ wait_begun k.tasks r kind object (timed_for x) (due_for k.clock x) → w ≡ pushed k.waiting r
    → put_running (put_waiting (put_tasks k t) w) no_id ≡ blocked_on k r kind object x
unfolding blocked_on
blocked_parts k r kind object x t w e f = rw (e, f) refl

-- the flagged waits end
pub woken_parts : (k : State) (flags : List ℕ) (slept other : ℕ) (t : Tasks) (w : TaskList) → t ≡ ended_where k.tasks flags slept other → w ≡ kept k.waiting flags 0
    → put_waiting (put_tasks k t) w ≡ woke k flags slept other
unfolding woke
woken_parts k flags slept other t w e f = rw (e, f) refl
