-- The functions over the record that the steps are made of, case by case as the code goes. MachineLaws shows them, on a sound record, equal to the packed rules.
use Rattle.std.specs.Prelude.{List, Bool, true, cond, not, ℕ, ◌+◌, ◌-◌, ◌*◌, ltb, leb, eqb, length, get_or, set, drop, replicate}
use Rattle.lists.specs.Test.{◌and◌, allb}
use Rattle.lists.specs.Count.{member}
use Rattle.lists.specs.Order.{before}
use Rattle.lists.specs.Table.{filled}
use Rattle.rules.specs.Sizes.{max_tasks, task_places, max_mutexes, max_semaphores, max_queues, held_words, levels, kinds, max_hold, max_ticks, forever, granted, pending, timed_out, flushed, on_mutex, on_semaphore, on_time, on_send, on_receive}
use Rattle.rules.specs.Sound.{is_width, is_depth}
use Rattle.rings.specs.Ring.{slot_of}
use Rattle.rings.specs.Starts.{start_in}
use Rattle.rules.specs.Effect.{due}
use Rattle.task_lists.specs.TaskList.{no_id, items, task_list_of, key_of, pushed, inserted, kept, tailed, inserted_flagged, every_id, counted, best_of}
use Rattle.level_marks.specs.Marks.{marks_in, first_marked}
use Rattle.walks.specs.Walk.{chain_from}
use Rattle.record.specs.Record.{ticks_left, due_at}
use Rattle.record.specs.declared.State.{State}  -- keep
use Rattle.record.specs.declared.Tasks.{Tasks}  -- keep
use Rattle.record.specs.declared.Mutexes.{Mutexes}  -- keep
use Rattle.record.specs.declared.Semaphores.{Semaphores}  -- keep
use Rattle.task_lists.specs.declared.TaskList.{TaskList}  -- keep
use Rattle.record.specs.declared.Plan.{Plan}  -- keep
use Rattle.record.specs.declared.Queues.{Queues}  -- keep
use Rattle.moves.specs.declared.Move.{Move}  -- keep
use Rattle.moves.specs.declared.Move.TheVariants.{Nothing, Hold as HoldWords, Queue as QueueWords, Take, Swap}  -- keep
use Rattle.record.specs.declared.Request.{Request}  -- keep
use Rattle.machine.specs.declared.Order.{Order}  -- keep
use Rattle.machine.specs.declared.Turn.{Turn}  -- keep
use Rattle.record.specs.declared.Request.TheVariants.{Task, Mutex, Sem, Start, Lock, Unlock, Pend, Post, Flush, Sleep, Yield, Hold, Free, Tick, Level, Outcome, Queue, OwnedQueue, Send, Receive, Word}  -- keep
use Rattle.record.specs.Setters.{put_tasks, put_semaphores, put_clock, put_mutexes, put_queues, put_ready, put_waiting, put_started, put_hold, put_running, put_level}
use Rattle.record.specs.StepRecord.{answer_of}
use Rattle.record.specs.Reads.{owner_at, queue_owner_at, next_at, new_levels, count_at, maximum_at, first_id}

unfoldable pub wait_begun : Tasks → ℕ → ℕ → ℕ → ℕ → ℕ → Tasks
wait_begun t i kind object timed due = cond (ltb i task_places) (record {
  due = set t.due i due;
  priority = t.priority;
  level = t.level;
  outcome = set t.outcome i pending;
  wait = set t.wait i kind;
  object = set t.object i object;
  timed = set t.timed i timed;
  n = t.n;
}) t

-- a column in which v stands at the places whose flag is 1
abbrev pub flagged_at : List ℕ → (ℕ → ℕ) → List ℕ → ℕ → ℕ
flagged_at flags v l i = cond (eqb (key_of flags i) 1) (v i) (key_of l i)

abbrev pub put_flagged : List ℕ → (ℕ → ℕ) → List ℕ → List ℕ
put_flagged flags v l = filled task_places (flagged_at flags v l)

-- the outcome that an ended wait of a kind leaves
unfoldable pub outcome_on : ℕ → ℕ → ℕ → ℕ
outcome_on kind slept other = cond (eqb kind on_time) slept other

-- the waits of the flagged tasks ended
unfoldable pub ended_where : Tasks → List ℕ → ℕ → ℕ → Tasks
ended_where t flags slept other = record {
  due = put_flagged flags (λ i. 0) t.due;
  priority = t.priority;
  level = t.level;
  outcome = put_flagged flags (λ i. outcome_on (key_of t.wait i) slept other) t.outcome;
  wait = put_flagged flags (λ i. 0) t.wait;
  object = put_flagged flags (λ i. 0) t.object;
  timed = put_flagged flags (λ i. 0) t.timed;
  n = t.n;
}

-- flags that name tasks
unfoldable pub single : ℕ → List ℕ
single i = cond (ltb i task_places) (set (replicate task_places 0) i 1) (replicate task_places 0)

unfoldable pub due_now : ℕ → ℕ → ℕ → ℕ
due_now timed due clock = cond (eqb timed 1) (cond (eqb (ticks_left due clock) 1) 1 0) 0

abbrev pub due_flag : Tasks → ℕ → ℕ → ℕ
due_flag t clock i = due_now (get_or t.timed i 0) (get_or t.due i 0) clock

unfoldable pub waits_on : ℕ → ℕ → ℕ → ℕ → ℕ
waits_on wait at kind object = cond (eqb wait kind) (cond (eqb at object) 1 0) 0

abbrev pub waiter_flag : Tasks → ℕ → ℕ → ℕ → ℕ
waiter_flag t kind object i = waits_on (get_or t.wait i 0) (get_or t.object i 0) kind object

unfoldable pub differs : ℕ → ℕ → ℕ
differs x y = cond (eqb x y) 0 1

abbrev pub differ_flag : List ℕ → List ℕ → ℕ → ℕ
differ_flag a b i = differs (get_or a i 0) (get_or b i 0)

unfoldable pub both_ones : ℕ → ℕ → ℕ
both_ones x y = cond (eqb x 1) (cond (eqb y 1) 1 0) 0

abbrev pub both_flag : List ℕ → List ℕ → ℕ → ℕ
both_flag a b i = both_ones (get_or a i 0) (get_or b i 0)

unfoldable pub any_flag : List ℕ → Bool
any_flag f = not (allb task_places (λ i. not (eqb (get_or f i 0) 1)))

unfoldable pub moved_of : TaskList → List ℕ → List ℕ
moved_of q changed = filled task_places (both_flag changed (counted (replicate task_places 0) (items q)))

-- those whose level changed go, by id, to the tail of their new level
abbrev pub reordered : TaskList → List ℕ → List ℕ → ℕ → TaskList
reordered q changed new n = inserted_flagged (kept q changed 0) new (moved_of q changed) (items (every_id n))

unfoldable pub resettled : TaskList → List ℕ → List ℕ → ℕ → TaskList
resettled q old new n = let changed = filled task_places (differ_flag old new) in cond (any_flag changed) (reordered q changed new n) q

-- levels as defined, and the ready order that follows them
unfoldable pub order_of : Tasks → Mutexes → Queues → TaskList → Order
order_of t m x ready = let new = new_levels t m x in record { level = new; ready = resettled ready t.level new t.n }

abbrev pub put_order : State → Order → State
put_order k o = put_ready (put_tasks k (put_level k.tasks o.level)) o.ready

unfoldable pub settled : State → State
settled k = put_order k (order_of k.tasks k.mutexes k.queues k.ready)

-- the list without its first
unfoldable pub rest_of : TaskList → TaskList
rest_of q = task_list_of (drop 1 (items q))

-- the ready order when its first takes the place of r, which goes to the head of its level
unfoldable pub displaced : TaskList → List ℕ → ℕ → TaskList
displaced q keys r = inserted (rest_of q) keys (key_of keys r) r

-- who runs, and the ready order behind it
abbrev pub turn : TaskList → ℕ → Turn
turn q x = record { ready = q; running = x }

-- who runs next, by the word of level marks; ReadyLevelLaws: the first marked level is the first ready task's where the order ascends
unfoldable pub turn_of : ℕ → TaskList → List ℕ → ℕ → ℕ → Turn
turn_of started q keys running hold =
    cond (eqb started 0) (turn q running)
    (cond (eqb (marks_in keys (items q)) 0) (turn q running)
    (cond (eqb running no_id) (turn (rest_of q) (first_id q))
    (cond (eqb hold 0)
    (cond (ltb (first_marked (marks_in keys (items q))) (key_of keys running)) (turn (displaced q keys running) (first_id q)) (turn q running))
    (turn q running))))

abbrev pub put_turn : State → Turn → State
put_turn k t = put_running (put_ready k t.ready) t.running

unfoldable pub dispatched : State → State
dispatched k = put_turn k (turn_of k.started k.ready k.tasks.level k.running k.hold)

-- the waits of the flagged tasks end
unfoldable pub woke : State → List ℕ → ℕ → ℕ → State
woke k flags slept other = put_waiting (put_tasks k (ended_where k.tasks flags slept other)) (kept k.waiting flags 0)

-- i becomes ready: it enters at the tail of its level
unfoldable pub entered : State → ℕ → State
entered k i = put_ready k (tailed k.ready k.tasks.level i)

-- those of an order that have a flag become ready, and enter in that order
unfoldable pub all_entered : State → TaskList → List ℕ → State
all_entered k order flags = put_ready k (inserted_flagged k.ready k.tasks.level flags (items order))

-- whether a wait ends at a time, and when; then r waits, and nobody runs
unfoldable pub timed_for : ℕ → ℕ
timed_for t = cond (eqb t forever) 0 1

unfoldable pub due_for : ℕ → ℕ → ℕ
due_for clock t = cond (eqb t forever) 0 (due_at clock t)

unfoldable pub blocked_on : State → ℕ → ℕ → ℕ → ℕ → State
blocked_on k r kind object t = put_running (put_waiting (put_tasks k (wait_begun k.tasks r kind object (timed_for t) (due_for k.clock t))) (pushed k.waiting r)) no_id

-- objects
unfoldable pub owner_set : Mutexes → ℕ → ℕ → Mutexes
owner_set m j o = cond (ltb j max_mutexes) (record { kind = m.kind; owner = set m.owner j o; n = m.n }) m

unfoldable pub count_set : Semaphores → ℕ → ℕ → Semaphores
count_set c j v = cond (ltb j max_semaphores) (record { count = set c.count j v; maximum = c.maximum; n = c.n }) c

unfoldable pub task_added : Tasks → ℕ → Tasks
task_added t p = cond (ltb t.n task_places) (record {
  due = t.due;
  priority = set t.priority t.n p;
  level = set t.level t.n p;
  outcome = t.outcome;
  wait = t.wait;
  object = t.object;
  timed = t.timed;
  n = t.n + 1;
}) t

unfoldable pub mutex_added : Mutexes → ℕ → Mutexes
mutex_added m q = cond (ltb m.n max_mutexes) (record { kind = set m.kind m.n q; owner = m.owner; n = m.n + 1 }) m

unfoldable pub sem_added : Semaphores → ℕ → ℕ → Semaphores
sem_added c count max = cond (ltb c.n max_semaphores) (record { count = set c.count c.n count; maximum = set c.maximum c.n max; n = c.n + 1 }) c

-- a queue more, and what changes of one
unfoldable pub queue_added : Queues → ℕ → ℕ → ℕ → Queues
queue_added x w d o = cond (ltb x.n max_queues) (record {
  width = set x.width x.n w;
  depth = set x.depth x.n d;
  owner = set x.owner x.n o;
  oldest = x.oldest;
  used = x.used;
  n = x.n + 1;
}) x

unfoldable pub used_set : Queues → ℕ → ℕ → Queues
used_set x q v = cond (ltb q max_queues) (record { width = x.width; depth = x.depth; owner = x.owner; oldest = x.oldest; used = set x.used q v; n = x.n }) x

unfoldable pub oldest_set : Queues → ℕ → ℕ → Queues
oldest_set x q v = cond (ltb q max_queues) (record { width = x.width; depth = x.depth; owner = x.owner; oldest = set x.oldest q v; used = x.used; n = x.n }) x

-- what stands at a queue's place, 0 for a number that no queue has
abbrev pub width_at : Queues → ℕ → ℕ
width_at x q = get_or x.width q 0

abbrev pub depth_at : Queues → ℕ → ℕ
depth_at x q = get_or x.depth q 0

abbrev pub oldest_at : Queues → ℕ → ℕ
oldest_at x q = get_or x.oldest q 0

abbrev pub used_at : Queues → ℕ → ℕ
used_at x q = get_or x.used q 0

-- the first word of the message k behind q's oldest one
abbrev pub place_at : Queues → ℕ → ℕ → ℕ
place_at x q k = start_in x.width x.depth q + width_at x q * slot_of (oldest_at x q) (depth_at x q) k

-- the ring place behind q's oldest one
abbrev pub next_oldest : Queues → ℕ → ℕ
next_oldest x q = cond (ltb (oldest_at x q + 1) (depth_at x q)) (oldest_at x q + 1) 0

-- the answer of a step, with the running task of the record that it hands back, and what is to be moved
abbrev pub answer_moving : State → ℕ → ℕ → Move → Plan
answer_moving k number value m = record { state = k; answer = answer_of number value k.running; moves = m }

abbrev pub answer_in : State → ℕ → ℕ → Plan
answer_in k number value = answer_moving k number value Nothing

-- the steps, refusals in the table's order
unfoldable pub is_time : ℕ → Bool
is_time t = cond (leb t max_ticks) true (eqb t forever)

-- why a caller that would wait may not, or 0
unfoldable pub wait_refusal : ℕ → ℕ → ℕ
wait_refusal held t = cond (eqb t 0) 3 (cond (ltb 0 held) 11 0)

-- a step by which the caller waits
unfoldable pub may_wait : State → ℕ → Plan → Plan
may_wait k t o = cond (eqb (wait_refusal k.hold t) 0) o (answer_in k (wait_refusal k.hold t) 0)

unfoldable pub task_step : State → ℕ → Plan
task_step k p =
    cond (eqb k.started 0)
    (cond (leb levels p) (answer_in k 7 0)
    (cond (leb max_tasks k.tasks.n) (answer_in k 8 0)
    (answer_in (entered (put_tasks k (task_added k.tasks p)) k.tasks.n) 0 k.tasks.n)))
    (answer_in k 4 0)

unfoldable pub mutex_step : State → ℕ → Plan
mutex_step k q =
    cond (eqb k.started 0)
    (cond (leb kinds q) (answer_in k 7 0)
    (cond (leb max_mutexes k.mutexes.n) (answer_in k 8 0)
    (answer_in (put_mutexes k (mutex_added k.mutexes q)) 0 k.mutexes.n)))
    (answer_in k 4 0)

unfoldable pub sem_step : State → ℕ → ℕ → Plan
sem_step k count max =
    cond (eqb k.started 0)
    (cond (eqb max 0) (answer_in k 7 0)
    (cond (ltb max count) (answer_in k 7 0)
    (cond (leb max_semaphores k.semaphores.n) (answer_in k 8 0)
    (answer_in (put_semaphores k (sem_added k.semaphores count max)) 0 k.semaphores.n))))
    (answer_in k 4 0)

unfoldable pub start_step : State → Plan
start_step k = cond (eqb k.started 0) (answer_in (dispatched (put_started k 1)) 0 0) (answer_in k 4 0)

-- why a step that needs a caller may not be made, or 0
unfoldable pub caller_refusal : ℕ → ℕ → ℕ
caller_refusal started running = cond (eqb started 0) 4 (cond (eqb running no_id) 5 0)

-- a step that needs a caller
unfoldable pub called_by : State → Plan → Plan
called_by k o = cond (eqb (caller_refusal k.started k.running) 0) o (answer_in k (caller_refusal k.started k.running) 0)

-- why a step that may wait for one of n objects may not be made, or 0
unfoldable pub timed_refusal : ℕ → ℕ → ℕ → ℕ → ℕ → ℕ
timed_refusal started running n object t = cond (eqb (caller_refusal started running) 0) (cond (leb n object) 6 (cond (is_time t) 0 7)) (caller_refusal started running)

-- an owner, the owner of what that waits for, and so on
abbrev pub owners_from : Tasks → Mutexes → Queues → ℕ → List ℕ
owners_from t m x owner = chain_from (filled task_places (next_at t m x)) owner t.n

unfoldable pub lock_waits : State → ℕ → ℕ → Plan
lock_waits k m t =
    let chain = owners_from k.tasks k.mutexes k.queues (owner_at k.mutexes m) in
    may_wait k t
    (cond (member k.running chain) (answer_in k 12 (length (before k.running chain)))
    (answer_in (dispatched (settled (blocked_on k k.running on_mutex m t))) 1 (length (before k.running chain))))

abbrev pub lock_on : State → ℕ → ℕ → Plan
lock_on k m t =
    cond (eqb (owner_at k.mutexes m) k.running) (answer_in k 9 0)
    (cond (eqb (owner_at k.mutexes m) no_id) (answer_in (put_mutexes k (owner_set k.mutexes m k.running)) 0 0) (lock_waits k m t))

unfoldable pub lock_step : State → ℕ → ℕ → Plan
lock_step k m t = called_by k
    (cond (leb k.mutexes.n m) (answer_in k 6 0)
    (cond (is_time t) (lock_on k m t) (answer_in k 7 0)))

abbrev pub best_at : State → ℕ → ℕ → ℕ
best_at k kind object = best_of k.waiting k.tasks.wait k.tasks.object k.tasks.level kind object

unfoldable pub passed_to : State → ℕ → ℕ → State
passed_to k m w = cond (eqb w no_id) (put_mutexes k (owner_set k.mutexes m no_id))
    (dispatched (entered (settled (put_mutexes (woke k (single w) granted granted) (owner_set k.mutexes m w))) w))

unfoldable pub unlock_step : State → ℕ → Plan
unlock_step k m = called_by k
    (cond (leb k.mutexes.n m) (answer_in k 6 0)
    (cond (eqb (owner_at k.mutexes m) k.running) (answer_in (passed_to k m (best_at k on_mutex m)) 0 0) (answer_in k 10 0)))

abbrev pub pend_on : State → ℕ → ℕ → Plan
pend_on k j t =
    cond (eqb (count_at k.semaphores j) 0)
    (may_wait k t (answer_in (dispatched (blocked_on k k.running on_semaphore j t)) 1 0))
    (answer_in (put_semaphores k (count_set k.semaphores j (count_at k.semaphores j - 1))) 0 0)

unfoldable pub pend_step : State → ℕ → ℕ → Plan
pend_step k j t = called_by k
    (cond (leb k.semaphores.n j) (answer_in k 6 0)
    (cond (is_time t) (pend_on k j t) (answer_in k 7 0)))

unfoldable pub credit_step : State → ℕ → ℕ → Plan
credit_step k j w =
    cond (eqb w no_id)
    (cond (leb (maximum_at k.semaphores j) (count_at k.semaphores j)) (answer_in k 2 0)
    (answer_in (put_semaphores k (count_set k.semaphores j (count_at k.semaphores j + 1))) 0 0))
    (answer_in (dispatched (entered (woke k (single w) granted granted) w)) 0 0)

unfoldable pub post_step : State → ℕ → Plan
post_step k j =
    cond (eqb k.started 0) (answer_in k 4 0)
    (cond (leb k.semaphores.n j) (answer_in k 6 0) (credit_step k j (best_at k on_semaphore j)))

unfoldable pub flush_step : State → ℕ → Plan
flush_step k j =
    let flags = filled task_places (waiter_flag k.tasks on_semaphore j) in
    cond (eqb k.started 0) (answer_in k 4 0)
    (cond (leb k.semaphores.n j) (answer_in k 6 0) (answer_in (dispatched (all_entered (woke k flags flushed flushed) k.waiting flags)) 0 0))

unfoldable pub sleep_step : State → ℕ → Plan
sleep_step k t = called_by k
    (cond (eqb t 0) (answer_in k 7 0)
    (cond (ltb max_ticks t) (answer_in k 7 0)
    (cond (eqb k.hold 0) (answer_in (dispatched (blocked_on k k.running on_time 0 t)) 1 0) (answer_in k 11 0))))

unfoldable pub yield_step : State → Plan
yield_step k = called_by k
    (cond (eqb k.hold 0)
    (answer_in (dispatched (put_running (entered k k.running) no_id)) 0 0)
    (answer_in k 11 0))

unfoldable pub hold_step : State → Plan
hold_step k = called_by k (cond (leb max_hold k.hold) (answer_in k 13 0) (answer_in (put_hold k (k.hold + 1)) 0 0))

unfoldable pub free_step : State → Plan
free_step k = called_by k (cond (eqb k.hold 0) (answer_in k 13 0) (answer_in (dispatched (put_hold k (k.hold - 1))) 0 0))

unfoldable pub tick_step : State → Plan
tick_step k =
    let flags = filled task_places (due_flag k.tasks k.clock) in
    cond (eqb k.started 0) (answer_in k 4 0)
    (cond (any_flag flags)
    (answer_in (dispatched (all_entered (settled (put_clock (woke k flags granted timed_out) (due_at k.clock 1))) k.waiting flags)) 0 0)
    (answer_in (put_clock k (due_at k.clock 1)) 0 0))

unfoldable pub level_step : State → ℕ → Plan
level_step k i = cond (leb k.tasks.n i) (answer_in k 6 0) (answer_in k 0 (key_of k.tasks.level i))

unfoldable pub outcome_step : State → ℕ → Plan
outcome_step k i = cond (leb k.tasks.n i) (answer_in k 6 0) (answer_in k 0 (key_of k.tasks.outcome i))

-- the sum of the words that a queue of width w and depth d needs with those before it is more than the block has
abbrev pub too_large : Queues → ℕ → ℕ → ℕ → Bool
too_large x w d space = ltb space (start_in x.width x.depth x.n + w * d)

unfoldable pub queue_made : State → ℕ → ℕ → ℕ → ℕ → Plan
queue_made k w d o space =
    cond (is_width w and is_depth d)
    (cond (leb max_queues k.queues.n) (answer_in k 8 0)
    (cond (too_large k.queues w d space) (answer_in k 8 0)
    (answer_in (put_queues k (queue_added k.queues w d o)) 0 k.queues.n)))
    (answer_in k 7 0)

unfoldable pub queue_step : State → ℕ → ℕ → ℕ → Plan
queue_step k w d space = cond (eqb k.started 0) (queue_made k w d no_id space) (answer_in k 4 0)

unfoldable pub owned_queue_step : State → ℕ → ℕ → ℕ → ℕ → Plan
owned_queue_step k w d o space = cond (eqb k.started 0) (cond (leb k.tasks.n o) (answer_in k 6 0) (queue_made k w d o space)) (answer_in k 4 0)

-- the caller waits to send: where q has an owner, its levels and those up its chain may change
unfoldable pub send_blocked : State → ℕ → ℕ → State
send_blocked k q t =
    cond (eqb (queue_owner_at k.queues q) no_id)
    (dispatched (blocked_on k k.running on_send q t))
    (dispatched (settled (blocked_on k k.running on_send q t)))

unfoldable pub send_waits : State → ℕ → ℕ → Plan
send_waits k q t =
    let chain = owners_from k.tasks k.mutexes k.queues (queue_owner_at k.queues q) in
    may_wait k t
    (cond (member k.running chain) (answer_in k 12 (length (before k.running chain)))
    (answer_moving (send_blocked k q t) 1 (length (before k.running chain)) (HoldWords k.running)))

-- the message goes to the waiting receiver w, or to the tail
unfoldable pub delivered : State → ℕ → ℕ → Plan
delivered k q w =
    cond (eqb w no_id)
    (answer_moving (put_queues k (used_set k.queues q (used_at k.queues q + 1))) 0 0 (QueueWords (place_at k.queues q (used_at k.queues q))))
    (answer_moving (dispatched (entered (woke k (single w) granted granted) w)) 0 0 (HoldWords w))

abbrev pub send_on : State → ℕ → ℕ → Plan
send_on k q t =
    cond (ltb (used_at k.queues q) (depth_at k.queues q))
    (delivered k q (best_at k on_receive q))
    (cond (eqb (queue_owner_at k.queues q) k.running) (answer_in k 9 0) (send_waits k q t))

unfoldable pub send_step : State → ℕ → ℕ → ℕ → Plan
send_step k q t count = called_by k
    (cond (leb k.queues.n q) (answer_in k 6 0)
    (cond (is_time t) (cond (eqb count (width_at k.queues q)) (send_on k q t) (answer_in k 7 0)) (answer_in k 7 0)))

-- a waiting sender becomes ready: where q has an owner, levels may change
unfoldable pub sent_off : State → ℕ → ℕ → State
sent_off k q w =
    cond (eqb (queue_owner_at k.queues q) no_id)
    (dispatched (entered (woke k (single w) granted granted) w))
    (dispatched (entered (settled (woke k (single w) granted granted)) w))

-- the caller takes the oldest message; the message of the waiting sender w goes to its place, which is the tail of a full ring
unfoldable pub taken_in : State → ℕ → ℕ → Plan
taken_in k q w =
    let place = place_at k.queues q 0 in
    let moved = put_queues k (oldest_set k.queues q (next_oldest k.queues q)) in
    cond (eqb w no_id)
    (answer_moving (put_queues moved (used_set moved.queues q (used_at k.queues q - 1))) 0 0 (Take place (width_at k.queues q) k.running))
    (answer_moving (sent_off moved q w) 0 0 (Swap place (width_at k.queues q) k.running w))

abbrev pub receive_on : State → ℕ → ℕ → Plan
receive_on k q t =
    cond (eqb (used_at k.queues q) 0)
    (may_wait k t (answer_in (dispatched (blocked_on k k.running on_receive q t)) 1 0))
    (taken_in k q (best_at k on_send q))

-- q has no owner, or r is its owner
unfoldable pub may_take : ℕ → ℕ → Bool
may_take owner r = cond (eqb owner no_id) true (eqb owner r)

unfoldable pub receive_step : State → ℕ → ℕ → Plan
receive_step k q t = called_by k
    (cond (leb k.queues.n q) (answer_in k 6 0)
    (cond (is_time t)
    (cond (may_take (queue_owner_at k.queues q) k.running) (receive_on k q t) (answer_in k 10 0))
    (answer_in k 7 0)))

unfoldable pub word_step : State → ℕ → ℕ → List ℕ → Plan
word_step k i n words = cond (leb k.tasks.n i) (answer_in k 6 0) (cond (leb held_words n) (answer_in k 7 0) (answer_in k 0 (get_or words (held_words * i + n) 0)))

-- the step for each request: `count` words are in the message beside it, the block has `space` words, and tasks hold `words`
unfoldable pub machine_step : State → Request → ℕ → ℕ → List ℕ → Plan
machine_step k (Task p) count space words = task_step k p
machine_step k (Mutex q) count space words = mutex_step k q
machine_step k (Sem n max) count space words = sem_step k n max
machine_step k Start count space words = start_step k
machine_step k (Lock m t) count space words = lock_step k m t
machine_step k (Unlock m) count space words = unlock_step k m
machine_step k (Pend j t) count space words = pend_step k j t
machine_step k (Post j) count space words = post_step k j
machine_step k (Flush j) count space words = flush_step k j
machine_step k (Sleep t) count space words = sleep_step k t
machine_step k Yield count space words = yield_step k
machine_step k Hold count space words = hold_step k
machine_step k Free count space words = free_step k
machine_step k Tick count space words = tick_step k
machine_step k (Level i) count space words = level_step k i
machine_step k (Outcome i) count space words = outcome_step k i
machine_step k (Queue w d) count space words = queue_step k w d space
machine_step k (OwnedQueue w d o) count space words = owned_queue_step k w d o space
machine_step k (Send q t) count space words = send_step k q t count
machine_step k (Receive q t) count space words = receive_step k q t
machine_step k (Word i n) count space words = word_step k i n words
