-- "Sound state" as a test, one named conjunct for each phrase. Stored levels and unused places are the record's and not here.
use Rattle.std.specs.Prelude.{List, [], ◌∷◌, Bool, true, false, cond, not, ℕ, ◌+◌, ltb, leb, eqb, length, get_or}
use Rattle.std.proofs.Math.Option.{Option, none, some}
use Rattle.lists.specs.Test.{◌and◌, ◌or◌, allb, someb}
use Rattle.lists.specs.Count.{occ, opt}
use Rattle.lists.specs.Order.{ascb, tiesb, inside}
use Rattle.chains.specs.Chain.{endsb}
use Rattle.rules.specs.Sizes.{max_tasks, max_mutexes, max_semaphores, max_queues, max_depth, held_words, levels, kinds, word_size, max_hold, max_ticks, granted, pending, timed_out, flushed}
use Rattle.rules.specs.Tables.{Awaited, mutex_of, sem_of, room_in, message_in, time, is_sleep, Wait, Tables, task_count, mutex_count, sem_count, queue_count, priority_of, outcome_of, wait_of, words_of, kind_of, owner_of, count_of, maximum_of, width_of, depth_of, queue_owner_of, messages_of, space_taken}
use Rattle.rules.specs.Levels.{next}
use Rattle.rules.specs.State.{State, level_of}

-- the columns of a kind of object have one place for each
unfoldable pub columnsb : Tables → Bool
columnsb t = eqb (length t.tasks.waits) (task_count t) and eqb (length t.tasks.outcomes) (task_count t) and eqb (length t.mutexes.kinds) (mutex_count t) and eqb (length t.semaphores.maxima) (sem_count t)
    and eqb (length t.tasks.words) (task_count t) and eqb (length t.queues.widths) (queue_count t) and eqb (length t.queues.depths) (queue_count t)
    and eqb (length t.queues.messages) (queue_count t)

-- "Numbers within the ranges above"
unfoldable pub sizesb : Tables → Bool
sizesb t = leb (task_count t) max_tasks and leb (mutex_count t) max_mutexes and leb (sem_count t) max_semaphores and leb (queue_count t) max_queues

unfoldable pub rangesb : Tables → Bool
rangesb t = allb (task_count t) (λ i. ltb (priority_of t i) levels) and allb (mutex_count t) (λ m. ltb (kind_of t m) kinds)

-- document 02, K1: "queues of 1, 2, 4 or 8-word messages and depth 1 to 64"
unfoldable pub is_width : ℕ → Bool
is_width w = eqb w 1 or eqb w 2 or eqb w 4 or eqb w 8

unfoldable pub is_depth : ℕ → Bool
is_depth d = ltb 0 d and leb d max_depth

-- no more messages than there is room for, each as wide as the queue's messages are
unfoldable pub messagesb : ℕ → ℕ → List (List ℕ) → Bool
messagesb w d ms = leb (length ms) d and allb (length ms) (λ k. eqb (length (get_or ms k [])) w)

unfoldable pub queueb : Tables → ℕ → Bool
queueb t q = is_width (width_of t q) and is_depth (depth_of t q) and messagesb (width_of t q) (depth_of t q) (messages_of t q)

-- "Queues fill the block in order of id from word 0, w times d words each": the block is long enough
unfoldable pub queuesb : Tables → Bool
queuesb t = allb (queue_count t) (queueb t) and leb (space_taken t) t.queues.space

-- "A task holds eight words"
unfoldable pub wordsb : Tables → Bool
wordsb t = allb (task_count t) (λ i. eqb (length (words_of t i)) held_words)

unfoldable pub clockb : State → Bool
clockb s = ltb s.clock word_size and leb s.hold max_hold

-- "each task in exactly one of running, ready, waiting"; who waits stands in the order of waits
unfoldable pub wait_count : Option Wait → ℕ
wait_count none = 0
wait_count (some w) = 1

unfoldable pub waitingb : Tables → Bool
waitingb t = inside (task_count t) t.tasks.waiting and allb (task_count t) (λ i. eqb (occ i t.tasks.waiting) (wait_count (wait_of t i)))

unfoldable pub placesb : State → Bool
placesb s = inside (task_count s.tables) s.ready and inside (task_count s.tables) (opt s.running)
    and allb (task_count s.tables) (λ i. eqb (occ i s.ready + (occ i s.tables.tasks.waiting + occ i (opt s.running))) 1)

-- "ready order ascending by level"
unfoldable pub ascendingb : State → Bool
ascendingb s = ascb (level_of s) s.ready

-- "each waiter waits for an existing object that isn't available to it (mutex owned, semaphore at 0) or for time": a queue that is full, or empty
unfoldable pub unavailableb : Tables → Awaited → Bool
unavailableb t (mutex_of m) = someb (owner_of t m)
unavailableb t (sem_of k) = ltb k (sem_count t) and eqb (count_of t k) 0
unavailableb t (room_in q) = ltb q (queue_count t) and eqb (length (messages_of t q)) (depth_of t q)
unavailableb t (message_in q) = ltb q (queue_count t) and eqb (length (messages_of t q)) 0
unavailableb t time = true

-- "each timed wait has 1 to 2147483647 ticks left and each sleep is timed"
unfoldable pub leftb : Awaited → Option ℕ → Bool
leftb a none = not (is_sleep a)
leftb a (some n) = ltb 0 n and leb n max_ticks

unfoldable pub blockedb : Tables → Option Wait → Bool
blockedb t none = true
blockedb t (some w) = unavailableb t w.on

unfoldable pub timedb : Option Wait → Bool
timedb none = true
timedb (some w) = leftb w.on w.left

unfoldable pub waitersb : Tables → Bool
waitersb t = allb (task_count t) (λ i. blockedb t (wait_of t i))

unfoldable pub timesb : Tables → Bool
timesb t = allb (task_count t) (λ i. timedb (wait_of t i))

-- document 02, K1: "only the owner waits to receive from an owned queue, and a waiting sender's words past w are 0"
unfoldable pub is_own : Option ℕ → ℕ → Bool
is_own none i = true
is_own (some o) i = eqb o i

unfoldable pub pastb : ℕ → List ℕ → Bool
pastb w l = allb held_words (λ n. ltb n w or eqb (get_or l n 0) 0)

unfoldable pub suitsb : Tables → ℕ → Awaited → Bool
suitsb t i (mutex_of m) = true
suitsb t i (sem_of k) = true
suitsb t i (room_in q) = pastb (width_of t q) (words_of t i)
suitsb t i (message_in q) = is_own (queue_owner_of t q) i
suitsb t i time = true

unfoldable pub queuedb : Tables → ℕ → Option Wait → Bool
queuedb t i none = true
queuedb t i (some w) = suitsb t i w.on

unfoldable pub queue_waitsb : Tables → Bool
queue_waitsb t = allb (task_count t) (λ i. queuedb t i (wait_of t i))

-- "owners exist"
unfoldable pub existsb : ℕ → Option ℕ → Bool
existsb n none = true
existsb n (some o) = ltb o n

unfoldable pub ownersb : Tables → Bool
ownersb t = allb (mutex_count t) (λ m. existsb (task_count t) (owner_of t m)) and allb (queue_count t) (λ q. existsb (task_count t) (queue_owner_of t q))

-- "no ring of waits"
unfoldable pub no_ringb : Tables → Bool
no_ringb t = allb (task_count t) (λ i. endsb (task_count t) (next t) (next t i))

-- "counts at most their maximum, maximum at least 1"
unfoldable pub countsb : Tables → Bool
countsb t = allb (sem_count t) (λ k. leb (count_of t k) (maximum_of t k) and ltb 0 (maximum_of t k))

-- "outcomes 0, 1, 20 or 21, and 1 exactly for waiting tasks"
unfoldable pub outcomeb : Option Wait → ℕ → Bool
outcomeb none n = eqb n granted or eqb n timed_out or eqb n flushed
outcomeb (some w) n = eqb n pending

unfoldable pub outcomesb : Tables → Bool
outcomesb t = allb (task_count t) (λ i. outcomeb (wait_of t i) (outcome_of t i))

-- "once started, a task runs if any is ready"
unfoldable pub none_in : List ℕ → Bool
none_in [] = true
none_in (x ∷ l) = false

unfoldable pub runsb : State → Bool
runsb s = someb s.running or none_in s.ready

-- "hold above 0 only with a running task"
unfoldable pub holdb : State → Bool
holdb s = eqb s.hold 0 or someb s.running

-- "at hold 0 none ready is more urgent than the running one"
unfoldable pub urgent_top : (ℕ → ℕ) → Option ℕ → List ℕ → Bool
urgent_top f r [] = true
urgent_top f none (x ∷ l) = true
urgent_top f (some r) (x ∷ l) = leb (f r) (f x)

unfoldable pub urgentb : State → Bool
urgentb s = not (eqb s.hold 0) or urgent_top (level_of s) s.running s.ready

-- "In set-up: clock 0, hold 0, nothing running, waiting or owned, outcomes 0, every task ready, equal levels by id": every task is ready
-- by `placesb`, since none runs or waits. Document 02, K1: "in set-up queues are empty, held words 0, and only mutexes must be unowned"
unfoldable pub set_upb : State → Bool
set_upb s = eqb s.clock 0 and eqb s.hold 0 and not (someb s.running) and none_in s.tables.tasks.waiting
    and allb (mutex_count s.tables) (λ m. not (someb (owner_of s.tables m)))
    and allb (task_count s.tables) (λ i. eqb (outcome_of s.tables i) granted)
    and allb (queue_count s.tables) (λ q. eqb (length (messages_of s.tables q)) 0)
    and allb (task_count s.tables) (λ i. pastb 0 (words_of s.tables i))
    and tiesb (level_of s) s.ready

-- what holds of the tables in every phase
unfoldable pub tablesb : Tables → Bool
tablesb t = columnsb t and sizesb t and rangesb t and waitingb t and waitersb t and timesb t and ownersb t and no_ringb t and countsb t and outcomesb t and queuesb t and wordsb t and queue_waitsb t

-- document 01's term "sound state"
unfoldable pub soundb : State → Bool
soundb s = tablesb s.tables and clockb s and placesb s and ascendingb s and cond s.started (runsb s and holdb s and urgentb s) (set_upb s)
