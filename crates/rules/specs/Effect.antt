-- What each accepted step does, before the levels are looked at again: section "Steps".
use Rattle.std.specs.Prelude.{List, [], ◌∷◌, ◌++◌, map, Bool, true, false, cond, not, ℕ, ◌+◌, ◌-◌, ◌%◌, eqb, length, set, get_or, take}
use Rattle.std.proofs.Math.Option.{Option, none, some}
use Rattle.lists.specs.Test.{holds}
use Rattle.lists.specs.Order.{keep}
use Rattle.lists.specs.Table.{put_where, pad}
use Rattle.rules.specs.Sizes.{word_size, held_words, granted, pending, timed_out, flushed}
use Rattle.rules.specs.Tables.{Awaited, mutex_of, sem_of, room_in, message_in, time, is_sleep, Wait, wait_for, Tables, with_tasks, with_mutexes, with_semaphores, with_queues, task_count, mutex_count, sem_count, queue_count, outcome_of, wait_of, words_of, owner_of, count_of, width_of, depth_of, messages_of}
use Rattle.rules.specs.Levels.{links_of, awaits, best_waiter}
use Rattle.rules.specs.State.{State, with_tables, with_started, with_clock, with_hold, placed, level_of}
use Rattle.rules.specs.Step.{Step, task, mutex, sem, start, lock, unlock, pend, post, flush, sleep, yield, hold, free, tick, level, outcome, queue, send, receive, word}

-- the state after the effect, the tasks that became ready in it in the order in which they enter, and the answer's number and value
pub record Effect : Type 0 where
  pub state : State
  pub woken : List ℕ
  pub number : ℕ
  pub value : ℕ

abbrev pub done : State → List ℕ → ℕ → Effect
done s woken value = record { state = s; woken = woken; number = 0; value = value }

-- a message as a task holds it: "the rest 0". At first a task holds eight words 0.
unfoldable pub held_for : List ℕ → List ℕ
held_for m = pad held_words 0 m

-- creation: one more place in each column
abbrev pub add_task : Tables → ℕ → Tables
add_task t p = with_tasks t (record {
  priorities = t.tasks.priorities ++ (p ∷ []);
  outcomes = t.tasks.outcomes ++ (granted ∷ []);
  waits = t.tasks.waits ++ (none ∷ []);
  words = t.tasks.words ++ (held_for [] ∷ []);
  waiting = t.tasks.waiting;
})

abbrev pub add_mutex : Tables → ℕ → Tables
add_mutex t k = with_mutexes t (record { kinds = t.mutexes.kinds ++ (k ∷ []); owners = t.mutexes.owners ++ (none ∷ []) })

abbrev pub add_sem : Tables → ℕ → ℕ → Tables
add_sem t count max = with_semaphores t (record { counts = t.semaphores.counts ++ (count ∷ []); maxima = t.semaphores.maxima ++ (max ∷ []) })

-- "Queues fill the block in order of id": a new one stands behind the others, and is empty
abbrev pub add_queue : Tables → ℕ → ℕ → Option ℕ → Tables
add_queue t w d o = with_queues t (record {
  widths = t.queues.widths ++ (w ∷ []);
  depths = t.queues.depths ++ (d ∷ []);
  owners = t.queues.owners ++ (o ∷ []);
  messages = t.queues.messages ++ ([] ∷ []);
  space = t.queues.space;
})

-- m becomes o's, or free
abbrev pub give : Tables → ℕ → Option ℕ → Tables
give t m o = with_mutexes t (record { kinds = t.mutexes.kinds; owners = set t.mutexes.owners m o })

abbrev pub set_count : Tables → ℕ → ℕ → Tables
set_count t k n = with_semaphores t (record { counts = set t.semaphores.counts k n; maxima = t.semaphores.maxima })

-- q's messages become ms
abbrev pub set_messages : Tables → ℕ → List (List ℕ) → Tables
set_messages t q ms = with_queues t (record {
  widths = t.queues.widths;
  depths = t.queues.depths;
  owners = t.queues.owners;
  messages = set t.queues.messages q ms;
  space = t.queues.space;
})

-- i holds a message
abbrev pub hands : Tables → ℕ → List ℕ → Tables
hands t i m = with_tasks t (record {
  priorities = t.tasks.priorities;
  outcomes = t.tasks.outcomes;
  waits = t.tasks.waits;
  words = set t.tasks.words i (held_for m);
  waiting = t.tasks.waiting;
})

-- the waits, their order and the outcomes change; priorities never do
abbrev pub with_waits : Tables → List (Option Wait) → List ℕ → List ℕ → Tables
with_waits t waits waiting outcomes = with_tasks t (record { priorities = t.tasks.priorities; outcomes = outcomes; waits = waits; words = t.tasks.words; waiting = waiting })

-- "A task that begins to wait gets outcome 1."
abbrev pub begin_wait : Tables → ℕ → Wait → Tables
begin_wait t r w = with_waits t (set t.tasks.waits r (some w)) (t.tasks.waiting ++ (r ∷ [])) (set t.tasks.outcomes r pending)

-- the waits of the tasks that pass the test end, each with its outcome
abbrev pub end_waits : Tables → (ℕ → Bool) → (ℕ → ℕ) → Tables
end_waits t p out = with_waits t (put_where p (λ i. none) t.tasks.waits) (keep (λ i. not (p i)) t.tasks.waiting) (put_where p out t.tasks.outcomes)

-- who becomes ready when those waits end; document 02, K3: "in the order in which their waits began"
abbrev pub ended : Tables → (ℕ → Bool) → List ℕ
ended t p = keep p t.tasks.waiting

-- the caller r waits, and nobody runs until the dispatch
unfoldable pub caller_waits : State → ℕ → Awaited → ℕ → ℕ → Effect
caller_waits s r a t links = record {
  state = placed (with_tables s (begin_wait s.tables r (wait_for a t))) none s.ready;
  woken = [];
  number = 1;
  value = links;
}

-- "lock m t: a free mutex becomes the caller's. Else the caller waits."
unfoldable pub lock_by : State → ℕ → ℕ → ℕ → Option ℕ → Effect
lock_by s m t r none = done (with_tables s (give s.tables m (some r))) [] 0
lock_by s m t r (some o) = caller_waits s r (mutex_of m) t (links_of s.tables r (mutex_of m))

-- "unlock m: ownership passes to the best waiter, which becomes ready with outcome 0, or the mutex becomes free."
unfoldable pub pass_on : State → ℕ → Option ℕ → Effect
pass_on s m none = done (with_tables s (give s.tables m none)) [] 0
pass_on s m (some w) = done (with_tables s (give (end_waits s.tables (eqb w) (λ i. granted)) m (some w))) (ended s.tables (eqb w)) 0

-- "pend s t: takes one credit if the count is above 0, else waits."
unfoldable pub pend_by : State → ℕ → ℕ → ℕ → Effect
pend_by s k t r = cond (eqb (count_of s.tables k) 0) (caller_waits s r (sem_of k) t 0) (done (with_tables s (set_count s.tables k (count_of s.tables k - 1))) [] 0)

-- "post s: from a task or an interrupt; the best waiter gets the credit (outcome 0), else the count rises by one."
unfoldable pub credit : State → ℕ → Option ℕ → Effect
credit s k none = done (with_tables s (set_count s.tables k (count_of s.tables k + 1))) [] 0
credit s k (some w) = done (with_tables s (end_waits s.tables (eqb w) (λ i. granted))) (ended s.tables (eqb w)) 0

-- "flush s: from either; every waiter becomes ready with outcome 21; the count stays."
unfoldable pub flush_of : State → ℕ → Effect
flush_of s k = done (with_tables s (end_waits s.tables (awaits s.tables (sem_of k)) (λ i. flushed))) (ended s.tables (awaits s.tables (sem_of k))) 0

-- q has as many messages as it has room for
abbrev pub is_full : Tables → ℕ → Bool
is_full t q = eqb (length (messages_of t q)) (depth_of t q)

-- "A message goes to the best waiting receiver, else to the tail"
unfoldable pub deliver : State → ℕ → List ℕ → Option ℕ → Effect
deliver s q m none = done (with_tables s (set_messages s.tables q (messages_of s.tables q ++ (m ∷ [])))) [] 0
deliver s q m (some w) = done (with_tables s (hands (end_waits s.tables (eqb w) (λ i. granted)) w m)) (ended s.tables (eqb w)) 0

-- a send that meets a full queue waits, its words held; a full queue has no waiting receiver
unfoldable pub send_by : State → ℕ → ℕ → List ℕ → ℕ → Effect
send_by s q t m r = cond (is_full s.tables q)
    (caller_waits (with_tables s (hands s.tables r m)) r (room_in q) t (links_of s.tables r (room_in q)))
    (deliver s q m (best_waiter s.tables (message_in q)))

-- the message that a waiting sender holds
abbrev pub sent_by : Tables → ℕ → ℕ → List ℕ
sent_by t q w = take (width_of t q) (words_of t w)

-- "a receive that makes room takes in the best waiting sender's message": m is the oldest, ms are the others
unfoldable pub take_in : State → ℕ → ℕ → List ℕ → List (List ℕ) → Option ℕ → Effect
take_in s q r m ms none = done (with_tables s (hands (set_messages s.tables q ms) r m)) [] 0
take_in s q r m ms (some w) = done
    (with_tables s (hands (set_messages (end_waits s.tables (eqb w) (λ i. granted)) q (ms ++ (sent_by s.tables q w ∷ []))) r m))
    (ended s.tables (eqb w))
    0

-- a receive takes the oldest message, or waits for one
unfoldable pub receive_by : State → ℕ → ℕ → ℕ → List (List ℕ) → Effect
receive_by s q t r [] = caller_waits s r (message_in q) t 0
receive_by s q t r (m ∷ ms) = take_in s q r m ms (best_waiter s.tables (room_in q))

-- the wait has one tick left
unfoldable pub is_due : Option Wait → Bool
is_due none = false
is_due (some w) = holds w.left 1

abbrev pub due : Tables → ℕ → Bool
due t i = is_due (wait_of t i)

-- "outcome 20, or 0 for a sleep"
unfoldable pub outcome_due : Option Wait → ℕ
outcome_due none = granted
outcome_due (some w) = cond (is_sleep w.on) granted timed_out

-- a tick less, for a wait that is not forever
unfoldable pub less_one : Option ℕ → Option ℕ
less_one none = none
less_one (some n) = some (n - 1)

unfoldable pub age : Option Wait → Option Wait
age none = none
age (some w) = some (record { on = w.on; left = less_one w.left })

abbrev pub age_all : Tables → Tables
age_all t = with_waits t (map age t.tasks.waits) t.tasks.waiting t.tasks.outcomes

-- "tick: clock plus one. Each wait begun with time t ends at the t-th tick after it"
unfoldable pub tick_of : State → Effect
tick_of s = done
    (with_clock (with_tables s (age_all (end_waits s.tables (due s.tables) (λ i. outcome_due (wait_of s.tables i))))) ((s.clock + 1) % word_size))
    (ended s.tables (due s.tables))
    0

-- "yield: the caller goes to the tail of its level": newly ready, with nobody running
unfoldable pub yield_by : State → ℕ → Effect
yield_by s r = done (placed s none s.ready) (r ∷ []) 0

-- a step that needs a caller; with none running it is refused as 5 and has no effect
unfoldable pub called : State → Option ℕ → (ℕ → Effect) → Effect
called s none f = done s [] 0
called s (some r) f = f r

unfoldable pub effect : State → Step → Effect
effect s (task p) = done (with_tables s (add_task s.tables p)) (task_count s.tables ∷ []) (task_count s.tables)
effect s (mutex k) = done (with_tables s (add_mutex s.tables k)) [] (mutex_count s.tables)
effect s (sem count max) = done (with_tables s (add_sem s.tables count max)) [] (sem_count s.tables)
effect s start = done (with_started s true) [] 0
effect s (lock m t) = called s s.running (λ r. lock_by s m t r (owner_of s.tables m))
effect s (unlock m) = pass_on s m (best_waiter s.tables (mutex_of m))
effect s (pend k t) = called s s.running (pend_by s k t)
effect s (post k) = credit s k (best_waiter s.tables (sem_of k))
effect s (flush k) = flush_of s k
effect s (sleep t) = called s s.running (λ r. caller_waits s r time t 0)
effect s yield = called s s.running (yield_by s)
effect s hold = done (with_hold s (s.hold + 1)) [] 0
effect s free = done (with_hold s (s.hold - 1)) [] 0
effect s tick = tick_of s
effect s (level i) = done s [] (level_of s i)
effect s (outcome i) = done s [] (outcome_of s.tables i)
effect s (queue w d o) = done (with_tables s (add_queue s.tables w d o)) [] (queue_count s.tables)
effect s (send q t m) = called s s.running (send_by s q t m)
effect s (receive q t) = called s s.running (λ r. receive_by s q t r (messages_of s.tables q))
effect s (word i n) = done s [] (get_or (words_of s.tables i) n 0)
