-- What `step` gives for every record with its words and block, every request and every message: the definition that its contract cites.
use Rattle.std.specs.Prelude.{ℕ, Bool, cond, List, [], ◌∷◌, ◌++◌, ◌==◌, nat_le, slice_index, slice_set}
use Rattle.std.proofs.Math.Option.{Option, none, some}
use Rattle.rules.specs.Step.{Step, task, mutex, sem, start, lock, unlock, pend, post, flush, sleep, yield, hold, free, tick, level, outcome, queue, send, receive, word}
use Rattle.rules.specs.Tables.{room_in, message_in}
use Rattle.rules.specs.Levels.{best_waiter}
use Rattle.rules.specs.Effect.{sent_by}
use Rattle.rings.specs.Words.{laid}
use Rattle.rings.specs.Ring.{slot_of, spot}
use Rattle.walks.specs.Walk.{task_at}
use Rattle.task_lists.specs.TaskList.{id_of}
use Rattle.record.specs.Record.{ring_at, view_tables, view, pack, pack_words, oldest_in}
use Rattle.record.specs.Whole.{Whole}
use Rattle.record.specs.SoundRecord.{sound_of}
use Rattle.record.specs.declared.State.{State}  -- keep
use Rattle.record.specs.declared.Queues.{Queues}  -- keep
use Rattle.record.specs.declared.Answer.{Answer}  -- keep
use Rattle.record.specs.declared.Out.{Out}  -- keep
use Rattle.record.specs.declared.Answer.TheVariants.{Accepted, Refused}  -- keep
use Rattle.record.specs.declared.Request.{Request}  -- keep
use Rattle.record.specs.declared.Request.TheVariants.{Task, Mutex, Sem, Start, Lock, Unlock, Pend, Post, Flush, Sleep, Yield, Hold, Free, Tick, Level, Outcome, Queue, OwnedQueue, Send, Receive, Word}  -- keep
use Rattle.rules.specs.Answer.{Answer as Ruled, is_formed, step_sound}  -- keep

-- the step that a request stands for, with the message beside it
unfoldable pub step_for : Request → List ℕ → Step
step_for (Task p) m = task p
step_for (Mutex k) m = mutex k
step_for (Sem count max) m = sem count max
step_for Start m = start
step_for (Lock j t) m = lock j t
step_for (Unlock j) m = unlock j
step_for (Pend k t) m = pend k t
step_for (Post k) m = post k
step_for (Flush k) m = flush k
step_for (Sleep t) m = sleep t
step_for Yield m = yield
step_for Hold m = hold
step_for Free m = free
step_for Tick m = tick
step_for (Level i) m = level i
step_for (Outcome i) m = outcome i
step_for (Queue w d) m = queue w d none
step_for (OwnedQueue w d o) m = queue w d (some o)
step_for (Send q t) m = send q t m
step_for (Receive q t) m = receive q t
step_for (Word i n) m = word i n

-- document 01's number, value and task to run, for each case of the answer
unfoldable pub number_of : Answer → ℕ
number_of (Accepted k v r) = k
number_of (Refused k v r) = k

unfoldable pub value_of : Answer → ℕ
value_of (Accepted k v r) = v
value_of (Refused k v r) = v

unfoldable pub run_of : Answer → ℕ
run_of (Accepted k v r) = r
run_of (Refused k v r) = r

-- the one place where an answer is put together: "A step answered 0 or 1 is accepted; any other is refused"
abbrev pub answer_of : ℕ → ℕ → ℕ → Answer
answer_of k v r = cond (nat_le k 1) (Accepted k v r) (Refused k v r)

unfoldable pub answer_for : ℕ → ℕ → Option ℕ → Answer
answer_for k v r = answer_of k v (id_of r)

-- where the oldest messages stand after a step: a receive that took one has moved on by one place; those of a new queue begin at its first
unfoldable pub oldest_for : Queues → Step → ℕ → List ℕ
oldest_for x (task p) number = oldest_in x
oldest_for x (mutex k) number = oldest_in x
oldest_for x (sem count max) number = oldest_in x
oldest_for x start number = oldest_in x
oldest_for x (lock m t) number = oldest_in x
oldest_for x (unlock m) number = oldest_in x
oldest_for x (pend k t) number = oldest_in x
oldest_for x (post k) number = oldest_in x
oldest_for x (flush k) number = oldest_in x
oldest_for x (sleep t) number = oldest_in x
oldest_for x yield number = oldest_in x
oldest_for x hold number = oldest_in x
oldest_for x free number = oldest_in x
oldest_for x tick number = oldest_in x
oldest_for x (level i) number = oldest_in x
oldest_for x (outcome i) number = oldest_in x
oldest_for x (queue w d o) number = cond (number == 0) (oldest_in x ++ (0 ∷ [])) (oldest_in x)
oldest_for x (send q t m) number = oldest_in x
oldest_for x (receive q t) number = cond (number == 0) (slice_set (oldest_in x) q (slot_of (slice_index x.oldest q) (slice_index x.depth q) 1)) (oldest_in x)
oldest_for x (word i n) number = oldest_in x

-- the block after a message went to the tail of q, or to a waiting receiver
unfoldable pub block_sent : Whole → ℕ → List ℕ → Option ℕ → List ℕ
block_sent h q m none = laid h.block (spot (ring_at h.state.queues q) (slice_index h.state.queues.used q)) m
block_sent h q m (some w) = h.block

-- the block after the oldest message of q was taken, and a waiting sender's message went to the place that it left: the tail of a full ring
unfoldable pub block_taken : Whole → ℕ → Option ℕ → List ℕ
block_taken h q none = h.block
block_taken h q (some w) = laid h.block (spot (ring_at h.state.queues q) 0) (sent_by (view_tables h) q w)

-- the block after a step: document 02, K1: "In the block, nothing outside the queue's own words changes."
unfoldable pub block_for : Whole → Step → ℕ → List ℕ
block_for h (task p) number = h.block
block_for h (mutex k) number = h.block
block_for h (sem count max) number = h.block
block_for h start number = h.block
block_for h (lock m t) number = h.block
block_for h (unlock m) number = h.block
block_for h (pend k t) number = h.block
block_for h (post k) number = h.block
block_for h (flush k) number = h.block
block_for h (sleep t) number = h.block
block_for h yield number = h.block
block_for h hold number = h.block
block_for h free number = h.block
block_for h tick number = h.block
block_for h (level i) number = h.block
block_for h (outcome i) number = h.block
block_for h (queue w d o) number = h.block
block_for h (send q t m) number = cond (number == 0) (block_sent h q m (best_waiter (view_tables h) (message_in q))) h.block
block_for h (receive q t) number = cond (number == 0) (block_taken h q (best_waiter (view_tables h) (room_in q))) h.block
block_for h (word i n) number = h.block

-- what comes of a step: record, words and block, and the answer
pub record After : Type 0 where
  pub whole : Whole
  pub answer : Answer

-- what a function hands back of it, where words and block lie in lent memory
abbrev pub out_of : After → Out
out_of a = record { state = a.whole.state; answer = a.answer }

-- the rules' answer to the step x, as a record with its words and block, and an answer beside it
unfoldable pub after_for : Whole → Step → Ruled → After
after_for h x a = record {
  whole = record { state = pack (oldest_for h.state.queues x a.number) a.state; words = pack_words a.state.tables; block = block_for h x a.number };
  answer = answer_for a.number a.value a.run;
}

-- a refusal that leaves everything as it is
unfoldable pub stays : Whole → ℕ → ℕ → Option ℕ → After
stays h number value run = record { whole = h; answer = answer_for number value run }

-- "The task to run is then the running one as it stands; where the state handed in isn't sound, it is none": by what the test says of it
abbrev pub standing_by : Bool → State → Option ℕ
standing_by sound k = cond sound (task_at k.running) none

unfoldable pub standing_in : Whole → Option ℕ
standing_in h = standing_by (sound_of h) h.state

-- 14 for a send with no word or over 8; 15 with no task to run where the record isn't sound; else what the rules answer
unfoldable pub step_by : Whole → Step → After
step_by h x = cond (is_formed x) (cond (sound_of h) (after_for h x (step_sound (view h) x)) (stays h 15 0 none)) (stays h 14 0 (standing_in h))

abbrev pub step_of : Whole → Request → List ℕ → After
step_of h x m = step_by h (step_for x m)
