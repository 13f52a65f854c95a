-- Demand 3 as a statement over the state record with its words and block, and over `step_by`, which `step`'s contract cites. DemandRecordLaws proves it.
use Rattle.std.specs.Prelude.{◌≡◌, ℕ, ◌*◌, true, cond, List, [], ◌∷◌, length, replicate, nat_le}
use Rattle.std.proofs.Math.Option.{Option, none, some}
use Rattle.rules.specs.State.{fresh}
use Rattle.rules.specs.Step.{Step, task, mutex, sem, start, lock, unlock, pend, post, flush, sleep, yield, hold, free, tick, level, outcome, queue, send, receive, word}
use Rattle.rules.specs.Sizes.{task_places, held_words}
use Rattle.rules.specs.Log.{log_line, Call}
use Rattle.rules.specs.History.{Event}
use Rattle.rules.specs.Demand.{Demand, told}
use Rattle.walks.specs.Walk.{task_at}
use Rattle.record.specs.Record.{view, pack}
use Rattle.record.specs.StepRecord.{number_of, value_of, run_of, After, stays, standing_in, step_of}
use Rattle.record.specs.Whole.{Whole}
use Rattle.record.specs.declared.State.{State}  -- keep
use Rattle.record.specs.declared.Held.{Held}  -- keep
use Rattle.record.specs.declared.Request.{Request}  -- keep
use Rattle.record.specs.declared.Request.TheVariants.{Task, Mutex, Sem, Start, Lock, Unlock, Pend, Post, Flush, Sleep, Yield, Hold, Free, Tick, Level, Outcome, Queue, OwnedQueue, Send, Receive, Word}  -- keep
use Rattle.rules.specs.Answer.{Answer as Ruled}  -- keep

-- "A fresh state is in set-up, with nothing made, clock and hold 0.": its record
unfoldable pub fresh_record : State
fresh_record = pack [] (fresh 0)

-- the same as C holds it, with eight words 0 for each task
unfoldable pub fresh_held : Held
fresh_held = record { state = fresh_record; words = replicate (held_words * task_places) 0 }

-- and with whatever block is lent
unfoldable pub fresh_with : List ℕ → Whole
fresh_with block = record { state = fresh_record; words = replicate (held_words * task_places) 0; block = block }

-- the request of a step, and the message beside it
unfoldable pub request_for : Step → Request
request_for (task p) = Task p
request_for (mutex k) = Mutex k
request_for (sem count max) = Sem count max
request_for start = Start
request_for (lock m t) = Lock m t
request_for (unlock m) = Unlock m
request_for (pend k t) = Pend k t
request_for (post k) = Post k
request_for (flush k) = Flush k
request_for (sleep t) = Sleep t
request_for yield = Yield
request_for hold = Hold
request_for free = Free
request_for tick = Tick
request_for (level i) = Level i
request_for (outcome i) = Outcome i
request_for (queue w d none) = Queue w d
request_for (queue w d (some o)) = OwnedQueue w d o
request_for (send q t m) = Send q t
request_for (receive q t) = Receive q t
request_for (word i n) = Word i n

unfoldable pub message_for : Step → List ℕ
message_for (task p) = []
message_for (mutex k) = []
message_for (sem count max) = []
message_for start = []
message_for (lock m t) = []
message_for (unlock m) = []
message_for (pend k t) = []
message_for (post k) = []
message_for (flush k) = []
message_for (sleep t) = []
message_for yield = []
message_for hold = []
message_for free = []
message_for tick = []
message_for (level i) = []
message_for (outcome i) = []
message_for (queue w d o) = []
message_for (send q t m) = m
message_for (receive q t) = []
message_for (word i n) = []

-- what came back, read as an answer of the rules: number, value, task to run or none, and the state that the record stands for
unfoldable pub read_out : After → Ruled
read_out o = record { state = view o.whole; number = number_of o.answer; value = value_of o.answer; run = task_at (run_of o.answer) }

-- "if the line that would report the answer, accepted or not, its LF included, is longer than the lent memory, the answer is 8, value 0,
-- and the step isn't made": h is what was handed in, o what the step gives
unfoldable pub in_memory : Whole → Option ℕ → After → After
in_memory h none o = o
in_memory h (some room) o = cond (nat_le (length (log_line (read_out o))) room) o (stays h 8 0 (standing_in h))

-- one call: the step, with a log line in lent memory of some length, or with none
unfoldable pub call_record : Whole → Call → After
call_record h c = in_memory h c.room (step_of h (request_for c.made) (message_for c.made))

-- the events of a list of calls, and what is handed on at its end: "every step gets the block as the last one left it"
unfoldable pub events_record : Whole → List Call → List Event
events_record h [] = []
events_record h (c ∷ cs) =
    let o = call_record h c in
    record { made = c.made; number = number_of o.answer; run = task_at (run_of o.answer) } ∷ events_record o.whole cs

unfoldable pub after_record : Whole → List Call → Whole
after_record h [] = h
after_record h (c ∷ cs) = after_record (call_record h c).whole cs

-- what a further call is answered
unfoldable pub answer_record : Whole → Call → Ruled
answer_record h c = read_out (call_record h c)

-- the theorem, which holds of every sound record h with its words and block: over every list of calls from it; it tells what the state that it stands
-- for tells
abbrev pub Demand3RecordFrom : Whole → Type 0
Demand3RecordFrom h = (cs : List Call) → (told (view h) (events_record h cs)).started ≡ true → Demand (told (view h) (events_record h cs)) (answer_record (after_record h cs))

-- and from the fresh record, with any block
abbrev pub Demand3Record : Type 0
Demand3Record = (block : List ℕ) → Demand3RecordFrom (fresh_with block)
