-- "Both sides of each edge", P1 to P12, and a few more edges, computed over `step_of`, the definition that `step`'s contract cites: one table, one claim.
use Rattle.std.specs.Prelude.{◌≡◌, ℕ, List, [], ◌∷◌, ◌++◌, map, replicate, refl}
use Rattle.std.proofs.Math.Option.{Option, none, some}
use Rattle.lists.specs.Test.{◌and◌, ◌or◌, allb, someb, holds}
use Rattle.lists.specs.Count.{eqn, occ}
use Rattle.lists.specs.Order.{keep, range, by_id, place, insert_tail, insert_head, insert_all, stable, ascb, tiesb, first_at, or_else, first_from, before, inside}
use Rattle.lists.specs.Table.{edit, pad, filled}
use Rattle.chains.specs.Chain.{walk, endsb}
use Rattle.chains.specs.Least.{least, leads_to, least_leading}
use Rattle.rules.specs.Tables.{awaited_kind, awaited_object, ticks_of, taken_by}
use Rattle.rules.specs.Levels.{owner_awaited, heir_awaited, of_wait, next, lends, level_in, chain_of, same_awaited, wait_is_for, waiters_of, best_waiter}
use Rattle.rules.specs.Step.{task, start}
use Rattle.rules.specs.Effect.{held_for, caller_waits, lock_by, pass_on, pend_by, credit, flush_of, deliver, send_by, take_in, receive_by, is_due, outcome_due, less_one, age, tick_of, yield_by, called, effect}
use Rattle.rules.specs.Settle.{settled_ready, meet, dispatch, finish}
use Rattle.rules.specs.Refusal.{of_caller, links_for, refusals, first_row}
use Rattle.rules.specs.Sound.{columnsb, sizesb, rangesb, is_width, is_depth, messagesb, queueb, queuesb, wordsb, clockb, wait_count, waitingb, placesb, ascendingb, unavailableb, leftb, blockedb, timedb, waitersb, timesb, is_own, pastb, suitsb, queuedb, queue_waitsb, existsb, ownersb, no_ringb, countsb, outcomeb, outcomesb, none_in, runsb, holdb, urgent_top, urgentb, set_upb, tablesb, soundb}
use Rattle.rules.specs.Vectors.{Fields}
use Rattle.task_lists.specs.TaskList.{task_list_of, id_of}
use Rattle.walks.specs.Walk.{task_at}
use Rattle.record.specs.Record.{awaited_by, left_in, wait_with, wait_at, view_tables, view, left_code, kind_code, object_code, timed_code, due_code, pack_tasks, pack_mutexes, pack_semaphores, pack_queues, pack, joined, pack_words}
use Rattle.record.specs.Whole.{Whole}
use Rattle.record.specs.Layout.{packed}
use Rattle.rings.specs.Ring.{slot_of}
use Rattle.rings.specs.Starts.{start_of}
use Rattle.record.specs.SoundRecord.{is_object_wait, used_taskb, unused_taskb, task_placeb, tasks_tidyb, mutex_placeb, mutexes_tidyb, sem_placeb, semaphores_tidyb, queue_placeb, queues_tidyb, words_tidyb, task_list_tidyb, tidyb, levelsb, sound_of}
use Rattle.record.specs.StepRecord.{step_for, number_of, value_of, run_of, answer_for, oldest_for, block_sent, block_taken, block_for, after_for, stays, standing_in, step_by, step_of}
use Rattle.record.specs.DemandRecord.{fresh_record, fresh_with}
use Rattle.record.specs.declared.Request.{Request}  -- keep
use Rattle.record.specs.declared.Request.TheVariants.{Task, Mutex, Sem, Start, Lock, Unlock, Pend, Post, Flush, Sleep, Yield, Hold, Free, Tick, Level, Outcome, Queue, OwnedQueue, Send, Receive, Word}  -- keep
use Rattle.rules.specs.State.{fresh, with_clock, with_hold}  -- keep
use Prim.Native.String.{String}  -- keep
use Rattle.rules.specs.Answer.{decide, step_sound, is_formed}  -- keep

-- a request with the message beside it, and the answer's number, value and task to run
pub record Asked : Type 0 where
  pub request : Request
  pub message : List ℕ
  pub answered : Fields

abbrev pub gets_with : Request → List ℕ → ℕ → ℕ → Option ℕ → Asked
gets_with x m k v r = record { request = x; message = m; answered = record { number = k; value = v; run = r } }

abbrev pub gets : Request → ℕ → ℕ → Option ℕ → Asked
gets x = gets_with x []

-- a row: the record to start from, the requests in their order with the answer due to each, and the clock at the end
pub record Edge : Type 0 where
  pub name : String
  pub from : Whole
  pub asked : List Asked
  pub clock : ℕ

abbrev pub edge : String → Whole → ℕ → List Asked → Edge
edge name k clock l = record { name = name; from = k; asked = l; clock = clock }

-- answers, and the clock at the end
pub record Played : Type 0 where
  pub answers : List Fields
  pub clock : ℕ

-- what `step` gives: each request is made on the record that the one before it left
unfoldable pub played : Whole → List Asked → Played
played h [] = record { answers = []; clock = h.state.clock }
played h (x ∷ xs) =
    let o = step_of h x.request x.message in
    let rest = played o.whole xs in
    record { answers = record { number = number_of o.answer; value = value_of o.answer; run = task_at (run_of o.answer) } ∷ rest.answers; clock = rest.clock }

unfoldable pub given_in : Edge → Played
given_in e = played e.from e.asked

-- what is due
unfoldable pub due_in : Edge → Played
due_in e = record { answers = map (λ a. a.answered) e.asked; clock = e.clock }

-- the record of a started state with one task, at some clock and hold depth; that it is sound is seen from the answers: none is 15
unfoldable pub started_at : ℕ → ℕ → Whole
started_at clock depth = packed [] [] (with_hold (with_clock (step_sound (step_sound (fresh 0) (task 5)).state start).state clock) depth)

-- what P7 and P8 share, mutex 0 of kind k: until task 2 locks mutex 1 for a time t; before, task 0 has the level l
abbrev nested : ℕ → ℕ → ℕ → List Asked → List Asked
nested k t l rest =
    gets (Task 9) 0 0 none ∷
    gets (Task 5) 0 1 none ∷
    gets (Task 2) 0 2 none ∷
    gets (Mutex k) 0 0 none ∷
    gets (Mutex 1) 0 1 none ∷
    gets Start 0 0 (some 2) ∷
    gets (Sleep 2) 1 0 (some 1) ∷
    gets (Sleep 1) 1 0 (some 0) ∷
    gets (Lock 0 0) 0 0 (some 0) ∷
    gets Tick 0 0 (some 1) ∷
    gets (Lock 1 0) 0 0 (some 1) ∷
    gets (Lock 0 4294967295) 1 1 (some 0) ∷
    gets (Level 0) 0 l (some 0) ∷
    gets (Level 1) 0 5 (some 0) ∷
    gets Tick 0 0 (some 2) ∷
    gets (Lock 1 t) 1 2 (some 0) ∷
    rest

pub edge_table : List Edge
edge_table =
    -- "fresh, tick: 4"
    edge "P1" (fresh_with []) 0 (
    gets Tick 4 0 none ∷
    []) ∷
    -- "start with no task: 0, `-`; then yield: 5"
    edge "P2" (fresh_with []) 0 (
    gets Start 0 0 none ∷
    gets Yield 5 0 none ∷
    []) ∷
    -- "priority 31: 0; 32: 7"
    edge "P3" (fresh_with []) 0 (
    gets (Task 31) 0 0 none ∷
    gets (Task 32) 7 0 none ∷
    []) ∷
    -- "sixteenth task: 0; seventeenth: 8"
    edge "P4" (fresh_with []) 0 (map (λ i. gets (Task 5) 0 i none) (range 16) ++ (
    gets (Task 5) 8 0 none ∷
    [])) ∷
    -- "lock a mutex one owns: 9, also with time 0"
    edge "P5" (fresh_with []) 0 (
    gets (Task 5) 0 0 none ∷
    gets (Mutex 1) 0 0 none ∷
    gets Start 0 0 (some 0) ∷
    gets (Lock 0 5) 0 0 (some 0) ∷
    gets (Lock 0 5) 9 0 (some 0) ∷
    gets (Lock 0 0) 9 0 (some 0) ∷
    []) ∷
    -- "A owns 0; B owns 1 and waits for 0; A locks 1 with time 5: 12, value 1; with time 0: 3"
    edge "P6" (fresh_with []) 0 (
    gets (Task 5) 0 0 none ∷
    gets (Task 5) 0 1 none ∷
    gets (Mutex 1) 0 0 none ∷
    gets (Mutex 1) 0 1 none ∷
    gets Start 0 0 (some 0) ∷
    gets (Lock 0 0) 0 0 (some 0) ∷
    gets Yield 0 0 (some 1) ∷
    gets (Lock 1 0) 0 0 (some 1) ∷
    gets (Lock 0 4294967295) 1 1 (some 0) ∷
    gets (Lock 1 5) 12 1 (some 0) ∷
    gets (Lock 1 0) 3 0 (some 0) ∷
    []) ∷
    -- "tasks of priority 9, 5, 2; the first owns inheriting 0, the second owns inheriting 1 and waits for 0, the third locks 1: links 2,
    -- first's level 2"
    edge "P7" (fresh_with []) 2 (nested 1 4294967295 5 (
    gets (Level 0) 0 2 (some 0) ∷
    gets (Level 1) 0 2 (some 0) ∷
    [])) ∷
    -- "as P7 with mutex 0 plain: links 2, first's level 9, second's 2"
    edge "P8" (fresh_with []) 2 (nested 0 4294967295 9 (
    gets (Level 0) 0 9 (some 0) ∷
    gets (Level 1) 0 2 (some 0) ∷
    [])) ∷
    -- "clock 4294967294, sleep 3: ends when the clock is 1": at clock 0 it still waits, and at 1 it runs, with outcome 0
    edge "P9" (started_at 4294967294 0) 0 (
    gets (Sleep 3) 1 0 none ∷
    gets Tick 0 0 none ∷
    gets Tick 0 0 none ∷
    gets (Outcome 0) 0 1 none ∷
    []) ∷
    edge "P9" (started_at 4294967294 0) 1 (
    gets (Sleep 3) 1 0 none ∷
    gets Tick 0 0 none ∷
    gets Tick 0 0 none ∷
    gets Tick 0 0 (some 0) ∷
    gets (Outcome 0) 0 0 (some 0) ∷
    []) ∷
    -- "sem 1 1, start, post: 2"
    edge "P10" (fresh_with []) 0 (
    gets (Sem 1 1) 0 0 none ∷
    gets Start 0 0 none ∷
    gets (Post 0) 2 0 none ∷
    []) ∷
    -- "held, taken mutex: time 5 gives 11, time 0 gives 3"; freed, it waits
    edge "P11" (fresh_with []) 0 (
    gets (Task 5) 0 0 none ∷
    gets (Task 5) 0 1 none ∷
    gets (Mutex 1) 0 0 none ∷
    gets Start 0 0 (some 0) ∷
    gets (Lock 0 0) 0 0 (some 0) ∷
    gets Yield 0 0 (some 1) ∷
    gets Hold 0 0 (some 1) ∷
    gets (Lock 0 5) 11 0 (some 1) ∷
    gets (Lock 0 0) 3 0 (some 1) ∷
    gets Free 0 0 (some 1) ∷
    gets (Lock 0 5) 1 1 (some 0) ∷
    []) ∷
    -- "tasks 4, 4, 1: task 2 sleeps 1, task 0 runs, tick, task 2 sleeps again: task 0 runs, not 1"
    edge "P12" (fresh_with []) 1 (
    gets (Task 4) 0 0 none ∷
    gets (Task 4) 0 1 none ∷
    gets (Task 1) 0 2 none ∷
    gets Start 0 0 (some 2) ∷
    gets (Sleep 1) 1 0 (some 0) ∷
    gets Tick 0 0 (some 2) ∷
    gets (Sleep 1) 1 0 (some 0) ∷
    []) ∷
    -- "every waiter becomes ready with outcome 21; the count stays"
    edge "flush" (fresh_with []) 0 (
    gets (Task 3) 0 0 none ∷
    gets (Task 5) 0 1 none ∷
    gets (Sem 0 1) 0 0 none ∷
    gets Start 0 0 (some 0) ∷
    gets (Pend 0 4294967295) 1 0 (some 1) ∷
    gets (Outcome 0) 0 1 (some 1) ∷
    gets (Flush 0) 0 0 (some 0) ∷
    gets (Outcome 0) 0 21 (some 0) ∷
    gets (Pend 0 0) 3 0 (some 0) ∷
    []) ∷
    -- "outcome 20"; "a waiter timing out lowers every owner up its chain"
    edge "time-out" (fresh_with []) 4 (nested 1 2 5 (
    gets Tick 0 0 (some 0) ∷
    gets (Level 0) 0 2 (some 0) ∷
    gets (Outcome 2) 0 1 (some 0) ∷
    gets Tick 0 0 (some 2) ∷
    gets (Outcome 2) 0 20 (some 2) ∷
    gets (Level 0) 0 5 (some 2) ∷
    gets (Level 1) 0 5 (some 2) ∷
    [])) ∷
    -- "takes one credit if the count is above 0", "else the count rises by one"
    edge "count" (fresh_with []) 0 (
    gets (Task 5) 0 0 none ∷
    gets (Sem 1 1) 0 0 none ∷
    gets Start 0 0 (some 0) ∷
    gets (Pend 0 0) 0 0 (some 0) ∷
    gets (Pend 0 0) 3 0 (some 0) ∷
    gets (Post 0) 0 0 (some 0) ∷
    gets (Post 0) 2 0 (some 0) ∷
    gets (Pend 0 5) 0 0 (some 0) ∷
    gets (Pend 0 5) 1 0 none ∷
    gets (Post 0) 0 0 (some 0) ∷
    gets (Outcome 0) 0 0 (some 0) ∷
    gets (Pend 0 0) 3 0 (some 0) ∷
    []) ∷
    -- "hold at 255, free at 0"
    edge "free" (started_at 0 1) 0 (
    gets Free 0 0 (some 0) ∷
    gets Free 13 0 (some 0) ∷
    []) ∷
    edge "hold" (started_at 0 254) 0 (
    gets Hold 0 0 (some 0) ∷
    gets Hold 13 0 (some 0) ∷
    []) ∷
    -- "t is 1 to 2147483647"
    edge "time" (started_at 0 0) 0 (
    gets (Sleep 0) 7 0 (some 0) ∷
    gets (Sleep 2147483648) 7 0 (some 0) ∷
    gets (Sleep 2147483647) 1 0 none ∷
    []) ∷
    -- "ready tasks whose level changed go, by ascending id, to the tail of their new level; newly ready tasks go [..] to the tail of theirs": at
    -- the last tick task 2 falls to level 5, where task 1 stands, and task 0 wakes
    edge "order" (fresh_with []) 3 (
    gets (Task 5) 0 0 none ∷
    gets (Task 5) 0 1 none ∷
    gets (Task 5) 0 2 none ∷
    gets (Task 3) 0 3 none ∷
    gets (Task 1) 0 4 none ∷
    gets (Mutex 1) 0 0 none ∷
    gets Start 0 0 (some 4) ∷
    gets (Sleep 1) 1 0 (some 3) ∷
    gets (Sleep 1) 1 0 (some 0) ∷
    gets (Sleep 3) 1 0 (some 1) ∷
    gets Yield 0 0 (some 2) ∷
    gets (Lock 0 0) 0 0 (some 2) ∷
    gets Tick 0 0 (some 4) ∷
    gets (Sleep 1) 1 0 (some 3) ∷
    gets (Lock 0 2) 1 1 (some 2) ∷
    gets Tick 0 0 (some 4) ∷
    gets Tick 0 0 (some 4) ∷
    gets (Outcome 3) 0 20 (some 4) ∷
    gets (Level 2) 0 5 (some 4) ∷
    gets (Sleep 9) 1 0 (some 3) ∷
    gets (Sleep 9) 1 0 (some 1) ∷
    gets (Sleep 9) 1 0 (some 2) ∷
    gets (Sleep 9) 1 0 (some 0) ∷
    []) ∷
    -- document 02, K3: "They are to enter in the order in which their waits began, for ticks and for flush alike": task 1 waits first each
    -- time, and then task 0
    edge "K3 woken together" (fresh_with []) 2 (
    gets (Task 5) 0 0 none ∷
    gets (Task 5) 0 1 none ∷
    gets (Sem 0 1) 0 0 none ∷
    gets Start 0 0 (some 0) ∷
    gets Yield 0 0 (some 1) ∷
    gets (Sleep 2) 1 0 (some 0) ∷
    gets (Pend 0 2) 1 0 none ∷
    gets Tick 0 0 none ∷
    gets Tick 0 0 (some 1) ∷
    gets (Pend 0 9) 1 0 (some 0) ∷
    gets (Pend 0 9) 1 0 none ∷
    gets (Flush 0) 0 0 (some 1) ∷
    gets Yield 0 0 (some 0) ∷
    []) ∷
    -- "ownership passes to the best waiter, which becomes ready with outcome 0"
    edge "unlock" (fresh_with []) 1 (
    gets (Task 5) 0 0 none ∷
    gets (Task 3) 0 1 none ∷
    gets (Mutex 1) 0 0 none ∷
    gets Start 0 0 (some 1) ∷
    gets (Sleep 1) 1 0 (some 0) ∷
    gets (Lock 0 0) 0 0 (some 0) ∷
    gets Tick 0 0 (some 1) ∷
    gets (Lock 0 9) 1 1 (some 0) ∷
    gets (Outcome 1) 0 1 (some 0) ∷
    gets (Unlock 0) 0 0 (some 1) ∷
    gets (Outcome 1) 0 0 (some 1) ∷
    []) ∷
    -- document 02, K1: a sender stuck behind the owner lends it its level; "a receive that makes room takes in the best waiting sender's message"
    edge "K1 stuck sender" (fresh_with (replicate 4 0)) 1 (
    gets (Task 5) 0 0 none ∷
    gets (Task 2) 0 1 none ∷
    gets (OwnedQueue 1 2 0) 0 0 none ∷
    gets (Queue 2 1) 0 1 none ∷
    gets (Queue 1 1) 8 0 none ∷
    gets Start 0 0 (some 1) ∷
    gets_with (Send 0 5) [] 14 0 (some 1) ∷
    gets_with (Send 0 5) (7 ∷ []) 0 0 (some 1) ∷
    gets_with (Send 0 5) (8 ∷ []) 0 0 (some 1) ∷
    gets_with (Send 0 0) (9 ∷ []) 3 0 (some 1) ∷
    gets_with (Send 0 5) (9 ∷ 9 ∷ []) 7 0 (some 1) ∷
    gets (Receive 0 5) 10 0 (some 1) ∷
    gets_with (Send 0 5) (9 ∷ []) 1 1 (some 0) ∷
    gets (Level 0) 0 2 (some 0) ∷
    gets_with (Send 0 5) (6 ∷ []) 9 0 (some 0) ∷
    gets (Receive 0 0) 0 0 (some 1) ∷
    gets (Word 0 0) 0 7 (some 1) ∷
    gets (Outcome 1) 0 0 (some 1) ∷
    gets (Word 1 0) 0 9 (some 1) ∷
    gets (Sleep 1) 1 0 (some 0) ∷
    gets (Level 0) 0 5 (some 0) ∷
    gets (Receive 0 0) 0 0 (some 0) ∷
    gets (Receive 0 0) 0 0 (some 0) ∷
    gets (Word 0 0) 0 9 (some 0) ∷
    gets (Receive 0 0) 3 0 (some 0) ∷
    gets (Word 0 8) 7 0 (some 0) ∷
    gets Tick 0 0 (some 1) ∷
    []) ∷
    -- "chains, rings": through a mutex and a queue
    edge "K1 ring" (fresh_with (replicate 1 0)) 1 (
    gets (Task 5) 0 0 none ∷
    gets (Task 2) 0 1 none ∷
    gets (Mutex 0) 0 0 none ∷
    gets (OwnedQueue 1 1 0) 0 0 none ∷
    gets Start 0 0 (some 1) ∷
    gets (Lock 0 0) 0 0 (some 1) ∷
    gets_with (Send 0 5) (7 ∷ []) 0 0 (some 1) ∷
    gets (Sleep 1) 1 0 (some 0) ∷
    gets (Lock 0 9) 1 1 none ∷
    gets Tick 0 0 (some 1) ∷
    gets_with (Send 0 5) (7 ∷ []) 12 1 (some 1) ∷
    []) ∷
    []

-- `step` gives each row what is due to it; unfolded is all that it is made of, its test of soundness included
pub edges_hold : map given_in edge_table ≡ map due_in edge_table
unfolding edge_table given_in due_in played started_at fresh_record fresh_with step_by standing_in sound_of tidyb levelsb tasks_tidyb task_placeb used_taskb unused_taskb mutexes_tidyb mutex_placeb
    semaphores_tidyb sem_placeb task_list_tidyb step_for number_of value_of run_of answer_for after_for oldest_for block_sent block_taken block_for stays view view_tables wait_at wait_with awaited_by left_in pack pack_tasks
    pack_mutexes pack_semaphores awaited_kind awaited_object left_code kind_code object_code timed_code due_code task_list_of id_of pad filled
    ◌and◌ ◌or◌ allb someb holds eqn occ keep range by_id place insert_tail insert_head insert_all stable ascb tiesb
    first_at or_else first_from before inside edit walk endsb least leads_to least_leading owner_awaited heir_awaited of_wait next lends level_in chain_of
    same_awaited wait_is_for waiters_of best_waiter fresh ticks_of caller_waits lock_by pass_on pend_by credit flush_of is_due outcome_due less_one age
    tick_of yield_by called effect settled_ready meet dispatch finish of_caller links_for refusals first_row columnsb sizesb rangesb clockb wait_count
    waitingb placesb ascendingb unavailableb leftb blockedb timedb waitersb timesb existsb ownersb no_ringb countsb outcomeb outcomesb none_in runsb
    holdb urgent_top urgentb set_upb tablesb soundb decide step_sound is_formed is_width is_depth messagesb queueb queuesb wordsb is_own pastb suitsb queuedb queue_waitsb
    taken_by held_for deliver send_by take_in receive_by pack_queues pack_words joined is_object_wait queue_placeb queues_tidyb words_tidyb slot_of start_of
edges_hold = refl
