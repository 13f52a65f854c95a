-- Document 01's whole session, RK0's nested locks, two sessions with queues and two with tasks woken together, computed by the rules from script to log: one table with one claim.
use Rattle.std.specs.Prelude.{◌≡◌, refl, List, [], ◌∷◌, ◌++◌, map, ℕ, replicate}
use Rattle.std.proofs.Math.Option.{Option, none, some}
use Rattle.lists.specs.Test.{◌and◌, ◌or◌, allb, someb, holds}
use Rattle.lists.specs.Count.{eqn, occ}
use Rattle.lists.specs.Order.{keep, range, by_id, place, insert_tail, insert_head, insert_all, stable, ascb, tiesb, first_at, or_else, first_from, before, inside}
use Rattle.lists.specs.Table.{edit, pad}
use Rattle.chains.specs.Chain.{walk, endsb}
use Rattle.chains.specs.Least.{least, leads_to, least_leading}
use Rattle.rules.specs.Tables.{awaited_kind, awaited_object, ticks_of, taken_by}
use Rattle.rules.specs.Levels.{owner_awaited, heir_awaited, of_wait, next, lends, level_in, chain_of, same_awaited, wait_is_for, waiters_of, best_waiter}
use Rattle.rules.specs.State.{State, fresh}
use Rattle.rules.specs.Step.{Step, task, mutex, sem, start, lock, unlock, pend, flush, sleep, yield, hold, free, tick, level, outcome, queue, send, receive, word}
use Rattle.rules.specs.Effect.{held_for, caller_waits, lock_by, pass_on, pend_by, credit, flush_of, deliver, send_by, take_in, receive_by, is_due, outcome_due, less_one, age, tick_of, yield_by, called, effect}
use Rattle.rules.specs.Settle.{settled_ready, meet, dispatch, finish}
use Rattle.rules.specs.Refusal.{of_caller, links_for, refusals, first_row}
use Rattle.rules.specs.Sound.{columnsb, sizesb, rangesb, is_width, is_depth, messagesb, queueb, queuesb, wordsb, clockb, wait_count, waitingb, placesb, ascendingb, unavailableb, leftb, blockedb, timedb, waitersb, timesb, is_own, pastb, suitsb, queuedb, queue_waitsb, existsb, ownersb, no_ringb, countsb, outcomeb, outcomesb, none_in, runsb, holdb, urgent_top, urgentb, set_upb, tablesb, soundb}
use Rattle.rules.specs.Answer.{decide, step_sound, standing, malformed, is_formed, step}

-- "one line for each script line: answer, value, running task or `-`"
pub record Fields : Type 0 where
  pub number : ℕ
  pub value : ℕ
  pub run : Option ℕ

-- a script line and the log line it gets
pub record Line : Type 0 where
  pub made : Step
  pub logged : Fields

abbrev pub line : Step → ℕ → ℕ → Option ℕ → Line
line x k v r = record { made = x; logged = record { number = k; value = v; run = r } }

-- the log of a script, from a state on: each step is made on the state that the one before it left
unfoldable pub replay : State → List Step → List Fields
replay s [] = []
replay s (x ∷ xs) =
    let a = step s x in
    record { number = a.number; value = a.value; run = a.run } ∷ replay a.state xs

-- "Whole session (tabs shown as spaces), script left, log right"; its first line is the two headers and no step
session : List Line
session =
    line (task 5) 0 0 none ∷
    line (task 3) 0 1 none ∷
    line (task 1) 0 2 none ∷
    line (mutex 1) 0 0 none ∷
    line start 0 0 (some 2) ∷
    line (sleep 3) 1 0 (some 1) ∷
    line (sleep 2) 1 0 (some 0) ∷
    line (lock 0 0) 0 0 (some 0) ∷
    line tick 0 0 (some 0) ∷
    line tick 0 0 (some 1) ∷
    line tick 0 0 (some 2) ∷
    line (lock 0 10) 1 1 (some 0) ∷
    line (level 0) 0 1 (some 0) ∷
    line (unlock 0) 0 0 (some 2) ∷
    []

-- source document 002's nested locks: "TM inherits TH's priority. TL inherits TH's priority via TM.", and "tasks leave the nested lock
-- ordered by their nominal priority"; TH, TM and TL are tasks 0, 1 and 2, its mutexes A and B are 0 and 1
nested_locks : List Line
nested_locks =
    line (task 1) 0 0 none ∷
    line (task 2) 0 1 none ∷
    line (task 3) 0 2 none ∷
    line (mutex 1) 0 0 none ∷
    line (mutex 1) 0 1 none ∷
    line start 0 0 (some 0) ∷
    line (sleep 2) 1 0 (some 1) ∷
    line (sleep 1) 1 0 (some 2) ∷
    line (lock 0 4294967295) 0 0 (some 2) ∷
    line (level 2) 0 3 (some 2) ∷
    line tick 0 0 (some 1) ∷
    line (lock 1 4294967295) 0 0 (some 1) ∷
    line (level 1) 0 2 (some 1) ∷
    line (lock 0 4294967295) 1 1 (some 2) ∷
    line (level 2) 0 2 (some 2) ∷
    line tick 0 0 (some 0) ∷
    line (lock 1 4294967295) 1 2 (some 2) ∷
    line (level 1) 0 1 (some 2) ∷
    line (level 2) 0 1 (some 2) ∷
    (replicate 58 (line tick 0 0 (some 2)) ++ (
    line (level 2) 0 1 (some 2) ∷
    line (unlock 0) 0 0 (some 1) ∷
    line (level 1) 0 1 (some 1) ∷
    line (level 2) 0 3 (some 1) ∷
    line (unlock 0) 0 0 (some 1) ∷
    line (level 1) 0 1 (some 1) ∷
    line (unlock 1) 0 0 (some 0) ∷
    line (level 0) 0 1 (some 0) ∷
    line (level 1) 0 2 (some 0) ∷
    line (unlock 1) 0 0 (some 0) ∷
    line (sleep 2) 1 0 (some 1) ∷
    line (level 1) 0 2 (some 1) ∷
    line (sleep 5) 1 0 (some 2) ∷
    line (level 2) 0 3 (some 2) ∷
    []))

-- document 02, K1: "A message goes to the best waiting receiver, else to the tail; a receive that makes room takes in the best waiting sender's message."
room_order : List Line
room_order =
    line (task 8) 0 0 none ∷
    line (task 6) 0 1 none ∷
    line (task 3) 0 2 none ∷
    line (queue 1 2 none) 0 0 none ∷
    line start 0 0 (some 2) ∷
    line (sleep 2) 1 0 (some 1) ∷
    line (send 0 0 (1 ∷ [])) 0 0 (some 1) ∷
    line (send 0 0 (2 ∷ [])) 0 0 (some 1) ∷
    line (send 0 9 (3 ∷ [])) 1 0 (some 0) ∷
    line tick 0 0 (some 0) ∷
    line tick 0 0 (some 2) ∷
    line (send 0 9 (4 ∷ [])) 1 0 (some 0) ∷
    line (level 0) 0 8 (some 0) ∷
    line (receive 0 0) 0 0 (some 2) ∷
    line (word 0 0) 0 1 (some 2) ∷
    line (outcome 2) 0 0 (some 2) ∷
    line (sleep 9) 1 0 (some 0) ∷
    line (receive 0 0) 0 0 (some 1) ∷
    line (word 0 0) 0 2 (some 1) ∷
    line (sleep 9) 1 0 (some 0) ∷
    line (receive 0 0) 0 0 (some 0) ∷
    line (word 0 0) 0 4 (some 0) ∷
    line (receive 0 0) 0 0 (some 0) ∷
    line (word 0 0) 0 3 (some 0) ∷
    line (receive 0 0) 3 0 (some 0) ∷
    []

-- document 02, K1: "waiting senders lend it their level; chains, rings, links (send's too) .. read a sender's wait there as one on an inheriting mutex"
mixed_chain : List Line
mixed_chain =
    line (task 9) 0 0 none ∷
    line (task 5) 0 1 none ∷
    line (task 2) 0 2 none ∷
    line (mutex 1) 0 0 none ∷
    line (queue 1 1 (some 0)) 0 0 none ∷
    line start 0 0 (some 2) ∷
    line (sleep 2) 1 0 (some 1) ∷
    line (send 0 0 (8 ∷ [])) 0 0 (some 1) ∷
    line (lock 0 0) 0 0 (some 1) ∷
    line (send 0 4294967295 (9 ∷ [])) 1 1 (some 0) ∷
    line (level 0) 0 5 (some 0) ∷
    line tick 0 0 (some 0) ∷
    line tick 0 0 (some 2) ∷
    line (lock 0 9) 1 2 (some 0) ∷
    line (level 0) 0 2 (some 0) ∷
    line (level 1) 0 2 (some 0) ∷
    line (lock 0 0) 3 0 (some 0) ∷
    line hold 0 0 (some 0) ∷
    line (lock 0 5) 11 0 (some 0) ∷
    line free 0 0 (some 0) ∷
    line (lock 0 5) 12 1 (some 0) ∷
    line (receive 0 0) 0 0 (some 1) ∷
    line (level 0) 0 9 (some 1) ∷
    line (level 1) 0 2 (some 1) ∷
    line (word 0 0) 0 8 (some 1) ∷
    line (outcome 1) 0 0 (some 1) ∷
    line (send 0 0 (1 ∷ [])) 3 0 (some 1) ∷
    line (receive 0 0) 10 0 (some 1) ∷
    line (unlock 0) 0 0 (some 2) ∷
    line (level 1) 0 5 (some 2) ∷
    line (outcome 2) 0 0 (some 2) ∷
    []

-- document 02, K3: "They are to enter in the order in which their waits began": tasks 2, 0 and 1 of one level wake on the same tick
woken_by_tick : List Line
woken_by_tick =
    line (task 4) 0 0 none ∷
    line (task 4) 0 1 none ∷
    line (task 4) 0 2 none ∷
    line (task 6) 0 3 none ∷
    line start 0 0 (some 0) ∷
    line yield 0 0 (some 1) ∷
    line yield 0 0 (some 2) ∷
    line (sleep 3) 1 0 (some 0) ∷
    line tick 0 0 (some 0) ∷
    line (sleep 2) 1 0 (some 1) ∷
    line (sleep 2) 1 0 (some 3) ∷
    line tick 0 0 (some 3) ∷
    line tick 0 0 (some 2) ∷
    line (sleep 9) 1 0 (some 0) ∷
    line (sleep 9) 1 0 (some 1) ∷
    []

-- "for ticks and for flush alike": tasks 3 and 1 of one level, and 2 and 0 of another
woken_by_flush : List Line
woken_by_flush =
    line (task 4) 0 0 none ∷
    line (task 3) 0 1 none ∷
    line (task 4) 0 2 none ∷
    line (task 3) 0 3 none ∷
    line (sem 0 9) 0 0 none ∷
    line start 0 0 (some 1) ∷
    line yield 0 0 (some 3) ∷
    line (pend 0 4294967295) 1 0 (some 1) ∷
    line (pend 0 7) 1 0 (some 0) ∷
    line yield 0 0 (some 2) ∷
    line (pend 0 7) 1 0 (some 0) ∷
    line (pend 0 7) 1 0 none ∷
    line (flush 0) 0 0 (some 3) ∷
    line (sleep 9) 1 0 (some 1) ∷
    line (outcome 1) 0 21 (some 1) ∷
    line (sleep 9) 1 0 (some 2) ∷
    line (sleep 9) 1 0 (some 0) ∷
    line (pend 0 0) 3 0 (some 0) ∷
    []

-- document 02, K1: "scripts are run with a block of 4096 words"
abbrev script_block : ℕ
script_block = 4096

pub cases : List (List Line)
cases = session ∷ nested_locks ∷ room_order ∷ mixed_chain ∷ woken_by_tick ∷ woken_by_flush ∷ []

-- from a fresh state, the rules give each script the log beside it; unfolded is all that a step is made of, its test of soundness included
pub cases_agree : map (λ c. replay (fresh script_block) (map (λ l. l.made) c)) cases ≡ map (λ c. map (λ l. l.logged) c) cases
unfolding cases session nested_locks room_order mixed_chain woken_by_tick woken_by_flush replay ◌and◌ ◌or◌ allb someb holds eqn occ keep range by_id place insert_tail insert_head insert_all stable ascb tiesb
    first_at or_else first_from before inside edit walk endsb least leads_to least_leading awaited_kind awaited_object owner_awaited heir_awaited of_wait next lends level_in chain_of
    same_awaited wait_is_for waiters_of best_waiter fresh ticks_of caller_waits lock_by pass_on pend_by credit flush_of is_due outcome_due less_one age
    tick_of yield_by called effect settled_ready meet dispatch finish of_caller links_for refusals first_row columnsb sizesb rangesb clockb wait_count
    waitingb placesb ascendingb unavailableb leftb blockedb timedb waitersb timesb existsb ownersb no_ringb countsb outcomeb outcomesb none_in runsb
    holdb urgent_top urgentb set_upb tablesb soundb decide step_sound standing malformed is_formed step is_width is_depth messagesb queueb queuesb wordsb is_own pastb suitsb
    queuedb queue_waitsb taken_by pad held_for deliver send_by take_in receive_by
cases_agree = refl
