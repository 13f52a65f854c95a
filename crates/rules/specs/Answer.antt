-- What a step is answered: number, value, next state and task to run, for accepted, refused and unsound.
use Rattle.std.specs.Prelude.{Bool, true, cond, ℕ, ltb, leb, length}
use Rattle.std.proofs.Math.Option.{Option, none, some}
use Rattle.lists.specs.Test.{◌and◌}
use Rattle.rules.specs.Sizes.{held_words}
use Rattle.rules.specs.State.{State}
use Rattle.rules.specs.Step.{Step, task, mutex, sem, start, lock, unlock, pend, post, flush, sleep, yield, hold, free, tick, level, outcome, queue, send, receive, word}
use Rattle.rules.specs.Effect.{effect}
use Rattle.rules.specs.Settle.{finish}
use Rattle.rules.specs.Refusal.{Row, refusals, first_row}
use Rattle.rules.specs.Sound.{soundb}

pub record Answer : Type 0 where
  pub state : State
  pub number : ℕ
  pub value : ℕ
  -- the task to run
  pub run : Option ℕ

-- the one place where an answer is put together
abbrev pub answer_with : State → ℕ → ℕ → Option ℕ → Answer
answer_with s k v r = record { state = s; number = k; value = v; run = r }

-- an answer that hands on s, whose running task is the one to run. With a refusal s is the state handed in: "Every number but 0
-- and 1 leaves the state unchanged. The task to run is then the running one as it stands"
abbrev pub answered : State → ℕ → ℕ → Answer
answered s k v = answer_with s k v s.running

-- the step on a sound state, by the first row of its refusals that applies
unfoldable pub decide : State → Step → Option Row → Answer
decide s x (some r) = answered s r.number r.value
decide s x none = answered (finish s (effect s x)) (effect s x).number (effect s x).value

unfoldable pub step_sound : State → Step → Answer
step_sound s x = decide s x (first_row (refusals s x))

-- "where the state handed in isn't sound, it is none, with 14, 15 and 8 alike"
unfoldable pub standing : State → Option ℕ
standing s = cond (soundb s) s.running none

abbrev pub stopped : State → ℕ → Answer
stopped s k = answer_with s k 0 (standing s)

-- 14: "line not of the form below"; document 02, K1: "14 for a send with no word or over 8"
unfoldable pub malformed : State → Answer
malformed s = stopped s 14

unfoldable pub is_formed : Step → Bool
is_formed (task p) = true
is_formed (mutex k) = true
is_formed (sem count max) = true
is_formed start = true
is_formed (lock m t) = true
is_formed (unlock m) = true
is_formed (pend k t) = true
is_formed (post k) = true
is_formed (flush k) = true
is_formed (sleep t) = true
is_formed yield = true
is_formed hold = true
is_formed free = true
is_formed tick = true
is_formed (level i) = true
is_formed (outcome i) = true
is_formed (queue w d o) = true
is_formed (send q t m) = ltb 0 (length m) and leb (length m) held_words
is_formed (receive q t) = true
is_formed (word i n) = true

-- 15: "the state handed in isn't sound"; 14 comes before it
unfoldable pub step : State → Step → Answer
step s x = cond (is_formed x) (cond (soundb s) (step_sound s x) (stopped s 15)) (malformed s)
