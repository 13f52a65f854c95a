-- The steps, task to outcome, with their numbers, and those of document 02.
use Rattle.std.specs.Prelude.{List, ℕ}
use Rattle.std.proofs.Math.Option.{Option}

pub data Step : Type 0 where
  -- task p, mutex k
  task mutex : ℕ → Step
  -- sem count max
  sem : ℕ → ℕ → Step
  start : Step
  -- lock m t
  lock : ℕ → ℕ → Step
  unlock : ℕ → Step
  -- pend s t
  pend : ℕ → ℕ → Step
  post flush sleep : ℕ → Step
  yield : Step
  -- document 01's terms "hold" and "free": "depth up or down by one". The field says that the scheduler is locked and unlocked; the locks
  -- nest, and "hold depth" counts them.
  hold free : Step
  tick : Step
  -- level i, outcome i: "the value; any phase"
  -- document 01's term "level": the field's effective priority of a task (Levels).
  -- document 01's term "outcome": what the last wait of a task came to, 1 while it waits and 0 before its first ("outcomes 0, 1, 20 or 21, and
  -- 1 exactly for waiting tasks"; Sizes names them).
  level outcome : ℕ → Step
  -- document 02, K1: queue w d, queue w d owner
  queue : ℕ → ℕ → Option ℕ → Step
  -- send q t and the message's words
  send : ℕ → ℕ → List ℕ → Step
  -- receive q t
  receive : ℕ → ℕ → Step
  -- word i n: "allowed as `level` is"
  word : ℕ → ℕ → Step
