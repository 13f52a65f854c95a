-- All that a step is made on: the record, the words that tasks hold, and the lent block.
use Rattle.std.specs.Prelude.{ℕ, List}
use Rattle.record.specs.declared.State.{State}  -- keep

pub record Whole : Type 0 where
  pub state : State
  -- eight words for each task
  pub words : List ℕ
  pub block : List ℕ

abbrev pub whole : State → List ℕ → List ℕ → Whole
whole k words block = record { state = k; words = words; block = block }
