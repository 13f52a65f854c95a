-- The words that tasks hold: a table of eight words a task.
use Rattle.std.specs.Prelude.{ℕ, ◌*◌, List}
use Rattle.rings.specs.Words.{words, laid, padded}

-- the words of a task, and the widest message
abbrev pub eight : ℕ
eight = 8

-- the eight words of task i
abbrev pub held_by : List ℕ → ℕ → List ℕ
held_by t i = words (eight * i) eight t

-- the table where task i holds the message m and then zeros
abbrev pub held : List ℕ → ℕ → List ℕ → List ℕ
held t i m = laid t (eight * i) (padded eight m)
