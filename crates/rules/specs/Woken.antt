-- Who was woken by a step, and the line in which tasks come to run: the words of document 02, K3, for WokenLaws alone.
use Rattle.std.specs.Prelude.{◌≡◌, List, ◌++◌, ℕ, ◌≤◌}
use Rattle.lists.specs.Count.{occ, opt}
use Rattle.rules.specs.State.{State}

-- i waits in s and no longer in t: the step from s to t ended its wait
pub record Woken (s t : State) (i : ℕ) : Type 0 where
  pub waited : 1 ≤ occ i s.tables.tasks.waiting
  pub awake : occ i t.tables.tasks.waiting ≡ 0

-- the running task, where there is one, and behind it the ready order
abbrev pub line_of : State → List ℕ
line_of s = opt s.running ++ s.ready
