-- The log that is still to come of a script under way: of the bytes that are left over, of those that arrive later, and of the end.
use Rattle.std.specs.Prelude.{ℕ, List, [], ◌∷◌, ◌++◌, cond, eqb, length}
use Rattle.arrive.specs.Arrive.{Arrival, arrived}
use Rattle.arrive.specs.Feed.{unended_of}
use Rattle.record.specs.Whole.{Whole}
use Rattle.log_lines.specs.LogLine.{bad_bytes}
use Rattle.script_lines.specs.LineRun.{awaiting}
use Rattle.script.specs.Session.{Script, line_log, line_whole, line_stage, line_in}
use Rattle.script.specs.Pieces.{Underway}

-- what a row of lines puts into the log, and the record and the stage after it
unfoldable pub arrivals_log : Whole → ℕ → List Arrival → List ℕ
arrivals_log h stage [] = []
arrivals_log h stage (e ∷ es) = line_log h stage (line_in e) ++ arrivals_log (line_whole h stage (line_in e)) (line_stage stage (line_in e)) es

unfoldable pub arrivals_whole : Whole → ℕ → List Arrival → Whole
arrivals_whole h stage [] = h
arrivals_whole h stage (e ∷ es) = arrivals_whole (line_whole h stage (line_in e)) (line_stage stage (line_in e)) es

unfoldable pub arrivals_stage : ℕ → List Arrival → ℕ
arrivals_stage stage [] = stage
arrivals_stage stage (e ∷ es) = arrivals_stage (line_stage stage (line_in e)) es

-- what is left to say at the end: `bad` where not even a first line came
unfoldable pub closing : ℕ → List ℕ
closing stage = cond (eqb stage awaiting) bad_bytes []

-- the log that a row of lines comes to, the end included
unfoldable pub all_log : Whole → ℕ → List Arrival → List ℕ
all_log h stage es = arrivals_log h stage es ++ closing (arrivals_stage stage es)

-- the log that is still to come, of a session and its carry: from the bytes `text`, those that arrive later, and the end
unfoldable pub to_come : ℕ → Script → List ℕ → List ℕ → List (List ℕ) → List ℕ
to_come most s carry text later = all_log s.whole s.stage (arrived most (unended_of carry s.held) (text ∷ later))

-- what is still to come between two calls, if nothing but `later` arrives
unfoldable pub comes : Underway → List (List ℕ) → List ℕ
comes u later = to_come (length u.carry) u.session u.carry u.left later
