-- The whole log of a whole script, any bytes, run with a lent block, and the record that it leaves with its words and block.
use Rattle.std.specs.Prelude.{ℕ, List, [], ◌∷◌, ◌++◌, cond}
use Rattle.std.proofs.Math.Option.{Option, none, some}
use Rattle.text.specs.Lines.{lines}
use Rattle.rules.specs.Step.{Step}
use Rattle.rules.specs.Log.{Call}
use Rattle.record.specs.Whole.{Whole}
use Rattle.record.specs.DemandRecord.{fresh_with}
use Rattle.words.specs.Form.{same_bytes, step_on}
use Rattle.log_lines.specs.LogLine.{log_bytes, bad_bytes}
use Rattle.words.specs.Form.{header_bytes}
use Rattle.script_lines.specs.LineRun.{line_answered, line_for}

-- "one line for each script line": each is run on the record that the one before it left, with its words and block
unfoldable pub log_from : Whole → List (List ℕ) → List ℕ
log_from h [] = []
log_from h (l ∷ ls) = line_for (line_answered h (step_on l)).answer ++ log_from (line_answered h (step_on l)).whole ls

unfoldable pub record_from : Whole → List (List ℕ) → Whole
record_from h [] = h
record_from h (l ∷ ls) = record_from (line_answered h (step_on l)).whole ls

-- "The first line is `kernel`, tab, `1`; else the whole log is the line `bad`, tab, `1`"; a script with no line has no first line
unfoldable pub log_of : List ℕ → List (List ℕ) → List ℕ
log_of block [] = bad_bytes
log_of block (l ∷ ls) = cond (same_bytes l header_bytes) (log_bytes ++ log_from (fresh_with block) ls) bad_bytes

unfoldable pub whole_log : List ℕ → List ℕ → List ℕ
whole_log block text = log_of block (lines text)

-- the list of calls that the lines are: a line that is no step is no call
unfoldable pub with_call : Option Step → List Call → List Call
with_call none cs = cs
with_call (some x) cs = record { made = x; room = none } ∷ cs

unfoldable pub calls_in : List (List ℕ) → List Call
calls_in [] = []
calls_in (l ∷ ls) = with_call (step_on l) (calls_in ls)
