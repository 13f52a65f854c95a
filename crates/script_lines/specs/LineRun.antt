-- One line run on a record with its words and block, and with lent memory for its log line: what comes back for every record, every line and every length.
use Rattle.std.specs.Prelude.{ℕ, List, Bool, Some, None, Option as RustOption, cond, length, take}
use Rattle.std.proofs.Math.Option.{Option, none, some}
use Rattle.text.specs.Place.{room, put_bytes}
use Rattle.rules.specs.Step.{Step}
use Rattle.record.specs.Whole.{Whole}
use Rattle.record.specs.StepRecord.{step_for, answer_for, number_of, value_of, run_of, After, stays, standing_by, standing_in, step_by}
use Rattle.record.specs.declared.State.{State}
use Rattle.record.specs.declared.Answer.{Answer}
use Rattle.record.specs.declared.Plan.{Plan}
use Rattle.kernel.specs.Planning.{unmoved, planned}
use Rattle.words.specs.Form.{same_bytes, step_on}
use Rattle.log_lines.specs.LogLine.{line_bytes, log_bytes, bad_bytes}
use Rattle.words.specs.Form.{header_bytes}
use Rattle.words.specs.declared.Message.{Message}
use Rattle.record.specs.declared.Request.{Request}
use Rattle.syntax.specs.declared.Line.{Line}
use Rattle.script_lines.specs.declared.run.Ran.{Ran}
use Rattle.script_lines.specs.declared.run.Headed.{Headed}

-- what a line is answered: 14, "line not of the form below", which comes before every other number; else what the step is answered
unfoldable pub line_answered : Whole → Option Step → After
line_answered h none = stays h 14 0 (standing_in h)
line_answered h (some x) = step_by h x

-- the step that was read of a line, with its message
unfoldable pub step_read : RustOption Request → List ℕ → Option Step
step_read None m = none
step_read (Some x) m = some (step_for x m)

-- a message's words: as many as it says it has
abbrev pub message_words : Message → List ℕ
message_words m = take m.n m.words

-- what is planned for what was read of a line, `sound` being what the test said of the record, and `count` the words of the message
unfoldable pub plan_read : Bool → State → List ℕ → ℕ → ℕ → RustOption Request → Plan
plan_read sound k words space count None = unmoved k (answer_for 14 0 (standing_by sound k))
plan_read sound k words space count (Some x) = planned sound k x count space words

abbrev pub line_planned : Bool → State → List ℕ → ℕ → Line → Plan
line_planned sound k words space l = plan_read sound k words space l.message.n l.reading

-- "one line for each script line: answer, value, running task or `-`"
abbrev pub line_for : Answer → List ℕ
line_for a = line_bytes (number_of a) (value_of a) (run_of a)

-- what comes of a line: of its step, and how many bytes of the lent memory its log line took
pub record Came : Type 0 where
  pub after : After
  pub written : ℕ

abbrev pub came_to : After → ℕ → Came
came_to o written = record { after = o; written = written }

-- what is handed back of it, where words and block lie in lent memory
abbrev pub ran_with : Came → Ran
ran_with c = record { state = c.after.whole.state; answer = c.after.answer; written = c.written }

-- by the line that reports the answer. "The log's 8 comes last: if the line that would report the answer, accepted or not, its LF included, is longer
-- than the lent memory, the answer is 8, value 0, and the step isn't made."
unfoldable pub reported : Whole → After → List ℕ → List ℕ → Came
reported h o log memory = cond (room memory 0 log) (came_to o (length log)) (came_to (stays h 8 0 (standing_in h)) 0)

unfoldable pub ran_line : Whole → List ℕ → List ℕ → Came
ran_line h line memory =
    let o = line_answered h (step_on line) in
    reported h o (line_for o.answer) memory

-- "A log line is written at the front of the lent memory; bytes after it stay, and with the log's 8 all stay"
unfoldable pub memory_line : Whole → List ℕ → List ℕ → List ℕ
memory_line h line memory = put_bytes memory 0 (line_for (line_answered h (step_on line)).answer)

-- where a script stands: its first line is awaited; steps are run; its first line was bad, and nothing more is written
abbrev pub awaiting : ℕ
awaiting = 0

abbrev pub running : ℕ
running = 1

abbrev pub over : ℕ
over = 2

-- "The first line is `kernel`, tab, `1`; else the whole log is the line `bad`, tab, `1`"
unfoldable pub head_log : List ℕ → List ℕ
head_log line = cond (same_bytes line header_bytes) log_bytes bad_bytes

unfoldable pub head_stage : List ℕ → ℕ
head_stage line = cond (same_bytes line header_bytes) running over

-- "so too for the lines `log` and `bad`": at the front of the lent memory, and where there is no room nothing is done: the first line is still awaited
unfoldable pub headed : List ℕ → List ℕ → RustOption Headed
headed line memory = cond (room memory 0 (head_log line)) (Some (record { stage = head_stage line; written = length (head_log line) })) None

unfoldable pub memory_head : List ℕ → List ℕ → List ℕ
memory_head line memory = put_bytes memory 0 (head_log line)
