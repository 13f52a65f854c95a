-- The log's line for an answer, and a step that writes one into lent memory.
use Rattle.std.specs.Prelude.{List, [], ◌∷◌, ◌++◌, cond, ℕ, leb, length, drop}
use Rattle.std.proofs.Math.Option.{Option, none, some}
use Rattle.text.specs.Fields.{tab}
use Rattle.text.specs.Lines.{lf}
use Rattle.decimal.specs.Decimal.{decimal}
use Rattle.rules.specs.State.{State}
use Rattle.rules.specs.Step.{Step}
use Rattle.rules.specs.Answer.{Answer, stopped, step}

-- the byte of "-"
abbrev pub dash : ℕ
dash = 45

-- "running task or `-`"
unfoldable pub run_field : Option ℕ → List ℕ
run_field none = dash ∷ []
run_field (some i) = decimal i

-- "one line for each script line: answer, value, running task or `-`", fields parted by one tab, with its LF
unfoldable pub log_line : Answer → List ℕ
log_line a = decimal a.number ++ (tab ∷ (decimal a.value ++ (tab ∷ (run_field a.run ++ (lf ∷ [])))))

-- "if the line that would report the answer, accepted or not, its LF included, is longer than the lent memory, the answer is 8, value 0,
-- and the step isn't made"
unfoldable pub with_room : State → ℕ → Answer → Answer
with_room s room a = cond (leb (length (log_line a)) room) a (stopped s 8)

-- "A log line is written at the front of the lent memory; bytes after it stay, and with the log's 8 all stay"
unfoldable pub memory_after : Answer → List ℕ → List ℕ
memory_after a memory = cond (leb (length (log_line a)) (length memory)) (log_line a ++ drop (length (log_line a)) memory) memory

-- a step, with a log line in lent memory of some length, or with none
pub record Call : Type 0 where
  pub made : Step
  pub room : Option ℕ

unfoldable pub in_room : State → Option ℕ → Answer → Answer
in_room s none a = a
in_room s (some room) a = with_room s room a

unfoldable pub call : State → Call → Answer
call s c = in_room s c.room (step s c.made)
