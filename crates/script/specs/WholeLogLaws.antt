-- The records of a script, with their words and blocks, are those of demand 3's list: of the calls that its lines are, malformed lines left out.
use Rattle.std.specs.Prelude.{◌≡◌, refl, List, [], ◌∷◌, true, ℕ}
use Rattle.std.proofs.Common.{ap, sym, ◌∙◌}
use Rattle.std.proofs.Math.Option.{Option, none, some}
use Rattle.rules.specs.Step.{Step}
use Rattle.rules.specs.Demand.{Demand, told}
use Rattle.record.specs.Record.{view}
use Rattle.record.specs.Whole.{Whole}
use Rattle.record.specs.StepRecord.{stays, step_by}
use Rattle.record.specs.DemandRecord.{fresh_with, in_memory, call_record, events_record, after_record, answer_record}
use Rattle.record.specs.DemandRecordLaws.{step_back, demand_3_record}
use Rattle.words.specs.Form.{step_on}
use Rattle.script_lines.specs.LineRun.{line_answered}
use Rattle.script.specs.WholeLog.{record_from, with_call, calls_in}

-- what the lines leave is what the calls leave
pub record_calls : (ls : List (List ℕ)) (h : Whole) → record_from h ls ≡ after_record h (calls_in ls)
unfolding record_from after_record calls_in line_answered with_call call_record in_memory stays
record_calls [] h = refl
record_calls (l ∷ ls) h = record_calls ls (line_answered h (step_on l)).whole ∙ first (step_on l)
  where
    first : (o : Option Step) → after_record (line_answered h o).whole (calls_in ls) ≡ after_record h (with_call o (calls_in ls))
    first none = refl
    first (some x) = ap (λ y. after_record (step_by h y).whole (calls_in ls)) (sym (step_back x))

-- so demand 3 holds of every script with an accepted start, whatever block is lent
pub demand_3_script : (block : List ℕ) (ls : List (List ℕ)) → (told (view (fresh_with block)) (events_record (fresh_with block) (calls_in ls))).started ≡ true
    → Demand (told (view (fresh_with block)) (events_record (fresh_with block) (calls_in ls))) (answer_record (record_from (fresh_with block) ls))
demand_3_script block ls started = rw (record_calls ls (fresh_with block)) (demand_3_record block (calls_in ls) started)
