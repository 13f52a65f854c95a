-- `run_line`: what the record answers with what the test says of it, and its log line; by the room for it.
use mathlib.Core.Path.{refl, ap, sym, ◌∙◌}
use Rattle.moves.specs.Moves.{words_after, block_after}
use Rattle.record.specs.Whole.{whole}
use Rattle.record.specs.StepRecord.{answer_for, stays, standing_by, standing_in}
use Rattle.machine.specs.Planned.{carried}
use Rattle.kernel.specs.Planning.{Known}
use Rattle.words.specs.Form.{step_on}
use Rattle.words.specs.Reading.{message_on}
use Rattle.syntax.specs.declared.Line.{Line}
use Rattle.script_lines.specs.LineRun.{message_words, line_for, Came, ran_with}
use Rattle.script_lines.specs.LineRunLaws.{message_back, plan_answers, reported_next, reported_full, answer_reported, answer_memory}
use Rattle.script_lines.proofs.run.run_line.Goals as goal

pub returns-in_default : goal.returns-in_default
unfolding carried stays standing_in
returns-in_default c =
    let a = c.args in
    let h = whole a.s a.words.now a.block.now in
    let t = c.is_sound-sound.ensures in
    let read = c.read_line-read.ensures in
    let p = c.answer-p in
    let w = c.log_answer.ensures in
    let K : Known _ h = record { typed = t.types; truth = t.answer a.block.now refl } in
    let o = carried h (message_on (step_on a.line.now)) p.result in
    let is = plan_answers _ a.s a.words.now a.block.now _ p.result (step_on a.line.now) p.ensures read K in
    let full = reported_full h o (line_for o.answer) a.log.now (sym w.answer ∙ c.in_default.is) ∙ answer_reported h a.line.now a.log.now o is in
    let stands = c.without_room.ensures ∙ ap (λ b. answer_for 8 0 (standing_by b a.s)) K.truth in record { answer = (λ i. record { state = a.s; answer = stands i; written = 0 }) ∙ ap ran_with full; held = ap (λ (r : Came). r.after.whole.words) full; lent = ap (λ (r : Came). r.after.whole.block) full; memory = w.memory ∙ answer_memory h a.line.now a.log.now o is }

pub returns : goal.returns
unfolding carried
returns c =
    let a = c.args in
    let h = whole a.s a.words.now a.block.now in
    let t = c.is_sound-sound.ensures in
    let read = c.read_line-read.ensures in
    let p = c.answer-p in
    let w = c.log_answer.ensures in
    let K : Known _ h = record { typed = t.types; truth = t.answer a.block.now refl } in
    let o = carried h (message_on (step_on a.line.now)) p.result in
    let is = plan_answers _ a.s a.words.now a.block.now _ p.result (step_on a.line.now) p.ensures read K in
    let next = reported_next h o (line_for o.answer) a.log.now _ (sym w.answer ∙ c.in-Some.is) ∙ answer_reported h a.line.now a.log.now o is in
    let m = c.make.ensures in
    let message = ap (λ (l : Line). message_words l.message) read ∙ message_back (step_on a.line.now) in record { answer = ap ran_with next; held = m.held ∙ ap (λ z. words_after p.result.moves a.words.now z a.block.now) message ∙ ap (λ (r : Came). r.after.whole.words) next; lent = m.memory ∙ ap (λ z. block_after p.result.moves a.words.now z a.block.now) message ∙ ap (λ (r : Came). r.after.whole.block) next; memory = w.memory ∙ answer_memory h a.line.now a.log.now o is }
