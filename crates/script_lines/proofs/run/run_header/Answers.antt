-- `run_header`: by the first line and by the room for its log line.
use Rattle.std.proofs.Common.{◌≡◌, ap, sym, ◌∙◌, rules}
use Rattle.text.specs.Place.{put_answer, put_bytes}
use Rattle.text.specs.Ascii.{ascii}
use Rattle.words.specs.Form.{header_bytes}
use Rattle.script_lines.specs.LineRun.{memory_head}
use Rattle.script_lines.specs.LineRunLaws.{head_good, head_bad, headed_next, headed_full}
use Rattle.script_lines.proofs.run.run_header.Goals as goal

pub returns-in_err-written : goal.returns-in_err-written
unfolding memory_head header_bytes ascii
returns-in_err-written c =
    let a = c.args in
    let w = c.write_header.ensures in
    let h = head_good a.line.now (let is : a.line.now ≡ header_bytes = search rules in is) in
    let put = ap (put_answer a.log.now 0) h.0 ∙ sym w.answer ∙ c.in_err-written.was in
    record { answer = c.from_residual.ensures ∙ headed_full a.line.now a.log.now put; memory = w.memory ∙ ap (put_bytes a.log.now 0) (sym h.0) }

pub returns-then-eq : goal.returns-then-eq
unfolding memory_head header_bytes ascii
returns-then-eq c =
    let a = c.args in
    let w = c.write_header.ensures in
    let h = head_good a.line.now (let is : a.line.now ≡ header_bytes = search rules in is) in
    let put = ap (put_answer a.log.now 0) h.0 ∙ sym w.answer ∙ c.in_ok-written.was in
    record { answer = headed_next a.line.now a.log.now _ _ h.1 put; memory = w.memory ∙ ap (put_bytes a.log.now 0) (sym h.0) }

pub returns-in_err-written-2 : goal.returns-in_err-written-2
unfolding memory_head header_bytes ascii
returns-in_err-written-2 c =
    let a = c.args in
    let w = c.write_bad.ensures in
    let h = head_bad a.line.now (λ is. search rules) in
    let put = ap (put_answer a.log.now 0) h.0 ∙ sym w.answer ∙ c.in_err-written-2.was in
    record { answer = c.from_residual-in_err-written-2.ensures ∙ headed_full a.line.now a.log.now put; memory = w.memory ∙ ap (put_bytes a.log.now 0) (sym h.0) }

pub returns : goal.returns
unfolding memory_head header_bytes ascii
returns c =
    let a = c.args in
    let w = c.write_bad.ensures in
    let h = head_bad a.line.now (λ is. search rules) in
    let put = ap (put_answer a.log.now 0) h.0 ∙ sym w.answer ∙ c.in_ok-written-2.was in
    record { answer = headed_next a.line.now a.log.now _ _ h.1 put; memory = w.memory ∙ ap (put_bytes a.log.now 0) (sym h.0) }
