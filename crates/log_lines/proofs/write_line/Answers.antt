-- `write_line`: without room nothing is written; with room, the rows put one after the other are the whole line.
use mathlib.Core.Path.{sym}
use Prim.Native.Nat.{◌≤◌}
use native.Mathlib.Omega.{arith}
use lib.ListN.{length}
use Rattle.text.specs.PlaceLaws.{put_full, put_kept}
use Rattle.log_lines.specs.LogLineLaws.{line_rows, line_rows_lem}
use Rattle.log_lines.specs.PutLaws.{end, ◌then◌, whole, puts_answer}
use Rattle.log_lines.proofs.write_line.Goals as goal

pub returns-then-log-line_length : goal.returns-then-log-line_length
returns-then-log-line_length c = record { answer = sym (put_full _ _ _ (omega (arith, c.line_length.ensures))); memory = sym (put_kept _ _ _ (omega (arith, c.line_length.ensures))) }

pub returns : goal.returns
returns c =
    let a = c.args in
    let w = line_rows_lem a.number a.value a.run in
    let h : length (whole (line_rows a.number a.value a.run)) ≤ length a.log.now = rw w (omega (arith, c.line_length.ensures, c.if-log-line_length.false)) in
    let put = rw w at (puts_answer a.log.now (line_rows a.number a.value a.run) (
    (c.put_number-a.ensures.place, c.put_number-a.ensures.memory) then (c.put_text-b.ensures.place, c.put_text-b.ensures.memory) then
    (c.put_number-c.ensures.place, c.put_number-c.ensures.memory) then (c.put_text-d.ensures.place, c.put_text-d.ensures.memory) then
    (c.put_run-e.ensures.place, c.put_run-e.ensures.memory) then (c.put_text-end.ensures.place, c.put_text-end.ensures.memory) then end) h) in
    record { answer = put.0; memory = put.1 }
