-- `end`: what is left, answered and logged, or the session as handed in.
use mathlib.Core.Path.{◌≡◌, refl, ap, sym, ◌∙◌}
use mathlib.Core.List.{List, []}
use mathlib.Core.Bool.{true}
use mathlib.Core.Option.{Option}
use Prim.Native.Nat.{ℕ}
use Rattle.text.specs.Place.{put_bytes}
use Rattle.arrive.specs.Feed.{found_line, last_found}
use Rattle.moves.specs.Moves.{words_after, block_after}
use Rattle.rules.specs.Step.{Step}
use Rattle.record.specs.Whole.{whole}
use Rattle.record.specs.StepRecord.{After}
use Rattle.machine.specs.Planned.{carried}
use Rattle.kernel.specs.Planning.{Known}
use Rattle.words.specs.Reading.{message_on}
use Rattle.syntax.specs.Line.{line_read}
use Rattle.syntax.specs.declared.Line.{Line}
use Rattle.script_lines.specs.LineRun.{line_answered, message_words}
use Rattle.script_lines.specs.LineRunLaws.{message_back, plan_answers}
use Rattle.script.specs.Session.{Script, script_of, log_at, line_taken, taken_memory, step_at, logged_at, found_taken, Turn, moved_of, leftb, left_arrivals, end_memory}
use Rattle.script.specs.LineLaws.{logged_memory, logged_taken, logged_stopped}
use Rattle.script.specs.SessionLaws.{left_taken, left_memory, end_taken, end_stopped, end_over}
use Rattle.script.proofs.session.end.Goals as goal
use Rattle.script.proofs.session.end.Lts as lts
use Rattle.script.proofs.session.end.Tie as tie
use Rattle.script.proofs.session.end.Reads as reads

-- the last line, answered and logged
abbrev LoggedLast : Type 0
LoggedLast = lts.After-log_line tie.the-claims reads.Pre reads.Post tie.handed_clauses

abbrev handed : LoggedLast → Script
handed k = let a = k.args in script_of a.session a.words.now a.block.now

abbrev carry_in : LoggedLast → List ℕ
carry_in k = k.args.carry.now

abbrev memory_in : LoggedLast → List ℕ
memory_in k = k.args.log.now

left_is : (k : LoggedLast) → leftb (handed k).stage (handed k).held ≡ true
left_is k = sym k.is_left.ensures ∙ k.if-not-is_left.false

-- what was left of the carry
abbrev last_line : LoggedLast → List ℕ
last_line k = found_line (carry_in k) [] k.finish-found.result

line_is : (k : LoggedLast) → last_line k ≡ found_line (carry_in k) [] (last_found (carry_in k) (handed k).held)
line_is k = ap (found_line (carry_in k) []) k.finish-found.ensures

-- the step that it is
abbrev asked : LoggedLast → Option Step
asked k = step_at (handed k).stage (last_line k)

read_is : (k : LoggedLast) → k.read-r.result ≡ line_read (asked k)
read_is k = k.read-r.ensures ∙ ap (λ l. line_read (step_at (handed k).stage l)) k.line-line.ensures

-- what comes of its plan, once its words are moved
abbrev planned : LoggedLast → After
planned k =
    let h = (handed k).whole in
    let p = k.answer-p.result in
    record { whole = whole p.state (words_after p.moves h.words (message_on (asked k)) h.block) (block_after p.moves h.words (message_on (asked k)) h.block); answer = p.answer }

answer_is : (k : LoggedLast) → planned k ≡ line_answered (handed k).whole (asked k)
unfolding carried
answer_is k =
    let h = (handed k).whole in
    let t = k.is_sound-sound.ensures in
    let K : Known _ h = record { typed = t.types; truth = t.answer h.block refl } in
    plan_answers _ h.state h.words h.block k.read-r.result k.answer-p.result (asked k) k.answer-p.ensures (read_is k) K

logged_is : (k : LoggedLast) → k.log_line.result ≡ logged_at (handed k).stage (planned k).answer (last_line k) (memory_in k)
logged_is k = k.log_line.ensures.answer ∙ ap (λ l. logged_at (handed k).stage (planned k).answer l (memory_in k)) k.line-line.ensures

taken_is : (k : LoggedLast) → line_taken (handed k).whole (handed k).stage (last_line k) (memory_in k) ≡ found_taken (handed k).whole (handed k).stage (left_arrivals (handed k).stage (carry_in k) (handed k).held) (memory_in k)
taken_is k =
    ap (λ l. line_taken (handed k).whole (handed k).stage l (memory_in k)) (line_is k)
    ∙ left_taken (handed k).stage (carry_in k) (handed k).held (handed k).whole (memory_in k) (left_is k)

memory_is : (k : LoggedLast) → k.log_line.new.log ≡ end_memory (handed k) (carry_in k) (memory_in k)
unfolding end_memory
memory_is k =
    k.log_line.ensures.memory
    ∙ ap (λ l. put_bytes (memory_in k) 0 (log_at (handed k).stage (planned k).answer l)) k.line-line.ensures
    ∙ logged_memory (handed k).whole (handed k).stage (last_line k) (memory_in k) (planned k) (answer_is k)
    ∙ ap (λ l. taken_memory (handed k).whole (handed k).stage l (memory_in k)) (line_is k)
    ∙ left_memory (handed k).stage (carry_in k) (handed k).held (handed k).whole (memory_in k) (left_is k)

pub returns-then-not-is_left : goal.returns-then-not-is_left
returns-then-not-is_left c =
    let a = c.args in
    let s = script_of a.session a.words.now a.block.now in
    let e = sym c.is_left.ensures ∙ c.if-not-is_left.true in
    let over = end_over s a.carry.now a.log.now e in
    record { answer = ap moved_of over.0; held = ap (λ (t : Turn). t.session.whole.words) over.0; lent = ap (λ (t : Turn). t.session.whole.block) over.0; memory = over.1 }

pub returns-in_default : goal.returns-in_default
returns-in_default c =
    let k : LoggedLast = c.before.before.before.before in
    let n = logged_stopped (handed k).whole (handed k).stage (last_line k) (memory_in k) (planned k) (answer_is k) (sym c.in_default.is ∙ logged_is k) in
    let stopped = end_stopped (handed k) (carry_in k) (memory_in k) _ (taken_is k) n in
    record { answer = ap moved_of stopped; held = ap (λ (t : Turn). t.session.whole.words) stopped; lent = ap (λ (t : Turn). t.session.whole.block) stopped; memory = memory_is k }

pub returns : goal.returns
returns c =
    let k : LoggedLast = c.before.before.before.before.before.before.before.before.before.before.before.before.before in
    let p = k.answer-p.result in
    let h = (handed k).whole in
    let m = c.make in
    let message = ap (λ (z : Line). message_words z.message) (read_is k) ∙ message_back (asked k) in
    let words = m.ensures.held ∙ ap (λ z. words_after p.moves h.words z h.block) message in
    let block = m.ensures.memory ∙ ap (λ z. block_after p.moves h.words z h.block) message in
    let t = logged_taken h (handed k).stage (last_line k) (memory_in k) (planned k) (answer_is k) c.in-Some.l (sym c.in-Some.is ∙ logged_is k) in
    let taken = end_taken (handed k) (carry_in k) (memory_in k) _ (t ∙ taken_is k) refl in
    record { answer = ap moved_of taken; held = words ∙ ap (λ (z : Turn). z.session.whole.words) taken; lent = block ∙ ap (λ (z : Turn). z.session.whole.block) taken; memory = memory_is k }
