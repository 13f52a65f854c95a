-- `arrive`: what is left to do of the piece, from where it stands now, comes to what the whole piece comes to, and what the test said of the first
-- record holds of each.
use borrow.Author.Rules.{rules}
use borrow.Rule.Slice.PartMut.{same_len_mid}
use mathlib.Core.Path.{◌≡◌, refl, ap, sym, ◌∙◌, subst}
use mathlib.Core.List.{List, ◌++◌}
use mathlib.Core.Option.{Option}
use Rattle.std.specs.Prelude.{Some}
use Prim.Native.Nat.{ℕ, ◌+◌, ◌-◌, ◌≤◌}
use native.Mathlib.Omega.{arith}
use lib.ListN.{length, take, drop}
use Rattle.text.specs.Place.{put_bytes}
use Rattle.arrive.specs.Feed.{found_line}
use Rattle.moves.specs.Moves.{words_after, block_after}
use Rattle.rules.specs.Step.{Step}
use Rattle.record.specs.Whole.{Whole, whole}
use Rattle.record.specs.StepRecord.{After}
use Rattle.machine.specs.Planned.{carried}
use Rattle.kernel.specs.Planning.{Known}
use Rattle.words.specs.Reading.{message_on}
use Rattle.syntax.specs.Line.{line_read}
use Rattle.syntax.specs.declared.Line.{Line}
use Rattle.script_lines.specs.LineRun.{line_answered, message_words}
use Rattle.script_lines.specs.LineRunLaws.{message_back, plan_answers, known_on}
use Rattle.script.specs.Session.{script_of, log_at, step_at, logged_at, Stand, free_of, moved_to, Through, through, piece_run}
use Rattle.script_lines.specs.declared.run.Headed.{Headed}
use Rattle.script.specs.SessionLaws.{rest_part, rest_back, through_end, Run, run_short, run_again, run_stopped, run_held, cut_on}
use Rattle.script.proofs.session.arrive.Goals as goal
use Rattle.script.proofs.session.arrive.Lts as lts
use Rattle.script.proofs.session.arrive.Tie as tie
use Rattle.script.proofs.session.arrive.Reads as reads

-- a line that was found, answered and logged
abbrev Turned : Type 0
Turned = lts.After-log_line tie.the-claims reads.Pre reads.Post goal.the-invariant-loop-moved goal.the-decreases-loop-moved tie.handed_clauses

abbrev bytes_in : Turned → List ℕ
bytes_in k = k.args.bytes.now

abbrev before_turn : Turned → Stand
before_turn k =
    let l = k.loop-moved in
    record { session = script_of l.moved.session l.words l.block; carry = l.carry; memory = l.log; next = l.moved.next; written = l.moved.written }

abbrev line_of : Turned → List ℕ
line_of k = found_line k.feed-f.new.carry (bytes_in k) k.feed-f.result.found

-- the step that the line is
abbrev asked : Turned → Option Step
asked k = step_at (before_turn k).session.stage (line_of k)

read_is : (k : Turned) → k.read-r.result ≡ line_read (asked k)
read_is k = k.read-r.ensures ∙ ap (λ z. line_read (step_at (before_turn k).session.stage z)) k.line-line.ensures

-- what comes of its plan, once its words are moved
abbrev planned : Turned → After
planned k =
    let h = (before_turn k).session.whole in
    let p = k.answer-p.result in
    record { whole = whole p.state (words_after p.moves h.words (message_on (asked k)) h.block) (block_after p.moves h.words (message_on (asked k)) h.block); answer = p.answer }

-- the record answers as it is defined to, since the test says the truth of it
answer_is : (k : Turned) → planned k ≡ line_answered (before_turn k).session.whole (asked k)
unfolding carried
answer_is k =
    let l = k.loop-moved in
    plan_answers _ l.moved.session.state l.words l.block k.read-r.result k.answer-p.result (asked k) k.answer-p.ensures (read_is k) l.invariant.6

run_is : (k : Turned) → Run (bytes_in k) (before_turn k) k.feed-f.result k.feed-f.new.carry (line_of k) (planned k) k.log_line.result
run_is k =
    let x = before_turn k in
    let f = k.feed-f in
    let a = k.answer-p.result.answer in
    record {
      cut = f.ensures.answer;
      carried = f.ensures.memory;
      ended = sym k.is_line.ensures ∙ k.if-not-is_line.false;
      line_is = refl;
      answered = answer_is k;
      logged = k.log_line.ensures.answer ∙ (λ i. logged_at x.session.stage a (k.line-line.ensures i) (rest_part x.memory x.written i));
    }

-- and the whole memory then
memory_is : (k : Turned) → (let x = before_turn k in take x.written x.memory ++ (k.log_line.new.log ++ drop (length x.memory - x.written) (drop x.written x.memory)) ≡ take x.written x.memory ++ put_bytes (free_of x) 0 (log_at x.session.stage k.answer-p.result.answer (line_of k)))
memory_is k =
    let x = before_turn k in
    let a = k.answer-p.result.answer in
    let n = k.log_line in
    rest_back x.memory x.written n.new.log
    ∙ ap (λ m. take x.written x.memory ++ m) (n.ensures.memory ∙ (λ i. put_bytes (rest_part x.memory x.written i) 0 (log_at x.session.stage a (k.line-line.ensures i))))

turn_fits : (k : Turned) (n : Headed) → k.log_line.result ≡ Some n → (before_turn k).written + n.written ≤ length (before_turn k).memory
turn_fits k n is = run_short (bytes_in k) (before_turn k) _ _ _ _ _ (run_is k) n is k.loop-moved.invariant.0

turn_size : (k : Turned) → (let x = before_turn k in length (take x.written x.memory ++ (k.log_line.new.log ++ drop (length x.memory - x.written) (drop x.written x.memory))) ≡ length x.memory)
turn_size k =
    let x = before_turn k in
    same_len_mid x.written (length x.memory - x.written) x.memory k.log_line.new.log k.log_line.auto.log

-- the words moved
moved_is : (k : Turned) {words block : List ℕ} → (let h = (before_turn k).session.whole in let p = k.answer-p.result in let m = message_words k.read-r.result.message in
    words ≡ words_after p.moves h.words m h.block → block ≡ block_after p.moves h.words m h.block → whole p.state words block ≡ (planned k).whole)
moved_is k held memory =
    let h = (before_turn k).session.whole in
    let p = k.answer-p.result in
    let message = ap (λ (z : Line). message_words z.message) (read_is k) ∙ message_back (asked k) in
    let words = held ∙ ap (λ z. words_after p.moves h.words z h.block) message in
    let block = memory ∙ ap (λ z. block_after p.moves h.words z h.block) message in
    λ i. whole p.state (words i) (block i)

pub loop-moved-init : goal.loop-moved-init
loop-moved-init c =
    let t = c.is_sound-sound.ensures in
    (search rules, refl, refl, refl, refl, refl, record { typed = t.types; truth = t.answer _ refl }, refl)

-- no line's end was found
pub returns-then-not-is_line : goal.returns-then-not-is_line
unfolding piece_run
returns-then-not-is_line c =
    let l = c.loop-moved in
    let f = c.feed-f in
    let x : Stand = record { session = script_of l.moved.session l.words l.block; carry = l.carry; memory = l.log; next = l.moved.next; written = l.moved.written } in
    let no = sym c.is_line.ensures ∙ c.if-not-is_line.true in
    let e = run_held c.args.bytes.now x c.loop-moved-test.true f.result _ f.ensures.answer f.ensures.memory no ∙ l.invariant.7 in record {
      answer = (λ i. record { session = record { state = l.moved.session.state; stage = l.moved.session.stage; held = f.result.held }; next = f.result.next; written = l.moved.written; full = l.invariant.5 i }) ∙ ap moved_to e;
      held = ap (λ (t : Through). t.stand.session.whole.words) e;
      lent = ap (λ (t : Through). t.stand.session.whole.block) e;
      carried = ap (λ (t : Through). t.stand.carry) e;
      memory = ap (λ (t : Through). t.stand.memory) e;
    }

pub returns-in_default : goal.returns-in_default
unfolding piece_run
returns-in_default c =
    let k : Turned = c.before.before.before.before in
    let e = run_stopped (bytes_in k) (before_turn k) _ _ _ _ _ (run_is k) k.loop-moved-test.true _ (memory_is k) c.in_default.is ∙ k.loop-moved.invariant.7 in record {
      answer = ap moved_to e;
      held = ap (λ (t : Through). t.stand.session.whole.words) e;
      lent = ap (λ (t : Through). t.stand.session.whole.block) e;
      carried = ap (λ (t : Through). t.stand.carry) e;
      memory = ap (λ (t : Through). t.stand.memory) e;
    }

pub overflow_add-moved : goal.overflow_add-moved
overflow_add-moved c =
    let k : Turned = c.before.before.before.before.before.before.before.before.before.before.before.before.before.before.before in
    omega (arith, turn_fits k _ c.in-Some.is, k.loop-moved.invariant.1)

pub loop-moved-smaller : goal.loop-moved-smaller
loop-moved-smaller c =
    let k : Turned = c.before.before.before.before.before.before.before.before.before.before.before.before.before.before.before in
    let f = k.feed-f in
    let more = k.loop-moved-test.true in
    omega (arith, cut_on (bytes_in k) (before_turn k) f.result f.ensures.answer more, more)

pub loop-moved-preserved : goal.loop-moved-preserved
loop-moved-preserved c =
    let k : Turned = c.before.before.before.before.before.before.before.before.before.before.before.before.before.before.before in
    let l = k.loop-moved in
    let f = k.feed-f in
    let n = c.in-Some.l in
    let made = c.make in
    let size = turn_size k in
    let moved = moved_is k made.ensures.held made.ensures.memory in
    let on : Whole → Through = λ h. through (length (bytes_in k)) (bytes_in k) (record { session = record { whole = h; stage = n.stage; held = f.result.held }; carry = f.new.carry; memory = take l.moved.written l.log ++ (k.log_line.new.log ++ drop (length l.log - l.moved.written) (drop l.moved.written l.log)); next = f.result.next; written = l.moved.written + n.written }) in (
      omega (arith, turn_fits k _ c.in-Some.is, size),
      size ∙ l.invariant.1,
      f.auto.carry ∙ l.invariant.2,
      made.auto.words ∙ l.invariant.3,
      made.auto.block ∙ l.invariant.4,
      l.invariant.5,
      subst (Known _) (sym (moved ∙ ap (λ (a : After). a.whole) (answer_is k))) (known_on _ (before_turn k).session.whole (asked k) l.invariant.6),
      ap on moved ∙ run_again (bytes_in k) (before_turn k) _ _ _ _ _ (run_is k) k.loop-moved-test.true _ (memory_is k) n c.in-Some.is ∙ l.invariant.7,
    )

pub returns : goal.returns
unfolding piece_run
returns c =
    let l = c.loop-moved in
    let a = c.args in
    let x : Stand = record { session = script_of l.moved.session l.words l.block; carry = l.carry; memory = l.log; next = l.moved.next; written = l.moved.written } in
    let e = sym (through_end a.bytes.now x c.loop-moved-test.false) ∙ l.invariant.7 in record {
      answer = (λ i. record { session = l.moved.session; next = l.moved.next; written = l.moved.written; full = l.invariant.5 i }) ∙ ap moved_to e;
      held = ap (λ (t : Through). t.stand.session.whole.words) e;
      lent = ap (λ (t : Through). t.stand.session.whole.block) e;
      carried = ap (λ (t : Through). t.stand.carry) e;
      memory = ap (λ (t : Through). t.stand.memory) e;
    }
