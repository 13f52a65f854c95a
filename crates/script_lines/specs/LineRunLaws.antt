-- Laws of one line run: a line that is a step is a call of demand 3's list; a malformed one changes nothing, and is answered as the rules answer it.
use Rattle.std.proofs.Math.Path.{◌≡◌, refl, ap}
use Rattle.std.proofs.Common.{sym, ◌∙◌, arith, leb-false}
use Rattle.std.specs.Prelude.{Option as RustOption, List, ◌++◌, Bool, ◌⊎◌, ℕ, ◌+◌, ◌<◌, leb, Some, None}
use Rattle.std.proofs.Math.Bool.{true, false, cond}
use Rattle.std.proofs.Math.Logic.{inl, inr}
use Rattle.std.proofs.Math.Option.{Option, none, some}
use Rattle.std.proofs.Math.ListN.{length, drop}
use Rattle.lists.specs.Test.{◌and◌}
use Rattle.lists.specs.TestLaws.{which, and_r}
use Rattle.text.specs.Ascii.{ascii}
use Rattle.lists.specs.TableLaws.{take_pad}
use Rattle.text.specs.Place.{room, put_answer, put_bytes}
use Rattle.rules.specs.Sizes.{held_words}
use Rattle.rules.specs.Step.{Step}
use Rattle.rules.specs.Log.{log_line, memory_after}
use Rattle.walks.specs.Walk.{task_at}
use Rattle.rules.specs.Answer.{standing, malformed}
use Rattle.rules.specs.Sound.{soundb}
use Rattle.record.specs.Record.{view}
use Rattle.record.specs.Whole.{Whole, whole}
use Rattle.record.specs.SoundRecord.{sound_of}
use Rattle.record.specs.GoodRecord.{Typed}
use Rattle.record.specs.StepRecord.{number_of, answer_for, After, stays, standing_by, standing_in, step_by}
use Rattle.record.specs.DemandRecordLaws.{step_back, step_verdict, step_typed, refused_stays}
use Rattle.record.specs.DemandRecord.{read_out, in_memory, call_record}
use Rattle.record.specs.declared.State.{State}
use Rattle.record.specs.declared.Plan.{Plan}
use Rattle.machine.specs.Planned.{carried}
use Rattle.kernel.specs.Planning.{unmoved, Known}
use Rattle.kernel.specs.PlanningLaws.{planned_gives}
use Rattle.words.specs.Form.{same_bytes, step_on}
use Rattle.log_lines.specs.LogLine.{line_bytes, log_bytes, bad_bytes}
use Rattle.words.specs.Form.{header_bytes}
use Rattle.words.specs.Reading.{reading_for, message_on}
use Rattle.words.specs.SameLaws.{same_equal}
use Rattle.record.specs.declared.Request.{Request}
use Rattle.syntax.specs.Line.{line_read}
use Rattle.syntax.specs.declared.Line.{Line}
use Rattle.script_lines.specs.LineRun.{running, over, line_answered, step_read, message_words, plan_read, line_planned, line_for, Came, came_to, reported, ran_line, memory_line, head_log, head_stage, headed}

-- the line that reports an answer is the rules' log line of it
pub line_ruled : (o : After) → line_for o.answer ≡ log_line (read_out o)
unfolding line_bytes log_line read_out
line_ruled o = refl

either : (b : Bool) (o p : After) (n m : ℕ) → (cond b (came_to o n) (came_to p m)).after ≡ cond b o p
either true o p n m = refl
either false o p n m = refl

-- what was read of a line is the step that it is, and its message has the words of that step
pub read_back : (o : Option Step) → step_read (line_read o).reading (message_on o) ≡ o
unfolding step_read reading_for message_on
read_back none = refl
read_back (some x) = ap some (step_back x)

pub message_back : (o : Option Step) → message_words (line_read o).message ≡ message_on o
message_back o = take_pad held_words 0 (length (message_on o)) (message_on o) refl

-- what is planned for what was read comes to what its step is answered, where the test said the truth
module _ (sound : Bool) (k : State) (words block m : List ℕ) (K : Known sound (whole k words block)) where
  not_read : carried (whole k words block) m (unmoved k (answer_for 14 0 (standing_by sound k))) ≡ stays (whole k words block) 14 0 (standing_in (whole k words block))
  unfolding carried stays standing_in
  not_read = λ i. record { whole = whole k words block; answer = ap (λ b. answer_for 14 0 (standing_by b k)) K.truth i }

  read_planned : (r : RustOption Request) → carried (whole k words block) m (plan_read sound k words (length block) (length m) r) ≡ line_answered (whole k words block) (step_read r m)
  unfolding plan_read line_answered step_read
  read_planned None = not_read
  read_planned (Some x) = planned_gives sound k words (length block) x (length m) _ refl m block refl refl K

-- so a plan for what was read of a line comes to what the line is answered
pub plan_answers : (sound : Bool) (k : State) (words : List ℕ) (block : List ℕ) (l : Line) (p : Plan) (o : Option Step) → p ≡ line_planned sound k words (length block) l → l ≡ line_read o
    → Known sound (whole k words block) → carried (whole k words block) (message_on o) p ≡ line_answered (whole k words block) o
plan_answers sound k words block l p o e is K =
    ap (carried (whole k words block) (message_on o)) (e ∙ ap (line_planned sound k words (length block)) is)
    ∙ read_planned sound k words block (message_on o) K (line_read o).reading ∙ ap (line_answered (whole k words block)) (read_back o)

-- a line leaves a sound record sound, and one that isn't as it was; and the record handed on has the lengths and the numbers of its type
pub answered_verdict : (h : Whole) (o : Option Step) → Typed h.state → sound_of (line_answered h o).whole ≡ sound_of h
unfolding line_answered stays
answered_verdict h none T = refl
answered_verdict h (some x) T = step_verdict h x T

pub answered_typed : (h : Whole) (o : Option Step) → Typed h.state → Typed (line_answered h o).whole.state
unfolding line_answered stays
answered_typed h none T = T
answered_typed h (some x) T = step_typed h x T

-- what the test said of the record it says of the one that a line leaves
pub known_on : (sound : Bool) (h : Whole) (o : Option Step) → Known sound h → Known sound (line_answered h o).whole
known_on sound h o K = record { typed = answered_typed h o K.typed; truth = K.truth ∙ sym (answered_verdict h o K.typed) }

from_front : (l : List ℕ) → 0 + length l ≡ length l
from_front l = omega arith

module _ (h : Whole) (line memory : List ℕ) where
  -- a line that is a step: the call of demand 3's list, with a log line in memory of that length
  pub step_call : (x : Step) → step_on line ≡ some x → (ran_line h line memory).after ≡ call_record h (record { made = x; room = some (length memory) })
  unfolding ran_line line_answered reported call_record in_memory
  step_call x is = rw (is, step_back x) (either (room memory 0 (line_for (step_by h x).answer)) (step_by h x) (stays h 8 0 (standing_in h)) _ _
      ∙ ap (λ l. cond (room memory 0 l) (step_by h x) (stays h 8 0 (standing_in h))) (line_ruled (step_by h x))
      ∙ ap (λ n. cond (leb n (length memory)) (step_by h x) (stays h 8 0 (standing_in h))) (from_front (log_line (read_out (step_by h x)))))

  -- the lent memory is as the rules leave it
  pub memory_ruled : memory_line h line memory ≡ memory_after (read_out (line_answered h (step_on line))) memory
  unfolding memory_line memory_after put_bytes
  memory_ruled = ap (λ l. cond (leb (0 + length l) (length memory)) (l ++ drop (0 + length l) memory) memory) (line_ruled (line_answered h (step_on line)))
      ∙ ap (λ n. cond (leb n (length memory)) (log_line (read_out (line_answered h (step_on line))) ++ drop n memory) memory) (from_front (log_line (read_out (line_answered h (step_on line)))))

  -- a malformed line changes nothing
  pub malformed_stays : step_on line ≡ none → (ran_line h line memory).after.whole ≡ h
  unfolding ran_line line_answered reported stays
  malformed_stays is = rw is (ap (λ (o : After). o.whole) (either (room memory 0 (line_for (stays h 14 0 (standing_in h)).answer)) (stays h 14 0 (standing_in h)) (stays h 8 0 (standing_in h)) _ _)
      ∙ same (room memory 0 (line_for (stays h 14 0 (standing_in h)).answer)))
    where
      same : (b : Bool) → (cond b (stays h 14 0 (standing_in h)) (stays h 8 0 (standing_in h))).whole ≡ h
      same true = refl
      same false = refl

-- on a sound record a malformed line is answered as the rules answer it: 14, value 0, the running task as it stands
view_runs : (h : Whole) → (view h).running ≡ task_at h.state.running
unfolding view
view_runs h = refl

view_sound : (h : Whole) → sound_of h ≡ true → soundb (view h) ≡ true
unfolding sound_of
view_sound h e = and_r _ _ (and_r _ _ (and_r _ _ e))

stands_ruled : (h : Whole) → sound_of h ≡ true → standing_in h ≡ standing (view h)
unfolding standing_in standing
stands_ruled h e = rw (e, view_sound h e) (sym (view_runs h))

pub malformed_ruled : (h : Whole) → sound_of h ≡ true
    → (let a = malformed (view h) in (line_answered h none ≡ record { whole = h; answer = answer_for a.number a.value a.run }) × (a.state ≡ view h))
unfolding line_answered stays malformed
malformed_ruled h e = (ap (stays h 14 0) (stands_ruled h e), refl)

-- the lent memory behind a line that was run: the log line of its answer stands at the front and every byte behind it as it was, or, with the
-- log's 8 for want of room for the line that would report the answer, every byte as it was
pub data Logged (h : Whole) (line memory : List ℕ) (r : Came) (left : List ℕ) : Type 0 where
  at_the_front : r.written ≡ length (line_for r.after.answer) → left ≡ line_for r.after.answer ++ drop r.written memory → Logged h line memory r left
  without_room : length memory < length (line_for (line_answered h (step_on line)).answer) → r.after.answer ≡ (stays h 8 0 (standing_in h)).answer → left ≡ memory
      → Logged h line memory r left

refused_answered : (h : Whole) (o : Option Step) → Typed h.state → 1 < number_of (line_answered h o).answer → (line_answered h o).whole ≡ h
unfolding line_answered stays
refused_answered h none T k = refl
refused_answered h (some x) T k = refused_stays h x T k

-- demand 1 as a script meets it: a number other than 0 and 1 leaves the record, the words and the block as they were, and of the lent memory all but
-- the answer's log line
pub refused_line : (h : Whole) (line memory : List ℕ) → Typed h.state → 1 < number_of (ran_line h line memory).after.answer
    → ((ran_line h line memory).after.whole ≡ h) × Logged h line memory (ran_line h line memory) (memory_line h line memory)
unfolding ran_line memory_line reported put_bytes stays
refused_line h line memory T = go (which (room memory 0 log))
  where
    o : After
    o = line_answered h (step_on line)

    log : List ℕ
    log = line_for o.answer

    short : room memory 0 log ≡ false → length memory < length log
    short e = let k : length memory < 0 + length log = leb-false _ _ e in omega arith

    go : (room memory 0 log ≡ true) ⊎ (room memory 0 log ≡ false) → 1 < number_of (reported h o log memory).after.answer
        → ((reported h o log memory).after.whole ≡ h) × Logged h line memory (reported h o log memory) (put_bytes memory 0 log)
    go (inl e) = rw e (λ k. (refused_answered h (step_on line) T k, at_the_front refl (ap (λ n. log ++ drop n memory) (from_front log))))
    go (inr e) = rw e (λ k. (refl, without_room (short e) refl refl))

-- by what became of the log line: it was written, or it had no room
module _ (h : Whole) (o : After) (log memory : List ℕ) where
  pub reported_next : (n : ℕ) → put_answer memory 0 log ≡ Some n → came_to o n ≡ reported h o log memory
  unfolding put_answer reported
  reported_next n e = elim (which (room memory 0 log)) [
    | inl r ↦ let z : Some (0 + length log) ≡ Some n = rw r at e in rw r (ap (came_to o) (let y : 0 + length log ≡ n = cc in omega (arith, y)))
    | inr r ↦ let z : None ≡ Some n = rw r at e in absurd (let y : ◌≡◌ {A = ℕ} 0 1 = cc in omega arith)
  ]

  pub reported_full : put_answer memory 0 log ≡ None → came_to (stays h 8 0 (standing_in h)) 0 ≡ reported h o log memory
  unfolding put_answer reported
  reported_full e = elim (which (room memory 0 log)) [
    | inl r ↦ let z : Some (0 + length log) ≡ None = rw r at e in absurd (let y : ◌≡◌ {A = ℕ} 0 1 = cc in omega arith)
    | inr r ↦ rw r
  ]

-- a line by what it was answered
module _ (h : Whole) (line memory : List ℕ) (o : After) (is : o ≡ line_answered h (step_on line)) where
  pub answer_reported : reported h o (line_for o.answer) memory ≡ ran_line h line memory
  unfolding ran_line
  answer_reported = ap (λ p. reported h p (line_for p.answer) memory) is

  pub answer_memory : put_bytes memory 0 (line_for o.answer) ≡ memory_line h line memory
  unfolding memory_line
  answer_memory = ap (λ p. put_bytes memory 0 (line_for p.answer)) is

pub head_good : (line : List ℕ) → line ≡ header_bytes → (head_log line ≡ log_bytes) × (head_stage line ≡ running)
unfolding head_log head_stage same_bytes header_bytes ascii ◌and◌
head_good line e = (rw e, rw e)

pub head_bad : (line : List ℕ) → (line ≡ header_bytes → ⊥) → (head_log line ≡ bad_bytes) × (head_stage line ≡ over)
unfolding head_log head_stage
head_bad line other = elim (which (same_bytes line header_bytes)) [ inl e ↦ absurd (other (same_equal line header_bytes e)) | inr e ↦ (rw e, rw e) ]

module _ (line memory : List ℕ) where
  pub headed_next : (stage n : ℕ) → head_stage line ≡ stage → put_answer memory 0 (head_log line) ≡ Some n → Some (record { stage = stage; written = n }) ≡ headed line memory
  unfolding put_answer headed
  headed_next stage n s e = elim (which (room memory 0 (head_log line))) [
    | inl r ↦
        let z : Some (0 + length (head_log line)) ≡ Some n = rw r at e in
        let y : length (head_log line) ≡ n = (let w : 0 + length (head_log line) ≡ n = cc in omega (arith, w)) in
        rw r (λ i. Some (record { stage = sym s i; written = sym y i }))
    | inr r ↦ let z : None ≡ Some n = rw r at e in absurd (let y : ◌≡◌ {A = ℕ} 0 1 = cc in omega arith)
  ]

  pub headed_full : put_answer memory 0 (head_log line) ≡ None → None ≡ headed line memory
  unfolding put_answer headed
  headed_full e = elim (which (room memory 0 (head_log line))) [
    | inl r ↦ let z : Some (0 + length (head_log line)) ≡ None = rw r at e in absurd (let y : ◌≡◌ {A = ℕ} 0 1 = cc in omega arith)
    | inr r ↦ rw r
  ]
