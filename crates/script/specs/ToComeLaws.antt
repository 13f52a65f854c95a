-- Laws of the log that a row of lines comes to: in two parts, with the end, and of all lines of a text, which is the whole log.
use Rattle.std.specs.Prelude.{◌≡◌, refl, List, [], ◌∷◌, ◌++◌, map, Bool, true, false, cond, ℕ, ◌≤◌, ◌<◌, eqb, leb, length}
use Rattle.std.proofs.Common.{ap, sym, ◌∙◌, append-nil, append_assoc, inl, inr, arith, eqb-true, leb-false}
use Rattle.std.proofs.Math.Option.{none}
use Rattle.std.proofs.lemmas.Bool.{lt-leb}
use Rattle.lists.specs.TestLaws.{which, by_test}
use Rattle.arrive.specs.Arrive.{Arrival, Line, marked}
use Rattle.text.specs.Cut.{pieces}
use Rattle.text.specs.Fields.{fields}
use Rattle.record.specs.DemandRecord.{fresh_with}
use Rattle.record.specs.Whole.{Whole}
use Rattle.text.specs.Ascii.{ascii}
use Rattle.words.specs.Form.{longest, words, same_bytes, numbers_of, made_by, made_from, step_in, step_on}
use Rattle.log_lines.specs.LogLine.{log_bytes, bad_bytes}
use Rattle.words.specs.Form.{header_bytes}
use Rattle.words.specs.SameLaws.{same_length}
use Rattle.script_lines.specs.LineRun.{awaiting, running, over, line_answered, line_for, head_log, head_stage}
use Rattle.script.specs.WholeLog.{log_from, log_of}
use Rattle.script.specs.Session.{line_log, line_whole, line_stage, line_in, last_arrivals}
use Rattle.script.specs.ToCome.{arrivals_log, arrivals_whole, arrivals_stage, closing, all_log}

-- in two rows
log_append : (a b : List Arrival) (k : Whole) (stage : ℕ) → arrivals_log k stage (a ++ b) ≡ arrivals_log k stage a ++ arrivals_log (arrivals_whole k stage a) (arrivals_stage stage a) b
unfolding arrivals_log arrivals_whole arrivals_stage
log_append [] b k stage = refl
log_append (e ∷ a) b k stage =
    rw (log_append a b (line_whole k stage (line_in e)) (line_stage stage (line_in e)))
    (sym (append_assoc (line_log k stage (line_in e)) (arrivals_log (line_whole k stage (line_in e)) (line_stage stage (line_in e)) a) _))

stage_append : (a b : List Arrival) (stage : ℕ) → arrivals_stage stage (a ++ b) ≡ arrivals_stage (arrivals_stage stage a) b
unfolding arrivals_stage
stage_append [] b stage = refl
stage_append (e ∷ a) b stage = stage_append a b (line_stage stage (line_in e))

-- after a line, a first line is awaited no more
line_moves : (stage : ℕ) (line : List ℕ) → closing (line_stage stage line) ≡ []
unfolding line_stage head_stage closing
line_moves stage line = elim (which (eqb stage running)) [
  | inl e ↦ let z : stage ≡ running = eqb-true _ _ e in rw (e, z)
  | inr e ↦ elim (which (eqb stage awaiting)) [
    | inl f ↦ rw (e, f) (by_test (λ n. cond (eqb n awaiting) bad_bytes [] ≡ []) (same_bytes line header_bytes) (λ g. refl) (λ g. refl))
    | inr f ↦ rw (e, f, f)
  ]
]

-- not even a first line: as with an empty one
no_line : (k : Whole) → arrivals_log k awaiting (Line [] ∷ []) ≡ closing awaiting
unfolding arrivals_log line_log line_in head_log same_bytes header_bytes closing bad_bytes ascii
no_line k = refl

none_closes : (stage : ℕ) → eqb stage awaiting ≡ false → closing stage ≡ []
unfolding closing
none_closes stage e = rw e

-- the end: the line that was left, or `bad` where not even a first line came
pub end_log : (k : Whole) (stage : ℕ) (es : List Arrival) → length es ≤ 1 → arrivals_log k stage (last_arrivals stage es) ≡ all_log k stage es
unfolding last_arrivals all_log arrivals_log arrivals_stage
end_log k stage [] h = elim (which (eqb stage awaiting)) [
  | inl e ↦ let z : stage ≡ awaiting = eqb-true _ _ e in rw z (no_line k)
  | inr e ↦ rw (e, none_closes stage e)
]
end_log k stage (e ∷ []) h = sym (rw (line_moves stage (line_in e)) (append-nil (line_log k stage (line_in e) ++ [])))
end_log k stage (e ∷ d ∷ es) h = absurd (omega arith)

pub all_append : (a b : List Arrival) (k : Whole) (stage : ℕ) → all_log k stage (a ++ b) ≡ arrivals_log k stage a ++ all_log (arrivals_whole k stage a) (arrivals_stage stage a) b
unfolding all_log
all_append a b k stage =
    rw (log_append a b k stage, stage_append a b stage)
    (append_assoc (arrivals_log k stage a) (arrivals_log (arrivals_whole k stage a) (arrivals_stage stage a) b) (closing (arrivals_stage (arrivals_stage stage a) b)))

-- an over-long line is no step and no first line, as an empty one is none
empty_none : step_on [] ≡ none
unfolding step_on step_in fields pieces made_from made_by words same_bytes ascii numbers_of
empty_none = refl

long_none : (line : List ℕ) → longest < length line → step_on line ≡ none
unfolding step_on
long_none line h = rw (lt-leb _ _ h)

marked_step : (line : List ℕ) → step_on (line_in (marked longest line)) ≡ step_on line
unfolding line_in marked
marked_step line = elim (which (leb (length line) longest)) [
  | inl e ↦ rw e
  | inr e ↦ rw e (empty_none ∙ sym (long_none line (leb-false _ _ e)))
]

header_length : length header_bytes ≡ 8
unfolding header_bytes ascii
header_length = refl

marked_head : (line : List ℕ) → same_bytes (line_in (marked longest line)) header_bytes ≡ same_bytes line header_bytes
unfolding line_in marked
marked_head line = elim (which (leb (length line) longest)) [
  | inl e ↦ rw e
  | inr e ↦
      let far : longest < length line = leb-false _ _ e in
      rw (e, same_length [] header_bytes (λ z. omega (arith, header_length, z)), same_length line header_bytes (λ z. omega (arith, header_length, z, far)))
]

-- the lines after the first: each is run, or, behind a bad first line, none is
running_log : (ls : List (List ℕ)) (k : Whole) → all_log k running (map (marked longest) ls) ≡ log_from k ls
unfolding all_log arrivals_log arrivals_stage line_log line_whole line_stage closing log_from
running_log [] k = refl
running_log (l ∷ ls) k =
    let o = line_answered k (step_on l) in
    rw (marked_step l) (append_assoc (line_for o.answer) (arrivals_log o.whole running (map (marked longest) ls)) (closing (arrivals_stage running (map (marked longest) ls)))
    ∙ ap (λ r. line_for o.answer ++ r) (running_log ls o.whole))

over_log : (ls : List (List ℕ)) (k : Whole) → all_log k over (map (marked longest) ls) ≡ []
unfolding all_log arrivals_log arrivals_stage line_log line_whole line_stage closing
over_log [] k = refl
over_log (l ∷ ls) k = over_log ls k

-- the first line
first_log : (k : Whole) (e : Arrival) (es : List Arrival) → all_log k awaiting (e ∷ es) ≡ head_log (line_in e) ++ all_log k (head_stage (line_in e)) es
unfolding all_log arrivals_log arrivals_stage line_log line_whole line_stage
first_log k e es = append_assoc (head_log (line_in e)) (arrivals_log k (head_stage (line_in e)) es) (closing (arrivals_stage (head_stage (line_in e)) es))

pub all_log_lem : (block : List ℕ) (ls : List (List ℕ)) → all_log (fresh_with block) awaiting (map (marked longest) ls) ≡ log_of block ls
unfolding all_log arrivals_log arrivals_stage closing log_of head_log head_stage
all_log_lem block [] = refl
all_log_lem block (l ∷ ls) = first_log (fresh_with block) (marked longest l) (map (marked longest) ls) ∙ (rw (marked_head l) (go (same_bytes l header_bytes)))
  where
    rest : ℕ → List ℕ
    rest stage = all_log (fresh_with block) stage (map (marked longest) ls)

    go : (b : Bool) → cond b log_bytes bad_bytes ++ rest (cond b running over) ≡ cond b (log_bytes ++ log_from (fresh_with block) ls) bad_bytes
    go true = ap (λ r. log_bytes ++ r) (running_log ls (fresh_with block))
    go false = ap (λ r. bad_bytes ++ r) (over_log ls (fresh_with block)) ∙ append-nil bad_bytes
