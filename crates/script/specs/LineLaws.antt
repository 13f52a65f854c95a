-- Laws of one line of a script: what it is answered and what its log line came to are what it comes to; a line that was found, or none; no room.
use Rattle.std.proofs.Math.Path.{◌≡◌, refl, ap}
use Rattle.std.proofs.Common.{sym, ◌∙◌}
use mathlib.Core.List.{List, [], ◌∷◌}
use Rattle.std.specs.Prelude.{true, false, ℕ, ◌+◌, ◌≤◌, ◌<◌, eqb, Some, None, Option as RustOption}
use Rattle.std.proofs.Math.Logic.{inl, inr}
use native.Mathlib.Omega.{arith}
use Rattle.std.proofs.Math.ListN.{length}
use borrow.Author.Tests.{le-leb, leb-true}
use Rattle.lists.specs.TestLaws.{which, clash, by_test}
use Rattle.arrive.specs.Arrive.{Arrival}
use Rattle.arrive.specs.Feed.{found_line, arrivals_of}
use Rattle.arrive.specs.declared.Found.{Found}
use Rattle.arrive.specs.declared.Found.TheVariants as found
use Rattle.record.specs.StepRecord.{After, stays}
use Rattle.record.specs.Whole.{Whole}
use Rattle.record.specs.declared.Answer.{Answer}
use Rattle.text.specs.Place.{room, put_answer, put_bytes}
use Rattle.text.specs.Ascii.{ascii}
use Rattle.words.specs.Form.{same_bytes, header_bytes}
use Rattle.log_lines.specs.LogLine.{log_bytes, bad_bytes}
use Rattle.script_lines.specs.LineRun.{awaiting, running, line_answered, line_for, head_log, head_stage, headed, memory_head}
use Rattle.script.specs.Session.{log_at, line_log, line_whole, line_stage, Taken, line_taken, taken_memory, step_at, logged_at, line_in, lineb, found_taken, found_memory}
use Rattle.script_lines.specs.declared.run.Headed.{Headed}

-- no log line is empty: the first one
head_some : (line : List ℕ) → 0 < length (head_log line)
unfolding head_log log_bytes bad_bytes ascii
head_some line = by_test {A = List ℕ} (λ l. 0 < length l) (same_bytes line header_bytes) (λ e. omega arith) (λ e. omega arith)

none_some : {A : Type 0} {x : A} → ◌≡◌ {A = RustOption A} None (Some x) → ⊥
none_some e = let z : ◌≡◌ {A = ℕ} 0 1 = cc in omega arith

-- a log line, by where the script stands
module _ (stage : ℕ) (a : Answer) (line memory : List ℕ) where
  -- what became of an answer's log line
  pub answer_logged : eqb stage running ≡ true → (n : ℕ) → put_answer memory 0 (line_for a) ≡ Some n → Some (record { stage = stage; written = n }) ≡ logged_at stage a line memory
  unfolding put_answer logged_at line_stage
  answer_logged e n p = elim (which (room memory 0 (line_for a))) [
    | inl r ↦ (
        let z : Some (0 + length (line_for a)) ≡ Some n = rw r at p in
        let y : n ≡ length (line_for a) = (let w : 0 + length (line_for a) ≡ n = cc in omega (arith, w)) in
        rw (e, r) (λ i. Some (record { stage = stage; written = y i }))
        )
    | inr r ↦ let z : None ≡ Some n = rw r at p in absurd (let y : ◌≡◌ {A = ℕ} 0 1 = cc in omega arith)
  ]

  pub answer_full : eqb stage running ≡ true → put_answer memory 0 (line_for a) ≡ None → None ≡ logged_at stage a line memory
  unfolding put_answer logged_at
  answer_full e p = elim (which (room memory 0 (line_for a))) [
    | inl r ↦ let z : Some (0 + length (line_for a)) ≡ None = rw r at p in absurd (let y : ◌≡◌ {A = ℕ} 0 1 = cc in omega arith)
    | inr r ↦ rw (e, r)
  ]

  pub answer_memory : eqb stage running ≡ true → put_bytes memory 0 (line_for a) ≡ put_bytes memory 0 (log_at stage a line)
  answer_memory e = rw e

  -- what `run_header` answers
  pub header_logged : eqb stage running ≡ false → eqb stage awaiting ≡ true → (h : Headed) → headed line memory ≡ Some h
      → Some (record { stage = h.stage; written = h.written }) ≡ logged_at stage a line memory
  unfolding headed logged_at line_stage
  header_logged d e h is = elim (which (room memory 0 (head_log line))) [
    | inl r ↦
        let z : Some (record { stage = head_stage line; written = length (head_log line) }) ≡ Some h = rw r at is in
        let y : record { stage = head_stage line; written = length (head_log line) } ≡ h = cc in
        rw (d, e, r) (λ i. Some (record { stage = (sym y i).stage; written = (sym y i).written }))
    | inr r ↦ let z : None ≡ Some h = rw r at is in absurd (let y : ◌≡◌ {A = ℕ} 0 1 = cc in omega arith)
  ]

  pub header_full : eqb stage running ≡ false → eqb stage awaiting ≡ true → headed line memory ≡ None → None ≡ logged_at stage a line memory
  unfolding headed logged_at
  header_full d e is = elim (which (room memory 0 (head_log line))) [
    | inl r ↦
        let z : Some (record { stage = head_stage line; written = length (head_log line) }) ≡ None = rw r at is in
        absurd (none_some (sym z))
    | inr r ↦ rw (d, e, r)
  ]

  pub header_memory : eqb stage running ≡ false → eqb stage awaiting ≡ true → memory_head line memory ≡ put_bytes memory 0 (log_at stage a line)
  unfolding memory_head
  header_memory d e = rw (d, e)

  -- behind a bad first line
  pub passed_logged : eqb stage running ≡ false → eqb stage awaiting ≡ false → Some (record { stage = stage; written = 0 }) ≡ logged_at stage a line memory
  unfolding logged_at line_stage
  passed_logged d e = rw (d, e, le-leb 0 (length memory) (omega arith))

  pub passed_memory : eqb stage running ≡ false → eqb stage awaiting ≡ false → memory ≡ put_bytes memory 0 (log_at stage a line)
  unfolding put_bytes
  passed_memory d e = rw (d, e, le-leb 0 (length memory) (omega arith))

pub ruleset log_lines = (answer_logged, answer_full, answer_memory, header_logged, header_full, header_memory, passed_logged, passed_memory)

-- one line: what it is answered, and what its log line came to, are what it comes to
module _ (k : Whole) (stage : ℕ) (line memory : List ℕ) (o : After) (is : o ≡ line_answered k (step_at stage line)) where
  whole_at : o.whole ≡ line_whole k stage line
  unfolding step_at line_answered line_whole stays
  whole_at = ap (λ (p : After). p.whole) is ∙ elim (which (eqb stage running)) [ inl e ↦ rw e | inr e ↦ rw e ]

  log_at_lem : log_at stage o.answer line ≡ line_log k stage line
  unfolding step_at line_log
  log_at_lem = ap (λ (p : After). log_at stage p.answer line) is ∙ elim (which (eqb stage running)) [ inl e ↦ rw e | inr e ↦ rw e ]

  pub logged_memory : put_bytes memory 0 (log_at stage o.answer line) ≡ taken_memory k stage line memory
  unfolding taken_memory
  logged_memory = ap (put_bytes memory 0) log_at_lem

  pub logged_taken : (l : Headed) → Some l ≡ logged_at stage o.answer line memory → (record { whole = o.whole; stage = l.stage; written = l.written; full = false }) ≡ line_taken k stage line memory
  unfolding logged_at line_taken
  logged_taken l so = elim (which (room memory 0 (line_log k stage line))) [
    | inl r ↦
        let z : Some l ≡ Some (record { stage = line_stage stage line; written = length (line_log k stage line) }) = rw (log_at_lem, r) at so in
        let y : l ≡ record { stage = line_stage stage line; written = length (line_log k stage line) } = cc in
        rw (y, whole_at, r)
    | inr r ↦ let z : Some l ≡ None = rw (log_at_lem, r) at so in absurd (let y : ◌≡◌ {A = ℕ} 0 1 = cc in omega arith)
  ]

  pub logged_stopped : None ≡ logged_at stage o.answer line memory → (line_taken k stage line memory).full ≡ true
  unfolding logged_at line_taken
  logged_stopped so = elim (which (room memory 0 (line_log k stage line))) [
    | inl r ↦
        let z : None ≡ Some (record { stage = line_stage stage line; written = length (line_log k stage line) }) = rw (log_at_lem, r) at so in
        absurd (none_some z)
    | inr r ↦ rw r
  ]

-- a line's end was found, or none
module _ (k : Whole) (stage : ℕ) (carry bytes memory : List ℕ) where
  pub line_taken_lem : (f : Found) → lineb f ≡ true → line_taken k stage (found_line carry bytes f) memory ≡ found_taken k stage (arrivals_of carry bytes f) memory
  unfolding lineb found_taken line_in
  line_taken_lem (found.Part start end) e = refl
  line_taken_lem (found.Carried n) e = refl
  line_taken_lem found.Long e = refl
  line_taken_lem found.Nothing e = absurd (clash e refl)

  pub line_memory : (f : Found) → lineb f ≡ true → taken_memory k stage (found_line carry bytes f) memory ≡ found_memory k stage (arrivals_of carry bytes f) memory
  unfolding lineb found_memory line_in
  line_memory (found.Part start end) e = refl
  line_memory (found.Carried n) e = refl
  line_memory found.Long e = refl
  line_memory found.Nothing e = absurd (clash e refl)

pub none_found : (f : Found) → lineb f ≡ false → f ≡ found.Nothing
unfolding lineb
none_found (found.Part start end) e = absurd (clash refl e)
none_found (found.Carried n) e = absurd (clash refl e)
none_found found.Long e = absurd (clash refl e)
none_found found.Nothing e = refl

-- where there is no room nothing is written
module _ (k : Whole) (stage : ℕ) (memory : List ℕ) where
  pub stop_memory : (es : List Arrival) → (found_taken k stage es memory).full ≡ true → found_memory k stage es memory ≡ memory
  unfolding found_taken found_memory line_taken taken_memory put_bytes
  stop_memory [] h = refl
  stop_memory (e ∷ es) h = elim (which (room memory 0 (line_log k stage (line_in e)))) [
    | inl r ↦ absurd (clash (rw r at h) refl)
    | inr r ↦ rw r
  ]

  pub stop_taken : (es : List Arrival) → (found_taken k stage es memory).full ≡ true → found_taken k stage es memory ≡ record { whole = k; stage = stage; written = 0; full = true }
  unfolding found_taken line_taken
  stop_taken [] h = absurd (clash h refl)
  stop_taken (e ∷ es) h = elim (which (room memory 0 (line_log k stage (line_in e)))) [
    | inl r ↦ absurd (clash (rw r at h) refl)
    | inr r ↦ rw r
  ]

  -- what is written is not more than the memory that is lent for it
  pub found_short : (es : List Arrival) → (found_taken k stage es memory).written ≤ length memory
  unfolding found_taken line_taken
  found_short [] = omega arith
  found_short (e ∷ es) =
      let log = line_log k stage (line_in e) in
      by_test {A = Taken} (λ r. r.written ≤ length memory) (room memory 0 log)
      (λ r. let h : 0 + length log ≤ length memory = leb-true _ _ r in omega arith) (λ r. omega arith)
