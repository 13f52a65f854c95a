-- Laws of log lines in lent memory: a line that is taken stands there whole behind what was written, and how much room is enough for one.
use Rattle.std.proofs.Math.Path.{◌≡◌, refl, ap, sym}
use Rattle.std.proofs.Common.{◌∙◌}
use mathlib.Core.List.{List, [], ◌∷◌, ◌++◌, append-nil}
use Rattle.std.proofs.Math.Logic.{inl, inr}
use Rattle.std.specs.Prelude.{ℕ, ◌+◌, ◌≤◌, eqb, false}
use native.Mathlib.Omega.{arith}
use Rattle.std.proofs.Math.ListN.{length, take, drop, length-append, length-drop}
use Rattle.std.proofs.Math.Seq.{length-take-le, take-append-add}
use borrow.Author.Tests.{le-leb, leb-true}
use Rattle.lists.specs.TestLaws.{which, clash, by_test}
use Rattle.arrive.specs.Arrive.{Arrival}
use Rattle.arrive.specs.Feed.{arrivals_of}
use Rattle.arrive.specs.declared.Found.{Found}
use Rattle.arrive.specs.declared.Found.TheVariants as found
use Rattle.text.specs.Place.{room}
use Rattle.text.specs.PlaceLaws.{put_laid, length_put, take_laid}
use Rattle.record.specs.Whole.{Whole}
use Rattle.text.specs.Ascii.{ascii}
use Rattle.words.specs.Form.{same_bytes}
use Rattle.log_lines.specs.LogLine.{log_bytes, bad_bytes}
use Rattle.words.specs.Form.{header_bytes}
use Rattle.script_lines.specs.LineRun.{awaiting, running, head_log}
use Rattle.log_lines.specs.LogLineLaws.{line_room_lem}
use Rattle.script.specs.Session.{line_log, Taken, line_taken, taken_memory, line_in, found_taken, found_memory, turned, Stand, fed_at, carry_at, line_at, free_of, turn_at, stand_at}
use Rattle.script.specs.LineLaws.{found_short}
use Rattle.log_lines.specs.LogLine.{line_room}
use Rattle.script.specs.ToCome.{arrivals_log, arrivals_whole, arrivals_stage}

log_length : length log_bytes ≤ line_room
unfolding log_bytes ascii
log_length = omega arith

bad_length : length bad_bytes ≤ line_room
unfolding bad_bytes ascii
bad_length = omega arith

head_room : (line : List ℕ) → length (head_log line) ≤ line_room
unfolding head_log
head_room line = by_test {A = List ℕ} (λ l. length l ≤ line_room) (same_bytes line header_bytes) (λ e. log_length) (λ e. bad_length)

nil_room : length {A = ℕ} [] ≤ line_room
nil_room = omega arith

-- no log line is longer than `line_room`
log_room : (k : Whole) (stage : ℕ) (line : List ℕ) → length (line_log k stage line) ≤ line_room
unfolding line_log
log_room k stage line =
    by_test {A = List ℕ} (λ l. length l ≤ line_room) (eqb stage running)
    (λ e. line_room_lem _ _ _)
    (λ e. by_test {A = List ℕ} (λ l. length l ≤ line_room) (eqb stage awaiting) (λ f. head_room line) (λ f. nil_room))

module _ (k : Whole) (stage : ℕ) (memory : List ℕ) where
  pub found_length : (es : List Arrival) → length (found_memory k stage es memory) ≡ length memory
  unfolding found_memory taken_memory
  found_length [] = refl
  found_length (e ∷ es) = length_put memory 0 (line_log k stage (line_in e))

  -- `line_room` bytes are enough for a line, which takes no more
  pub found_fits : (es : List Arrival) → line_room ≤ length memory → (found_taken k stage es memory).full ≡ false
  unfolding found_taken line_taken
  found_fits [] h = refl
  found_fits (e ∷ es) h = rw (le-leb (0 + length (line_log k stage (line_in e))) (length memory) (omega (arith, log_room k stage (line_in e)))) refl

  pub found_few : (es : List Arrival) → (found_taken k stage es memory).written ≤ line_room
  unfolding found_taken line_taken
  found_few [] = omega arith
  found_few (e ∷ es) =
      by_test {A = Taken} (λ t. t.written ≤ line_room) (room memory 0 (line_log k stage (line_in e))) (λ r. log_room k stage (line_in e)) (λ r. omega arith)

  -- a line that is taken, or none: its record and its stage, and its log line at the front of the memory
  pub record Stands (es : List Arrival) : Type 0 where
    pub whole : (found_taken k stage es memory).whole ≡ arrivals_whole k stage es
    pub stage_is : (found_taken k stage es memory).stage ≡ arrivals_stage stage es
    pub log : take (found_taken k stage es memory).written (found_memory k stage es memory) ≡ arrivals_log k stage es

  pub found_stands : (es : List Arrival) → length es ≤ 1 → (found_taken k stage es memory).full ≡ false → Stands es
  unfolding found_taken found_memory line_taken taken_memory arrivals_whole arrivals_stage arrivals_log
  found_stands [] one n = record { whole = refl; stage_is = refl; log = refl }
  found_stands (e ∷ []) one n = elim (which (room memory 0 (line_log k stage (line_in e)))) [
    | inl r ↦
        let line = line_log k stage (line_in e) in
        let h : 0 + length line ≤ length memory = leb-true _ _ r in
        let front : take (length line) (take 0 memory ++ line ++ drop (0 + length line) memory) ≡ line =
        ap (λ j. take j (take 0 memory ++ line ++ drop (0 + length line) memory)) (let z : length line ≡ 0 + length line = omega arith in z) ∙ take_laid memory 0 line h in
        record { whole = rw r; stage_is = rw r; log = rw (put_laid memory 0 line h, r) (front ∙ sym (append-nil line)) }
    | inr r ↦ absurd (clash refl (rw r at n))
  ]
  found_stands (e ∷ d ∷ es) one n = absurd (omega arith)

-- at most one line ends in the bytes up to a line's end
pub one_arrival : (carry bytes : List ℕ) (f : Found) → length (arrivals_of carry bytes f) ≤ 1
one_arrival carry bytes (found.Part start end) = omega arith
one_arrival carry bytes (found.Carried n) = omega arith
one_arrival carry bytes found.Long = omega arith
one_arrival carry bytes found.Nothing = omega arith

-- what was written: so many of the memory's first bytes
abbrev pub written : Stand → List ℕ
written x = take x.written x.memory

-- one turn, behind what is written
module _ (bytes : List ℕ) (x : Stand) (fits : x.written ≤ length x.memory) where
  pub turn_fits : (stand_at bytes x).written ≤ length (stand_at bytes x).memory
  unfolding stand_at turn_at turned
  turn_fits =
      omega (
        arith,
        found_short x.session.whole x.session.stage (free_of x) (line_at bytes x),
        found_length x.session.whole x.session.stage (free_of x) (line_at bytes x),
        length-append (take x.written x.memory) (found_memory x.session.whole x.session.stage (line_at bytes x) (free_of x)),
        length-take-le x.written x.memory fits,
      )

  -- the memory is as long as before, and a turn fills no more than `line_room` of it
  pub turn_length : length (stand_at bytes x).memory ≡ length x.memory
  unfolding stand_at turn_at turned
  turn_length =
      omega (
        arith,
        found_length x.session.whole x.session.stage (free_of x) (line_at bytes x),
        length-append (take x.written x.memory) (found_memory x.session.whole x.session.stage (line_at bytes x) (free_of x)),
        length-take-le x.written x.memory fits,
        length-drop x.written x.memory,
      )

  pub turn_few : (stand_at bytes x).written ≤ x.written + line_room
  unfolding stand_at turn_at turned
  turn_few = omega (arith, found_few x.session.whole x.session.stage (free_of x) (line_at bytes x))

  pub turn_room : x.written + line_room ≤ length x.memory → (turn_at bytes x).full ≡ false
  unfolding turn_at turned
  turn_room h = found_fits x.session.whole x.session.stage (free_of x) (line_at bytes x) (omega (arith, length-drop x.written x.memory))

  module _ (n : (turn_at bytes x).full ≡ false) where
    turn_stands : Stands x.session.whole x.session.stage (free_of x) (line_at bytes x)
    unfolding turn_at turned
    turn_stands = found_stands x.session.whole x.session.stage (free_of x) (line_at bytes x) (one_arrival (carry_at bytes x) bytes (fed_at bytes x).found) n

    pub turn_whole : (stand_at bytes x).session.whole ≡ arrivals_whole x.session.whole x.session.stage (line_at bytes x)
    unfolding stand_at turn_at turned
    turn_whole = turn_stands.whole

    pub turn_stage : (stand_at bytes x).session.stage ≡ arrivals_stage x.session.stage (line_at bytes x)
    unfolding stand_at turn_at turned
    turn_stage = turn_stands.stage_is

    pub turn_log : written (stand_at bytes x) ≡ written x ++ arrivals_log x.session.whole x.session.stage (line_at bytes x)
    unfolding stand_at turn_at turned
    turn_log =
        let t = found_taken x.session.whole x.session.stage (line_at bytes x) (free_of x) in
        let m = found_memory x.session.whole x.session.stage (line_at bytes x) (free_of x) in
        let size : x.written ≡ length (take x.written x.memory) = sym (length-take-le x.written x.memory fits) in
        ap (λ j. take (j + t.written) (take x.written x.memory ++ m)) size
        ∙ take-append-add (take x.written x.memory) m t.written
        ∙ ap (λ l. written x ++ l) turn_stands.log
