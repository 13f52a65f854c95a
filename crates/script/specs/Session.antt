-- A script whose bytes arrive in pieces: what each piece comes to, and what stands in all lent memory then.
use Rattle.std.specs.Prelude.{ℕ, zero, suc, ◌+◌, List, [], ◌∷◌, ◌++◌, Bool, true, false, Some, None, Option as RustOption, cond, eqb, ltb, length, take, drop}
use Rattle.std.proofs.Math.Option.{Option, none}
use Rattle.text.specs.Place.{room, put_bytes}
use Rattle.arrive.specs.Arrive.{Arrival, Line, Long}
use Rattle.arrive.specs.Feed.{fed, carry_after, last_found, arrivals_of}
use Rattle.arrive.specs.declared.Fed.{Fed}
use Rattle.arrive.specs.declared.Found.{Found}
use Rattle.arrive.specs.declared.Found.TheVariants as found
use Rattle.record.specs.DemandRecord.{fresh_record, fresh_with}
use Rattle.record.specs.Whole.{Whole, whole}
use Rattle.record.specs.declared.Answer.{Answer}
use Rattle.rules.specs.Step.{Step}
use Rattle.words.specs.Form.{step_on}
use Rattle.script_lines.specs.LineRun.{awaiting, running, line_answered, line_for, head_log, head_stage}
use Rattle.script.specs.declared.session.Session.{Session}
use Rattle.script.specs.declared.session.Moved.{Moved}
use Rattle.script_lines.specs.declared.run.Headed.{Headed}

-- a fresh record, the first line awaited, nothing held
unfoldable pub fresh_session : Session
fresh_session = record { state = fresh_record; stage = awaiting; held = 0 }

-- a session with the words and the block that are lent to it
pub record Script : Type 0 where
  pub whole : Whole
  pub stage : ℕ
  pub held : ℕ

abbrev pub script_of : Session → List ℕ → List ℕ → Script
script_of s words block = record { whole = whole s.state words block; stage = s.stage; held = s.held }

-- what is handed back of it, where words and block lie in lent memory
abbrev pub session_of : Script → Session
session_of s = record { state = s.whole.state; stage = s.stage; held = s.held }

-- a script before its first byte, with the words of a fresh record and any block
unfoldable pub fresh_script : List ℕ → Script
fresh_script block = record { whole = fresh_with block; stage = awaiting; held = 0 }

-- a line's log line, and the record and the stage after it: the first line, a step, or a line after a bad first line, which is passed over
abbrev pub log_at : ℕ → Answer → List ℕ → List ℕ
log_at stage a line = cond (eqb stage running) (line_for a) (cond (eqb stage awaiting) (head_log line) [])

unfoldable pub line_log : Whole → ℕ → List ℕ → List ℕ
line_log h stage line = log_at stage (line_answered h (step_on line)).answer line

unfoldable pub line_whole : Whole → ℕ → List ℕ → Whole
line_whole h stage line = cond (eqb stage running) (line_answered h (step_on line)).whole h

unfoldable pub line_stage : ℕ → List ℕ → ℕ
line_stage stage line = cond (eqb stage running) stage (cond (eqb stage awaiting) (head_stage line) stage)

-- what one line came to: the record, where the script stands, how many bytes of log were written, and whether there was no room for them
pub record Taken : Type 0 where
  pub whole : Whole
  pub stage : ℕ
  pub written : ℕ
  pub full : Bool

-- one line with lent memory: taken where its log line has room; else nothing is done: the log's 8
unfoldable pub line_taken : Whole → ℕ → List ℕ → List ℕ → Taken
line_taken h stage line memory =
    cond (room memory 0 (line_log h stage line))
    (record { whole = line_whole h stage line; stage = line_stage stage line; written = length (line_log h stage line); full = false })
    (record { whole = h; stage = stage; written = 0; full = true })

-- the lent memory then
unfoldable pub taken_memory : Whole → ℕ → List ℕ → List ℕ → List ℕ
taken_memory h stage line memory = put_bytes memory 0 (line_log h stage line)

-- the same in the order in which the code goes: which step a line is (before a good first line, and after a bad one, no line is a step), and then,
-- with what that is answered, its log line in lent memory
unfoldable pub step_at : ℕ → List ℕ → Option Step
step_at stage line = cond (eqb stage running) (step_on line) none

unfoldable pub logged_at : ℕ → Answer → List ℕ → List ℕ → RustOption Headed
logged_at stage a line memory =
    cond (room memory 0 (log_at stage a line)) (Some (record { stage = line_stage stage line; written = length (log_at stage a line) })) None

-- an over-long line is neither a step nor the first line, as an empty one is none
unfoldable pub line_in : Arrival → List ℕ
line_in (Line l) = l
line_in Long = []

-- whether a line's end was found
unfoldable pub lineb : Found → Bool
lineb (found.Part start end) = true
lineb (found.Carried n) = true
lineb found.Long = true
lineb found.Nothing = false

-- where one was, its line, and else nothing
unfoldable pub found_taken : Whole → ℕ → List Arrival → List ℕ → Taken
found_taken h stage [] memory = record { whole = h; stage = stage; written = 0; full = false }
found_taken h stage (e ∷ es) memory = line_taken h stage (line_in e) memory

unfoldable pub found_memory : Whole → ℕ → List Arrival → List ℕ → List ℕ
found_memory h stage [] memory = memory
found_memory h stage (e ∷ es) memory = taken_memory h stage (line_in e) memory

-- what a piece, or its bytes up to a line's end, came to: the script then, the place behind what was taken, how many bytes of log were written, and whether
-- a line had no room for its log line: the log's 8
pub record Turn : Type 0 where
  pub session : Script
  pub next : ℕ
  pub written : ℕ
  pub full : Bool

-- what is handed back of it
abbrev pub moved_of : Turn → Moved
moved_of t = record { session = session_of t.session; next = t.next; written = t.written; full = t.full }

-- the bytes up to a line's end, and the line that ends there
abbrev pub turn_with : Fed → Taken → Turn
turn_with f t =
    record { session = record { whole = t.whole; stage = t.stage; held = f.held }; next = f.next; written = t.written; full = t.full }

unfoldable pub turned : Script → Fed → List ℕ → List ℕ → List ℕ → Turn
turned s f carry bytes memory = turn_with f (found_taken s.whole s.stage (arrivals_of carry bytes f.found) memory)

-- where a piece stands: the session, the carry, the lent memory, the place in the piece behind what was taken, and how many bytes are written
pub record Stand : Type 0 where
  pub session : Script
  pub carry : List ℕ
  pub memory : List ℕ
  pub next : ℕ
  pub written : ℕ

-- the bytes from there on up to the next line's end, cut: the answer, the carry then, and the line that ends there, or none
abbrev pub fed_at : List ℕ → Stand → Fed
fed_at bytes x = fed x.carry x.session.held bytes x.next

abbrev pub carry_at : List ℕ → Stand → List ℕ
carry_at bytes x = carry_after x.carry x.session.held bytes x.next

abbrev pub line_at : List ℕ → Stand → List Arrival
line_at bytes x = arrivals_of (carry_at bytes x) bytes (fed_at bytes x).found

-- the memory behind what is written
abbrev pub free_of : Stand → List ℕ
free_of x = drop x.written x.memory

-- that line taken: its answer, and where the piece stands then
unfoldable pub turn_at : List ℕ → Stand → Turn
turn_at bytes x = turned x.session (fed_at bytes x) (carry_at bytes x) bytes (free_of x)

unfoldable pub stand_at : List ℕ → Stand → Stand
stand_at bytes x =
    let m = turn_at bytes x in
    record {
      session = m.session;
      carry = carry_at bytes x;
      memory = take x.written x.memory ++ found_memory x.session.whole x.session.stage (line_at bytes x) (free_of x);
      next = m.next;
      written = x.written + m.written;
    }

-- or without room: as before that line, but for what the carry was given of it, behind the bytes that it holds
abbrev pub stop_at : List ℕ → Stand → Stand
stop_at bytes x = record { session = x.session; carry = carry_at bytes x; memory = x.memory; next = x.next; written = x.written }

-- how far a piece was taken, and whether it stopped for want of room
pub record Through : Type 0 where
  pub stand : Stand
  pub full : Bool

-- line by line, at most as many as the fuel, up to the piece's end, or to a line whose log line has no room
unfoldable pub through : ℕ → List ℕ → Stand → Through
through zero bytes x = record { stand = x; full = false }
through (suc fuel) bytes x =
    cond (ltb x.next (length bytes))
    (cond (turn_at bytes x).full (record { stand = stop_at bytes x; full = true }) (through fuel bytes (stand_at bytes x)))
    (record { stand = x; full = false })

-- a session with nothing written yet
abbrev pub stand_for : Script → List ℕ → List ℕ → Stand
stand_for s carry memory = record { session = s; carry = carry; memory = memory; next = 0; written = 0 }

-- a whole piece, with lent memory for its log lines: it has at most as many lines' ends as bytes
unfoldable pub piece_run : Script → List ℕ → List ℕ → List ℕ → Through
piece_run s carry bytes memory = through (length bytes) bytes (stand_for s carry memory)

abbrev pub moved_to : Through → Moved
moved_to t = record { session = session_of t.stand.session; next = t.stand.next; written = t.stand.written; full = t.full }

-- nothing more arrives: a last line without LF counts; a script with no line at all has no first line, and is answered as with an empty one
unfoldable pub last_arrivals : ℕ → List Arrival → List Arrival
last_arrivals stage [] = cond (eqb stage awaiting) (Line [] ∷ []) []
last_arrivals stage (e ∷ es) = e ∷ es

unfoldable pub left_arrivals : ℕ → List ℕ → ℕ → List Arrival
left_arrivals stage carry held = last_arrivals stage (arrivals_of carry [] (last_found carry held))

-- whether any is left
unfoldable pub leftb : ℕ → ℕ → Bool
leftb stage held = cond (eqb held 0) (eqb stage awaiting) true

-- the end: where the last line's log line has no room, the session is as handed in
unfoldable pub end_run : Script → List ℕ → List ℕ → Turn
end_run s carry memory =
    let t = found_taken s.whole s.stage (left_arrivals s.stage carry s.held) memory in
    record {
      session = record { whole = t.whole; stage = t.stage; held = cond t.full s.held 0 };
      next = 0;
      written = t.written;
      full = t.full;
    }

unfoldable pub end_memory : Script → List ℕ → List ℕ → List ℕ
end_memory s carry memory = found_memory s.whole s.stage (left_arrivals s.stage carry s.held) memory
