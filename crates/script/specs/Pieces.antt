-- A whole script that arrives in pieces, each with lent memory of its own: the log that is handed out, call by call.
use Rattle.std.specs.Prelude.{ℕ, ◌*◌, ◌≤◌, List, [], ◌∷◌, ◌++◌, cond, length, take, drop}
use Rattle.std.proofs.Math.Option.{Option, none, some}
use Rattle.log_lines.specs.LogLine.{line_room}
use Rattle.script.specs.Session.{Script, fresh_script, piece_run, end_run, end_memory}

-- bytes that newly arrive, and the memory that is lent for log lines, whatever it holds
pub record Piece : Type 0 where
  pub bytes : List ℕ
  pub memory : List ℕ

-- room for the log lines of a piece: a line takes a byte at least, its LF
abbrev pub Roomy : Piece → Type 0
Roomy p = line_room * length p.bytes ≤ length p.memory

pub data AllRoomy : List Piece → Type 0 where
  none_roomy : AllRoomy []
  more_roomy : {p : Piece} {ps : List Piece} → Roomy p → AllRoomy ps → AllRoomy (p ∷ ps)

-- a script between two calls: the session, the carry, the bytes that a stop left over, and the log so far
pub record Underway : Type 0 where
  pub session : Script
  pub carry : List ℕ
  pub left : List ℕ
  pub log : List ℕ

abbrev pub starting : List ℕ → List ℕ → Underway
starting block carry = record { session = fresh_script block; carry = carry; left = []; log = [] }

-- one call, which is handed what a stop left over and then what newly arrived: a session that stopped goes on from where it stopped
unfoldable pub onward : Underway → Piece → Underway
onward u p =
    let bytes = u.left ++ p.bytes in
    let t = piece_run u.session u.carry bytes p.memory in
    record {
      session = t.stand.session;
      carry = t.stand.carry;
      left = drop t.stand.next bytes;
      log = u.log ++ take t.stand.written t.stand.memory;
    }

-- one call after another
unfoldable pub underway : Underway → List Piece → Underway
underway u [] = u
underway u (p ∷ ps) = underway (onward u p) ps

-- the end, asked for with one lent memory after another: the log then, once there was room
unfoldable pub ended_with : Underway → List (List ℕ) → Option (List ℕ)
ended_with u [] = none
ended_with u (memory ∷ more) =
    let m = end_run u.session u.carry memory in
    let log = u.log ++ take m.written (end_memory u.session u.carry memory) in
    cond m.full (ended_with (record { session = m.session; carry = u.carry; left = u.left; log = log }) more) (some log)
