-- A session that is lent room goes on: 33 bytes are enough for the next line, and 33 bytes for each byte of a piece are enough for all of it.
use Rattle.std.specs.Prelude.{◌≡◌, Bool, false, ltb, take, drop}
use Rattle.std.proofs.Math.Path.{refl}
use Rattle.std.proofs.Common.{ap, ◌∙◌, length-drop, drop_of_length-le}
use mathlib.Core.List.{List, [], ◌∷◌, ◌++◌, map, flatten}
use Rattle.std.proofs.Math.Logic.{inl, inr}
use Rattle.std.proofs.Math.Option.{some}
use Prim.Native.Nat.{ℕ, zero, suc, ◌+◌, ◌-◌, ◌*◌, ◌≤◌, ◌<◌}
use native.Mathlib.Omega.{arith}
use Rattle.std.proofs.Math.ListN.{length}
use borrow.Author.Tests.{lt-ltb, ltb-true, ltb-false}
use Rattle.lists.specs.TestLaws.{which, clash}
use Rattle.arrive.specs.FeedLaws.{fed_line, fed_more}
use Rattle.text.specs.Lines.{lf, line_end}
use Rattle.text.specs.CutLaws.{up_to_most}
use Rattle.words.specs.Form.{longest}
use Rattle.script.specs.WholeLog.{whole_log}
use Rattle.script.specs.Session.{Script, turned, Stand, turn_at, stand_at, through, piece_run, left_arrivals, end_run, end_memory, stand_for}
use Rattle.script.specs.SessionLaws.{turn_next, stand_next}
use Rattle.script.specs.RoomLaws.{found_fits, turn_fits, turn_length, turn_few, turn_room}
use Rattle.script.specs.LineLaws.{found_short}
use Rattle.script.specs.Pieces.{Piece, AllRoomy, more_roomy, Underway, starting, onward, underway, ended_with}
use Rattle.log_lines.specs.LogLine.{line_room}
use Rattle.script.specs.PiecesLaws.{pieces_whole}

-- a turn ends behind the next line's end, or at the piece's end
turn_end : (bytes : List ℕ) (x : Stand) → line_end bytes x.next < length bytes → (turn_at bytes x).next ≡ line_end bytes x.next + 1
unfolding turn_at turned
turn_end bytes x h = rw (fed_line x.carry x.session.held bytes x.next h)

turn_in : (bytes : List ℕ) (x : Stand) → x.next ≤ length bytes → (turn_at bytes x).next ≤ length bytes
unfolding turn_at turned
turn_in bytes x h = elim (which (ltb (line_end bytes x.next) (length bytes))) [
  | inl e ↦ let k = ltb-true (line_end bytes x.next) (length bytes) e in rw (fed_line x.carry x.session.held bytes x.next k) (omega arith)
  | inr e ↦
      let k = ltb-false (line_end bytes x.next) (length bytes) e in
      rw (fed_more x.carry x.session.held bytes x.next k) (omega (arith, up_to_most lf (drop x.next bytes), length-drop x.next bytes))
]

module _ (bytes : List ℕ) where
  -- where a piece stops: not before the place from which it goes on, and within the piece; at its end where it did not stop for want of room
  pub record Placed (at next : ℕ) (full : Bool) : Type 0 where
    pub from : at ≤ next
    pub within : next ≤ length bytes
    pub end : full ≡ false → next ≡ length bytes

  through_placed : (fuel : ℕ) (x : Stand) → length bytes ≤ x.next + fuel → x.next ≤ length bytes → Placed x.next (through fuel bytes x).stand.next (through fuel bytes x).full
  unfolding through
  through_placed zero x h k = record { from = omega arith; within = k; end = λ n. omega arith }
  through_placed (suc fuel) x h k = elim (which (ltb x.next (length bytes))) [
    | inl e ↦
        let on = turn_next bytes x (ltb-true _ _ e) in
        elim (which (turn_at bytes x).full) [
          | inl n ↦ rw (e, n) (record { from = omega arith; within = k; end = λ z. absurd (clash refl z) })
          | inr n ↦
              let r = through_placed fuel (stand_at bytes x) (omega (arith, stand_next bytes x)) (omega (arith, stand_next bytes x, turn_in bytes x k)) in
              rw (e, n) (record { from = omega (arith, r.from, stand_next bytes x); within = r.within; end = r.end })
        ]
    | inr e ↦ let z = ltb-false x.next (length bytes) e in rw e (record { from = omega arith; within = k; end = λ n. omega arith })
  ]

  -- with room for the next line it is taken
  through_line : (fuel : ℕ) (x : Stand) → length bytes ≤ x.next + fuel → x.next < length bytes → x.written + line_room ≤ length x.memory
      → (turn_at bytes x).next ≤ (through fuel bytes x).stand.next
  unfolding through
  through_line zero x h k room = absurd (omega arith)
  through_line (suc fuel) x h k room =
      let n = turn_room bytes x (omega arith) room in
      let on = turn_next bytes x k in
      let r = through_placed fuel (stand_at bytes x) (omega (arith, stand_next bytes x)) (omega (arith, stand_next bytes x, turn_in bytes x (omega arith))) in
      rw (lt-ltb x.next (length bytes) k, n) (omega (arith, r.from, stand_next bytes x))

  -- with room for as many lines as bytes are left all are
  through_room : (fuel : ℕ) (x : Stand) → x.written + line_room * (length bytes - x.next) ≤ length x.memory → (through fuel bytes x).full ≡ false
  unfolding through
  through_room zero x room = refl
  through_room (suc fuel) x room = elim (which (ltb x.next (length bytes))) [
    | inl e ↦
        let k : x.next < length bytes = ltb-true _ _ e in
        let fits : x.written ≤ length x.memory = omega arith in
        let n = turn_room bytes x fits (omega arith) in
        rw (e, n) (through_room fuel (stand_at bytes x) (omega (arith, turn_next bytes x k, stand_next bytes x, turn_few bytes x fits, turn_length bytes x fits)))
    | inr e ↦ rw e
  ]

  -- what is written is within the memory
  through_written : (fuel : ℕ) (x : Stand) → x.written ≤ length x.memory → (through fuel bytes x).stand.written ≤ length x.memory
  unfolding through
  through_written zero x fits = fits
  through_written (suc fuel) x fits = elim (which (ltb x.next (length bytes))) [
    | inl e ↦ elim (which (turn_at bytes x).full) [
      | inl n ↦ rw (e, n) fits
      | inr n ↦ rw (e, n) (omega (arith, through_written fuel (stand_at bytes x) (turn_fits bytes x fits), turn_length bytes x fits))
    ]
    | inr e ↦ rw e fits
  ]

-- a whole piece
module _ (s : Script) (carry bytes memory : List ℕ) where
  -- as much is written as fits into the lent memory, of a piece and at the end
  pub piece_written : (piece_run s carry bytes memory).stand.written ≤ length memory
  unfolding piece_run
  piece_written = through_written bytes (length bytes) (stand_for s carry memory) (omega arith)

  pub end_written : (end_run s carry memory).written ≤ length memory
  unfolding end_run
  end_written = found_short s.whole s.stage memory (left_arrivals s.stage carry s.held)

  pub piece_placed : Placed bytes 0 (piece_run s carry bytes memory).stand.next (piece_run s carry bytes memory).full
  unfolding piece_run
  piece_placed = through_placed bytes (length bytes) (stand_for s carry memory) (omega arith) (omega arith)

  pub piece_within : (piece_run s carry bytes memory).stand.next ≤ length bytes
  piece_within = piece_placed.within

  -- with 33 bytes it never stops before the first line that ends in the piece
  pub piece_line : line_room ≤ length memory → line_end bytes 0 < length bytes → line_end bytes 0 < (piece_run s carry bytes memory).stand.next
  unfolding piece_run
  piece_line room h =
      let x = stand_for s carry memory in
      omega (arith, turn_end bytes x h, through_line bytes (length bytes) x (omega arith) (omega arith) (omega arith))

  -- so it goes on, whatever bytes it is handed
  pub piece_on : line_room ≤ length memory → 0 < length bytes → 0 < (piece_run s carry bytes memory).stand.next
  unfolding piece_run
  piece_on room h =
      let x = stand_for s carry memory in
      omega (arith, turn_next bytes x h, through_line bytes (length bytes) x (omega arith) h (omega arith))

  -- with 33 bytes for each of its bytes it never stops at all
  pub piece_room : line_room * length bytes ≤ length memory → (piece_run s carry bytes memory).full ≡ false
  unfolding piece_run
  piece_room room = through_room bytes (length bytes) (stand_for s carry memory) (omega arith)

  -- and 33 bytes are room for the end
  pub end_room : line_room ≤ length memory → (end_run s carry memory).full ≡ false
  unfolding end_run
  end_room room = found_fits s.whole s.stage memory (left_arrivals s.stage carry s.held) room

-- what a caller that goes on by what was taken asks of a piece
pub ruleset piece_goes = (piece_on, piece_within, piece_written)

-- so with room nothing is ever left over, and one attempt at the end gives the whole log
roomy_left : (ps : List Piece) (u : Underway) → AllRoomy ps → u.left ≡ [] → (underway u ps).left ≡ []
unfolding underway onward
roomy_left [] u r e = e
roomy_left (p ∷ ps) u (more_roomy r rs) e =
    let bytes = u.left ++ p.bytes in
    let size : length bytes ≡ length p.bytes = ap (λ l. length (l ++ p.bytes)) e in
    let n = piece_room u.session u.carry bytes p.memory (omega (arith, size)) in
    let all = (piece_placed u.session u.carry bytes p.memory).end n in
    let far : length bytes ≤ (piece_run u.session u.carry bytes p.memory).stand.next = omega (arith, all) in
    roomy_left ps (onward u p) rs (drop_of_length-le bytes far)

roomy_ended : (u : Underway) (last : List ℕ) → line_room ≤ length last
    → ended_with u (last ∷ []) ≡ some (u.log ++ take (end_run u.session u.carry last).written (end_memory u.session u.carry last))
unfolding ended_with
roomy_ended u last room = rw (end_room u.session u.carry [] last room)

pub roomy_whole : (ps : List Piece) (block carry last : List ℕ) → length carry ≡ longest → AllRoomy ps → line_room ≤ length last
    → ended_with (underway (starting block carry) ps) (last ∷ []) ≡ some (whole_log block (flatten (map (λ p. p.bytes) ps)))
roomy_whole ps block carry last size roomy room =
    let u = underway (starting block carry) ps in
    let answered = roomy_ended u last room in
    answered ∙ ap some (pieces_whole ps (last ∷ []) block carry _ size (roomy_left ps (starting block carry) roomy refl) answered)
