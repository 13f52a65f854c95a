-- The log of a script is its whole log, in whatever pieces its bytes arrive and however much memory is lent: at every moment the log so far, and
-- what is still to come of the bytes that are left over and those that arrive later, are the whole log.
use Rattle.std.specs.Prelude.{◌≡◌, true, false, eqb, ltb, drop}
use Rattle.std.proofs.Math.Path.{refl, ap, sym}
use Rattle.std.proofs.Common.{◌∙◌, arith}
use mathlib.Core.List.{List, [], ◌∷◌, ◌++◌, append-nil, append_assoc, map, flatten}
use Rattle.std.proofs.Math.Logic.{inl, inr}
use Rattle.std.proofs.Math.Option.{some}
use Prim.Native.Nat.{ℕ, zero, suc, ◌+◌, ◌≤◌}
use Rattle.std.proofs.Math.ListN.{length, take, length-append}
use Rattle.std.proofs.Math.Seq.{length-take-le, take-append-le, take_at}
use borrow.Author.Tests.{leb-true, leb-false, ltb-true}
use Rattle.lists.specs.TestLaws.{which, none_some, some_same}
use Rattle.arrive.specs.Arrive.{Unended, arrivals, unended_after, finished, arrived}
use Rattle.arrive.specs.ArriveLaws.{arrivals_append, after_append, arrived_lines}
use Rattle.arrive.specs.Feed.{unended_of, line_carry, carry_after, last_found, arrivals_of}
use Rattle.arrive.specs.FeedArrivalLaws.{of_none, feed_length, feed_arrivals, feed_after, last_arrival}
use Rattle.text.specs.Lines.{lines, line_from, line_end}
use Rattle.text.specs.Place.{room, put_bytes}
use Rattle.text.specs.PlaceLaws.{put_laid, put_kept, length_put}
use Rattle.record.specs.DemandRecord.{fresh_with}
use Rattle.words.specs.Form.{longest}
use Rattle.script_lines.specs.LineRun.{awaiting}
use Rattle.script.specs.WholeLog.{whole_log}
use Rattle.script.specs.Session.{Script, found_taken, turned, Stand, fed_at, carry_at, line_at, turn_at, stand_at, stop_at, through, piece_run, last_arrivals, left_arrivals, end_run, end_memory, fresh_script, stand_for}
use Rattle.script.specs.SessionLaws.{turn_next, stand_next, one_left, end_stopped}
use Rattle.script.specs.RoomLaws.{found_stands, one_arrival, written, turn_fits, turn_whole, turn_stage, turn_log}
use Rattle.script.specs.ToComeLaws.{all_append, end_log, all_log_lem}
use Rattle.script.specs.ToCome.{arrivals_log, arrivals_whole, arrivals_stage, all_log, to_come, comes}
use Rattle.script.specs.Pieces.{Piece, Underway, starting, onward, underway, ended_with}

-- a call leaves the first bytes of the carry, which it holds of a line, as they were
module _ (carry : List ℕ) (held : ℕ) where
  put_behind : (part : List ℕ) → unended_of (put_bytes carry held part) held ≡ unended_of carry held
  unfolding unended_of
  put_behind part = elim (which (room carry held part)) [
    | inl r ↦
        let h : held + length part ≤ length carry = leb-true _ _ r in
        let n : length (take held carry) ≡ held = length-take-le held carry (omega arith) in
        let front : take held (put_bytes carry held part) ≡ take held carry =
        ap (take held) (put_laid carry held part h)
        ∙ take-append-le held (take held carry ++ part) (drop (held + length part) carry) (omega (arith, n, length-append (take held carry) part))
        ∙ take_at (take held carry) part held n in
        rw (length_put carry held part, front)
    | inr r ↦ rw (put_kept carry held part (leb-false _ _ r))
  ]

  stays_held : (bytes : List ℕ) (at : ℕ) → unended_of (carry_after carry held bytes at) held ≡ unended_of carry held
  unfolding carry_after line_carry
  stays_held bytes at = elim (which (ltb (line_end bytes at) (length bytes))) [
    | inl e ↦ rw e (elim (which (eqb held 0)) [ inl f ↦ rw f | inr f ↦ rw f (put_behind (line_from bytes at)) ])
    | inr e ↦ rw e (put_behind (line_from bytes at))
  ]

-- what is written within a piece, and what is then still to come
unfoldable came_to : ℕ → List ℕ → List (List ℕ) → Stand → List ℕ
came_to most bytes later x = written x ++ to_come most x.session x.carry (drop x.next bytes) later

stand_size : (bytes : List ℕ) (x : Stand) → length (stand_at bytes x).carry ≡ length x.carry
unfolding stand_at
stand_size bytes x = feed_length x.carry x.session.held bytes x.next

module _ (bytes : List ℕ) (later : List (List ℕ)) where
  -- up to the next line's end and from there on
  arrived_turn : (x : Stand)
      → arrived (length x.carry) (unended_of x.carry x.session.held) (drop x.next bytes ∷ later)
      ≡ line_at bytes x ++ arrived (length x.carry) (unended_of (carry_at bytes x) (fed_at bytes x).held) (drop (fed_at bytes x).next bytes ∷ later)
  unfolding arrived
  arrived_turn x =
      rw (feed_arrivals x.carry x.session.held bytes x.next, feed_after x.carry x.session.held bytes x.next)
      (append_assoc (line_at bytes x) (arrivals (length x.carry) (unended_of (carry_at bytes x) (fed_at bytes x).held) (drop (fed_at bytes x).next bytes)) _)

  rest_is : (x : Stand)
      → arrived (length x.carry) (unended_of (carry_at bytes x) (fed_at bytes x).held) (drop (fed_at bytes x).next bytes ∷ later)
      ≡ arrived (length x.carry) (unended_of (stand_at bytes x).carry (stand_at bytes x).session.held) (drop (stand_at bytes x).next bytes ∷ later)
  unfolding stand_at turn_at turned
  rest_is x = refl

  -- a turn moves a line from what is to come to what is written
  turn_came : (x : Stand) → x.written ≤ length x.memory → (turn_at bytes x).full ≡ false → came_to (length x.carry) bytes later x ≡ came_to (length x.carry) bytes later (stand_at bytes x)
  unfolding came_to to_come
  turn_came x fits n =
      let es = line_at bytes x in
      let rest = arrived (length x.carry) (unended_of (carry_at bytes x) (fed_at bytes x).held) (drop (fed_at bytes x).next bytes ∷ later) in
      let k = x.session.whole in
      let stage = x.session.stage in
      ap (λ l. written x ++ all_log k stage l) (arrived_turn x)
      ∙ ap (λ l. written x ++ l) (all_append es rest k stage)
      ∙ sym (append_assoc (written x) (arrivals_log k stage es) (all_log (arrivals_whole k stage es) (arrivals_stage stage es) rest))
      ∙ (λ i. sym (turn_log bytes x fits n) i ++ all_log (sym (turn_whole bytes x fits n) i) (sym (turn_stage bytes x fits n) i) rest)
      ∙ ap (λ r. written (stand_at bytes x) ++ all_log (stand_at bytes x).session.whole (stand_at bytes x).session.stage r) (rest_is x)

  -- a stop leaves all as it was
  stop_came : (x : Stand) → came_to (length x.carry) bytes later x ≡ came_to (length x.carry) bytes later (stop_at bytes x)
  unfolding came_to to_come
  stop_came x =
      ap (λ s. written x ++ all_log x.session.whole x.session.stage (arrived (length x.carry) s (drop x.next bytes ∷ later)))
      (sym (stays_held x.carry x.session.held bytes x.next))

  -- so from any place of a piece on, whether it stops or not
  through_came : (fuel : ℕ) (x : Stand) → length bytes ≤ x.next + fuel → x.written ≤ length x.memory
      → came_to (length x.carry) bytes later x ≡ came_to (length x.carry) bytes later (through fuel bytes x).stand
  unfolding through
  through_came zero x h fits = refl
  through_came (suc fuel) x h fits = elim (which (ltb x.next (length bytes))) [
    | inl e ↦ elim (which (turn_at bytes x).full) [
      | inl n ↦ rw (e, n) (stop_came x)
      | inr n ↦
          let far : length bytes ≤ (stand_at bytes x).next + fuel = omega (arith, turn_next bytes x (ltb-true _ _ e), stand_next bytes x) in
          let rest = through_came fuel (stand_at bytes x) far (turn_fits bytes x fits) in
          rw (e, n) (turn_came x fits n ∙ (rw (stand_size bytes x) at rest))
    ]
    | inr e ↦ rw e refl
  ]

through_size : (fuel : ℕ) (bytes : List ℕ) (x : Stand) → length (through fuel bytes x).stand.carry ≡ length x.carry
unfolding through
through_size zero bytes x = refl
through_size (suc fuel) bytes x = elim (which (ltb x.next (length bytes))) [
  | inl e ↦ elim (which (turn_at bytes x).full) [
    | inl n ↦ rw (e, n) (feed_length x.carry x.session.held bytes x.next)
    | inr n ↦ rw (e, n) (through_size fuel bytes (stand_at bytes x) ∙ stand_size bytes x)
  ]
  | inr e ↦ rw e
]

-- what was left over and what newly arrived are one text
arrived_join : (s : Unended) (most : ℕ) (a b : List ℕ) (later : List (List ℕ)) → arrived most s (a ∷ b ∷ later) ≡ arrived most s ((a ++ b) ∷ later)
unfolding arrived
arrived_join s most a b later =
    rw (arrivals_append most s a b, after_append most s a b)
    (sym (append_assoc (arrivals most s a) (arrivals most (unended_after most s a) b) (arrived most (unended_after most (unended_after most s a) b) later)))

call_came : (u : Underway) (p : Piece) (later : List (List ℕ)) → u.log ++ comes u (p.bytes ∷ later) ≡ (onward u p).log ++ comes (onward u p) later
unfolding onward piece_run comes to_come came_to
call_came u p later =
    let bytes = u.left ++ p.bytes in
    let s = u.session in
    let x = stand_for s u.carry p.memory in
    let t = (through (length bytes) bytes x).stand in
    ap (λ l. u.log ++ all_log s.whole s.stage l) (arrived_join (unended_of u.carry s.held) (length u.carry) u.left p.bytes later)
    ∙ ap (λ l. u.log ++ l) (through_came bytes later (length bytes) x (omega arith) (omega arith))
    ∙ ap (λ n. u.log ++ (written t ++ to_come n t.session t.carry (drop t.next bytes) later)) (sym (through_size (length bytes) bytes x))
    ∙ sym (append_assoc u.log (written t) (to_come (length t.carry) t.session t.carry (drop t.next bytes) later))

-- at every moment: the log so far, and what is still to come, are what was to come at first
pub calls_came : (ps : List Piece) (u : Underway) (later : List (List ℕ)) → u.log ++ comes u (map (λ p. p.bytes) ps ++ later) ≡ (underway u ps).log ++ comes (underway u ps) later
unfolding underway
calls_came [] u later = refl
calls_came (p ∷ ps) u later = call_came u p (map (λ q. q.bytes) ps ++ later) ∙ calls_came ps (onward u p) later

-- the end writes what is still to come where nothing is left over, or has no room and changes nothing
last_came : (s : Script) (carry memory : List ℕ) → (end_run s carry memory).full ≡ false
    → take (end_run s carry memory).written (end_memory s carry memory) ≡ all_log s.whole s.stage (finished (unended_of carry s.held))
unfolding end_run end_memory left_arrivals
last_came s carry memory n =
    let es = arrivals_of carry [] (last_found carry s.held) in
    (found_stands s.whole s.stage memory (last_arrivals s.stage es) (one_left s.stage carry s.held) n).log
    ∙ end_log s.whole s.stage es (one_arrival carry [] (last_found carry s.held))
    ∙ ap (all_log s.whole s.stage) (last_arrival carry s.held)

nothing_left : (u : Underway) → u.left ≡ [] → comes u [] ≡ all_log u.session.whole u.session.stage (finished (unended_of u.carry u.session.held))
unfolding comes to_come arrived arrivals unended_after
nothing_left u e = rw e

end_as_handed_in : (s : Script) (carry memory : List ℕ) (n : (end_run s carry memory).full ≡ true)
    → (record { session = s; next = 0; written = 0; full = true }) ≡ end_run s carry memory
unfolding end_run
end_as_handed_in s carry memory n = end_stopped s carry memory (found_taken s.whole s.stage (left_arrivals s.stage carry s.held) memory) refl n

stop_again : (u : Underway) (memory : List ℕ) → (end_run u.session u.carry memory).full ≡ true
    → (record {
      session = (end_run u.session u.carry memory).session;
      carry = u.carry;
      left = u.left;
      log = u.log ++ take (end_run u.session u.carry memory).written (end_memory u.session u.carry memory);
    })
    ≡ u
stop_again u memory n =
    let s = u.session in
    let m = end_memory s u.carry memory in
    let e = end_as_handed_in s u.carry memory n in
    (λ i. record { session = (sym e i).session; carry = u.carry; left = u.left; log = u.log ++ take (sym e i).written m })
    ∙ (λ i. record { session = s; carry = u.carry; left = u.left; log = append-nil u.log i })

ended_came : (more : List (List ℕ)) (u : Underway) (log : List ℕ) → u.left ≡ [] → ended_with u more ≡ some log → log ≡ u.log ++ comes u []
unfolding ended_with
ended_came [] u log e h = none_some refl h
ended_came (memory ∷ more) u log e h = elim (which (end_run u.session u.carry memory).full) [
  | inl n ↦ ended_came more u log e (ap (λ v. ended_with v more) (sym (stop_again u memory n)) ∙ (rw n at h))
  | inr n ↦ sym (some_same (rw n at h)) ∙ ap (λ l. u.log ++ l) (last_came u.session u.carry memory n ∙ sym (nothing_left u e))
]

-- at first, all is still to come
starting_comes : (block carry : List ℕ) (later : List (List ℕ)) → length carry ≡ longest → comes (starting block carry) later ≡ whole_log block (flatten later)
unfolding comes to_come fresh_script whole_log flatten
starting_comes block carry later size =
    rw (size, of_none carry) (ap (all_log (fresh_with block) awaiting) (arrived_lines longest ([] ∷ later)) ∙ all_log_lem block (lines (flatten later)))

-- at every moment the log so far, and what is still to come of what is left over and what arrives later, are the whole log of the whole script
pub moment_whole : (ps : List Piece) (block carry : List ℕ) (later : List (List ℕ)) → length carry ≡ longest
    → (underway (starting block carry) ps).log ++ comes (underway (starting block carry) ps) later ≡ whole_log block (flatten (map (λ p. p.bytes) ps ++ later))
moment_whole ps block carry later size = sym (calls_came ps (starting block carry) later) ∙ starting_comes block carry (map (λ p. p.bytes) ps ++ later) size

-- so once nothing is left over and the end had room, the log is the whole log, however the bytes arrived and whatever memory was lent
pub pieces_whole : (ps : List Piece) (ends : List (List ℕ)) (block carry log : List ℕ) → length carry ≡ longest
    → (underway (starting block carry) ps).left ≡ [] → ended_with (underway (starting block carry) ps) ends ≡ some log
    → log ≡ whole_log block (flatten (map (λ p. p.bytes) ps))
pieces_whole ps ends block carry log size none_left answered =
    ended_came ends (underway (starting block carry) ps) log none_left answered
    ∙ moment_whole ps block carry [] size
    ∙ ap (λ l. whole_log block (flatten l)) (append-nil (map (λ p. p.bytes) ps))
