-- Laws of a piece of a script, line by line: one turn of the loop, and the end.
use Rattle.std.specs.Prelude.{◌≡◌, Some, None, Option as RustOption, List, [], ◌++◌, ℕ, zero, suc, ◌+◌, ◌-◌, ◌*◌, ◌≤◌, ◌<◌, leb, ltb, length, replicate, drop}
use Rattle.std.proofs.Math.Path.{refl, ap, sym}
use Rattle.std.proofs.Common.{◌∙◌, append-nil, drop_of_length-le, take_all}
use Rattle.std.proofs.Math.Bool.{true, false, cond}
use Rattle.std.proofs.Math.Logic.{inl, inr}
use native.Mathlib.Omega.{arith}
use Rattle.std.proofs.Math.Dec.{eqb}
use Rattle.std.proofs.Math.ListN.{take, take-append-drop, length-drop}
use borrow.Author.Tests.{lt-ltb, le-ltb, ltb-true, ltb-false}
use Rattle.lists.specs.TestLaws.{which, clash, by_test}
use Rattle.arrive.specs.Arrive.{Arrival}
use Rattle.arrive.specs.Feed.{line_found, fed, found_line, arrivals_of, last_found}
use Rattle.arrive.specs.FeedLaws.{fed_line, fed_more}
use Rattle.arrive.specs.FeedArrivalLaws.{feed_on}
use Rattle.arrive.specs.declared.Fed.{Fed}
use Rattle.arrive.specs.declared.Found.{Found}
use Rattle.arrive.specs.declared.Found.TheVariants as found
use Rattle.record.specs.Whole.{Whole}
use Rattle.rules.specs.Sizes.{task_places, held_words}
use Rattle.record.specs.StepRecord.{After}
use Rattle.record.specs.DemandRecord.{fresh_with}
use Rattle.text.specs.Lines.{line_from, line_end}
use Rattle.text.specs.Place.{room, put_bytes}
use Rattle.script_lines.specs.LineRun.{awaiting, line_answered}
use Rattle.script.specs.Session.{fresh_session, Script, script_of, fresh_script, log_at, Taken, line_taken, taken_memory, step_at, logged_at, line_in, lineb, found_taken, found_memory, Turn, turn_with, turned, Stand, fed_at, carry_at, line_at, free_of, turn_at, stand_at, stop_at, through, last_arrivals, left_arrivals, leftb, end_run, end_memory}
use Rattle.script_lines.specs.declared.run.Headed.{Headed}
use Rattle.script.specs.LineLaws.{logged_memory, logged_taken, logged_stopped, line_taken_lem, line_memory, none_found, stop_memory, stop_taken, found_short}

-- the session that a script begins with, lent as many words as the tasks hold, all 0, and any block, is the fresh script
pub fresh_lent : (block : List ℕ) → script_of fresh_session (replicate (held_words * task_places) 0) block ≡ fresh_script block
unfolding fresh_session fresh_script fresh_with
fresh_lent block = refl

-- a turn goes on
pub turn_next : (bytes : List ℕ) (x : Stand) → x.next < length bytes → x.next < (turn_at bytes x).next
unfolding turn_at turned
turn_next bytes x h = feed_on x.carry x.session.held bytes x.next h

pub stand_next : (bytes : List ℕ) (x : Stand) → (stand_at bytes x).next ≡ (turn_at bytes x).next
unfolding stand_at
stand_next bytes x = refl

-- more fuel than bytes are left changes nothing
through_more : (fuel : ℕ) (bytes : List ℕ) (x : Stand) → length bytes ≤ x.next + fuel → through (suc fuel) bytes x ≡ through fuel bytes x
unfolding through
through_more zero bytes x h = rw (le-ltb x.next (length bytes) (omega arith))
through_more (suc fuel) bytes x h = elim (which (ltb x.next (length bytes))) [
  | inl e ↦ elim (which (turn_at bytes x).full) [
    | inl n ↦ rw (e, n)
    | inr n ↦ rw (e, n) (through_more fuel bytes (stand_at bytes x) (omega (arith, turn_next bytes x (ltb-true _ _ e), stand_next bytes x)))
  ]
  | inr e ↦ rw e
]

module _ (bytes : List ℕ) (x : Stand) where
  -- one turn
  through_turn : x.next < length bytes → (turn_at bytes x).full ≡ false → through (length bytes) bytes x ≡ through (length bytes) bytes (stand_at bytes x)
  unfolding through
  through_turn h n = sym (through_more (length bytes) bytes x (omega arith)) ∙ rw (lt-ltb x.next (length bytes) h, n) refl

  -- a line without room
  through_stop : x.next < length bytes → (turn_at bytes x).full ≡ true → through (length bytes) bytes x ≡ record { stand = stop_at bytes x; full = true }
  unfolding through
  through_stop h n = sym (through_more (length bytes) bytes x (omega arith)) ∙ rw (lt-ltb x.next (length bytes) h, n) refl

  -- no byte is left
  pub through_end : length bytes ≤ x.next → through (length bytes) bytes x ≡ record { stand = x; full = false }
  unfolding through
  through_end h = sym (through_more (length bytes) bytes x (omega arith)) ∙ rw (le-ltb x.next (length bytes) h) refl

-- what was found, with equals in place of equals
module _ (s : Script) (bytes memory : List ℕ) (f g : Fed) (c d : List ℕ) (e : f ≡ g) (u : c ≡ d) where
  turn_same : (t : Taken) → t ≡ found_taken s.whole s.stage (arrivals_of c bytes f.found) memory → turn_with f t ≡ turned s g d bytes memory
  unfolding turned
  turn_same t h = ap (turn_with f) h ∙ (λ i. turn_with (e i) (found_taken s.whole s.stage (arrivals_of (u i) bytes (e i).found) memory))

  memory_same : (m : List ℕ) → m ≡ found_memory s.whole s.stage (arrivals_of c bytes f.found) memory
      → m ≡ found_memory s.whole s.stage (arrivals_of d bytes g.found) memory
  memory_same m h = h ∙ (λ i. found_memory s.whole s.stage (arrivals_of (u i) bytes (e i).found) memory)

-- the whole rest of a memory, lent as a part of it and put back
pub rest_part : (l : List ℕ) (w : ℕ) → take (length l - w) (drop w l) ≡ drop w l
rest_part l w = take_all (length l - w) (drop w l) (omega (arith, length-drop w l))

rest_none : (l : List ℕ) (w : ℕ) → drop (length l - w) (drop w l) ≡ []
rest_none l w = let h : length (drop w l) ≤ length l - w = omega (arith, length-drop w l) in drop_of_length-le (drop w l) h

pub rest_back : (l : List ℕ) (w : ℕ) (m : List ℕ) → take w l ++ (m ++ drop (length l - w) (drop w l)) ≡ take w l ++ m
rest_back l w m = rw (rest_none l w) (ap (λ z. take w l ++ z) (append-nil m))

-- a line that was found, answered and logged, as the loop goes
pub record Run (bytes : List ℕ) (x : Stand) (f : Fed) (c line : List ℕ) (o : After) (l : RustOption Headed) : Type 0 where
  pub cut : f ≡ fed_at bytes x
  pub carried : c ≡ carry_at bytes x
  pub ended : lineb f.found ≡ true
  pub line_is : line ≡ found_line c bytes f.found
  pub answered : o ≡ line_answered x.session.whole (step_at x.session.stage line)
  pub logged : l ≡ logged_at x.session.stage o.answer line (free_of x)

-- one turn of the loop: what stands then, and what is left to do, is what was to do before it
module _ (bytes : List ℕ) (x : Stand) (f : Fed) (c line : List ℕ) (o : After) (got : RustOption Headed) (r : Run bytes x f c line o got) where
  run_found : line_taken x.session.whole x.session.stage line (free_of x) ≡ found_taken x.session.whole x.session.stage (arrivals_of c bytes f.found) (free_of x)
  run_found =
      ap (λ z. line_taken x.session.whole x.session.stage z (free_of x)) r.line_is
      ∙ line_taken_lem x.session.whole x.session.stage c bytes (free_of x) f.found r.ended

  run_turn : (l : Headed) → got ≡ Some l → turn_with f (record { whole = o.whole; stage = l.stage; written = l.written; full = false }) ≡ turn_at bytes x
  unfolding turn_at
  run_turn l is =
      turn_same x.session bytes (free_of x) f (fed_at bytes x) c (carry_at bytes x) r.cut r.carried _
      (logged_taken x.session.whole x.session.stage line (free_of x) o r.answered l (sym is ∙ r.logged) ∙ run_found)

  run_full : got ≡ None → (turn_at bytes x).full ≡ true
  unfolding turn_at
  run_full is =
      sym (ap (λ (u : Turn). u.full) (turn_same x.session bytes (free_of x) f (fed_at bytes x) c (carry_at bytes x) r.cut r.carried _ run_found))
      ∙ logged_stopped x.session.whole x.session.stage line (free_of x) o r.answered (sym is ∙ r.logged)

  pub run_short : (l : Headed) → got ≡ Some l → x.written ≤ length x.memory → x.written + l.written ≤ length x.memory
  unfolding turn_at turned
  run_short l is h =
      let e : l.written ≡ (found_taken x.session.whole x.session.stage (line_at bytes x) (free_of x)).written = ap (λ (u : Turn). u.written) (run_turn l is) in
      omega (arith, e, found_short x.session.whole x.session.stage (free_of x) (line_at bytes x), length-drop x.written x.memory)

  module _ (more : x.next < length bytes) (m : List ℕ) (v : m ≡ take x.written x.memory ++ put_bytes (free_of x) 0 (log_at x.session.stage o.answer line)) where
    run_memory : m ≡ take x.written x.memory ++ found_memory x.session.whole x.session.stage (line_at bytes x) (free_of x)
    run_memory =
        let k = x.session.whole in
        let stage = x.session.stage in
        let put = memory_same x.session bytes (free_of x) f (fed_at bytes x) c (carry_at bytes x) r.cut r.carried _
        (logged_memory k stage line (free_of x) o r.answered ∙ ap (λ z. taken_memory k stage z (free_of x)) r.line_is ∙ line_memory k stage c bytes (free_of x) f.found r.ended) in
        v ∙ ap (λ z. take x.written x.memory ++ z) put

    pub run_again : (l : Headed) → got ≡ Some l
        → through (length bytes) bytes (record { session = record { whole = o.whole; stage = l.stage; held = f.held }; carry = c; memory = m; next = f.next; written = x.written + l.written })
        ≡ through (length bytes) bytes x
    unfolding stand_at
    run_again l is =
        let t = run_turn l is in
        (λ i. through (length bytes) bytes (record { session = (t i).session; carry = r.carried i; memory = run_memory i; next = (t i).next; written = x.written + (t i).written }))
        ∙ sym (through_turn bytes x more (sym (ap (λ (w : Turn). w.full) t)))

    pub run_stopped : got ≡ None
        → (record { stand = record { session = x.session; carry = c; memory = m; next = x.next; written = x.written }; full = true }) ≡ through (length bytes) bytes x
    unfolding turn_at turned
    run_stopped is =
        let full = run_full is in
        let same : m ≡ x.memory =
        run_memory ∙ ap (λ z. take x.written x.memory ++ z) (stop_memory x.session.whole x.session.stage (free_of x) (line_at bytes x) full) ∙ take-append-drop x.written x.memory in
        (λ i. record { stand = record { session = x.session; carry = r.carried i; memory = same i; next = x.next; written = x.written }; full = true })
        ∙ sym (through_stop bytes x more full)

-- a turn goes on
pub cut_on : (bytes : List ℕ) (x : Stand) (f : Fed) → f ≡ fed_at bytes x → x.next < length bytes → x.next < f.next
cut_on bytes x f e more = let z : f.next ≡ (fed_at bytes x).next = ap (λ (g : Fed). g.next) e in omega (arith, z, feed_on x.carry x.session.held bytes x.next more)

-- no line's end is found only where the piece ends
found_some : (carry : List ℕ) (held : ℕ) (part : List ℕ) (start end : ℕ) → lineb (line_found carry held part start end) ≡ true
unfolding line_found lineb
found_some carry held part start end = elim (which (room carry held part)) [
  | inl r ↦ elim (which (eqb held 0)) [ inl e ↦ rw (r, e) | inr e ↦ rw (r, e) ]
  | inr r ↦ rw r
]

none_end : (carry : List ℕ) (held : ℕ) (bytes : List ℕ) (at : ℕ) → lineb (fed carry held bytes at).found ≡ false → length bytes ≤ (fed carry held bytes at).next
none_end carry held bytes at e = elim (which (ltb (line_end bytes at) (length bytes))) [
  | inl t ↦
      let h : line_end bytes at < length bytes = ltb-true _ _ t in
      let z : lineb (line_found carry held (line_from bytes at) at (line_end bytes at)) ≡ false = rw (fed_line carry held bytes at h) at e in
      absurd (clash (found_some carry held (line_from bytes at) at (line_end bytes at)) z)
  | inr t ↦ let h : length bytes ≤ line_end bytes at = ltb-false _ _ t in rw (fed_more carry held bytes at h) h
]

-- what is then left of the piece is held
module _ (bytes : List ℕ) (x : Stand) (more : x.next < length bytes) (f : Fed) (c : List ℕ) (cut : f ≡ fed_at bytes x) (carried : c ≡ carry_at bytes x) (no : lineb f.found ≡ false) where
  no_line : lineb (fed_at bytes x).found ≡ false
  no_line = sym (ap (λ (g : Fed). lineb g.found) cut) ∙ no

  held_turn : turn_at bytes x ≡ turn_with (fed_at bytes x) (record { whole = x.session.whole; stage = x.session.stage; written = 0; full = false })
  unfolding turn_at turned found_taken
  held_turn = rw (none_found (fed_at bytes x).found no_line)

  held_memory : take x.written x.memory ++ found_memory x.session.whole x.session.stage (line_at bytes x) (free_of x) ≡ x.memory
  unfolding found_memory
  held_memory = rw (none_found (fed_at bytes x).found no_line) (take-append-drop x.written x.memory)

  pub run_held : (record { stand = record { session = record { whole = x.session.whole; stage = x.session.stage; held = f.held }; carry = c; memory = x.memory; next = f.next; written = x.written }; full = false })
      ≡ through (length bytes) bytes x
  unfolding stand_at
  run_held =
      let after : Stand = record { session = record { whole = x.session.whole; stage = x.session.stage; held = (fed_at bytes x).held }; carry = carry_at bytes x; memory = x.memory; next = (fed_at bytes x).next; written = x.written } in
      let nothing : x.written + 0 ≡ x.written = omega arith in
      let stands : stand_at bytes x ≡ after =
      λ i. record { session = (held_turn i).session; carry = carry_at bytes x; memory = held_memory i; next = (held_turn i).next; written = (ap (λ (t : Turn). x.written + t.written) held_turn ∙ nothing) i } in
      sym (through_turn bytes x more (ap (λ (t : Turn). t.full) held_turn)
      ∙ ap (through (length bytes) bytes) stands
      ∙ through_end bytes after (none_end x.carry x.session.held bytes x.next no_line)
      ∙ (λ i. record { stand = record { session = record { whole = x.session.whole; stage = x.session.stage; held = (sym cut i).held }; carry = sym carried i; memory = x.memory; next = (sym cut i).next; written = x.written }; full = false }))

-- the end of a script: by what was left of it
module _ (stage : ℕ) (carry : List ℕ) (held : ℕ) where
  left_over : leftb stage held ≡ false → left_arrivals stage carry held ≡ []
  unfolding leftb left_arrivals last_arrivals last_found
  left_over e = elim (which (eqb held 0)) [
    | inl h ↦ let z : eqb stage awaiting ≡ false = rw h at e in rw (h, z)
    | inr h ↦ absurd (clash refl (rw h at e))
  ]

  module _ (k : Whole) (memory : List ℕ) (left : leftb stage held ≡ true) where
    pub left_taken : line_taken k stage (found_line carry [] (last_found carry held)) memory ≡ found_taken k stage (left_arrivals stage carry held) memory
    unfolding leftb left_arrivals last_arrivals last_found found_taken line_in
    left_taken = elim (which (eqb held 0)) [
      | inl h ↦ let z : eqb stage awaiting ≡ true = rw h at left in rw (h, z)
      | inr h ↦ elim (which (leb held (length carry))) [ inl t ↦ rw (h, t) | inr t ↦ rw (h, t) ]
    ]

    pub left_memory : taken_memory k stage (found_line carry [] (last_found carry held)) memory ≡ found_memory k stage (left_arrivals stage carry held) memory
    unfolding leftb left_arrivals last_arrivals last_found found_memory line_in
    left_memory = elim (which (eqb held 0)) [
      | inl h ↦ let z : eqb stage awaiting ≡ true = rw h at left in rw (h, z)
      | inr h ↦ elim (which (leb held (length carry))) [ inl t ↦ rw (h, t) | inr t ↦ rw (h, t) ]
    ]

one_last : (stage : ℕ) (carry : List ℕ) (f : Found) → length (last_arrivals stage (arrivals_of carry [] f)) ≤ 1
unfolding last_arrivals
one_last stage carry (found.Part start end) = omega arith
one_last stage carry (found.Carried n) = omega arith
one_last stage carry found.Long = omega arith
one_last stage carry found.Nothing = by_test {A = List Arrival} (λ l. length l ≤ 1) (eqb stage awaiting) (λ e. omega arith) (λ e. omega arith)

pub one_left : (stage : ℕ) (carry : List ℕ) (held : ℕ) → length (left_arrivals stage carry held) ≤ 1
unfolding left_arrivals
one_left stage carry held = one_last stage carry (last_found carry held)

-- the end: what was left was taken, or had no room
module _ (s : Script) (carry memory : List ℕ) (t : Taken) (is : t ≡ found_taken s.whole s.stage (left_arrivals s.stage carry s.held) memory) where
  pub end_taken : t.full ≡ false
      → (record { session = record { whole = t.whole; stage = t.stage; held = 0 }; next = 0; written = t.written; full = false }) ≡ end_run s carry memory
  unfolding end_run
  end_taken n =
      (λ i. record { session = record { whole = t.whole; stage = t.stage; held = sym (held n) i }; next = 0; written = t.written; full = sym n i })
      ∙ (λ i. record {
        session = record { whole = (is i).whole; stage = (is i).stage; held = cond (is i).full s.held 0 };
        next = 0;
        written = (is i).written;
        full = (is i).full;
      })
    where
      held : t.full ≡ false → cond t.full s.held 0 ≡ 0
      held n = rw n

  pub end_stopped : t.full ≡ true → (record { session = s; next = 0; written = 0; full = true }) ≡ end_run s carry memory
  unfolding end_run
  end_stopped n =
      let es = left_arrivals s.stage carry s.held in
      rw (stop_taken s.whole s.stage memory es (sym (ap (λ (w : Taken). w.full) is) ∙ n))

-- nothing was left
pub end_over : (s : Script) (carry memory : List ℕ) → leftb s.stage s.held ≡ false
    → ((record { session = record { whole = s.whole; stage = s.stage; held = 0 }; next = 0; written = 0; full = false }) ≡ end_run s carry memory) × (memory ≡ end_memory s carry memory)
unfolding end_run end_memory found_taken found_memory
end_over s carry memory e = let z = left_over s.stage carry s.held e in (rw z, rw z)
