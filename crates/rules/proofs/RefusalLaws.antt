-- Laws of single answers: the table's order, what a refused step leaves, what unlock, hold and yield do, and the lent memory.
use Rattle.std.specs.Prelude.{◌≡◌, List, [], ◌∷◌, ◌++◌, map, true, false, not, ℕ, zero, suc, ◌≤◌, ◌<◌, ltb, leb, eqb, length, take, drop}
use Rattle.std.proofs.Math.Path.{refl}
use Rattle.std.proofs.Common.{ap, sym, ◌∙◌, inl, inr, arith, length-append, length-drop, take_at, drop_at, eqb-true, eq-eqb, lt-ltb, le-ltb, le-leb}
use Rattle.std.proofs.Math.Option.{Option, none, some}
use Rattle.std.proofs.Math.Decide.{ℕ_discrete}
use Rattle.std.proofs.lemmas.Bool.{not-false, lt-leb}
use Rattle.lists.specs.Test.{◌and◌, holds}
use Rattle.lists.specs.Count.{eqn, occ}
use Rattle.lists.specs.Order.{insert_tail}
use Rattle.lists.specs.TestLaws.{which, clash, by_test, and_l, and_false, none_some, some_same, true_some, holds_true}
use Rattle.lists.specs.CountLaws.{eqn_at, eqn_other}
use Rattle.rules.specs.Tables.{mutex_of, sem_of, room_in, message_in, task_count, owner_of, messages_of}
use Rattle.rules.specs.Levels.{best_waiter}
use Rattle.rules.specs.State.{State, placed, level_of}
use Rattle.rules.specs.Step.{Step, task, mutex, sem, start, lock, unlock, pend, post, flush, sleep, yield, hold, free, tick, level, outcome, queue, send, receive, word}
use Rattle.rules.specs.Effect.{Effect, done, caller_waits, lock_by, pass_on, pend_by, credit, flush_of, deliver, send_by, take_in, receive_by, tick_of, yield_by, called, effect}
use Rattle.rules.specs.Settle.{settle, meet, dispatch, finish}
use Rattle.rules.specs.Refusal.{Row, held, of_caller, taken, no_credit, no_room, no_message, refusals, first_row, table_order, in_order}
use Rattle.rules.specs.Sound.{soundb}
use Rattle.rules.specs.Answer.{Answer, answered, decide, step_sound, standing, stopped, malformed, is_formed, step}
use Rattle.rules.specs.Log.{log_line, with_room, memory_after, Call, in_room, call}
use Rattle.rules.specs.Invariant.{Inv}
use Rattle.rules.proofs.SettleLaws.{settled_one}
use Rattle.rules.proofs.StepLaws.{passed, held_runs}
use Rattle.rules.proofs.SoundLaws.{inv_sound}

-- each step's rows stand in the order of the table
pub refusals_in_order : (s : State) (x : Step) → in_order (map (λ r. r.number) (refusals s x)) table_order ≡ true
unfolding in_order refusals
refusals_in_order s (task p) = refl
refusals_in_order s (mutex k) = refl
refusals_in_order s (sem count max) = refl
refusals_in_order s start = refl
refusals_in_order s (lock m t) = refl
refusals_in_order s (unlock m) = refl
refusals_in_order s (pend k t) = refl
refusals_in_order s (post k) = refl
refusals_in_order s (flush k) = refl
refusals_in_order s (sleep t) = refl
refusals_in_order s yield = refl
refusals_in_order s hold = refl
refusals_in_order s free = refl
refusals_in_order s tick = refl
refusals_in_order s (level i) = refl
refusals_in_order s (outcome i) = refl
refusals_in_order s (queue w d o) = refl
refusals_in_order s (send q t m) = refl
refusals_in_order s (receive q t) = refl
refusals_in_order s (word i n) = refl

part_of : (n : ℕ) (xs l : List ℕ) → in_order xs l ≡ true → 1 ≤ occ n xs → 1 ≤ occ n l
unfolding in_order occ
part_of n [] l e m = absurd (omega arith)
part_of n (x ∷ xs) [] e m = absurd (clash e refl)
part_of n (x ∷ xs) (y ∷ l) e m = elim (which (eqb x y)) [
  | inl q ↦ elim (ℕ_discrete x n) [
    | yes p ↦ omega (arith, eqn_at y n (sym (eqb-true x y q) ∙ p))
    | no p ↦ omega (arith, part_of n xs l (rw q at e) (omega (arith, eqn_other x n p)))
  ]
  | inr q ↦ omega (arith, part_of n (x ∷ xs) l (rw q at e) m)
]

first_in : (rs : List Row) (r : Row) → first_row rs ≡ some r → 1 ≤ occ r.number (map (λ q. q.number) rs)
unfolding first_row occ
first_in [] r e = none_some refl e
first_in (q ∷ rs) r e = elim (which q.when) [
  | inl t ↦ omega (arith, eqn_at q.number r.number (ap (λ z. z.number) (some_same (rw t at e))))
  | inr t ↦ omega (arith, first_in rs r (rw t at e))
]

-- a refusal's number is one of the table's, and none of these is 0 or 1
pub refused_number : (s : State) (x : Step) (r : Row) → first_row (refusals s x) ≡ some r → 1 ≤ occ r.number table_order
refused_number s x r e = part_of r.number _ table_order (refusals_in_order s x) (first_in (refusals s x) r e)

pub refused_above : (n : ℕ) → 1 ≤ occ n table_order → 1 < n
unfolding occ eqn
refused_above zero h = absurd (omega arith)
refused_above (suc zero) h = absurd (omega arith)
refused_above (suc (suc n)) h = omega arith

-- what holds of a step that needs a caller, with none running and with any
pub caller_by : (P : Effect → Type 0) (s : State) (o : Option ℕ) (f : ℕ → Effect) → P (done s [] 0) → ((r : ℕ) → P (f r)) → P (called s o f)
unfolding called
caller_by P s none f g h = g
caller_by P s (some r) f g h = h r

-- an accepted step is answered 0 or 1
pub accepted_number : (s : State) (x : Step) → (effect s x).number ≤ 1
unfolding effect caller_waits lock_by pass_on pend_by credit flush_of tick_of yield_by deliver send_by take_in receive_by
accepted_number s (task p) = omega arith
accepted_number s (mutex k) = omega arith
accepted_number s (sem count max) = omega arith
accepted_number s start = omega arith
accepted_number s (lock m t) = caller_by (λ e. e.number ≤ 1) s s.running _ (omega arith) (λ r. go r (owner_of s.tables m))
  where
    go : (r : ℕ) (o : Option ℕ) → (lock_by s m t r o).number ≤ 1
    go r none = omega arith
    go r (some o) = omega arith
accepted_number s (unlock m) = go (best_waiter s.tables (mutex_of m))
  where
    go : (o : Option ℕ) → (pass_on s m o).number ≤ 1
    go none = omega arith
    go (some w) = omega arith
accepted_number s (pend k t) = caller_by (λ e. e.number ≤ 1) s s.running _ (omega arith) (λ r. by_test (λ (e : Effect). e.number ≤ 1) (no_credit s k) (λ q. omega arith) (λ q. omega arith))
accepted_number s (post k) = go (best_waiter s.tables (sem_of k))
  where
    go : (o : Option ℕ) → (credit s k o).number ≤ 1
    go none = omega arith
    go (some w) = omega arith
accepted_number s (flush k) = omega arith
accepted_number s (sleep t) = caller_by (λ e. e.number ≤ 1) s s.running _ (omega arith) (λ r. omega arith)
accepted_number s yield = caller_by (λ e. e.number ≤ 1) s s.running _ (omega arith) (λ r. omega arith)
accepted_number s hold = omega arith
accepted_number s free = omega arith
accepted_number s tick = omega arith
accepted_number s (level i) = omega arith
accepted_number s (outcome i) = omega arith
accepted_number s (queue w d o) = omega arith
accepted_number s (send q t m) = caller_by (λ e. e.number ≤ 1) s s.running _ (omega arith)
    (λ r. by_test (λ (e : Effect). e.number ≤ 1) (no_room s q) (λ f. omega arith) (λ f. go (best_waiter s.tables (message_in q))))
  where
    go : (o : Option ℕ) → (deliver s q m o).number ≤ 1
    go none = omega arith
    go (some w) = omega arith
accepted_number s (receive q t) = caller_by (λ e. e.number ≤ 1) s s.running _ (omega arith) (λ r. from r (messages_of s.tables q))
  where
    go : (r : ℕ) (m : List ℕ) (ms : List (List ℕ)) (o : Option ℕ) → (take_in s q r m ms o).number ≤ 1
    go r m ms none = omega arith
    go r m ms (some w) = omega arith

    from : (r : ℕ) (ms : List (List ℕ)) → (receive_by s q t r ms).number ≤ 1
    from r [] = omega arith
    from r (m ∷ ms) = go r m ms (best_waiter s.tables (room_in q))
accepted_number s (word i n) = omega arith

-- what holds of every answer to a step, and to a step with a log line
pub step_by_lem : (P : Answer → Type 0) (s : State) (x : Step) → ((r : Row) → first_row (refusals s x) ≡ some r → P (answered s r.number r.value))
    → (first_row (refusals s x) ≡ none → P (answered (finish s (effect s x)) (effect s x).number (effect s x).value))
    → (soundb s ≡ false → P (stopped s 15)) → (is_formed x ≡ false → P (stopped s 14)) → P (step s x)
unfolding step step_sound decide malformed
step_by_lem P s x f g h k = by_test P (is_formed x) (λ e. by_test P (soundb s) (λ e. go (first_row (refusals s x)) refl) h) k
  where
    go : (o : Option Row) → first_row (refusals s x) ≡ o → P (decide s x o)
    go none e = g e
    go (some r) e = f r e

pub call_by : (P : Answer → Type 0) (s : State) (c : Call) → P (step s c.made) → P (stopped s 8) → P (call s c)
unfolding call in_room with_room
call_by P s c f g = go c.room
  where
    go : (o : Option ℕ) → P (in_room s o (step s c.made))
    go none = f
    go (some room) = by_test P (leb (length (log_line (step s c.made))) room) (λ e. f) (λ e. g)

-- "any other is refused and hands on the state as it got it"
pub refused_unchanged : (s : State) (x : Step) → 1 < (step s x).number → (step s x).state ≡ s
refused_unchanged s x = step_by_lem (λ a. 1 < a.number → a.state ≡ s) s x (λ r e h. refl) (λ e h. absurd (omega (arith, accepted_number s x))) (λ e h. refl) (λ e h. refl)

pub call_unchanged : (s : State) (c : Call) → 1 < (call s c).number → (call s c).state ≡ s
call_unchanged s c = call_by (λ a. 1 < a.number → a.state ≡ s) s c (refused_unchanged s c.made) (λ h. refl)

-- "until its own accepted unlock of it": an accepted unlock is the owner's
pub unlock_own : (s : State) (m : ℕ) → (step s (unlock m)).number ≤ 1 → (r : ℕ) × (s.running ≡ some r) × (owner_of s.tables m ≡ some r)
unfolding refusals of_caller
unlock_own s m = step_by_lem (λ a. a.number ≤ 1 → Own) s (unlock m) (λ q e h. absurd (omega (arith, refused_above q.number (refused_number s (unlock m) q e))))
    (λ e h. go s.running refl (not-false _ (passed _ _ (passed _ _ (passed _ _ (passed _ _ e).1).1).1).0)) (λ e h. absurd (omega arith)) (λ e h. absurd (omega arith))
  where
    Own : Type 0
    Own = (r : ℕ) × (s.running ≡ some r) × (owner_of s.tables m ≡ some r)

    go : (o : Option ℕ) → s.running ≡ o → of_caller o (holds (owner_of s.tables m)) ≡ true → Own
    go none q e = absurd (clash e refl)
    go (some r) q e = (r, q, holds_true (owner_of s.tables m) r e)

-- the running task as it stands
pub sound_stands : (s : State) → Inv s → standing s ≡ s.running
unfolding standing
sound_stands s I = rw (inv_sound s I) refl

-- "Scheduling is held while hold depth is above 0": no step takes the running task away before the free that ends the hold
meet_held : (s : State) (r : ℕ) (l : List ℕ) → 1 ≤ (meet s (some r) l).hold → (meet s (some r) l).running ≡ some r
unfolding meet
meet_held s r [] = λ h. refl
meet_held s r (x ∷ l) = by_test (λ (z : State). 1 ≤ z.hold → z.running ≡ some r) (eqb s.hold 0 and ltb (level_of s x) (level_of s r))
    (λ e h. absurd (omega (arith, eqb-true s.hold 0 (and_l _ _ e)))) (λ e h. refl)

finish_held : (s : State) (e : Effect) (r : ℕ) → e.state.running ≡ some r → 1 ≤ (finish s e).hold → (finish s e).running ≡ some r
unfolding finish dispatch
finish_held s e r run = by_test (λ (z : State). 1 ≤ z.hold → z.running ≡ some r) e.state.started (λ q. go e.state.running run) (λ q h. run)
  where
    settled : State
    settled = settle (level_of s) e.state e.woken

    go : (o : Option ℕ) → o ≡ some r → 1 ≤ (meet settled o settled.ready).hold → (meet settled o settled.ready).running ≡ some r
    go o q = rw q (meet_held settled r settled.ready)

effect_held : (s : State) (x : Step) → held s ≡ true → first_row (refusals s x) ≡ none → (effect s x).state.running ≡ s.running
unfolding effect refusals caller_waits lock_by pass_on pend_by credit flush_of tick_of deliver send_by take_in receive_by
effect_held s (task p) h e = refl
effect_held s (mutex k) h e = refl
effect_held s (sem count max) h e = refl
effect_held s start h e = refl
effect_held s (lock m t) h e = caller_by (λ z. z.state.running ≡ s.running) s s.running _ refl (λ r. go r (owner_of s.tables m) refl)
  where
    row : taken s m and held s ≡ false
    row = (passed _ _ (passed _ _ (passed _ _ (passed _ _ (passed _ _ (passed _ _ (passed _ _ e).1).1).1).1).1).1).0

    go : (r : ℕ) (o : Option ℕ) → owner_of s.tables m ≡ o → (lock_by s m t r o).state.running ≡ s.running
    go r none q = refl
    go r (some o) q = absurd (clash h (and_false _ _ (true_some (owner_of s.tables m) o q) row))
effect_held s (unlock m) h e = go (best_waiter s.tables (mutex_of m))
  where
    go : (o : Option ℕ) → (pass_on s m o).state.running ≡ s.running
    go none = refl
    go (some w) = refl
effect_held s (pend k t) h e = caller_by (λ z. z.state.running ≡ s.running) s s.running _ refl (λ r. by_test (λ (z : Effect). z.state.running ≡ s.running) (no_credit s k)
    (λ q. absurd (clash h (and_false _ _ q row))) (λ q. refl))
  where
    row : no_credit s k and held s ≡ false
    row = (passed _ _ (passed _ _ (passed _ _ (passed _ _ (passed _ _ (passed _ _ e).1).1).1).1).1).0
effect_held s (post k) h e = go (best_waiter s.tables (sem_of k))
  where
    go : (o : Option ℕ) → (credit s k o).state.running ≡ s.running
    go none = refl
    go (some w) = refl
effect_held s (flush k) h e = refl
effect_held s (sleep t) h e = absurd (clash h (passed _ _ (passed _ _ (passed _ _ (passed _ _ e).1).1).1).0)
effect_held s yield h e = absurd (clash h (passed _ _ (passed _ _ (passed _ _ e).1).1).0)
effect_held s hold h e = refl
effect_held s free h e = refl
effect_held s tick h e = refl
effect_held s (level i) h e = refl
effect_held s (outcome i) h e = refl
effect_held s (queue w d o) h e = refl
effect_held s (send q t m) h e = caller_by (λ z. z.state.running ≡ s.running) s s.running _ refl (λ r. by_test (λ (z : Effect). z.state.running ≡ s.running) (no_room s q)
    (λ f. absurd (clash h (and_false _ _ f row))) (λ f. go (best_waiter s.tables (message_in q))))
  where
    row : no_room s q and held s ≡ false
    row = (passed _ _ (passed _ _ (passed _ _ (passed _ _ (passed _ _ (passed _ _ (passed _ _ e).1).1).1).1).1).1).0

    go : (o : Option ℕ) → (deliver s q m o).state.running ≡ s.running
    go none = refl
    go (some w) = refl
effect_held s (receive q t) h e = caller_by (λ z. z.state.running ≡ s.running) s s.running _ refl (λ r. from r (messages_of s.tables q) refl)
  where
    row : no_message s q and held s ≡ false
    row = (passed _ _ (passed _ _ (passed _ _ (passed _ _ (passed _ _ (passed _ _ (passed _ _ e).1).1).1).1).1).1).0

    go : (r : ℕ) (m : List ℕ) (ms : List (List ℕ)) (o : Option ℕ) → (take_in s q r m ms o).state.running ≡ s.running
    go r m ms none = refl
    go r m ms (some w) = refl

    from : (r : ℕ) (ms : List (List ℕ)) → messages_of s.tables q ≡ ms → (receive_by s q t r ms).state.running ≡ s.running
    from r [] f = absurd (clash h (and_false _ _ (eq-eqb _ _ (ap length f)) row))
    from r (m ∷ ms) f = go r m ms (best_waiter s.tables (room_in q))
effect_held s (word i n) h e = refl

pub held_stays : (s : State) → Inv s → (c : Call) → 1 ≤ s.hold → 1 ≤ (call s c).state.hold → (call s c).run ≡ s.running
held_stays s I c h = call_by Stays s c (step_by_lem Stays s c.made (λ r e k. refl) (λ e k. accept e k) (λ e. absurd (clash (inv_sound s I) e)) (λ e k. sound_stands s I)) (λ k. sound_stands s I)
  where
    Stays : Answer → Type 0
    Stays a = 1 ≤ a.state.hold → a.run ≡ s.running

    runner : (r : ℕ) × (s.running ≡ some r)
    runner = held_runs s I h

    accept : first_row (refusals s c.made) ≡ none → 1 ≤ (finish s (effect s c.made)).hold → (finish s (effect s c.made)).running ≡ s.running
    accept e k = finish_held s (effect s c.made) runner.0 (effect_held s c.made (lt-ltb 0 s.hold h) e ∙ runner.1) k ∙ sym runner.1

-- the state's own running task and ready order do not count
meet_again : (s : State) (q r : Option ℕ) (k l : List ℕ) → meet (placed s q k) r l ≡ meet s r l
unfolding meet
meet_again s q r k [] = refl
meet_again s q none k (x ∷ l) = refl
meet_again s q (some r) k (x ∷ l) = refl

-- "yield: the caller goes to the tail of its level, then the first ready task runs, perhaps the same one."
pub yield_to_tail : (s : State) → Inv s → (r : ℕ) → s.started ≡ true → s.running ≡ some r → s.hold ≡ 0
    → (step s yield).state ≡ meet s none (insert_tail (level_of s) r s.ready)
unfolding refusals first_row effect called yield_by finish dispatch is_formed
yield_to_tail s I r began run unheld = step_by_lem (λ a. a.state ≡ next) s yield (λ q e. none_some passes e) (λ e. go s.running run) (λ e. absurd (clash (inv_sound s I) e)) (λ e. absurd (clash refl e))
  where
    next : State
    next = meet s none (insert_tail (level_of s) r s.ready)

    passes : first_row (refusals s yield) ≡ none
    passes = rw (ap not began, ap not (true_some s.running r run), le-ltb 0 s.hold (omega arith)) refl

    go : (o : Option ℕ) → o ≡ some r → finish s (called s o (yield_by s)) ≡ next
    go o q = rw q (by_test (λ (z : State). z ≡ next) s.started
        (λ e. meet_again s none none _ _ ∙ ap (meet s none) (settled_one (task_count s.tables) r (level_of s) (level_of s) s.ready (λ i m. refl) I.ascending)) (λ e. absurd (clash began e)))

-- 15: "the state handed in isn't sound", and no task is named
pub unsound_15 : (s : State) (x : Step) → is_formed x ≡ true → soundb s ≡ false → step s x ≡ record { state = s; number = 15; value = 0; run = none }
unfolding step standing
unsound_15 s x f e = rw (f, e) refl

-- 14 comes before 15: what is no step, in whatever state
pub malformed_14 : (s : State) (x : Step) → is_formed x ≡ false → step s x ≡ record { state = s; number = 14; value = 0; run = standing s }
unfolding step malformed
malformed_14 s x f = rw f refl

-- "with the log's 8 all stay"; else the line is at the front and "bytes after it stay"
module _ (a : Answer) (memory : List ℕ) where
  abbrev size : ℕ
  size = length (log_line a)

  pub memory_of_8 : length memory < size → memory_after a memory ≡ memory
  unfolding memory_after
  memory_of_8 h = rw (lt-leb size (length memory) h) refl

  module _ (fits : size ≤ length memory) where
    written : memory_after a memory ≡ log_line a ++ drop size memory
    unfolding memory_after
    written = rw (le-leb size (length memory) fits) refl

    pub memory_length : length (memory_after a memory) ≡ length memory
    memory_length = rw written (simp (length-append, length-drop) (omega arith))

    pub memory_front : take size (memory_after a memory) ≡ log_line a
    memory_front = rw written (take_at (log_line a) (drop size memory) size refl)

    pub memory_rest : drop size (memory_after a memory) ≡ drop size memory
    memory_rest = rw written (drop_at (log_line a) (drop size memory) size refl)
