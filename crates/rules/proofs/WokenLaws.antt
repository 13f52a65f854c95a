-- Tasks woken in one step stand in the order in which their waits began, behind those of their level that were ready before; of those the ones
-- whose level changed stand by id.
use Rattle.std.specs.Prelude.{◌≡◌, true, not, eqb}
use Rattle.std.proofs.Math.Path.{refl, ap}
use Rattle.std.proofs.Common.{sym, ◌∙◌, inl, inr, arith, ltb-true, lt-ltb, ne_eqb}
use mathlib.Core.List.{List, [], ◌∷◌, ◌++◌, append_assoc}
use Rattle.std.proofs.Math.Bool.{Bool}
use Rattle.std.proofs.Math.Option.{Option, none, some}
use Prim.Native.Nat.{ℕ, ◌≤◌, ◌<◌}
use Rattle.std.proofs.Math.Dec.{ltb, leb}
use Rattle.std.proofs.lemmas.Bool.{lt-leb}
use Rattle.lists.specs.Test.{◌and◌}
use Rattle.lists.specs.Count.{occ, member, below, opt}
use Rattle.lists.specs.Order.{keep, range, by_id, place, insert_head, stands_before}
use Rattle.lists.specs.TestLaws.{which, by_test, and_r}
use Rattle.lists.specs.CountLaws.{occ_append, occ_head, below_in, in_below, below_le}
use Rattle.lists.specs.OrderLaws.{occ_kept, occ_dropped, occ_range, occ_split}
use Rattle.lists.specs.TableLaws.{length_snoc}
use Rattle.lists.specs.BeforeLaws.{stands_kept, stands_behind, stands_ahead, stands_front, stands_place, stands_range, stands_stable}
use Rattle.rules.specs.Tables.{Awaited, mutex_of, sem_of, room_in, message_in, time, Tables, task_count, owner_of, messages_of}
use Rattle.rules.specs.Levels.{level_in, awaits, best_waiter}
use Rattle.rules.specs.State.{State, with_tables, level_of}
use Rattle.rules.specs.Step.{Step, task, mutex, sem, start, lock, unlock, pend, post, flush, sleep, yield, hold, free, tick, level, outcome, queue, send, receive, word}
use Rattle.rules.specs.Effect.{Effect, done, hands, caller_waits, lock_by, pass_on, pend_by, credit, flush_of, deliver, send_by, take_in, receive_by, due, tick_of, yield_by, called, effect}
use Rattle.rules.specs.Settle.{settled_ready, settle, meet, dispatch, finish}
use Rattle.rules.specs.Refusal.{no_credit, no_room}
use Rattle.rules.specs.Log.{Call, call}
use Rattle.rules.specs.Sound.{soundb}
use Rattle.rules.specs.Invariant.{Inv}
use Rattle.rules.specs.Demand.{events, after, told_in, told}
use Rattle.rules.specs.Woken.{Woken, line_of}
use Rattle.rules.proofs.OutcomeLaws.{finish_tables}
use Rattle.rules.proofs.RefusalLaws.{call_by, step_by_lem, caller_by}
use Rattle.rules.proofs.SoundLaws.{sound_inv}
use Rattle.rules.proofs.AgreeLaws.{tells_agrees}
use Rattle.rules.proofs.DemandLaws.{call_inv, list_sound}

-- two tasks, of which y was not ready before, where their levels are the same: they stand as in the row that is put in order
module _ (n : ℕ) (old new : ℕ → ℕ) (ready woken : List ℕ) (x y : ℕ) (late : occ y ready ≡ 0) (e : new x ≡ new y) where
  abbrev same : ℕ → Bool
  same i = eqb (new i) (old i)

  abbrev moved : List ℕ
  moved = by_id n (λ i. not (same i) and member i ready)

  -- who was ready either stays or moves
  split : (i : ℕ) → occ i ready ≤ below i n → occ i (keep same ready ++ moved) ≡ occ i ready
  split i h = omega (arith, occ_append i (keep same ready) moved, occ_split i n same ready h)

  row : stands_before x y (settled_ready n old new ready woken) ≡ stands_before x y ((keep same ready ++ moved) ++ woken)
  unfolding settled_ready
  row = stands_stable new x y e (keep same ready ++ (moved ++ woken)) ∙ ap (stands_before x y) (sym (append_assoc (keep same ready) moved woken))

  settled_before : occ x ready ≡ 0 → stands_before x y (settled_ready n old new ready woken) ≡ stands_before x y woken
  settled_before h = row ∙ stands_behind x y (keep same ready ++ moved) woken (split x (omega arith) ∙ h) (split y (omega arith) ∙ late)

  settled_behind : occ x ready ≤ below x n → 1 ≤ occ x ready → stands_before x y (settled_ready n old new ready woken) ≡ true
  settled_behind h m = row ∙ stands_ahead x y (keep same ready ++ moved) woken (omega (arith, split x h)) (split y (omega arith) ∙ late)

-- two ready tasks whose level changed to the same one stand by id
settled_by_id : (n : ℕ) (old new : ℕ → ℕ) (ready woken : List ℕ) (x y : ℕ) → x < n → y < n → 1 ≤ occ x ready → 1 ≤ occ y ready → (new x ≡ old x → ⊥) → (new y ≡ old y → ⊥) → new x ≡ new y
    → stands_before x y (settled_ready n old new ready woken) ≡ ltb x y
unfolding settled_ready by_id ◌and◌
settled_by_id n old new ready woken x y hx hy mx my cx cy e =
    stands_stable new x y e (keep same ready ++ (by_id n p ++ woken))
    ∙ stands_behind x y (keep same ready) (by_id n p ++ woken) (occ_dropped same x ready (ne_eqb (new x) (old x) cx)) (occ_dropped same y ready (ne_eqb (new y) (old y) cy))
    ∙ stands_front x y (by_id n p) woken (omega (arith, occ_kept p y (range n) (passes y my cy), occ_range y n, below_in y n hy))
    ∙ stands_kept x y p (passes x mx cx) (passes y my cy) (range n)
    ∙ stands_range x y n hx hy
  where
    same : ℕ → Bool
    same i = eqb (new i) (old i)

    p : ℕ → Bool
    p i = not (same i) and member i ready

    passes : (i : ℕ) → 1 ≤ occ i ready → (new i ≡ old i → ⊥) → p i ≡ true
    passes i m c = rw (ne_eqb (new i) (old i) c, lt-ltb 0 (occ i ready) m) refl

-- two tasks that do not run: the dispatch leaves them as they stand
module _ (x y : ℕ) where
  meet_before : (s : State) (r : Option ℕ) (l : List ℕ) → occ x (opt r) ≡ 0 → occ y (opt r) ≡ 0 → stands_before x y (line_of (meet s r l)) ≡ stands_before x y l
  unfolding meet insert_head place
  meet_before s r [] hx hy = stands_behind x y (opt r) [] hx hy
  meet_before s none (z ∷ l) hx hy = refl
  meet_before s (some r) (z ∷ l) hx hy = by_test (λ (t : State). stands_before x y (line_of t) ≡ stands_before x y (z ∷ l)) (eqb s.hold 0 and ltb (level_of s z) (level_of s r))
      (λ e. ap (stands_before x y) (ahead (ltb-true (level_of s z) (level_of s r) (and_r _ _ e))) ∙ stands_place x y p r (other x hx) (other y hy) (z ∷ l))
      (λ e. stands_behind x y (r ∷ []) (z ∷ l) hx hy)
    where
      p : ℕ → Bool
      p i = leb (level_of s r) (level_of s i)

      -- the displaced task goes behind the one that displaces it
      ahead : level_of s z < level_of s r → z ∷ place p r l ≡ place p r (z ∷ l)
      ahead h = rw (lt-leb (level_of s r) (level_of s z) h) refl

      other : (i : ℕ) → occ i (r ∷ []) ≡ 0 → r ≡ i → ⊥
      other i h q = omega (arith, h, occ_head r [], ap (λ k. occ k (r ∷ [])) q)

  finish_before : (s : State) (e : Effect) → occ x (opt e.state.running) ≡ 0 → occ y (opt e.state.running) ≡ 0
      → stands_before x y (line_of (finish s e)) ≡ stands_before x y (settled_ready (task_count e.state.tables) (level_of s) (level_of e.state) e.state.ready e.woken)
  unfolding finish dispatch
  finish_before s e hx hy = by_test (λ (t : State). stands_before x y (line_of t) ≡ stands_before x y order) e.state.started
      (λ q. meet_before (settle (level_of s) e.state e.woken) e.state.running order hx hy) (λ q. stands_behind x y (opt e.state.running) order hx hy)
    where
      order : List ℕ
      order = settled_ready (task_count e.state.tables) (level_of s) (level_of e.state) e.state.ready e.woken

-- what an effect leaves to the settling: no task is lost, who was ready still is, nobody begins to run, and the woken stand in the order of
-- their waits
module _ (s : State) where
  abbrev waits_of_lem : State → List ℕ
  waits_of_lem t = t.tables.tasks.waiting

  pub record Leaves (e : Effect) : Type 0 where
    pub tasks : task_count s.tables ≤ task_count e.state.tables
    pub ready : e.state.ready ≡ s.ready
    pub runs : (i : ℕ) → occ i (opt e.state.running) ≤ occ i (opt s.running)
    pub order : (i j : ℕ) → Woken s e.state i → Woken s e.state j → stands_before i j e.woken ≡ stands_before i j (waits_of_lem s)

  -- a step that ends no wait
  lets_wait : (e : Effect) → task_count s.tables ≤ task_count e.state.tables → e.state.ready ≡ s.ready → ((i : ℕ) → occ i (opt e.state.running) ≤ occ i (opt s.running))
      → ((i : ℕ) → occ i (waits_of_lem s) ≤ occ i (waits_of_lem e.state)) → Leaves e
  lets_wait e n q r w = record { tasks = n; ready = q; runs = r; order = λ i j a b. absurd (omega (arith, a.waited, a.awake, w i)) }

  stays : (e : Effect) → task_count e.state.tables ≡ task_count s.tables → e.state.ready ≡ s.ready → e.state.running ≡ s.running → waits_of_lem e.state ≡ waits_of_lem s → Leaves e
  stays e n q r w = lets_wait e (omega (arith, n)) q (λ i. omega (arith, ap (λ o. occ i (opt o)) r)) (λ i. omega (arith, ap (occ i) w))

  -- the caller waits
  waits : (t : Tables) → task_count t ≡ task_count s.tables → t.tasks.waiting ≡ waits_of_lem s → (r : ℕ) (a : Awaited) (n links : ℕ) → Leaves (caller_waits (with_tables s t) r a n links)
  unfolding caller_waits occ
  waits t c w r a n links = lets_wait (caller_waits (with_tables s t) r a n links) (omega (arith, c)) refl (λ i. omega arith) (λ i. omega (arith, occ_append i t.tasks.waiting (r ∷ []), ap (occ i) w))

  -- waits end
  wakes : (e : Effect) (p : ℕ → Bool) → task_count e.state.tables ≡ task_count s.tables → e.state.ready ≡ s.ready → e.state.running ≡ s.running → e.woken ≡ keep p (waits_of_lem s)
      → waits_of_lem e.state ≡ keep (λ i. not (p i)) (waits_of_lem s) → Leaves e
  wakes e p n q r c w = record {
    tasks = omega (arith, n);
    ready = q;
    runs = λ i. omega (arith, ap (λ o. occ i (opt o)) r);
    order = λ i j a b. ap (stands_before i j) c ∙ stands_kept i j p (passes i a) (passes j b) (waits_of_lem s);
  }
    where
      passes : (i : ℕ) → Woken s e.state i → p i ≡ true
      passes i a = elim (which (p i)) [
        | inl h ↦ h
        | inr h ↦ absurd (omega (arith, a.waited, a.awake, ap (occ i) w, occ_kept (λ k. not (p k)) i (waits_of_lem s) (ap not h)))
      ]

  lock_leaves : (m t r : ℕ) (o : Option ℕ) → Leaves (lock_by s m t r o)
  unfolding lock_by
  lock_leaves m t r none = stays (lock_by s m t r none) refl refl refl refl
  lock_leaves m t r (some o) = waits s.tables refl refl r (mutex_of m) t _

  unlock_leaves : (m : ℕ) (o : Option ℕ) → Leaves (pass_on s m o)
  unfolding pass_on
  unlock_leaves m none = stays (pass_on s m none) refl refl refl refl
  unlock_leaves m (some w) = wakes (pass_on s m (some w)) (eqb w) refl refl refl refl refl

  post_leaves : (k : ℕ) (o : Option ℕ) → Leaves (credit s k o)
  unfolding credit
  post_leaves k none = stays (credit s k none) refl refl refl refl
  post_leaves k (some w) = wakes (credit s k (some w)) (eqb w) refl refl refl refl refl

  deliver_leaves : (q : ℕ) (m : List ℕ) (o : Option ℕ) → Leaves (deliver s q m o)
  unfolding deliver
  deliver_leaves q m none = stays (deliver s q m none) refl refl refl refl
  deliver_leaves q m (some w) = wakes (deliver s q m (some w)) (eqb w) refl refl refl refl refl

  take_leaves : (q r : ℕ) (m : List ℕ) (ms : List (List ℕ)) (o : Option ℕ) → Leaves (take_in s q r m ms o)
  unfolding take_in
  take_leaves q r m ms none = stays (take_in s q r m ms none) refl refl refl refl
  take_leaves q r m ms (some w) = wakes (take_in s q r m ms (some w)) (eqb w) refl refl refl refl refl

  receive_leaves : (q t r : ℕ) (ms : List (List ℕ)) → Leaves (receive_by s q t r ms)
  unfolding receive_by
  receive_leaves q t r [] = waits s.tables refl refl r (message_in q) t 0
  receive_leaves q t r (m ∷ ms) = take_leaves q r m ms (best_waiter s.tables (room_in q))

  abbrev of_caller_lem : (f : ℕ → Effect) → ((r : ℕ) → Leaves (f r)) → Leaves (called s s.running f)
  of_caller_lem f h = caller_by Leaves s s.running f (stays (done s [] 0) refl refl refl refl) h

  effect_leaves : (x : Step) → Leaves (effect s x)
  unfolding effect pend_by flush_of send_by tick_of yield_by occ
  effect_leaves (task p) = lets_wait (effect s (task p)) (omega (arith, length_snoc s.tables.tasks.priorities p)) refl (λ i. omega arith) (λ i. omega arith)
  effect_leaves (mutex k) = stays (effect s (mutex k)) refl refl refl refl
  effect_leaves (sem count max) = stays (effect s (sem count max)) refl refl refl refl
  effect_leaves start = stays (effect s start) refl refl refl refl
  effect_leaves (lock m t) = of_caller_lem _ (λ r. lock_leaves m t r (owner_of s.tables m))
  effect_leaves (unlock m) = unlock_leaves m (best_waiter s.tables (mutex_of m))
  effect_leaves (pend k t) = of_caller_lem _ (λ r. by_test Leaves (no_credit s k) (λ q. waits s.tables refl refl r (sem_of k) t 0) (λ q. stays _ refl refl refl refl))
  effect_leaves (post k) = post_leaves k (best_waiter s.tables (sem_of k))
  effect_leaves (flush k) = wakes (flush_of s k) (awaits s.tables (sem_of k)) refl refl refl refl refl
  effect_leaves (sleep t) = of_caller_lem _ (λ r. waits s.tables refl refl r time t 0)
  effect_leaves yield = of_caller_lem _ (λ r. lets_wait (yield_by s r) (omega arith) refl (λ i. omega arith) (λ i. omega arith))
  effect_leaves hold = stays (effect s hold) refl refl refl refl
  effect_leaves free = stays (effect s free) refl refl refl refl
  effect_leaves tick = wakes (tick_of s) (due s.tables) refl refl refl refl refl
  effect_leaves (level i) = stays (effect s (level i)) refl refl refl refl
  effect_leaves (outcome i) = stays (effect s (outcome i)) refl refl refl refl
  effect_leaves (queue w d o) = stays (effect s (queue w d o)) refl refl refl refl
  effect_leaves (send q t m) = of_caller_lem _ (λ r. by_test Leaves (no_room s q) (λ f. waits (hands s.tables r m) refl refl r (room_in q) t _) (λ f. deliver_leaves q m (best_waiter s.tables (message_in q))))
  effect_leaves (receive q t) = of_caller_lem _ (λ r. receive_leaves q t r (messages_of s.tables q))
  effect_leaves (word i n) = stays (effect s (word i n)) refl refl refl refl

-- a call leaves the state, or is the effect of a step, settled and dispatched
call_leaves : (P : State → Type 0) (s : State) (c : Call) → P s → ((e : Effect) → Leaves s e → P (finish s e)) → P (call s c).state
call_leaves P s c still h = call_by (λ a. P a.state) s c (step_by_lem (λ a. P a.state) s c.made (λ r q. still)
    (λ q. h (effect s c.made) (effect_leaves s c.made)) (λ q. still) (λ q. still)) still

-- two tasks that were not running
module _ (s : State) (I : Inv s) (e : Effect) (L : Leaves s e) (i j : ℕ) (off_i : occ i (opt s.running) ≡ 0) (off_j : occ j (opt s.running) ≡ 0)
    (equal : level_of (finish s e) i ≡ level_of (finish s e) j) where
  abbrev tasks_then : ℕ
  tasks_then = task_count e.state.tables

  abbrev order_then : List ℕ
  order_then = settled_ready tasks_then (level_of s) (level_of e.state) e.state.ready e.woken

  awake : (k : ℕ) → Woken s (finish s e) k → Woken s e.state k
  awake k v = record { waited = v.waited; awake = ap (λ (t : Tables). occ k t.tasks.waiting) (sym (finish_tables s e)) ∙ v.awake }

  level_then : (k : ℕ) → level_of (finish s e) k ≡ level_of e.state k
  level_then k = ap (λ t. level_in t k) (finish_tables s e)

  levels : level_of e.state i ≡ level_of e.state j
  levels = sym (level_then i) ∙ equal ∙ level_then j

  -- who waits is not ready
  late : (k : ℕ) → 1 ≤ occ k s.tables.tasks.waiting → occ k e.state.ready ≡ 0
  late k h = ap (occ k) L.ready ∙ omega (arith, I.places k, below_le k (task_count s.tables))

  -- who was ready is, and was made
  there : (k : ℕ) → 1 ≤ occ k s.ready → (k < tasks_then) × (1 ≤ occ k e.state.ready)
  there k h = (omega (arith, L.tasks, in_below k (task_count s.tables) (omega (arith, I.places k))), omega (arith, ap (occ k) L.ready))

  line : stands_before i j (line_of (finish s e)) ≡ stands_before i j order_then
  line = finish_before i j s e (omega (arith, off_i, L.runs i)) (omega (arith, off_j, L.runs j))

  by_wait : Woken s (finish s e) i → Woken s (finish s e) j → stands_before i j (line_of (finish s e)) ≡ stands_before i j s.tables.tasks.waiting
  by_wait v w = line ∙ settled_before tasks_then (level_of s) (level_of e.state) e.state.ready e.woken i j (late j w.waited) levels (late i v.waited) ∙ L.order i j (awake i v) (awake j w)

  behind : 1 ≤ occ i s.ready → Woken s (finish s e) j → stands_before i j (line_of (finish s e)) ≡ true
  unfolding occ
  behind h w = line ∙ settled_behind tasks_then (level_of s) (level_of e.state) e.state.ready e.woken i j (late j w.waited) levels
      (omega (arith, ap (occ i) L.ready, I.places i, below_le i (task_count s.tables), below_in i tasks_then (there i h).0)) (there i h).1

  id_order : 1 ≤ occ i s.ready → 1 ≤ occ j s.ready → (level_of (finish s e) i ≡ level_of s i → ⊥) → (level_of (finish s e) j ≡ level_of s j → ⊥) → stands_before i j (line_of (finish s e)) ≡ ltb i j
  id_order g h c d = line ∙ settled_by_id tasks_then (level_of s) (level_of e.state) e.state.ready e.woken i j (there i g).0 (there j h).0 (there i g).1 (there j h).1
      (λ q. c (level_then i ∙ q)) (λ q. d (level_then j ∙ q)) levels

-- who is ready or waits doesn't run
module _ (s : State) (I : Inv s) (i : ℕ) where
  ready_rests : 1 ≤ occ i s.ready → occ i (opt s.running) ≡ 0
  ready_rests h = omega (arith, I.places i, below_le i (task_count s.tables))

  waiter_rests : 1 ≤ occ i s.tables.tasks.waiting → occ i (opt s.running) ≡ 0
  waiter_rests h = omega (arith, I.places i, below_le i (task_count s.tables))

-- a woken task stands in the line, once
pub woken_stands : (s : State) → Inv s → (c : Call) (i : ℕ) → Woken s (call s c).state i → occ i (line_of (call s c).state) ≡ 1
unfolding occ
woken_stands s I c i w =
    let t = (call s c).state in
    let more = call_leaves (λ u. task_count s.tables ≤ task_count u.tables) s c (omega arith) (λ e L. omega (arith, L.tasks, ap task_count (finish_tables s e))) in
    let made = in_below i (task_count s.tables) (omega (arith, w.waited, I.places i)) in
    omega (arith, occ_append i (opt t.running) t.ready, (call_inv s I c).places i, w.awake, below_in i (task_count t.tables) (omega (arith, more, made)))

-- "They are to enter in the order in which their waits began": a woken task stands before another woken one of its level exactly where its
-- wait is older, whatever the step was
pub woken_by_wait : (s : State) → Inv s → (c : Call) (i j : ℕ) → Woken s (call s c).state i → Woken s (call s c).state j
    → level_of (call s c).state i ≡ level_of (call s c).state j
    → stands_before i j (line_of (call s c).state) ≡ stands_before i j s.tables.tasks.waiting
woken_by_wait s I c i j = call_leaves
    (λ t. Woken s t i → Woken s t j → level_of t i ≡ level_of t j → stands_before i j (line_of t) ≡ stands_before i j s.tables.tasks.waiting) s c
    (λ v w l. absurd (omega (arith, w.waited, w.awake)))
    (λ e L v w l. by_wait s I e L i j (waiter_rests s I i v.waited) (waiter_rests s I j w.waited) l v w)

-- the same over every list of calls from a sound state, the order of the waits as the history tells it
pub woken_as_told : (s : State) → soundb s ≡ true → (cs : List Call) (c : Call) (i j : ℕ) → Woken (after s cs) (call (after s cs) c).state i → Woken (after s cs) (call (after s cs) c).state j
    → level_of (call (after s cs) c).state i ≡ level_of (call (after s cs) c).state j
    → stands_before i j (line_of (call (after s cs) c).state) ≡ stands_before i j (told s (events s cs)).order
unfolding told
woken_as_told s e cs c i j v w l =
    let r = list_sound cs s (told_in s) (sound_inv s e) (tells_agrees s) in
    woken_by_wait (after s cs) r.0 c i j v w l ∙ ap (stands_before i j) (sym r.1.tables.order)

-- "ready tasks whose level changed go .. ; newly ready tasks go" after them: who was ready before stands before a woken one of its level
pub woken_behind : (s : State) → Inv s → (c : Call) (i j : ℕ) → 1 ≤ occ i s.ready → Woken s (call s c).state j
    → level_of (call s c).state i ≡ level_of (call s c).state j
    → stands_before i j (line_of (call s c).state) ≡ true
woken_behind s I c i j h = call_leaves
    (λ t. Woken s t j → level_of t i ≡ level_of t j → stands_before i j (line_of t) ≡ true) s c
    (λ w l. absurd (omega (arith, w.waited, w.awake)))
    (λ e L w l. behind s I e L i j (ready_rests s I i h) (waiter_rests s I j w.waited) l h w)

-- "Ready tasks whose level changed keep id order.": of two whose level the step changed to the same one, the one with the smaller id stands first
pub moved_by_id : (s : State) → Inv s → (c : Call) (i j : ℕ) → 1 ≤ occ i s.ready → 1 ≤ occ j s.ready
    → (level_of (call s c).state i ≡ level_of s i → ⊥) → (level_of (call s c).state j ≡ level_of s j → ⊥)
    → level_of (call s c).state i ≡ level_of (call s c).state j
    → stands_before i j (line_of (call s c).state) ≡ ltb i j
moved_by_id s I c i j g h = call_leaves
    (λ t. (level_of t i ≡ level_of s i → ⊥) → (level_of t j ≡ level_of s j → ⊥) → level_of t i ≡ level_of t j → stands_before i j (line_of t) ≡ ltb i j) s c
    (λ m n l. absurd (m refl))
    (λ e L m n l. id_order s I e L i j (ready_rests s I i g) (ready_rests s I j h) l g h m n)
