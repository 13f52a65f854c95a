-- Every accepted step keeps the invariant; a refused one changes nothing.
use Rattle.std.specs.Prelude.{◌≡◌, Bool, true, not, ℕ, ◌+◌, ◌-◌, ◌*◌, ◌%◌, ◌≤◌, ◌<◌, ltb, eqb}
use Rattle.std.proofs.Math.Path.{refl, ap}
use Rattle.std.proofs.Common.{sym, ◌∙◌, subst, arith}
use mathlib.Core.List.{List, [], ◌∷◌, ◌++◌}
use Rattle.std.proofs.Math.Bool.{false}
use Rattle.std.proofs.Math.Logic.{inl, inr}
use Rattle.std.proofs.Math.Option.{Option, none, some}
use Rattle.std.proofs.Math.ListN.{length, get_or}
use borrow.Author.Tests.{ltb-true, ltb-false, leb-true, leb-false, eqb-true, eqb-false, not-true, not-false, eq-eqb, ne_eqb}
use Rattle.lists.specs.Test.{◌and◌, someb, holds}
use Rattle.lists.specs.Count.{occ, below, opt, member}
use Rattle.lists.specs.Order.{keep, Ties}
use Rattle.lists.specs.TestLaws.{which, clash, by_test, and_l, and_r, and_false, or_true, or_none, none_some, some_same, some_true, true_some, holds_true}
use Rattle.lists.specs.CountLaws.{occ_append, occ_opt, below_out, in_below, below_le}
use Rattle.chains.specs.Chain.{end, link}
use Rattle.rules.specs.Sizes.{max_tasks, max_mutexes, max_semaphores, max_queues, levels, kinds, word_size, max_hold, max_ticks, forever, granted, flushed}
use Rattle.rules.specs.Tables.{Awaited, mutex_of, sem_of, room_in, message_in, time, awaited_kind, is_sleep, Wait, Tables, task_count, mutex_count, sem_count, queue_count, outcome_of, wait_of, words_of, owner_of, count_of, maximum_of, width_of, depth_of, queue_owner_of, messages_of, taken_by, space_taken, ticks_of, wait_for}
use Rattle.rules.specs.Levels.{owner_awaited, of_wait, next, links_of, closes_ring, awaits, best_waiter}
use Rattle.rules.specs.State.{State, fresh, with_tables, with_started, with_clock, with_hold, level_of}
use Rattle.rules.specs.Step.{Step, task, mutex, sem, start, lock, unlock, pend, post, flush, sleep, yield, hold, free, tick, level, outcome, queue, send, receive, word}
use Rattle.rules.specs.Effect.{Effect, done, give, set_count, set_messages, hands, end_waits, ended, caller_waits, lock_by, pass_on, pend_by, credit, flush_of, is_full, deliver, send_by, sent_by, take_in, receive_by, is_due, due, outcome_due, age_all, tick_of, yield_by, called, effect}
use Rattle.rules.specs.Settle.{settle, finish}
use Rattle.rules.specs.Refusal.{Row, is_waiting_time, is_sleep_time, held, of_caller, taken, no_credit, no_room, may_receive, no_such_mutex, no_such_sem, no_such_queue, refusals, first_row}
use Rattle.rules.specs.Sound.{wait_count, is_width, is_depth}
use Rattle.rules.specs.Answer.{decide, step_sound}
use Rattle.rules.specs.Invariant.{Unavailable, Suits, Left, Facts, HoldRuns, SetUp, Started, Inv}
use Rattle.rules.proofs.LevelLaws.{ring_none}
use Rattle.rules.proofs.FactsLaws.{facts_give, facts_free, facts_begin, wait_ended, facts_end, facts_count, facts_age}
use Rattle.rules.proofs.QueueLaws.{chain_held}
use Rattle.rules.proofs.MessageLaws.{held_facts, held_suits, sent_facts, handed_facts, took_facts, swapped_facts}
use Rattle.rules.proofs.SoundLaws.{depth_true, exists_true}
use Rattle.rules.proofs.SettleLaws.{settled_same, finish_inv}
use Rattle.rules.proofs.WaiterLaws.{wait_none, awaits_waits, awaited_blocked, not_due, outcome_due_lem, wait_in_lem, best_waits, nobody_best, places_end}
use Rattle.rules.proofs.CreationLaws.{mutex_inv, sem_inv, queue_inv, task_inv}

-- where no row applies, the first does not, and none of those after it
pub passed : (r : Row) (rs : List Row) → first_row (r ∷ rs) ≡ none → (r.when ≡ false) × (first_row rs ≡ none)
unfolding first_row
passed r rs e = elim (which r.when) [ inl q ↦ none_some (rw q at e) refl | inr q ↦ (q, rw q at e) ]

-- the ticks left of a wait that may begin; this depends on forever being no number of ticks
pub left_wait : (a : Awaited) (t : ℕ) → is_sleep a ≡ false → is_waiting_time t ≡ true → eqb t 0 ≡ false → Left a (ticks_of t)
unfolding ticks_of
left_wait a t awake e f = elim (which (eqb t forever)) [
  | inl q ↦ rw q awake
  | inr q ↦ rw q (omega (arith, eqb-false t 0 f), elim (or_true _ _ e) [ inl u ↦ leb-true t max_ticks u | inr u ↦ absurd (clash u q) ])
]

pub left_sleep : (t : ℕ) → is_sleep_time t ≡ true → Left time (ticks_of t)
unfolding ticks_of
left_sleep t e =
    let low = ltb-true 0 t (and_l _ _ e) in
    let high = leb-true t max_ticks (and_r _ _ e) in
    rw (ne_eqb t forever (λ q. omega arith)) (low, high)

-- what a step that needs a caller gives, where it is not refused as 5
pub called_by_lem : (P : Effect → Type 0) (s : State) (o : Option ℕ) (f : ℕ → Effect) → not (someb o) ≡ false → ((r : ℕ) → o ≡ some r → P (f r)) → P (called s o f)
unfolding called someb
called_by_lem P s none f e h = absurd (clash refl e)
called_by_lem P s (some r) f e h = h r refl

module _ (s : State) (I : Inv s) where
  -- "hold above 0 only with a running task", in both phases
  pub held_runs : HoldRuns s
  held_runs h = elim (which s.started) [ inl e ↦ (I.when_started e).hold_runs h | inr e ↦ absurd (omega (arith, (I.at_set_up e).hold_0)) ]

  -- the caller of a step
  module _ (r : ℕ) (run : s.running ≡ some r) where
    pub caller_in : r < task_count s.tables
    unfolding occ
    caller_in = in_below r (task_count s.tables) (omega (arith, I.places r, occ_opt s.running r run))

    pub caller_idle : wait_of s.tables r ≡ none
    unfolding occ
    caller_idle = wait_none (wait_of s.tables r) (omega (arith, I.places r, occ_opt s.running r run, I.facts.waiting r, below_le r (task_count s.tables)))

  -- after start nothing is asked of set-up
  no_set_up : {A : Type 0} → not s.started ≡ false → s.started ≡ false → A
  no_set_up e f = absurd (clash (not-false s.started e) f)

  abbrev Keeps : Effect → Type 0
  Keeps e = Inv (finish s e)

  -- a step that changes nothing
  idle_inv : (v : ℕ) → Inv (finish s (done s [] v))
  idle_inv v = finish_inv s (done s [] v) I.facts I.clock_in I.hold_in I.places held_runs set_up
    where
      set_up : s.started ≡ false → SetUp (settle (level_of s) s [])
      set_up e = let U = I.at_set_up e in record {
        clock_0 = U.clock_0;
        hold_0 = U.hold_0;
        idle = U.idle;
        nobody_waits = U.nobody_waits;
        nothing_owned = U.nothing_owned;
        outcomes_0 = U.outcomes_0;
        queues_empty = U.queues_empty;
        words_0 = U.words_0;
        id_order = subst (Ties (level_of s)) (sym (settled_same (task_count s.tables) (level_of s) (level_of s) s.ready (λ i m. refl) I.ascending)) U.id_order;
      }

  -- after start
  module _ (on : not s.started ≡ false) where
    S : Started s
    S = I.when_started (not-false s.started on)

    -- a step that changes only the tables, no wait among them
    tables_inv : (t : Tables) → Facts t → task_count t ≡ task_count s.tables → t.tasks.waiting ≡ s.tables.tasks.waiting → Keeps (done (with_tables s t) [] 0)
    tables_inv t F n w = finish_inv s (done (with_tables s t) [] 0) F I.clock_in I.hold_in
        (λ i. omega (arith, I.places i, ap (occ i) w, ap (below i) n)) S.hold_runs (no_set_up on)

    -- waits end
    end_inv : (t : Tables) (p : ℕ → Bool) (c : ℕ) → Facts t → c < word_size → task_count t ≡ task_count s.tables → t.tasks.waiting ≡ keep (λ i. not (p i)) s.tables.tasks.waiting
        → Keeps (done (with_clock (with_tables s t) c) (ended s.tables p) 0)
    end_inv t p c F low n w = finish_inv s (done (with_clock (with_tables s t) c) (ended s.tables p) 0) F low I.hold_in
        (places_end s t p n w I.places) S.hold_runs (no_set_up on)

    -- the caller waits: with tables T, in which at most its words are others than before
    wait_with_lem : (T : Tables) → Facts T → task_count T ≡ task_count s.tables → T.tasks.waits ≡ s.tables.tasks.waits → T.tasks.waiting ≡ s.tables.tasks.waiting
        → (r : ℕ) (a : Awaited) (t links : ℕ) → s.running ≡ some r → held s ≡ false → Unavailable T a → Suits T r a → Left a (ticks_of t)
        → closes_ring T r a ≡ false → Keeps (caller_waits (with_tables s T) r a t links)
    unfolding caller_waits occ
    wait_with_lem T F n ws w r a t links run unheld un suits left clear = finish_inv s (caller_waits (with_tables s T) r a t links)
        (facts_begin T r (wait_for a t) (omega (arith, caller_in r run)) (ap (λ l. get_or l r none) ws ∙ caller_idle r run) un suits left clear F) I.clock_in I.hold_in
        (λ i. omega (arith, I.places i, occ_append i T.tasks.waiting (r ∷ []), ap (occ i) w, ap (below i) n, ap (λ x. occ i (opt x)) run))
        (λ h. absurd (omega (arith, ltb-false 0 s.hold unheld))) (no_set_up on)

    wait_inv : (r : ℕ) (a : Awaited) (t links : ℕ) → s.running ≡ some r → held s ≡ false → Unavailable s.tables a → Suits s.tables r a → Left a (ticks_of t)
        → closes_ring s.tables r a ≡ false → Keeps (caller_waits s r a t links)
    wait_inv = wait_with_lem s.tables I.facts refl refl refl

    lock_inv : (r m t : ℕ) (o : Option ℕ) → s.running ≡ some r → owner_of s.tables m ≡ o → no_such_mutex s m ≡ false → is_waiting_time t ≡ true
        → someb o and eqb t 0 ≡ false → someb o and held s ≡ false → someb o and closes_ring s.tables r (mutex_of m) ≡ false → Keeps (lock_by s m t r o)
    unfolding lock_by someb ◌and◌ awaited_kind
    lock_inv r m t none run e there valid now unheld ring = tables_inv (give s.tables m (some r))
        (facts_give s.tables m r (leb-false (mutex_count s.tables) m there) (caller_in r run) (caller_idle r run) I.facts) refl refl
    lock_inv r m t (some o) run e there valid now unheld ring =
        wait_inv r (mutex_of m) t (links_of s.tables r (mutex_of m)) run unheld (o, e) tt (left_wait (mutex_of m) t refl valid now) ring

    unlock_inv : (m : ℕ) (o : Option ℕ) → best_waiter s.tables (mutex_of m) ≡ o → no_such_mutex s m ≡ false → Keeps (pass_on s m o)
    unfolding pass_on
    unlock_inv m none e there = tables_inv (give s.tables m none)
        (facts_free s.tables m (nobody_best s.tables I.facts (mutex_of m) e) I.facts) refl refl
    unlock_inv m (some w) e there =
        end_inv (give t m (some w)) (eqb w) s.clock (facts_give t m w (leb-false (mutex_count s.tables) m there) inside gone
        (facts_end s.tables (eqb w) (λ i. granted) (λ i q. inl refl) I.facts)) I.clock_in refl refl
      where
        t : Tables
        t = end_waits s.tables (eqb w) (λ i. granted)

        inside : w < task_count s.tables
        inside = wait_in_lem s.tables I.facts w (omega (arith, awaits_waits (wait_of s.tables w) (mutex_of m) (best_waits s.tables I.facts (mutex_of m) w e)))

        gone : wait_of t w ≡ none
        gone = wait_ended s.tables (eqb w) (λ i. granted) w ∙ rw (eq-eqb w w refl) refl

    pend_inv : (r k t : ℕ) → s.running ≡ some r → no_such_sem s k ≡ false → is_waiting_time t ≡ true → no_credit s k and eqb t 0 ≡ false
        → no_credit s k and held s ≡ false → Keeps (pend_by s k t r)
    unfolding pend_by owner_awaited awaited_kind
    pend_inv r k t run there valid now unheld = by_test Keeps (no_credit s k)
        (λ e. wait_inv r (sem_of k) t 0 run (and_false _ _ e unheld) (leb-false (sem_count s.tables) k there, eqb-true (count_of s.tables k) 0 e) tt
        (left_wait (sem_of k) t refl valid (and_false _ _ e now)) (ring_none s.tables I.facts r (sem_of k) refl))
        (λ e. tables_inv (set_count s.tables k (count_of s.tables k - 1)) (facts_count s.tables k (count_of s.tables k - 1)
        (λ i. nobody e i) (omega (arith, (I.facts.counts k (leb-false (sem_count s.tables) k there)).0)) I.facts) refl refl)
      where
        nobody : no_credit s k ≡ false → (i : ℕ) → awaits s.tables (sem_of k) i ≡ false
        nobody e i = elim (which (awaits s.tables (sem_of k) i)) [
          | inl q ↦ absurd (eqb-false (count_of s.tables k) 0 e (awaited_blocked s.tables (sem_of k) (wait_of s.tables i) (I.facts.blocked i) q).1)
          | inr q ↦ q
        ]

    post_inv : (k : ℕ) (o : Option ℕ) → best_waiter s.tables (sem_of k) ≡ o → no_such_sem s k ≡ false
        → not (someb o) and eqb (count_of s.tables k) (maximum_of s.tables k) ≡ false → Keeps (credit s k o)
    unfolding credit someb ◌and◌
    post_inv k none e there room = tables_inv (set_count s.tables k (count_of s.tables k + 1)) (facts_count s.tables k (count_of s.tables k + 1)
        (nobody_best s.tables I.facts (sem_of k) e)
        (omega (arith, (I.facts.counts k (leb-false (sem_count s.tables) k there)).0, eqb-false (count_of s.tables k) (maximum_of s.tables k) room)) I.facts) refl refl
    post_inv k (some w) e there room = end_inv (end_waits s.tables (eqb w) (λ i. granted)) (eqb w) s.clock
        (facts_end s.tables (eqb w) (λ i. granted) (λ i q. inl refl) I.facts) I.clock_in refl refl

    flush_inv : (k : ℕ) → Keeps (flush_of s k)
    unfolding flush_of
    flush_inv k = end_inv (end_waits s.tables (awaits s.tables (sem_of k)) (λ i. flushed)) (awaits s.tables (sem_of k)) s.clock
        (facts_end s.tables (awaits s.tables (sem_of k)) (λ i. flushed) (λ i q. inr (inr refl)) I.facts) I.clock_in refl refl

    tick_inv : Keeps (tick_of s)
    unfolding tick_of
    tick_inv = end_inv (age_all t) (due s.tables) ((s.clock + 1) % word_size)
        (facts_age t later (facts_end s.tables (due s.tables) (λ i. outcome_due (wait_of s.tables i)) (λ i q. outcome_due_lem (wait_of s.tables i)) I.facts)) (omega arith) refl refl
      where
        t : Tables
        t = end_waits s.tables (due s.tables) (λ i. outcome_due (wait_of s.tables i))

        later : (i : ℕ) → due t i ≡ false
        later i = rw (wait_ended s.tables (due s.tables) (λ j. outcome_due (wait_of s.tables j)) i) (by_test (λ (w : Option Wait). is_due w ≡ false) (due s.tables i) (λ e. no_wait) (λ e. e))
          where
            no_wait : is_due none ≡ false
            no_wait = not_due

    -- a message goes to the best waiting receiver, or to the tail of a queue that has room
    deliver_inv : (q : ℕ) (m : List ℕ) (o : Option ℕ) → best_waiter s.tables (message_in q) ≡ o → q < queue_count s.tables → length m ≡ width_of s.tables q
        → is_full s.tables q ≡ false → Keeps (deliver s q m o)
    unfolding deliver
    deliver_inv q m none e low wide gap = tables_inv (set_messages s.tables q (messages_of s.tables q ++ (m ∷ []))) (sent_facts s.tables I.facts q low m wide gap e) refl refl
    deliver_inv q m (some w) e low wide gap = end_inv (hands (end_waits s.tables (eqb w) (λ i. granted)) w m) (eqb w) s.clock
        (handed_facts s.tables I.facts q low m wide w e) I.clock_in refl refl

    send_inv : (r q t : ℕ) (m : List ℕ) → s.running ≡ some r → no_such_queue s q ≡ false → is_waiting_time t ≡ true → length m ≡ width_of s.tables q
        → no_room s q and eqb t 0 ≡ false → no_room s q and held s ≡ false → no_room s q and closes_ring s.tables r (room_in q) ≡ false → Keeps (send_by s q t m r)
    unfolding send_by awaited_kind
    send_inv r q t m run there valid wide now unheld ring = by_test Keeps (no_room s q)
        (λ e. wait_with_lem (hands s.tables r m) (held_facts s.tables I.facts q low m wide r (caller_in r run) (caller_idle r run)) refl refl refl
        r (room_in q) t (links_of s.tables r (room_in q)) run (and_false _ _ e unheld)
        (low, eqb-true (length (messages_of s.tables q)) (depth_of s.tables q) e) (held_suits s.tables I.facts q low m wide r (caller_in r run))
        (left_wait (room_in q) t refl valid (and_false _ _ e now)) (ap (λ l. member r l) (chain_held s.tables r m (room_in q)) ∙ and_false _ _ e ring))
        (λ e. deliver_inv q m (best_waiter s.tables (message_in q)) refl low wide e)
      where
        low : q < queue_count s.tables
        low = leb-false (queue_count s.tables) q there

    -- the oldest message is r's; the best waiting sender's goes to the tail
    take_inv : (r q : ℕ) (m : List ℕ) (ms : List (List ℕ)) (o : Option ℕ) → s.running ≡ some r → messages_of s.tables q ≡ m ∷ ms → best_waiter s.tables (room_in q) ≡ o
        → q < queue_count s.tables → Keeps (take_in s q r m ms o)
    unfolding take_in
    take_inv r q m ms none run e best low = tables_inv (hands (set_messages s.tables q ms) r m)
        (took_facts s.tables I.facts q low m ms e r (caller_in r run) (caller_idle r run) best) refl refl
    take_inv r q m ms (some w) run e best low = end_inv (hands (set_messages (end_waits s.tables (eqb w) (λ i. granted)) q (ms ++ (sent_by s.tables q w ∷ []))) r m) (eqb w) s.clock
        (swapped_facts s.tables I.facts q low m ms e r (caller_in r run) (caller_idle r run) w best) I.clock_in refl refl

    receive_inv : (r q t : ℕ) (ms : List (List ℕ)) → s.running ≡ some r → messages_of s.tables q ≡ ms → no_such_queue s q ≡ false → is_waiting_time t ≡ true
        → ((o : ℕ) → queue_owner_of s.tables q ≡ some o → o ≡ r) → eqb (length ms) 0 and eqb t 0 ≡ false → eqb (length ms) 0 and held s ≡ false → Keeps (receive_by s q t r ms)
    unfolding receive_by owner_awaited awaited_kind ◌and◌
    receive_inv r q t [] run e there valid own now unheld = wait_inv r (message_in q) t 0 run unheld (leb-false (queue_count s.tables) q there, ap length e) own
        (left_wait (message_in q) t refl valid now) (ring_none s.tables I.facts r (message_in q) refl)
    receive_inv r q t (m ∷ ms) run e there valid own now unheld = take_inv r q m ms (best_waiter s.tables (room_in q)) run e refl (leb-false (queue_count s.tables) q there)

    yield_inv : (r : ℕ) → s.running ≡ some r → held s ≡ false → Keeps (yield_by s r)
    unfolding yield_by occ
    yield_inv r run unheld = finish_inv s (yield_by s r) I.facts I.clock_in I.hold_in
        (λ i. omega (arith, I.places i, ap (λ x. occ i (opt x)) run)) (λ h. absurd (omega (arith, ltb-false 0 s.hold unheld))) (no_set_up on)

    depth_inv : (d : ℕ) → d ≤ max_hold → not (someb s.running) ≡ false → Keeps (done (with_hold s d) [] 0)
    depth_inv d low run = finish_inv s (done (with_hold s d) [] 0) I.facts I.clock_in low I.places
        (λ h. some_true s.running (not-false (someb s.running) run)) (no_set_up on)

  start_inv : s.started ≡ false → Keeps (done (with_started s true) [] 0)
  start_inv off = finish_inv s (done (with_started s true) [] 0) I.facts I.clock_in I.hold_in I.places
      (λ h. absurd (omega (arith, (I.at_set_up off).hold_0))) (λ e. absurd (clash refl e))

-- a test of the caller, where r runs
pub of_caller_lem : (o : Option ℕ) (p : ℕ → Bool) (r : ℕ) → o ≡ some r → of_caller o p ≡ p r
unfolding of_caller
of_caller_lem o p r e = rw e refl

-- "the only task that may receive"
pub may_receive_lem : (s : State) (q r : ℕ) → s.running ≡ some r → may_receive s q ≡ true → (o : ℕ) → queue_owner_of s.tables q ≡ some o → o ≡ r
may_receive_lem s q r run e o own = elim (or_true _ _ e) [
  | inl f ↦ absurd (clash (true_some (queue_owner_of s.tables q) o own) (not-true _ f))
  | inr f ↦ some_same (sym own ∙ holds_true (queue_owner_of s.tables q) r (sym (of_caller_lem s.running (holds (queue_owner_of s.tables q)) r run) ∙ f))
]

module _ (s : State) (I : Inv s) where
  accept_inv : (x : Step) → first_row (refusals s x) ≡ none → Inv (finish s (effect s x))
  unfolding effect refusals owner_awaited
  accept_inv (task p) e =
      let a = passed _ _ e in
      let b = passed _ _ a.1 in
      let c = passed _ _ b.1 in
      task_inv s I a.0 p _ (leb-false levels p b.0) (leb-false max_tasks (task_count s.tables) c.0)
  accept_inv (mutex k) e =
      let a = passed _ _ e in
      let b = passed _ _ a.1 in
      let c = passed _ _ b.1 in
      mutex_inv s I a.0 k _ (leb-false kinds k b.0) (leb-false max_mutexes (mutex_count s.tables) c.0)
  accept_inv (sem count max) e =
      let a = passed _ _ e in
      let b = passed _ _ a.1 in
      let c = passed _ _ b.1 in
      let d = or_none (eqb max 0) (ltb max count) b.0 in
      sem_inv s I a.0 count max _ (omega (arith, eqb-false max 0 d.0)) (ltb-false max count d.1)
      (leb-false max_semaphores (sem_count s.tables) c.0)
  accept_inv start e = start_inv s I (passed _ _ e).0
  accept_inv (lock m t) e =
      let a = passed _ _ e in
      let b = passed _ _ a.1 in
      let c = passed _ _ b.1 in
      let d = passed _ _ c.1 in
      let f = passed _ _ d.1 in
      let g = passed _ _ f.1 in
      let h = passed _ _ g.1 in
      let k = passed _ _ h.1 in
      called_by_lem (λ y. Inv (finish s y)) s s.running (λ r. lock_by s m t r (owner_of s.tables m)) b.0 (λ r run.
      lock_inv s I a.0 r m t (owner_of s.tables m) run refl c.0 (not-false (is_waiting_time t) d.0) g.0 h.0
      (ap (λ z. taken s m and z) (sym (of_caller_lem s.running (λ q. closes_ring s.tables q (mutex_of m)) r run)) ∙ k.0))
  accept_inv (unlock m) e =
      let a = passed _ _ e in
      let b = passed _ _ a.1 in
      let c = passed _ _ b.1 in
      unlock_inv s I a.0 m (best_waiter s.tables (mutex_of m)) refl c.0
  accept_inv (pend k t) e =
      let a = passed _ _ e in
      let b = passed _ _ a.1 in
      let c = passed _ _ b.1 in
      let d = passed _ _ c.1 in
      let g = passed _ _ d.1 in
      let h = passed _ _ g.1 in
      called_by_lem (λ y. Inv (finish s y)) s s.running (pend_by s k t) b.0 (λ r run.
      pend_inv s I a.0 r k t run c.0 (not-false (is_waiting_time t) d.0) g.0 h.0)
  accept_inv (post k) e =
      let a = passed _ _ e in
      let b = passed _ _ a.1 in
      let c = passed _ _ b.1 in
      post_inv s I a.0 k (best_waiter s.tables (sem_of k)) refl b.0 c.0
  accept_inv (flush k) e = flush_inv s I (passed _ _ e).0 k
  accept_inv (sleep t) e =
      let a = passed _ _ e in
      let b = passed _ _ a.1 in
      let c = passed _ _ b.1 in
      let d = passed _ _ c.1 in
      called_by_lem (λ y. Inv (finish s y)) s s.running (λ r. caller_waits s r time t 0) b.0 (λ r run.
      wait_inv s I a.0 r time t 0 run d.0 tt tt (left_sleep t (not-false (is_sleep_time t) c.0)) (ring_none s.tables I.facts r time refl))
  accept_inv yield e =
      let a = passed _ _ e in
      let b = passed _ _ a.1 in
      let c = passed _ _ b.1 in
      called_by_lem (λ y. Inv (finish s y)) s s.running (yield_by s) b.0 (λ r run. yield_inv s I a.0 r run c.0)
  accept_inv hold e =
      let a = passed _ _ e in
      let b = passed _ _ a.1 in
      let c = passed _ _ b.1 in
      depth_inv s I a.0 (s.hold + 1) (omega (arith, leb-false max_hold s.hold c.0)) b.0
  accept_inv free e =
      let a = passed _ _ e in
      let b = passed _ _ a.1 in
      depth_inv s I a.0 (s.hold - 1) (omega (arith, I.hold_in)) b.0
  accept_inv tick e = tick_inv s I (passed _ _ e).0
  accept_inv (level i) e = idle_inv s I (level_of s i)
  accept_inv (outcome i) e = idle_inv s I (outcome_of s.tables i)
  accept_inv (queue w d o) e =
      let a = passed _ _ e in
      let b = passed _ _ a.1 in
      let c = passed _ _ b.1 in
      let f = passed _ _ c.1 in
      let g = not-false (is_width w and is_depth d) c.0 in
      let h = depth_true d (and_r _ _ g) in
      let k = or_none _ _ f.0 in
      queue_inv s I a.0 w d o _ (and_l _ _ g) h.0 h.1 (exists_true (task_count s.tables) o (not-false _ b.0))
      (leb-false max_queues (queue_count s.tables) k.0) (ltb-false s.tables.queues.space (space_taken s.tables + w * d) k.1)
  accept_inv (send q t m) e =
      let a = passed _ _ e in
      let b = passed _ _ a.1 in
      let c = passed _ _ b.1 in
      let d = passed _ _ c.1 in
      let f = passed _ _ d.1 in
      let g = passed _ _ f.1 in
      let h = passed _ _ g.1 in
      let k = passed _ _ h.1 in
      let n = or_none _ _ d.0 in
      called_by_lem (λ y. Inv (finish s y)) s s.running (send_by s q t m) b.0 (λ r run.
      send_inv s I a.0 r q t m run c.0 (not-false (is_waiting_time t) n.0) (eqb-true (length m) (width_of s.tables q) (not-false _ n.1)) g.0 h.0
      (ap (λ z. no_room s q and z) (sym (of_caller_lem s.running (λ i. closes_ring s.tables i (room_in q)) r run)) ∙ k.0))
  accept_inv (receive q t) e =
      let a = passed _ _ e in
      let b = passed _ _ a.1 in
      let c = passed _ _ b.1 in
      let d = passed _ _ c.1 in
      let f = passed _ _ d.1 in
      let g = passed _ _ f.1 in
      let h = passed _ _ g.1 in
      called_by_lem (λ y. Inv (finish s y)) s s.running (λ r. receive_by s q t r (messages_of s.tables q)) b.0 (λ r run.
      receive_inv s I a.0 r q t (messages_of s.tables q) run refl c.0 (not-false (is_waiting_time t) d.0)
      (may_receive_lem s q r run (not-false (may_receive s q) f.0)) g.0 h.0)
  accept_inv (word i n) e = idle_inv s I (get_or (words_of s.tables i) n 0)

  -- every step keeps a sound state sound
  pub step_inv : (x : Step) → Inv (step_sound s x).state
  unfolding step_sound decide
  step_inv x = go (first_row (refusals s x)) refl
    where
      go : (o : Option Row) → first_row (refusals s x) ≡ o → Inv (decide s x o).state
      go none e = accept_inv x e
      go (some r) e = I

-- the fresh state is sound
pub fresh_inv : (space : ℕ) → Inv (fresh space)
unfolding fresh next of_wait occ wait_count taken_by
fresh_inv space = record {
  facts = record {
    wait_column = refl;
    outcome_column = refl;
    kind_column = refl;
    maximum_column = refl;
    word_column = refl;
    width_column = refl;
    depth_column = refl;
    message_column = refl;
    few_tasks = omega arith;
    few_mutexes = omega arith;
    few_semaphores = omega arith;
    few_queues = omega arith;
    priorities = λ i h. absurd (omega arith);
    kinds_in = λ m h. absurd (omega arith);
    waiting = λ i. refl;
    blocked = λ i. tt;
    timed = λ i. tt;
    owners = λ m o e. none_some refl e;
    owned_queues = λ q o e. none_some refl e;
    ends = λ i. (i ∷ [], link end);
    counts = λ k h. absurd (omega arith);
    outcomes = λ i h. absurd (omega arith);
    queues = λ q h. absurd (omega arith);
    placed_in = omega arith;
    words = λ i h. absurd (omega arith);
    queued = λ i. tt;
  };
  clock_in = omega arith;
  hold_in = omega arith;
  places = λ i. omega (arith, below_out i 0 (omega arith));
  ascending = tt;
  when_started = λ e. absurd (clash e refl);
  at_set_up = λ e. record {
    clock_0 = refl;
    hold_0 = refl;
    idle = refl;
    nobody_waits = λ i. refl;
    nothing_owned = λ m. refl;
    outcomes_0 = λ i. refl;
    queues_empty = λ q. refl;
    words_0 = λ i n. refl;
    id_order = tt;
  };
}
