-- What is told is what the state holds: the history agrees with the rules' state after every call.
use Rattle.std.specs.Prelude.{◌≡◌, Bool, true, false, ℕ, ◌+◌, ◌-◌, ◌<◌, leb, eqb, length}
use Rattle.std.proofs.Math.Path.{refl, ap, sym, fun_ext}
use Rattle.std.proofs.Common.{◌∙◌, arith, get_or-set_same, get_or-set_other}
use mathlib.Core.List.{List, [], ◌∷◌, ◌++◌}
use Rattle.std.proofs.Math.Bool.{cond, not}
use Rattle.std.proofs.Math.Option.{Option, none, some}
use Rattle.std.proofs.Math.Decide.{ℕ_discrete}
use Rattle.std.proofs.Math.Dec.{ltb}
use Rattle.std.proofs.Math.ListN.{get_or, get_or-map}
use borrow.Author.Tests.{leb-false, eqb-true, not-false, lt-leb, eq-eqb, ne_eqb}
use Rattle.lists.specs.Test.{◌and◌, holds}
use Rattle.lists.specs.Order.{keep, least_first}
use Rattle.lists.specs.Table.{put_where}
use Rattle.lists.specs.TestLaws.{clash, by_test, none_some, same_test}
use Rattle.lists.specs.TableLaws.{snoc_default}
use Rattle.chains.specs.Least.{least_leading}
use Rattle.rules.specs.Sizes.{inheriting, granted, flushed}
use Rattle.rules.specs.Tables.{Awaited, mutex_of, sem_of, room_in, message_in, time, Wait, wait_for, SemTable, Tables, with_semaphores, task_count, mutex_count, priority_of, wait_of, kind_of, owner_of, count_of, messages_of}
use Rattle.rules.specs.Levels.{owner_awaited, heir_awaited, of_wait, next, lends, level_in, links_of, wait_is_for, awaits, waiters_of, best_waiter}
use Rattle.rules.specs.State.{State, with_tables, placed, level_of}
use Rattle.rules.specs.Step.{Step, task, mutex, sem, start, lock, unlock, pend, post, flush, sleep, yield, hold, free, tick, level, outcome, queue, send, receive, word}
use Rattle.rules.specs.Effect.{Effect, done, add_task, add_mutex, add_queue, give, set_count, set_messages, hands, begin_wait, end_waits, caller_waits, lock_by, pass_on, pend_by, credit, flush_of, deliver, send_by, take_in, receive_by, is_due, due, less_one, age, age_all, tick_of, yield_by, effect}
use Rattle.rules.specs.Settle.{settle, meet, dispatch, finish}
use Rattle.rules.specs.Refusal.{of_caller, no_credit, no_room, caller_owns, refusals, first_row}
use Rattle.rules.specs.Answer.{Answer, answer_with, answered, standing}
use Rattle.rules.specs.Log.{Call, call}
use Rattle.rules.specs.Invariant.{Facts, Inv}
use Rattle.rules.proofs.FactsLaws.{wait_ended}
use Rattle.rules.proofs.WaiterLaws.{best_is_least}
use Rattle.rules.proofs.StepLaws.{passed, called_by_lem, caller_in}
use Rattle.rules.proofs.SoundLaws.{inv_sound}
use Rattle.rules.specs.History.{Told, told_owner, told_heir, told_next, told_lends, told_level, told_best, now_owned, begins, ends_where, ends_of, time_up, ticked, runner_owns, hands_over, tells, now_runs, observe}
use Rattle.rules.specs.Demand.{event_of, told_in}
use Rattle.rules.proofs.RefusalLaws.{refused_number, refused_above, step_by_lem, call_by, sound_stands}

-- so many ticks less, and a wait so many ticks after it began
unfoldable pub since : ℕ → Option ℕ → Option ℕ
since n none = none
since n (some k) = some (k - n)

unfoldable pub as_wait : ℕ → Option Wait → Option Wait
as_wait n none = none
as_wait n (some w) = some (record { on = w.on; left = since n w.left })

-- of who does not wait no wait is told
pub none_told : (n : ℕ) (w : Option Wait) → as_wait n w ≡ none → w ≡ none
unfolding as_wait
none_told n none e = refl
none_told n (some w) e = none_some e refl

-- the tables match what is told
pub record Matches (t : Tables) (h : Told) : Type 0 where
  pub priorities : h.priorities ≡ t.tasks.priorities
  pub kinds : h.kinds ≡ t.mutexes.kinds
  pub queue_owners : h.queue_owners ≡ t.queues.owners
  pub owner : (m : ℕ) → h.owner m ≡ owner_of t m
  pub wait : (i : ℕ) → as_wait (h.ticks i) (h.wait i) ≡ wait_of t i
  pub order : h.order ≡ t.tasks.waiting

-- the state is as told
pub record Agrees (s : State) (h : Told) : Type 0 where
  pub tables : Matches s.tables h
  pub runs : h.runs ≡ s.running
  pub depth : h.depth ≡ s.hold
  pub started : h.started ≡ s.started

-- every state is as it tells
wait_as : (w : Option Wait) → as_wait 0 w ≡ w
unfolding as_wait since
wait_as none = refl
wait_as (some w) = ap (λ l. some (record { on = w.on; left = l })) (go w.left)
  where
    go : (l : Option ℕ) → since 0 l ≡ l
    go none = refl
    go (some k) = ap some (omega arith)

pub tells_agrees : (s : State) → Agrees s (told_in s)
unfolding told_in
tells_agrees s = record {
  tables = record { priorities = refl; kinds = refl; queue_owners = refl; owner = λ m. refl; wait = λ i. wait_as (wait_of s.tables i); order = refl };
  runs = refl;
  depth = refl;
  started = refl;
}

-- a wait, as told and in the tables
begun_of : (f : Awaited → Option ℕ) (n : ℕ) (w : Option Wait) → of_wait f w ≡ of_wait f (as_wait n w)
unfolding of_wait as_wait
begun_of f n none = refl
begun_of f n (some w) = refl

begun_for : (a : Awaited) (n : ℕ) (w : Option Wait) → wait_is_for w a ≡ wait_is_for (as_wait n w) a
unfolding wait_is_for as_wait
begun_for a n none = refl
begun_for a n (some w) = refl

-- the wait whose time is up has one tick left
up_due : (n : ℕ) (w : Option Wait) → time_up w n ≡ is_due (as_wait n w)
unfolding time_up is_due as_wait holds since
up_due n none = refl
up_due n (some w) = go w.left
  where
    go : (l : Option ℕ) → holds l (n + 1) ≡ holds (since n l) 1
    go none = refl
    go (some k) = same_test _ _ (λ q. eq-eqb (k - n) 1 (omega (arith, eqb-true k (n + 1) q))) (λ q. eq-eqb k (n + 1) (omega (arith, eqb-true (k - n) 1 q)))

more_less : (n : ℕ) (w : Option Wait) → as_wait (n + 1) w ≡ age (as_wait n w)
unfolding age as_wait less_one since
more_less n none = refl
more_less n (some w) = ap (λ l. some (record { on = w.on; left = l })) (go w.left)
  where
    go : (l : Option ℕ) → since (n + 1) l ≡ less_one (since n l)
    go none = refl
    go (some k) = ap some (omega arith)

module _ {t : Tables} {h : Told} (A : Matches t h) where
  -- whom each wait leads to, where the same is told of what is awaited
  led_told : (f g : Awaited → Option ℕ) → ((a : Awaited) → f a ≡ g a) → (i : ℕ) → of_wait f (h.wait i) ≡ of_wait g (wait_of t i)
  led_told f g same i = begun_of f (h.ticks i) (h.wait i) ∙ ap (of_wait f) (A.wait i) ∙ ap (λ k. of_wait k (wait_of t i)) (fun_ext same)

  pub next_told : told_next h ≡ next t
  unfolding told_next next told_owner owner_awaited
  next_told = fun_ext (led_told (told_owner h) (owner_awaited t) same)
    where
      same : (a : Awaited) → told_owner h a ≡ owner_awaited t a
      same (mutex_of m) = A.owner m
      same (sem_of k) = refl
      same (room_in q) = ap (λ l. get_or l q none) A.queue_owners
      same (message_in q) = refl
      same time = refl

  pub lends_told : told_lends h ≡ lends t
  unfolding told_lends lends told_heir heir_awaited
  lends_told = fun_ext (led_told (told_heir h) (heir_awaited t) same)
    where
      same : (a : Awaited) → told_heir h a ≡ heir_awaited t a
      same (mutex_of m) = ap (λ k. cond (eqb (get_or k m 0) inheriting) (h.owner m) none) A.kinds ∙ ap (λ o. cond (eqb (kind_of t m) inheriting) o none) (A.owner m)
      same (sem_of k) = refl
      same (room_in q) = ap (λ l. get_or l q none) A.queue_owners
      same (message_in q) = refl
      same time = refl

  pub level_told : told_level h ≡ level_in t
  unfolding told_level level_in
  level_told = ap (λ p. least_leading (length p) (told_lends h) (λ i. get_or p i 0)) A.priorities ∙ ap (λ l. least_leading (task_count t) l (priority_of t)) lends_told

  for_told : (a : Awaited) → (λ i. wait_is_for (h.wait i) a) ≡ awaits t a
  for_told a = fun_ext (λ i. begun_for a (h.ticks i) (h.wait i) ∙ ap (λ w. wait_is_for w a) (A.wait i))

  -- the rules' search through the levels finds the waiter of least level whose wait is oldest
  best_told : Facts t → (a : Awaited) → told_best h a ≡ best_waiter t a
  unfolding told_best waiters_of
  best_told F a = ap (λ f. least_first f (keep (λ i. wait_is_for (h.wait i) a) h.order)) level_told
      ∙ (ap (λ p. least_first (level_in t) (keep p h.order)) (for_told a)
      ∙ (ap (λ l. least_first (level_in t) (keep (awaits t a) l)) A.order ∙ sym (best_is_least t F a)))

  due_told : (λ i. time_up (h.wait i) (h.ticks i)) ≡ due t
  due_told = fun_ext (λ i. up_due (h.ticks i) (h.wait i) ∙ ap is_due (A.wait i))

  -- each change, as told and in the tables
  matches_task : (p k : ℕ) → Matches (add_task t p) (tells h (task p) k)
  unfolding tells
  matches_task p k = record {
    priorities = ap (λ l. l ++ (p ∷ [])) A.priorities;
    kinds = A.kinds;
    queue_owners = A.queue_owners;
    owner = A.owner;
    wait = λ i. A.wait i ∙ sym (snoc_default none t.tasks.waits i);
    order = A.order;
  }

  matches_mutex : (q k : ℕ) → Matches (add_mutex t q) (tells h (mutex q) k)
  unfolding tells
  matches_mutex q k = record {
    priorities = A.priorities;
    kinds = ap (λ l. l ++ (q ∷ [])) A.kinds;
    queue_owners = A.queue_owners;
    owner = λ m. A.owner m ∙ sym (snoc_default none t.mutexes.owners m);
    wait = A.wait;
    order = A.order;
  }

  matches_queue : (w d : ℕ) (o : Option ℕ) (k : ℕ) → Matches (add_queue t w d o) (tells h (queue w d o) k)
  unfolding tells
  matches_queue w d o k = record {
    priorities = A.priorities;
    kinds = A.kinds;
    queue_owners = ap (λ l. l ++ (o ∷ [])) A.queue_owners;
    owner = A.owner;
    wait = A.wait;
    order = A.order;
  }

  -- of messages and words nothing is told
  matches_messages : (q : ℕ) (ms : List (List ℕ)) → Matches (set_messages t q ms) h
  matches_messages q ms = record { priorities = A.priorities; kinds = A.kinds; queue_owners = A.queue_owners; owner = A.owner; wait = A.wait; order = A.order }

  matches_hands : (i : ℕ) (m : List ℕ) → Matches (hands t i m) h
  matches_hands i m = record { priorities = A.priorities; kinds = A.kinds; queue_owners = A.queue_owners; owner = A.owner; wait = A.wait; order = A.order }

  -- who runs, the hold depth and the phase stand beside the tables
  matches_beside : (r : Option ℕ) (d : ℕ) (b : Bool) → Matches t (record { priorities = h.priorities; kinds = h.kinds; queue_owners = h.queue_owners; owner = h.owner; wait = h.wait; ticks = h.ticks; order = h.order; runs = r; depth = d; started = b })
  matches_beside r d b = record { priorities = A.priorities; kinds = A.kinds; queue_owners = A.queue_owners; owner = A.owner; wait = A.wait; order = A.order }

  -- of semaphores nothing is told
  matches_sems : (c : SemTable) → Matches (with_semaphores t c) h
  matches_sems c = record { priorities = A.priorities; kinds = A.kinds; queue_owners = A.queue_owners; owner = A.owner; wait = A.wait; order = A.order }

  matches_give : (m : ℕ) (o : Option ℕ) → m < mutex_count t → Matches (give t m o) (now_owned h m o)
  matches_give m o low = record {
    priorities = A.priorities;
    kinds = A.kinds;
    queue_owners = A.queue_owners;
    owner = λ k. elim (ℕ_discrete k m) [
      | yes e ↦ rw (e, eq-eqb m m refl) (sym (get_or-set_same t.mutexes.owners m o none low))
      | no n ↦ rw (ne_eqb k m n) (A.owner k ∙ sym (get_or-set_other t.mutexes.owners m k o none n))
    ];
    wait = A.wait;
    order = A.order;
  }

  matches_begin : (r : ℕ) (a : Awaited) (n : ℕ) → r < length t.tasks.waits → Matches (begin_wait t r (wait_for a n)) (begins h a n (some r))
  unfolding begins
  matches_begin r a n low = record {
    priorities = A.priorities;
    kinds = A.kinds;
    queue_owners = A.queue_owners;
    owner = A.owner;
    wait = λ i. elim (ℕ_discrete i r) [
      | yes e ↦ rw (e, eq-eqb r r refl) (wait_as (some (wait_for a n)) ∙ sym (get_or-set_same t.tasks.waits r (some (wait_for a n)) none low))
      | no q ↦ rw (ne_eqb i r q) (A.wait i ∙ sym (get_or-set_other t.tasks.waits r i (some (wait_for a n)) none q))
    ];
    order = ap (λ l. l ++ (r ∷ [])) A.order;
  }

  matches_end : (p : ℕ → Bool) (out : ℕ → ℕ) → Matches (end_waits t p out) (ends_where h p)
  unfolding ends_where as_wait
  matches_end p out = record {
    priorities = A.priorities;
    kinds = A.kinds;
    queue_owners = A.queue_owners;
    owner = A.owner;
    wait = λ i. by_test (λ (w : Option Wait). as_wait (h.ticks i) w ≡ wait_of (end_waits t p out) i) (p i)
        (λ e. sym (wait_ended t p out i ∙ rw e refl)) (λ e. A.wait i ∙ sym (wait_ended t p out i ∙ rw e refl));
    order = ap (keep (λ i. not (p i))) A.order;
  }

  -- "Each wait begun with time t ends at the t-th tick after it"
  matches_tick : (out : ℕ → ℕ) → Matches (age_all (end_waits t (due t) out)) (ticked h)
  unfolding ticked ends_where as_wait age
  matches_tick out = record {
    priorities = A.priorities;
    kinds = A.kinds;
    queue_owners = A.queue_owners;
    owner = A.owner;
    wait = λ i. ap (λ b. as_wait (h.ticks i + 1) (cond b none (h.wait i))) (ap (λ f. f i) due_told)
        ∙ (by_test (λ (w : Option Wait). as_wait (h.ticks i + 1) w ≡ age (cond (due t i) none (wait_of t i))) (due t i)
        (λ e. rw e refl) (λ e. rw e (more_less (h.ticks i) (h.wait i) ∙ ap age (A.wait i)))
        ∙ sym (get_or-map age (put_where (due t) (λ j. none) t.tasks.waits) i none ∙ ap age (wait_ended t (due t) out i)));
    order = ap (λ p. keep (λ i. not (p i)) h.order) due_told ∙ ap (keep (λ i. not (due t i))) A.order;
  }

-- a state in which the task that runs is named
module _ (h : Told) where
  abbrev Named : State → Type 0
  Named s = Agrees s (now_runs h s.running)

  module _ (s : State) (A : Matches s.tables h) (depth : h.depth ≡ s.hold) (started : h.started ≡ s.started) where
    placed_named : (r : Option ℕ) (l : List ℕ) → Named (placed s r l)
    placed_named r l = record {
      tables = matches_beside A r h.depth h.started;
      runs = refl;
      depth = depth;
      started = started;
    }

    meet_named : (r : Option ℕ) (l : List ℕ) → Named (meet s r l)
    unfolding meet
    meet_named r [] = placed_named r []
    meet_named none (x ∷ l) = placed_named (some x) l
    meet_named (some r) (x ∷ l) = by_test Named (eqb s.hold 0 and ltb (level_of s x) (level_of s r)) (λ e. placed_named _ _) (λ e. placed_named _ _)

  -- settling and dispatching change who runs and who is ready, and nothing else
  finish_named : (before : State) (e : Effect) → Matches e.state.tables h → h.depth ≡ e.state.hold → h.started ≡ e.state.started → Named (finish before e)
  unfolding finish dispatch
  finish_named before e A d b = by_test Named e.state.started (λ q. meet_named (settle (level_of before) e.state e.woken) A d b _ _) (λ q. placed_named e.state A d b _ _)

module _ (s : State) (h : Told) (I : Inv s) (A : Agrees s h) where
  abbrev AsTold : Step → Answer → Type 0
  AsTold x a = Agrees a.state (observe h (event_of x a))

  -- a refused step names the running task again
  again : (x : Step) (k v : ℕ) (r : Option ℕ) → 1 < k → r ≡ s.running → AsTold x (answer_with s k v r)
  unfolding observe
  again x k v r above e = rw (lt-leb k 1 above, e) (placed_named h s A.tables A.depth A.started s.running s.ready)

  abbrev After : Step → Effect → Type 0
  After x e = AsTold x (answered (finish s e) e.number e.value)

  -- an accepted step tells g
  tells_by : (x : Step) (e : Effect) (g : Told) → leb e.number 1 ≡ true → tells h x e.number ≡ g → Matches e.state.tables g
      → g.depth ≡ e.state.hold → g.started ≡ e.state.started → After x e
  unfolding observe
  tells_by x e g low q T d b = rw (low, q) (finish_named g s e T d b)

  -- the caller begins to wait, with tables that match what is told
  wait_with_lem : (T : Tables) → Matches T h → length T.tasks.waits ≡ task_count s.tables → (x : Step) (a : Awaited) (t r links : ℕ) → s.running ≡ some r
      → tells h x 1 ≡ begins h a t h.runs → After x (caller_waits (with_tables s T) r a t links)
  unfolding caller_waits begins
  wait_with_lem T M n x a t r links run q = tells_by x (caller_waits (with_tables s T) r a t links) (begins h a t (some r)) refl (q ∙ ap (begins h a t) (A.runs ∙ run))
      (matches_begin M r a t (omega (arith, n, caller_in s I r run))) A.depth A.started

  wait_told : (x : Step) (a : Awaited) (t r links : ℕ) → s.running ≡ some r → tells h x 1 ≡ begins h a t h.runs → After x (caller_waits s r a t links)
  wait_told = wait_with_lem s.tables A.tables I.facts.wait_column

  lock_told : (m t r : ℕ) (o : Option ℕ) → s.running ≡ some r → m < mutex_count s.tables → After (lock m t) (lock_by s m t r o)
  unfolding lock_by tells
  lock_told m t r none run low = tells_by (lock m t) (lock_by s m t r none) (now_owned h m (some r)) refl (ap (now_owned h m) (A.runs ∙ run))
      (matches_give A.tables m (some r) low) A.depth A.started
  lock_told m t r (some o) run low = wait_told (lock m t) (mutex_of m) t r (links_of s.tables r (mutex_of m)) run refl

  unlock_told : (m : ℕ) (o : Option ℕ) → runner_owns h m ≡ true → told_best h (mutex_of m) ≡ o → m < mutex_count s.tables → After (unlock m) (pass_on s m o)
  unfolding pass_on tells ends_of ends_where
  unlock_told m none own e low = tells_by (unlock m) (pass_on s m none) (now_owned h m none) refl (rw own (ap (hands_over h m) e))
      (matches_give A.tables m none low) A.depth A.started
  unlock_told m (some w) own e low = tells_by (unlock m) (pass_on s m (some w)) (now_owned (ends_where h (eqb w)) m (some w)) refl (rw own (ap (hands_over h m) e))
      (matches_give (matches_end A.tables (eqb w) (λ i. granted)) m (some w) low) A.depth A.started

  -- the caller that the rules see owns m as told
  owns_told : (m : ℕ) → not (caller_owns s m) ≡ false → runner_owns h m ≡ true
  owns_told m e = ap (λ r. of_caller r (holds (h.owner m))) A.runs ∙ (ap (λ o. of_caller s.running (holds o)) (A.tables.owner m) ∙ not-false (caller_owns s m) e)

  post_told : (k : ℕ) (o : Option ℕ) → told_best h (sem_of k) ≡ o → After (post k) (credit s k o)
  unfolding credit tells ends_of ends_where
  post_told k none e = tells_by (post k) (credit s k none) h refl (ap (ends_of h) e) (matches_sems A.tables _) A.depth A.started
  post_told k (some w) e = tells_by (post k) (credit s k (some w)) (ends_where h (eqb w)) refl (ap (ends_of h) e)
      (matches_end A.tables (eqb w) (λ i. granted)) A.depth A.started

  pend_told : (k t r : ℕ) → s.running ≡ some r → After (pend k t) (pend_by s k t r)
  unfolding pend_by tells
  pend_told k t r run = by_test (After (pend k t)) (no_credit s k) (λ e. wait_told (pend k t) (sem_of k) t r 0 run refl)
      (λ e. tells_by (pend k t) (done (with_tables s (set_count s.tables k (count_of s.tables k - 1))) [] 0) h refl refl (matches_sems A.tables _) A.depth A.started)

  deliver_told : (q t : ℕ) (m : List ℕ) (o : Option ℕ) → told_best h (message_in q) ≡ o → After (send q t m) (deliver s q m o)
  unfolding deliver tells ends_of ends_where
  deliver_told q t m none e = tells_by (send q t m) (deliver s q m none) h refl (ap (ends_of h) e) (matches_messages A.tables q _) A.depth A.started
  deliver_told q t m (some w) e = tells_by (send q t m) (deliver s q m (some w)) (ends_where h (eqb w)) refl (ap (ends_of h) e)
      (matches_hands (matches_end A.tables (eqb w) (λ i. granted)) w m) A.depth A.started

  send_told : (q t r : ℕ) (m : List ℕ) → s.running ≡ some r → After (send q t m) (send_by s q t m r)
  unfolding send_by tells
  send_told q t r m run = by_test (After (send q t m)) (no_room s q)
      (λ e. wait_with_lem (hands s.tables r m) (matches_hands A.tables r m) I.facts.wait_column (send q t m) (room_in q) t r (links_of s.tables r (room_in q)) run refl)
      (λ e. deliver_told q t m (best_waiter s.tables (message_in q)) (best_told A.tables I.facts (message_in q)))

  take_told : (q t r : ℕ) (m : List ℕ) (ms : List (List ℕ)) (o : Option ℕ) → told_best h (room_in q) ≡ o → After (receive q t) (take_in s q r m ms o)
  unfolding take_in tells ends_of ends_where
  take_told q t r m ms none e = tells_by (receive q t) (take_in s q r m ms none) h refl (ap (ends_of h) e)
      (matches_hands (matches_messages A.tables q ms) r m) A.depth A.started
  take_told q t r m ms (some w) e = tells_by (receive q t) (take_in s q r m ms (some w)) (ends_where h (eqb w)) refl (ap (ends_of h) e)
      (matches_hands (matches_messages (matches_end A.tables (eqb w) (λ i. granted)) q _) r m) A.depth A.started

  receive_told : (q t r : ℕ) (ms : List (List ℕ)) → s.running ≡ some r → After (receive q t) (receive_by s q t r ms)
  unfolding receive_by tells
  receive_told q t r [] run = wait_told (receive q t) (message_in q) t r 0 run refl
  receive_told q t r (m ∷ ms) run = take_told q t r m ms (best_waiter s.tables (room_in q)) (best_told A.tables I.facts (room_in q))

  accept_told : (x : Step) → first_row (refusals s x) ≡ none → After x (effect s x)
  unfolding effect refusals tells flush_of tick_of yield_by ends_where ticked
  accept_told (task p) e = tells_by (task p) (effect s (task p)) (tells h (task p) 0) refl refl (matches_task A.tables p 0) A.depth A.started
  accept_told (mutex k) e = tells_by (mutex k) (effect s (mutex k)) (tells h (mutex k) 0) refl refl (matches_mutex A.tables k 0) A.depth A.started
  accept_told (sem count max) e = tells_by (sem count max) (effect s (sem count max)) h refl refl (matches_sems A.tables _) A.depth A.started
  accept_told start e = tells_by start (effect s start) (tells h start 0) refl refl (matches_beside A.tables _ _ _) A.depth refl
  accept_told (lock m t) e =
      let b = passed _ _ (passed _ _ e).1 in
      let c = passed _ _ b.1 in
      called_by_lem (After (lock m t)) s s.running _ b.0 (λ r run. lock_told m t r (owner_of s.tables m) run (leb-false (mutex_count s.tables) m c.0))
  accept_told (unlock m) e =
      let c = passed _ _ (passed _ _ (passed _ _ e).1).1 in
      unlock_told m (best_waiter s.tables (mutex_of m)) (owns_told m (passed _ _ c.1).0) (best_told A.tables I.facts (mutex_of m))
      (leb-false (mutex_count s.tables) m c.0)
  accept_told (pend k t) e = called_by_lem (After (pend k t)) s s.running _ (passed _ _ (passed _ _ e).1).0 (pend_told k t)
  accept_told (post k) e = post_told k (best_waiter s.tables (sem_of k)) (best_told A.tables I.facts (sem_of k))
  accept_told (flush k) e = tells_by (flush k) (flush_of s k) (ends_where h (awaits s.tables (sem_of k))) refl (ap (ends_where h) (for_told A.tables (sem_of k)))
      (matches_end A.tables (awaits s.tables (sem_of k)) (λ i. flushed)) A.depth A.started
  accept_told (sleep t) e = called_by_lem (After (sleep t)) s s.running _ (passed _ _ (passed _ _ e).1).0 (λ r run. wait_told (sleep t) time t r 0 run refl)
  accept_told yield e = called_by_lem (After yield) s s.running _ (passed _ _ (passed _ _ e).1).0 (λ r run. tells_by yield (yield_by s r) h refl refl A.tables A.depth A.started)
  accept_told hold e = tells_by hold (effect s hold) (tells h hold 0) refl refl (matches_beside A.tables _ _ _) (ap (λ n. n + 1) A.depth) A.started
  accept_told free e = tells_by free (effect s free) (tells h free 0) refl refl (matches_beside A.tables _ _ _) (ap (λ n. n - 1) A.depth) A.started
  accept_told tick e = tells_by tick (tick_of s) (ticked h) refl refl (matches_tick A.tables _) A.depth A.started
  accept_told (level i) e = tells_by (level i) (effect s (level i)) h refl refl A.tables A.depth A.started
  accept_told (outcome i) e = tells_by (outcome i) (effect s (outcome i)) h refl refl A.tables A.depth A.started
  accept_told (queue w d o) e = tells_by (queue w d o) (effect s (queue w d o)) (tells h (queue w d o) 0) refl refl (matches_queue A.tables w d o 0) A.depth A.started
  accept_told (send q t m) e = called_by_lem (After (send q t m)) s s.running _ (passed _ _ (passed _ _ e).1).0 (λ r run. send_told q t r m run)
  accept_told (receive q t) e = called_by_lem (After (receive q t)) s s.running _ (passed _ _ (passed _ _ e).1).0 (λ r run. receive_told q t r (messages_of s.tables q) run)
  accept_told (word i n) e = tells_by (word i n) (effect s (word i n)) h refl refl A.tables A.depth A.started

  -- after every call the state is as told
  pub call_agrees : (c : Call) → AsTold c.made (call s c)
  call_agrees c = call_by (AsTold c.made) s c (step_by_lem (AsTold c.made) s c.made
      (λ r e. again c.made r.number r.value s.running (refused_above r.number (refused_number s c.made r e)) refl)
      (accept_told c.made) (λ e. absurd (clash (inv_sound s I) e)) (λ e. again c.made 14 0 (standing s) (omega arith) (sound_stands s I)))
      (again c.made 8 0 (standing s) (omega arith) (sound_stands s I))
