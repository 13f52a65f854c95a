-- Laws of outcomes: only the beginning and the end of a wait change one. That 1 is the outcome exactly of waiting tasks is in the invariant.
use Rattle.std.specs.Prelude.{◌≡◌, Bool, true, ℕ, ◌<◌, ltb, eqb}
use Rattle.std.proofs.Math.Path.{refl, ap}
use Rattle.std.proofs.Common.{sym, ◌∙◌, arith, get_or-set_same, get_or-set_other, eqb-true}
use mathlib.Core.List.{List, [], ◌∷◌}
use Rattle.std.proofs.Math.Bool.{cond}
use Rattle.std.proofs.Math.Logic.{inl, inr}
use Rattle.std.proofs.Math.Option.{Option, none, some}
use Rattle.std.proofs.Math.Decide.{ℕ_discrete}
use Rattle.lists.specs.Test.{◌and◌}
use Rattle.lists.specs.TestLaws.{which, clash, by_test, none_some}
use Rattle.lists.specs.TableLaws.{snoc_default, get_d_edit}
use Rattle.rules.specs.Sizes.{granted, pending, flushed}
use Rattle.rules.specs.Tables.{Awaited, mutex_of, sem_of, room_in, message_in, time, Wait, Tables, task_count, outcome_of, wait_of, owner_of, messages_of, wait_for}
use Rattle.rules.specs.Levels.{awaits, best_waiter}
use Rattle.rules.specs.State.{State, level_of}
use Rattle.rules.specs.Step.{Step, task, mutex, sem, start, lock, unlock, pend, post, flush, sleep, yield, hold, free, tick, level, outcome, queue, send, receive, word}
use Rattle.rules.specs.Effect.{Effect, begin_wait, end_waits, caller_waits, lock_by, pass_on, pend_by, credit, flush_of, deliver, send_by, take_in, receive_by, due, outcome_due, tick_of, yield_by, effect}
use Rattle.rules.specs.Settle.{settle, meet, dispatch, finish}
use Rattle.rules.specs.Refusal.{no_credit, no_room, refusals, first_row}
use Rattle.rules.specs.Sound.{wait_count}
use Rattle.rules.specs.Answer.{step}
use Rattle.rules.specs.Invariant.{Facts, Inv}
use Rattle.rules.proofs.WaiterLaws.{awaits_waits, due_waits, best_waits}
use Rattle.rules.proofs.StepLaws.{passed, called_by_lem, caller_in}
use Rattle.rules.proofs.SoundLaws.{inv_sound}
use Rattle.rules.proofs.RefusalLaws.{step_by_lem}

-- what comes after the effect of an accepted step leaves the tables
meet_tables : (s : State) (r : Option ℕ) (l : List ℕ) → (meet s r l).tables ≡ s.tables
unfolding meet
meet_tables s r [] = refl
meet_tables s none (x ∷ l) = refl
meet_tables s (some r) (x ∷ l) = by_test (λ (z : State). z.tables ≡ s.tables) (eqb s.hold 0 and ltb (level_of s x) (level_of s r)) (λ e. refl) (λ e. refl)

pub finish_tables : (s : State) (e : Effect) → (finish s e).tables ≡ e.state.tables
unfolding finish dispatch
finish_tables s e = by_test (λ (z : State). z.tables ≡ e.state.tables) e.state.started
    (λ q. meet_tables (settle (level_of s) e.state e.woken) e.state.running _) (λ q. refl)

-- the outcome of a task i where waits begin or end
module _ (t : Tables) (F : Facts t) (i : ℕ) where
  -- r begins to wait: where i does not wait after that, it is not r and has the outcome it had
  begin_stays : (r : ℕ) (w : Wait) → r < task_count t → wait_of (begin_wait t r w) i ≡ none → outcome_of (begin_wait t r w) i ≡ outcome_of t i
  begin_stays r w low after = elim (ℕ_discrete i r) [
    | yes e ↦ none_some {m = w} after (rw e (get_or-set_same t.tasks.waits r (some w) none (omega (arith, F.wait_column))))
    | no n ↦ get_or-set_other t.tasks.outcomes r i pending 0 n
  ]

  -- some waits end: where i did not wait, its wait is none of them and it has the outcome it had
  end_stays : (p : ℕ → Bool) (out : ℕ → ℕ) → i < task_count t → (p i ≡ true → wait_count (wait_of t i) ≡ 1) → wait_of t i ≡ none
      → outcome_of (end_waits t p out) i ≡ outcome_of t i
  unfolding wait_count
  end_stays p out h waits idle = get_d_edit (λ j x. cond (p j) (out j) x) 0 t.tasks.outcomes i (omega (arith, F.outcome_column)) ∙ elim (which (p i)) [
    | inl e ↦ absurd (omega (arith, waits e, ap wait_count idle))
    | inr e ↦ rw e refl
  ]

-- an accepted step, and a task i that does not wait before it
module _ (s : State) (I : Inv s) (i : ℕ) (h : i < task_count s.tables) (idle : wait_of s.tables i ≡ none) where
  -- where i does not wait after it either, it has the outcome it had
  abbrev Stays : Tables → Type 0
  Stays t = wait_of t i ≡ none → outcome_of t i ≡ outcome_of s.tables i

  abbrev Leaves : Effect → Type 0
  Leaves e = Stays e.state.tables

  -- the caller waits
  wait_leaves : (r : ℕ) (a : Awaited) (t links : ℕ) → s.running ≡ some r → Leaves (caller_waits s r a t links)
  unfolding caller_waits
  wait_leaves r a t links run = begin_stays s.tables I.facts i r (wait_for a t) (caller_in s I r run)

  -- the wait of the best waiter ends
  best_stays : (a : Awaited) (w : ℕ) → best_waiter s.tables a ≡ some w → outcome_of (end_waits s.tables (eqb w) (λ j. granted)) i ≡ outcome_of s.tables i
  best_stays a w e = end_stays s.tables I.facts i (eqb w) (λ j. granted) h
      (λ q. awaits_waits (wait_of s.tables i) a (ap (awaits s.tables a) (sym (eqb-true w i q)) ∙ best_waits s.tables I.facts a w e)) idle

  deliver_leaves : (q : ℕ) (m : List ℕ) (o : Option ℕ) → best_waiter s.tables (message_in q) ≡ o → Leaves (deliver s q m o)
  unfolding deliver
  deliver_leaves q m none e = λ after. refl
  deliver_leaves q m (some w) e = λ after. best_stays (message_in q) w e

  send_leaves : (q t r : ℕ) (m : List ℕ) → s.running ≡ some r → Leaves (send_by s q t m r)
  unfolding send_by caller_waits
  send_leaves q t r m run = by_test Leaves (no_room s q) (λ f. begin_stays s.tables I.facts i r (wait_for (room_in q) t) (caller_in s I r run))
      (λ f. deliver_leaves q m (best_waiter s.tables (message_in q)) refl)

  take_leaves : (q r : ℕ) (m : List ℕ) (ms : List (List ℕ)) (o : Option ℕ) → best_waiter s.tables (room_in q) ≡ o → Leaves (take_in s q r m ms o)
  unfolding take_in
  take_leaves q r m ms none e = λ after. refl
  take_leaves q r m ms (some w) e = λ after. best_stays (room_in q) w e

  receive_leaves : (q t r : ℕ) (ms : List (List ℕ)) → s.running ≡ some r → Leaves (receive_by s q t r ms)
  unfolding receive_by
  receive_leaves q t r [] run = wait_leaves r (message_in q) t 0 run
  receive_leaves q t r (m ∷ ms) run = take_leaves q r m ms (best_waiter s.tables (room_in q)) refl

  effect_leaves : (x : Step) → first_row (refusals s x) ≡ none → Leaves (effect s x)
  unfolding effect refusals lock_by pass_on pend_by credit flush_of tick_of yield_by
  effect_leaves (task p) e = λ after. snoc_default granted s.tables.tasks.outcomes i
  effect_leaves (mutex k) e = λ after. refl
  effect_leaves (sem count max) e = λ after. refl
  effect_leaves start e = λ after. refl
  effect_leaves (lock m t) e = called_by_lem Leaves s s.running _ (passed _ _ (passed _ _ e).1).0 (λ r run. go r run (owner_of s.tables m))
    where
      go : (r : ℕ) → s.running ≡ some r → (o : Option ℕ) → Leaves (lock_by s m t r o)
      go r run none = λ after. refl
      go r run (some o) = wait_leaves r (mutex_of m) t _ run
  effect_leaves (unlock m) e = go (best_waiter s.tables (mutex_of m)) refl
    where
      go : (o : Option ℕ) → best_waiter s.tables (mutex_of m) ≡ o → Leaves (pass_on s m o)
      go none q = λ after. refl
      go (some w) q = λ after. best_stays (mutex_of m) w q
  effect_leaves (pend k t) e = called_by_lem Leaves s s.running _ (passed _ _ (passed _ _ e).1).0
      (λ r run. by_test Leaves (no_credit s k) (λ q. wait_leaves r (sem_of k) t 0 run) (λ q after. refl))
  effect_leaves (post k) e = go (best_waiter s.tables (sem_of k)) refl
    where
      go : (o : Option ℕ) → best_waiter s.tables (sem_of k) ≡ o → Leaves (credit s k o)
      go none q = λ after. refl
      go (some w) q = λ after. best_stays (sem_of k) w q
  effect_leaves (flush k) e = λ after. end_stays s.tables I.facts i (awaits s.tables (sem_of k)) (λ j. flushed) h (awaits_waits (wait_of s.tables i) (sem_of k)) idle
  effect_leaves (sleep t) e = called_by_lem Leaves s s.running _ (passed _ _ (passed _ _ e).1).0 (λ r run. wait_leaves r time t 0 run)
  effect_leaves yield e = called_by_lem Leaves s s.running _ (passed _ _ (passed _ _ e).1).0 (λ r run after. refl)
  effect_leaves hold e = λ after. refl
  effect_leaves free e = λ after. refl
  effect_leaves tick e = λ after. end_stays s.tables I.facts i (due s.tables) (λ j. outcome_due (wait_of s.tables j)) h (due_waits (wait_of s.tables i)) idle
  effect_leaves (level j) e = λ after. refl
  effect_leaves (outcome j) e = λ after. refl
  effect_leaves (queue w d o) e = λ after. refl
  effect_leaves (send q t m) e = called_by_lem Leaves s s.running _ (passed _ _ (passed _ _ e).1).0 (λ r run. send_leaves q t r m run)
  effect_leaves (receive q t) e = called_by_lem Leaves s s.running _ (passed _ _ (passed _ _ e).1).0 (λ r run. receive_leaves q t r (messages_of s.tables q) run)
  effect_leaves (word j n) e = λ after. refl

-- "Nothing but the beginning and the end of a wait changes an outcome.": a task that waits neither before nor after a step has the outcome it had
pub outcome_stays : (s : State) → Inv s → (x : Step) → (i : ℕ) → i < task_count s.tables → wait_of s.tables i ≡ none
    → wait_of (step s x).state.tables i ≡ none → outcome_of (step s x).state.tables i ≡ outcome_of s.tables i
outcome_stays s I x i h idle = step_by_lem (λ a. Stays s I i h idle a.state.tables) s x (λ r e after. refl)
    (λ e. rw (finish_tables s (effect s x)) (effect_leaves s I i h idle x e)) (λ e. absurd (clash (inv_sound s I) e)) (λ e after. refl)
