-- Steps that begin or end waits for semaphores and time, on a packed sound state: each is the packed rule.
use Rattle.std.specs.Prelude.{◌≡◌, Bool, true, cond, ℕ, ◌+◌, ◌-◌, ◌≤◌, ◌<◌, ltb}
use Rattle.std.proofs.Math.Path.{refl, ap}
use Rattle.std.proofs.Common.{sym, ◌∙◌, arith}
use mathlib.Core.List.{List, [], ◌∷◌}
use Rattle.std.proofs.Math.Bool.{false, not}
use Rattle.std.proofs.Math.Logic.{inl, inr}
use Rattle.std.proofs.Math.Option.{Option, none, some}
use Rattle.std.proofs.Math.Decide.{dec_lt}
use Rattle.std.proofs.Math.Dec.{leb, eqb}
use borrow.Author.Tests.{leb-true, leb-false, eqb-true, eqb-false, not-true, not-false, lt-ltb, le-ltb, le-leb, lt-leb, eq-eqb, ne_eqb}
use Rattle.lists.specs.Test.{◌and◌, ◌or◌, someb}
use Rattle.lists.specs.Count.{occ, opt}
use Rattle.lists.specs.Table.{filled}
use Rattle.lists.specs.TestLaws.{which, clash, by_test, same_test, and_l, and_r, and_false}
use Rattle.lists.specs.CountLaws.{occ_append}
use Rattle.lists.specs.OrderLaws.{keep_one}
use Rattle.lists.specs.TableLaws.{get_d_pad}
use Rattle.rules.specs.Sizes.{task_places, max_semaphores, max_ticks, forever, granted, flushed, on_semaphore, on_time}
use Rattle.rules.specs.Levels.{owner_awaited, heir_awaited, lends, awaits, best_waiter}
use Rattle.rules.specs.Step.{pend, post, flush, sleep}
use Rattle.rules.specs.Effect.{done, set_count, begin_wait, end_waits, ended, caller_waits, pend_by, credit, flush_of, effect}
use Rattle.rules.specs.Settle.{settle, dispatch}
use Rattle.rules.specs.Refusal.{◌when◌, is_waiting_time, is_sleep_time, held, no_credit, no_such_sem, refusals}
use Rattle.rules.specs.Sound.{wait_count}
use Rattle.rules.specs.Invariant.{Unavailable, Suits, Left, Outcome, Facts, Inv}
use Rattle.rules.proofs.LevelLaws.{heir_none, ring_none}
use Rattle.rules.proofs.FactsLaws.{facts_begin, facts_end, facts_count}
use Rattle.rules.proofs.WaiterLaws.{awaits_waits, awaited_blocked, awaits_lends, wait_in_lem, best_waits, nobody_best, places_end}
use Rattle.rules.proofs.StepLaws.{left_wait, left_sleep, caller_in, caller_idle}
use Rattle.task_lists.specs.TaskList.{no_id, task_list_of, id_of}
use Rattle.machine.specs.Planned.{plan_for}
use Rattle.moves.specs.declared.Move.TheVariants.{Nothing}  -- keep
use Rattle.record.specs.Record.{kind_code, pack_tasks, pack_mutexes, pack_semaphores, pack}
use Rattle.record.specs.Reads.{count_at, maximum_at}
use Rattle.machine.specs.Machine.{single, waiter_flag, dispatched, woke, entered, all_entered, blocked_on, count_set, answer_in, is_time, wait_refusal, may_wait, pend_step, credit_step, post_step, flush_step, sleep_step}
use Rattle.record.specs.PackLaws.{level_column, pack_with}
use Rattle.record.specs.ColumnLaws.{chosen, skipped}
use Rattle.machine.proofs.FlagLaws.{Flags, single_flags}
use Rattle.machine.proofs.WaitLaws.{waiter_flags, best_pack}
use Rattle.machine.proofs.EffectLaws.{flagged_ended, woke_pack, blocked_pack}
use Rattle.machine.proofs.ObjectLaws.{count_set_lem, level_same, lends_begin, lends_end, lends_semaphores}
use Rattle.machine.proofs.RowLaws.{still, ruled, by_rows, on_row, on_accept, held_on, held_off, either, called_some, id_some, on_caller, on_started}
use Rattle.machine.proofs.StageLaws.{unchanged_pack}
use Rattle.machine.proofs.FinishLaws.{quiet_pack, all_finish, one_finish, unchanged_finish}
use Rattle.record.specs.declared.State.{State}  -- keep
use Rattle.record.specs.declared.Plan.{Plan}  -- keep
use Rattle.record.specs.Setters.{put_semaphores}  -- keep
use Rattle.rules.specs.State.{State as Model, level_of, placed, with_tables}  -- keep
use Rattle.rules.specs.Tables.{awaited_kind, awaited_object, Awaited, sem_of, time, task_count, sem_count, wait_of, count_of, maximum_of, ticks_of, wait_for}  -- keep
use Rattle.rules.specs.Answer.{step_sound}  -- keep

-- tests of times
pub time_test : (t : ℕ) → is_time t ≡ is_waiting_time t
unfolding is_time ◌or◌
time_test t = go (leb t max_ticks)
  where
    go : (b : Bool) → cond b true (eqb t forever) ≡ b or eqb t forever
    go true = refl
    go false = refl

sleep_test : (t : ℕ) → eqb t 0 or ltb max_ticks t ≡ not (is_sleep_time t)
unfolding ◌and◌ ◌or◌
sleep_test t = elim (dec_lt 0 t) [
  | yes h ↦ elim (dec_lt max_ticks t) [
    | yes k ↦ rw (ne_eqb t 0 (λ e. omega arith), lt-ltb max_ticks t k, lt-ltb 0 t h, lt-leb t max_ticks k) refl
    | no k ↦ rw (ne_eqb t 0 (λ e. omega arith), le-ltb max_ticks t (omega arith), lt-ltb 0 t h, le-leb t max_ticks (omega arith)) refl
  ]
  | no h ↦ rw (eq-eqb t 0 (omega arith), le-ltb 0 t (omega arith)) refl
]

-- the rows of a caller that would wait
pub may_wait_lem : (k : State) (t : ℕ) (o : Plan) → may_wait k t o ≡ cond (eqb t 0) (answer_in k 3 0) (cond (ltb 0 k.hold) (answer_in k 11 0) o)
unfolding may_wait wait_refusal
may_wait_lem k t o = go (eqb t 0) (ltb 0 k.hold)
  where
    go : (a b : Bool) → cond (eqb (cond a 3 (cond b 11 0)) 0) o (answer_in k (cond a 3 (cond b 11 0)) 0) ≡ cond a (answer_in k 3 0) (cond b (answer_in k 11 0) o)
    go true b = refl
    go false true = refl
    go false false = refl

module _ (os : List ℕ) (s : Model) (I : Inv s) where
  -- the caller waits, and lends to nobody
  pub wait_finish : (r : ℕ) (a : Awaited) (x links : ℕ) → s.running ≡ some r → Unavailable s.tables a → Suits s.tables r a → Left a (ticks_of x) → owner_awaited s.tables a ≡ none
      → dispatched (blocked_on (pack os s) (pack os s).running (awaited_kind a) (awaited_object a) x) ≡ pack os (dispatch (settle (level_of s) (caller_waits s r a x links).state []))
  unfolding caller_waits occ pack
  wait_finish r a x links run un suits left e =
      ap (λ z. dispatched (blocked_on (pack os s) z (awaited_kind a) (awaited_object a) x)) (id_some s.running r run)
      ∙ ap dispatched (blocked_pack os s I r run a x)
      ∙ unchanged_finish os s I (placed (with_tables s (begin_wait s.tables r (wait_for a x))) none s.ready)
      (facts_begin s.tables r (wait_for a x) (caller_in s I r run) (caller_idle s I r run) un suits left (ring_none s.tables I.facts r a e) I.facts) refl
      (λ i. omega (arith, I.places i, occ_append i s.tables.tasks.waiting (r ∷ []), ap (λ o. occ i (opt o)) run)) I.ascending
      (level_same s.tables (begin_wait s.tables r (wait_for a x))
      (lends_begin s.tables r (wait_for a x) (omega (arith, caller_in s I r run, I.facts.wait_column)) (caller_idle s I r run) (heir_none s.tables a e)) refl)

  pub sleep_pack : (t : ℕ) → sleep_step (pack os s) t ≡ plan_for os Nothing (step_sound s (sleep t))
  unfolding sleep_step pack pack_tasks refusals effect caller_waits awaited_kind awaited_object owner_awaited
  sleep_pack t = by_rows os s (sleep t) (on_caller (still os) s I (sleep t) _ (λ r a b run. either _ _ _ _
      ∙ on_row (still os) s (sleep t) _ _ refl (λ e. chosen _ _ _ (sleep_test t ∙ e)) (λ e. skipped _ _ _ (sleep_test t ∙ e)
      ∙ on_row (still os) s (sleep t) _ _ refl (λ f. skipped _ _ _ (held_on s.hold f)) (λ f. chosen _ _ _ (held_off s.hold f)
      ∙ on_accept (still os) s (sleep t) (caller_waits s r time t 0) _ (called_some s s.running (λ q. caller_waits s q time t 0) r run) refl
      (wait_finish r time t 0 run tt tt (left_sleep t (not-false (is_sleep_time t) e)) refl)))))

  -- a semaphore's count and maximum
  count_test : (k : ℕ) → eqb (count_at (pack os s).semaphores k) 0 ≡ no_credit s k
  unfolding pack pack_semaphores
  count_test k = ap (λ z. eqb z 0) (get_d_pad max_semaphores 0 s.tables.semaphores.counts k)

  -- a count changes, and nobody waits for it
  count_finish : (k v : ℕ) → no_such_sem s k ≡ false → ((i : ℕ) → awaits s.tables (sem_of k) i ≡ false) → v ≤ maximum_of s.tables k
      → put_semaphores (pack os s) (count_set (pack os s).semaphores k v) ≡ pack os (dispatch (settle (level_of s) (with_tables s (set_count s.tables k v)) []))
  unfolding pack pack_tasks pack_mutexes pack_semaphores pack_with level_column
  count_finish k v there nobody low = ap (put_semaphores (pack os s)) (count_set_lem s.tables I.facts k v (leb-false (sem_count s.tables) k there))
      ∙ quiet_pack os s I (set_count s.tables k v) s.clock s.hold (facts_count s.tables k v nobody low I.facts) refl refl
      (level_same s.tables (set_count s.tables k v) (lends_semaphores s.tables (set_count s.tables k v).semaphores) refl) (λ z. z)

  module _ (k t r : ℕ) (run : s.running ≡ some r) (there : no_such_sem s k ≡ false) (valid : is_waiting_time t ≡ true) where
    pend_waits : no_credit s k ≡ true → cond (eqb t 0) (answer_in (pack os s) 3 0)
        (cond (ltb 0 (pack os s).hold) (answer_in (pack os s) 11 0) (answer_in (dispatched (blocked_on (pack os s) (pack os s).running on_semaphore k t)) 1 0))
        ≡ ruled (still os) s (pend k t) ((3 when no_credit s k and eqb t 0) ∷ (11 when no_credit s k and held s) ∷ [])
    unfolding pack effect caller_waits awaited_kind awaited_object owner_awaited pend_by
    pend_waits none_left = on_row (still os) s (pend k t) _ _ refl (λ e. chosen _ _ _ (and_r _ _ e)) (λ e. skipped _ _ _ (and_false _ _ none_left e)
        ∙ on_row (still os) s (pend k t) _ _ refl (λ f. chosen _ _ _ (and_r _ _ f)) (λ f. skipped _ _ _ (and_false _ _ none_left f)
        ∙ on_accept (still os) s (pend k t) (caller_waits s r (sem_of k) t 0) _ (called_some s s.running (pend_by s k t) r run ∙ chosen _ _ _ none_left) refl
        (wait_finish r (sem_of k) t 0 run (leb-false (sem_count s.tables) k there, eqb-true (count_of s.tables k) 0 none_left) tt
        (left_wait (sem_of k) t refl valid (and_false _ _ none_left e)) refl)))

    pend_takes : no_credit s k ≡ false → answer_in (put_semaphores (pack os s) (count_set (pack os s).semaphores k (count_at (pack os s).semaphores k - 1))) 0 0
        ≡ ruled (still os) s (pend k t) ((3 when no_credit s k and eqb t 0) ∷ (11 when no_credit s k and held s) ∷ [])
    unfolding pack pack_semaphores effect pend_by
    pend_takes some_left = on_row (still os) s (pend k t) _ _ refl (λ e. absurd (clash (and_l _ _ e) some_left)) (λ e.
        on_row (still os) s (pend k t) _ _ refl (λ f. absurd (clash (and_l _ _ f) some_left)) (λ f.
        on_accept (still os) s (pend k t) (done (with_tables s (set_count s.tables k (count_of s.tables k - 1))) [] 0) _
        (called_some s s.running (pend_by s k t) r run ∙ skipped _ _ _ some_left) refl
        (ap (λ z. put_semaphores (pack os s) (count_set (pack os s).semaphores k (z - 1))) (get_d_pad max_semaphores 0 s.tables.semaphores.counts k)
        ∙ count_finish k (count_of s.tables k - 1) there nobody (omega (arith, (I.facts.counts k (leb-false (sem_count s.tables) k there)).0)))))
      where
        nobody : (i : ℕ) → awaits s.tables (sem_of k) i ≡ false
        nobody i = elim (which (awaits s.tables (sem_of k) i)) [
          | inl q ↦ absurd (eqb-false (count_of s.tables k) 0 some_left (awaited_blocked s.tables (sem_of k) (wait_of s.tables i) (I.facts.blocked i) q).1)
          | inr q ↦ q
        ]

  pub pend_pack : (k t : ℕ) → pend_step (pack os s) k t ≡ plan_for os Nothing (step_sound s (pend k t))
  unfolding pend_step pack pack_semaphores refusals
  pend_pack k t = by_rows os s (pend k t) (on_caller (still os) s I (pend k t) _ (λ r a b run. on_row (still os) s (pend k t) _ _ refl (λ e. chosen _ _ _ e) (λ e. skipped _ _ _ e
      ∙ on_row (still os) s (pend k t) _ _ refl (λ f. skipped _ _ _ (time_test t ∙ not-true (is_waiting_time t) f)) (λ f. chosen _ _ _ (time_test t ∙ not-false (is_waiting_time t) f)
      ∙ elim (which (no_credit s k)) [
        | inl q ↦ chosen _ _ _ (count_test k ∙ q) ∙ may_wait_lem (pack os s) t _ ∙ pend_waits k t r run e (not-false (is_waiting_time t) f) q
        | inr q ↦ skipped _ _ _ (count_test k ∙ q) ∙ pend_takes k t r run e (not-false (is_waiting_time t) f) q
      ]))))

  -- waits end
  module _ (p : ℕ → Bool) (named : (i : ℕ) → p i ≡ true → wait_count (wait_of s.tables i) ≡ 1) (flags : List ℕ) (fl : Flags flags p)
      (out : ℕ → ℕ) (good : (i : ℕ) → p i ≡ true → Outcome none (out i)) where
    pub ended_facts : Facts (end_waits s.tables p out)
    ended_facts = facts_end s.tables p out good I.facts

    -- none of them lent to anyone: no level changes
    module _ (o : ℕ) (same : (i : ℕ) → o ≡ out i) (FreeOf : (i : ℕ) → p i ≡ true → lends s.tables i ≡ none) where
      abbrev awake : Model
      awake = with_tables s (end_waits s.tables p out)

      woken_base : woke (pack os s) flags o o ≡ pack os (settle (level_of s) awake [])
      woken_base = woke_pack os s I.facts p named flags fl out o o
          (λ i e. by_test (λ (z : ℕ). z ≡ out i) (eqb (kind_code (wait_of s.tables i)) on_time) (λ q. same i) (λ q. same i))
          ∙ unchanged_pack os s awake refl I.ascending (λ i h. level_same s.tables (end_waits s.tables p out) (lends_end s.tables p out FreeOf) refl i)

      flushed_finish : dispatched (all_entered (woke (pack os s) flags o o) (task_list_of s.tables.tasks.waiting) flags) ≡ pack os (dispatch (settle (level_of s) awake (ended s.tables p)))
      flushed_finish = all_finish os s I awake (ended s.tables p) ended_facts (places_end s (end_waits s.tables p out) p refl refl I.places)
          (woke (pack os s) flags o o) woken_base s.tables.tasks.waiting flags (flagged_ended s.tables p flags fl)

      posted_finish : (w : ℕ) → ended s.tables p ≡ w ∷ [] → dispatched (entered (woke (pack os s) flags o o) w) ≡ pack os (dispatch (settle (level_of s) awake (ended s.tables p)))
      posted_finish w e = one_finish os s I awake (ended s.tables p) ended_facts (places_end s (end_waits s.tables p out) p refl refl I.places)
          (woke (pack os s) flags o o) woken_base w e

  -- the best waiter
  module _ (a : Awaited) (w : ℕ) (best : best_waiter s.tables a ≡ some w) where
    pub best_named : (i : ℕ) → eqb w i ≡ true → wait_count (wait_of s.tables i) ≡ 1
    best_named i e = ap (λ j. wait_count (wait_of s.tables j)) (sym (eqb-true w i e))
        ∙ awaits_waits (wait_of s.tables w) a (best_waits s.tables I.facts a w best)

    -- it alone becomes ready
    pub best_ended : ended s.tables (eqb w) ≡ w ∷ []
    best_ended = keep_one w s.tables.tasks.waiting (I.facts.waiting w ∙ best_named w (eq-eqb w w refl))

    pub best_in : w < task_count s.tables
    best_in = wait_in_lem s.tables I.facts w (omega (arith, best_named w (eq-eqb w w refl)))

    pub best_below : w < task_places
    best_below = omega (arith, best_in, I.facts.few_tasks)

  post_credit : (k : ℕ) → no_such_sem s k ≡ false → (o : Option ℕ) → best_waiter s.tables (sem_of k) ≡ o
      → credit_step (pack os s) k (id_of o) ≡ ruled (still os) s (post k) ((2 when not (someb o) and eqb (count_of s.tables k) (maximum_of s.tables k)) ∷ [])
  unfolding credit_step pack pack_semaphores effect credit id_of someb ◌and◌ heir_awaited
  post_credit k there none e = on_row (still os) s (post k) _ _ refl
      (λ f. chosen _ _ _ (full_test ∙ f))
      (λ f. skipped _ _ _ (full_test ∙ f)
      ∙ on_accept (still os) s (post k) (credit s k none) _ (ap (credit s k) e) refl
      (ap (λ z. put_semaphores (pack os s) (count_set (pack os s).semaphores k (z + 1))) (get_d_pad max_semaphores 0 s.tables.semaphores.counts k)
      ∙ count_finish k (count_of s.tables k + 1) there (nobody_best s.tables I.facts (sem_of k) e)
      (omega (arith, (I.facts.counts k (leb-false (sem_count s.tables) k there)).0, eqb-false (count_of s.tables k) (maximum_of s.tables k) f))))
    where
      -- a count is at most its maximum, so one that is not below it is the maximum
      full_test : leb (maximum_at (pack os s).semaphores k) (count_at (pack os s).semaphores k) ≡ eqb (count_of s.tables k) (maximum_of s.tables k)
      full_test = ap (λ z. leb z (count_at (pack os s).semaphores k)) (get_d_pad max_semaphores 0 s.tables.semaphores.maxima k)
          ∙ (ap (leb (maximum_of s.tables k)) (get_d_pad max_semaphores 0 s.tables.semaphores.counts k)
          ∙ same_test (leb (maximum_of s.tables k) (count_of s.tables k)) (eqb (count_of s.tables k) (maximum_of s.tables k)) (λ u. eq-eqb (count_of s.tables k) (maximum_of s.tables k) (omega (arith, leb-true (maximum_of s.tables k) (count_of s.tables k) u, (I.facts.counts k (leb-false (sem_count s.tables) k there)).0)))
          (λ u. le-leb (maximum_of s.tables k) (count_of s.tables k) (omega (arith, eqb-true (count_of s.tables k) (maximum_of s.tables k) u))))
  post_credit k there (some w) e = skipped _ _ _ (ne_eqb w no_id (λ q. omega (arith, best_below (sem_of k) w e)))
      ∙ on_row (still os) s (post k) _ _ refl (λ f. absurd (clash f refl)) (λ f.
      on_accept (still os) s (post k) (credit s k (some w)) _ (ap (credit s k) e) refl
      (posted_finish (eqb w) (best_named (sem_of k) w e) (single w) (single_flags w (best_below (sem_of k) w e)) (λ i. granted) (λ i q. inl refl) granted (λ i. refl)
      (λ i q. ap (lends s.tables) (sym (eqb-true w i q)) ∙ awaits_lends s.tables (sem_of k) w (best_waits s.tables I.facts (sem_of k) w e)) w (best_ended (sem_of k) w e)))

  pub post_pack : (k : ℕ) → post_step (pack os s) k ≡ plan_for os Nothing (step_sound s (post k))
  unfolding post_step pack pack_semaphores refusals awaited_kind awaited_object
  post_pack k = by_rows os s (post k) (on_started (still os) s I (post k) _ (λ on. on_row (still os) s (post k) _ _ refl (λ e. chosen _ _ _ e) (λ e. skipped _ _ _ e
      ∙ ap (credit_step (pack os s) k) (best_pack os s (sem_of k)) ∙ post_credit k e (best_waiter s.tables (sem_of k)) refl)))

  pub flush_pack : (k : ℕ) → flush_step (pack os s) k ≡ plan_for os Nothing (step_sound s (flush k))
  unfolding flush_step pack pack_tasks pack_semaphores refusals effect flush_of awaited_kind awaited_object heir_awaited
  flush_pack k = by_rows os s (flush k) (on_started (still os) s I (flush k) _ (λ on. on_row (still os) s (flush k) _ _ refl (λ e. chosen _ _ _ e) (λ e. skipped _ _ _ e
      ∙ on_accept (still os) s (flush k) (flush_of s k) _ refl refl
      (flushed_finish (awaits s.tables (sem_of k)) (λ i q. awaits_waits (wait_of s.tables i) (sem_of k) q)
      (filled task_places (waiter_flag (pack os s).tasks on_semaphore k)) (waiter_flags s.tables I.facts s.clock (sem_of k))
      (λ i. flushed) (λ i q. inr (inr refl)) flushed (λ i. refl) (awaits_lends s.tables (sem_of k))))))
