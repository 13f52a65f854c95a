-- Lock and unlock on a packed sound state: each is the packed rule.
use Rattle.std.specs.Prelude.{◌≡◌, List, [], ◌∷◌, true, ℕ, ◌<◌, ltb, length}
use Rattle.std.proofs.Math.Path.{refl, ap, sym}
use Rattle.std.proofs.Common.{◌∙◌, arith}
use Rattle.std.proofs.Math.Bool.{false, cond}
use Rattle.std.proofs.Math.Logic.{inl, inr}
use Rattle.std.proofs.Math.Option.{Option, none, some}
use Rattle.std.proofs.Math.Dec.{eqb}
use borrow.Author.Tests.{leb-false, not-true, not-false, eq-eqb, ne_eqb}
use Rattle.lists.specs.Test.{◌and◌, someb, holds}
use Rattle.lists.specs.Count.{occ, member, opt}
use Rattle.lists.specs.Order.{before}
use Rattle.lists.specs.TestLaws.{which, clash, by_test, none_some}
use Rattle.lists.specs.CountLaws.{occ_append}
use Rattle.rules.specs.Sizes.{granted, on_mutex, on_time}
use Rattle.rules.specs.Levels.{chain_of, links_of, closes_ring, awaits, best_waiter}
use Rattle.rules.specs.Step.{lock, unlock}
use Rattle.rules.specs.Effect.{give, begin_wait, end_waits, ended, caller_waits, lock_by, pass_on, effect}
use Rattle.rules.specs.Settle.{settle, dispatch}
use Rattle.rules.specs.Refusal.{◌when◌, is_waiting_time, held, of_caller, links_for, caller_owns, refusals}
use Rattle.rules.specs.Invariant.{Facts, Inv}
use Rattle.rules.proofs.FactsLaws.{facts_give, facts_free, facts_begin, wait_ended, facts_end}
use Rattle.rules.proofs.WaiterLaws.{awaited_blocked, nobody_best, places_end}
use Rattle.rules.proofs.StepLaws.{left_wait, caller_in, caller_idle, of_caller_lem}
use Rattle.task_lists.specs.TaskList.{no_id, id_of}
use Rattle.machine.specs.Planned.{plan_for}
use Rattle.moves.specs.declared.Move.TheVariants.{Nothing}  -- keep
use Rattle.record.specs.Record.{kind_code, pack_tasks, pack_mutexes, pack_semaphores, pack}
use Rattle.record.specs.Reads.{owner_at}
use Rattle.machine.specs.Machine.{single, settled, dispatched, woke, entered, blocked_on, owner_set, answer_in, lock_waits, lock_step, unlock_step}
use Rattle.record.specs.PackLaws.{level_column, pack_with}
use Rattle.record.specs.ReadLaws.{owner_read}
use Rattle.record.specs.ColumnLaws.{chosen, skipped}
use Rattle.machine.proofs.FlagLaws.{single_flags}
use Rattle.machine.proofs.WaitLaws.{best_pack, chain_pack}
use Rattle.machine.proofs.EffectLaws.{woke_pack, blocked_pack}
use Rattle.machine.proofs.ObjectLaws.{owner_set_lem, level_same, lends_give}
use Rattle.machine.proofs.RowLaws.{still, ruled, by_rows, on_row, on_accept, called_some, id_some, running_below, on_caller}
use Rattle.machine.proofs.StageLaws.{settle_pack}
use Rattle.machine.proofs.FinishLaws.{quiet_pack, one_finish, settled_finish}
use Rattle.machine.proofs.WaitStepLaws.{may_wait_lem, time_test, best_named, best_ended, best_in, best_below}
use Rattle.record.specs.declared.Plan.{Plan}  -- keep
use Rattle.record.specs.Setters.{put_mutexes}  -- keep
use Rattle.machine.specs.Machine.{passed_to}  -- keep
use Rattle.rules.specs.State.{State as Model, level_of, placed, with_tables}  -- keep
use Rattle.rules.specs.Tables.{Awaited, mutex_of, awaited_kind, awaited_object, Tables, mutex_count, wait_of, owner_of, wait_for}  -- keep
use Rattle.rules.specs.Answer.{step_sound}  -- keep

-- an owner's id is the caller's
pub holds_code : (o : Option ℕ) (r : ℕ) → r < no_id → eqb (id_of o) r ≡ holds o r
unfolding id_of holds
holds_code none r h = ne_eqb no_id r (λ e. omega arith)
holds_code (some k) r h = refl

pub links_some : (s : Model) (a : Awaited) (o : Option ℕ) (r : ℕ) → o ≡ some r → links_for s a o ≡ links_of s.tables r a
unfolding links_for
links_some s a o r e = rw e refl

module _ (os : List ℕ) (s : Model) (I : Inv s) where
  -- the owner's tests
  owner_at_lem : (m : ℕ) → owner_at (pack os s).mutexes m ≡ id_of (owner_of s.tables m)
  unfolding pack pack_mutexes
  owner_at_lem m = owner_read s.tables m

  owns_test : (m r : ℕ) → s.running ≡ some r → eqb (owner_at (pack os s).mutexes m) (pack os s).running ≡ caller_owns s m
  unfolding pack
  owns_test m r run = ap (λ x. eqb x (pack os s).running) (owner_at_lem m) ∙ ap (eqb (id_of (owner_of s.tables m))) (id_some s.running r run)
      ∙ holds_code (owner_of s.tables m) r (omega (arith, running_below os s I r run)) ∙ sym (of_caller_lem s.running (holds (owner_of s.tables m)) r run)

  -- a mutex for which nobody waits gets another owner
  given_finish : (m : ℕ) (o : Option ℕ) → m < mutex_count s.tables → Facts (give s.tables m o) → ((i : ℕ) → awaits s.tables (mutex_of m) i ≡ false)
      → put_mutexes (pack os s) (owner_set (pack os s).mutexes m (id_of o)) ≡ pack os (dispatch (settle (level_of s) (with_tables s (give s.tables m o)) []))
  unfolding pack pack_tasks pack_mutexes pack_semaphores pack_with level_column
  given_finish m o h F nobody = ap (put_mutexes (pack os s)) (owner_set_lem s.tables I.facts m o h)
      ∙ quiet_pack os s I (give s.tables m o) s.clock s.hold F refl refl (level_same s.tables (give s.tables m o) (lends_give s.tables m o nobody) refl) (λ z. z)

  -- the best waiter gets the mutex
  module _ (m w : ℕ) (h : m < mutex_count s.tables) (best : best_waiter s.tables (mutex_of m) ≡ some w) where
    abbrev granted_to : Tables
    granted_to = end_waits s.tables (eqb w) (λ i. granted)

    after_facts : Facts (give granted_to m (some w))
    after_facts = facts_give granted_to m w h (best_in os s I (mutex_of m) w best) (wait_ended s.tables (eqb w) (λ i. granted) w ∙ rw (eq-eqb w w refl) refl)
        (facts_end s.tables (eqb w) (λ i. granted) (λ i q. inl refl) I.facts)

    passed_woke : put_mutexes (woke (pack os s) (single w) granted granted) (owner_set (pack os s).mutexes m w) ≡ pack_with os (level_column s.tables) (with_tables s (give granted_to m (some w)))
    unfolding pack pack_tasks pack_mutexes pack_semaphores pack_with id_of
    passed_woke =
        ap (λ z. put_mutexes z (owner_set (pack os s).mutexes m w)) (woke_pack os s I.facts (eqb w) (best_named os s I (mutex_of m) w best) (single w)
        (single_flags w (best_below os s I (mutex_of m) w best)) (λ i. granted) granted granted
        (λ i e. by_test (λ (z : ℕ). z ≡ granted) (eqb (kind_code (wait_of s.tables i)) on_time) (λ q. refl) (λ q. refl)))
        ∙ ap (put_mutexes (pack_with os (level_column s.tables) (with_tables s granted_to))) (owner_set_lem s.tables I.facts m (some w) h)

    passed_finish : dispatched (entered (settled (put_mutexes (woke (pack os s) (single w) granted granted) (owner_set (pack os s).mutexes m w))) w)
        ≡ pack os (dispatch (settle (level_of s) (with_tables s (give granted_to m (some w))) (ended s.tables (eqb w))))
    passed_finish = one_finish os s I (with_tables s (give granted_to m (some w))) (ended s.tables (eqb w)) after_facts
        (places_end s (give granted_to m (some w)) (eqb w) refl refl I.places) _
        (ap settled passed_woke ∙ settle_pack os s (with_tables s (give granted_to m (some w))) after_facts refl (λ i. omega (arith, I.places i)) I.ascending)
        w (best_ended os s I (mutex_of m) w best)

  pass_on_lem : (m : ℕ) → m < mutex_count s.tables → (o : Option ℕ) → best_waiter s.tables (mutex_of m) ≡ o → answer_in (passed_to (pack os s) m (id_of o)) 0 0 ≡ ruled (still os) s (unlock m) []
  unfolding passed_to pack effect pass_on id_of
  pass_on_lem m h none e = on_accept (still os) s (unlock m) (pass_on s m none) _ (ap (pass_on s m) e) refl (given_finish m none h (facts_free s.tables m nobody I.facts) nobody)
    where
      nobody : (i : ℕ) → awaits s.tables (mutex_of m) i ≡ false
      nobody = nobody_best s.tables I.facts (mutex_of m) e
  pass_on_lem m h (some w) e = ap (λ z. answer_in z 0 0) (skipped _ _ _ (ne_eqb w no_id (λ q. omega (arith, best_below os s I (mutex_of m) w e))))
      ∙ on_accept (still os) s (unlock m) (pass_on s m (some w)) _ (ap (pass_on s m) e) refl (passed_finish m w h e)

  pub unlock_pack : (m : ℕ) → unlock_step (pack os s) m ≡ plan_for os Nothing (step_sound s (unlock m))
  unfolding unlock_step pack pack_mutexes refusals awaited_kind awaited_object
  unlock_pack m = by_rows os s (unlock m) (on_caller (still os) s I (unlock m) _ (λ r a b run. on_row (still os) s (unlock m) _ _ refl (λ e. chosen _ _ _ e) (λ e. skipped _ _ _ e
      ∙ on_row (still os) s (unlock m) _ _ refl (λ f. skipped _ _ _ (owns_test m r run ∙ not-true (caller_owns s m) f)) (λ f. chosen _ _ _ (owns_test m r run ∙ not-false (caller_owns s m) f)
      ∙ ap (λ w. answer_in (passed_to (pack os s) m w) 0 0) (best_pack os s (mutex_of m))
      ∙ pass_on_lem m (leb-false (mutex_count s.tables) m e) (best_waiter s.tables (mutex_of m)) refl))))

  -- lock: a free mutex becomes the caller's, else the caller waits
  module _ (m t r : ℕ) (run : s.running ≡ some r) (h : m < mutex_count s.tables) (valid : is_waiting_time t ≡ true) where
    -- the end of a lock that meets a taken mutex, by the chain and the caller
    abbrev waits_by : List ℕ → ℕ → Plan
    waits_by chain x =
        cond (eqb t 0) (answer_in (pack os s) 3 0)
        (cond (ltb 0 (pack os s).hold) (answer_in (pack os s) 11 0)
        (cond (member x chain) (answer_in (pack os s) 12 (length (before x chain)))
        (answer_in (dispatched (settled (blocked_on (pack os s) x on_mutex m t))) 1 (length (before x chain)))))

    waits_same : lock_waits (pack os s) m t ≡ waits_by (chain_of s.tables (mutex_of m)) r
    unfolding lock_waits pack pack_tasks
    waits_same = may_wait_lem (pack os s) t _ ∙ ap (λ c. waits_by c (pack os s).running) (chain_pack os s I.facts m) ∙ ap (waits_by (chain_of s.tables (mutex_of m))) (id_some s.running r run)

    ring_finish : (o : ℕ) → owner_of s.tables m ≡ some o → eqb t 0 ≡ false → closes_ring s.tables r (mutex_of m) ≡ false
        → dispatched (settled (blocked_on (pack os s) r on_mutex m t)) ≡ pack os (dispatch (settle (level_of s) (caller_waits s r (mutex_of m) t (links_of s.tables r (mutex_of m))).state []))
    unfolding caller_waits awaited_kind awaited_object occ
    ring_finish o e now clear = ap (λ z. dispatched (settled z)) (blocked_pack os s I r run (mutex_of m) t)
        ∙ settled_finish os s I (placed (with_tables s (begin_wait s.tables r (wait_for (mutex_of m) t))) none s.ready)
        (facts_begin s.tables r (wait_for (mutex_of m) t) (caller_in s I r run) (caller_idle s I r run) (o, e) tt (left_wait (mutex_of m) t refl valid now) clear I.facts) refl
        (λ i. omega (arith, I.places i, occ_append i s.tables.tasks.waiting (r ∷ []), ap (λ x. occ i (opt x)) run)) I.ascending

    lock_rest : (o : Option ℕ) → owner_of s.tables m ≡ o
        → cond (eqb (id_of o) no_id) (answer_in (put_mutexes (pack os s) (owner_set (pack os s).mutexes m (pack os s).running)) 0 0) (lock_waits (pack os s) m t)
        ≡ ruled (still os) s (lock m t) ((3 when someb o and eqb t 0) ∷ (11 when someb o and held s)
        ∷ record { number = 12; when = someb o and of_caller s.running (λ q. closes_ring s.tables q (mutex_of m)); value = links_for s (mutex_of m) s.running } ∷ [])
    unfolding pack effect lock_by id_of someb ◌and◌ caller_waits
    lock_rest none e = on_row (still os) s (lock m t) _ _ refl (λ f. absurd (clash f refl)) (λ f. on_row (still os) s (lock m t) _ _ refl (λ g. absurd (clash g refl)) (λ g.
        on_row (still os) s (lock m t) _ _ refl (λ k. absurd (clash k refl)) (λ k.
        on_accept (still os) s (lock m t) (lock_by s m t r none) _ (called_some s s.running (λ q. lock_by s m t q (owner_of s.tables m)) r run ∙ ap (lock_by s m t r) e) refl
        (ap (λ x. put_mutexes (pack os s) (owner_set (pack os s).mutexes m x)) (id_some s.running r run)
        ∙ given_finish m (some r) h (facts_give s.tables m r h (caller_in s I r run) (caller_idle s I r run) I.facts) nobody))))
      where
        nobody : (i : ℕ) → awaits s.tables (mutex_of m) i ≡ false
        nobody i = elim (which (awaits s.tables (mutex_of m) i)) [
          | inl q ↦ none_some e (awaited_blocked s.tables (mutex_of m) (wait_of s.tables i) (I.facts.blocked i) q).1
          | inr q ↦ q
        ]
    lock_rest (some o) e = skipped _ _ _ (ne_eqb o no_id (λ q. omega (arith, I.facts.owners m o e, I.facts.few_tasks))) ∙ waits_same
        ∙ on_row (still os) s (lock m t) _ _ refl (λ f. chosen _ _ _ f) (λ f. skipped _ _ _ f
        ∙ on_row (still os) s (lock m t) _ _ refl (λ g. chosen _ _ _ g) (λ g. skipped _ _ _ g
        ∙ on_row (still os) s (lock m t) _ _ refl
        (λ k. chosen _ _ _ (sym ring_test ∙ k) ∙ ap (answer_in (pack os s) 12) (sym (links_some s (mutex_of m) s.running r run)))
        (λ k. skipped _ _ _ (sym ring_test ∙ k)
        ∙ on_accept (still os) s (lock m t) (caller_waits s r (mutex_of m) t (links_of s.tables r (mutex_of m))) _
        (called_some s s.running (λ q. lock_by s m t q (owner_of s.tables m)) r run ∙ ap (lock_by s m t r) e) refl
        (ring_finish o e f (sym ring_test ∙ k)))))
      where
        ring_test : of_caller s.running (λ q. closes_ring s.tables q (mutex_of m)) ≡ closes_ring s.tables r (mutex_of m)
        ring_test = of_caller_lem s.running (λ q. closes_ring s.tables q (mutex_of m)) r run

  pub lock_pack : (m t : ℕ) → lock_step (pack os s) m t ≡ plan_for os Nothing (step_sound s (lock m t))
  unfolding lock_step pack pack_mutexes refusals
  lock_pack m t = by_rows os s (lock m t) (on_caller (still os) s I (lock m t) _ (λ r a b run. on_row (still os) s (lock m t) _ _ refl (λ e. chosen _ _ _ e) (λ e. skipped _ _ _ e
      ∙ on_row (still os) s (lock m t) _ _ refl (λ f. skipped _ _ _ (time_test t ∙ not-true (is_waiting_time t) f)) (λ f. chosen _ _ _ (time_test t ∙ not-false (is_waiting_time t) f)
      ∙ on_row (still os) s (lock m t) _ _ refl (λ g. chosen _ _ _ (owns_test m r run ∙ g)) (λ g. skipped _ _ _ (owns_test m r run ∙ g)
      ∙ ap (λ x. cond (eqb x no_id) (answer_in (put_mutexes (pack os s) (owner_set (pack os s).mutexes m (pack os s).running)) 0 0) (lock_waits (pack os s) m t)) (owner_at_lem m)
      ∙ lock_rest m t r run (leb-false (mutex_count s.tables) m e) (not-false (is_waiting_time t) f) (owner_of s.tables m) refl)))))
