-- Waiters, the best waiter, and where each task stands after waits end.
use Rattle.std.specs.Prelude.{◌≡◌, refl, [], Bool, true, false, not, ℕ, ◌≤◌, ◌<◌}
use Rattle.std.proofs.Math.Path.{ap, sym}
use Rattle.std.proofs.Common.{◌∙◌, subst, inl, inr, arith, eqb-true, eq-eqb}
use Rattle.std.proofs.Math.Option.{Option, none, some}
use Rattle.std.proofs.Math.Decide.{dec_lt}
use Rattle.lists.specs.Count.{occ, below}
use Rattle.lists.specs.Order.{keep, least_first}
use Rattle.lists.specs.TestLaws.{which, clash, by_test, none_some, some_same, and_l, and_r, true_and}
use Rattle.lists.specs.OrderLaws.{occ_kept, occ_dropped, least_some, least_none, keep_in}
use Rattle.lists.specs.FirstLaws.{first_is_least}
use Rattle.chains.specs.Chain.{From, here, on}
use Rattle.chains.specs.ChainLaws.{from_some}
use Rattle.chains.specs.LeastLaws.{leading_att}
use Rattle.rules.specs.Sizes.{levels}
use Rattle.rules.specs.Tables.{Awaited, mutex_of, sem_of, room_in, message_in, time, awaited_kind, awaited_object, is_sleep, Wait, Tables, task_count, priority_of, wait_of}
use Rattle.rules.specs.Levels.{heir_awaited, of_wait, lends, level_in, same_awaited, wait_is_for, awaits, waiters_of, best_waiter}
use Rattle.rules.specs.State.{State, with_tables}
use Rattle.rules.specs.Effect.{ended, is_due, outcome_due}
use Rattle.rules.specs.Sound.{wait_count}
use Rattle.rules.specs.Invariant.{Unavailable, Blocked, Outcome, Facts, Places}
use Rattle.rules.proofs.LevelLaws.{wait_out, lends_ended, level_in_lem}

pub wait_none : (w : Option Wait) → wait_count w ≡ 0 → w ≡ none
unfolding wait_count
wait_none none h = refl
wait_none (some w) h = absurd (omega arith)

-- who waits for a waits
pub awaits_waits : (w : Option Wait) (a : Awaited) → wait_is_for w a ≡ true → wait_count w ≡ 1
unfolding wait_is_for wait_count
awaits_waits none a e = absurd (clash e refl)
awaits_waits (some w) a e = refl

pub due_waits : (w : Option Wait) → is_due w ≡ true → wait_count w ≡ 1
unfolding is_due wait_count
due_waits none e = absurd (clash e refl)
due_waits (some w) e = refl

-- kind and object tell what is awaited
pub same_awaited_lem : (a b : Awaited) → same_awaited a b ≡ true → a ≡ b
unfolding same_awaited awaited_kind awaited_object
same_awaited_lem (mutex_of m) (mutex_of n) e = ap mutex_of (eqb-true m n (and_r _ _ e))
same_awaited_lem (mutex_of m) (sem_of n) e = absurd (clash (and_l _ _ e) refl)
same_awaited_lem (mutex_of m) (room_in n) e = absurd (clash (and_l _ _ e) refl)
same_awaited_lem (mutex_of m) (message_in n) e = absurd (clash (and_l _ _ e) refl)
same_awaited_lem (mutex_of m) time e = absurd (clash (and_l _ _ e) refl)
same_awaited_lem (sem_of m) (mutex_of n) e = absurd (clash (and_l _ _ e) refl)
same_awaited_lem (sem_of m) (sem_of n) e = ap sem_of (eqb-true m n (and_r _ _ e))
same_awaited_lem (sem_of m) (room_in n) e = absurd (clash (and_l _ _ e) refl)
same_awaited_lem (sem_of m) (message_in n) e = absurd (clash (and_l _ _ e) refl)
same_awaited_lem (sem_of m) time e = absurd (clash (and_l _ _ e) refl)
same_awaited_lem (room_in m) (mutex_of n) e = absurd (clash (and_l _ _ e) refl)
same_awaited_lem (room_in m) (sem_of n) e = absurd (clash (and_l _ _ e) refl)
same_awaited_lem (room_in m) (room_in n) e = ap room_in (eqb-true m n (and_r _ _ e))
same_awaited_lem (room_in m) (message_in n) e = absurd (clash (and_l _ _ e) refl)
same_awaited_lem (room_in m) time e = absurd (clash (and_l _ _ e) refl)
same_awaited_lem (message_in m) (mutex_of n) e = absurd (clash (and_l _ _ e) refl)
same_awaited_lem (message_in m) (sem_of n) e = absurd (clash (and_l _ _ e) refl)
same_awaited_lem (message_in m) (room_in n) e = absurd (clash (and_l _ _ e) refl)
same_awaited_lem (message_in m) (message_in n) e = ap message_in (eqb-true m n (and_r _ _ e))
same_awaited_lem (message_in m) time e = absurd (clash (and_l _ _ e) refl)
same_awaited_lem time (mutex_of n) e = absurd (clash (and_l _ _ e) refl)
same_awaited_lem time (sem_of n) e = absurd (clash (and_l _ _ e) refl)
same_awaited_lem time (room_in n) e = absurd (clash (and_l _ _ e) refl)
same_awaited_lem time (message_in n) e = absurd (clash (and_l _ _ e) refl)
same_awaited_lem time time e = refl

pub awaited_self : (a : Awaited) → same_awaited a a ≡ true
unfolding same_awaited
awaited_self a = true_and _ _ (eq-eqb (awaited_kind a) (awaited_kind a) refl) (eq-eqb (awaited_object a) (awaited_object a) refl)

-- who waits for a found it as one finds a
pub awaited_blocked : (t : Tables) (a : Awaited) (w : Option Wait) → Blocked t w → wait_is_for w a ≡ true → Unavailable t a
unfolding wait_is_for
awaited_blocked t a none b e = absurd (clash e refl)
awaited_blocked t a (some w) b e = subst (Unavailable t) (same_awaited_lem w.on a e) b

-- and lends to whom a wait for a lends
pub awaits_lends : (t : Tables) (a : Awaited) (i : ℕ) → awaits t a i ≡ true → lends t i ≡ heir_awaited t a
unfolding lends of_wait wait_is_for
awaits_lends t a i e = go (wait_of t i) e
  where
    go : (w : Option Wait) → wait_is_for w a ≡ true → of_wait (heir_awaited t) w ≡ heir_awaited t a
    go none e = absurd (clash e refl)
    go (some w) e = ap (heir_awaited t) (same_awaited_lem w.on a e)

pub not_due : is_due none ≡ false
unfolding is_due
not_due = refl

-- what a wait that runs out leaves is no outcome of a waiting task
pub outcome_due_lem : (w : Option Wait) → Outcome none (outcome_due w)
unfolding outcome_due
outcome_due_lem none = inl refl
outcome_due_lem (some w) = by_test (Outcome none) (is_sleep w.on) (λ e. inl refl) (λ e. inr (inl refl))

module _ (t : Tables) (F : Facts t) where
  -- where nobody waits, a level is the own priority
  pub level_alone : ((j : ℕ) → wait_of t j ≡ none) → (i : ℕ) → i < task_count t → level_in t i ≡ priority_of t i
  unfolding level_in lends of_wait
  level_alone h i k = let a = leading_att (priority_of t) (lends_ended t F) i k in a.3 ∙ ap (priority_of t) (stop a.2 refl)
    where
      stop : {o : Option ℕ} {j : ℕ} → From (lends t) o j → {i : ℕ} → o ≡ some i → i ≡ j
      stop here e = sym (some_same e)
      stop (on {i = j} g) e = none_some (rw (h j) refl) (from_some g).1

  pub wait_in_lem : (i : ℕ) → 1 ≤ wait_count (wait_of t i) → i < task_count t
  unfolding wait_count
  wait_in_lem i m = elim (dec_lt i (task_count t)) [ yes h ↦ h | no h ↦ absurd (omega (arith, m, ap wait_count (wait_out t F.wait_column i (omega arith)))) ]

  module _ (a : Awaited) where
    pub waiter_in : (i : ℕ) → awaits t a i ≡ true → occ i (waiters_of t a) ≡ 1
    unfolding waiters_of
    waiter_in i e = occ_kept (awaits t a) i t.tasks.waiting e ∙ (F.waiting i ∙ awaits_waits (wait_of t i) a e)

    pub in_waiter : (i : ℕ) → 1 ≤ occ i (waiters_of t a) → awaits t a i ≡ true
    unfolding waiters_of
    in_waiter i h = (keep_in (awaits t a) i t.tasks.waiting h).0

    -- the best waiter is the oldest of those of least level
    pub best_is_least : best_waiter t a ≡ least_first (level_in t) (waiters_of t a)
    unfolding best_waiter
    best_is_least = first_is_least (level_in t) levels (waiters_of t a) (λ y m.
        level_in_lem t F y (wait_in_lem y (omega (arith, awaits_waits (wait_of t y) a (in_waiter y m)))))

    pub best_waits : (w : ℕ) → best_waiter t a ≡ some w → awaits t a w ≡ true
    best_waits w e = in_waiter w (least_some (level_in t) (waiters_of t a) w (sym best_is_least ∙ e))

    pub nobody_best : best_waiter t a ≡ none → (i : ℕ) → awaits t a i ≡ false
    nobody_best e i = elim (which (awaits t a i)) [
      | inl q ↦ absurd (omega (arith, waiter_in i q, least_none (level_in t) (waiters_of t a) (sym best_is_least ∙ e) i))
      | inr q ↦ q
    ]

-- those whose waits end leave the order of waits and are ready
pub places_end : (s : State) (t : Tables) (p : ℕ → Bool) → task_count t ≡ task_count s.tables → t.tasks.waiting ≡ keep (λ i. not (p i)) s.tables.tasks.waiting
    → Places s [] → Places (with_tables s t) (ended s.tables p)
unfolding occ
places_end s t p e f h i = elim (which (p i)) [
  | inl q ↦ omega (arith, h i, ap (occ i) f, ap (below i) e, occ_kept p i s.tables.tasks.waiting q, occ_dropped (λ j. not (p j)) i s.tables.tasks.waiting (rw q refl))
  | inr q ↦ omega (arith, h i, ap (occ i) f, ap (below i) e, occ_dropped p i s.tables.tasks.waiting q, occ_kept (λ j. not (p j)) i s.tables.tasks.waiting (rw q refl))
]
