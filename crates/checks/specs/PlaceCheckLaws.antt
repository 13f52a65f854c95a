-- The code's own test that each task is in one place: where the lists hold tasks only, it says the same as the rules' counts of the view.
use Rattle.std.specs.Prelude.{◌≡◌, List, [], ◌∷◌, Bool, true, ◌⊎◌, ℕ, zero, suc, ◌+◌, ◌≤◌, ◌<◌, ltb, eqb, length, get_or, replicate}
use Rattle.std.proofs.Math.Path.{refl, ap}
use Rattle.std.proofs.Common.{◌∙◌, inl, inr, arith, length-take, eqb-true, lt-ltb, le-ltb, eq-eqb, ne_eqb}
use Rattle.std.proofs.Math.Option.{Option}
use Rattle.std.proofs.Math.Decide.{ℕ_discrete}
use Rattle.std.proofs.lemmas.List.{get_or-replicate}
use Rattle.lists.specs.Test.{◌and◌, ◌or◌, allb}
use Rattle.lists.specs.Count.{eqn, occ, opt}
use Rattle.lists.specs.Order.{inside}
use Rattle.lists.specs.TestLaws.{by_test, and_l, true_and, same_test, all_and}
use Rattle.lists.specs.CountLaws.{eqn_at, eqn_other}
use Rattle.lists.specs.OrderLaws.{inside_true}
use Rattle.rules.specs.Sizes.{task_places, on_receive}
use Rattle.rules.specs.Tables.{task_count, wait_of}
use Rattle.rules.specs.Sound.{wait_count, waitingb, placesb}
use Rattle.task_lists.specs.TaskList.{no_id, items, key_of, counted}
use Rattle.task_lists.specs.TaskListLaws.{length_counted, get_d_counted}
use Rattle.walks.specs.Walk.{task_at}
use Rattle.walks.specs.WalkLaws.{task_in}
use Rattle.record.specs.Whole.{whole}
use Rattle.record.specs.Record.{awaited_by, wait_with, left_in, wait_in, wait_at, view_tables, view}
use Rattle.record.specs.SoundRecord.{tidyb}
use Rattle.record.specs.GoodRecord.{Typed}
use Rattle.record.specs.TidyLaws.{tasks_fit, ready_fits, waiting_fits, running_or, unused_at_lem, wait_kind}
use Rattle.record.specs.ViewLaws.{view_tasks_lem, view_wait}
use Rattle.checks.specs.Checks.{waits_once, stands_once, place_at, places_in}
use Rattle.checks.specs.TableCheckLaws.{used_tasks}
use Rattle.record.specs.declared.State.{State}  -- keep

-- how often a task waits, by the places of its wait
count_wait : (kind object : ℕ) (left : Option ℕ) → kind ≤ on_receive → waits_once kind ≡ wait_count (wait_in kind object left)
unfolding waits_once wait_with awaited_by wait_count
count_wait zero object left h = refl
count_wait (suc zero) object left h = refl
count_wait (suc (suc zero)) object left h = refl
count_wait (suc (suc (suc zero))) object left h = refl
count_wait (suc (suc (suc (suc zero)))) object left h = refl
count_wait (suc (suc (suc (suc (suc zero))))) object left h = refl
count_wait (suc (suc (suc (suc (suc (suc kind)))))) object left h = absurd (omega arith)

-- who runs is one of the tasks, by its id
inside_id : (r n : ℕ) → (r < task_places) ⊎ (r ≡ no_id) → eqb r no_id or ltb r n ≡ inside n (opt (task_at r))
unfolding ◌or◌ inside
inside_id r n c = elim c [
  | inl h ↦ rw (task_in r h, ne_eqb r no_id (λ e. omega arith)) (same_test _ _ (λ u. true_and _ _ u refl) (λ u. and_l _ _ u))
  | inr e ↦ rw e refl
]

-- how often a task runs, by the id of the one that does
occ_id : (r i : ℕ) → i < task_places → (r < task_places) ⊎ (r ≡ no_id) → eqn r i ≡ occ i (opt (task_at r))
unfolding occ
occ_id r i l c = elim c [
  | inl h ↦ rw (task_in r h) (omega arith)
  | inr e ↦ rw e (eqn_other no_id i (λ q. omega arith))
]

same_eqb : (a b c d : ℕ) → (a ≡ b → c ≡ d) → (c ≡ d → a ≡ b) → eqb a b ≡ eqb c d
same_eqb a b c d f g = same_test _ _ (λ e. eq-eqb c d (f (eqb-true a b e))) (λ e. eq-eqb a b (g (eqb-true c d e)))

-- a task stands in the lists once unless it runs: with the one place of the running task, that is once in all
stands_one : (n r i w y : ℕ) → i < n → eqb (w + y) (stands_once n r i) ≡ eqb (y + (w + eqn r i)) 1
unfolding stands_once
stands_one n r i w y h = elim (ℕ_discrete r i) [
  | yes e ↦ rw (eq-eqb r i e, eqn_at r i e) (same_eqb (w + y) 0 (y + (w + 1)) 1 (λ q. omega arith) (λ q. omega arith))
  | no e ↦ rw (ne_eqb r i e, eqn_other r i e, lt-ltb i n h) (same_eqb (w + y) 1 (y + (w + 0)) 1 (λ q. omega arith) (λ q. omega arith))
]

-- who is no task stands nowhere
stands_none : (n r i : ℕ) → n ≤ i → stands_once n r i ≡ 0
unfolding stands_once
stands_none n r i h = rw (le-ltb i n h) (by_test (λ (x : ℕ). x ≡ 0) (eqb r i) (λ e. refl) (λ e. refl))

occ_length : (i : ℕ) (l : List ℕ) → occ i l ≤ length l
unfolding occ
occ_length i [] = omega arith
occ_length i (x ∷ l) = elim (ℕ_discrete x i) [
  | yes e ↦ omega (arith, eqn_at x i e, occ_length i l)
  | no e ↦ omega (arith, eqn_other x i e, occ_length i l)
]

-- how often each task stands in the order of waits, and in the two lists
abbrev waits_of : State → List ℕ
waits_of k = counted (replicate task_places 0) (items k.waiting)

abbrev all_of : State → List ℕ
all_of k = counted (waits_of k) (items k.ready)

module _ (k : State) (ws b : List ℕ) (T : Typed k) (tidy : tidyb k ≡ true) where
  waits_at : (i : ℕ) → i < task_places → key_of (waits_of k) i ≡ occ i (items k.waiting)
  waits_at i l =
      let z : key_of (replicate task_places 0) i ≡ 0 = get_or-replicate task_places i 0 0 l in
      omega (arith, get_d_counted (replicate task_places 0) (items k.waiting) i l (omega arith), occ_length i (items k.waiting), length-take k.waiting.n k.waiting.ids, waiting_fits k tidy)

  all_at : (i : ℕ) → i < task_places → key_of (all_of k) i ≡ occ i (items k.waiting) + occ i (items k.ready)
  all_at i l =
      let w = waits_at i l in
      let few = occ_length i (items k.waiting) in
      let short = length-take k.waiting.n k.waiting.ids in
      omega (
        arith,
        get_d_counted (waits_of k) (items k.ready) i (omega (arith, length_counted (replicate task_places 0) (items k.waiting))) (omega (arith, waiting_fits k tidy)),
        occ_length i (items k.ready),
        length-take k.ready.n k.ready.ids,
        ready_fits k tidy,
        waiting_fits k tidy,
      )

  -- one task's place
  abbrev pub waits_right : ℕ → Bool
  waits_right i = eqb (occ i (items k.waiting)) (wait_count (wait_of (view_tables (whole k ws b)) i))

  abbrev pub stands_right : ℕ → Bool
  stands_right i = eqb (occ i (items k.ready) + (occ i (items k.waiting) + occ i (opt (task_at k.running)))) 1

  place_used : (i : ℕ) → i < k.tasks.n → place_at k.tasks.wait (waits_of k) (all_of k) k.tasks.n k.running i ≡ waits_right i and stands_right i
  unfolding wait_at
  place_used i h =
      let l : i < task_places = omega (arith, tasks_fit k tidy) in
      rw (
        waits_at i l,
        all_at i l,
        view_wait k ws b T tidy i h,
        count_wait (key_of k.tasks.wait i) (key_of k.tasks.object i) (left_in (get_or k.tasks.timed i 0) (get_or k.tasks.due i 0) k.clock) (wait_kind k tidy i h),
        stands_one k.tasks.n k.running i (occ i (items k.waiting)) (occ i (items k.ready)) h,
        occ_id k.running i l (running_or k tidy),
      ) refl

  module _ (ready_in : inside k.tasks.n (items k.ready) ≡ true) (waiting_in : inside k.tasks.n (items k.waiting) ≡ true) where
    place_unused : (i : ℕ) → k.tasks.n ≤ i → i < task_places → place_at k.tasks.wait (waits_of k) (all_of k) k.tasks.n k.running i ≡ true
    unfolding waits_once
    place_unused i h l =
        let w = inside_true k.tasks.n (items k.waiting) waiting_in i h in
        let y = inside_true k.tasks.n (items k.ready) ready_in i h in
        true_and _ _
        (rw (unused_at_lem k tidy i h l).no_wait (eq-eqb (key_of (waits_of k) i) 0 (waits_at i l ∙ w)))
        (rw (stands_none k.tasks.n k.running i h) (eq-eqb (key_of (all_of k) i) 0 (omega (arith, all_at i l))))

    pub places_same : places_in k.tasks.wait k.ready k.waiting k.tasks.n k.running ≡ allb (task_count (view_tables (whole k ws b))) waits_right and allb (task_count (view_tables (whole k ws b))) stands_right
    unfolding places_in
    places_same = used_tasks k ws b T tidy _ (λ i. waits_right i and stands_right i) place_unused place_used ∙ all_and (task_count (view_tables (whole k ws b))) waits_right stands_right

  -- the rules' tests of the view, in the record's terms
  pub waiting_view : waitingb (view_tables (whole k ws b)) ≡ inside k.tasks.n (items k.waiting) and allb (task_count (view_tables (whole k ws b))) waits_right
  unfolding waitingb view_tables
  waiting_view = ap (λ (n : ℕ). inside n (items k.waiting) and allb (task_count (view_tables (whole k ws b))) waits_right) (view_tasks_lem k ws b T tidy)

  pub places_view : placesb (view (whole k ws b)) ≡ inside k.tasks.n (items k.ready) and (eqb k.running no_id or ltb k.running k.tasks.n) and allb (task_count (view_tables (whole k ws b))) stands_right
  unfolding placesb view view_tables
  places_view = rw (inside_id k.running k.tasks.n (running_or k tidy))
      (ap (λ (n : ℕ). inside n (items k.ready) and inside n (opt (task_at k.running)) and allb (task_count (view_tables (whole k ws b))) stands_right) (view_tasks_lem k ws b T tidy))
