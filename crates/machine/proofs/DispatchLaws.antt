-- Dispatching a packed state: the code's choice of the running task is the packing of the rules' choice.
use Rattle.std.specs.Prelude.{◌≡◌, true, false, ℕ, ◌+◌, ◌≤◌, ◌<◌, ltb, eqb, length}
use Rattle.std.proofs.Math.Path.{refl, ap, fun_ext}
use Rattle.std.proofs.Common.{sym, ◌∙◌, arith, eq-eqb, ne_eqb}
use mathlib.Core.List.{List, [], ◌∷◌}
use Rattle.std.proofs.Math.Logic.{inl, inr}
use Rattle.std.proofs.Math.Option.{Option, none, some}
use Rattle.lists.specs.Test.{◌and◌}
use Rattle.lists.specs.Count.{occ, below, opt}
use Rattle.lists.specs.Order.{insert_head, Asc}
use Rattle.lists.specs.Table.{pad}
use Rattle.lists.specs.TestLaws.{which, true_and, false_and}
use Rattle.lists.specs.CountLaws.{eqn_at, in_below, below_le, pigeonhole}
use Rattle.rules.specs.Sizes.{task_places}
use Rattle.rules.specs.Tables.{task_count}
use Rattle.rules.specs.Settle.{meet, dispatch}
use Rattle.rules.specs.Invariant.{Facts, Places}
use Rattle.task_lists.specs.TaskList.{places, no_id, items, task_list_of, key_of, inserted, id_of}
use Rattle.task_lists.specs.TaskListLaws.{items_task_list_of, head_task_list_of}
use Rattle.level_marks.specs.Marks.{marks_in, first_marked}
use Rattle.record.specs.Record.{pack_tasks, pack}
use Rattle.record.specs.Reads.{first_id}
use Rattle.record.specs.Setters.{put_ready, put_running}
use Rattle.machine.specs.Machine.{rest_of, displaced, turn_of, dispatched}
use Rattle.record.specs.ReadLaws.{level_read}
use Rattle.machine.proofs.ReadyLevelLaws.{nobody_marked, some_level_marked, first_ready_level}
use Rattle.record.specs.declared.State.{State}  -- keep
use Rattle.task_lists.specs.declared.TaskList.{TaskList}  -- keep
use Rattle.rules.specs.State.{State as Model, level_of, placed}  -- keep

-- the first leaves
first_leaves : (x : ℕ) (l : List ℕ) → rest_of (task_list_of (x ∷ l)) ≡ task_list_of l
unfolding rest_of
first_leaves x l = rw (items_task_list_of (x ∷ l)) refl

-- x runs, q being ready behind it
abbrev ran : State → ℕ → TaskList → State
ran k x q = put_running (put_ready k q) x

-- what the code does in each case
module _ (k : State) (on : eqb k.started 0 ≡ false) where
  case_empty : eqb (marks_in k.tasks.level (items k.ready)) 0 ≡ true → dispatched k ≡ k
  unfolding dispatched turn_of
  case_empty e = rw (on, e) refl

  module _ (some_ready : eqb (marks_in k.tasks.level (items k.ready)) 0 ≡ false) where
    case_idle : eqb k.running no_id ≡ true → dispatched k ≡ ran k (first_id k.ready) (rest_of k.ready)
    unfolding dispatched turn_of
    case_idle e = rw (on, some_ready, e) refl

    module _ (runs : eqb k.running no_id ≡ false) where
      case_held : eqb k.hold 0 ≡ false → dispatched k ≡ k
      unfolding dispatched turn_of
      case_held e = rw (on, some_ready, runs, e) refl

      case_stays : eqb k.hold 0 ≡ true → ltb (first_marked (marks_in k.tasks.level (items k.ready))) (key_of k.tasks.level k.running) ≡ false → dispatched k ≡ k
      unfolding dispatched turn_of
      case_stays e f = rw (on, some_ready, runs, e, f) refl

      case_displaced : eqb k.hold 0 ≡ true → ltb (first_marked (marks_in k.tasks.level (items k.ready))) (key_of k.tasks.level k.running) ≡ true
          → dispatched k ≡ ran k (first_id k.ready) (displaced k.ready k.tasks.level k.running)
      unfolding dispatched turn_of
      case_displaced e f = rw (on, some_ready, runs, e, f) refl

-- what the rules do with a running task
meet_stays : (s : Model) (r x : ℕ) (l : List ℕ) → eqb s.hold 0 and ltb (level_of s x) (level_of s r) ≡ false → meet s (some r) (x ∷ l) ≡ placed s (some r) (x ∷ l)
unfolding meet
meet_stays s r x l e = rw e refl

meet_displaces : (s : Model) (r x : ℕ) (l : List ℕ) → eqb s.hold 0 and ltb (level_of s x) (level_of s r) ≡ true → meet s (some r) (x ∷ l) ≡ placed s (some x) (insert_head (level_of s) r l)
unfolding meet
meet_displaces s r x l e = rw e refl

-- dispatching a packed state
module _ (o : List ℕ) (s : Model) (F : Facts s.tables) (on : s.started ≡ true) where
  up : (r : Option ℕ) (l : List ℕ) → eqb (pack o (placed s r l)).started 0 ≡ false
  unfolding pack
  up r l = rw on refl

  -- the ids at hand are those of tasks, each once
  at_most : (r : Option ℕ) (l : List ℕ) → Places (placed s r l) [] → (i : ℕ) → occ i l + occ i (opt r) ≤ below i (task_count s.tables)
  at_most r l P i = omega (arith, P i)

  room : (r : Option ℕ) (x : ℕ) (l : List ℕ) → Places (placed s r (x ∷ l)) [] → length l < places
  room r x l P = omega (
    arith,
    F.few_tasks,
    pigeonhole (task_count s.tables) (x ∷ l) (λ y. omega (arith, at_most r (x ∷ l) P y, below_le y (task_count s.tables)))
        (λ y m. in_below y (task_count s.tables) (omega (arith, at_most r (x ∷ l) P y))),
  )

  runner_in : (r : ℕ) (l : List ℕ) → Places (placed s (some r) l) [] → r < task_places
  unfolding occ
  runner_in r l P = omega (arith, F.few_tasks, in_below r (task_count s.tables) (omega (arith, at_most (some r) l P r, eqn_at r r refl)))

  displaced_list : (r x : ℕ) (l : List ℕ) → Places (placed s (some r) (x ∷ l)) []
      → displaced (task_list_of (x ∷ l)) (pack_tasks s.tables s.clock).level r ≡ task_list_of (insert_head (level_of s) r l)
  unfolding displaced
  displaced_list r x l P =
      let lv = (pack_tasks s.tables s.clock).level in
      ap (λ q. inserted q lv (key_of lv r) r) (first_leaves x l)
      ∙ head_task_list_of lv r l (room (some r) x l P)
      ∙ ap (λ f. task_list_of (insert_head f r l)) (fun_ext (level_read s.tables s.clock))

  meet_pack : (r : Option ℕ) (l : List ℕ) → Places (placed s r l) [] → Asc (level_of s) l → dispatched (pack o (placed s r l)) ≡ pack o (meet s r l)
  unfolding meet pack id_of task_list_of pad ◌and◌
  meet_pack r [] P A = case_empty (pack o (placed s r [])) (up r []) (eq-eqb _ 0 (nobody_marked o (placed s r []) refl))
  meet_pack none (x ∷ l) P A =
      case_idle (pack o (placed s none (x ∷ l))) (up none (x ∷ l)) (ne_eqb _ 0 (some_level_marked o (placed s none (x ∷ l)) F P x l refl)) refl
      ∙ ap (λ q. ran (pack o (placed s none (x ∷ l))) x q) (first_leaves x l)
  meet_pack (some r) (x ∷ l) P A = elim (which (eqb s.hold 0)) [
    | inl e ↦ elim (which (ltb (level_of s x) (level_of s r))) [
      | inl f ↦ case_displaced k (up (some r) (x ∷ l)) many runs e (test ∙ f) ∙ ap (λ q. ran k x q) (displaced_list r x l P) ∙ ap (pack o) (sym (meet_displaces s r x l (true_and _ _ e f)))
      | inr f ↦ case_stays k (up (some r) (x ∷ l)) many runs e (test ∙ f) ∙ ap (pack o) (sym (meet_stays s r x l (rw e f)))
    ]
    | inr e ↦ case_held k (up (some r) (x ∷ l)) many runs e ∙ ap (pack o) (sym (meet_stays s r x l (false_and _ _ e)))
  ]
    where
      k : State
      k = pack o (placed s (some r) (x ∷ l))

      many : eqb (marks_in k.tasks.level (items k.ready)) 0 ≡ false
      many = ne_eqb _ 0 (some_level_marked o (placed s (some r) (x ∷ l)) F P x l refl)

      runs : eqb r no_id ≡ false
      runs = ne_eqb r no_id (λ e. omega (arith, runner_in r (x ∷ l) P))

      test : ltb (first_marked (marks_in k.tasks.level (items k.ready))) (key_of k.tasks.level r) ≡ ltb (level_of s x) (level_of s r)
      test = rw (first_ready_level o (placed s (some r) (x ∷ l)) F P x l refl A, level_read s.tables s.clock r) refl

-- what dispatching does in each phase
dispatch_on : (s : Model) → s.started ≡ true → dispatch s ≡ meet s s.running s.ready
unfolding dispatch
dispatch_on s e = rw e refl

dispatch_off : (s : Model) → s.started ≡ false → dispatch s ≡ s
unfolding dispatch
dispatch_off s e = rw e refl

case_off : (k : State) → eqb k.started 0 ≡ true → dispatched k ≡ k
unfolding dispatched turn_of
case_off k e = rw e refl

pub dispatch_pack : (o : List ℕ) (s : Model) → Facts s.tables → Places s [] → Asc (level_of s) s.ready → dispatched (pack o s) ≡ pack o (dispatch s)
unfolding pack
dispatch_pack o s F P A = elim (which s.started) [
  | inl e ↦ meet_pack o s F e s.running s.ready P A ∙ ap (pack o) (sym (dispatch_on s e))
  | inr e ↦ case_off (pack o s) (rw e refl) ∙ ap (pack o) (sym (dispatch_off s e))
]
