-- Waits of the packed tables: their codes, their flags, the best waiter, and the chain of a mutex.
use Rattle.std.specs.Prelude.{◌≡◌, List, Bool, true, false, cond, ℕ, ◌+◌, ◌%◌, ◌≤◌, ◌<◌, eqb, length}
use Rattle.std.proofs.Math.Path.{refl, ap, fun_ext}
use Rattle.std.proofs.Common.{sym, ◌∙◌, arith}
use Rattle.std.proofs.Math.Option.{Option, none, some}
use Rattle.std.proofs.Math.Decide.{dec_lt}
use Rattle.std.proofs.Math.ListN.{get_or-eq_default}
use Rattle.lists.specs.Test.{◌and◌, someb, holds}
use Rattle.lists.specs.Table.{filled}
use Rattle.lists.specs.TestLaws.{clash}
use Rattle.lists.specs.TableLaws.{length_filled, get_d_filled}
use Rattle.chains.specs.Chain.{walk}
use Rattle.rules.specs.Sizes.{task_places, word_size, granted, timed_out, on_time}
use Rattle.rules.specs.Levels.{owner_awaited, next, chain_of, same_awaited, wait_is_for, awaits, waiters_of, best_waiter}
use Rattle.rules.specs.Effect.{is_due, due, outcome_due, less_one, age}
use Rattle.rules.specs.Invariant.{Left, Timed, Facts}
use Rattle.rules.proofs.LevelLaws.{wait_out}
use Rattle.task_lists.specs.TaskList.{id_of, best_of}
use Rattle.task_lists.specs.TaskListLaws.{items_task_list_of}
use Rattle.walks.specs.Walk.{task_at, next_in, chain_from}
use Rattle.walks.specs.WalkLaws.{walk_ext}
use Rattle.record.specs.Record.{ticks_left, left_code, kind_code, object_code, timed_code, due_code, pack_tasks, pack}
use Rattle.record.specs.Reads.{queue_owner_at, owner_at, next_at}
use Rattle.machine.specs.Machine.{owners_from, due_now, due_flag, waits_on, waiter_flag, best_at}
use Rattle.record.specs.PackLaws.{ticks_back}
use Rattle.record.specs.ReadLaws.{kind_read, object_read, timed_read, due_read, level_read, owner_read, owner_back, queue_owner_read, queue_owner_back, next_pack}
use Rattle.machine.proofs.FlagLaws.{Flags}
use Rattle.rules.specs.State.{State as Model}  -- keep
use Rattle.rules.specs.Tables.{awaited_kind, awaited_object, Tables, Wait, Awaited, mutex_of, sem_of, room_in, message_in, time, task_count, wait_of}  -- keep

-- the code of a test
abbrev bit : Bool → ℕ
bit b = cond b 1 0

-- the code of a wait, and the test of what it is for; no kind of wait has the code of none
waits_code : (a : Awaited) → eqb 0 (awaited_kind a) ≡ false
unfolding awaited_kind
waits_code (mutex_of m) = refl
waits_code (sem_of k) = refl
waits_code (room_in q) = refl
waits_code (message_in q) = refl
waits_code time = refl

coded_wait : (w : Option Wait) (a : Awaited) → eqb (kind_code w) (awaited_kind a) and eqb (object_code w) (awaited_object a) ≡ wait_is_for w a
unfolding kind_code object_code wait_is_for same_awaited ◌and◌
coded_wait none a = rw (waits_code a) refl
coded_wait (some w) a = refl

-- the outcome of a wait that is due
pub due_kind : (w : Option Wait) → is_due w ≡ true → cond (eqb (kind_code w) on_time) granted timed_out ≡ outcome_due w
unfolding kind_code awaited_kind is_due outcome_due
due_kind none e = absurd (clash e refl)
due_kind (some w) e = refl

two_tests : (a b : Bool) → cond a (bit b) 0 ≡ bit (a and b)
unfolding ◌and◌
two_tests true b = refl
two_tests false b = refl

-- a wait with one tick left
due_code_lem : (clock : ℕ) (w : Option Wait) → clock < word_size → Timed w
    → cond (eqb (timed_code w) 1) (bit (eqb (ticks_left (due_code clock w) clock) 1)) 0 ≡ bit (is_due w)
unfolding timed_code due_code left_code is_due holds someb
due_code_lem clock none h t = refl
due_code_lem clock (some w) h t = go w.on w.left t
  where
    go : (a : Awaited) (l : Option ℕ) → Left a l → cond (eqb (bit (someb l)) 1) (bit (eqb (ticks_left (left_code clock l) clock) 1)) 0 ≡ bit (holds l 1)
    go a none q = refl
    go a (some n) q = ap (λ z. bit (eqb z 1)) (ticks_back clock h n (omega arith))

-- a tick later, the due time stands
pub aged_code : (clock : ℕ) (w : Option Wait) → Timed w → is_due w ≡ false → due_code ((clock + 1) % word_size) (age w) ≡ due_code clock w
unfolding due_code left_code is_due holds age less_one
aged_code clock none t e = refl
aged_code clock (some w) t e = go w.on w.left t e
  where
    go : (a : Awaited) (l : Option ℕ) → Left a l → holds l 1 ≡ false → left_code ((clock + 1) % word_size) (less_one l) ≡ left_code clock l
    go a none q f = refl
    go a (some n) q f = omega arith

pub aged_kind : (w : Option Wait) → kind_code (age w) ≡ kind_code w
unfolding kind_code age
aged_kind none = refl
aged_kind (some w) = refl

pub aged_object : (w : Option Wait) → object_code (age w) ≡ object_code w
unfolding object_code age
aged_object none = refl
aged_object (some w) = refl

pub aged_timed : (w : Option Wait) → timed_code (age w) ≡ timed_code w
unfolding timed_code age less_one someb
aged_timed none = refl
aged_timed (some w) = go w.left
  where
    go : (l : Option ℕ) → bit (someb (less_one l)) ≡ bit (someb l)
    go none = refl
    go (some n) = refl

module _ (t : Tables) (F : Facts t) where
  -- a table of flags for a test that nobody passes who does not wait
  flags_of : (f : ℕ → ℕ) (p : Option Wait → Bool) → p none ≡ false → ((i : ℕ) → f i ≡ bit (p (wait_of t i))) → Flags (filled task_places f) (λ i. p (wait_of t i))
  flags_of f p e h i = elim (dec_lt i task_places) [
    | yes k ↦ get_d_filled task_places f 0 i k ∙ h i
    | no k ↦ (let q : length (filled task_places f) ≤ i = omega (arith, length_filled task_places f) in
        get_or-eq_default (filled task_places f) 0 q ∙ sym (ap (λ w. bit (p w)) (wait_out t F.wait_column i (omega (arith, F.few_tasks))) ∙ rw e refl))
  ]

  module _ (c : ℕ) where
    pub waiter_flags : (a : Awaited) → Flags (filled task_places (waiter_flag (pack_tasks t c) (awaited_kind a) (awaited_object a))) (awaits t a)
    unfolding waits_on wait_is_for
    waiter_flags a = flags_of (waiter_flag (pack_tasks t c) (awaited_kind a) (awaited_object a)) (λ w. wait_is_for w a) refl (λ i.
        rw (kind_read t c i, object_read t c i) (two_tests _ _ ∙ ap bit (coded_wait (wait_of t i) a)))

    pub due_flags : c < word_size → Flags (filled task_places (due_flag (pack_tasks t c) c)) (due t)
    unfolding due_now is_due
    due_flags h = flags_of (due_flag (pack_tasks t c) c) is_due refl (λ i. rw (timed_read t c i, due_read t c i) (due_code_lem c (wait_of t i) h (F.timed i)))

-- "the best waiter", over the packed tables
pub best_pack : (o : List ℕ) (s : Model) (a : Awaited) → best_at (pack o s) (awaited_kind a) (awaited_object a) ≡ id_of (best_waiter s.tables a)
unfolding best_of best_waiter waiters_of pack
best_pack o s a = rw (
  items_task_list_of s.tables.tasks.waiting,
  fun_ext (level_read s.tables s.clock),
  fun_ext (λ i. test (kind_read s.tables s.clock i) (object_read s.tables s.clock i) ∙ coded_wait (wait_of s.tables i) a),
) refl
  where
    test : {x y u v : ℕ} → x ≡ u → y ≡ v → eqb x (awaited_kind a) and eqb y (awaited_object a) ≡ eqb u (awaited_kind a) and eqb v (awaited_object a)
    test e f = rw (e, f) refl

-- the chain of what is awaited, from its owner on
module _ (o : List ℕ) (s : Model) (F : Facts s.tables) where
  chain_from_lem : (a : Awaited) (x : ℕ) → task_at x ≡ owner_awaited s.tables a
      → chain_from (filled task_places (next_at (pack o s).tasks (pack o s).mutexes (pack o s).queues)) x (pack o s).tasks.n ≡ chain_of s.tables a
  unfolding chain_of pack pack_tasks
  chain_from_lem a x e = walk_ext (next_in (filled task_places (next_at (pack o s).tasks (pack o s).mutexes (pack o s).queues))) (next s.tables) (next_pack s F o) (task_count s.tables) (task_at x)
      ∙ ap (walk (task_count s.tables) (next s.tables)) e

  pub chain_pack : (m : ℕ) → owners_from (pack o s).tasks (pack o s).mutexes (pack o s).queues (owner_at (pack o s).mutexes m) ≡ chain_of s.tables (mutex_of m)
  unfolding pack owner_awaited
  chain_pack m = chain_from_lem (mutex_of m) (owner_at (pack o s).mutexes m) (ap task_at (owner_read s.tables m) ∙ owner_back s.tables F m)

  pub queue_chain_pack : (q : ℕ) → owners_from (pack o s).tasks (pack o s).mutexes (pack o s).queues (queue_owner_at (pack o s).queues q) ≡ chain_of s.tables (room_in q)
  unfolding pack owner_awaited
  queue_chain_pack q = chain_from_lem (room_in q) (queue_owner_at (pack o s).queues q) (ap task_at (queue_owner_read s.tables o q) ∙ queue_owner_back s.tables F q)
