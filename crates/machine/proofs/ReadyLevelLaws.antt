-- The first ready level of a sound record: that of its first ready task, and none exactly where nobody is ready.
use Rattle.std.specs.Prelude.{◌≡◌, refl, List, [], ◌∷◌, true, ℕ, ◌≤◌, ◌<◌, length}
use Rattle.std.proofs.Math.Path.{ap}
use Rattle.std.proofs.Common.{sym, ◌∙◌, subst, arith}
use Rattle.lists.specs.Count.{occ}
use Rattle.lists.specs.Order.{Asc}
use Rattle.lists.specs.Table.{pad}
use Rattle.lists.specs.CountLaws.{in_below, occ_head}
use Rattle.lists.specs.OrderLaws.{asc_change}
use Rattle.rules.specs.Sizes.{levels}
use Rattle.rules.specs.Tables.{task_count}
use Rattle.rules.specs.Invariant.{Facts, Places, Inv}
use Rattle.rules.proofs.LevelLaws.{level_in_lem}
use Rattle.task_lists.specs.TaskList.{items, task_list_of, key_of}
use Rattle.task_lists.specs.TaskListLaws.{items_task_list_of}
use Rattle.level_marks.specs.Marks.{marks_of, first_marked, level_at, marks_in}
use Rattle.level_marks.specs.MarkLaws.{marks_nobody, some_marked, first_of_order, level_placed}
use Rattle.record.specs.Record.{pack, view, oldest_in}
use Rattle.record.specs.Reads.{first_id}
use Rattle.record.specs.Whole.{Whole}
use Rattle.record.specs.SoundRecord.{sound_of}
use Rattle.record.specs.GoodRecord.{Typed}
use Rattle.record.specs.ReadLaws.{level_pack}
use Rattle.record.specs.SoundPackLaws.{sound_view, sound_pack}
use Rattle.record.specs.declared.State.{State}  -- keep
use Rattle.rules.specs.State.{State as Model, level_of}  -- keep

module _ (o : List ℕ) (s : Model) where
  -- the levels that the packed state stores, and the word of level marks of its ready order
  abbrev stored : ℕ → ℕ
  stored = level_at (pack o s).tasks.level

  abbrev word : ℕ
  word = marks_in (pack o s).tasks.level (items (pack o s).ready)

  word_is : (l : List ℕ) → s.ready ≡ l → word ≡ marks_of stored l
  unfolding pack
  word_is l e = ap (marks_of stored) (items_task_list_of s.ready ∙ e)

  pub nobody_marked : s.ready ≡ [] → word ≡ 0
  nobody_marked e = word_is [] e ∙ marks_nobody stored

  module _ (F : Facts s.tables) (P : Places s []) where
    -- who is ready is a task, and its level is stored
    is_task : (y : ℕ) → 1 ≤ occ y s.ready → y < task_count s.tables
    is_task y m = in_below y (task_count s.tables) (omega (arith, P y))

    level_there : (y : ℕ) → 1 ≤ occ y s.ready → level_of s y ≡ stored y
    level_there y m = sym (level_placed (pack o s).tasks.level y (omega (arith, is_task y m, F.few_tasks)) ∙ level_pack s o y)

    module _ (x : ℕ) (l : List ℕ) (e : s.ready ≡ x ∷ l) where
      there : 1 ≤ occ x s.ready
      there = omega (arith, ap (occ x) e, occ_head x l)

      low : stored x < levels
      low = omega (arith, level_there x there, level_in_lem s.tables F x (is_task x there))

      pub some_level_marked : word ≡ 0 → ⊥
      some_level_marked z = some_marked stored (x ∷ l) x (occ_head x l) low (sym (word_is (x ∷ l) e) ∙ z)

      -- "the first ready level" of an ascending order: the first ready task's
      pub first_ready_level : Asc (level_of s) s.ready → first_marked word ≡ level_of s x
      first_ready_level a = ap first_marked (word_is (x ∷ l) e)
          ∙ first_of_order stored x l (subst (Asc stored) e (asc_change (level_of s) stored s.ready level_there a)) low
          ∙ sym (level_there x there)

-- what is found on a record: the first ready task's level, and none exactly where nobody is ready
pub record FirstLevel (k : State) : Type 0 where
  pub found : 0 < k.ready.n → first_marked (marks_in k.tasks.level (items k.ready)) ≡ key_of k.tasks.level (first_id k.ready)
  pub nobody : k.ready.n ≡ 0 → marks_in k.tasks.level (items k.ready) ≡ 0
  pub only_nobody : marks_in k.tasks.level (items k.ready) ≡ 0 → k.ready.n ≡ 0

first_level_pack : (o : List ℕ) (s : Model) → Inv s → FirstLevel (pack o s)
unfolding pack task_list_of pad
first_level_pack o s I = go s.ready refl
  where
    go : (l : List ℕ) → s.ready ≡ l → FirstLevel (pack o s)
    go [] e = record { found = λ h. absurd (omega (arith, ap length e)); nobody = λ z. nobody_marked o s e; only_nobody = λ z. ap length e }
    go (x ∷ l) e = record {
      found = λ h. first_ready_level o s I.facts I.places x l e I.ascending ∙ sym (level_pack s o x)
          ∙ ap (λ (q : List ℕ). key_of (pack o s).tasks.level (first_id (task_list_of q))) (sym e);
      nobody = λ z. absurd (omega (arith, ap length e));
      only_nobody = λ z. absurd (some_level_marked o s I.facts I.places x l e z);
    }

pub first_level_sound : (h : Whole) → Typed h.state → sound_of h ≡ true → FirstLevel h.state
first_level_sound h T sound = subst FirstLevel (sound_pack h sound T) (first_level_pack (oldest_in h.state.queues) (view h) (sound_view h sound))
