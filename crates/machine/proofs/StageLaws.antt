-- Settling a packed state: what the code makes of levels and ready order is the packing of what the rules make.
use Rattle.std.specs.Prelude.{◌≡◌, refl, Bool, false, not, ℕ, zero, suc, ◌+◌, ◌≤◌, ◌<◌, ltb, replicate}
use Rattle.std.proofs.Math.Path.{ap, sym, fun_ext}
use Rattle.std.proofs.Common.{◌∙◌, inl, inr}
use mathlib.Core.List.{List, [], ◌∷◌}
use native.Mathlib.Omega.{arith}
use Rattle.std.proofs.Math.Decide.{ℕ_discrete, dec_lt}
use Rattle.std.proofs.Math.Dec.{eqb}
use Rattle.std.proofs.Math.ListN.{length, get_or-eq_default}
use Rattle.std.proofs.lemmas.List.{get_or-replicate}
use borrow.Author.Tests.{not-false, eqb-true, eq-eqb, ne_eqb}
use Rattle.lists.specs.Test.{◌and◌}
use Rattle.lists.specs.Count.{occ, member, below}
use Rattle.lists.specs.Order.{keep, by_id, insert_tail, insert_all, Asc}
use Rattle.lists.specs.Table.{pad, filled}
use Rattle.lists.specs.TestLaws.{which, by_test}
use Rattle.lists.specs.CountLaws.{in_below, below_le, pigeonhole}
use Rattle.lists.specs.OrderLaws.{asc_change, keep_ext, by_id_ext}
use Rattle.lists.specs.TableLaws.{length_filled, get_d_filled}
use Rattle.rules.specs.Sizes.{task_places}
use Rattle.rules.specs.Tables.{task_count}
use Rattle.rules.specs.Levels.{level_in}
use Rattle.rules.specs.Settle.{settled_ready, settle}
use Rattle.rules.specs.Invariant.{Facts, Places}
use Rattle.rules.proofs.SettleLaws.{occ_settled, settled_woken, settled_moved, settled_same}
use Rattle.task_lists.specs.TaskList.{items, task_list_of, key_of, inserted_flagged, every_id, counted}
use Rattle.task_lists.specs.TaskListLaws.{items_task_list_of, tail_task_list_of, length_insert_all, flagged_task_list_of, every_id_lem, kept_task_list_of, get_d_counted}
use Rattle.record.specs.Record.{pack_tasks, pack}
use Rattle.record.specs.Setters.{put_tasks, put_ready, put_level}
use Rattle.machine.specs.Machine.{differs, differ_flag, both_ones, both_flag, any_flag, moved_of, reordered, resettled, order_of, settled, entered, all_entered}
use Rattle.record.specs.PackLaws.{level_column, pack_with}
use Rattle.machine.proofs.FlagLaws.{no_flag}
use Rattle.record.specs.ReadLaws.{level_out, key_level, key_levels, length_levels, new_levels_lem}
use Rattle.record.specs.declared.State.{State}  -- keep
use Rattle.rules.specs.State.{State as Model, level_of}  -- keep

-- flags
differ_0 : (x y : ℕ) → eqb (differs x y) 0 ≡ eqb y x
unfolding differs
differ_0 x y = elim (ℕ_discrete x y) [
  | yes e ↦ rw (eq-eqb x y e, eq-eqb y x (sym e)) refl
  | no e ↦ rw (ne_eqb x y e, ne_eqb y x (λ q. e (sym q))) refl
]

differ_1 : (x y : ℕ) → eqb (differs x y) 1 ≡ not (eqb y x)
unfolding differs
differ_1 x y = elim (ℕ_discrete x y) [
  | yes e ↦ rw (eq-eqb x y e, eq-eqb y x (sym e)) refl
  | no e ↦ rw (ne_eqb x y e, ne_eqb y x (λ q. e (sym q))) refl
]

both_1 : (x y : ℕ) → eqb (both_ones x y) 1 ≡ eqb x 1 and eqb y 1
unfolding both_ones ◌and◌
both_1 x y = elim (which (eqb x 1)) [
  | inl e ↦ rw e (elim (which (eqb y 1)) [ inl f ↦ rw f refl | inr f ↦ rw f refl ])
  | inr e ↦ rw e refl
]

once_1 : (x : ℕ) → x ≤ 1 → eqb x 1 ≡ ltb 0 x
once_1 zero h = refl
once_1 (suc zero) h = refl
once_1 (suc (suc x)) h = absurd (omega arith)

-- the settled order has no more than the tasks
settled_fits : (n : ℕ) (old new : ℕ → ℕ) (ready woken : List ℕ) → ((i : ℕ) → occ i woken + occ i ready ≤ below i n) → length (settled_ready n old new ready woken) ≤ n
settled_fits n old new ready woken fits = pigeonhole n (settled_ready n old new ready woken) (λ y. omega (arith, total y, below_le y n)) (λ y m. in_below y n (omega (arith, total y)))
  where
    total : (y : ℕ) → occ y (settled_ready n old new ready woken) ≤ below y n
    total y = omega (arith, fits y, occ_settled n old new ready woken y (omega (arith, fits y)))

-- what the code makes of the ready order is the settled order, before those that became ready enter
module _ (n : ℕ) (old new ready : List ℕ) (few : n ≤ task_places) (lo : length old ≡ task_places) (ln : length new ≡ task_places)
    (fits : (i : ℕ) → occ i ready ≤ below i n) (asc : Asc (key_of old) ready) where
  changes : List ℕ
  changes = filled task_places (differ_flag old new)

  same : ℕ → Bool
  same i = eqb (key_of new i) (key_of old i)

  stayed : List ℕ
  stayed = keep same ready

  moved : List ℕ
  moved = by_id n (λ i. not (same i) and member i ready)

  order : List ℕ
  order = settled_ready n (key_of old) (key_of new) ready []

  changes_at : (i : ℕ) → key_of changes i ≡ differs (key_of old i) (key_of new i)
  unfolding changes differs
  changes_at i = elim (dec_lt i task_places) [
    | yes h ↦ get_d_filled task_places (differ_flag old new) 0 i h
    | no h ↦ (
        let b : length old ≤ i = omega arith in
        let c : length new ≤ i = omega arith in
        let d : length (filled task_places (differ_flag old new)) ≤ i = omega (arith, length_filled task_places (differ_flag old new)) in
        get_or-eq_default (filled task_places (differ_flag old new)) 0 d ∙ sym (rw (get_or-eq_default old 0 b, get_or-eq_default new 0 c) refl)
        )
  ]

  stayed_is : keep (λ y. eqb (key_of changes y) 0) ready ≡ stayed
  unfolding stayed same
  stayed_is = keep_ext _ _ ready (λ y m. rw (changes_at y) (differ_0 (key_of old y) (key_of new y)))

  counted_at : (i : ℕ) → i < task_places → eqb (key_of (counted (replicate task_places 0) ready) i) 1 ≡ member i ready
  counted_at i h = rw e (once_1 (occ i ready) (omega (arith, fits i, below_le i n)))
    where
      empty : key_of (replicate task_places 0) i ≡ 0
      empty = get_or-replicate task_places i 0 0 h

      e : key_of (counted (replicate task_places 0) ready) i ≡ occ i ready
      e = get_d_counted (replicate task_places 0) ready i h (omega (arith, empty)) ∙ omega (arith, empty, fits i, below_le i n)

  moved_is : keep (λ i. eqb (key_of (moved_of (task_list_of ready) changes) i) 1) (items (every_id n)) ≡ moved
  unfolding moved same moved_of by_id
  moved_is = ap (keep (λ i. eqb (key_of (moved_of (task_list_of ready) changes) i) 1)) (every_id_lem n few) ∙ by_id_ext n _ _ (λ i h.
      let q : i < task_places = omega arith in
      rw (
        items_task_list_of ready,
        get_d_filled task_places (both_flag changes (counted (replicate task_places 0) ready)) 0 i q,
        both_1 (key_of changes i) (key_of (counted (replicate task_places 0) ready) i),
        changes_at i,
        differ_1 (key_of old i) (key_of new i),
        counted_at i q,
      ) refl)

  order_is : order ≡ insert_all (key_of new) moved stayed
  unfolding order moved stayed same
  order_is = settled_moved n (key_of old) (key_of new) ready asc

  sizes : length moved + length stayed ≤ task_places
  unfolding order occ
  sizes = omega (arith, settled_fits n (key_of old) (key_of new) ready [] (λ i. omega (arith, fits i)), ap length order_is, length_insert_all (key_of new) moved stayed)

  reordered_list : reordered (task_list_of ready) changes new n ≡ task_list_of order
  reordered_list =
      rw (kept_task_list_of changes 0 ready, stayed_is)
      (flagged_task_list_of new (moved_of (task_list_of ready) changes) (items (every_id n)) stayed (omega (arith, sizes, ap length moved_is))
      ∙ ap task_list_of (rw moved_is (sym order_is)))

  -- where no level changed, everyone stays
  unchanged : any_flag changes ≡ false → (i : ℕ) → key_of new i ≡ key_of old i
  unfolding same changes
  unchanged none i = eqb-true (key_of new i) (key_of old i)
      (not-false _ (sym (differ_1 (key_of old i) (key_of new i)) ∙ ap (λ z. eqb z 1) (sym (changes_at i)) ∙ no_flag changes (length_filled task_places (differ_flag old new)) none i))

  resettled_list : resettled (task_list_of ready) old new n ≡ task_list_of (settled_ready n (key_of old) (key_of new) ready [])
  unfolding resettled changes order
  resettled_list = by_test (λ q. q ≡ task_list_of order) (any_flag changes) (λ e. reordered_list)
      (λ e. ap task_list_of (sym (settled_same n (key_of old) (key_of new) ready (λ i m. unchanged e i) asc)))

-- levels that the first tasks keep are kept
module _ (o : List ℕ) (before s : Model) (same_tasks : task_count s.tables ≡ task_count before.tables) (same_levels : (i : ℕ) → i < task_count s.tables → level_in s.tables i ≡ level_of before i) where
  pub levels_kept : level_of before ≡ level_of s
  levels_kept = fun_ext (λ i. elim (dec_lt i (task_count s.tables)) [
    | yes h ↦ sym (same_levels i h)
    | no h ↦ level_out before.tables i (omega arith) ∙ sym (level_out s.tables i (omega arith))
  ])

  pub column_kept : level_column before.tables ≡ level_column s.tables
  unfolding level_column
  column_kept = ap (λ n. pad task_places 0 (filled n (level_of before))) (sym same_tasks) ∙ ap (λ f. pad task_places 0 (filled (task_count s.tables) f)) levels_kept

-- a packed state whose levels are still those of the state before, where nobody became ready and no level changed
pub unchanged_pack : (o : List ℕ) (before s : Model) → task_count s.tables ≡ task_count before.tables → Asc (level_of before) s.ready
    → ((i : ℕ) → i < task_count s.tables → level_in s.tables i ≡ level_of before i)
    → pack_with o (level_column before.tables) s ≡ pack o (settle (level_of before) s [])
unfolding pack_with pack pack_tasks level_column
unchanged_pack o before s e asc lv = ap (λ c. pack_with o c s) (column_kept o before s e lv) ∙ ap (λ l. put_ready (pack o s) (task_list_of l)) (sym still)
  where
    still : settled_ready (task_count s.tables) (level_of before) (level_of s) s.ready [] ≡ s.ready
    still = settled_same (task_count s.tables) (level_of before) (level_of s) s.ready (λ i m. ap (λ f. f i) (sym (levels_kept o before s e lv))) asc

-- settling such a state, before those that became ready enter
module _ (o : List ℕ) (before s : Model) (F : Facts s.tables) (same_tasks : task_count s.tables ≡ task_count before.tables)
    (fits : (i : ℕ) → occ i s.ready ≤ below i (task_count s.tables)) (asc : Asc (level_of before) s.ready) where
  settled_list : resettled (task_list_of s.ready) (level_column before.tables) (level_column s.tables) (task_count s.tables)
      ≡ task_list_of (settled_ready (task_count s.tables) (level_of before) (level_of s) s.ready [])
  settled_list =
      resettled_list (task_count s.tables) (level_column before.tables) (level_column s.tables) s.ready F.few_tasks
      (length_levels before.tables (omega (arith, F.few_tasks))) (length_levels s.tables F.few_tasks) fits
      (asc_change (level_of before) (key_of (level_column before.tables)) s.ready (λ y m. sym (key_level before.tables y)) asc)
      ∙ ap (λ f. task_list_of (settled_ready (task_count s.tables) f (key_of (level_column s.tables)) s.ready [])) (key_levels before.tables)
      ∙ ap (λ f. task_list_of (settled_ready (task_count s.tables) (level_of before) f s.ready [])) (key_levels s.tables)

  pub settle_pack : settled (pack_with o (level_column before.tables) s) ≡ pack o (settle (level_of before) s [])
  unfolding settled order_of pack_with pack pack_tasks level_column
  settle_pack = ap made (new_levels_lem s F o (level_column before.tables)) ∙ ap (λ q. put_ready (pack o s) q) settled_list
    where
      k : State
      k = pack_with o (level_column before.tables) s

      made : List ℕ → State
      made new = put_ready (put_tasks k (put_level k.tasks new)) (resettled k.ready k.tasks.level new k.tasks.n)

-- those that became ready enter a settled state, in the order of their waits
module _ (o : List ℕ) (before s : Model) (woken : List ℕ) (F : Facts s.tables) (P : Places s woken) where
  abbrev others : List ℕ
  others = settled_ready (task_count s.tables) (level_of before) (level_of s) s.ready []

  abbrev whole : List ℕ
  whole = settled_ready (task_count s.tables) (level_of before) (level_of s) s.ready woken

  behind : whole ≡ insert_all (level_of s) woken others
  behind = settled_woken (task_count s.tables) (level_of before) (level_of s) s.ready woken

  room : length others + length woken ≤ task_places
  room = omega (
    arith,
    F.few_tasks,
    settled_fits (task_count s.tables) (level_of before) (level_of s) s.ready woken (λ i. omega (arith, P i)),
    ap length behind,
    length_insert_all (level_of s) woken others,
  )

  pub all_entered_lem : (order flags : List ℕ) → keep (λ i. eqb (key_of flags i) 1) order ≡ woken
      → all_entered (pack o (settle (level_of before) s [])) (task_list_of order) flags ≡ pack o (settle (level_of before) s woken)
  unfolding all_entered pack pack_tasks level_column
  all_entered_lem order flags e = ap (λ q. put_ready (pack o s) q) (
      ap (inserted_flagged (task_list_of others) (level_column s.tables) flags) (items_task_list_of order)
      ∙ flagged_task_list_of (level_column s.tables) flags order others (omega (arith, room, ap length e))
      ∙ ap (λ l. task_list_of (insert_all (key_of (level_column s.tables)) l others)) e
      ∙ ap (λ f. task_list_of (insert_all f woken others)) (key_levels s.tables)
      ∙ ap task_list_of (sym behind))

  pub one_entered : (w : ℕ) → woken ≡ w ∷ [] → entered (pack o (settle (level_of before) s [])) w ≡ pack o (settle (level_of before) s woken)
  unfolding entered pack pack_tasks level_column insert_all
  one_entered w e = ap (λ q. put_ready (pack o s) q) (
      tail_task_list_of (level_column s.tables) w others (omega (arith, room, ap length e))
      ∙ ap (λ f. task_list_of (insert_tail f w others)) (key_levels s.tables)
      ∙ ap task_list_of (sym (behind ∙ ap (λ l. insert_all (level_of s) l others) e)))
