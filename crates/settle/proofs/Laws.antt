-- A list moved one place down, place by place.
use mathlib.Core.Path.{◌≡◌, refl, ap, sym, ◌∙◌}
use mathlib.Core.List.{List, ◌++◌}
use Prim.Native.Nat.{ℕ, zero, suc, ◌+◌, ◌-◌, ◌<◌}
use native.Mathlib.Omega.{arith}
use lib.ListN.{length, get_or, drop, replicate, length-take, length-drop}
use lib.Seq.{get_or-drop, get_or-take}
use Rattle.lists.specs.Table.{pad, filled}
use Rattle.lists.specs.FillLaws.{so_far}
use Rattle.lists.specs.TableLaws.{filled_is}
use Rattle.rules.specs.Sizes.{task_places}
use Rattle.task_lists.specs.TaskList.{no_id, items, task_list_of}
use Rattle.task_lists.specs.declared.TaskList.{TaskList}

-- who stands one place on
abbrev pub one_on : List ℕ → ℕ → ℕ
one_on ids i = get_or ids (i + 1) 0

drop_same : (k n d : ℕ) → drop k (replicate n d) ≡ replicate (n - k) d
drop_same zero n d = let e : n - 0 ≡ n = omega arith in rw e refl
drop_same (suc k) zero d = let e : 0 - suc k ≡ 0 = omega arith in rw e refl
drop_same (suc k) (suc n) d = let e : suc n - suc k ≡ n - k = omega arith in drop_same k n d ∙ rw e refl

module _ (q : TaskList) (i : ℕ) (all : i + 1 ≡ length (items q)) where
  pub shift_size : i ≡ length (drop 1 (items q))
  shift_size = omega (arith, length-drop 1 (items q))

  pub shift_done : (f : List ℕ) → f ≡ so_far task_places (one_on q.ids) no_id i → f ≡ (task_list_of (drop 1 (items q))).ids
  unfolding task_list_of pad
  shift_done f e = e ∙ ap (λ (l : List ℕ). l ++ drop i (replicate task_places no_id)) moved ∙ ap (drop 1 (items q) ++◌) (drop_same i task_places no_id ∙ ap (λ (k : ℕ). replicate (task_places - k) no_id) shift_size)
    where
      one : (j : ℕ) → j < i → one_on q.ids j ≡ get_or (drop 1 (items q)) j 0
      one j h =
          let s : j + 1 ≡ 1 + j = omega arith in
          rw s (sym (get_or-drop 1 (items q) j 0 ∙ get_or-take q.n q.ids (1 + j) 0 (omega (arith, length-take q.n q.ids))))

      moved : filled i (one_on q.ids) ≡ drop 1 (items q)
      moved = filled_is i (one_on q.ids) 0 (drop 1 (items q)) (sym shift_size) one
