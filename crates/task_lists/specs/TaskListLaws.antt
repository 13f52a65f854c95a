-- Laws of lists: what each operation makes of a list in which a list stands.
use Rattle.std.specs.Prelude.{◌≡◌, Bool, true, false, cond, ltb, leb, eqb, get_or, set}
use Rattle.std.proofs.Math.Path.{refl}
use Rattle.std.proofs.Common.{ap, sym, ◌∙◌, inl, inr, arith, add-one, length-append, length-set, take-append-drop, length-take, length-drop, get_or-set_same, get_or-set_other, get_or-append-add, get_or-drop, ext_get_or, length-take-le, ltb-true, eqb-true, lt-ltb, le-ltb, eq-eqb}
use mathlib.Core.List.{List, [], ◌∷◌, ◌++◌}
use Prim.Native.Nat.{ℕ, suc, ◌+◌, ◌-◌, ◌%◌, ◌≤◌, ◌<◌}
use Rattle.std.proofs.Math.Decide.{ℕ_discrete, dec_lt}
use Rattle.std.proofs.Math.ListN.{length, take, drop, replicate}
use Rattle.std.proofs.lemmas.List.{length-replicate, get_or-replicate, take-append-le}
use Rattle.std.proofs.Math.Seq.{take_at, drop-append-le, drop-append-add, get_or-take}
use Rattle.lists.specs.Test.{◌and◌, ◌or◌, allb}
use Rattle.lists.specs.Count.{occ}
use Rattle.lists.specs.Order.{keep, range, place, insert_tail, insert_head, insert_all, inside}
use Rattle.lists.specs.Table.{pad}
use Rattle.lists.specs.TestLaws.{which, by_test, and_l, and_r, true_and, same_test, or_true, or_l, or_r, all_true, true_all}
use Rattle.lists.specs.CountLaws.{eqn_at, eqn_other}
use Rattle.lists.specs.OrderLaws.{take_range, inside_places}
use Rattle.lists.specs.TableLaws.{pad_snoc, get_d_filled}
use Rattle.task_lists.specs.TaskList.{places, no_id, items, task_list_of, rest_empty, used_at, used_places, id_fits, id_fits_at, key_of, pushed, place_of, inserted_at, inserted, kept, inserted_flagged, every_id, counted}
use Rattle.task_lists.specs.declared.TaskList.{TaskList}

-- two lists are equal where their parts are
pub same_list : (q r : TaskList) → q.ids ≡ r.ids → q.n ≡ r.n → q ≡ r
same_list q r e f = ap (λ (a : List ℕ). list a q.n) e ∙ ap (list r.ids) f
  where
    list : List ℕ → ℕ → TaskList
    list a m = record { ids = a; n = m }

-- one more than before
pub length_open : (l : List ℕ) (p x : ℕ) → length (take p l ++ (x ∷ drop p l)) ≡ suc (length l)
length_open l p x = omega (arith, length-append (take p l) (x ∷ drop p l), length-take p l, length-drop p l)

-- tables of N places of which the first hold a list
module _ (N d : ℕ) where
  -- x at place p, and what stood there and behind it one place on
  pub pad_open : (l : List ℕ) (p x : ℕ) → length l < N → p ≤ length l
      → (take p (pad N d l) ++ (x ∷ take (length l - p) (drop p (pad N d l)))) ++ drop (length l + 1) (pad N d l) ≡ pad N d (take p l ++ (x ∷ drop p l))
  unfolding pad
  pad_open l p x h k =
      let t : take (length l - p) (drop p l ++ rest) ≡ drop p l = take_at (drop p l) rest (length l - p) (length-drop p l) in
      rw (take-append-le p l rest k, drop-append-le p l rest k, t, drop-append-add l rest 1, length_open l p x, less)
    where
      rest : List ℕ
      rest = replicate (N - length l) d

      less : drop 1 rest ≡ replicate (N - suc (length l)) d
      less = rw e refl
        where
          e : N - length l ≡ suc (N - suc (length l))
          e = omega arith

-- the place at which x goes in is in the list or behind all
pub place_within : (keys : List ℕ) (t : ℕ) (l : List ℕ) → place_of keys t l ≤ length l
unfolding place_of
place_within keys t [] = omega arith
place_within keys t (y ∷ l) = by_test (λ (p : ℕ). p ≤ suc (length l)) (leb t (key_of keys y)) (λ e. omega arith) (λ e. omega (arith, place_within keys t l))

-- x goes in at its place
pub place_at_lem : (keys : List ℕ) (t x : ℕ) (l : List ℕ) → place (λ y. leb t (key_of keys y)) x l ≡ take (place_of keys t l) l ++ (x ∷ drop (place_of keys t l) l)
unfolding place place_of
place_at_lem keys t x [] = refl
place_at_lem keys t x (y ∷ l) = elim (which (leb t (key_of keys y))) [ inl e ↦ rw e refl | inr e ↦ rw e (ap (y ∷◌) (place_at_lem keys t x l)) ]

pub length_place : (p : ℕ → Bool) (x : ℕ) (l : List ℕ) → length (place p x l) ≡ suc (length l)
unfolding place
length_place p x [] = refl
length_place p x (y ∷ l) = by_test (λ (s : List ℕ). length s ≡ suc (suc (length l))) (p y) (λ e. refl) (λ e. ap suc (length_place p x l))

-- who stands in the list in which l stands
pub items_task_list_of : (l : List ℕ) → items (task_list_of l) ≡ l
unfolding task_list_of pad
items_task_list_of l = take_at l _ (length l) refl

pub push_task_list_of : (l : List ℕ) (x : ℕ) → length l < places → pushed (task_list_of l) x ≡ task_list_of (l ++ (x ∷ []))
unfolding task_list_of pushed
push_task_list_of l x h = rw (lt-ltb (length l) places h) (same_list _ _ (pad_snoc places no_id l x h) (sym (length-append l (x ∷ []))))

-- x at place p
pub open_task_list_of : (l : List ℕ) (p x : ℕ) → length l < places → p ≤ length l
    → inserted_at (task_list_of l) p x ≡ task_list_of (take p l ++ (x ∷ drop p l))
unfolding task_list_of inserted_at
open_task_list_of l p x h k = rw (lt-ltb (length l) places h) (same_list _ _ (pad_open places no_id l p x h k) (omega (arith, length_open l p x)))

pub insert_task_list_of : (keys : List ℕ) (t x : ℕ) (l : List ℕ) → length l < places
    → inserted (task_list_of l) keys t x ≡ task_list_of (place (λ y. leb t (key_of keys y)) x l)
unfolding inserted
insert_task_list_of keys t x l h = rw (items_task_list_of l, place_at_lem keys t x l) (open_task_list_of l (place_of keys t l) x h (place_within keys t l))

-- the tail and the head of a key's run
pub tail_task_list_of : (keys : List ℕ) (x : ℕ) (l : List ℕ) → length l < places
    → inserted (task_list_of l) keys (key_of keys x + 1) x ≡ task_list_of (insert_tail (key_of keys) x l)
unfolding insert_tail
tail_task_list_of keys x l h = insert_task_list_of keys (key_of keys x + 1) x l h ∙ rw add-one refl

pub head_task_list_of : (keys : List ℕ) (x : ℕ) (l : List ℕ) → length l < places
    → inserted (task_list_of l) keys (key_of keys x) x ≡ task_list_of (insert_head (key_of keys) x l)
unfolding insert_head
head_task_list_of keys x l h = insert_task_list_of keys (key_of keys x) x l h

length_tail : (f : ℕ → ℕ) (x : ℕ) (l : List ℕ) → length (insert_tail f x l) ≡ suc (length l)
unfolding insert_tail
length_tail f x l = length_place (λ y. ltb (f x) (f y)) x l

pub length_insert_all : (f : ℕ → ℕ) (xs l : List ℕ) → length (insert_all f xs l) ≡ length xs + length l
unfolding insert_all
length_insert_all f [] l = omega arith
length_insert_all f (x ∷ xs) l = omega (arith, length_insert_all f xs (insert_tail f x l), length_tail f x l)

-- those of an order that are flagged, in that order, each at the tail of its key's run
pub flagged_task_list_of : (keys flags order : List ℕ) (l : List ℕ) → length l + length (keep (λ i. eqb (key_of flags i) 1) order) ≤ places
    → inserted_flagged (task_list_of l) keys flags order ≡ task_list_of (insert_all (key_of keys) (keep (λ i. eqb (key_of flags i) 1) order) l)
unfolding inserted_flagged keep insert_all
flagged_task_list_of keys flags [] l h = refl
flagged_task_list_of keys flags (x ∷ order) l h = elim (which (eqb (key_of flags x) 1)) [
  | inl e ↦ (let g = rw e at h in
      rw e (ap (λ (q : TaskList). inserted_flagged q keys flags order) (tail_task_list_of keys x l (omega arith))
      ∙ flagged_task_list_of keys flags order (insert_tail (key_of keys) x l) (omega (arith, g, length_tail (key_of keys) x l))))
  | inr e ↦ (let g = rw e at h in rw e (flagged_task_list_of keys flags order l g))
]

-- every id of so many tasks is by number
pub every_id_lem : (n : ℕ) → n ≤ places → items (every_id n) ≡ range n
every_id_lem n h = take_range places n h

-- those whose number is v
pub kept_task_list_of : (flags : List ℕ) (v : ℕ) (l : List ℕ) → kept (task_list_of l) flags v ≡ task_list_of (keep (λ y. eqb (key_of flags y) v) l)
unfolding kept
kept_task_list_of flags v l = rw (items_task_list_of l) refl

-- how often each stands there is added to its count
pub length_counted : (c l : List ℕ) → length (counted c l) ≡ length c
unfolding counted
length_counted c [] = refl
length_counted c (y ∷ l) = length_counted (set c y ((key_of c y + 1) % 256)) l ∙ length-set c y _

pub get_d_counted : (c l : List ℕ) (i : ℕ) → i < length c → get_or c i 0 < 256 → get_or (counted c l) i 0 ≡ (get_or c i 0 + occ i l) % 256
unfolding counted occ
get_d_counted c [] i h k = omega arith
get_d_counted c (y ∷ l) i h k = elim (ℕ_discrete y i) [
  | yes e ↦ (let g : get_or d i 0 ≡ (get_or c i 0 + 1) % 256 = rw e (get_or-set_same c i _ 0 h) in
      omega (arith, get_d_counted d l i (omega (arith, m)) (omega arith), eqn_at y i e))
  | no e ↦ (let g : get_or d i 0 ≡ get_or c i 0 = get_or-set_other c y i _ 0 (λ q. e (sym q)) in
      omega (arith, get_d_counted d l i (omega (arith, m)) (omega arith), eqn_other y i e))
]
  where
    d : List ℕ
    d = set c y ((get_or c y 0 + 1) % 256)

    m : length d ≡ length c
    m = length-set c y _

-- a list whose unused places are empty is the list in which its items stand
pub list_of_items : (q : TaskList) → q.n ≤ places → length q.ids ≡ places → rest_empty q ≡ true → q ≡ task_list_of (items q)
unfolding task_list_of pad
list_of_items q h k e = same_list _ _ (sym (rw (used, ← rest) (take-append-drop q.n q.ids))) (sym used)
  where
    used : length (items q) ≡ q.n
    used = length-take-le q.n q.ids (omega arith)

    empty : (i : ℕ) → q.n ≤ i → i < places → get_or q.ids i 0 ≡ no_id
    empty i u v = elim (or_true _ _ (all_true places (λ j. ltb j q.n or eqb (get_or q.ids j 0) no_id) e i v)) [
      | inl f ↦ absurd (omega (arith, ltb-true i q.n f))
      | inr f ↦ eqb-true (get_or q.ids i 0) no_id f
    ]

    size : length (drop q.n q.ids) ≡ places - q.n
    size = omega (arith, length-drop q.n q.ids)

    rest : drop q.n q.ids ≡ replicate (places - q.n) no_id
    rest = ext_get_or 0 _ _ (size ∙ sym (length-replicate (places - q.n) no_id)) (λ i v.
        get_or-drop q.n q.ids i 0 ∙ empty (q.n + i) (omega arith) (omega (arith, size)) ∙ sym (get_or-replicate (places - q.n) i no_id 0 (omega (arith, size))))

-- the unused places of the list in which l stands are empty
pub rest_task_list_of : (l : List ℕ) → rest_empty (task_list_of l) ≡ true
unfolding task_list_of pad
rest_task_list_of l = true_all places _ (λ i h. elim (dec_lt i (length l)) [
  | yes u ↦ or_l _ _ (lt-ltb i (length l) u)
  | no u ↦ or_r _ _ (eq-eqb _ no_id (behind i (omega arith) h))
])
  where
    behind : (i : ℕ) → length l ≤ i → i < places → get_or (l ++ replicate (places - length l) no_id) i 0 ≡ no_id
    behind i u h = let e : i ≡ length l + (i - length l) = omega arith in
        rw e (get_or-append-add l (replicate (places - length l) no_id) (i - length l) 0 ∙ get_or-replicate (places - length l) (i - length l) no_id 0 (omega arith))

-- one place of a list whose ids are tested
module _ (q : TaskList) (tasks i : ℕ) where
  id_used : i < q.n → id_fits_at q.ids q.n tasks i ≡ ltb (get_or (items q) i 0) tasks
  unfolding id_fits
  id_used h = rw (lt-ltb i q.n h, get_or-take q.n q.ids i 0 h) refl

  id_unused : q.n ≤ i → id_fits_at q.ids q.n tasks i ≡ eqb (get_or q.ids i 0) no_id
  unfolding id_fits
  id_unused h = rw (le-ltb i q.n h) refl

-- ids of tasks in the used places and none in the others
pub ids_fit : (q : TaskList) (tasks : ℕ) → q.n ≤ places → length q.ids ≡ places
    → allb places (id_fits_at q.ids q.n tasks) ≡ inside tasks (items q) and rest_empty q
ids_fit q tasks h k = rw (inside_places tasks (items q), size) (same_test _ _
    (λ e. true_and _ _
    (true_all q.n _ (λ i u. sym (id_used q tasks i u) ∙ all_true places _ e i (omega arith)))
    (true_all places _ (λ i l. elim (dec_lt i q.n) [
      | yes u ↦ or_l _ _ (lt-ltb i q.n u)
      | no u ↦ or_r _ _ (sym (id_unused q tasks i (omega arith)) ∙ all_true places _ e i l)
    ])))
    (λ e. true_all places _ (λ i l. elim (dec_lt i q.n) [
      | yes u ↦ id_used q tasks i u ∙ all_true q.n _ (and_l _ _ e) i u
      | no u ↦ id_unused q tasks i (omega arith) ∙ empty (and_r _ _ e) i (omega arith) l
    ])))
  where
    size : length (items q) ≡ q.n
    size = length-take-le q.n q.ids (omega arith)

    empty : rest_empty q ≡ true → (i : ℕ) → q.n ≤ i → i < places → eqb (get_or q.ids i 0) no_id ≡ true
    empty e i u l = elim (or_true _ _ (all_true places (λ j. ltb j q.n or eqb (get_or q.ids j 0) no_id) e i l)) [
      | inl v ↦ absurd (omega (arith, ltb-true i q.n v))
      | inr v ↦ v
    ]

-- a flag of the used places tells whether the place is used
pub used_flag : (n i : ℕ) → i < places → eqb (get_or (used_places n) i 0) 1 ≡ ltb i n
unfolding used_places
used_flag n i h = rw (get_d_filled places (used_at n) 0 i h) (go (ltb i n))
  where
    go : (b : Bool) → eqb (cond b 1 0) 1 ≡ b
    go true = refl
    go false = refl
