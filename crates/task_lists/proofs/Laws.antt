-- One turn and the end of each loop that changes a list or looks for a task in it.
use mathlib.Core.Path.{◌≡◌, refl, ap, sym, ◌∙◌}
use mathlib.Core.List.{List, [], ◌∷◌, ◌++◌, append-nil}
use mathlib.Core.Bool.{Bool, true, false, cond}
use mathlib.Core.Option.{none, some}
use Prim.Native.Nat.{ℕ, zero, suc, ◌+◌, ◌-◌, ◌≤◌, ◌<◌}
use native.Mathlib.Omega.{arith}
use native.Mathlib.Numerals.{add-one}
use borrow.Author.Tests.{le-leb, lt-leb, lt-ltb, eq-eqb, ne_eqb}
use lib.Dec.{leb, eqb}
use lib.ListN.{length, get_or, set, take, drop, length-take, replicate}
use lib.Seq.{set_split}
use Rattle.std.specs.List.{copy_within}
use Rattle.std.proofs.Common.{length-take-le, length-append, append_assoc, drop_at}
use Rattle.std.proofs.lemmas.List.{take-append-le, take-take}
use Rattle.lists.specs.TestLaws.{by_test}
use Rattle.lists.specs.Table.{pad, filled}
use Rattle.lists.specs.Order.{keep, range, first_at, first_from, or_else}
use Rattle.lists.specs.OrderLaws.{keep_append}
use Rattle.rules.specs.Sizes.{levels}
use Rattle.task_lists.specs.TaskList.{places, no_id, items, task_list_of, key_of, pushed, place_of, opened, id_of, tailed, inserted_if, inserted_flagged, waits_for, best_of}
use Rattle.task_lists.specs.TaskListLaws.{items_task_list_of, push_task_list_of}
use Rattle.task_lists.specs.declared.TaskList.{TaskList}
use Rattle.task_lists.specs.ItemLaws.{items_step, items_end, items_take, items_few}

-- what stood from place p on moved one place on, and v put there
pub open_shift : (a : List ℕ) (p n v : ℕ) → p ≤ n → n < length a → set (copy_within a p n (p + 1)) p v ≡ opened a n p v
open_shift a p n v h k =
    let m : p + 1 + (n - p) ≡ n + 1 = omega arith in
    let l : length (take (p + 1) a) ≡ p + 1 = length-take-le (p + 1) a (omega arith) in
    let s : List ℕ = take (p + 1) a ++ take (n - p) (drop p a) ++ drop (n + 1) a in
    let x : List ℕ = take (n - p) (drop p a) in
    let r : length (take (p + 1) a ++ x) ≡ p + 1 + length x = length-append (take (p + 1) a) x ∙ ap (λ (i : ℕ). i + length x) l in
    let front : take p s ≡ take p a =
    take-append-le p (take (p + 1) a ++ x) (drop (n + 1) a) (omega (arith, r))
    ∙ take-append-le p (take (p + 1) a) x (omega (arith, l))
    ∙ take-take p (p + 1) a (omega arith) in
    let back : drop (suc p) s ≡ x ++ drop (n + 1) a =
    ap (drop (suc p)) (append_assoc (take (p + 1) a) x (drop (n + 1) a)) ∙ drop_at (take (p + 1) a) (x ++ drop (n + 1) a) (suc p) (omega (arith, l)) in
    rw m (set_split s p v (omega (arith, r, length-append (take (p + 1) a ++ x) (drop (n + 1) a))) ∙ rw (front, back) (sym (append_assoc (take p a) (v ∷ x) (drop (n + 1) a))))

module _ (q : TaskList) where
  -- the place of the first whose key is at least t
  place_step : (keys : List ℕ) (t i : ℕ) → i < length (items q)
      → place_of keys t (drop i (items q)) ≡ cond (leb t (key_of keys (get_or q.ids i 0))) 0 (suc (place_of keys t (drop (i + 1) (items q))))
  unfolding place_of
  place_step keys t i h = rw (items_step q i h)

  pub place_hit : (keys : List ℕ) (t i : ℕ) → i < length (items q) → t ≤ key_of keys (get_or q.ids i 0) → place_of keys t (drop i (items q)) ≡ 0
  place_hit keys t i h k = rw (place_step keys t i h, le-leb _ _ k)

  pub place_miss : (keys : List ℕ) (t i : ℕ) → i < length (items q) → key_of keys (get_or q.ids i 0) < t
      → place_of keys t (drop i (items q)) ≡ suc (place_of keys t (drop (i + 1) (items q)))
  place_miss keys t i h k = rw (place_step keys t i h, lt-leb _ _ k)

  pub place_end : (keys : List ℕ) (t i : ℕ) → length (items q) ≤ i → place_of keys t (drop i (items q)) ≡ 0
  unfolding place_of
  place_end keys t i h = rw (items_end q i h)

  -- the first of key k
  first_step : (f : ℕ → ℕ) (k i : ℕ) → i < length (items q)
      → first_at f k (drop i (items q)) ≡ cond (eqb (f (get_or q.ids i 0)) k) (some (get_or q.ids i 0)) (first_at f k (drop (i + 1) (items q)))
  unfolding first_at
  first_step f k i h = rw (items_step q i h)

  pub first_hit : (f : ℕ → ℕ) (k i : ℕ) → i < length (items q) → f (get_or q.ids i 0) ≡ k → first_at f k (drop i (items q)) ≡ some (get_or q.ids i 0)
  first_hit f k i h e = first_step f k i h ∙ rw (eq-eqb _ _ e)

  pub first_miss : (f : ℕ → ℕ) (k i : ℕ) → i < length (items q) → (f (get_or q.ids i 0) ≡ k → ⊥)
      → first_at f k (drop i (items q)) ≡ first_at f k (drop (i + 1) (items q))
  first_miss f k i h e = first_step f k i h ∙ rw (ne_eqb _ _ e)

  pub first_end : (f : ℕ → ℕ) (k i : ℕ) → length (items q) ≤ i → first_at f k (drop i (items q)) ≡ none
  unfolding first_at
  first_end f k i h = rw (items_end q i h)

-- the levels from k on
from_step : (f : ℕ → ℕ) (k : ℕ) (l : List ℕ) → k < levels
    → first_from f (levels - k) k l ≡ or_else (first_at f k l) (first_from f (levels - (k + 1)) (k + 1) l)
unfolding first_from
from_step f k l h = let e : levels - k ≡ suc (levels - (k + 1)) = omega arith in rw (e, add-one)

pub from_hit : (f : ℕ → ℕ) (k x : ℕ) (l : List ℕ) → k < levels → first_at f k l ≡ some x → id_of (first_from f (levels - k) k l) ≡ x
unfolding or_else id_of
from_hit f k x l h e = rw (from_step f k l h, e)

pub from_miss : (f : ℕ → ℕ) (k : ℕ) (l : List ℕ) → k < levels → first_at f k l ≡ none
    → first_from f (levels - k) k l ≡ first_from f (levels - (k + 1)) (k + 1) l
unfolding or_else
from_miss f k l h e = rw (from_step f k l h, e)

pub from_end : (f : ℕ → ℕ) (k : ℕ) (l : List ℕ) → levels ≤ k → id_of (first_from f (levels - k) k l) ≡ no_id
unfolding first_from id_of
from_end f k l h = let e : levels - k ≡ 0 = omega arith in rw e

-- among none, no level has a first
from_nobody : (f : ℕ → ℕ) (n k : ℕ) → first_from f n k [] ≡ none
unfolding first_from first_at or_else
from_nobody f zero k = refl
from_nobody f (suc n) k = from_nobody f n (suc k)

pub nobody : (q : TaskList) (f : ℕ → ℕ) → length (items q) ≡ 0 → id_of (first_from f levels 0 (items q)) ≡ no_id
unfolding id_of
nobody q f e = rw (items_end q 0 (omega arith), from_nobody f levels 0)

-- the best of the waiters is the best waiter
pub best_of_lem : (q w : TaskList) (kinds objects keys : List ℕ) (kind object : ℕ) → w ≡ task_list_of (keep (waits_for kinds objects kind object) (items q))
    → id_of (first_from (key_of keys) levels 0 (items w)) ≡ best_of q kinds objects keys kind object
unfolding best_of
best_of_lem q w kinds objects keys kind object e = ap (λ (l : List ℕ). id_of (first_from (key_of keys) levels 0 l)) (ap items e ∙ items_task_list_of _)

-- one more of those that are kept
length_keep : (p : ℕ → Bool) (l : List ℕ) → length (keep p l) ≤ length l
unfolding keep
length_keep p [] = omega arith
length_keep p (x ∷ l) = by_test (λ (s : List ℕ). length s ≤ suc (length l)) (p x) (λ e. omega (arith, length_keep p l)) (λ e. omega (arith, length_keep p l))

pub keep_start : (q : TaskList) (p : ℕ → Bool) → record { ids = replicate places no_id; n = 0 } ≡ task_list_of (keep p (take 0 (items q)))
unfolding task_list_of pad keep
keep_start q p = refl

-- the ids written so far and their count are the list of those kept
module _ (q : TaskList) (p : ℕ → Bool) (i : ℕ) (ids : List ℕ) (k : ℕ) (s : record { ids = ids; n = k } ≡ task_list_of (keep p (take i (items q)))) where
  pub keep_room : k ≤ i
  unfolding task_list_of
  keep_room = let e : k ≡ length (keep p (take i (items q))) = ap (λ (r : TaskList). r.n) s in
      omega (arith, length_keep p (take i (items q)), length-take i (items q))

  split : i < length (items q) → keep p (take (i + 1) (items q)) ≡ keep p (take i (items q)) ++ keep p (get_or q.ids i 0 ∷ [])
  split h = ap (keep p) (items_take q i h) ∙ keep_append p (take i (items q)) (get_or q.ids i 0 ∷ [])

  pub keep_on : i < length (items q) → length q.ids ≡ places → p (get_or q.ids i 0) ≡ true
      → record { ids = set ids k (get_or q.ids i 0); n = k + 1 } ≡ task_list_of (keep p (take (i + 1) (items q)))
  unfolding keep pushed
  keep_on h g e =
      let few : k < places = omega (arith, keep_room, items_few q g) in
      let room : length (keep p (take i (items q))) < places = omega (arith, length_keep p (take i (items q)), length-take i (items q), items_few q g) in
      rw (lt-ltb k places few) at (ap (λ (r : TaskList). pushed r (get_or q.ids i 0)) s)
      ∙ push_task_list_of (keep p (take i (items q))) (get_or q.ids i 0) room
      ∙ ap task_list_of (sym (split h ∙ rw e))

  pub keep_off : i < length (items q) → p (get_or q.ids i 0) ≡ false → record { ids = ids; n = k } ≡ task_list_of (keep p (take (i + 1) (items q)))
  unfolding keep
  keep_off h e = s ∙ ap task_list_of (sym (split h ∙ rw (e, append-nil (keep p (take i (items q))))))

-- one more task of the order that is tried
module _ (keys flags : List ℕ) (order : TaskList) (i : ℕ) where
  abbrev next : ℕ
  next = get_or order.ids i 0

  step : (q : TaskList) → i < length (items order) → inserted_flagged q keys flags (drop i (items order)) ≡ inserted_flagged (inserted_if q keys flags next) keys flags (drop (i + 1) (items order))
  unfolding inserted_flagged
  step q h = ap (inserted_flagged q keys flags) (items_step order i h)

  pub flagged_on : (q : TaskList) → i < length (items order) → key_of flags next ≡ 1
      → inserted_flagged q keys flags (drop i (items order)) ≡ inserted_flagged (tailed q keys next) keys flags (drop (i + 1) (items order))
  flagged_on q h e = step q h ∙ rw (eq-eqb _ _ e)

  pub flagged_off : (q : TaskList) → i < length (items order) → (key_of flags next ≡ 1 → ⊥)
      → inserted_flagged q keys flags (drop i (items order)) ≡ inserted_flagged q keys flags (drop (i + 1) (items order))
  flagged_off q h e = step q h ∙ rw (ne_eqb _ _ e)

  pub flagged_end : (q : TaskList) → length (items order) ≤ i → inserted_flagged q keys flags (drop i (items order)) ≡ q
  unfolding inserted_flagged
  flagged_end q h = ap (inserted_flagged q keys flags) (items_end order i h)

-- a table that holds its places' numbers
pub filled_range : (n : ℕ) → filled n (λ i. i) ≡ range n
unfolding filled range
filled_range zero = refl
filled_range (suc n) = ap (λ (l : List ℕ). l ++ (n ∷ [])) (filled_range n)
