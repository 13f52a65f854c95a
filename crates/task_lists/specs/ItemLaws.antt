-- Who stands at a place of a list, for a loop over its items.
use Rattle.std.specs.Prelude.{◌≡◌, [], ◌∷◌, ◌++◌, ℕ, ◌+◌, ◌-◌, ◌≤◌, ◌<◌, length, get_or, take, drop}
use Rattle.std.proofs.Common.{ap, ◌∙◌, arith, add-one, length-take, drop_of_length-le, drop-cons, take-suc, get_or-take}
use Rattle.task_lists.specs.TaskList.{places, items}
use Rattle.task_lists.specs.declared.TaskList.{TaskList}

module _ (q : TaskList) where
  -- who stands at a place
  pub items_step : (i : ℕ) → i < length (items q) → drop i (items q) ≡ get_or q.ids i 0 ∷ drop (i + 1) (items q)
  items_step i h = let k : i < q.n = omega (arith, length-take q.n q.ids) in rw (add-one, drop-cons (items q) i 0 h, get_or-take q.n q.ids i 0 k)

  pub items_end : (i : ℕ) → length (items q) ≤ i → drop i (items q) ≡ []
  items_end i h = drop_of_length-le (items q) h

  pub items_take : (i : ℕ) → i < length (items q) → take (i + 1) (items q) ≡ take i (items q) ++ (get_or q.ids i 0 ∷ [])
  items_take i h = let k : i < q.n = omega (arith, length-take q.n q.ids) in rw (add-one, take-suc (items q) i 0 h, get_or-take q.n q.ids i 0 k)

  pub items_pair : (i : ℕ) → 0 < i → i < length (items q) → drop (i - 1) (items q) ≡ get_or q.ids (i - 1) 0 ∷ get_or q.ids i 0 ∷ drop (i + 1) (items q)
  items_pair i p h = let e : i - 1 + 1 ≡ i = omega arith in items_step (i - 1) (omega arith) ∙ rw e (ap (get_or q.ids (i - 1) 0 ∷◌) (items_step i h))

  pub items_few : length q.ids ≡ places → length (items q) ≤ places
  items_few h = omega (arith, length-take q.n q.ids)
