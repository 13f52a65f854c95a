-- One turn and the end of each loop that tests or counts what stands in a list.
use Rattle.std.proofs.Common.{◌≡◌, ℕ, ◌+◌, ◌-◌, ◌%◌, ◌<◌, ◌≤◌, Bool, true, false, not, eqb, ltb, leb, List, [], ◌∷◌, length, get_or, drop, set, refl, ◌∙◌, arith, length-drop, le-ltb, lt-ltb, eq-eqb, ne_eqb, le-leb}
use borrow.Author.Tests.{lt-leb}
use lib.Seq.{set_out}
use Rattle.lists.specs.Test.{◌and◌, ◌or◌}
use Rattle.lists.specs.TestLaws.{or_r}
use Rattle.lists.specs.Order.{ascb, tiesb}
use Rattle.task_lists.specs.TaskList.{items, counted}
use Rattle.task_lists.specs.declared.TaskList.{TaskList}
use Rattle.task_lists.specs.ItemLaws.{items_step, items_end, items_pair}

-- one or none is in order
ascb_short : (f : ℕ → ℕ) (l : List ℕ) → length l ≤ 1 → ascb f l ≡ true
unfolding ascb
ascb_short f [] h = refl
ascb_short f (x ∷ []) h = refl
ascb_short f (x ∷ y ∷ l) h = absurd (omega arith)

tiesb_short : (f : ℕ → ℕ) (l : List ℕ) → length l ≤ 1 → tiesb f l ≡ true
unfolding tiesb
tiesb_short f [] h = refl
tiesb_short f (x ∷ []) h = refl
tiesb_short f (x ∷ y ∷ l) h = absurd (omega arith)

-- a conjunction whose first part holds is its second
true_and_r : (a b : Bool) → a ≡ true → a and b ≡ b
unfolding ◌and◌
true_and_r a b e = rw e

module _ (q : TaskList) where
  -- the counts raised
  pub counted_step : (c : List ℕ) (i : ℕ) → i < length (items q)
      → counted c (drop i (items q)) ≡ counted (set c (get_or q.ids i 0) ((get_or c (get_or q.ids i 0) 0 + 1) % 256)) (drop (i + 1) (items q))
  unfolding counted
  counted_step c i h = rw (items_step q i h)

  -- an id that has no count
  pub counted_skip : (c : List ℕ) (i : ℕ) → i < length (items q) → length c ≤ get_or q.ids i 0
      → counted c (drop i (items q)) ≡ counted c (drop (i + 1) (items q))
  counted_skip c i h k = counted_step c i h ∙ rw (set_out c (get_or q.ids i 0) ((get_or c (get_or q.ids i 0) 0 + 1) % 256) k)

  pub counted_end : (c : List ℕ) (i : ℕ) → length (items q) ≤ i → counted c (drop i (items q)) ≡ c
  unfolding counted
  counted_end c i h = rw (items_end q i h)

  -- the keys of neighbours in order
  ascb_step : (f : ℕ → ℕ) (i : ℕ) → 0 < i → i < length (items q)
      → ascb f (drop (i - 1) (items q)) ≡ leb (f (get_or q.ids (i - 1) 0)) (f (get_or q.ids i 0)) and ascb f (drop (i + 1 - 1) (items q))
  unfolding ascb
  ascb_step f i p h = let e : i + 1 - 1 ≡ i = omega arith in rw (e, items_pair q i p h, items_step q i h)

  pub ascb_on : (f : ℕ → ℕ) (i : ℕ) → 0 < i → i < length (items q) → f (get_or q.ids (i - 1) 0) ≤ f (get_or q.ids i 0)
      → ascb f (drop (i - 1) (items q)) ≡ ascb f (drop (i + 1 - 1) (items q))
  unfolding ◌and◌
  ascb_on f i p h k = rw (ascb_step f i p h, le-leb _ _ k)

  pub ascb_fail : (f : ℕ → ℕ) (i : ℕ) → 0 < i → i < length (items q) → f (get_or q.ids i 0) < f (get_or q.ids (i - 1) 0)
      → ascb f (drop (i - 1) (items q)) ≡ false
  unfolding ◌and◌
  ascb_fail f i p h k = rw (ascb_step f i p h, lt-leb _ _ k)

  pub ascb_end : (f : ℕ → ℕ) (i : ℕ) → length (items q) ≤ i → ascb f (drop (i - 1) (items q)) ≡ true
  ascb_end f i h = ascb_short f _ (omega (arith, length-drop (i - 1) (items q)))

  -- neighbours of equal keys by id
  tiesb_step : (f : ℕ → ℕ) (i : ℕ) → 0 < i → i < length (items q)
      → tiesb f (drop (i - 1) (items q))
      ≡ (not (eqb (f (get_or q.ids (i - 1) 0)) (f (get_or q.ids i 0))) or ltb (get_or q.ids (i - 1) 0) (get_or q.ids i 0)) and tiesb f (drop (i + 1 - 1) (items q))
  unfolding tiesb
  tiesb_step f i p h = let e : i + 1 - 1 ≡ i = omega arith in rw (e, items_pair q i p h, items_step q i h)

  pub tiesb_apart : (f : ℕ → ℕ) (i : ℕ) → 0 < i → i < length (items q) → (f (get_or q.ids (i - 1) 0) ≡ f (get_or q.ids i 0) → ⊥)
      → tiesb f (drop (i - 1) (items q)) ≡ tiesb f (drop (i + 1 - 1) (items q))
  unfolding ◌and◌ ◌or◌
  tiesb_apart f i p h k = rw (tiesb_step f i p h, ne_eqb _ _ k)

  pub tiesb_on : (f : ℕ → ℕ) (i : ℕ) → 0 < i → i < length (items q) → get_or q.ids (i - 1) 0 < get_or q.ids i 0
      → tiesb f (drop (i - 1) (items q)) ≡ tiesb f (drop (i + 1 - 1) (items q))
  tiesb_on f i p h k = tiesb_step f i p h ∙ true_and_r _ _ (or_r _ _ (lt-ltb _ _ k))

  pub tiesb_fail : (f : ℕ → ℕ) (i : ℕ) → 0 < i → i < length (items q) → f (get_or q.ids (i - 1) 0) ≡ f (get_or q.ids i 0)
      → get_or q.ids i 0 ≤ get_or q.ids (i - 1) 0 → tiesb f (drop (i - 1) (items q)) ≡ false
  unfolding ◌and◌ ◌or◌
  tiesb_fail f i p h k m = rw (tiesb_step f i p h, eq-eqb _ _ k, le-ltb _ _ m)

  pub tiesb_end : (f : ℕ → ℕ) (i : ℕ) → length (items q) ≤ i → tiesb f (drop (i - 1) (items q)) ≡ true
  tiesb_end f i h = tiesb_short f _ (omega (arith, length-drop (i - 1) (items q)))
