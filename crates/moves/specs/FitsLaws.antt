-- Laws of whether a move fits: each test holds just where its facts do.
use Rattle.std.specs.Prelude.{◌≡◌, refl, Bool, true, false, ℕ, ◌+◌, ◌≤◌, ◌<◌}
use borrow.Author.Tests.{le-leb, leb-true, lt-leb}
use Rattle.lists.specs.Test.{◌and◌}
use Rattle.lists.specs.TestLaws.{and_l, and_r, true_and}
use Rattle.moves.specs.Fits.{can_hold, can_queue, can_take, can_swap, Holds, Takes, Swaps}

-- a test fails where what it shows cannot be
fails : (b : Bool) {F : Type 0} → (b ≡ true → F) → (F → ⊥) → b ≡ false
fails true f g = absurd (g (f refl))
fails false f g = refl

module _ (table task n : ℕ) where
  pub holds : can_hold table task n ≡ true → Holds table task n
  unfolding can_hold
  holds e = record { place = leb-true _ _ (and_l _ _ e); size = leb-true _ _ (and_r _ _ e) }

  pub holds_test : Holds table task n → can_hold table task n ≡ true
  unfolding can_hold
  holds_test h = true_and _ _ (le-leb _ _ h.place) (le-leb _ _ h.size)

  pub holds_not : (Holds table task n → ⊥) → can_hold table task n ≡ false
  holds_not = fails _ holds

module _ (block place n : ℕ) where
  pub queues : can_queue block place n ≡ true → place + n ≤ block
  unfolding can_queue
  queues e = leb-true _ _ e

  pub queues_test : place + n ≤ block → can_queue block place n ≡ true
  unfolding can_queue
  queues_test h = le-leb _ _ h

  pub queues_not : block < place + n → can_queue block place n ≡ false
  unfolding can_queue
  queues_not h = lt-leb _ _ h

module _ (table block place width task : ℕ) where
  pub takes : can_take table block place width task ≡ true → Takes table block place width task
  unfolding can_take
  takes e = record { within = queues _ _ _ (and_l _ _ e); room = holds _ _ _ (and_r _ _ e) }

  pub takes_test : Takes table block place width task → can_take table block place width task ≡ true
  unfolding can_take
  takes_test t = true_and _ _ (queues_test _ _ _ t.within) (holds_test _ _ _ t.room)

module _ (table block place width task sender : ℕ) where
  pub swaps : can_swap table block place width task sender ≡ true → Swaps table block place width task sender
  unfolding can_swap
  swaps e = record { taken = takes _ _ _ _ _ (and_l _ _ e); sent = holds _ _ _ (and_r _ _ e) }

  pub swaps_test : Swaps table block place width task sender → can_swap table block place width task sender ≡ true
  unfolding can_swap
  swaps_test s = true_and _ _ (takes_test _ _ _ _ _ s.taken) (holds_test _ _ _ s.sent)

-- for the code: the first test failed, or it passed and the second decides
and_failed : (a b : Bool) → a ≡ false → false ≡ a and b
unfolding ◌and◌
and_failed a b e = rw e refl

and_passed : (a b : Bool) → a ≡ true → b ≡ a and b
unfolding ◌and◌
and_passed a b e = rw e refl

module _ (table block place width task : ℕ) where
  pub take_first_failed : can_queue block place width ≡ false → false ≡ can_take table block place width task
  unfolding can_take
  take_first_failed e = and_failed _ _ e

  pub take_first_passed : can_queue block place width ≡ true → can_hold table task width ≡ can_take table block place width task
  unfolding can_take
  take_first_passed e = and_passed _ _ e

module _ (table block place width task sender : ℕ) where
  pub swap_first_failed : can_take table block place width task ≡ false → false ≡ can_swap table block place width task sender
  unfolding can_swap
  swap_first_failed e = and_failed _ _ e

  pub swap_first_passed : can_take table block place width task ≡ true → can_hold table sender width ≡ can_swap table block place width task sender
  unfolding can_swap
  swap_first_passed e = and_passed _ _ e
