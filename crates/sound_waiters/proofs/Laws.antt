-- Waits none of which is for a queue.
use mathlib.Core.Path.{◌≡◌, refl, sym}
use mathlib.Core.List.{List}
use mathlib.Core.Bool.{Bool, true, not}
use Prim.Native.Nat.{ℕ}
use lib.Dec.{eqb}
use lib.ListN.{get_or}
use borrow.Author.Tests.{not-true}
use Rattle.lists.specs.Test.{◌or◌, allb}
use Rattle.lists.specs.TestLaws.{or_none, all_true, true_all}
use Rattle.rules.specs.Sizes.{task_places, on_send, on_receive}
use Rattle.checks.specs.Checks.{queue_wait_fits, queue_waits_in}
use Rattle.record.specs.declared.Queues.{Queues}

-- task i waits for no queue
abbrev pub elsewhere_at : List ℕ → ℕ → Bool
elsewhere_at waits i = not (eqb (get_or waits i 0) on_send or eqb (get_or waits i 0) on_receive)

-- where nobody waits at a queue nothing is asked
pub none_waits_fit : (waits objects : List ℕ) (x : Queues) (words : List ℕ) → allb task_places (elsewhere_at waits) ≡ true → true ≡ queue_waits_in waits objects x words
unfolding queue_waits_in queue_wait_fits
none_waits_fit waits objects x words e = sym (true_all task_places _ (λ i h.
    (let n = or_none _ _ (not-true _ (all_true task_places (elsewhere_at waits) e i h)) in rw (n.0, n.1) refl)))
