-- No queue made: column by column, and place by place.
use mathlib.Core.Path.{◌≡◌, refl, ap, sym, ◌∙◌}
use mathlib.Core.Bool.{Bool, false}
use Prim.Native.Nat.{ℕ}
use native.Mathlib.Omega.{arith}
use lib.Dec.{ltb}
use borrow.Author.Tests.{le-ltb}
use Rattle.lists.specs.Test.{◌and◌, ◌or◌, allb}
use Rattle.lists.specs.TestLaws.{all_same, all_and}
use Rattle.rules.specs.Sizes.{max_queues}
use Rattle.checks.specs.Checks.{unused_at, queue_fits, queue_fits_at, free_at}
use Rattle.record.specs.declared.Queues.{Queues}

-- where no queue is made, every place is as in the fresh record: column by column, and place by place
pub none_made_fits : (x : Queues) (tasks : ℕ) → x.n ≡ 0
    → allb max_queues (unused_at x.width 0) and allb max_queues (unused_at x.depth 0) and allb max_queues (free_at x.owner) and allb max_queues (unused_at x.oldest 0) and allb max_queues (unused_at x.used 0)
    ≡ allb max_queues (queue_fits_at x tasks)
unfolding queue_fits ◌or◌
none_made_fits x tasks e =
    let w = unused_at x.width 0 in
    let d = unused_at x.depth 0 in
    let o = free_at x.owner in
    let l = unused_at x.oldest 0 in
    let u = unused_at x.used 0 in
    sym (all_and max_queues w (λ q. d q and o q and l q and u q)
    ∙ ap (λ (b : Bool). allb max_queues w and b) (all_and max_queues d (λ q. o q and l q and u q)
    ∙ ap (λ (b : Bool). allb max_queues d and b) (all_and max_queues o (λ q. l q and u q)
    ∙ ap (λ (b : Bool). allb max_queues o and b) (all_and max_queues l u))))
    ∙ all_same _ _ _ _ refl (λ q h.
    (let n : ltb q x.n ≡ false = le-ltb q x.n (omega (arith, e)) in rw (n, le-ltb q 0 (omega arith)) refl))
