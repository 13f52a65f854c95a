-- `queue_places::place_of` meets its contract.
use mathlib.Core.Path.{refl}
use Prim.Native.Nat.{◌≤◌}
use native.Mathlib.Omega.{arith}
use native.Mathlib.Nat.{mul-le-mul}
use Rattle.queue_places.proofs.Laws.{slot_small}
use Rattle.queue_places.proofs.place_of.Goals as goal

pub overflow_mul-result : goal.overflow_mul-result
overflow_mul-result c =
    let w : c.width_at.result ≤ 255 = omega arith in
    let s : c.slot-slot.result ≤ 510 = omega (arith, c.slot-slot.ensures, slot_small c.oldest_at.result c.depth_at.result c.args.k (omega arith) (omega arith)) in
    omega (arith, mul-le-mul w s)

pub overflow_add-result : goal.overflow_add-result
overflow_add-result c =
    let w : c.width_at.result ≤ 255 = omega arith in
    let s : c.slot-slot.result ≤ 510 = omega (arith, c.slot-slot.ensures, slot_small c.oldest_at.result c.depth_at.result c.args.k (omega arith) (omega arith)) in
    omega (arith, c.start_of-first.ensures.small, mul-le-mul w s)

pub returns : goal.returns
returns c = rw (c.start_of-first.ensures.first, c.width_at.ensures, c.slot-slot.ensures, c.depth_at.ensures, c.oldest_at.ensures) refl
