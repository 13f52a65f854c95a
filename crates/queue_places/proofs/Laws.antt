-- Where a queue of byte-sized widths and depths begins, and where its messages lie: numbers that 32 bits hold.
use mathlib.Core.List.{List}
use Prim.Native.Nat.{ℕ, zero, suc, ◌*◌, ◌≤◌, ◌<◌}
use native.Mathlib.Omega.{arith}
use native.Mathlib.Nat.{mul-le-mul}
use lib.ListN.{get_or}
use Rattle.rings.specs.Ring.{slot_of}
use Rattle.rings.proofs.RingLaws.{slot_case}
use Rattle.rings.specs.Starts.{queue_places, area_most, start_of, start_in, at_most_all}
use Rattle.rings.proofs.StartsLaws.{at_most_in}
use mathlib.Core.Logic.{inl, inr}

module _ (ws ds : List ℕ) (w : (i : ℕ) → get_or ws i 0 < 256) (d : (i : ℕ) → get_or ds i 0 < 256) where
  start_small : (j : ℕ) → start_of ws ds j ≤ area_most * j
  unfolding start_of
  start_small zero = omega arith
  start_small (suc j) =
      let a : get_or ws j 0 ≤ 255 = omega (arith, w j) in
      let b : get_or ds j 0 ≤ 255 = omega (arith, d j) in
      omega (arith, start_small j, mul-le-mul a b)

  pub start_in_small : (j : ℕ) → start_in ws ds j ≤ area_most * queue_places
  start_in_small j = omega (arith, start_small (at_most_all j), at_most_in j)

-- a ring place of bytes
pub slot_small : (o d k : ℕ) → o < 256 → k < 256 → slot_of o d k ≤ 510
slot_small o d k a b = elim (slot_case o d k) [ inl c ↦ omega arith | inr c ↦ omega arith ]
