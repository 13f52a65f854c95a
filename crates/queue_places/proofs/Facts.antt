-- What owning queues tells: widths and depths are bytes. Lengths of arrays are found by the prover itself.
use denote.Builtin.{u8}
use mathlib.Core.List.{List, [], ◌∷◌}
use Prim.Native.Nat.{ℕ, zero, suc, ◌<◌}
use native.Mathlib.Omega.{arith}
use native.Mathlib.Decide.{dec_lt}
use lib.ListN.{length, get_or, get_or-eq_default}
use mir.Val.{Val}
use base.Fml.{Fml}
use denote.Shadow.{shadow}
use denote.Array.{each}
use denote.Laws.{Is}
use denote.Struct.Declared.{row}
use Rattle.record.specs.declared.Queues.{Queues}
use Rattle.record.specs.contracts.Queues as qs

-- each element of an array that is owned is a value of its type
each_at : (d : Type 0) (f : d → List Val → Fml) (xs : List d) (us : List Val) (i : ℕ) (z : d) → i < length xs
    → shadow (each d f xs us) → (u : Val) × shadow (f (get_or xs i z) (u ∷ []))
each_at d f [] us i z h p = absurd (omega arith)
each_at d f (x ∷ xs) [] i z h p = absurd p
each_at d f (x ∷ xs) (u ∷ us) zero z h p = (u, p.0)
each_at d f (x ∷ xs) (u ∷ us) (suc i) z h p = each_at d f xs us i z (omega arith) p.1

module _ (x : Queues) (vs : List Val) (g : Is (row qs.the_type) x vs) where
  pub width_byte : (i : ℕ) → get_or x.width i 0 < 256
  width_byte i =
      let f = g.1.1.0 in
      elim (dec_lt i (length x.width)) [
        | yes h ↦ (each_at u8.Denot u8.own_val x.width f.0 i 0 h f.1.1).1.1
        | no h ↦ rw (get_or-eq_default x.width 0 {n = i} (omega arith)) (omega arith)
      ]

  pub depth_byte : (i : ℕ) → get_or x.depth i 0 < 256
  depth_byte i =
      let f = g.1.1.1.0 in
      elim (dec_lt i (length x.depth)) [
        | yes h ↦ (each_at u8.Denot u8.own_val x.depth f.0 i 0 h f.1.1).1.1
        | no h ↦ rw (get_or-eq_default x.depth 0 {n = i} (omega arith)) (omega arith)
      ]
