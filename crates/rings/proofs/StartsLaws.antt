-- Laws of where the queues begin: each behind the ones before it, so that two have no word in common.
use Rattle.std.specs.Prelude.{◌≡◌, List, get_or}
use Rattle.std.proofs.Math.Path.{refl}
use Rattle.std.proofs.Common.{inl, inr, arith, lt-ltb, le-ltb}
use Prim.Native.Nat.{ℕ, zero, suc, ◌+◌, ◌*◌, ◌≤◌, ◌<◌}
use Rattle.std.proofs.Math.Decide.{ℕ_discrete, dec_lt}
use Rattle.std.proofs.Math.Numerals.{add-one}
use Rattle.rings.specs.Ring.{Ring, past, Apart}
use Rattle.rings.specs.Starts.{queue_places, start_of, Placed, at_most_all}

module _ (ws ds : List ℕ) where
  pub start_zero : start_of ws ds 0 ≡ 0
  unfolding start_of
  start_zero = refl

  pub start_next : (j : ℕ) → start_of ws ds (j + 1) ≡ start_of ws ds j + get_or ws j 0 * get_or ds j 0
  unfolding start_of
  start_next j = rw add-one refl

  -- for the code: one queue more
  pub start_more : (j sum size : ℕ) → sum ≡ start_of ws ds j → size ≡ get_or ws j 0 * get_or ds j 0 → sum + size ≡ start_of ws ds (j + 1)
  start_more j sum size e f = rw (start_next j, e, f) refl

  -- a queue ends before a later one begins
  pub start_behind : (j k : ℕ) → j < k → start_of ws ds j + get_or ws j 0 * get_or ds j 0 ≤ start_of ws ds k
  unfolding start_of
  start_behind j zero h = absurd (omega arith)
  start_behind j (suc k) h = elim (ℕ_discrete j k) [ yes e ↦ rw e (omega arith) | no e ↦ omega (arith, start_behind j k (omega arith)) ]

  pub past_behind : (j n : ℕ) (r : Ring) → Placed ws ds j r → j < n → past r ≤ start_of ws ds n
  past_behind j n r p h = rw (p.begins, p.wide, p.deep) (start_behind j n h)

  pub starts_apart : (j k : ℕ) (r p : Ring) → Placed ws ds j r → Placed ws ds k p → (j ≡ k → ⊥) → Apart r p
  starts_apart j k r p u v ne = elim (dec_lt j k) [
    | yes h ↦ inl (omega (arith, past_behind j k r u h, v.begins))
    | no h ↦ inr (omega (arith, past_behind k j p v (omega (arith, ne)), u.begins))
  ]

-- where a queue begins depends only on the queues before it
pub start_same : (ws ds vs es : List ℕ) (j : ℕ) → ((i : ℕ) → i < j → get_or ws i 0 ≡ get_or vs i 0) → ((i : ℕ) → i < j → get_or ds i 0 ≡ get_or es i 0)
    → start_of ws ds j ≡ start_of vs es j
unfolding start_of
start_same ws ds vs es zero f g = refl
start_same ws ds vs es (suc j) f g =
    rw (start_same ws ds vs es j (λ i h. f i (omega arith)) (λ i h. g i (omega arith)), f j (omega arith), g j (omega arith)) refl

-- an id that a queue can have, and any other
pub at_most_below : (j : ℕ) → j < queue_places → at_most_all j ≡ j
unfolding at_most_all
at_most_below j h = rw (lt-ltb j queue_places h) refl

pub at_most_all_lem : (j : ℕ) → queue_places ≤ j → at_most_all j ≡ queue_places
unfolding at_most_all
at_most_all_lem j h = rw (le-ltb j queue_places h) refl

pub at_most_in : (j : ℕ) → at_most_all j ≤ queue_places
at_most_in j = elim (dec_lt j queue_places) [
  | yes h ↦ omega (arith, at_most_below j h)
  | no h ↦ omega (arith, at_most_all_lem j (omega arith))
]
