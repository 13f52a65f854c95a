-- Laws of a ring's places, once over the width and the depth.
use Rattle.std.specs.Prelude.{◌≡◌, refl, List, ◌⊎◌, ℕ, suc, ◌+◌, ◌-◌, ◌*◌, ◌≤◌, ◌<◌, length}
use Rattle.std.proofs.Common.{inl, inr, arith, mul-le-mul_left, mul-suc, lt-ltb, le-ltb}
use Rattle.std.proofs.Math.Decide.{dec_lt}
use Rattle.rings.specs.Words.{Off}
use Rattle.rings.specs.Ring.{Ring, slot_of, spot, past, message, Sits}
use Rattle.rings.proofs.WordsLaws.{length_words}

-- for the code: a place before the end, and one behind the turn
pub slot_plain : (o d k : ℕ) → o + k < d → slot_of o d k ≡ o + k
unfolding slot_of
slot_plain o d k h = rw (lt-ltb (o + k) d h) refl

pub slot_round : (o d k : ℕ) → d ≤ o + k → slot_of o d k ≡ o + k - d
unfolding slot_of
slot_round o d k h = rw (le-ltb (o + k) d h) refl

-- the two cases of a place
pub slot_case : (o d k : ℕ) → ((slot_of o d k ≡ o + k) × (o + k < d)) ⊎ ((slot_of o d k ≡ o + k - d) × (d ≤ o + k))
slot_case o d k = elim (dec_lt (o + k) d) [
  | yes h ↦ inl (slot_plain o d k h, h)
  | no h ↦ (let l : d ≤ o + k = omega arith in inr (slot_round o d k l, l))
]

-- a place lies in the ring
pub slot_in : (o d k : ℕ) → o < d → k ≤ d → slot_of o d k < d
slot_in o d k h g = elim (slot_case o d k) [ inl a ↦ omega arith | inr a ↦ omega arith ]

pub slot_zero : (o d : ℕ) → o < d → slot_of o d 0 ≡ o
slot_zero o d h = elim (slot_case o d 0) [ inl a ↦ omega arith | inr a ↦ absurd (omega arith) ]

-- one place on
pub slot_next : (o d k : ℕ) → o < d → k < d → slot_of (slot_of o d 1) d k ≡ slot_of o d (suc k)
slot_next o d k h g = elim (slot_case o d 1) [
  | inl a ↦ elim (slot_case (slot_of o d 1) d k) [
    | inl b ↦ elim (slot_case o d (suc k)) [ inl e ↦ omega arith | inr e ↦ absurd (omega arith) ]
    | inr b ↦ elim (slot_case o d (suc k)) [ inl e ↦ absurd (omega arith) | inr e ↦ omega arith ]
  ]
  | inr a ↦ elim (slot_case (slot_of o d 1) d k) [
    | inl b ↦ elim (slot_case o d (suc k)) [ inl e ↦ absurd (omega arith) | inr e ↦ omega arith ]
    | inr b ↦ absurd (omega arith)
  ]
]

-- all the way round
pub slot_all : (o d : ℕ) → o < d → slot_of o d d ≡ slot_of o d 0
slot_all o d h = elim (slot_case o d d) [ inl a ↦ absurd (omega arith) | inr a ↦ omega (arith, slot_zero o d h) ]

-- two places fewer than d steps apart are different
slots_differ : (o d j k : ℕ) → o < d → j < d → k < j → (slot_of o d k < slot_of o d j) ⊎ (slot_of o d j < slot_of o d k)
slots_differ o d j k h g l = elim (slot_case o d k) [
  | inl a ↦ elim (slot_case o d j) [ inl b ↦ inl (omega arith) | inr b ↦ inr (omega arith) ]
  | inr a ↦ elim (slot_case o d j) [ inl b ↦ absurd (omega arith) | inr b ↦ inl (omega arith) ]
]

-- w words at place a lie before those at place b
stride : (w a b : ℕ) → a < b → w * a + w ≤ w * b
stride w a b h = omega (arith, mul-suc w a, mul-le-mul_left w h)

module _ (n : ℕ) (r : Ring) (sits : Sits n r) where
  -- each message lies in the queue's place
  pub spot_in : (k : ℕ) → k ≤ r.depth → spot r k + r.width ≤ past r
  spot_in k h =
      omega (arith, stride r.width (slot_of r.oldest r.depth k) r.depth (slot_in r.oldest r.depth k sits.first h))

  -- two messages have no word in common
  pub spots_off : (j k : ℕ) → j < r.depth → k < j → Off (spot r k) r.width (spot r j) r.width
  spots_off j k g l =
      let a = slot_of r.oldest r.depth k in
      let b = slot_of r.oldest r.depth j in
      elim (slots_differ r.oldest r.depth j k sits.first g l) [
        | inl h ↦ inl (omega (arith, stride r.width a b h))
        | inr h ↦ inr (omega (arith, stride r.width b a h))
      ]

-- each message has the queue's width
pub length_message : (b : List ℕ) (r : Ring) (k : ℕ) → Sits (length b) r → k ≤ r.depth → length (message b r k) ≡ r.width
length_message b r k sits h = length_words b (spot r k) r.width (omega (arith, spot_in (length b) r sits k h))
