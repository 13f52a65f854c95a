-- Laws of a number's decimal digits.
use Rattle.std.specs.Prelude.{◌≡◌, refl, List, [], ◌∷◌, ◌++◌, ℕ, zero, suc, ◌+◌, ◌*◌, ◌/◌, ◌%◌, ◌^◌, ◌≤◌, ◌<◌, max, ltb, length, get_or, take, drop, set, ◌-◌}
use Rattle.std.proofs.Common.{ap, ◌∙◌, inl, inr, add-suc, add-one, arith, length-append, drop_at, lt-ltb, le-ltb, ltb-true, ltb-false}
use Rattle.std.proofs.Math.Path.{sym}
use Rattle.std.proofs.Math.Nat.{pow-succ'}
use Rattle.std.proofs.Math.ListN.{get_or-append}
use Rattle.std.proofs.Math.Seq.{append_snoc}
use Rattle.decimal.specs.Decimal.{decimal, digits_within, last_digit, max_digits, zero_byte}
use Rattle.text.specs.PlaceLaws.{laid_front}
use Rattle.lists.specs.TestLaws.{which}

pub within_small : (f v : ℕ) → v < 10 → digits_within (suc f) v ≡ last_digit v ∷ []
unfolding digits_within
within_small f v h = rw (lt-ltb v 10 h)

pub within_large : (f v : ℕ) → 10 ≤ v → digits_within (suc f) v ≡ digits_within f (v / 10) ++ (last_digit v ∷ [])
unfolding digits_within
within_large f v h = rw (le-ltb v 10 h)

pub length_small : (f v : ℕ) → v < 10 → length (digits_within (suc f) v) ≡ 1
length_small f v h = rw (within_small f v h)

pub length_large : (f v : ℕ) → 10 ≤ v → length (digits_within (suc f) v) ≡ length (digits_within f (v / 10)) + 1
length_large f v h = rw (within_large f v h) (length-append (digits_within f (v / 10)) (last_digit v ∷ []))

pub some : (f v : ℕ) → 0 < length (digits_within (suc f) v)
some f v = elim (which (ltb v 10)) [
  | inl e ↦ omega (arith, length_small f v (ltb-true v 10 e))
  | inr e ↦ omega (arith, length_large f v (ltb-false v 10 e))
]

within_most : (f v : ℕ) → length (digits_within f v) ≤ f
unfolding digits_within
within_most zero v = omega arith
within_most (suc f) v = elim (which (ltb v 10)) [
  | inl e ↦ rw e (omega arith)
  | inr e ↦ rw e (omega (arith, length-append (digits_within f (v / 10)) (last_digit v ∷ []), within_most f (v / 10)))
]

-- a number has 1 to 10 digits
pub decimal_length : (v : ℕ) → (0 < length (decimal v)) × (length (decimal v) ≤ max_digits)
unfolding decimal
decimal_length v = (some 9 v, within_most max_digits v)

-- a tenth has a digit fewer
pub tenth : (f v : ℕ) → v < 10 ^ suc f → v / 10 < 10 ^ f
tenth f v h = let k : v < 10 * 10 ^ f = rw (pow-succ' 10 f) at h in omega arith

-- one digit off: the fuel suffices for what is left
pub count_step : (f v : ℕ) → 10 ≤ v → v < 10 ^ f → (1 < f) × (v / 10 < 10 ^ (f - 1)) × (length (digits_within f v) ≡ length (digits_within (f - 1) (v / 10)) + 1)
count_step zero v h k = absurd (omega arith)
count_step (suc zero) v h k = absurd (omega arith)
count_step (suc (suc f)) v h k =
    let e : suc (suc f) - 1 ≡ suc f = omega arith in
    (omega arith, rw e (tenth (suc f) v k), rw e (length_large (suc f) v h))

pub count_end : (f v : ℕ) → 0 < f → v < 10 → length (digits_within f v) ≡ 1
count_end zero v h k = absurd (omega arith)
count_end (suc f) v h k = length_small f v k

tens : (k : ℕ) → 0 < 10 ^ k
tens zero = omega arith
tens (suc k) = let g = tens k in rw (pow-succ' 10 k) (omega arith)

-- a number from 10 ^ k on, below 10 ^ (k + 1), has k + 1 digits
within_count : (f k v : ℕ) → k ≤ f → 10 ^ k ≤ v → v < 10 * 10 ^ k → length (digits_within (suc f) v) ≡ k + 1
within_count f zero v h p q = length_small f v (omega arith)
within_count zero (suc k) v h p q = absurd (omega arith)
within_count (suc f) (suc k) v h p q =
    let a : 10 * 10 ^ k ≤ v = rw (pow-succ' 10 k) at p in
    let b : v < 10 * (10 * 10 ^ k) = rw (pow-succ' 10 k) at q in
    let g = tens k in
    let r : length (digits_within (suc f) (v / 10)) ≡ k + 1 = within_count f k (v / 10) (omega arith) (omega arith) (omega arith) in
    omega (arith, r, length_large (suc f) v (omega arith))

-- and zero has one
pub digits_count : (v k : ℕ) → k < max_digits → 10 ^ k ≤ max v 1 → max v 1 < 10 * 10 ^ k → k + 1 ≡ length (decimal v)
unfolding decimal
digits_count zero zero h p q = sym (length_small 9 0 (omega arith))
digits_count zero (suc k) h p q = absurd (
    let a : 10 * 10 ^ k ≤ 1 = rw (pow-succ' 10 k) at p in
    let g = tens k in
    omega arith)
digits_count (suc v) k h p q = let e : max (suc v) 1 ≡ suc v = omega arith in sym (within_count 9 k (suc v) (omega arith) (rw e at p) (rw e at q))

-- fuel that is enough needs no more
pub enough : (f v : ℕ) → v < 10 ^ suc f → digits_within (suc (suc f)) v ≡ digits_within (suc f) v
enough zero v h = rw (within_small 1 v (omega arith), within_small 0 v (omega arith))
enough (suc f) v h = elim (which (ltb v 10)) [
  | inl e ↦ rw (within_small (suc (suc f)) v (ltb-true v 10 e), within_small (suc f) v (ltb-true v 10 e))
  | inr e ↦ rw (within_large (suc (suc f)) v (ltb-false v 10 e), within_large (suc f) v (ltb-false v 10 e), enough f (v / 10) (tenth (suc f) v h))
]

-- the last n digits, leading zeros too
unfoldable pub last_digits : ℕ → ℕ → List ℕ
last_digits zero v = []
last_digits (suc n) v = last_digits n (v / 10) ++ (last_digit v ∷ [])

pub length_last : (n v : ℕ) → length (last_digits n v) ≡ n
unfolding last_digits
length_last zero v = refl
length_last (suc n) v = omega (arith, length-append (last_digits n (v / 10)) (last_digit v ∷ []), length_last n (v / 10))

-- a number's digits are its last ones
pub within_last : (f v : ℕ) → last_digits (length (digits_within f v)) v ≡ digits_within f v
unfolding digits_within last_digits
within_last zero v = refl
within_last (suc f) v = elim (which (ltb v 10)) [
  | inl e ↦ rw e
  | inr e ↦ rw (e, length-append (digits_within f (v / 10)) (last_digit v ∷ []), add-one, within_last f (v / 10))
]

-- the digit before those from place i + 1 on of a number's digits ds, and the rest before it
module _ (i rest : ℕ) (ds : List ℕ) (e : last_digits (suc i) rest ++ drop (suc i) ds ≡ ds) where
  pub digit_front : last_digits i (rest / 10) ++ last_digit rest ∷ drop (suc i) ds ≡ ds
  unfolding last_digits
  digit_front = sym (append_snoc (last_digits i (rest / 10)) (last_digit rest) (drop (suc i) ds)) ∙ e

  pub digit_at : drop i ds ≡ last_digit rest ∷ drop (suc i) ds
  digit_at =
      ap (drop i) (sym digit_front)
      ∙ drop_at (last_digits i (rest / 10)) (last_digit rest ∷ drop (suc i) ds) i (length_last i (rest / 10))

  pub digit_rest : last_digits i (rest / 10) ++ drop i ds ≡ ds
  digit_rest = rw digit_at digit_front

  -- its byte written in front of those that stand already
  pub digit_laid : (l : List ℕ) (at n : ℕ) → at + i < length l
      → set (take (at + suc i) l ++ drop (suc i) ds ++ drop (at + n) l) (at + i) (last_digit rest) ≡ take (at + i) l ++ drop i ds ++ drop (at + n) l
  digit_laid l at n h = rw (add-suc at i, digit_at) (laid_front l (drop (suc i) ds) (drop (at + n) l) (at + i) (last_digit rest) h)

-- the digits of a number of 1 or more, and one more digit
pub decimal_more : (n d : ℕ) → 0 < n → d < 10 → n * 10 + d < 10 ^ max_digits → decimal (n * 10 + d) ≡ decimal n ++ ((zero_byte + d) ∷ [])
unfolding decimal
decimal_more n d p q h =
    let m : (n * 10 + d) / 10 ≡ n = omega arith in
    let l : (n * 10 + d) % 10 ≡ d = omega arith in
    rw (within_large 9 (n * 10 + d) (omega arith), m, l, enough 8 n (omega arith))

-- a number of 1 or more has no leading zero
pub no_zero : (f v : ℕ) → 0 < v → v < 10 ^ suc f → get_or (digits_within (suc f) v) 0 0 ≡ zero_byte → ⊥
no_zero zero v p h z = let s = rw (within_small 0 v (omega arith)) at z in omega arith
no_zero (suc f) v p h z = elim (which (ltb v 10)) [
  | inl e ↦ let k = ltb-true v 10 e in let s = rw (within_small (suc f) v k) at z in omega arith
  | inr e ↦
      let k = ltb-false v 10 e in
      let n = tenth (suc f) v h in
      let s = rw (within_large (suc f) v k, get_or-append (digits_within (suc f) (v / 10)) (last_digit v ∷ []) 0 0 (some f (v / 10))) at z in
      no_zero f (v / 10) (omega arith) n s
]
