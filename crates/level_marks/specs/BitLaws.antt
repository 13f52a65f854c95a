-- Laws of bits, over the word: each bit of the word of a test, words joined bit by bit, and trailing zeros as the first bit that is set.
use Rattle.std.specs.Prelude.{◌≡◌, refl, Bool, true, false, cond, ℕ, zero, suc, ◌+◌, ◌*◌, ◌/◌, ◌%◌, ◌^◌, ◌≤◌, ◌<◌, max, eqb}
use Rattle.std.proofs.Common.{ap, sym, ◌∙◌, inl, inr, arith, pow-suc, shr-shr, ne_eqb, eqb-true}
use Rattle.std.proofs.Math.Path.{fun_ext}
use Rattle.std.proofs.Math.Dec.{eqb-zero-suc, eqb-suc-zero, eqb-suc-suc}
use Rattle.std.specs.Int.Bits.{bit_or, or_step}
use Rattle.std.specs.Int.Count.{count_trailing_zeros}
use Rattle.std.proofs.lemmas.Bool.{eqb-false}
use Rattle.lists.specs.Test.{◌or◌}
use Rattle.lists.specs.TestLaws.{which}
use Rattle.level_marks.specs.Bits.{word_where, is_set, first_where}

-- the number of a bit
abbrev bit : Bool → ℕ
bit b = cond b 1 0

-- behind the lowest bit stand the others
half_bit : (w : ℕ) (b : Bool) → (w * 2 + bit b) / 2 ≡ w
half_bit w true = omega arith
half_bit w false = omega arith

low_bit : (w : ℕ) (b : Bool) → (w * 2 + bit b) % 2 ≡ bit b
low_bit w true = omega arith
low_bit w false = omega arith

is_bit : (b : Bool) → eqb (bit b) 1 ≡ b
is_bit true = refl
is_bit false = refl

-- bit 0 of a word, and the bits behind it
set_low : (w : ℕ) → is_set w 0 ≡ eqb (w % 2) 1
unfolding is_set
set_low w = let e : w / 1 ≡ w = omega arith in rw e refl

set_high : (w l : ℕ) → is_set w (suc l) ≡ is_set (w / 2) l
unfolding is_set
set_high w l = let e : suc l ≡ 1 + l = omega arith in rw (e, ← shr-shr w 1 l) refl

-- "bit l is set exactly when": each bit of the word of a test says whether its number passes
pub set_where : (k : ℕ) (p : ℕ → Bool) (l : ℕ) → l < k → is_set (word_where k p) l ≡ p l
unfolding word_where
set_where zero p l h = absurd (omega arith)
set_where (suc k) p zero h = set_low (word_where (suc k) p) ∙ ap (λ z. eqb z 1) (low_bit _ (p 0)) ∙ is_bit (p 0)
set_where (suc k) p (suc l) h = set_high (word_where (suc k) p) l ∙ ap (λ z. is_set z l) (half_bit _ (p 0)) ∙ set_where k (λ j. p (suc j)) l (omega arith)

-- it has k bits
bit_in : (b : Bool) → bit b < 2
bit_in true = omega arith
bit_in false = omega arith

pub where_in : (k : ℕ) (p : ℕ → Bool) → word_where k p < 2 ^ k
unfolding word_where
where_in zero p = omega arith
where_in (suc k) p = omega (arith, pow-suc 2 k, where_in k (λ l. p (suc l)), bit_in (p 0))

-- the word of a test that none passes is 0
pub none_where : (k : ℕ) (p : ℕ → Bool) → ((l : ℕ) → l < k → p l ≡ false) → word_where k p ≡ 0
unfolding word_where
none_where zero p h = refl
none_where (suc k) p h = rw (h 0 (omega arith), none_where k (λ l. p (suc l)) (λ l m. h (suc l) (omega arith))) refl

-- 0 has no bit
pub zero_set : (l : ℕ) → is_set 0 l ≡ false
zero_set l = ap (λ w. is_set w l) (sym (none_where (suc l) (λ j. false) (λ j h. refl))) ∙ set_where (suc l) (λ j. false) l (omega arith)

-- a word of k bits none of which is set is 0
pub zero_word : (k w : ℕ) → w < 2 ^ k → ((l : ℕ) → l < k → is_set w l ≡ false) → w ≡ 0
zero_word zero w b h = omega arith
zero_word (suc k) w b h =
    let low : w % 2 ≡ 1 → ⊥ = eqb-false (w % 2) 1 (sym (set_low w) ∙ h 0 (omega arith)) in
    let half : w / 2 ≡ 0 = zero_word k (w / 2) (omega (arith, pow-suc 2 k)) (λ l m. sym (set_high w l) ∙ h (suc l) (omega arith)) in
    omega arith

-- the word of one number is its bit alone, and 0 for a number that it has no bit for
pub one_where : (k j : ℕ) → j < k → word_where k (eqb j) ≡ 2 ^ j
unfolding word_where
one_where zero j h = omega arith
one_where (suc k) zero h = rw (none_where k (λ l. eqb 0 (suc l)) (λ l m. eqb-zero-suc l)) refl
one_where (suc k) (suc j) h = rw (eqb-suc-zero j, fun_ext (eqb-suc-suc j), one_where k j (omega arith), pow-suc 2 j) (omega arith)

pub beyond_where : (k j : ℕ) → k ≤ j → word_where k (eqb j) ≡ 0
beyond_where k j h = none_where k (eqb j) (λ l m. ne_eqb j l (λ e. omega arith))

-- the higher of two bits is set where one of them is
or_bit : (a b : Bool) → max (bit a) (bit b) ≡ bit (a or b)
unfolding ◌or◌
or_bit true true = refl
or_bit true false = refl
or_bit false true = refl
or_bit false false = refl

-- words of two tests joined bit by bit are the word of either
pub or_where : (k : ℕ) (p q : ℕ → Bool) → bit_or (word_where k p) (word_where k q) ≡ word_where k (λ l. p l or q l)
unfolding word_where
or_where zero p q = refl
or_where (suc k) p q =
    let a : ℕ = word_where k (λ l. p (suc l)) in
    let b : ℕ = word_where k (λ l. q (suc l)) in
    or_step (word_where (suc k) p) (word_where (suc k) q)
    ∙ rw (half_bit a (p 0), half_bit b (q 0), low_bit a (p 0), low_bit b (q 0), or_where k (λ l. p (suc l)) (λ l. q (suc l)), or_bit (p 0) (q 0)) refl

-- the first that passes: by its test alone, found, and none
pub first_same : (k : ℕ) (p q : ℕ → Bool) → ((l : ℕ) → l < k → p l ≡ q l) → first_where k p ≡ first_where k q
unfolding first_where
first_same zero p q h = refl
first_same (suc k) p q h = rw (h 0 (omega arith), first_same k (λ l. p (suc l)) (λ l. q (suc l)) (λ l m. h (suc l) (omega arith))) refl

pub first_found : (k : ℕ) (p : ℕ → Bool) (l : ℕ) → l < k → p l ≡ true → ((j : ℕ) → j < l → p j ≡ false) → first_where k p ≡ l
unfolding first_where
first_found zero p l h e b = omega arith
first_found (suc k) p zero h e b = rw e refl
first_found (suc k) p (suc l) h e b = rw (b 0 (omega arith)) (ap suc (first_found k (λ j. p (suc j)) l (omega arith) e (λ j m. b (suc j) (omega arith))))

pub first_none : (k : ℕ) (p : ℕ → Bool) → ((l : ℕ) → l < k → p l ≡ false) → first_where k p ≡ k
unfolding first_where
first_none zero p h = refl
first_none (suc k) p h = rw (h 0 (omega arith)) (ap suc (first_none k (λ l. p (suc l)) (λ l m. h (suc l) (omega arith))))

-- below the first that passes none does
pub none_before : (k : ℕ) (p : ℕ → Bool) (l : ℕ) → l < first_where k p → p l ≡ false
unfolding first_where
none_before zero p l h = absurd (omega arith)
none_before (suc k) p zero h = elim (which (p 0)) [
  | inl e ↦ absurd (let z : 0 < 0 = rw e at h in omega arith)
  | inr e ↦ e
]
none_before (suc k) p (suc l) h = elim (which (p 0)) [
  | inl e ↦ absurd (let z : suc l < 0 = rw e at h in omega arith)
  | inr e ↦ none_before k (λ j. p (suc j)) l (let m : suc l < suc (first_where k (λ j. p (suc j))) = rw e at h in omega arith)
]

-- the trailing zeros of a word's k bits stand before the first that is set
pub trailing_where : (k w : ℕ) → count_trailing_zeros k w ≡ first_where k (is_set w)
unfolding count_trailing_zeros first_where
trailing_where zero w = refl
trailing_where (suc k) w = elim (which (is_set w 0)) [
  | inl e ↦ (let odd : w % 2 ≡ 1 = eqb-true (w % 2) 1 (sym (set_low w) ∙ e) in rw (odd, e) refl)
  | inr e ↦ (let even : w % 2 ≡ 0 = omega (arith, eqb-false (w % 2) 1 (sym (set_low w) ∙ e)) in
      rw (even, e) (ap suc (trailing_where k (w / 2) ∙ first_same k (is_set (w / 2)) (λ l. is_set w (suc l)) (λ l m. sym (set_high w l)))))
]
