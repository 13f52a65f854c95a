-- Laws of tests: to take a conjunction apart, to put it together, and to go by the two answers of a test.
use Rattle.std.specs.Prelude.{◌≡◌, refl, Bool, true, false, cond, ◌⊎◌, ℕ, zero, suc, ◌≤◌, ◌<◌}
use Rattle.std.proofs.Common.{ap, sym, ◌∙◌, inl, inr, arith, eqb-true, eq-eqb}
use Rattle.std.proofs.Math.Option.{Option, none, some}
use Rattle.std.proofs.Math.Decide.{ℕ_discrete, dec_lt}
use Rattle.lists.specs.Test.{◌and◌, ◌or◌, allb, someb, holds}

pub which : (b : Bool) → (b ≡ true) ⊎ (b ≡ false)
which true = inl refl
which false = inr refl

pub clash : {b : Bool} → b ≡ true → b ≡ false → ⊥
clash u v = let z : ◌≡◌ {A = ℕ} 0 1 = cc in omega arith

-- what holds of a choice
pub by_test : {A : Type 0} (P : A → Type 0) (b : Bool) {x y : A} → (b ≡ true → P x) → (b ≡ false → P y) → P (cond b x y)
by_test P true f g = f refl
by_test P false f g = g refl

pub and_l : (a b : Bool) → a and b ≡ true → a ≡ true
unfolding ◌and◌
and_l true b e = refl
and_l false b e = e

pub and_r : (a b : Bool) → a and b ≡ true → b ≡ true
unfolding ◌and◌
and_r true b e = e
and_r false b e = absurd (clash e refl)

pub true_and : (a b : Bool) → a ≡ true → b ≡ true → a and b ≡ true
unfolding ◌and◌
true_and a b e f = rw (e, f) refl

-- a conjunction that fails though its first part holds
pub and_false : (a b : Bool) → a ≡ true → a and b ≡ false → b ≡ false
unfolding ◌and◌
and_false true b e f = f
and_false false b e f = absurd (clash e refl)

pub false_and : (a b : Bool) → a ≡ false → a and b ≡ false
unfolding ◌and◌
false_and a b e = rw e refl

pub or_true : (a b : Bool) → a or b ≡ true → (a ≡ true) ⊎ (b ≡ true)
unfolding ◌or◌
or_true true b e = inl refl
or_true false b e = inr e

pub or_l : (a b : Bool) → a ≡ true → a or b ≡ true
unfolding ◌or◌
or_l a b e = rw e refl

pub or_r : (a b : Bool) → b ≡ true → a or b ≡ true
unfolding ◌or◌
or_r true b e = refl
or_r false b e = e

-- neither part of a disjunction that fails
pub or_none : (a b : Bool) → a or b ≡ false → (a ≡ false) × (b ≡ false)
unfolding ◌or◌
or_none true b e = absurd (clash refl e)
or_none false b e = (refl, e)

pub all_true : (n : ℕ) (p : ℕ → Bool) → allb n p ≡ true → (i : ℕ) → i < n → p i ≡ true
unfolding allb
all_true zero p e i h = absurd (omega arith)
all_true (suc n) p e i h = elim (ℕ_discrete i n) [ yes q ↦ rw q (and_l _ _ e) | no q ↦ all_true n p (and_r _ _ e) i (omega arith) ]

pub true_all : (n : ℕ) (p : ℕ → Bool) → ((i : ℕ) → i < n → p i ≡ true) → allb n p ≡ true
unfolding allb
true_all zero p h = refl
true_all (suc n) p h = true_and _ _ (h n (omega arith)) (true_all n p (λ i q. h i (omega arith)))

pub none_some : {A B : Type 0} {m : B} {o : Option B} → o ≡ none → o ≡ some m → A
none_some e f = absurd (let z : ◌≡◌ {A = ℕ} 0 1 = cc in omega arith)

pub some_same : {B : Type 0} {k m : B} → some k ≡ some m → k ≡ m
some_same e = cc

pub some_true : {A : Type 0} (q : Option A) → someb q ≡ true → (o : A) × (q ≡ some o)
unfolding someb
some_true none e = absurd (clash e refl)
some_true (some o) e = (o, refl)

pub some_false : {A : Type 0} (q : Option A) → someb q ≡ false → q ≡ none
unfolding someb
some_false none e = refl
some_false (some o) e = absurd (clash refl e)

pub true_some : {A : Type 0} (q : Option A) (o : A) → q ≡ some o → someb q ≡ true
unfolding someb
true_some q o e = rw e refl

pub holds_true : (o : Option ℕ) (i : ℕ) → holds o i ≡ true → o ≡ some i
unfolding holds
holds_true none i e = absurd (clash e refl)
holds_true (some k) i e = ap some (eqb-true k i e)

pub true_holds : (o : Option ℕ) (i : ℕ) → o ≡ some i → holds o i ≡ true
unfolding holds
true_holds o i e = rw e (eq-eqb i i refl)

-- two tests are one where each follows from the other
pub same_test : (a b : Bool) → (a ≡ true → b ≡ true) → (b ≡ true → a ≡ true) → a ≡ b
same_test true b f g = sym (f refl)
same_test false true f g = absurd (clash (g refl) refl)
same_test false false f g = refl

-- a second part need agree only where the first holds
pub and_same : (a b c : Bool) → (a ≡ true → b ≡ c) → a and b ≡ a and c
unfolding ◌and◌
and_same true b c h = h refl
and_same false b c h = refl

pub all_same : (n m : ℕ) (p q : ℕ → Bool) → n ≡ m → ((i : ℕ) → i < n → p i ≡ q i) → allb n p ≡ allb m q
all_same n m p q e h = same_test _ _
    (λ u. true_all m q (λ i k. (let r : i < n = omega arith in sym (h i r) ∙ all_true n p u i r)))
    (λ u. true_all n p (λ i k. h i k ∙ all_true m q u i (omega arith)))

-- two tests of every number below n
pub all_and : (n : ℕ) (p q : ℕ → Bool) → allb n (λ i. p i and q i) ≡ allb n p and allb n q
all_and n p q = same_test _ _
    (λ u. true_and _ _ (true_all n p (λ i h. and_l _ _ (all_true n _ u i h))) (true_all n q (λ i h. and_r _ _ (all_true n _ u i h))))
    (λ u. true_all n _ (λ i h. true_and _ _ (all_true n p (and_l _ _ u) i h) (all_true n q (and_r _ _ u) i h)))

-- a test that the places from n on pass anyway
pub all_used : (n most : ℕ) (p : ℕ → Bool) → n ≤ most → ((i : ℕ) → n ≤ i → i < most → p i ≡ true) → allb most p ≡ allb n p
all_used n most p h rest = same_test _ _ (λ e. true_all n p (λ i l. all_true most p e i (omega arith))) (λ e. true_all most p (λ i l. below e i l))
  where
    below : allb n p ≡ true → (i : ℕ) → i < most → p i ≡ true
    below e i l = elim (dec_lt i n) [ yes q ↦ all_true n p e i q | no q ↦ rest i (omega arith) l ]
