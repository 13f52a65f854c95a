-- Laws of ordered lists: counts and order after an insertion, the stable order, what a test keeps, the first of least key.
use Rattle.std.specs.Prelude.{◌≡◌, refl, List, [], ◌∷◌, ◌++◌, Bool, true, false, not, ℕ, zero, suc, ◌+◌, ◌≤◌, ◌<◌, ltb, eqb, length, get_or, take}
use Rattle.std.proofs.Common.{ap, subst, sym, ◌∙◌, append-nil, inl, inr, arith, length-append, take_all, ltb-true, ltb-false, leb-true, leb-false, eqb-true, lt-ltb, le-ltb, le-leb, eq-eqb, ne_eqb}
use Rattle.std.proofs.Math.Option.{none, some}
use Rattle.std.proofs.Math.Decide.{ℕ_discrete, dec_lt}
use Rattle.std.proofs.Math.Seq.{append_snoc}
use Rattle.std.proofs.lemmas.List.{take-append-le}
use Rattle.std.proofs.lemmas.Bool.{eqb-false, not-true}
use Rattle.lists.specs.Test.{◌and◌, allb}
use Rattle.lists.specs.Count.{eqn, occ, member, below}
use Rattle.lists.specs.Order.{keep, range, by_id, place, insert_tail, insert_head, insert_all, stable, Asc, ascb, Ties, tiesb, least_of, least_first, before, inside}
use Rattle.lists.specs.TestLaws.{which, clash, by_test, and_l, and_r, true_and, or_true, or_l, or_r, all_true, true_all, none_some, same_test}
use Rattle.lists.specs.CountLaws.{eqn_at, eqn_other, occ_append, occ_head, below_out, in_below, below_le, below_suc}

pub occ_place : (p : ℕ → Bool) (x y : ℕ) (l : List ℕ) → occ y (place p x l) ≡ eqn x y + occ y l
unfolding occ place
occ_place p x y [] = refl
occ_place p x y (z ∷ l) = elim (which (p z)) [ inl e ↦ rw e refl | inr e ↦ rw e (omega (arith, occ_place p x y l)) ]

-- the first has the least key
pub asc_first : (f : ℕ → ℕ) (z : ℕ) (l : List ℕ) → Asc f (z ∷ l) → (y : ℕ) → 1 ≤ occ y (z ∷ l) → f z ≤ f y
unfolding occ
asc_first f z l a y m = elim (ℕ_discrete z y) [ yes e ↦ omega (arith, ap f e) | no n ↦ a.0 y (omega (arith, eqn_other z y n)) ]

asc_place : (f : ℕ → ℕ) (p : ℕ → Bool) (x : ℕ) → ((y : ℕ) → p y ≡ true → f x ≤ f y) → ((y : ℕ) → p y ≡ false → f y ≤ f x)
    → (l : List ℕ) → Asc f l → Asc f (place p x l)
unfolding occ place
asc_place f p x lo hi [] a = ((λ y m. absurd (omega arith)), tt)
asc_place f p x lo hi (z ∷ l) a = elim (which (p z)) [
  | inl e ↦ rw e ((λ y m. omega (arith, lo z e, asc_first f z l a y m)), a)
  | inr e ↦ rw e (
    (λ y m. elim (ℕ_discrete x y) [
      | yes q ↦ omega (arith, hi z e, ap f q)
      | no n ↦ a.0 y (omega (arith, occ_place p x y l, eqn_other x y n))
    ]),
    asc_place f p x lo hi l a.1,
  )
]

pub asc_insert_tail : (f : ℕ → ℕ) (x : ℕ) (l : List ℕ) → Asc f l → Asc f (insert_tail f x l)
unfolding insert_tail
asc_insert_tail f x = asc_place f _ x (λ y e. omega (arith, ltb-true)) (λ y e. omega (arith, ltb-false))

pub asc_insert_head : (f : ℕ → ℕ) (x : ℕ) (l : List ℕ) → Asc f l → Asc f (insert_head f x l)
unfolding insert_head
asc_insert_head f x = asc_place f _ x (λ y e. omega (arith, leb-true)) (λ y e. omega (arith, leb-false))

asc_insert_all : (f : ℕ → ℕ) (xs l : List ℕ) → Asc f l → Asc f (insert_all f xs l)
unfolding insert_all
asc_insert_all f [] l a = a
asc_insert_all f (x ∷ xs) l a = asc_insert_all f xs (insert_tail f x l) (asc_insert_tail f x l a)

pub occ_insert_all : (f : ℕ → ℕ) (y : ℕ) (xs l : List ℕ) → occ y (insert_all f xs l) ≡ occ y xs + occ y l
unfolding insert_all insert_tail occ
occ_insert_all f y [] l = omega arith
occ_insert_all f y (x ∷ xs) l = omega (arith, occ_insert_all f y xs (insert_tail f x l), occ_place (λ z. ltb (f x) (f z)) x y l)

-- the stable order is ascending and loses nothing, whatever the list was
pub asc_stable : (f : ℕ → ℕ) (l : List ℕ) → Asc f (stable f l)
unfolding stable
asc_stable f l = asc_insert_all f l [] tt

pub occ_stable : (f : ℕ → ℕ) (y : ℕ) (l : List ℕ) → occ y (stable f l) ≡ occ y l
unfolding stable occ
occ_stable f y l = omega (arith, occ_insert_all f y l [])

-- one whose key is at least every other's goes to the end
tail_last : (f : ℕ → ℕ) (x : ℕ) (l : List ℕ) → ((y : ℕ) → 1 ≤ occ y l → f y ≤ f x) → insert_tail f x l ≡ l ++ (x ∷ [])
unfolding insert_tail place occ
tail_last f x [] h = refl
tail_last f x (z ∷ l) h = rw (le-ltb (f x) (f z) (h z (occ_head z l))) (ap (z ∷◌) (tail_last f x l (λ y m. h y (omega arith))))

insert_all_asc : (f : ℕ → ℕ) (xs l : List ℕ) → Asc f xs → ((x y : ℕ) → 1 ≤ occ x xs → 1 ≤ occ y l → f y ≤ f x) → insert_all f xs l ≡ l ++ xs
unfolding insert_all occ
insert_all_asc f [] l a h = sym (append-nil l)
insert_all_asc f (x ∷ xs) l a h =
    rw (tail_last f x l (λ y m. h x y (occ_head x xs) m))
    (insert_all_asc f xs (l ++ (x ∷ [])) a.1 (λ u y m k. elim (ℕ_discrete x y) [
      | yes e ↦ omega (arith, a.0 u m, ap f e)
      | no n ↦ h u y (omega arith) (omega (arith, occ_append y l (x ∷ []), eqn_other x y n))
    ]) ∙ append_snoc l x xs)

-- a list that is ascending already stays as it is
pub stable_asc : (f : ℕ → ℕ) (l : List ℕ) → Asc f l → stable f l ≡ l
unfolding stable occ
stable_asc f l a = insert_all_asc f l [] a (λ x y m k. absurd (omega arith))

pub insert_all_append : (f : ℕ → ℕ) (xs ys l : List ℕ) → insert_all f (xs ++ ys) l ≡ insert_all f ys (insert_all f xs l)
unfolding insert_all
insert_all_append f [] ys l = refl
insert_all_append f (x ∷ xs) ys l = insert_all_append f xs ys (insert_tail f x l)

-- what a test keeps of a list
pub occ_kept : (p : ℕ → Bool) (y : ℕ) (l : List ℕ) → p y ≡ true → occ y (keep p l) ≡ occ y l
unfolding occ keep
occ_kept p y [] h = refl
occ_kept p y (x ∷ l) h = elim (which (p x)) [
  | inl e ↦ rw e (omega (arith, occ_kept p y l h))
  | inr e ↦ rw e (omega (arith, occ_kept p y l h, eqn_other x y (λ q. clash (rw q h) e)))
]

pub occ_dropped : (p : ℕ → Bool) (y : ℕ) (l : List ℕ) → p y ≡ false → occ y (keep p l) ≡ 0
unfolding occ keep
occ_dropped p y [] h = refl
occ_dropped p y (x ∷ l) h = elim (which (p x)) [
  | inl e ↦ rw e (omega (arith, occ_dropped p y l h, eqn_other x y (λ q. clash e (rw q h))))
  | inr e ↦ rw e (occ_dropped p y l h)
]

pub keep_all : (p : ℕ → Bool) (l : List ℕ) → ((y : ℕ) → 1 ≤ occ y l → p y ≡ true) → keep p l ≡ l
unfolding keep occ
keep_all p [] h = refl
keep_all p (x ∷ l) h = rw (h x (occ_head x l)) (ap (x ∷◌) (keep_all p l (λ y m. h y (omega arith))))

pub keep_none : (p : ℕ → Bool) (l : List ℕ) → ((y : ℕ) → 1 ≤ occ y l → p y ≡ false) → keep p l ≡ []
unfolding keep occ
keep_none p [] h = refl
keep_none p (x ∷ l) h = rw (h x (occ_head x l)) (keep_none p l (λ y m. h y (omega arith)))

-- the one that stands there once
pub keep_one : (x : ℕ) (l : List ℕ) → occ x l ≡ 1 → keep (eqb x) l ≡ x ∷ []
unfolding keep occ
keep_one x [] h = absurd (omega arith)
keep_one x (z ∷ l) h = elim (ℕ_discrete x z) [
  | yes e ↦ (let gone : occ x l ≡ 0 = omega (arith, eqn_at z x (sym e)) in
      rw (eq-eqb x z e, keep_none (eqb x) l (λ y m. ne_eqb x y (λ q. omega (arith, gone, ap (λ k. occ k l) q)))) (ap (λ k. k ∷ []) (sym e)))
  | no e ↦ rw (ne_eqb x z e) (keep_one x l (omega (arith, eqn_other z x (λ q. e (sym q)))))
]

pub keep_append : (p : ℕ → Bool) (s t : List ℕ) → keep p (s ++ t) ≡ keep p s ++ keep p t
unfolding keep
keep_append p [] t = refl
keep_append p (x ∷ s) t = elim (which (p x)) [ inl e ↦ rw e (ap (x ∷◌) (keep_append p s t)) | inr e ↦ rw e (keep_append p s t) ]

pub occ_range : (i n : ℕ) → occ i (range n) ≡ below i n
unfolding range occ
occ_range i zero = omega (arith, below_out i 0 (omega arith))
occ_range i (suc n) = omega (arith, occ_append i (range n) (n ∷ []), occ_range i n, below_suc i n)

length_range : (n : ℕ) → length (range n) ≡ n
unfolding range
length_range zero = refl
length_range (suc n) = omega (arith, length-append (range n) (n ∷ []), length_range n)

-- the first n of the numbers below m
pub take_range : (m n : ℕ) → n ≤ m → take n (range m) ≡ range n
unfolding range
take_range zero n h = let e : n ≡ 0 = omega arith in rw e refl
take_range (suc m) n h = elim (ℕ_discrete n (suc m)) [
  | yes e ↦ rw e (take_all (suc m) (range m ++ (m ∷ [])) (omega (arith, length-append (range m) (m ∷ []), length_range m)))
  | no e ↦ take-append-le n (range m) (m ∷ []) (omega (arith, length_range m)) ∙ take_range m n (omega arith)
]

-- those of l that pass stay, and the others by number
pub occ_split : (i n : ℕ) (same : ℕ → Bool) (l : List ℕ) → occ i l ≤ below i n
    → occ i (keep same l) + occ i (by_id n (λ j. not (same j) and member j l)) ≡ occ i l
unfolding by_id ◌and◌
occ_split i n same l h = elim (which (same i)) [
  | inl e ↦ omega (arith, occ_kept same i l e, occ_dropped p i (range n) (rw e refl))
  | inr e ↦ elim (which (member i l)) [
    | inl m ↦ omega (arith, occ_dropped same i l e, occ_kept p i (range n) (rw (e, m) refl), occ_range i n, ltb-true 0 (occ i l) m, below_le i n)
    | inr m ↦ omega (arith, occ_dropped same i l e, occ_dropped p i (range n) (rw (e, m) refl), ltb-false 0 (occ i l) m)
  ]
]
  where
    p : ℕ → Bool
    p j = not (same j) and member j l

-- ascending order and its test
pub asc_true : (f : ℕ → ℕ) (l : List ℕ) → ascb f l ≡ true → Asc f l
unfolding ascb occ
asc_true f [] e = tt
asc_true f (x ∷ []) e = ((λ y m. absurd (omega arith)), tt)
asc_true f (x ∷ y ∷ l) e = let a = asc_true f (y ∷ l) (and_r _ _ e) in
    ((λ z m. omega (arith, leb-true (f x) (f y) (and_l _ _ e), asc_first f y l a z m)), a)

pub true_asc : (f : ℕ → ℕ) (l : List ℕ) → Asc f l → ascb f l ≡ true
unfolding ascb occ
true_asc f [] a = refl
true_asc f (x ∷ []) a = refl
true_asc f (x ∷ y ∷ l) a = true_and _ _ (le-leb (f x) (f y) (a.0 y (occ_head y l))) (true_asc f (y ∷ l) a.1)

-- equal keys by number, and its test
pub ties_true : (f : ℕ → ℕ) (l : List ℕ) → Asc f l → tiesb f l ≡ true → Ties f l
unfolding tiesb occ
ties_true f [] a e = tt
ties_true f (x ∷ []) a e = ((λ y m q. absurd (omega arith)), tt)
ties_true f (x ∷ y ∷ l) a e = let t = ties_true f (y ∷ l) a.1 (and_r _ _ e) in ((λ z m q. go z m q t.0), t)
  where
    step : f x ≡ f y → x < y
    step q = elim (or_true (not (eqb (f x) (f y))) (ltb x y) (and_l _ _ e)) [
      | inl u ↦ absurd (clash (eq-eqb (f x) (f y) q) (not-true (eqb (f x) (f y)) u))
      | inr u ↦ ltb-true x y u
    ]

    go : (z : ℕ) → 1 ≤ occ z (y ∷ l) → f x ≡ f z → ((z : ℕ) → 1 ≤ occ z l → f y ≡ f z → y < z) → x < z
    go z m q r = elim (ℕ_discrete y z) [
      | yes u ↦ omega (arith, step (q ∙ ap f (sym u)))
      | no n ↦ (let k : 1 ≤ occ z l = omega (arith, eqn_other y z n) in
          let v : f x ≡ f y = omega (arith, a.0 y (occ_head y l), a.1.0 z k) in omega (arith, step v, r z k (sym v ∙ q)))
    ]

pub true_ties : (f : ℕ → ℕ) (l : List ℕ) → Ties f l → tiesb f l ≡ true
unfolding tiesb occ
true_ties f [] t = refl
true_ties f (x ∷ []) t = refl
true_ties f (x ∷ y ∷ l) t = true_and _ _ (elim (which (eqb (f x) (f y))) [
  | inl e ↦ or_r _ _ (lt-ltb x y (t.0 y (occ_head y l) (eqb-true (f x) (f y) e)))
  | inr e ↦ or_l _ _ (rw e refl)
]) (true_ties f (y ∷ l) t.1)

-- a number above all others goes behind its equals
pub ties_insert_tail : (f : ℕ → ℕ) (x : ℕ) (l : List ℕ) → Asc f l → ((y : ℕ) → 1 ≤ occ y l → y < x) → Ties f l → Ties f (insert_tail f x l)
unfolding insert_tail place occ
ties_insert_tail f x [] a h t = ((λ y m q. absurd (omega arith)), tt)
ties_insert_tail f x (z ∷ l) a h t = elim (which (ltb (f x) (f z))) [
  | inl e ↦ rw e ((λ y m q. absurd (omega (arith, ltb-true (f x) (f z) e, asc_first f z l a y m))), t)
  | inr e ↦ rw e (
    (λ y m q. elim (ℕ_discrete x y) [
      | yes u ↦ omega (arith, h z (occ_head z l))
      | no n ↦ t.0 y (omega (arith, occ_place (λ w. ltb (f x) (f w)) x y l, eqn_other x y n)) q
    ]),
    ties_insert_tail f x l a.1 (λ y m. h y (omega arith)) t.1,
  )
]

-- another key that agrees on the list
pub asc_change : (f g : ℕ → ℕ) (l : List ℕ) → ((y : ℕ) → 1 ≤ occ y l → f y ≡ g y) → Asc f l → Asc g l
unfolding occ
asc_change f g [] h a = tt
asc_change f g (x ∷ l) h a =
    ((λ y m. omega (arith, a.0 y m, h x (occ_head x l), h y (omega arith))), asc_change f g l (λ y m. h y (omega arith)) a.1)

pub ties_change : (f g : ℕ → ℕ) (l : List ℕ) → ((y : ℕ) → 1 ≤ occ y l → f y ≡ g y) → Ties f l → Ties g l
unfolding occ
ties_change f g [] h t = tt
ties_change f g (x ∷ l) h t =
    ((λ y m q. t.0 y m (omega (arith, q, h x (occ_head x l), h y (omega arith)))), ties_change f g l (λ y m. h y (omega arith)) t.1)

-- the numbers of a list are below n, and its test
pub inside_true : (n : ℕ) (l : List ℕ) → inside n l ≡ true → (i : ℕ) → n ≤ i → occ i l ≡ 0
unfolding inside occ
inside_true n [] e i h = refl
inside_true n (x ∷ l) e i h = omega (arith, inside_true n l (and_r _ _ e) i h, eqn_other x i (λ q. omega (arith, ltb-true x n (and_l _ _ e))))

pub true_inside : (n : ℕ) (l : List ℕ) → ((i : ℕ) → n ≤ i → occ i l ≡ 0) → inside n l ≡ true
unfolding inside occ
true_inside n [] h = refl
true_inside n (x ∷ l) h = true_and _ _ (lt-ltb x n (elim (dec_lt x n) [ yes q ↦ q | no q ↦ absurd (omega (arith, h x (omega arith), eqn_at x x refl)) ])) (true_inside n l (λ i q. omega (arith, h i q)))

-- the same test, place by place
inside_each : (n : ℕ) (l : List ℕ) → inside n l ≡ true → (i : ℕ) → i < length l → ltb (get_or l i 0) n ≡ true
unfolding inside
inside_each n [] e i h = absurd (omega arith)
inside_each n (x ∷ l) e zero h = and_l _ _ e
inside_each n (x ∷ l) e (suc i) h = inside_each n l (and_r _ _ e) i (omega arith)

each_inside : (n : ℕ) (l : List ℕ) → ((i : ℕ) → i < length l → ltb (get_or l i 0) n ≡ true) → inside n l ≡ true
unfolding inside
each_inside n [] h = refl
each_inside n (x ∷ l) h = true_and _ _ (h 0 (omega arith)) (each_inside n l (λ i r. h (suc i) (omega arith)))

pub inside_places : (n : ℕ) (l : List ℕ) → inside n l ≡ allb (length l) (λ i. ltb (get_or l i 0) n)
inside_places n l = same_test _ _ (λ e. true_all (length l) _ (inside_each n l e)) (λ e. each_inside n l (all_true (length l) _ e))

-- the first of least key is in the list
least_in : (f : ℕ → ℕ) (x : ℕ) (l : List ℕ) → 1 ≤ occ (least_of f x l) (x ∷ l)
unfolding least_of occ
least_in f x [] = omega (arith, eqn_at x x refl)
least_in f x (y ∷ l) = elim (which (ltb (f y) (f x))) [
  | inl e ↦ let q : least_of f x (y ∷ l) ≡ least_of f y l = rw e refl in subst (λ (w : ℕ). 1 ≤ occ w (x ∷ y ∷ l)) (sym q) (omega (arith, least_in f y l))
  | inr e ↦ let q : least_of f x (y ∷ l) ≡ least_of f x l = rw e refl in subst (λ (w : ℕ). 1 ≤ occ w (x ∷ y ∷ l)) (sym q) (omega (arith, least_in f x l))
]

pub least_some : (f : ℕ → ℕ) (l : List ℕ) (w : ℕ) → least_first f l ≡ some w → 1 ≤ occ w l
unfolding least_first
least_some f [] w e = none_some refl e
least_some f (x ∷ l) w e = let q : least_of f x l ≡ w = cc in rw q at (least_in f x l)

pub least_none : (f : ℕ → ℕ) (l : List ℕ) → least_first f l ≡ none → (i : ℕ) → occ i l ≡ 0
unfolding least_first occ
least_none f [] e i = refl
least_none f (x ∷ l) e i = none_some e refl

-- up to the first x: without x, and nothing more often than in the list
pub before_le : (x : ℕ) (l : List ℕ) → length (before x l) ≤ length l
unfolding before
before_le x [] = omega arith
before_le x (y ∷ l) = by_test (λ (t : List ℕ). length t ≤ length (y ∷ l)) (eqb y x) (λ e. omega arith) (λ e. omega (arith, before_le x l))

pub occ_before : (x y : ℕ) (l : List ℕ) → occ y (before x l) ≤ occ y l
unfolding before occ
occ_before x y [] = omega arith
occ_before x y (z ∷ l) = by_test (λ (t : List ℕ). occ y t ≤ eqn z y + occ y l) (eqb z x) (λ e. omega arith) (λ e. omega (arith, occ_before x y l))

pub before_without : (x : ℕ) (l : List ℕ) → occ x (before x l) ≡ 0
unfolding before occ
before_without x [] = refl
before_without x (z ∷ l) = by_test (λ (t : List ℕ). occ x t ≡ 0) (eqb z x) (λ e. refl) (λ e. omega (arith, before_without x l, eqn_other z x (eqb-false z x e)))

-- tests that agree on the list keep the same
pub keep_ext : (p q : ℕ → Bool) (l : List ℕ) → ((y : ℕ) → 1 ≤ occ y l → p y ≡ q y) → keep p l ≡ keep q l
unfolding keep occ
keep_ext p q [] h = refl
keep_ext p q (x ∷ l) h = rw (h x (occ_head x l), keep_ext p q l (λ y m. h y (omega arith)))

pub by_id_ext : (n : ℕ) (p q : ℕ → Bool) → ((i : ℕ) → i < n → p i ≡ q i) → by_id n p ≡ by_id n q
unfolding by_id
by_id_ext n p q h = keep_ext p q (range n) (λ y m. h y (in_below y n (omega (arith, occ_range y n))))

pub by_id_none : (n : ℕ) (p : ℕ → Bool) → ((i : ℕ) → p i ≡ false) → by_id n p ≡ []
unfolding by_id
by_id_none n p h = keep_none p (range n) (λ y m. h y)

-- what is kept was there, and passes
pub keep_in : (p : ℕ → Bool) (y : ℕ) (l : List ℕ) → 1 ≤ occ y (keep p l) → (p y ≡ true) × (1 ≤ occ y l)
keep_in p y l h = elim (which (p y)) [
  | inl e ↦ (e, omega (arith, occ_kept p y l e))
  | inr e ↦ absurd (omega (arith, occ_dropped p y l e))
]

pub asc_keep : (f : ℕ → ℕ) (p : ℕ → Bool) (l : List ℕ) → Asc f l → Asc f (keep p l)
unfolding keep
asc_keep f p [] a = tt
asc_keep f p (x ∷ l) a = by_test (Asc f) (p x) (λ e. ((λ y m. a.0 y (keep_in p y l m).1), asc_keep f p l a.1)) (λ e. asc_keep f p l a.1)

-- in front of what is inserted, an ascending list stays
pub stable_append : (f : ℕ → ℕ) (l xs : List ℕ) → Asc f l → stable f (l ++ xs) ≡ insert_all f xs l
unfolding stable
stable_append f l xs a = insert_all_append f l xs [] ∙ ap (insert_all f xs) (stable_asc f l a)

-- all but x, and how often x stands there
length_without : (x : ℕ) (l : List ℕ) → length l ≡ length (keep (λ y. not (eqb y x)) l) + occ x l
unfolding keep occ
length_without x [] = refl
length_without x (y ∷ l) = elim (ℕ_discrete y x) [
  | yes e ↦ rw (eq-eqb y x e) (omega (arith, length_without x l, eqn_at y x e))
  | no n ↦ rw (ne_eqb y x n) (omega (arith, length_without x l, eqn_other y x n))
]

-- distinct numbers that all stand in k are no more than stand there
pub embedded : (k l : List ℕ) → ((y : ℕ) → occ y l ≤ 1) → ((y : ℕ) → 1 ≤ occ y l → 1 ≤ occ y k) → length l ≤ length k
unfolding occ
embedded [] [] d h = omega arith
embedded [] (x ∷ l) d h = absurd (omega (arith, h x (occ_head x l)))
embedded (x ∷ k) l d h = omega (arith, length_without x l, d x, embedded k (keep p l) few (λ y m. stands y m))
  where
    p : ℕ → Bool
    p y = not (eqb y x)

    few : (y : ℕ) → occ y (keep p l) ≤ 1
    few y = elim (which (p y)) [ inl e ↦ omega (arith, occ_kept p y l e, d y) | inr e ↦ omega (arith, occ_dropped p y l e) ]

    stands : (y : ℕ) → 1 ≤ occ y (keep p l) → 1 ≤ occ y k
    stands y m = elim (ℕ_discrete x y) [
      | yes e ↦ absurd (omega (arith, occ_dropped p y l (rw (eq-eqb y x (sym e)) refl)))
      | no n ↦ omega (arith, h y (omega (arith, occ_kept p y l (rw (ne_eqb y x (λ e. n (sym e))) refl))), eqn_other x y n)
    ]
