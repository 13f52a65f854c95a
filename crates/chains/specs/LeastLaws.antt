-- Laws of the least value that leads to a number: it is attained, and the recursive wording says the same and nothing else.
use Rattle.std.specs.Prelude.{◌≡◌, List, Bool, true, false, ◌⊎◌, length}
use Rattle.std.proofs.Math.Path.{refl}
use Rattle.std.proofs.Common.{ap}
use Rattle.std.proofs.Math.Logic.{inl, inr}
use Rattle.std.proofs.Math.Option.{Option, some}
use Prim.Native.Nat.{ℕ, zero, suc, ◌+◌, ◌≤◌, ◌<◌}
use native.Mathlib.Omega.{arith}
use Rattle.std.proofs.Math.Decide.{ℕ_discrete, dec_le}
use borrow.Author.Tests.{ltb-true, lt-ltb}
use Rattle.lists.specs.Test.{holds}
use Rattle.lists.specs.Count.{occ}
use Rattle.lists.specs.TestLaws.{which, some_same, holds_true, true_holds}
use Rattle.chains.specs.Chain.{Chain, link, From, here, on, walk, Ended}
use Rattle.chains.specs.Least.{least, leads_to, least_leading, Recursive}
use Rattle.chains.specs.ChainLaws.{mem_from, from_mem, chain_short, from_snoc, from_last, from_some, walk_is_chain}

module _ (p : ℕ → Bool) (f : ℕ → ℕ) (d : ℕ) where
  pub least_start : (n : ℕ) → least n p f d ≤ d
  unfolding least
  least_start zero = omega arith
  least_start (suc n) = elim (which (p n)) [ inl e ↦ rw e (omega (arith, least_start n)) | inr e ↦ rw e (least_start n) ]

  pub least_low : (n j : ℕ) → j < n → p j ≡ true → least n p f d ≤ f j
  unfolding least
  least_low zero j h e = absurd (omega arith)
  least_low (suc n) j h e = elim (ℕ_discrete j n) [
    | yes q ↦ rw (← q, e) (omega arith)
    | no q ↦ elim (which (p n)) [
      | inl t ↦ rw t (omega (arith, least_low n j (omega arith) e))
      | inr t ↦ rw t (least_low n j (omega arith) e)
    ]
  ]

  pub least_att : (n : ℕ) → (least n p f d ≡ d) ⊎ ((j : ℕ) × (j < n) × (p j ≡ true) × (least n p f d ≡ f j))
  unfolding least
  least_att zero = inl refl
  least_att (suc n) = elim (which (p n)) [
    | inl t ↦ elim (dec_le (f n) (least n p f d)) [
      | yes h ↦ inr (n, omega arith, t, rw t (omega arith))
      | no h ↦ elim (least_att n) [
        | inl e ↦ inl (rw t (omega arith))
        | inr r ↦ inr (r.0, omega arith, r.2, rw t (omega arith))
      ]
    ]
    | inr t ↦ elim (least_att n) [
      | inl e ↦ inl (rw t e)
      | inr r ↦ inr (r.0, omega arith, r.2, rw t r.3)
    ]
  ]

-- tests that agree below n have one least
pub least_same : (n : ℕ) (p q : ℕ → Bool) (f : ℕ → ℕ) (d : ℕ) → ((j : ℕ) → j < n → p j ≡ q j) → least n p f d ≡ least n q f d
unfolding least
least_same zero p q f d h = refl
least_same (suc n) p q f d h = rw (h n (omega arith), least_same n p q f d (λ j r. h j (omega arith)))

-- numbers from n on that fail the test change nothing
pub least_used : (n most : ℕ) (p : ℕ → Bool) (f : ℕ → ℕ) (d : ℕ) → n ≤ most → ((j : ℕ) → n ≤ j → j < most → p j ≡ false) → least most p f d ≡ least n p f d
unfolding least
least_used n zero p f d h out = let z : n ≡ 0 = omega arith in rw z refl
least_used n (suc most) p f d h out = elim (ℕ_discrete n (suc most)) [
  | yes e ↦ rw e refl
  | no q ↦ rw (out most (omega arith) (omega arith)) (least_used n most p f d (omega arith) (λ j a b. out j a (omega arith)))
]

module _ {n : ℕ} {next : ℕ → Option ℕ} (s : Ended n next) where
  at_start : (j : ℕ) → j < n → (k : ℕ) → some j ≡ some k → k < n
  at_start j h k e = omega (arith, some_same e)

  leads_from : (j i : ℕ) → j < n → leads_to n next j i ≡ true → From next (some j) i
  unfolding leads_to
  leads_from j i h t = mem_from (walk_is_chain s (some j) (at_start j h)) i (ltb-true 0 (occ i (walk n next (some j))) t)

  from_leads : (j i : ℕ) → j < n → From next (some j) i → leads_to n next j i ≡ true
  unfolding leads_to
  from_leads j i h g = lt-ltb 0 (occ i (walk n next (some j))) (from_mem (walk_is_chain s (some j) (at_start j h)) g)

module _ {n : ℕ} {next : ℕ → Option ℕ} (own : ℕ → ℕ) (s : Ended n next) where
  -- it is at most the value of each that leads to it, and is the value of one
  pub leading_low : (i j : ℕ) → j < n → From next (some j) i → least_leading n next own i ≤ own j
  unfolding least_leading
  leading_low i j h g = least_low _ own _ n j h (from_leads s j i h g)

  pub leading_att : (i : ℕ) → i < n → (j : ℕ) × (j < n) × From next (some j) i × (least_leading n next own i ≡ own j)
  unfolding least_leading
  leading_att i h = elim (least_att (λ j. leads_to n next j i) own (own i) n) [
    | inl e ↦ (i, h, here, e)
    | inr r ↦ (r.0, r.1, leads_from s r.0 i r.1 r.2, r.3)
  ]

  -- the recursive wording holds of it
  pub leading_recursive : Recursive n next own (least_leading n next own)
  leading_recursive i h = omega (arith, low, high)
    where
      R : ℕ
      R = least n (λ k. holds (next k) i) (least_leading n next own) (own i)

      low : least_leading n next own i ≤ R
      low = elim (least_att (λ k. holds (next k) i) (least_leading n next own) (own i) n) [
        | inl e ↦ omega (arith, leading_low i i h here)
        | inr r ↦ (let a = leading_att r.0 r.1 in
            omega (arith, leading_low i a.0 a.1 (from_snoc a.2 (holds_true (next r.0) i r.2))))
      ]

      high : R ≤ least_leading n next own i
      high = let a = leading_att i h in elim (from_last a.2) [
        | inl e ↦ omega (arith, least_start (λ k. holds (next k) i) (least_leading n next own) (own i) n, ap own (some_same e))
        | inr r ↦ omega (arith, least_low (λ k. holds (next k) i) (least_leading n next own) (own i) n r.0 (s.of r.0 i r.2) (true_holds (next r.0) i r.2), leading_low r.0 a.0 a.1 r.1)
      ]

  -- and of nothing else
  module _ (f : ℕ → ℕ) (rec : Recursive n next own f) where
    step_low : (i j : ℕ) → i < n → next j ≡ some i → f i ≤ f j
    step_low i j h e = omega (arith, rec i h, least_low (λ k. holds (next k) i) f (own i) n j (s.of j i e) (true_holds (next j) i e))

    from_low : {o : Option ℕ} {i : ℕ} → From next o i → (j : ℕ) → o ≡ some j → j < n → f i ≤ f j
    from_low (here {k = k}) j e h = omega (arith, ap f (some_same e))
    from_low (on {i = k} g) j e h =
        let q = some_same e in
        let r = from_some g in
        let m = s.to k r.0 r.1 in
        omega (arith, from_low g r.0 r.1 m, step_low r.0 k m r.1, ap f q)

    attained : (fuel i : ℕ) {l : List ℕ} → Chain next (some i) l → i < n → n < length l + fuel → (j : ℕ) × (j < n) × From next (some j) i × (f i ≡ own j)
    attained zero i c h k = absurd (omega (arith, chain_short n s.to c (at_start s i h)))
    attained (suc fuel) i {l} c h k = elim (least_att (λ j. holds (next j) i) f (own i) n) [
      | inl e ↦ (i, h, here, omega (arith, rec i h))
      | inr r ↦ (let e = holds_true (next r.0) i r.2 in
          let a = attained fuel r.0 (link {i = r.0} {l = l} (rw e c)) r.1 (omega arith) in
          (a.0, a.1, from_snoc a.2 e, omega (arith, rec i h)))
    ]

    pub leading_only : (i : ℕ) → i < n → f i ≡ least_leading n next own i
    leading_only i h =
        let a = attained n i (s.ends i).1 h (omega (arith, nonempty (s.ends i).1)) in
        let b = leading_att i h in
        omega (arith, leading_low i a.0 a.1 a.2, from_low b.2 b.0 refl b.1, rec b.0 b.1, least_start (λ k. holds (next k) b.0) f (own b.0) n)
      where
        nonempty : {i : ℕ} {l : List ℕ} → Chain next (some i) l → 1 ≤ length l
        nonempty (link c) = omega arith
