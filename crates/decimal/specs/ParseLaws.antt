-- Laws of reading a decimal number, and the round trip: parse of what is written is the number, and what parse takes is written the same again.
use Rattle.std.specs.Prelude.{◌≡◌, refl, List, [], ◌∷◌, ◌++◌, ℕ, zero, suc, ◌+◌, ◌-◌, ◌/◌, ◌^◌, ◌≤◌, ◌<◌, Option, Some, None, option_and_then, ltb, eqb, length, get_or, drop}
use Rattle.std.proofs.Common.{ap, sym, ◌∙◌, append-nil, inl, inr, add-one, arith, drop_of_length-le, drop-cons, le-ltb, eq-eqb, ne_eqb, ltb-true, ltb-false, eqb-true}
use Rattle.std.proofs.Math.Seq.{append_snoc}
use Rattle.std.proofs.lemmas.Bool.{eqb-false}
use Rattle.std.proofs.lemmas.Option.{none-some, option_and_then_some}
use Rattle.decimal.specs.Decimal.{decimal, digits_within, last_digit, zero_byte}
use Rattle.decimal.specs.Parse.{most, nine_byte, appended, with_digit, with_digits, lone_zero, parsed}
use Rattle.lists.specs.TestLaws.{which}
use Rattle.decimal.specs.DecimalLaws.{within_small, within_large, tenth, some, no_zero, decimal_more}

-- one digit at place i
pub digits_step : (n : ℕ) (l : List ℕ) (i : ℕ) → i < length l → with_digits n (drop i l) ≡ option_and_then (λ m. with_digits m (drop (i + 1) l)) (with_digit n (get_or l i 0))
unfolding with_digits
digits_step n l i h = rw (add-one, drop-cons l i 0 h)

pub digits_end : (n : ℕ) (l : List ℕ) (i : ℕ) → length l ≤ i → with_digits n (drop i l) ≡ Some n
unfolding with_digits
digits_end n l i h = rw (drop_of_length-le l h)

pub parsed_none : (l : List ℕ) → length l ≡ 0 → parsed l ≡ None
unfolding parsed
parsed_none [] h = refl
parsed_none (c ∷ cs) h = absurd (omega arith)

pub parsed_lone : (l : List ℕ) → length l ≡ 1 → get_or l 0 0 ≡ zero_byte → parsed l ≡ Some 0
unfolding parsed
parsed_lone [] h e = absurd (omega arith)
parsed_lone (c ∷ []) h e = rw (eq-eqb c zero_byte e)
parsed_lone (c ∷ d ∷ cs) h e = absurd (omega arith)

pub parsed_leading : (l : List ℕ) → (length l ≡ 1 → ⊥) → get_or l 0 0 ≡ zero_byte → parsed l ≡ None
unfolding parsed
parsed_leading [] h e = absurd (let z : 0 ≡ zero_byte = e in omega arith)
parsed_leading (c ∷ []) h e = absurd (h refl)
parsed_leading (c ∷ d ∷ cs) h e = rw (eq-eqb c zero_byte e)

pub parsed_digits : (l : List ℕ) → 0 < length l → (get_or l 0 0 ≡ zero_byte → ⊥) → parsed l ≡ with_digits 0 l
unfolding parsed
parsed_digits [] h e = absurd (omega arith)
parsed_digits (c ∷ cs) h e = rw (ne_eqb c zero_byte e)

-- a digit that is one, on a number that stays within 32 bits
pub digit_taken : (n c : ℕ) → zero_byte ≤ c → c ≤ nine_byte → appended n c ≤ most → with_digit n c ≡ Some (appended n c)
unfolding with_digit
digit_taken n c h k m = rw (le-ltb _ _ h, le-ltb _ _ k, le-ltb _ _ m)

-- what a digit that was taken was
pub record Taken (n c v : ℕ) : Type 0 where
  pub low : zero_byte ≤ c
  pub high : c ≤ nine_byte
  pub fits : v ≤ most
  pub sum : v ≡ appended n c

pub digit_was : (n c v : ℕ) → with_digit n c ≡ Some v → Taken n c v
unfolding with_digit
digit_was n c v h = elim (which (ltb c zero_byte)) [
  | inl e ↦ absurd (none-some v (rw e at h))
  | inr e ↦ elim (which (ltb nine_byte c)) [
    | inl f ↦ absurd (none-some v (rw (e, f) at h))
    | inr f ↦ elim (which (ltb most (appended n c))) [
      | inl g ↦ absurd (none-some v (rw (e, f, g) at h))
      | inr g ↦
          let k : Some (appended n c) ≡ Some v = rw (e, f, g) at h in
          let m : appended n c ≡ v = cc in
          record {
            low = ltb-false c zero_byte e;
            high = ltb-false nine_byte c f;
            fits = omega (arith, ltb-false most (appended n c) g);
            sum = sym m;
          }
    ]
  ]
]

and_then : (x : Option ℕ) (f g h : ℕ → Option ℕ) → ((m : ℕ) → f m ≡ option_and_then h (g m)) → option_and_then f x ≡ option_and_then h (option_and_then g x)
and_then (Some n) f g h e = e n
and_then None f g h e = refl

pub digits_append : (n : ℕ) (a b : List ℕ) → with_digits n (a ++ b) ≡ option_and_then (λ m. with_digits m b) (with_digits n a)
unfolding with_digits
digits_append n [] b = refl
digits_append n (c ∷ a) b = and_then (with_digit n c) _ _ _ (λ m. digits_append m a b)

last_back : (v : ℕ) → v ≤ most → with_digits (v / 10) (last_digit v ∷ []) ≡ Some v
unfolding with_digits
last_back v h =
    let e : appended (v / 10) (last_digit v) ≡ v = omega arith in
    rw (digit_taken (v / 10) (last_digit v) (omega arith) (omega arith) (omega arith)) (ap Some e)

-- the digits of v read back
digits_back : (f v : ℕ) → v < 10 ^ suc f → v ≤ most → with_digits 0 (digits_within (suc f) v) ≡ Some v
digits_back zero v h k = let z : v / 10 ≡ 0 = omega arith in rw (within_small 0 v (omega arith)) (rw z at (last_back v k))
digits_back (suc f) v h k = elim (which (ltb v 10)) [
  | inl e ↦
      let s = ltb-true v 10 e in
      let z : v / 10 ≡ 0 = omega arith in
      rw (within_small (suc f) v s) (rw z at (last_back v k))
  | inr e ↦
      let b = digits_back f (v / 10) (tenth (suc f) v h) (omega arith) in
      rw (within_large (suc f) v (ltb-false v 10 e), digits_append 0 (digits_within (suc f) (v / 10)) (last_digit v ∷ []), b) (last_back v k)
]

zero_written : decimal 0 ≡ zero_byte ∷ []
unfolding decimal
zero_written = within_small 9 0 (omega arith)

-- parse of what was written is the number
pub parse_written : (v : ℕ) → v ≤ most → parsed (decimal v) ≡ Some v
unfolding decimal
parse_written zero h = rw zero_written (parsed_lone (zero_byte ∷ []) refl refl)
parse_written (suc v) h =
    parsed_digits (digits_within 10 (suc v)) (some 9 (suc v)) (no_zero 9 (suc v) (omega arith) (omega arith))
    ∙ digits_back 9 (suc v) (omega arith) h

digits_written : (n v : ℕ) (cs : List ℕ) → 0 < n → n ≤ most → with_digits n cs ≡ Some v → (v ≤ most) × (decimal n ++ cs ≡ decimal v)
unfolding with_digits
digits_written n v [] p q h = let e : n ≡ v = cc in (omega arith, append-nil (decimal n) ∙ ap decimal e)
digits_written n v (c ∷ cs) p q h = option_and_then_some (λ m. with_digits m cs) (with_digit n c) v h (λ m e g.
    let t = digit_was n c m e in
    let r = digits_written m v cs (omega arith) t.fits g in
    let b : zero_byte + (c - zero_byte) ≡ c = omega arith in
    let d : decimal m ≡ decimal n ++ (c ∷ []) = rw (t.sum, decimal_more n (c - zero_byte) p (omega arith) (omega arith), b) in
    (r.0, sym (append_snoc (decimal n) c cs) ∙ (rw d at r.1)))

-- what parse takes is written the same again
pub written_parse : (l : List ℕ) (v : ℕ) → parsed l ≡ Some v → (v ≤ most) × (decimal v ≡ l)
unfolding parsed with_digits decimal
written_parse [] v h = absurd (none-some v h)
written_parse (c ∷ cs) v h = elim (which (eqb c zero_byte)) [
  | inl e ↦ lone cs (rw e at h) (eqb-true c zero_byte e)
  | inr e ↦ digits (rw e at h) (eqb-false c zero_byte e)
] where
  lone : (ds : List ℕ) → lone_zero ds ≡ Some v → c ≡ zero_byte → (v ≤ most) × (decimal v ≡ c ∷ ds)
  lone [] g e = let z : 0 ≡ v = cc in (omega arith, rw (← z, e) zero_written)
  lone (d ∷ ds) g e = absurd (none-some v g)

  digits : with_digits 0 (c ∷ cs) ≡ Some v → (c ≡ zero_byte → ⊥) → (v ≤ most) × (decimal v ≡ c ∷ cs)
  digits g e = option_and_then_some (λ m. with_digits m cs) (with_digit 0 c) v g (λ m u w.
      let t = digit_was 0 c m u in
      let r = digits_written m v cs (omega arith) t.fits w in
      let b : last_digit m ≡ c = omega arith in
      (r.0, sym (rw (within_small 9 m (omega arith), b) at r.1)))
