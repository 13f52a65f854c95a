-- Rows of bytes put one after the other at the front of lent memory.
use Rattle.std.proofs.Math.Path.{◌≡◌}
use Rattle.std.specs.Prelude.{refl, List, [], ◌∷◌, ◌++◌, ℕ, ◌+◌, ◌≤◌, Some, None, length, drop}
use Rattle.std.proofs.Common.{ap, ◌∙◌, append_assoc, append-nil, arith, length-append, length-drop, take_at, drop-drop, le-leb}
use Rattle.std.proofs.Math.Seq.{drop-append-add}
use Rattle.text.specs.Place.{put_answer, put_bytes, room}
use Rattle.text.specs.PlaceLaws.{put_next, put_laid}
use Rattle.log_lines.specs.LogLine.{place_after}
use Rattle.std.proofs.Math.Logic.{inl, inr}
use Rattle.lists.specs.TestLaws.{which}

-- m is l with bs written at its front, and p is the place behind bs
record Front (l bs m : List ℕ) (p : ℕ) : Type 0 where
  pub place : p ≡ length bs
  pub memory : m ≡ bs ++ drop (length bs) l

-- one row more
front_more : (l bs m : List ℕ) (p : ℕ) (cs n : List ℕ) (q : ℕ) → Front l bs m p → length (bs ++ cs) ≤ length l
    → q ≡ place_after m p cs → n ≡ put_bytes m p cs → Front l (bs ++ cs) n q
unfolding place_after
front_more l bs m p cs n q f h e g =
    let s = length-append bs cs in
    let t = length-append bs (drop (length bs) l) in
    let u = length-drop (length bs) l in
    let w : length m ≡ length l = ap length f.memory ∙ omega arith in
    let r : p + length cs ≤ length m = omega (arith, f.place) in
    record {
      place = e ∙ rw (le-leb _ _ r) (omega (arith, f.place));
      memory = g ∙ put_laid m p cs r ∙ rw (f.place, f.memory) (
          rw (take_at bs (drop (length bs) l) (length bs) refl, drop-append-add bs (drop (length bs) l) (length cs), drop-drop (length cs) (length bs) l, s));
    }

-- rows put one after the other: each into the memory m that the one before it left, from its place p on; n and q are memory and place at the end
infixr 5 ◌then◌
pub data Puts : List ℕ → ℕ → List (List ℕ) → List ℕ → ℕ → Type 0 where
  end : {m : List ℕ} {p : ℕ} → Puts m p [] m p
  ◌then◌ : {m : List ℕ} {p : ℕ} {cs : List ℕ} {rows : List (List ℕ)} {o : List ℕ} {k : ℕ} {n : List ℕ} {q : ℕ}
      → (k ≡ place_after m p cs) × (o ≡ put_bytes m p cs) → Puts o k rows n q → Puts m p (cs ∷ rows) n q

-- the rows as one
unfoldable pub whole : List (List ℕ) → List ℕ
whole [] = []
whole (cs ∷ rows) = cs ++ whole rows

puts_front : (l bs : List ℕ) {m : List ℕ} {p : ℕ} {rows : List (List ℕ)} {n : List ℕ} {q : ℕ}
    → Puts m p rows n q → Front l bs m p → length (bs ++ whole rows) ≤ length l → Front l (bs ++ whole rows) n q
unfolding whole
puts_front l bs end f h = rw (append-nil bs) f
puts_front l bs {m} {p} (◌then◌ {cs = cs} {rows = rows} {o = o} {k = k} e r) f h =
    let a = append_assoc bs cs (whole rows) in
    let s = length-append (bs ++ cs) (whole rows) in
    let b : length (bs ++ cs ++ whole rows) ≤ length l = rw a h in
    rw (← a) (puts_front l (bs ++ cs) r (front_more l bs m p cs o k f (omega arith) e.0 e.1) b)

-- where the whole has room, rows put at the front one after the other are the whole put at once
pub puts_answer : (l : List ℕ) (rows : List (List ℕ)) {n : List ℕ} {q : ℕ}
    → Puts l 0 rows n q → length (whole rows) ≤ length l → (Some q ≡ put_answer l 0 (whole rows)) × (n ≡ put_bytes l 0 (whole rows))
puts_answer l rows {n} {q} u h =
    let z : 0 + length (whole rows) ≡ length (whole rows) = omega arith in
    let r : 0 + length (whole rows) ≤ length l = omega arith in
    let f : Front l (whole rows) n q = puts_front l [] u (record { place = refl; memory = refl }) h in
    (rw (put_next l 0 (whole rows) r, z) (ap Some f.place), rw (put_laid l 0 (whole rows) r, z) f.memory)

module _ (l : List ℕ) (at : ℕ) (bs : List ℕ) where
  pub after_next : (n : ℕ) → put_answer l at bs ≡ Some n → n ≡ place_after l at bs
  unfolding put_answer place_after
  after_next n h = elim (which (room l at bs)) [
    | inl e ↦ rw e (let g = rw e at h in cc)
    | inr e ↦ absurd (let g = rw e at h in let z : ◌≡◌ {A = ℕ} 0 1 = cc in omega arith)
  ]

  pub after_full : put_answer l at bs ≡ None → at ≡ place_after l at bs
  unfolding put_answer place_after
  after_full h = elim (which (room l at bs)) [
    | inl e ↦ absurd (let g = rw e at h in let z : ◌≡◌ {A = ℕ} 0 1 = cc in omega arith)
    | inr e ↦ rw e
  ]
