-- What the calls for arriving bytes hand on is what the machine of one byte at a time does.
use Rattle.std.specs.Prelude.{◌≡◌, refl, List, [], ◌∷◌, ◌++◌, ℕ, ◌+◌, ◌-◌, ◌≤◌, ◌<◌, eqb, leb, ltb, length, take}
use Rattle.std.proofs.Math.Path.{ap}
use Rattle.std.proofs.Common.{sym, ◌∙◌, arith, length-append, length-take-le}
use Rattle.std.proofs.Math.Logic.{inl, inr}
use Rattle.std.proofs.Math.ListN.{drop, drop_of_length-le}
use borrow.Author.Tests.{le-leb, lt-leb, leb-true, leb-false, ltb-true, ltb-false, eqb-true, eqb-false}
use Rattle.text.specs.Place.{room, put_bytes}
use Rattle.text.specs.PlaceLaws.{put_laid, put_kept, take_laid, length_put}
use Rattle.arrive.specs.Feed.{unended_of, kept_len, line_found, line_carry, fed, carry_after, last_found, arrivals_of}
use Rattle.text.specs.Lines.{lf, line_from, line_end}
use Rattle.text.specs.Cut.{up_to}
use Rattle.text.specs.CutLaws.{up_to_take, find_split, find_whole}
use Rattle.arrive.specs.Arrive.{Line, Held, Over, closed, arrivals, unended_after, finished}
use Rattle.arrive.specs.ArriveLaws.{begun, begun_held, begun_over, arrivals_append, after_append, arrivals_free, after_free, after_over}
use Rattle.arrive.specs.FeedLaws.{kept_room, kept_none, found_long, found_part, found_carried, line_put, fed_line, fed_more, carry_line, carry_more}
use Rattle.lists.specs.TestLaws.{which}

-- the line that has begun, as the carry holds it
module _ (carry : List ℕ) (held : ℕ) where
  of_held : held ≤ length carry → unended_of carry held ≡ Held (take held carry)
  unfolding unended_of
  of_held h = rw (le-leb _ _ h)

  of_over : length carry < held → unended_of carry held ≡ Over
  unfolding unended_of
  of_over h = rw (lt-leb _ _ h)

  of_begun : held ≤ length carry → unended_of carry held ≡ begun (length carry) (take held carry)
  of_begun h = of_held h ∙ sym (begun_held (length carry) (take held carry) (omega (arith, length-take-le held carry h)))

  -- with the bytes of l up to an LF
  module _ (l : List ℕ) where
    grown_held : held + length (up_to lf l) ≤ length carry → unended_after (length carry) (unended_of carry held) (up_to lf l) ≡ Held (take held carry ++ up_to lf l)
    grown_held h =
        rw (of_begun (omega arith), after_free (length carry) (take held carry) l)
        (begun_held (length carry) (take held carry ++ up_to lf l) (omega (arith, length-append (take held carry) (up_to lf l), length-take-le held carry (omega arith))))

    grown_over : length carry < held + length (up_to lf l) → unended_after (length carry) (unended_of carry held) (up_to lf l) ≡ Over
    grown_over h = elim (which (leb held (length carry))) [
      | inl e ↦
          let k = leb-true held (length carry) e in
          rw (of_begun k, after_free (length carry) (take held carry) l)
          (begun_over (length carry) (take held carry ++ up_to lf l) (omega (arith, length-append (take held carry) (up_to lf l), length-take-le held carry k)))
      | inr e ↦ rw (of_over (leb-false _ _ e)) (after_over (length carry) l)
    ]

pub of_none : (carry : List ℕ) → unended_of carry 0 ≡ Held []
of_none carry = of_held carry 0 (omega arith)

module _ (carry : List ℕ) (held : ℕ) (bytes : List ℕ) (at : ℕ) where
  -- a part that is kept is added to the line
  kept_begun : unended_after (length carry) (unended_of carry held) (line_from bytes at)
      ≡ unended_of (put_bytes carry held (line_from bytes at)) (kept_len carry held (line_from bytes at))
  kept_begun = elim (which (room carry held (line_from bytes at))) [
    | inl e ↦
        let h = leb-true (held + length (line_from bytes at)) (length carry) e in
        let p = line_from bytes at in
        let k : held + length p ≤ length (put_bytes carry held p) = omega (arith, length_put carry held p) in
        let t = of_held (put_bytes carry held p) (held + length p) k in
        rw (grown_held carry held (drop at bytes) h, kept_room carry held p h, t, put_laid carry held p h, take_laid carry held p h)
    | inr e ↦
        let h = leb-false (held + length (line_from bytes at)) (length carry) e in
        rw (grown_over carry held (drop at bytes) h, kept_none carry held (line_from bytes at) h, put_kept carry held (line_from bytes at) h, of_over carry (length carry + 1) (omega arith))
  ]

  -- a line that ends is handed on as the answer says
  line_arrival : arrivals_of (line_carry carry held (line_from bytes at)) bytes (line_found carry held (line_from bytes at) at (line_end bytes at))
      ≡ closed (unended_after (length carry) (unended_of carry held) (line_from bytes at)) ∷ []
  line_arrival = elim (which (room carry held (line_from bytes at))) [
    | inr e ↦
        let h = leb-false (held + length (line_from bytes at)) (length carry) e in
        rw (grown_over carry held (drop at bytes) h, found_long carry held (line_from bytes at) at (line_end bytes at) h)
    | inl e ↦
        let h = leb-true (held + length (line_from bytes at)) (length carry) e in
        rw (grown_held carry held (drop at bytes) h)
        (elim (which (eqb held 0)) [
          | inl f ↦
              let z = eqb-true held 0 f in
              let n : line_end bytes at - at ≡ length (line_from bytes at) = omega arith in
              rw (found_part carry held (line_from bytes at) at (line_end bytes at) h z, n, up_to_take lf (drop at bytes), z)
          | inr f ↦
              let z = eqb-false held 0 f in
              let p = line_from bytes at in
              rw (found_carried carry held p at (line_end bytes at) h z, line_put carry held p z, put_laid carry held p h, take_laid carry held p h)
        ])
  ]

  pub feed_length : length (carry_after carry held bytes at) ≡ length carry
  unfolding carry_after line_carry
  feed_length = elim (which (ltb (line_end bytes at) (length bytes))) [
    | inl e ↦ rw e (elim (which (eqb held 0)) [ inl f ↦ rw f | inr f ↦ rw f (length_put carry held (line_from bytes at)) ])
    | inr e ↦ rw e (length_put carry held (line_from bytes at))
  ]

  -- a call goes on behind `at`, unless nothing is left there
  pub feed_on : at < length bytes → at < (fed carry held bytes at).next
  feed_on h = elim (which (ltb (line_end bytes at) (length bytes))) [
    | inl e ↦ rw (fed_line carry held bytes at (ltb-true _ _ e)) (omega arith)
    | inr e ↦ let k = ltb-false (line_end bytes at) (length bytes) e in rw (fed_more carry held bytes at k) (omega arith)
  ]

  -- what a call hands on, and then what is left hands on, is what the machine does
  pub feed_arrivals : arrivals (length carry) (unended_of carry held) (drop at bytes)
      ≡ arrivals_of (carry_after carry held bytes at) bytes (fed carry held bytes at).found
      ++ arrivals (length carry) (unended_of (carry_after carry held bytes at) (fed carry held bytes at).held) (drop (fed carry held bytes at).next bytes)
  unfolding arrivals
  feed_arrivals = elim (which (ltb (line_end bytes at) (length bytes))) [
    | inl e ↦
        let h = ltb-true (line_end bytes at) (length bytes) e in
        ap (arrivals (length carry) (unended_of carry held)) (find_split lf bytes at h)
        ∙ arrivals_append (length carry) (unended_of carry held) (line_from bytes at) (lf ∷ drop (line_end bytes at + 1) bytes)
        ∙ rw (arrivals_free (length carry) (unended_of carry held) (drop at bytes), fed_line carry held bytes at h, carry_line carry held bytes at h)
        (rw (line_arrival, of_none (line_carry carry held (line_from bytes at))))
    | inr e ↦
        let h = ltb-false (line_end bytes at) (length bytes) e in
        rw (fed_more carry held bytes at h, drop_of_length-le bytes h, ← find_whole lf bytes at h) (arrivals_free (length carry) (unended_of carry held) (drop at bytes))
  ]

  -- and so is the line that has begun then
  pub feed_after : unended_after (length carry) (unended_of carry held) (drop at bytes)
      ≡ unended_after (length carry) (unended_of (carry_after carry held bytes at) (fed carry held bytes at).held) (drop (fed carry held bytes at).next bytes)
  unfolding unended_after
  feed_after = elim (which (ltb (line_end bytes at) (length bytes))) [
    | inl e ↦
        let h = ltb-true (line_end bytes at) (length bytes) e in
        ap (unended_after (length carry) (unended_of carry held)) (find_split lf bytes at h)
        ∙ after_append (length carry) (unended_of carry held) (line_from bytes at) (lf ∷ drop (line_end bytes at + 1) bytes)
        ∙ rw (fed_line carry held bytes at h, of_none (carry_after carry held bytes at))
    | inr e ↦
        let h = ltb-false (line_end bytes at) (length bytes) e in
        rw (fed_more carry held bytes at h, drop_of_length-le bytes h, carry_more carry held bytes at h, ← kept_begun, find_whole lf bytes at h)
  ]

-- what is handed on where nothing more arrives
pub last_arrival : (carry : List ℕ) (held : ℕ) → arrivals_of carry [] (last_found carry held) ≡ finished (unended_of carry held)
unfolding last_found finished
last_arrival carry held = elim (which (eqb held 0)) [
  | inl e ↦ rw (e, eqb-true held 0 e, of_none carry)
  | inr e ↦ elim (which (leb held (length carry))) [
    | inl f ↦ let h = leb-true held (length carry) f in rw (e, f, of_held carry held h) (sym (one (take held carry) (some h (eqb-false held 0 e))))
    | inr f ↦ rw (e, f, of_over carry held (leb-false _ _ f))
  ]
] where
  one : (b : List ℕ) → 0 < length b → finished (Held b) ≡ Line b ∷ []
  one [] h = absurd (omega arith)
  one (c ∷ b) h = refl

  some : held ≤ length carry → (held ≡ 0 → ⊥) → 0 < length (take held carry)
  some h z = omega (arith, length-take-le held carry h)
