-- Laws of cutting arriving bytes with a carry: each case of the answers, by the tests that lead to it.
use Rattle.std.proofs.Math.Path.{◌≡◌}
use Rattle.std.specs.Prelude.{List, ℕ, ◌+◌, ◌≤◌, ◌<◌, Some, None}
use Rattle.std.proofs.Math.ListN.{length}
use borrow.Author.Tests.{le-leb, lt-leb, lt-ltb, le-ltb, eq-eqb, ne_eqb, leb-true, leb-false}
use Rattle.text.specs.Place.{put_bytes, room, put_answer}
use Rattle.arrive.specs.Feed.{kept_len, line_found, line_carry, fed, carry_after}
use Rattle.text.specs.Lines.{line_from, line_end}
use Rattle.std.proofs.Common.{◌∙◌, arith}
use Rattle.std.proofs.Math.Logic.{inl, inr}
use Rattle.lists.specs.TestLaws.{which}
use Rattle.arrive.specs.declared.Found.TheVariants as found

module _ (carry : List ℕ) (held : ℕ) (part : List ℕ) where
  pub kept_room : held + length part ≤ length carry → kept_len carry held part ≡ held + length part
  unfolding kept_len
  kept_room h = rw (le-leb _ _ h)

  pub kept_none : length carry < held + length part → kept_len carry held part ≡ length carry + 1
  unfolding kept_len
  kept_none h = rw (lt-leb _ _ h)

  -- what the answer of a writing tells
  pub kept_next : (n : ℕ) → put_answer carry held part ≡ Some n → kept_len carry held part ≡ n
  unfolding put_answer
  kept_next n e = elim (which (room carry held part)) [
    | inl r ↦ let k : Some (held + length part) ≡ Some n = rw r at e in kept_room (leb-true _ _ r) ∙ (cc)
    | inr r ↦ let k : None ≡ Some n = rw r at e in absurd (let z : ◌≡◌ {A = ℕ} 0 1 = cc in omega arith)
  ]

  pub kept_full : put_answer carry held part ≡ None → kept_len carry held part ≡ length carry + 1
  unfolding put_answer
  kept_full e = elim (which (room carry held part)) [
    | inl r ↦ let k : Some (held + length part) ≡ None = rw r at e in absurd (let z : ◌≡◌ {A = ℕ} 0 1 = cc in omega arith)
    | inr r ↦ kept_none (leb-false _ _ r)
  ]

  -- what the count tells
  pub kept_over : length carry < kept_len carry held part → length carry < held + length part
  kept_over h = elim (which (room carry held part)) [
    | inl r ↦ absurd (let k = leb-true (held + length part) (length carry) r in omega (arith, kept_room k))
    | inr r ↦ leb-false _ _ r
  ]

  pub kept_fits : kept_len carry held part ≤ length carry → held + length part ≤ length carry
  kept_fits h = elim (which (room carry held part)) [
    | inl r ↦ leb-true _ _ r
    | inr r ↦ absurd (omega (arith, kept_none (leb-false _ _ r)))
  ]

  pub line_same : held ≡ 0 → line_carry carry held part ≡ carry
  unfolding line_carry
  line_same z = rw (eq-eqb _ _ z)

  module _ (start end : ℕ) where
    pub found_long : length carry < held + length part → line_found carry held part start end ≡ found.Long
    unfolding line_found
    found_long h = rw (lt-leb _ _ h)

    pub found_part : held + length part ≤ length carry → held ≡ 0 → line_found carry held part start end ≡ found.Part start end
    unfolding line_found
    found_part h z = rw (le-leb _ _ h, eq-eqb _ _ z)

    pub found_carried : held + length part ≤ length carry → (held ≡ 0 → ⊥) → line_found carry held part start end ≡ found.Carried (held + length part)
    unfolding line_found
    found_carried h z = rw (le-leb _ _ h, ne_eqb _ _ z)

  pub line_put : (held ≡ 0 → ⊥) → line_carry carry held part ≡ put_bytes carry held part
  unfolding line_carry
  line_put z = rw (ne_eqb _ _ z)

module _ (carry : List ℕ) (held : ℕ) (bytes : List ℕ) (at : ℕ) where
  pub fed_line : line_end bytes at < length bytes → fed carry held bytes at ≡ record { found = line_found carry held (line_from bytes at) at (line_end bytes at); next = line_end bytes at + 1; held = 0 }
  unfolding fed
  fed_line h = rw (lt-ltb _ _ h)

  pub fed_more : length bytes ≤ line_end bytes at → fed carry held bytes at ≡ record { found = found.Nothing; next = line_end bytes at; held = kept_len carry held (line_from bytes at) }
  unfolding fed
  fed_more h = rw (le-ltb _ _ h)

  pub carry_line : line_end bytes at < length bytes → carry_after carry held bytes at ≡ line_carry carry held (line_from bytes at)
  unfolding carry_after
  carry_line h = rw (lt-ltb _ _ h)

  pub carry_more : length bytes ≤ line_end bytes at → carry_after carry held bytes at ≡ put_bytes carry held (line_from bytes at)
  unfolding carry_after
  carry_more h = rw (le-ltb _ _ h)
