-- Laws of the machine that cuts arriving bytes: what it hands on is the text's lines, however the text arrives.
use Rattle.std.specs.Prelude.{◌≡◌, cond, ℕ, ◌≤◌, ◌<◌, eqb, leb, ltb, length}
use Rattle.std.proofs.Math.Path.{refl, sym}
use Rattle.std.proofs.Common.{◌∙◌, arith}
use mathlib.Core.List.{List, [], ◌∷◌, ◌++◌, append-nil, append_assoc, map, flatten}
use Rattle.std.proofs.Math.Logic.{inl, inr}
use Rattle.std.proofs.Math.ListN.{length-append}
use Rattle.std.proofs.Math.Seq.{append_snoc}
use borrow.Author.Tests.{le-leb, lt-leb, leb-true, leb-false, ltb-true, ltb-false}
use Rattle.text.specs.Cut.{up_to, on_first, pieces}
use Rattle.text.specs.Lines.{lf, lines}
use Rattle.arrive.specs.Arrive.{Line, Long, Unended, Held, Over, grown, closed, arrivals, unended_after, finished, arrived, marked}
use Rattle.lists.specs.TestLaws.{which}

module _ (most : ℕ) where
  -- a text in two pieces
  pub arrivals_append : (s : Unended) (a b : List ℕ) → arrivals most s (a ++ b) ≡ arrivals most s a ++ arrivals most (unended_after most s a) b
  unfolding arrivals unended_after
  arrivals_append s [] b = refl
  arrivals_append s (c ∷ a) b = elim (which (eqb c lf)) [
    | inl e ↦ rw (e, arrivals_append (Held []) a b)
    | inr e ↦ rw (e, arrivals_append (grown most s c) a b)
  ]

  pub after_append : (s : Unended) (a b : List ℕ) → unended_after most s (a ++ b) ≡ unended_after most (unended_after most s a) b
  unfolding unended_after
  after_append s [] b = refl
  after_append s (c ∷ a) b = elim (which (eqb c lf)) [
    | inl e ↦ rw (e, after_append (Held []) a b)
    | inr e ↦ rw (e, after_append (grown most s c) a b)
  ]

  -- in any number of pieces
  pub arrived_flat : (s : Unended) (rest : List (List ℕ)) → arrived most s rest ≡ arrivals most s (flatten rest) ++ finished (unended_after most s (flatten rest))
  unfolding arrived flatten arrivals unended_after
  arrived_flat s [] = refl
  arrived_flat s (a ∷ rest) =
      rw (arrived_flat (unended_after most s a) rest, arrivals_append s a (flatten rest), after_append s a (flatten rest))
      (sym (append_assoc (arrivals most s a) (arrivals most (unended_after most s a) (flatten rest)) (finished (unended_after most (unended_after most s a) (flatten rest)))))

  -- the line that has begun with the bytes b
  unfoldable pub begun : List ℕ → Unended
  begun b = cond (leb (length b) most) (Held b) Over

  pub begun_held : (b : List ℕ) → length b ≤ most → begun b ≡ Held b
  unfolding begun
  begun_held b h = rw (le-leb _ _ h)

  pub begun_over : (b : List ℕ) → most < length b → begun b ≡ Over
  unfolding begun
  begun_over b h = rw (lt-leb _ _ h)

  pub begun_grown : (b : List ℕ) (c : ℕ) → grown most (begun b) c ≡ begun (b ++ (c ∷ []))
  unfolding grown
  begun_grown b c = elim (which (ltb (length b) most)) [
    | inl e ↦
        let h = ltb-true (length b) most e in
        rw (begun_held b (omega arith), e, begun_held (b ++ (c ∷ [])) (omega (arith, length-append b (c ∷ []))))
    | inr e ↦
        let h = ltb-false (length b) most e in
        rw (begun_over (b ++ (c ∷ [])) (omega (arith, length-append b (c ∷ []))))
        (elim (which (leb (length b) most)) [
          | inl f ↦ rw (begun_held b (leb-true _ _ f), e)
          | inr f ↦ rw (begun_over b (leb-false _ _ f))
        ])
  ]

  pub marked_line : (l : List ℕ) → length l ≤ most → marked most l ≡ Line l
  unfolding marked
  marked_line l h = rw (le-leb _ _ h)

  pub marked_long : (l : List ℕ) → most < length l → marked most l ≡ Long
  unfolding marked
  marked_long l h = rw (lt-leb _ _ h)

  pub begun_closed : (b : List ℕ) → closed (begun b) ≡ marked most b
  unfolding begun marked
  begun_closed b = elim (which (leb (length b) most)) [ inl e ↦ rw e | inr e ↦ rw e ]

  -- bytes up to an LF end no line, and are added to the one that has begun
  pub arrivals_free : (s : Unended) (l : List ℕ) → arrivals most s (up_to lf l) ≡ []
  unfolding arrivals up_to
  arrivals_free s [] = refl
  arrivals_free s (c ∷ cs) = elim (which (eqb c lf)) [ inl e ↦ rw e | inr e ↦ rw (e, e, arrivals_free (grown most s c) cs) ]

  pub after_free : (b l : List ℕ) → unended_after most (begun b) (up_to lf l) ≡ begun (b ++ up_to lf l)
  unfolding unended_after up_to
  after_free b [] = rw (append-nil b)
  after_free b (c ∷ cs) = elim (which (eqb c lf)) [
    | inl e ↦ rw (e, append-nil b)
    | inr e ↦ rw (e, e, begun_grown b c, after_free (b ++ (c ∷ [])) cs, append_snoc b c (up_to lf cs))
  ]

  pub after_over : (l : List ℕ) → unended_after most Over (up_to lf l) ≡ Over
  unfolding unended_after up_to grown
  after_over [] = refl
  after_over (c ∷ cs) = elim (which (eqb c lf)) [ inl e ↦ rw e | inr e ↦ rw (e, e, after_over cs) ]

  -- the lines of a text behind the bytes b, which hold no LF
  unfoldable prefixed : List ℕ → List (List ℕ) → List (List ℕ)
  prefixed [] [] = []
  prefixed (x ∷ b) [] = (x ∷ b) ∷ []
  prefixed b (p ∷ ps) = (b ++ p) ∷ ps

  prefixed_nil : (ps : List (List ℕ)) → prefixed [] ps ≡ ps
  unfolding prefixed
  prefixed_nil [] = refl
  prefixed_nil (p ∷ ps) = refl

  prefixed_alone : (b : List ℕ) (c : ℕ) → prefixed (b ++ (c ∷ [])) [] ≡ (b ++ (c ∷ [])) ∷ []
  unfolding prefixed
  prefixed_alone [] c = refl
  prefixed_alone (x ∷ b) c = refl

  prefixed_first : (b : List ℕ) (c : ℕ) (ps : List (List ℕ)) → prefixed b (on_first c ps) ≡ prefixed (b ++ (c ∷ [])) ps
  unfolding prefixed
  prefixed_first b c [] = sym (prefixed_alone b c)
  prefixed_first b c (p ∷ ps) = rw (append_snoc b c p)

  begun_finished : (b : List ℕ) → finished (begun b) ≡ map (marked most) (prefixed b [])
  unfolding finished prefixed
  begun_finished [] = rw (begun_held [] (omega arith))
  begun_finished (x ∷ b) = elim (which (leb (length (x ∷ b)) most)) [
    | inl e ↦ rw (begun_held (x ∷ b) (leb-true _ _ e), marked_line (x ∷ b) (leb-true _ _ e))
    | inr e ↦ rw (begun_over (x ∷ b) (leb-false _ _ e), marked_long (x ∷ b) (leb-false _ _ e))
  ]

  -- the lines of what follows b, with b in front
  arrivals_prefixed : (b text : List ℕ) → arrivals most (begun b) text ++ finished (unended_after most (begun b) text) ≡ map (marked most) (prefixed b (lines text))
  unfolding arrivals unended_after lines pieces prefixed
  arrivals_prefixed b [] = begun_finished b
  arrivals_prefixed b (c ∷ cs) = elim (which (eqb c lf)) [
    | inl e ↦
        let next = rw (begun_held [] (omega arith), prefixed_nil (lines cs)) at (arrivals_prefixed [] cs) in
        rw (e, begun_closed b, append-nil b, next)
    | inr e ↦ rw (e, begun_grown b c, arrivals_prefixed (b ++ (c ∷ [])) cs, prefixed_first b c (lines cs))
  ]

  -- a text's lines, each over-long one marked
  pub arrivals_lines : (text : List ℕ) → arrivals most (Held []) text ++ finished (unended_after most (Held []) text) ≡ map (marked most) (lines text)
  arrivals_lines text = rw (begun_held [] (omega arith), prefixed_nil (lines text)) at (arrivals_prefixed [] text)

  -- and the same in whatever pieces the text arrives
  pub arrived_lines : (parts : List (List ℕ)) → arrived most (Held []) parts ≡ map (marked most) (lines (flatten parts))
  arrived_lines parts = arrived_flat (Held []) parts ∙ arrivals_lines (flatten parts)
