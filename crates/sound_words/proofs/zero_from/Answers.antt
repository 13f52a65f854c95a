-- `sound_words::zero_from` meets its contract. The loop carries the test of the words passed; those before the first pass anyway, and so do those behind the end. Assumes nothing.
use borrow.Author.Rules.{rules}
use mathlib.Core.Path.{ap, sym, ◌∙◌}
use mathlib.Core.Bool.{Bool}
use mathlib.Core.Logic.{inl, inr}
use native.Mathlib.Omega.{arith}
use lib.Dec.{eqb}
use lib.ListN.{get_or}
use borrow.Author.Tests.{le-ltb}
use Rattle.lists.specs.Test.{◌or◌}
use Rattle.lists.specs.OperatorLaws.{fits_amp}
use Rattle.checks.specs.Checks.{unused_at}
use Rattle.sound_words.proofs.Laws.{unused_front, unused_end}
use Rattle.sound_words.proofs.zero_from.Goals as goal

pub loop-k-init : goal.loop-k-init
loop-k-init c = let a = c.args in (search rules, inr (search rules), unused_front a.words.now a.first)

pub loop-k-preserved : goal.loop-k-preserved
unfolding ◌or◌
loop-k-preserved c =
    let a = c.args in
    let l = c.loop-k in (
      search rules,
      inl (omega (arith, c.min-end.ensures)),
      fits_amp (unused_at a.words.now a.first) l.k l.fits _ l.invariant.2
          (sym (ap (λ (t : Bool). t or eqb (get_or a.words.now l.k 0) 0) (le-ltb l.k a.first l.invariant.0))),
    )

pub returns : goal.returns
returns c =
    let a = c.args in
    let l = c.loop-k in
    l.invariant.2 ∙ unused_end a.words.now a.first l.k l.invariant.1 (omega (arith, c.min-end.ensures))
