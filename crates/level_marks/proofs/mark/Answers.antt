-- `level_marks::mark` meets its contract. Assumes nothing.
use mathlib.Core.Path.{sym, ◌∙◌}
use Prim.Native.Nat.{◌^◌, ◌<◌}
use native.Mathlib.Omega.{arith}
use native.Mathlib.Nat.{one-mul}
use lib.Dec.{lit<}
use lib.Pow.{shl_exact}
use Rattle.rules.specs.Sizes.{levels}
use Rattle.level_marks.specs.BitLaws.{one_where, beyond_where}
use Rattle.level_marks.proofs.mark.Goals as goal

pub returns-then-level-ge-LEVELS : goal.returns-then-level-ge-LEVELS
returns-then-level-ge-LEVELS c = sym (beyond_where levels c.args.level (omega (arith, c.if-level-ge-LEVELS.true)))

pub returns : goal.returns
returns c =
    let l = c.args.level in
    let h : l < levels = omega arith in
    shl_exact {a = 1} 1 l levels (lit< tt) (omega arith) ∙ one-mul (2 ^ l) ∙ sym (one_where levels l h)
