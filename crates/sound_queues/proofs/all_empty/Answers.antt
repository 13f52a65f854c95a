-- `sound_queues::all_empty` meets its contract. The loop carries the test of the places passed; no place stands before the first. Assumes nothing.
use Rattle.std.proofs.Common.{Bool, eqb, get_or, le-ltb, ap, sym, arith}
use Rattle.lists.specs.Test.{◌or◌}
use Rattle.lists.specs.OperatorLaws.{fits_amp}
use Rattle.checks.specs.Checks.{unused_at}
use Rattle.sound_queues.proofs.all_empty.Goals as goal

pub loop-q-preserved : goal.loop-q-preserved
unfolding ◌or◌
loop-q-preserved c =
    let used = c.args.used.now in
    let l = c.loop-q in
    fits_amp (unused_at used 0) l.q l.fits _ l.invariant (sym (ap (λ (t : Bool). t or eqb (get_or used l.q 0) 0) (le-ltb l.q 0 (omega arith))))
