-- `sound_waiters::each_fits` meets its contract. The loop keeps that the first i tasks pass. Assumes nothing.
use Rattle.std.proofs.Common.{ap, not}
use borrow.Author.Rules.{rules}
use native.Mathlib.Omega.{arith}
use Rattle.lists.specs.LoopLaws.{all_none, all_turn, all_done, all_stop}
use Rattle.rules.specs.Sizes.{task_places}
use Rattle.checks.specs.Checks.{queue_waits_in}
use Rattle.sound_waiters.proofs.each_fits.Invariants.{fits_at}
use Rattle.sound_waiters.proofs.each_fits.Goals as goal

pub loop-i-init : goal.loop-i-init
loop-i-init c = let a = c.args in (search rules, all_none (fits_at a.wait.now a.object.now a.x a.words.now))

pub returns-then-not-wait_fits : goal.returns-then-not-wait_fits
unfolding queue_waits_in
returns-then-not-wait_fits c =
    let a = c.args in
    let l = c.loop-i in
    all_stop (fits_at a.wait.now a.object.now a.x a.words.now) l.i task_places (omega arith) c.wait_fits.ensures (ap not c.if-not-wait_fits.true)

pub loop-i-preserved : goal.loop-i-preserved
loop-i-preserved c =
    let a = c.args in
    let l = c.loop-i in
    (search rules, all_turn (fits_at a.wait.now a.object.now a.x a.words.now) l.i l.invariant.1 c.wait_fits.ensures (ap not c.if-not-wait_fits.false))

pub returns : goal.returns
unfolding queue_waits_in
returns c =
    let a = c.args in
    let l = c.loop-i in
    all_done (fits_at a.wait.now a.object.now a.x a.words.now) l.i task_places (omega arith) l.invariant.1
