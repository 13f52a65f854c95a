-- `sound_places::each_ends` meets its contract. The loop keeps that the chains of the first j owners end. Assumes nothing.
use Rattle.std.proofs.Common.{ap, not}
use borrow.Author.Rules.{rules}
use native.Mathlib.Omega.{arith}
use Rattle.lists.specs.LoopLaws.{all_none, all_turn, all_done, all_stop}
use Rattle.rules.specs.Sizes.{max_mutexes}
use Rattle.sound_places.proofs.Laws.{ends_from}
use Rattle.sound_places.proofs.each_ends.Goals as goal

pub loop-j-init : goal.loop-j-init
loop-j-init c = let a = c.args in (search rules, all_none (ends_from a.next.now a.owner.now))

pub returns-then-not-ends : goal.returns-then-not-ends
returns-then-not-ends c =
    let a = c.args in
    let l = c.loop-j in
    all_stop (ends_from a.next.now a.owner.now) l.j max_mutexes (omega arith) c.ends.ensures (ap not c.if-not-ends.true)

pub loop-j-preserved : goal.loop-j-preserved
loop-j-preserved c =
    let a = c.args in
    let l = c.loop-j in
    (search rules, all_turn (ends_from a.next.now a.owner.now) l.j l.invariant.1 c.ends.ensures (ap not c.if-not-ends.false))

pub returns : goal.returns
returns c =
    let a = c.args in
    let l = c.loop-j in
    all_done (ends_from a.next.now a.owner.now) l.j max_mutexes (omega arith) l.invariant.1
