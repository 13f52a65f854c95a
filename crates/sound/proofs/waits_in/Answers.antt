-- `sound::waits_in` meets its contract: where nobody waits for an object all is well, else phrase by phrase, until one fails. Assumes nothing.
use Rattle.std.proofs.Common.{ap, not}
use mathlib.Core.Path.{◌≡◌, refl, sym, ◌∙◌}
use Rattle.lists.specs.Test.{◌and◌, allb}
use Rattle.rules.specs.Sizes.{task_places}
use Rattle.lists.specs.LoopLaws.{test_passed, test_failed}
use Rattle.checks.specs.Checks.{blocked_at, blocked_in, ringless, waits_in}
use Rattle.checks.specs.TestedLaws.{waits_none, blocked_tables}
use Rattle.sound.proofs.Facts.{owner_long}
use Rattle.sound.proofs.waits_in.Goals as goal

pub returns-then-none_for_objects : goal.returns-then-none_for_objects
returns-then-none_for_objects c =
    let a = c.args in
    sym (waits_none a.wait.now a.object.now a.m a.c a.x a.words.now (sym c.none_for_objects.ensures ∙ c.if-none_for_objects.true))

pub returns-then-not-blocked : goal.returns-then-not-blocked
unfolding waits_in blocked_in ringless ◌and◌
returns-then-not-blocked c =
    let a = c.args in
    let e : c.blocked.result ≡ allb task_places (blocked_at a.wait.now a.object.now a.m.owner a.c.count a.c.n) =
    c.blocked.ensures ∙ rw (c.leads_of-next.ensures, c.at_objects-empty.ensures, c.empties.ensures)
    (blocked_tables a.wait.now a.object.now a.m.owner a.x.owner a.c.count a.c.n (owner_long a.m _ c.well_formed.1.1.0)) in
    rw (test_failed e (ap not c.if-not-blocked.true))

pub returns-then-not-fit : goal.returns-then-not-fit
unfolding waits_in blocked_in ringless ◌and◌
returns-then-not-fit c =
    let a = c.args in
    let e : c.blocked.result ≡ allb task_places (blocked_at a.wait.now a.object.now a.m.owner a.c.count a.c.n) =
    c.blocked.ensures ∙ rw (c.leads_of-next.ensures, c.at_objects-empty.ensures, c.empties.ensures)
    (blocked_tables a.wait.now a.object.now a.m.owner a.x.owner a.c.count a.c.n (owner_long a.m _ c.well_formed.1.1.0)) in
    rw (test_passed e (ap not c.if-not-blocked.false), test_failed c.fit.ensures (ap not c.if-not-fit.true))

pub returns : goal.returns
unfolding waits_in blocked_in ringless ◌and◌
returns c =
    let a = c.args in
    let e : c.blocked.result ≡ allb task_places (blocked_at a.wait.now a.object.now a.m.owner a.c.count a.c.n) =
    c.blocked.ensures ∙ rw (c.leads_of-next.ensures, c.at_objects-empty.ensures, c.empties.ensures)
    (blocked_tables a.wait.now a.object.now a.m.owner a.x.owner a.c.count a.c.n (owner_long a.m _ c.well_formed.1.1.0)) in
    rw (test_passed e (ap not c.if-not-blocked.false), test_passed c.fit.ensures (ap not c.if-not-fit.false)) (c.owners_end.ensures ∙ rw c.leads_of-next.ensures refl)
