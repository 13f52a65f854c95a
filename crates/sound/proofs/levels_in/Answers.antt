-- `sound::levels_in` meets its contract: own priorities where nobody waits for a mutex or to send, else what is lent. Assumes nothing.
use mathlib.Core.Path.{sym, ◌∙◌}
use Rattle.checks.specs.Checks.{levels_in}
use Rattle.checks.specs.TestedLaws.{levels_none}
use Rattle.sound.proofs.levels_in.Goals as goal

pub returns-then-none_waits : goal.returns-then-none_waits
returns-then-none_waits c =
    let a = c.args in
    c.same.ensures ∙ sym (levels_none a.own a.level.now a.wait.now a.object.now a.m a.x (sym c.none_waits.ensures ∙ c.if-none_waits.true))

pub returns : goal.returns
unfolding levels_in
returns c = rw (c.same-2.ensures, c.lent_levels-lent.ensures, c.leads_of-to.ensures, c.heirs_of-heirs.ensures)
