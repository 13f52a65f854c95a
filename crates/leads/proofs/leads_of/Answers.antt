-- `leads::leads_of` meets its contract: nobody leads to anybody, or each is looked at.
use mathlib.Core.Path.{sym, ◌∙◌}
use Rattle.leads.proofs.Laws.{nobody_led}
use Rattle.leads.proofs.leads_of.Goals as goal

pub returns-then-none_waits : goal.returns-then-none_waits
returns-then-none_waits c =
    let a = c.args in
    nobody_led a.mutexes a.queues a.wait.now a.object.now (sym c.none_waits.ensures ∙ c.if-none_waits.true)

pub returns : goal.returns
returns c = c.each_leads.ensures
