-- `leads::heirs_of` meets its contract. The loop: the places passed hold their mutexes' heirs.
use borrow.Author.Rules.{rules}
use mathlib.Core.Path.{ap, ◌∙◌}
use native.Mathlib.Omega.{arith}
use Rattle.lists.specs.FillLaws.{fill_done, fill_more, fill_none}
use Rattle.rules.specs.Sizes.{max_mutexes}
use lib.ListN.{get_or}
use Rattle.lists.specs.TableLaws.{read_any}
use Rattle.task_lists.specs.TaskList.{no_id}
use Rattle.record.specs.Reads.{heir_by, heir_at}
use Rattle.leads.proofs.heirs_of.Goals as goal

pub loop-i-init : goal.loop-i-init
loop-i-init c = let a = c.args in (search rules, fill_none max_mutexes (heir_at a.m) no_id)

pub loop-i-preserved : goal.loop-i-preserved
loop-i-preserved c =
    let a = c.args in
    let l = c.loop-i in
    (search rules, fill_more max_mutexes (heir_at a.m) no_id l.a l.i _ (omega arith) l.invariant.1 (c.heir.ensures ∙ ap (heir_by (get_or a.m.kind l.i 0)) (read_any a.m.owner l.i 0 no_id (search rules))))

pub returns : goal.returns
returns c =
    let a = c.args in
    let l = c.loop-i in
    fill_done max_mutexes (heir_at a.m) no_id l.a l.i (omega arith) l.invariant.1
