-- `task_lists::best_waiter` meets its contract. The loop over the levels: the first found from this level on is the first found from level 0 on; the loop in it: the first of this level among the waiters from this place on is the first of all.
use borrow.Author.Rules.{rules}
use mathlib.Core.Path.{refl, ap, sym, ◌∙◌}
use native.Mathlib.Omega.{arith}
use Rattle.task_lists.specs.TaskList.{key_of, id_of}
use Rattle.task_lists.proofs.Laws.{first_hit, first_miss, first_end, from_hit, from_miss, from_end, nobody, best_of_lem}
use Rattle.task_lists.proofs.best_waiter.Goals as goal

pub returns-then-n-eq0 : goal.returns-then-n-eq0
returns-then-n-eq0 c =
    let a = c.args in
    let w = c.waiters_of-w in
    sym (nobody w.result (key_of a.keys) (omega arith)) ∙ best_of_lem a.q w.result a.kinds a.objects a.keys a.kind a.object w.ensures

pub levels-init : goal.levels-init
levels-init c = (search rules, refl)

pub waits-init : goal.waits-init
waits-init c = refl

pub waits-preserved : goal.waits-preserved
waits-preserved c =
    let a = c.args in
    let w = c.waiters_of-w.result in
    let l = c.levels in
    let i = c.waits in
    let k = c.key_in.ensures in
    sym (first_miss w (key_of a.keys) l.l i.i (omega arith) (λ e. c.if-key_in-l.false (k ∙ e))) ∙ i.invariant

pub levels-preserved : goal.levels-preserved
levels-preserved c =
    let a = c.args in
    let w = c.waiters_of-w.result in
    let l = c.levels in
    let i = c.waits in
    let f = key_of a.keys in
    let none_here = sym i.invariant ∙ first_end w f l.l i.i (omega arith) in
    (search rules, ap id_of (sym (from_miss f l.l _ c.if-l-ge-LEVELS.false none_here)) ∙ l.invariant.1)

pub returns-then-l-ge-LEVELS : goal.returns-then-l-ge-LEVELS
returns-then-l-ge-LEVELS c =
    let a = c.args in
    let w = c.waiters_of-w in
    sym (from_end _ _ _ c.if-l-ge-LEVELS.true) ∙ c.levels.invariant.1
    ∙ best_of_lem a.q w.result a.kinds a.objects a.keys a.kind a.object w.ensures

pub returns-then-key_in-l : goal.returns-then-key_in-l
returns-then-key_in-l c =
    let a = c.args in
    let w = c.waiters_of-w in
    let l = c.levels in
    let i = c.waits in
    let f = key_of a.keys in
    let k = c.key_in.ensures in
    let found = sym i.invariant ∙ first_hit w.result f l.l i.i (omega arith) (sym k ∙ c.if-key_in-l.true) in
    sym (from_hit f l.l _ _ c.if-l-ge-LEVELS.false found) ∙ l.invariant.1
    ∙ best_of_lem a.q w.result a.kinds a.objects a.keys a.kind a.object w.ensures
