-- Refusals and acceptances of the packed state: the rows of a step, one after another, and what stands behind them.
use Rattle.std.specs.Prelude.{◌≡◌, refl, List, [], ◌∷◌, Bool, true, false, cond, not, ℕ, ◌<◌, ltb, leb, eqb}
use Rattle.std.proofs.Common.{ap, sym, ◌∙◌, arith, ltb-true, ltb-false, eq-eqb, ne_eqb}
use Rattle.std.proofs.Math.Option.{Option, none, some}
use Rattle.std.proofs.lemmas.Bool.{not-false}
use Rattle.lists.specs.Test.{◌or◌, someb}
use Rattle.lists.specs.TestLaws.{by_test, some_true}
use Rattle.rules.specs.Sizes.{task_places}
use Rattle.rules.specs.Effect.{Effect, called, effect}
use Rattle.rules.specs.Settle.{settle, dispatch, finish}
use Rattle.rules.specs.Refusal.{Row, ◌when◌, no_caller, refusals, first_row}
use Rattle.rules.specs.Invariant.{Inv}
use Rattle.rules.proofs.StepLaws.{caller_in}
use Rattle.task_lists.specs.TaskList.{no_id, id_of}
use Rattle.machine.specs.Planned.{plan_for}
use Rattle.moves.specs.declared.Move.{Move}  -- keep
use Rattle.moves.specs.declared.Move.TheVariants.{Nothing}  -- keep
use Rattle.record.specs.Record.{pack}
use Rattle.record.specs.StepRecord.{answer_for}
use Rattle.machine.specs.Machine.{answer_moving, answer_in, caller_refusal, called_by}
use Rattle.record.specs.ColumnLaws.{chosen, skipped}
use Rattle.record.specs.declared.State.{State}  -- keep
use Rattle.record.specs.declared.Plan.{Plan}  -- keep
use Rattle.rules.specs.State.{State as Model, level_of}  -- keep
use Rattle.rules.specs.Step.{Step}  -- keep
use Rattle.rules.specs.Answer.{decide, answered, step_sound}  -- keep

-- what comes of a step beside the rules' answer: where the oldest messages stand before it and after it, and what is to be moved
pub record Course : Type 0 where
  pub before : List ℕ
  pub after : List ℕ
  pub move : Move

-- a step that takes no message and moves nothing
abbrev pub still : List ℕ → Course
still o = record { before = o; after = o; move = Nothing }

-- what the rules answer: a refusal moves nothing
unfoldable pub decided : Course → Model → Step → Option Row → Plan
decided c s x (some r) = plan_for c.before Nothing (decide s x (some r))
decided c s x none = plan_for c.after c.move (decide s x none)

-- by some rows
unfoldable pub ruled : Course → Model → Step → List Row → Plan
ruled c s x rs = decided c s x (first_row rs)

pub by_rows : (o : List ℕ) (s : Model) (x : Step) {p : Plan} → p ≡ ruled (still o) s x (refusals s x) → p ≡ plan_for o Nothing (step_sound s x)
unfolding ruled decided step_sound
by_rows o s x e = e ∙ go (first_row (refusals s x))
  where
    go : (r : Option Row) → decided (still o) s x r ≡ plan_for o Nothing (decide s x r)
    go none = refl
    go (some r) = refl

-- a step that the first row refuses, or that goes on to the others
pub on_row : (c : Course) (s : Model) (x : Step) {p : Plan} (r : Row) (rs : List Row) → leb r.number 1 ≡ false
    → (r.when ≡ true → p ≡ answer_in (pack c.before s) r.number r.value) → (r.when ≡ false → p ≡ ruled c s x rs) → p ≡ ruled c s x (r ∷ rs)
unfolding ruled decided first_row decide plan_for answer_for pack
on_row c s x {p} r rs n out further = by_test (λ (z : Option Row). p ≡ decided c s x z) r.when (λ e. out e ∙ rw n refl) further

-- the accepted step
accept_pack : (o : List ℕ) (m : Move) (s : Model) (n v : ℕ) → leb n 1 ≡ true → answer_moving (pack o s) n v m ≡ plan_for o m (answered s n v)
unfolding plan_for answer_for pack
accept_pack o m s n v e = rw e refl

pub on_accept : (c : Course) (s : Model) (x : Step) (E : Effect) (k : State) → effect s x ≡ E → leb E.number 1 ≡ true → k ≡ pack c.after (dispatch (settle (level_of s) E.state E.woken))
    → answer_moving k E.number E.value c.move ≡ ruled c s x []
unfolding ruled decided first_row decide finish
on_accept c s x E k e n q = ap (λ z. answer_moving z E.number E.value c.move) q ∙ accept_pack c.after c.move (finish s E) E.number E.value n
    ∙ ap (λ z. plan_for c.after c.move (answered (finish s z) z.number z.value)) (sym e)

-- tests of the record and of the state
started_code : (b : Bool) → eqb (cond b 1 0) 0 ≡ not b
started_code true = refl
started_code false = refl

pub started_test : (o : List ℕ) (s : Model) → eqb (pack o s).started 0 ≡ not s.started
unfolding pack
started_test o s = started_code s.started

pub id_code : (o : Option ℕ) → ((r : ℕ) → o ≡ some r → r < no_id) → eqb (id_of o) no_id ≡ not (someb o)
unfolding id_of someb
id_code none h = refl
id_code (some r) h = ne_eqb r no_id (λ e. omega (arith, h r refl))

pub held_on : (h : ℕ) → ltb 0 h ≡ true → eqb h 0 ≡ false
held_on h e = ne_eqb h 0 (λ q. omega (arith, ltb-true 0 h e))

pub held_off : (h : ℕ) → ltb 0 h ≡ false → eqb h 0 ≡ true
held_off h e = eq-eqb h 0 (omega (arith, ltb-false 0 h e))

-- two rows in one
pub either : {A : Type 0} (a b : Bool) (x y : A) → cond a x (cond b x y) ≡ cond (a or b) x y
unfolding ◌or◌
either true b x y = refl
either false b x y = refl

-- the effect of the caller's step
pub called_some : (s : Model) (o : Option ℕ) (f : ℕ → Effect) (r : ℕ) → o ≡ some r → called s o f ≡ f r
unfolding called
called_some s o f r e = rw e refl

pub id_some : (o : Option ℕ) (r : ℕ) → o ≡ some r → id_of o ≡ r
unfolding id_of
id_some o r e = rw e refl

-- the rows of a step that needs a caller
called_rows : (k : State) (p : Plan) → called_by k p ≡ cond (eqb k.started 0) (answer_in k 4 0) (cond (eqb k.running no_id) (answer_in k 5 0) p)
unfolding called_by caller_refusal
called_rows k p = go (eqb k.started 0) (eqb k.running no_id)
  where
    go : (a b : Bool) → cond (eqb (cond a 4 (cond b 5 0)) 0) p (answer_in k (cond a 4 (cond b 5 0)) 0) ≡ cond a (answer_in k 4 0) (cond b (answer_in k 5 0) p)
    go true b = refl
    go false true = refl
    go false false = refl

module _ (o : List ℕ) (s : Model) (I : Inv s) where
  pub running_below : (r : ℕ) → s.running ≡ some r → r < task_places
  running_below r e = omega (arith, caller_in s I r e, I.facts.few_tasks)

  pub running_test : eqb (pack o s).running no_id ≡ no_caller s
  unfolding pack
  running_test = id_code s.running (λ r e. omega (arith, running_below r e))

-- the rows that a step begins with
module _ (c : Course) (s : Model) (I : Inv s) where
  -- a step that needs a caller
  pub on_caller : (x : Step) {p : Plan} (rs : List Row) → ((r : ℕ) → not s.started ≡ false → not (someb s.running) ≡ false → s.running ≡ some r → p ≡ ruled c s x rs)
      → called_by (pack c.before s) p ≡ ruled c s x ((4 when not s.started) ∷ (5 when no_caller s) ∷ rs)
  on_caller x {p = p} rs h = called_rows (pack c.before s) p ∙ on_row c s x _ _ refl (λ e. chosen _ _ _ (started_test c.before s ∙ e)) (λ e. skipped _ _ _ (started_test c.before s ∙ e)
      ∙ on_row c s x _ _ refl (λ f. chosen _ _ _ (running_test c.before s I ∙ f)) (λ f. skipped _ _ _ (running_test c.before s I ∙ f)
      ∙ (let r = some_true s.running (not-false (someb s.running) f) in h r.0 e f r.1)))

  -- a step for which the system must run
  pub on_started : (x : Step) {p : Plan} (rs : List Row) → (not s.started ≡ false → p ≡ ruled c s x rs)
      → cond (eqb (pack c.before s).started 0) (answer_in (pack c.before s) 4 0) p ≡ ruled c s x ((4 when not s.started) ∷ rs)
  on_started x rs h = on_row c s x _ _ refl (λ e. chosen _ _ _ (started_test c.before s ∙ e)) (λ e. skipped _ _ _ (started_test c.before s ∙ e) ∙ h e)

  -- a step of set-up
  pub on_set_up : (x : Step) {p : Plan} (rs : List Row) → (s.started ≡ false → p ≡ ruled c s x rs)
      → cond (eqb (pack c.before s).started 0) p (answer_in (pack c.before s) 4 0) ≡ ruled c s x ((4 when s.started) ∷ rs)
  on_set_up x rs h = on_row c s x _ _ refl (λ e. skipped _ _ _ (started_test c.before s ∙ ap not e)) (λ e. chosen _ _ _ (started_test c.before s ∙ ap not e) ∙ h e)
