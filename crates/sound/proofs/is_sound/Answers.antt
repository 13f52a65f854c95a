-- `sound::is_sound` meets its contract: phrase by phrase, until one fails. Assumes nothing.
-- what is told of each answer: the contract's two clauses. The one place where a law about `checks` is put on top of the test's phrases.
use Rattle.std.proofs.Common.{not}
use mathlib.Core.Path.{◌≡◌, ap, sym, ◌∙◌}
use mathlib.Core.Bool.{Bool, false}
use mathlib.Core.List.{List}
use Prim.Native.Nat.{ℕ}
use borrow.Author.Tests.{eq-eqb, ne_eqb}
use mir.Val.{Val}
use denote.Laws.{Is}
use denote.Struct.Declared.{row}
use Rattle.lists.specs.Test.{◌and◌}
use Rattle.lists.specs.LoopLaws.{test_passed, test_failed}
use lib.ListN.{length}
use Rattle.checks.specs.Checks.{checks}
use Rattle.checks.specs.CheckLaws.{checks_sound}
use Rattle.record.specs.Whole.{whole}
use Rattle.record.specs.SoundRecord.{sound_of}
use Rattle.record.specs.declared.State.{State}
use Rattle.record.specs.GoodRecord.{Typed}
use Rattle.record.specs.contracts.State as st
use Rattle.sound.proofs.Facts.{typed}
use Rattle.sound.proofs.is_sound.Goals as goal

told : {r : Bool} (s : State) (vs : List Val) (words : List ℕ) (space : ℕ) → Is (row st.the_type) s vs → r ≡ checks s words space → ((block : List ℕ) → length block ≡ space → r ≡ sound_of (whole s words block)) × Typed s
told s vs words space g e = (λ block l. e ∙ ap (checks s words) (sym l) ∙ checks_sound s words block (typed s vs g), typed s vs g)

pub returns-then-not-tables_in : goal.returns-then-not-tables_in
unfolding checks ◌and◌
returns-then-not-tables_in c =
    let a = c.args in
    let e : false ≡ checks a.s a.words.now a.space = rw (test_failed c.tables_in.ensures (ap not c.if-not-tables_in.true)) in
    let r = told a.s _ a.words.now a.space c.well_formed.0 e in
    record { answer = r.0; types = r.1 }

pub returns-then-not-places_in : goal.returns-then-not-places_in
unfolding checks ◌and◌
returns-then-not-places_in c =
    let a = c.args in
    let e : false ≡ checks a.s a.words.now a.space = rw (test_passed c.tables_in.ensures (ap not c.if-not-tables_in.false), test_failed c.places_in.ensures (ap not c.if-not-places_in.true)) in
    let r = told a.s _ a.words.now a.space c.well_formed.0 e in
    record { answer = r.0; types = r.1 }

pub returns-then-not-waits_in : goal.returns-then-not-waits_in
unfolding checks ◌and◌
returns-then-not-waits_in c =
    let a = c.args in
    let e : false ≡ checks a.s a.words.now a.space = rw (test_passed c.tables_in.ensures (ap not c.if-not-tables_in.false), test_passed c.places_in.ensures (ap not c.if-not-places_in.false), test_failed c.waits_in.ensures (ap not c.if-not-waits_in.true)) in
    let r = told a.s _ a.words.now a.space c.well_formed.0 e in
    record { answer = r.0; types = r.1 }

pub returns-then-not-levels_in : goal.returns-then-not-levels_in
unfolding checks ◌and◌
returns-then-not-levels_in c =
    let a = c.args in
    let e : false ≡ checks a.s a.words.now a.space = rw (test_passed c.tables_in.ensures (ap not c.if-not-tables_in.false), test_passed c.places_in.ensures (ap not c.if-not-places_in.false), test_passed c.waits_in.ensures (ap not c.if-not-waits_in.false), test_failed c.levels_in.ensures (ap not c.if-not-levels_in.true)) in
    let r = told a.s _ a.words.now a.space c.well_formed.0 e in
    record { answer = r.0; types = r.1 }

pub returns-then-not-ascending : goal.returns-then-not-ascending
unfolding checks ◌and◌
returns-then-not-ascending c =
    let a = c.args in
    let e : false ≡ checks a.s a.words.now a.space = rw (test_passed c.tables_in.ensures (ap not c.if-not-tables_in.false), test_passed c.places_in.ensures (ap not c.if-not-places_in.false), test_passed c.waits_in.ensures (ap not c.if-not-waits_in.false), test_passed c.levels_in.ensures (ap not c.if-not-levels_in.false), test_failed c.ascending.ensures (ap not c.if-not-ascending.true)) in
    let r = told a.s _ a.words.now a.space c.well_formed.0 e in
    record { answer = r.0; types = r.1 }

pub returns-then-s-ne0 : goal.returns-then-s-ne0
unfolding checks ◌and◌
returns-then-s-ne0 c =
    let a = c.args in
    let e : c.started_in.result ≡ checks a.s a.words.now a.space = rw (test_passed c.tables_in.ensures (ap not c.if-not-tables_in.false), test_passed c.places_in.ensures (ap not c.if-not-places_in.false), test_passed c.waits_in.ensures (ap not c.if-not-waits_in.false), test_passed c.levels_in.ensures (ap not c.if-not-levels_in.false), test_passed c.ascending.ensures (ap not c.if-not-ascending.false), ne_eqb _ _ c.if-s-ne0.true) c.started_in.ensures in
    let r = told a.s _ a.words.now a.space c.well_formed.0 e in
    record { answer = r.0; types = r.1 }

pub returns-then-not-at_rest : goal.returns-then-not-at_rest
unfolding checks ◌and◌
returns-then-not-at_rest c =
    let a = c.args in
    let e : false ≡ checks a.s a.words.now a.space = rw (test_passed c.tables_in.ensures (ap not c.if-not-tables_in.false), test_passed c.places_in.ensures (ap not c.if-not-places_in.false), test_passed c.waits_in.ensures (ap not c.if-not-waits_in.false), test_passed c.levels_in.ensures (ap not c.if-not-levels_in.false), test_passed c.ascending.ensures (ap not c.if-not-ascending.false), eq-eqb _ _ c.if-s-ne0.false, test_failed c.at_rest.ensures (ap not c.if-not-at_rest.true)) in
    let r = told a.s _ a.words.now a.space c.well_formed.0 e in
    record { answer = r.0; types = r.1 }

pub returns : goal.returns
unfolding checks ◌and◌
returns c =
    let a = c.args in
    let e : c.set_up_in.result ≡ checks a.s a.words.now a.space = rw (test_passed c.tables_in.ensures (ap not c.if-not-tables_in.false), test_passed c.places_in.ensures (ap not c.if-not-places_in.false), test_passed c.waits_in.ensures (ap not c.if-not-waits_in.false), test_passed c.levels_in.ensures (ap not c.if-not-levels_in.false), test_passed c.ascending.ensures (ap not c.if-not-ascending.false), eq-eqb _ _ c.if-s-ne0.false, test_passed c.at_rest.ensures (ap not c.if-not-at_rest.false)) c.set_up_in.ensures in
    let r = told a.s _ a.words.now a.space c.well_formed.0 e in
    record { answer = r.0; types = r.1 }
