-- No two refusals have the same number, and no two answers of a test that says why a step may not be made.
use Rattle.std.specs.Prelude.{◌≡◌, refl, ℕ, ◌-◌, List, [], ◌∷◌, get_or, cond, eqb, Result, Ok, Err}
use Rattle.std.proofs.Common.{ap, sym, ◌∙◌}
use Rattle.record.specs.declared.refusal.Refusal.{Refusal}
use Rattle.record.specs.declared.refusal.Refusal.TheVariants.{AtMaximum, WouldWait, WrongPhase, NoCaller, NoSuchObject, OutOfRange, NoRoom, OwnerAlready, NotOwner, Held, Ring, HoldLimit, NoStep, Unsound}
use Rattle.record.specs.Refused.{refusal_number, refusal_code}
use Rattle.record.specs.RefusedLaws.{refusal_some}

-- the refusal that has a number
refusal_with : ℕ → Refusal
refusal_with n = get_or (AtMaximum ∷ WouldWait ∷ WrongPhase ∷ NoCaller ∷ NoSuchObject ∷ OutOfRange ∷ NoRoom ∷ OwnerAlready ∷ NotOwner ∷ Held ∷ Ring ∷ HoldLimit ∷ NoStep ∷ Unsound ∷ []) (n - 2) Unsound

number_back : (why : Refusal) → refusal_with (refusal_number why) ≡ why
unfolding refusal_number refusal_with
number_back AtMaximum = refl
number_back WouldWait = refl
number_back WrongPhase = refl
number_back NoCaller = refl
number_back NoSuchObject = refl
number_back OutOfRange = refl
number_back NoRoom = refl
number_back OwnerAlready = refl
number_back NotOwner = refl
number_back Held = refl
number_back Ring = refl
number_back HoldLimit = refl
number_back NoStep = refl
number_back Unsound = refl

-- what a test answered that has a number
answer_with : ℕ → Result Unit Refusal
answer_with n = cond (eqb n 0) (Ok tt) (Err (refusal_with n))

code_back : (x : Result Unit Refusal) → answer_with (refusal_code x) ≡ x
unfolding refusal_code answer_with
code_back (Ok u) = refl
code_back (Err why) = rw (refusal_some why) (ap Err (number_back why))

-- so a clause on the number of what a test answers says what it answers
pub code_apart : (x y : Result Unit Refusal) → refusal_code x ≡ refusal_code y → x ≡ y
code_apart x y e = sym (code_back x) ∙ ap answer_with e ∙ code_back y
