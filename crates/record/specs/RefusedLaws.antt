-- Laws of the refusals' numbers.
use Rattle.std.specs.Prelude.{◌≡◌, refl, false, eqb}
use Rattle.record.specs.declared.refusal.Refusal.{Refusal}
use Rattle.record.specs.declared.refusal.Refusal.TheVariants.{AtMaximum, WouldWait, WrongPhase, NoCaller, NoSuchObject, OutOfRange, NoRoom, OwnerAlready, NotOwner, Held, Ring, HoldLimit, NoStep, Unsound}
use Rattle.record.specs.Refused.{refusal_number}

-- no refusal has the number of what is done
pub refusal_some : (why : Refusal) → eqb (refusal_number why) 0 ≡ false
unfolding refusal_number
refusal_some AtMaximum = refl
refusal_some WouldWait = refl
refusal_some WrongPhase = refl
refusal_some NoCaller = refl
refusal_some NoSuchObject = refl
refusal_some OutOfRange = refl
refusal_some NoRoom = refl
refusal_some OwnerAlready = refl
refusal_some NotOwner = refl
refusal_some Held = refl
refusal_some Ring = refl
refusal_some HoldLimit = refl
refusal_some NoStep = refl
refusal_some Unsound = refl
