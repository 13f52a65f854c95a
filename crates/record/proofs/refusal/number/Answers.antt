-- `record::refusal::number`: case by case.
use Rattle.std.proofs.Common.{◌≡◌, ◌+◌, refl}
use denote.Enum.Declared.{tag_of}
use Rattle.record.specs.Refused.{refusal_number}
use Rattle.record.specs.contracts.refusal.Refusal.{the_type}
use Rattle.record.specs.declared.refusal.Refusal.{Refusal}
use Rattle.record.specs.declared.refusal.Refusal.TheVariants.{AtMaximum, WouldWait, WrongPhase, NoCaller, NoSuchObject, OutOfRange, NoRoom, OwnerAlready, NotOwner, Held, Ring, HoldLimit, NoStep, Unsound}
use Rattle.record.proofs.refusal.number.Goals as goal

numbers : (r : Refusal) → tag_of the_type r + 2 ≡ refusal_number r
unfolding refusal_number
numbers AtMaximum = refl
numbers WouldWait = refl
numbers WrongPhase = refl
numbers NoCaller = refl
numbers NoSuchObject = refl
numbers OutOfRange = refl
numbers NoRoom = refl
numbers OwnerAlready = refl
numbers NotOwner = refl
numbers Held = refl
numbers Ring = refl
numbers HoldLimit = refl
numbers NoStep = refl
numbers Unsound = refl

pub returns : goal.returns
returns c = numbers c.args.why
