-- The numbers of the refusals: "Each refusal has its number in document 01".
use Rattle.std.specs.Prelude.{ℕ, Result, Ok, Err}
use Rattle.record.specs.declared.refusal.Refusal.{Refusal}  -- keep
use Rattle.record.specs.declared.refusal.Refusal.TheVariants.{AtMaximum, WouldWait, WrongPhase, NoCaller, NoSuchObject, OutOfRange, NoRoom, OwnerAlready, NotOwner, Held, Ring, HoldLimit, NoStep, Unsound}  -- keep

-- the table "Numbers that come back", from 2 on
unfoldable pub refusal_number : Refusal → ℕ
refusal_number AtMaximum = 2
refusal_number WouldWait = 3
refusal_number WrongPhase = 4
refusal_number NoCaller = 5
refusal_number NoSuchObject = 6
refusal_number OutOfRange = 7
refusal_number NoRoom = 8
refusal_number OwnerAlready = 9
refusal_number NotOwner = 10
refusal_number Held = 11
refusal_number Ring = 12
refusal_number HoldLimit = 13
refusal_number NoStep = 14
refusal_number Unsound = 15

-- what a test answers that says why a step may not be made: that number, or 0 where it may
unfoldable pub refusal_code : Result Unit Refusal → ℕ
refusal_code (Ok u) = 0
refusal_code (Err why) = refusal_number why
