-- The objects that a chain of waits passes: what LinkLaws counts. No rule needs them.
use Rattle.std.specs.Prelude.{List, [], ◌∷◌, ℕ, zero, suc}
use Rattle.std.proofs.Math.Option.{Option, none, some}
use Rattle.rules.specs.Tables.{Awaited, Wait, Tables, task_count, wait_of}
use Rattle.rules.specs.Levels.{owner_awaited}

unfoldable pub awaited_in : Option Wait → Option Awaited
awaited_in none = none
awaited_in (some w) = some w.on

-- a, where it has an owner, and what is behind it
unfoldable pub behind_owner : Tables → Awaited → (Option Awaited → List Awaited) → Option ℕ → List Awaited
behind_owner t a rest none = []
behind_owner t a rest (some i) = a ∷ rest (awaited_in (wait_of t i))

-- what is awaited, then what its owner waits for, and so on, at most as many as the fuel
unfoldable pub objects_from : ℕ → Tables → Option Awaited → List Awaited
objects_from zero t o = []
objects_from (suc f) t none = []
objects_from (suc f) t (some a) = behind_owner t a (objects_from f t) (owner_awaited t a)

abbrev pub objects_of : Tables → Awaited → List Awaited
objects_of t a = objects_from (task_count t) t (some a)
