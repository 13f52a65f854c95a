-- Walks from waiter to owner over a table of ids: what each function of this crate answers.
use Rattle.std.specs.Prelude.{List, [], ◌∷◌, cond, ℕ, zero, suc, min, ltb, get_or, set}
use Rattle.std.proofs.Math.Option.{Option, none, some}
use Rattle.chains.specs.Chain.{walk}
use Rattle.rules.specs.Sizes.{task_places}

-- an id's task; a number that no task can have stands for none
abbrev pub task_at : ℕ → Option ℕ
task_at x = cond (ltb x task_places) (some x) none

-- the task after i, by a table of ids; a number that no task can have leads nowhere
abbrev pub next_in : List ℕ → ℕ → Option ℕ
next_in next i = cond (ltb i task_places) (task_at (get_or next i 0)) none

-- each on the list raised to p: its number in the table becomes the smaller of the two
unfoldable pub lifted : List ℕ → ℕ → List ℕ → List ℕ
lifted levels p [] = levels
lifted levels p (x ∷ l) = lifted (set levels x (min p (get_or levels x 0))) p l

-- the levels after the first j tasks each lifted all on its chain to its own priority, at most n tasks far
unfoldable pub raised : List ℕ → List ℕ → ℕ → ℕ → List ℕ
raised own next n zero = own
raised own next n (suc j) = lifted (raised own next n j) (get_or own j 0) (walk n (next_in next) (task_at j))

-- the chain from an id, at most as long as the fuel
abbrev pub chain_from : List ℕ → ℕ → ℕ → List ℕ
chain_from next at fuel = walk fuel (next_in next) (task_at at)

-- one task raised to p, where that is more urgent; an id that no task can have names none
unfoldable pub lent : List ℕ → ℕ → ℕ → List ℕ
lent levels o p = cond (ltb o task_places) (set levels o (min p (get_or levels o 0))) levels

-- the own priorities, each raised to the levels that the first n tasks lend to that task, by a table of ids
unfoldable pub lent_by : List ℕ → List ℕ → List ℕ → ℕ → List ℕ
lent_by own to level zero = own
lent_by own to level (suc j) = lent (lent_by own to level j) (get_or to j 0) (get_or level j 0)
