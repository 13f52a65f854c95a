-- Lists of task ids in a table of places: what each function of this crate answers.
use Rattle.std.specs.Prelude.{List, [], ◌∷◌, ◌++◌, Bool, cond, ℕ, suc, ◌+◌, ◌-◌, ◌%◌, ltb, leb, eqb, length, get_or, set, take, drop}
use Rattle.std.proofs.Math.Option.{Option, none, some}
use Rattle.lists.specs.Test.{◌and◌, ◌or◌, allb}
use Rattle.lists.specs.Order.{keep, range, first_from}
use Rattle.lists.specs.Table.{pad, filled}
use Rattle.rules.specs.Sizes.{task_places, levels}
use Rattle.task_lists.specs.declared.TaskList.{TaskList}

-- how many places a list has: one for each in the table of tasks
abbrev pub places : ℕ
places = task_places

-- what stands in an unused place, and stands for no task
abbrev pub no_id : ℕ
no_id = 255

-- who stands in the list, in order
abbrev pub items : TaskList → List ℕ
items q = take q.n q.ids

-- the list of the first n ids of a table
abbrev pub first_ids : List ℕ → ℕ → TaskList
first_ids ids n = record { ids = ids; n = n }

-- the list in which l stands, its unused places empty
unfoldable pub task_list_of : List ℕ → TaskList
task_list_of l = record { ids = pad places no_id l; n = length l }

-- nothing stands in the unused places
abbrev pub rest_empty : TaskList → Bool
rest_empty q = allb places (λ i. ltb i q.n or eqb (get_or q.ids i 0) no_id)

-- flags of the places that a count uses
abbrev pub used_at : ℕ → ℕ → ℕ
used_at n i = cond (ltb i n) 1 0

unfoldable pub used_places : ℕ → List ℕ
used_places n = filled places (used_at n)

-- an id of one of so many tasks; in an unused place, none
unfoldable pub id_fits : Bool → ℕ → ℕ → Bool
id_fits used tasks id = cond used (ltb id tasks) (eqb id no_id)

abbrev pub id_fits_at : List ℕ → ℕ → ℕ → ℕ → Bool
id_fits_at ids n tasks i = id_fits (ltb i n) tasks (get_or ids i 0)

-- the same by flags of the used places
abbrev pub id_fits_by : List ℕ → List ℕ → ℕ → ℕ → Bool
id_fits_by ids used tasks i = id_fits (eqb (get_or used i 0) 1) tasks (get_or ids i 0)

-- a task's number in a table, with 0 for a task that has no place there
abbrev pub key_of : List ℕ → ℕ → ℕ
key_of keys y = get_or keys y 0

-- x behind all others; a full list stays
unfoldable pub pushed : TaskList → ℕ → TaskList
pushed q x = cond (ltb q.n places) (record { ids = set q.ids q.n x; n = q.n + 1 }) q

-- the place of the first whose key is at least t, or behind all
unfoldable pub place_of : List ℕ → ℕ → List ℕ → ℕ
place_of keys t [] = 0
place_of keys t (y ∷ l) = cond (leb t (key_of keys y)) 0 (suc (place_of keys t l))

-- x at place p of a table whose first n places are used, and what stood there and behind it one place on
abbrev pub opened : List ℕ → ℕ → ℕ → ℕ → List ℕ
opened ids n p x = (take p ids ++ (x ∷ take (n - p) (drop p ids))) ++ drop (n + 1) ids

-- the same in a list; a full one stays
unfoldable pub inserted_at : TaskList → ℕ → ℕ → TaskList
inserted_at q p x = cond (ltb q.n places) (first_ids (opened q.ids q.n p x) (q.n + 1)) q

-- x before the first whose key is at least t
unfoldable pub inserted : TaskList → List ℕ → ℕ → ℕ → TaskList
inserted q keys t x = inserted_at q (place_of keys t (items q)) x

-- who has a number that is v in the table of flags, the others gone
unfoldable pub kept : TaskList → List ℕ → ℕ → TaskList
kept q flags v = task_list_of (keep (λ y. eqb (key_of flags y) v) (items q))

-- x at the tail of its key
abbrev pub tailed : TaskList → List ℕ → ℕ → TaskList
tailed q keys x = inserted q keys (key_of keys x + 1) x

-- one task of `inserted_flagged`
abbrev pub inserted_if : TaskList → List ℕ → List ℕ → ℕ → TaskList
inserted_if q keys flags x = cond (eqb (key_of flags x) 1) (tailed q keys x) q

-- each of an order that has a 1 in the table of flags, in that order, at the tail of its key
unfoldable pub inserted_flagged : TaskList → List ℕ → List ℕ → List ℕ → TaskList
inserted_flagged q keys flags [] = q
inserted_flagged q keys flags (x ∷ order) = inserted_flagged (inserted_if q keys flags x) keys flags order

-- every id below n, ascending, as an order to go through; there are no more than places
abbrev pub every_id : ℕ → TaskList
every_id n = first_ids (range places) n

-- the counts c, each task's raised by how often it stands in l (numbers of eight bits wrap)
unfoldable pub counted : List ℕ → List ℕ → List ℕ
counted c [] = c
counted c (y ∷ l) = counted (set c y ((key_of c y + 1) % 256)) l

-- the id of a task, or that of none
unfoldable pub id_of : Option ℕ → ℕ
id_of none = no_id
id_of (some i) = i

-- who waits for an object: the kind of wait and the object's number are in two tables
abbrev pub waits_for : List ℕ → List ℕ → ℕ → ℕ → ℕ → Bool
waits_for kinds objects kind object i = eqb (key_of kinds i) kind and eqb (key_of objects i) object

-- the best waiter: the first found going through the levels and, in a level, in the order of the list
unfoldable pub best_of : TaskList → List ℕ → List ℕ → List ℕ → ℕ → ℕ → ℕ
best_of q kinds objects keys kind object = id_of (first_from (key_of keys) levels 0 (keep (waits_for kinds objects kind object) (items q)))
