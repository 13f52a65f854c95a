-- A state: the tables, the phase, the clock, the hold depth, the running task and the ready order.
use Rattle.std.specs.Prelude.{List, [], Bool, false, ℕ}
use Rattle.std.proofs.Math.Option.{Option, none}
use Rattle.rules.specs.Tables.{Tables}
use Rattle.rules.specs.Levels.{level_in}

pub record State : Type 0 where
  pub tables : Tables
  -- the phase: set-up or started
  pub started : Bool
  pub clock : ℕ
  -- document 01's term "hold depth"
  pub hold : ℕ
  pub running : Option ℕ
  pub ready : List ℕ

-- "A fresh state is in set-up, with nothing made, clock and hold 0.": with a lent block of so many words
unfoldable pub fresh : ℕ → State
fresh space = record {
  tables = record {
    tasks = record { priorities = []; outcomes = []; waits = []; words = []; waiting = [] };
    mutexes = record { kinds = []; owners = [] };
    semaphores = record { counts = []; maxima = [] };
    queues = record { widths = []; depths = []; owners = []; messages = []; space = space };
  };
  started = false;
  clock = 0;
  hold = 0;
  running = none;
  ready = [];
}

-- one setter for each part that changes by itself
abbrev pub with_tables : State → Tables → State
with_tables s t = record { tables = t; started = s.started; clock = s.clock; hold = s.hold; running = s.running; ready = s.ready }

abbrev pub with_started : State → Bool → State
with_started s b = record { tables = s.tables; started = b; clock = s.clock; hold = s.hold; running = s.running; ready = s.ready }

abbrev pub with_clock : State → ℕ → State
with_clock s c = record { tables = s.tables; started = s.started; clock = c; hold = s.hold; running = s.running; ready = s.ready }

abbrev pub with_hold : State → ℕ → State
with_hold s h = record { tables = s.tables; started = s.started; clock = s.clock; hold = h; running = s.running; ready = s.ready }

-- r runs and l is ready
abbrev pub placed : State → Option ℕ → List ℕ → State
placed s r l = record { tables = s.tables; started = s.started; clock = s.clock; hold = s.hold; running = r; ready = l }

-- every task's level
abbrev pub level_of : State → ℕ → ℕ
level_of s = level_in s.tables
