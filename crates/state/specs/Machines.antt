-- What a run's state stands for: the rules' machine, over the tables in memory.
use Rattle.std.specs.Prelude.{List, ℕ, ◌<◌, ◌≤◌}
use Rattle.rules.specs.RunState.{Machine}
use Rattle.vocabulary.specs.declared.Slot.{Slot}
use Rattle.vocabulary.specs.declared.Slots.{Slots}
use Rattle.tables.specs.State as tables
use Rattle.state.specs.declared.State.{State}
use Rattle.state.specs.declared.Figures.{Figures}

-- what its lines do
abbrev pub slots_of : State → Slots
slots_of s = record { at = s.at; running = s.running; token = s.token; place = s.place; worker = s.worker }

-- the rest of it but for the counters
abbrev pub figures_of : State → Figures
figures_of s = record {
  pipes = s.pipes;
  lines = s.lines;
  workers = s.workers;
  placed = s.placed;
  stopped = s.stopped;
  tables = s.tables;
  serial = s.serial;
}

-- the machine of a state and its memory
unfoldable pub machine_of : State → List ℕ → Machine tables.State
machine_of s mem =
    record {
      pipes = s.pipes;
      lines = s.lines;
      tokens = s.tables.tokens;
      workers = s.workers;
      serial = s.serial;
      counters = s.counters;
      slots = slots_of s;
      placed = s.placed;
      stopped = s.stopped;
      source = (s.tables, mem);
    }

-- the state of its parts
abbrev pub whole : Figures → List ℕ → Slots → State
whole f counters slots = record {
  pipes = f.pipes;
  lines = f.lines;
  workers = f.workers;
  serial = f.serial;
  counters = counters;
  at = slots.at;
  running = slots.running;
  token = slots.token;
  place = slots.place;
  worker = slots.worker;
  placed = f.placed;
  stopped = f.stopped;
  tables = f.tables;
}

-- a line of the plan, at a pipe of the plan
pub record Ready (f : Figures) (slot : Slot) (l : ℕ) : Type 0 where
  pub lines : f.lines ≤ 32
  pub pipes : f.pipes ≤ 16
  pub line : l < f.lines
  pub pipe : slot.pipe.0 < f.pipes
