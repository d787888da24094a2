-- Opening a run: its answer, the state and the memory.
use Rattle.std.specs.Prelude.{Bool, false, List, ℕ, get_or, replicate, Ok, Err}
use Rattle.vocabulary.specs.declared.refusal.Refusal.{Refusal}
use Rattle.rules.specs.RunState.{Machine, all_idle}
use Rattle.rules.specs.Choices.{opened_counter, tabled, opened}
use Rattle.plan.specs.Plan.{Plan}
use Rattle.plan.specs.Reading.{Outcome, accepted, refused}
use Rattle.tables.specs.State as tables
use Rattle.loading.specs.Plans.{pipeline_of}
use Rattle.loading.specs.Layout.{laid_out}
use Rattle.loading.specs.Loading.{load_of}
use Rattle.state.specs.declared.State.{State}
use Rattle.opening.specs.declared.Opened.{Opened}

-- the state of a machine
abbrev pub state_of : Machine tables.State → State
state_of a = record {
  pipes = a.pipes;
  lines = a.lines;
  workers = a.workers;
  serial = a.serial;
  counters = a.counters;
  at = a.slots.at;
  running = a.slots.running;
  token = a.slots.token;
  place = a.slots.place;
  worker = a.slots.worker;
  placed = a.placed;
  stopped = a.stopped;
  tables = a.source.0;
}

-- the counters at opening
abbrev pub opened_counters : List Bool → ℕ → ℕ → List ℕ
opened_counters serial pipes lines =
    tabled (record { pipes = pipes; lines = lines; tokens = 0; serial = serial }) (λ l p. opened_counter l p (get_or serial p false))

-- a state whose lines wait at pipe 0 and that has placed no token
abbrev pub fresh_state : ℕ → ℕ → ℕ → List Bool → List ℕ → ℕ → State
fresh_state pipes lines workers serial counters tokens = record {
  pipes = pipes;
  lines = lines;
  workers = workers;
  serial = serial;
  counters = counters;
  at = all_idle.at;
  running = all_idle.running;
  token = all_idle.token;
  place = all_idle.place;
  worker = all_idle.worker;
  placed = 0;
  stopped = false;
  tables = tables.opened_tables tokens;
}

-- a refused opening has a state of zeros
unfoldable pub refused_with : Refusal → Opened
refused_with why = record { answer = Err why; state = fresh_state 0 0 0 (replicate 16 false) (replicate 512 0) 0 }

-- the machine that opening makes of a plan, and what is returned of it
abbrev pub opened_machine : Plan → ℕ → List ℕ → Machine tables.State
opened_machine p workers m = opened (pipeline_of p) workers (tables.opened_tables p.tokens, laid_out p.records m)

unfoldable pub opened_with : Plan → ℕ → List ℕ → Opened
opened_with p workers m = record { answer = Ok tt; state = state_of (opened_machine p workers m) }

-- what is returned of a plan's loading: a refusal, or the opened run
unfoldable pub opened_by : Outcome → ℕ → List ℕ → Opened
opened_by (refused why) workers m = refused_with why
opened_by (accepted p) workers m = opened_with p workers m

-- what opening returns, and what it leaves in memory
abbrev pub open_of : List ℕ → ℕ → List ℕ → Opened × List ℕ
open_of file workers m = (opened_by (load_of file workers m).0 workers m, (load_of file workers m).1)
