-- A run with its rounding, as the paper's.
use Rattle.std.specs.Prelude.{List, ℕ}
use Rattle.rules.specs.Rounding as paper
use Rattle.tables.specs.State as tables
use Rattle.state.specs.declared.State.{State}
use Rattle.state.specs.Machines.{machine_of}
use Rattle.rounding.specs.declared.run.Run.{Run}
use Rattle.rounding.specs.Roundings.{rounding_of}

-- the paper's run of a run and its memory
unfoldable pub run_of : Run → List ℕ → paper.Run tables.State
run_of r mem = record { machine = machine_of r.state mem; rounding = rounding_of r.rounding }

-- "An opening may still go without rounding": its numbers are those of `no_rounding`
abbrev pub without_rounding : State → Run
without_rounding s = record { state = s; rounding = record { pipe = record { 0 = 0 }; base = 0; sum = 0 } }
