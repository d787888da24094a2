-- An accepted opening, with what follows for every run from it.
use Rattle.std.specs.Prelude.{◌≡◌, List, ℕ, ◌≤◌, length}
use Rattle.rules.specs.WholeRuns.{WorkersInRange}
use Rattle.plan.specs.Plan.{Plan, Valid, encode}
use Rattle.state.specs.Machines.{machine_of}
use Rattle.opening.specs.Opened.{opened_machine, open_of}
use Rattle.demands.specs.Demands.{Demands}

-- an accepted opening: the plan, the machine that it leaves, and what holds of every run from there
pub record OpenedRun (file : List ℕ) (workers : ℕ) (m : List ℕ) : Type 0 where
  pub plan : Plan
  pub valid : Valid plan
  pub file_is : file ≡ encode plan
  pub manned : WorkersInRange workers
  pub enough : 32768 ≤ length m
  pub machine : machine_of (open_of file workers m).0.state (open_of file workers m).1 ≡ opened_machine plan workers m
  pub demands : Demands plan
