-- An accepted opening with rounding: the run at opening, as the rules have it.
use Rattle.std.specs.Prelude.{◌≡◌, true, List, ℕ, ◌≤◌, length, replicate}
use Rattle.rules.specs.WholeRuns.{WorkersInRange}
use Rattle.rules.specs.Rounding.{Rounding, lent_fits}
use Rattle.rules.specs.RoundedRuns.{AtOpening, opened_run}
use Rattle.plan.specs.Plan.{Plan, Valid, encode}
use Rattle.tables.specs.State.{opened_tables}
use Rattle.tables.specs.Calls.{memory_source}
use Rattle.loading.specs.Plans.{pipeline_of}
use Rattle.loading.specs.Layout.{laid_out}
use Rattle.rounding.specs.Runs.{run_of}
use Rattle.rounded_opening.specs.RoundedOpenings.{RoundedOpening}

-- what it returns and leaves: a valid plan's run, its rounding with T 0, and the figures cleared
pub record OpenedRounded (file : List ℕ) (workers pipe base : ℕ) (m cells figures : List ℕ) (o : RoundedOpening) : Type 0 where
  pub plan : Plan
  pub valid : Valid plan
  pub file_is : file ≡ encode plan
  pub manned : WorkersInRange workers
  pub enough : 32768 ≤ length m
  pub rounding : Rounding
  pub rounding_is : rounding ≡ record { pipe = pipe; base = base; sum = 0 }
  pub opens : AtOpening (pipeline_of plan) rounding
  pub run_is : run_of o.returned.run o.memory ≡
      opened_run memory_source (pipeline_of plan) workers (opened_tables plan.tokens, laid_out plan.records m) rounding
  pub figures_are : o.figures ≡ replicate plan.tokens 0
  -- the cells fit with the figures that were lent, and with those that are left
  pub fits : lent_fits plan.tokens cells figures ≡ true
  pub fits_cleared : lent_fits plan.tokens cells o.figures ≡ true
