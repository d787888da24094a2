-- The rounding paper (02, 2.2) for a plan opened in lent memory, any list of choices and whatever cells and figures.
use Rattle.std.specs.Prelude.{◌≡◌, true, List, ℕ}
use Rattle.rules.specs.Choices.{Choice, ended}
use Rattle.rules.specs.WholeRuns.{WorkersInRange}
use Rattle.rules.specs.Rounding.{Rounding, Run, Lending}
use Rattle.rules.specs.RoundedRuns.{AtOpening, rounded_end, RoundedRun, carried_lendings, carried_figures, CarriedRun}
use Rattle.plan.specs.Plan.{Plan}
use Rattle.tables.specs.State.{State}
use Rattle.tables.specs.Calls.{memory_source}
use Rattle.loading.specs.Plans.{pipeline_of}
use Rattle.demands.specs.Demands.{order, begun, end_state}

module _ (p : Plan) (m : List ℕ) (workers : ℕ) (r : Rounding) where
  -- the run that a list of choices leaves
  abbrev pub left_rounded : List Lending → Run State
  left_rounded lendings = rounded_end memory_source (pipeline_of p) workers (begun p m) r lendings

  -- with the same cells throughout and the figures handed on as left: the run, and the figures
  abbrev pub left_carried : List ℕ → List Choice → Run State
  left_carried cells ls = left_rounded (carried_lendings memory_source (pipeline_of p) workers (begun p m) r cells ls)

  abbrev pub figures_carried : List ℕ → List Choice → List ℕ
  figures_carried cells ls = carried_figures memory_source (pipeline_of p) workers (begun p m) r cells ls

-- what holds of a plan's runs with rounding or without, in whatever memory
pub record RoundedDemands (p : Plan) : Type 0 where
  -- sums, figures and refusals, sentence by sentence; and demand 3, as without rounding
  pub runs : (m : List ℕ) (workers : ℕ) → WorkersInRange workers → (r : Rounding) → AtOpening (pipeline_of p) r → (lendings : List Lending) →
      (z : State) × RoundedRun memory_source (pipeline_of p) workers (begun p m) r lendings (order p) z
  -- "two runs that differ in rounding or in cells share demand 3's end state but for these three as well"
  pub same_end : (m k : List ℕ) (w v : ℕ) → WorkersInRange w → WorkersInRange v → (r q : Rounding) → AtOpening (pipeline_of p) r →
      AtOpening (pipeline_of p) q → (ls ks : List Lending) →
      ended (left_rounded p m w r ls).machine ≡ true → ended (left_rounded p k v q ks).machine ≡ true →
      end_state (left_rounded p m w r ls).machine ≡ end_state (left_rounded p k v q ks).machine
  -- the figure of each token, by its place
  pub carried : (m : List ℕ) (workers : ℕ) → WorkersInRange workers → (r : Rounding) → AtOpening (pipeline_of p) r → (cells : List ℕ) (ls : List Choice) →
      CarriedRun memory_source (pipeline_of p) workers (begun p m) r cells ls (order p)
  -- "Any two runs over one plan, pipe and base, followed to their end with the same cells throughout and the figures handed on as
  -- left, publish the same figure for each token."
  pub same_figures : (m k : List ℕ) (w v : ℕ) → WorkersInRange w → WorkersInRange v → (r : Rounding) → AtOpening (pipeline_of p) r →
      (cells : List ℕ) (ls ks : List Choice) → ended (left_carried p m w r cells ls).machine ≡ true → ended (left_carried p k v r cells ks).machine ≡ true →
      figures_carried p m w r cells ls ≡ figures_carried p k v r cells ks
