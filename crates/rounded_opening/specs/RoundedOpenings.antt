-- Opening a run with rounding: its answer, the run, the memory and the figures.
use Rattle.std.specs.Prelude.{List, Err, ℕ, eqb}
use Rattle.vocabulary.specs.declared.refusal.Refusal.{Refusal}
use Rattle.rules.specs.Lists.{if}
use Rattle.rules.specs.Rounding.{OpenedRounding, TurnedDown, Opens, open_rounding}
use Rattle.rules.specs.Rounding as paper
use Rattle.plan.specs.Reading.{Outcome, accepted, refused}
use Rattle.loading.specs.Plans.{pipeline_of}
use Rattle.loading.specs.Loading.{load_of}
use Rattle.opening.specs.declared.Opened as opening
use Rattle.opening.specs.Opened.{refused_with, open_of}
use Rattle.rounding.specs.declared.Rounding.{Rounding}
use Rattle.rounding.specs.Runs.{without_rounding}
use Rattle.rounded_opening.specs.declared.Opened.{Opened}

-- the rounding of a state with the paper's numbers
abbrev pub rounding_with : paper.Rounding → Rounding
rounding_with r = record { pipe = record { 0 = r.pipe }; base = r.base; sum = r.sum }

-- why a rounding is turned down, by its number: 16, 17, else 18
unfoldable pub refusal_of : ℕ → Refusal
refusal_of n = if (eqb n 16) Refusal.RoundingPipe (if (eqb n 17) Refusal.Base Refusal.Lent)

-- what an opening returns, what every number of the memory becomes, and what every figure becomes
pub record RoundedOpening : Type 0 where
  pub returned : Opened
  pub memory : List ℕ
  pub figures : List ℕ

-- "A refused opening returns a state of zeros beside its number": so it has no rounding either
unfoldable pub refused_rounded : Refusal → Opened
refused_rounded why = record { answer = Err why; run = without_rounding (refused_with why).state }

-- "nothing written"
abbrev pub refuse_rounded : Refusal → List ℕ → List ℕ → RoundedOpening
refuse_rounded why m figures = record { returned = refused_rounded why; memory = m; figures = figures }

-- a plan that 1 to 9 accept, by what the rounding then comes to: where it opens too, the answer, the state and the memory are those of
-- an opening without rounding
unfoldable pub rounded_by : OpenedRounding → opening.Opened × List ℕ → List ℕ → List ℕ → RoundedOpening
rounded_by (TurnedDown n) plain m figures = refuse_rounded (refusal_of n) m figures
rounded_by (Opens r cleared) plain m figures = record {
  returned = record { answer = plain.0.answer; run = record { state = plain.0.state; rounding = rounding_with r } };
  memory = plain.1;
  figures = cleared;
}

-- "Refused, after 9 in this order: 16 .., 17 .., 18 ..": by what loading the plan comes to
unfoldable pub open_rounded_as : Outcome → opening.Opened × List ℕ → ℕ → ℕ → List ℕ → List ℕ → List ℕ → RoundedOpening
open_rounded_as (refused why) plain pipe base m cells figures = refuse_rounded why m figures
open_rounded_as (accepted p) plain pipe base m cells figures = rounded_by (open_rounding (pipeline_of p) pipe base cells figures) plain m figures

-- what opening a file with rounding returns and leaves
abbrev pub open_rounded_of : List ℕ → ℕ → ℕ → ℕ → List ℕ → List ℕ → List ℕ → RoundedOpening
open_rounded_of file workers pipe base m cells figures =
    open_rounded_as (load_of file workers m).0 (open_of file workers m) pipe base m cells figures
