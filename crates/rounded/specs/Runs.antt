-- What a choice of a run with its rounding returns.
use Rattle.std.specs.Prelude.{List, ℕ}
use Rattle.rules.specs.Answers.{answer_of}
use Rattle.rules.specs.Choices as rules
use Rattle.rules.specs.Rounding as paper
use Rattle.tables.specs.State as tables
use Rattle.rounding.specs.Runs.{run_of}
use Rattle.rounding.specs.Settlings.{Settling, Spoils, Leaves}
use Rattle.rounded.specs.declared.Chosen.{Chosen}

-- a choice of a worker and a line, with what is lent to it
abbrev pub lent : ℕ → ℕ → List ℕ → List ℕ → paper.Lending
lent w l cells figures = record { choice = record { worker = w; line = l }; cells = cells; figures = figures }

-- what a choice returns, with the memory and the figures that it leaves
unfoldable pub chosen_of : Chosen → List ℕ → List ℕ → paper.RoundedChosen tables.State
chosen_of c mem figures = record { answer = answer_of c.answer; run = run_of c.run mem; figures = figures }

-- a choice without rounding, with what came of T and the figures beside it; where T would pass its limit, they stay
abbrev pub joined : {X : Type 0} → rules.Chosen X → paper.Rounding → Settling → paper.RoundedChosen X
joined c r (Spoils figures) = record { answer = c.answer; run = record { machine = c.machine; rounding = r }; figures = figures }
joined c r (Leaves after figures) = record { answer = c.answer; run = record { machine = c.machine; rounding = after }; figures = figures }
