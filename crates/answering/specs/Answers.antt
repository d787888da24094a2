-- What a command makes of what the console holds (docs/CONSOLE.md): the run, its lent numbers, cells and figures, and the output.
use Rattle.std.specs.Prelude.{List, [], ◌∷◌, ◌++◌, ℕ, take, drop}
use Rattle.vocabulary.specs.declared.event.Event.{Event}
use Rattle.rules.specs.Lists.{if}
use Rattle.rules.specs.Rounding as paper
use Rattle.rules.specs.RoundedOffers.{offer_rounded, take_rounded}
use Rattle.tables.specs.State as tables
use Rattle.tables.specs.Calls.{memory_source}
use Rattle.state.specs.Ending.{ended_of}
use Rattle.opening.specs.Opened.{state_of, open_of}
use Rattle.rounding.specs.declared.run.Run.{Run}
use Rattle.rounding.specs.Runs.{run_of, without_rounding}
use Rattle.rounded.specs.Runs.{lent}
use Rattle.rounded_opening.specs.RoundedOpenings.{RoundedOpening, rounding_with, open_rounded_of}
use Rattle.sink.specs.Sinks.{Output, put_each}
use Rattle.printing.specs.Texts.{line_texts, answer_texts}
use Rattle.session.specs.Begun.{is_accepted}
use Rattle.session.specs.Printed.{closing_texts}
use Rattle.commands.specs.declared.Choice.{Choice}
use Rattle.commands.specs.declared.RoundingAt.{RoundingAt}
use Rattle.commands.specs.declared.Command.{Command}
use Rattle.commands.specs.declared.Command.TheVariants.{Plan, Open, OpenRounded, Choose, Offer, Take, Mark, Figures, Sum, Ended, Quit, Unknown}
use Rattle.answering.specs.declared.Talk.{Talk}
use Rattle.answering.specs.Lines.{opening_texts}

-- `lent` says how many of the cells and of the figures are lent with each choice
pub record Held : Type 0 where
  pub run : Run
  pub lent : ℕ
  pub memory : List ℕ
  pub cells : List ℕ
  pub figures : List ℕ
  pub output : Output

abbrev pub held_of : Talk → List ℕ → List ℕ → List ℕ → List ℕ → Held
held_of t memory cells figures out = record {
  run = t.run;
  lent = t.lent;
  memory = memory;
  cells = cells;
  figures = figures;
  output = (t.sink, out);
}

-- the cells and the figures that are lent: the first ones, as many as there are
abbrev pub lent_cells : Held → List ℕ
lent_cells c = take c.lent c.cells

abbrev pub lent_figures : Held → List ℕ
lent_figures c = take c.lent c.figures

-- another output, and nothing else
abbrev pub with_output : Held → Output → Held
with_output c o = record {
  run = c.run;
  lent = c.lent;
  memory = c.memory;
  cells = c.cells;
  figures = c.figures;
  output = o;
}

-- only some texts are put
unfoldable pub told : List (List ℕ) → Held → Held
told texts c = with_output c (put_each c.output texts)

-- `open W`: the run that is opened, without rounding, and `A`; where it is refused, a state of zeros, the lent numbers as before, and
-- `R n`. No cells or figures are lent
unfoldable pub opened_in : List ℕ → ℕ → Held → Held
opened_in file workers c =
    record {
      run = without_rounding (open_of file workers c.memory).0.state;
      lent = 0;
      memory = (open_of file workers c.memory).1;
      cells = c.cells;
      figures = c.figures;
      output = put_each c.output (opening_texts (open_of file workers c.memory).0.answer);
    }

-- what an opening with rounding leaves and says: as many cells and figures are lent with a run that is opened, and none where it is
-- refused; the figures beyond stay as they are
unfoldable pub after_opening : ℕ → RoundedOpening → Held → Held
after_opening many opened c =
    record {
      run = opened.returned.run;
      lent = if (is_accepted opened.returned.answer) many 0;
      memory = opened.memory;
      cells = c.cells;
      figures = opened.figures ++ drop many c.figures;
      output = put_each c.output (opening_texts opened.returned.answer);
    }

-- `open W PIPE BASE PATH`, where the path's cells are so many, the first ones: with as many figures, the first ones too
unfoldable pub opened_rounded_in : List ℕ → RoundingAt → ℕ → Held → Held
opened_rounded_in file asked many c =
    after_opening many
    (open_rounded_of file asked.workers asked.pipe.0 asked.base c.memory (take many c.cells) (take many c.figures)) c

-- what a choice leaves and says; the figures that are not lent stay as they are
unfoldable pub after : paper.RoundedChosen tables.State → Held → Held
after chosen c =
    record {
      run = record { state = state_of chosen.run.machine; rounding = rounding_with chosen.run.rounding };
      lent = c.lent;
      memory = chosen.run.machine.source.1;
      cells = c.cells;
      figures = chosen.figures ++ drop c.lent c.figures;
      output = put_each c.output (answer_texts chosen.answer);
    }

-- a choice with what is lent to it
abbrev pub lending : Choice → Held → paper.Lending
lending choice c = lent choice.worker.0 choice.line.0 (lent_cells c) (lent_figures c)

-- `choose WORKER LINE`: the paper's choice, and its line as the scheduler prints it
unfoldable pub chosen_in : Choice → Held → Held
chosen_in choice c = after (paper.choose_rounded memory_source (run_of c.run c.memory) (lending choice c)) c

-- `offer WORKER LINE`: the line that the choice would get, and nothing else
unfoldable pub offered_in : Choice → Held → Held
offered_in choice c = told (answer_texts (offer_rounded memory_source (run_of c.run c.memory) (lending choice c))) c

-- `take S l p t k w`, `take F l p t k w`, `take X l w`: the paper's taking of an offered event
unfoldable pub taken_in : Event → Held → Held
taken_in event c = after (take_rounded memory_source (run_of c.run c.memory) event (lent_cells c) (lent_figures c)) c

-- `figures`: `C f f ..`, the lent figures, token by token
unfoldable pub figures_in : Held → Held
figures_in c = told (line_texts (67 ∷ []) (lent_figures c)) c

-- `sum`: `T n`, the run's T
unfoldable pub sum_in : Held → Held
sum_in c = told (line_texts (84 ∷ []) (c.run.rounding.sum ∷ [])) c

-- `ended`: `E` or `O`
unfoldable pub ended_in : Held → Held
ended_in c = told (closing_texts (ended_of c.run.state)) c

-- any command; those that read a file and `quit` are left to the program, and a line that is none is answered by `?`
abbrev pub answered : List ℕ → Command → Held → Held
answered file (Plan start) c = c
answered file (Open workers) c = opened_in file workers c
answered file (OpenRounded asked) c = c
answered file (Choose choice) c = chosen_in choice c
answered file (Offer choice) c = offered_in choice c
answered file (Take event) c = taken_in event c
answered file (Mark journal) c = c
answered file Figures c = figures_in c
answered file Sum c = sum_in c
answered file Ended c = ended_in c
answered file Quit c = c
answered file Unknown c = told ((63 ∷ 10 ∷ []) ∷ []) c
