-- What the engine's answers stand for.
use Rattle.std.specs.Prelude.{List, ℕ, Err}
use Rattle.rules.specs.Choices as rules
use Rattle.vocabulary.specs.declared.refusal.Refusal.{Refusal}
use Rattle.rules.specs.Answers.{answer_of}
use Rattle.tables.specs.State as tables
use Rattle.state.specs.declared.State.{State}
use Rattle.state.specs.Machines.{machine_of}
use Rattle.engine.specs.declared.Chosen.{Chosen}

-- what a choice that is turned down returns
abbrev pub refused_by : State → Refusal → Chosen
refused_by s why = record { answer = Err why; state = s }

-- what a choice returns, with the memory that it leaves
unfoldable pub chosen_of : Chosen → List ℕ → rules.Chosen tables.State
chosen_of c mem = record { answer = answer_of c.answer; machine = machine_of c.state mem }
