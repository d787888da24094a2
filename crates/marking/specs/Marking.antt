-- Marking a written journal (02, 2.6): of a plan file, W and event records, in lent memory.
use Rattle.std.specs.Prelude.{Bool, List, ℕ, Result, Ok, Err}
use Rattle.vocabulary.specs.Refusals.{number_of}
use Rattle.vocabulary.specs.declared.event.EventRecord.{EventRecord}
use Rattle.vocabulary.specs.declared.refusal.Refusal.{Refusal}
use Rattle.rules.specs.RunState.{Machine}
use Rattle.rules.specs.Journals.{Verdict, Marked, closing, mark_more}
use Rattle.rules.specs.Journals as paper
use Rattle.tables.specs.State as tables
use Rattle.tables.specs.Calls.{memory_source}
use Rattle.state.specs.Machines.{machine_of}
use Rattle.state.specs.Ending.{over_of}
use Rattle.opening.specs.Opened.{open_of}
use Rattle.marking.specs.declared.Marking.{Marking}
use Rattle.marking.specs.declared.Progress.{Progress}

-- the paper's values for each case of the answer
abbrev pub verdict_of : Marking → Verdict
verdict_of Marking.Complete = paper.Complete
verdict_of Marking.CorrectSoFar = paper.CorrectSoFar
verdict_of (Marking.Wrong i why) = paper.Wrong i (number_of why)
verdict_of (Marking.NotOpened why) = paper.NotOpened (number_of why)

-- how far marking has come, with the memory
unfoldable pub marked_of : Progress → List ℕ → Marked tables.State
marked_of p m = record { verdict = verdict_of p.marking; machine = machine_of p.state m }

-- "The opening's numbers 1 to 9 come before any event"
abbrev pub opened_verdict : Result (Unit {0}) Refusal → Verdict
opened_verdict (Ok u) = paper.CorrectSoFar
opened_verdict (Err why) = paper.NotOpened (number_of why)

unfoldable pub begun : List ℕ → ℕ → List ℕ → Marked tables.State
begun file workers m =
    let (o, m') = open_of file workers m in
    record { verdict = opened_verdict o.answer; machine = machine_of o.state m' }

-- whether a run has ended, of whatever machine; of one in range it is the rules' `ended`
abbrev pub over_in : Machine tables.State → Bool
over_in a = over_of a.stopped a.lines a.counters a.slots

-- the events of a journal, from a run's opening on
abbrev pub walked : List ℕ → ℕ → List EventRecord → List ℕ → Marked tables.State
walked file workers events m = mark_more memory_source (begun file workers m) 0 events

-- what is said when no event is left: "complete exactly if they end the run, else correct so far"
abbrev pub closed : Marked tables.State → Verdict
closed w = closing (over_in w.machine) w.verdict

-- what marking says
abbrev pub mark_of : List ℕ → ℕ → List EventRecord → List ℕ → Verdict
mark_of file workers events m = closed (walked file workers events m)

-- "the lent run numbers end as the accepted events left them, after a refusal too"
abbrev pub left_memory : Marked tables.State → List ℕ
left_memory w = w.machine.source.1
