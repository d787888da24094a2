-- What a whole run returns and leaves.
use Rattle.std.specs.Prelude.{List, Result, Ok, Err, ℕ}
use Rattle.vocabulary.specs.declared.refusal.Refusal.{Refusal}
use Rattle.vocabulary.specs.Refusals.{number_of}
use Rattle.rules.specs.Choices.{choices_in, answers, follow}
use Rattle.tables.specs.Calls.{memory_source}
use Rattle.state.specs.Machines.{machine_of}
use Rattle.opening.specs.Opened.{open_of}
use Rattle.state.specs.declared.State.{State}
use Rattle.whole_run.specs.Checksums.{checksum}

-- after an opening with this answer, in this state and memory: the number of its refusal, with the memory as it was; or the
-- checksum of all answers, with the memory that the choices leave; the choices are given as bytes
unfoldable pub ran_from : Result (Unit {0}) Refusal → State → List ℕ → List ℕ → ℕ × List ℕ
ran_from (Err why) s choices m = (number_of why, m)
ran_from (Ok u) s choices m =
    (checksum 0 (answers memory_source (machine_of s m) (choices_in choices)), (follow memory_source (machine_of s m) (choices_in choices)).source.1)

unfoldable pub run_of : List ℕ → ℕ → List ℕ → List ℕ → ℕ × List ℕ
run_of file workers choices m =
    ran_from (open_of file workers m).0.answer (open_of file workers m).0.state choices (open_of file workers m).1
