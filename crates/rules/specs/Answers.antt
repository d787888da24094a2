-- The paper's values for each case of an answer (01, "Choices and join counters" and "When the engine says no").
use Rattle.std.specs.Prelude.{Result, Ok, Err}
use Rattle.rules.specs.Choices as paper
use Rattle.vocabulary.specs.Refusals.{number_of}
use Rattle.vocabulary.specs.declared.event.Event.{Event}
use Rattle.vocabulary.specs.declared.event.Event.TheVariants.{Started, Finished, Stopped}
use Rattle.vocabulary.specs.declared.refusal.Refusal.{Refusal}

-- line, pipe, token, place and worker; line and worker; or the refusal's number
unfoldable pub answer_of : Result Event Refusal → paper.Answer
answer_of (Ok (Started s)) = paper.Started s.line.0 s.pipe.0 s.token.0 s.place.0 s.worker.0
answer_of (Ok (Finished s)) = paper.Finished s.line.0 s.pipe.0 s.token.0 s.place.0 s.worker.0
answer_of (Ok (Stopped s)) = paper.Stopped s.line.0 s.worker.0
answer_of (Err why) = paper.Refused (number_of why)
