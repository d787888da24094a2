-- Events as values (02, 2.3), and as records of numbers (02, 2.6).
use Rattle.std.specs.Prelude.{Bool, false, ℕ, eqb}
use Rattle.vocabulary.specs.Branches.{if}
use Rattle.vocabulary.specs.declared.event.Step.{Step}
use Rattle.vocabulary.specs.declared.event.Stop.{Stop}
use Rattle.vocabulary.specs.declared.event.Event.{Event}
use Rattle.vocabulary.specs.declared.event.Event.TheVariants.{Started, Finished, Stopped}
use Rattle.vocabulary.specs.declared.event.EventRecord.{EventRecord}

-- "A record has kind (the program's letter as a byte), line, pipe, token and place", the letters being S, F and X; and the worker "as a sixth field" (2.14)
abbrev pub started_kind : ℕ
started_kind = 83

abbrev pub finished_kind : ℕ
finished_kind = 70

abbrev pub stopped_kind : ℕ
stopped_kind = 88

abbrev pub step_record : ℕ → Step → EventRecord
step_record kind s = record { kind = kind; line = s.line.0; pipe = s.pipe.0; token = s.token.0; place = s.place.0; worker = s.worker.0 }

-- "a stop still has 0 in pipe, token and place"
abbrev pub stop_record : Stop → EventRecord
stop_record s = record { kind = stopped_kind; line = s.line.0; pipe = 0; token = 0; place = 0; worker = s.worker.0 }

-- the record of an event
abbrev pub event_record : Event → EventRecord
event_record (Started s) = step_record started_kind s
event_record (Finished s) = step_record finished_kind s
event_record (Stopped s) = stop_record s

-- two records agree in every field
unfoldable pub same_record : EventRecord → EventRecord → Bool
same_record a b =
    if (eqb a.kind b.kind)
    (if (eqb a.line b.line)
    (if (eqb a.pipe b.pipe)
    (if (eqb a.token b.token)
    (if (eqb a.place b.place)
    (eqb a.worker b.worker)
    false) false) false) false) false
