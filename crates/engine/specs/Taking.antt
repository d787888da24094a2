-- A choice that is made only with leave, or only if it gives a certain event, as the code has it.
use Rattle.std.specs.Prelude.{Bool, false, ℕ, Result, Ok, Err}
use Rattle.rules.specs.Lists.{if}
use Rattle.vocabulary.specs.declared.event.Event.{Event}
use Rattle.vocabulary.specs.declared.event.EventRecord.{EventRecord}
use Rattle.vocabulary.specs.declared.refusal.Refusal.{Refusal}
use Rattle.vocabulary.specs.Events.{event_record, same_record}
use Rattle.vocabulary.specs.Refusals.{number_of}

-- the number that a choice without leave is refused with
abbrev pub other_of : Result (Unit {0}) Refusal → ℕ
other_of (Ok x) = 0
other_of (Err why) = number_of why

-- whether an answer is the event of a record; a refusal is none
abbrev pub agrees_with : Result Event Refusal → EventRecord → Bool
agrees_with (Ok event) r = same_record (event_record event) r
agrees_with (Err why) r = false

-- so there is leave, or the other refusal
abbrev pub leave_if : Bool → Refusal → Result (Unit {0}) Refusal
leave_if agreed other = if agreed (Ok tt) (Err other)
