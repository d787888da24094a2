-- Offer, then take (02, 2.3), over any source of tokens.
use Rattle.std.specs.Prelude.{Bool, true, false, ℕ}
use Rattle.rules.specs.Lists.{if, must, must_not}
use Rattle.rules.specs.Sources.{Source}
use Rattle.rules.specs.RunState.{Machine, slot_of}
use Rattle.rules.specs.Choices.{Answer, Started, Finished, Stopped, Refused, Choice, Chosen, refuse, start, choose, choose_by}
use Rattle.vocabulary.specs.Events.{started_kind, finished_kind, stopped_kind, event_record, same_record}
use Rattle.vocabulary.specs.declared.Slot.{Slot}
use Rattle.vocabulary.specs.declared.event.Event.{Event}
use Rattle.vocabulary.specs.declared.event.EventRecord.{EventRecord}

-- whether an answer is a refusal
abbrev pub is_refused : Answer → Bool
is_refused (Started l p t k w) = false
is_refused (Finished l p t k w) = false
is_refused (Stopped l w) = false
is_refused (Refused n) = true

-- the record of the event that a choice answers: "kind (the program's letter as a byte), line, pipe, token and place" (2.6), and the worker
-- "as a sixth field; a stop still has 0 in pipe, token and place" (2.14). A refusal is no event, and its record that of none.
abbrev pub record_of : Answer → EventRecord
record_of (Started l p t k w) = record { kind = started_kind; line = l; pipe = p; token = t; place = k; worker = w }
record_of (Finished l p t k w) = record { kind = finished_kind; line = l; pipe = p; token = t; place = k; worker = w }
record_of (Stopped l w) = record { kind = stopped_kind; line = l; pipe = 0; token = 0; place = 0; worker = w }
record_of (Refused n) = record { kind = 0; line = 0; pipe = 0; token = 0; place = 0; worker = 0 }

-- the answer that an event is
abbrev pub event_of : Event → Answer
event_of (Event.Started s) = Started s.line.0 s.pipe.0 s.token.0 s.place.0 s.worker.0
event_of (Event.Finished s) = Finished s.line.0 s.pipe.0 s.token.0 s.place.0 s.worker.0
event_of (Event.Stopped s) = Stopped s.line.0 s.worker.0

-- the choice that a record names, its worker and its line: "offers and takings .. name the worker" (2.14)
abbrev pub named : EventRecord → Choice
named r = record { worker = r.worker; line = r.line }

-- what comes of a choice that is to be made only if something holds: its own refusal first, then this number, and nothing has changed
unfoldable pub only_if : {X : Type 0} → Machine X → Bool → ℕ → Chosen X → Chosen X
only_if m agreed n c =
    must_not (is_refused c.answer) c
    (must agreed (refuse m n)
    c)

module _ {X : Type 0} (S : Source X) where
  -- what the slot of a line and the source say that it does next, whatever the other numbers are and the checks say: a running line
  -- finishes, a waiting one starts
  unfoldable pub shown : Machine X → ℕ → ℕ → Answer
  shown m w l =
      let s : Slot = slot_of m l in
      if s.running
      (Finished l s.pipe.0 s.token.0 s.place.0 s.worker.0)
      (start S m w l).answer

  -- "the offer returns the event or refusal and changes nothing"
  abbrev pub offer : Machine X → ℕ → ℕ → Answer
  offer m w l = (choose S m w l).answer

  -- the choice that a record names, made only if its event is the record's: refused with this number "when the handed event differs"
  abbrev pub take_record : Machine X → EventRecord → ℕ → Chosen X
  take_record m r n =
      let c : Chosen X = choose_by S m (named r) in
      only_if m (same_record (record_of c.answer) r) n c

  -- "the taking is handed an offered event and acts only if that is still what the line would do. .. Refused: 19, after all of a
  -- choice's own checks .., when the handed event differs."
  abbrev pub take_offered : Machine X → Event → Chosen X
  take_offered m e = take_record m (event_record e) 19
