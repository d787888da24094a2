-- What the parts of a move answer, as the code has them.
use Rattle.std.specs.Prelude.{◌≡◌, Bool, true, false, List, ℕ, ◌+◌, ◌-◌, ◌<◌, eqb, ltb, get_or, set, Option, Some, None}
use Rattle.rules.specs.Lists.{if, must_not}
use Rattle.vocabulary.specs.declared.Line.{Line}
use Rattle.vocabulary.specs.declared.Worker.{Worker}
use Rattle.vocabulary.specs.declared.Slot.{Slot}
use Rattle.vocabulary.specs.declared.Slots.{Slots}
use Rattle.vocabulary.specs.declared.event.Event.{Event}
use Rattle.vocabulary.specs.declared.event.Step.{Step}
use Rattle.rules.specs.RunState.{Machine, waits, slot_at, put_slot, counter_at, slot_of, full}
use Rattle.rules.specs.Choices.{Chosen, Finished, next, moved, with_place, start_first}
use Rattle.rules.specs.Answers.{answer_of}
use Rattle.rules.specs.Sources.{Taken, Spoiled, Nothing, Took}
use Rattle.tables.specs.declared.Tables.{Tables}
use Rattle.tables.specs.Calls.{memory_source, safe_take}
use Rattle.state.specs.declared.Figures.{Figures}
use Rattle.state.specs.Machines.{machine_of, whole}
use Rattle.engine.specs.Machines.{chosen_of}
use Rattle.engine.specs.Turns.{Turn, Answer, turned}
use Rattle.engine.specs.declared.turn.Cell.{Cell}
use Rattle.engine.specs.declared.turn.Change.{Change}
use Rattle.engine.specs.declared.finishing.Falls.{Falls}

-- whether a token was taken
abbrev pub is_took : {X : Type 0} → Taken X → Bool
is_took Spoiled = false
is_took (Nothing x) = false
is_took (Took t x) = true

-- whether taking would give a token that no place is left for: "14 if the step would take .. a number past its range"
unfoldable pub overfull_of : Figures → List ℕ → Bool
overfull_of f m = must_not (ltb f.placed f.tables.tokens) false (is_took (safe_take (f.tables, m)))

-- a counter that falls by one: none does that is 0
unfoldable pub lowered_of : Cell → Option Cell
lowered_of c = must_not (eqb c.value 0) None (Some (record { at = c.at; value = c.value - 1 }))

-- the counter ahead once another has fallen: both may be one counter
unfoldable pub left_of : Cell → Cell → Cell
left_of c ahead = record { at = ahead.at; value = if (eqb c.at ahead.at) c.value ahead.value }

-- a fall after another
abbrev pub with_second : Cell → Option Cell → Option Falls
with_second first None = None
with_second first (Some second) = Some (record { first = first; second = second })

abbrev pub then_ahead : Option Cell → Cell → Option Falls
then_ahead None ahead = None
then_ahead (Some first) ahead = with_second first (lowered_of (left_of first ahead))

-- "If the pipe is serial, the counter of line (l+1) mod L at the same pipe falls by one. Then that of this line at pipe
-- (p+1) mod P falls by one", "14 if the step would take a counter below 0": by the two counters
unfoldable pub falls_of : Bool → Cell → Cell → Option Falls
falls_of serial beside ahead = if serial (then_ahead (lowered_of beside) ahead) (with_second ahead (lowered_of ahead))

-- a counter, with its place among all
abbrev pub cell_of : List ℕ → ℕ → ℕ → Cell
cell_of counters l p = record { at = counter_at l p; value = get_or counters (counter_at l p) 0 }

-- both are among the counters
abbrev pub FitFalls : Option Falls → Type 0
FitFalls None = Unit {0}
FitFalls (Some x) = (x.first.at < 512) × (x.second.at < 512)

-- the falls of a line's finish
unfoldable pub both_of : Figures → List ℕ → ℕ → Slot → Option Falls
both_of f counters l slot =
    falls_of (get_or f.serial slot.pipe.0 false) (cell_of counters (next f.lines l) slot.pipe.0) (cell_of counters l (next f.pipes slot.pipe.0))

-- the counters after them
abbrev pub fallen : List ℕ → Falls → List ℕ
fallen counters x = set (set counters x.first.at x.first.value) x.second.at x.second.value

-- a finish that leaves these counters and this source
abbrev pub finished_of : {X : Type 0} → Machine X → ℕ → List ℕ → X → Chosen X
finished_of m l c x =
    let s : Slot = slot_of m l in
    record {
      answer = Finished l s.pipe.0 s.token.0 s.place.0 s.worker.0;
      machine = with_place m c (put_slot m.slots l (moved m.pipes s)) m.placed m.stopped x;
    }

-- a step by the slot of its line
abbrev pub step_of : Line → Slot → Worker → Step
step_of line slot worker = record { line = line; pipe = slot.pipe; token = slot.token; place = slot.place; worker = worker }

-- the event of a finish
abbrev pub finished_event : Line → Slot → Event
finished_event line slot = Event.Finished (step_of line slot slot.worker)

-- a finish, worked out
abbrev pub settled_change : Figures → Line → Slot → Falls → Tables → Change
settled_change f line slot x t = record {
  event = finished_event line slot;
  first = x.first;
  second = x.second;
  slot = moved f.pipes slot;
  placed = f.placed;
  stopped = f.stopped;
  tables = t;
}

-- "The counter becomes full."
abbrev pub refilled : Figures → ℕ → ℕ → Cell
refilled f l p = record { at = counter_at l p; value = full (get_or f.serial p false) }

-- a start with a token that the line holds, one with a token that was taken, and a stop, worked out
abbrev pub started_change : Figures → Worker → Line → Slot → Change
started_change f worker line slot = record {
  event = Event.Started (step_of line slot worker);
  first = refilled f line.0 slot.pipe.0;
  second = refilled f line.0 slot.pipe.0;
  slot = record { pipe = slot.pipe; running = true; token = slot.token; place = slot.place; worker = worker };
  placed = f.placed;
  stopped = f.stopped;
  tables = f.tables;
}

abbrev pub taken_change : Figures → Worker → Line → ℕ → Tables → Change
taken_change f worker line token t =
    started_change (record {
      pipes = f.pipes;
      lines = f.lines;
      workers = f.workers;
      serial = f.serial;
      placed = f.placed + 1;
      stopped = f.stopped;
      tables = t;
    }) worker line (waits 0 token f.placed)

abbrev pub stopped_change : Figures → Worker → Line → Slot → Tables → Change
stopped_change f worker line slot t = record {
  event = Event.Stopped (record { line = line; worker = worker });
  first = refilled f line.0 0;
  second = refilled f line.0 0;
  slot = slot;
  placed = f.placed;
  stopped = true;
  tables = t;
}

-- a turn is the start at pipe 0 with what the tables give, in every state with these figures where the line has this slot
abbrev pub StartsFirst : Figures → List ℕ → ℕ → ℕ → Slot → Turn → List ℕ → List ℕ → Type 0
StartsFirst f counters w l slot turn m m' =
    (slots : Slots) → slot_at slots l ≡ slot →
    chosen_of (turned (whole f counters slots) l turn) m' ≡
    start_first memory_source (machine_of (whole f counters slots) m) w l (safe_take (f.tables, m))

-- an answer is that of the start at pipe 0 with what the tables give, in every state with these figures
abbrev pub AnswersFirst : Figures → ℕ → ℕ → Answer → List ℕ → Type 0
AnswersFirst f w l a m =
    (counters : List ℕ) (slots : Slots) →
    answer_of a ≡ (start_first memory_source (machine_of (whole f counters slots) m) w l (safe_take (f.tables, m))).answer
