-- A choice worked out on the parts of a state, and made of the whole.
use Rattle.std.specs.Prelude.{◌≡◌, List, ℕ, ◌<◌, set, Result, Ok, Err}
use Rattle.vocabulary.specs.Refusals.{number_of}
use Rattle.vocabulary.specs.declared.Slot.{Slot}
use Rattle.vocabulary.specs.declared.Slots.{Slots}
use Rattle.rules.specs.RunState.{Machine, slot_at, put_slot}
use Rattle.rules.specs.Choices as rules
use Rattle.rules.specs.Answers.{answer_of}
use Rattle.vocabulary.specs.declared.event.Event.{Event}
use Rattle.vocabulary.specs.declared.refusal.Refusal.{Refusal}
use Rattle.tables.specs.State as tables
use Rattle.tables.specs.Calls.{memory_source}
use Rattle.state.specs.declared.State.{State}
use Rattle.state.specs.declared.Figures.{Figures}
use Rattle.state.specs.Machines.{slots_of, machine_of, whole, Ready}
use Rattle.engine.specs.declared.Chosen.{Chosen}
use Rattle.engine.specs.declared.turn.Change.{Change}
use Rattle.engine.specs.declared.turn.Move.{Move}
use Rattle.engine.specs.Machines.{refused_by, chosen_of}

-- what a choice comes to, worked out, and what it answers
abbrev pub Turn : Type 0
Turn = Result Change Refusal

abbrev pub Answer : Type 0
Answer = Result Event Refusal

-- the counters after a change
abbrev pub recounted : List ℕ → Change → List ℕ
recounted counters c = set (set counters c.first.at c.first.value) c.second.at c.second.value

-- what a turn of a line makes of a state
abbrev pub turned : State → ℕ → Turn → Chosen
turned s l (Err why) = refused_by s why
turned s l (Ok c) = record {
  answer = Ok c.event;
  state = record {
    pipes = s.pipes;
    lines = s.lines;
    workers = s.workers;
    serial = s.serial;
    counters = recounted s.counters c;
    at = (put_slot (slots_of s) l c.slot).at;
    running = (put_slot (slots_of s) l c.slot).running;
    token = (put_slot (slots_of s) l c.slot).token;
    place = (put_slot (slots_of s) l c.slot).place;
    worker = (put_slot (slots_of s) l c.slot).worker;
    placed = c.placed;
    stopped = c.stopped;
    tables = c.tables;
  };
}

-- its counters and its slot are within the state's tables
abbrev pub Fits : ℕ → Turn → Type 0
Fits l (Err why) = Unit {0}
Fits l (Ok c) = (c.first.at < 512) × (c.second.at < 512) × (l < 32)

-- a turn is what a rule makes of the line, in every state with these figures and counters where the line has this slot
abbrev pub Follows : (Machine tables.State → ℕ → rules.Chosen tables.State) → Figures → List ℕ → ℕ → Slot → Turn → List ℕ → List ℕ → Type 0
Follows rule f counters l slot turn m m' =
    (slots : Slots) → slot_at slots l ≡ slot →
    chosen_of (turned (whole f counters slots) l turn) m' ≡ rule (machine_of (whole f counters slots) m) l

-- an answer is that of a rule for the line, in every such state
abbrev pub AnswersAs : (Machine tables.State → ℕ → rules.Chosen tables.State) → Figures → List ℕ → ℕ → Slot → Answer → List ℕ → Type 0
AnswersAs rule f counters l slot a m =
    (slots : Slots) → slot_at slots l ≡ slot →
    answer_of a ≡ (rule (machine_of (whole f counters slots) m) l).answer

-- the line is one of the plan and has this slot, and the worker's choice of it is what a rule makes of the line
pub record Goes (rule : Machine tables.State → ℕ → rules.Chosen tables.State) (f : Figures) (counters : List ℕ) (slots : Slots) (w l : ℕ) (m : List ℕ) (slot : Slot) : Type 0 where
  pub ready : Ready f slot l
  pub at : slot_at slots l ≡ slot
  pub chosen : rule (machine_of (whole f counters slots) m) l ≡ rules.choose memory_source (machine_of (whole f counters slots) m) w l

-- what the checks of a choice tell: that it is refused, or that it is the line's start, by the worker, or its finish
abbrev pub Tells : Figures → List ℕ → Slots → ℕ → ℕ → List ℕ → Result Move Refusal → Type 0
Tells f counters slots w l m (Err why) =
    rules.refuse (machine_of (whole f counters slots) m) (number_of why) ≡ rules.choose memory_source (machine_of (whole f counters slots) m) w l
Tells f counters slots w l m (Ok (Move.Start slot)) = Goes (λ a k. rules.start memory_source a w k) f counters slots w l m slot
Tells f counters slots w l m (Ok (Move.Finish slot)) = Goes (rules.finish memory_source) f counters slots w l m slot
