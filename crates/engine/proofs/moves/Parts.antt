-- The machine of a state some of whose parts are new, and a refusal.
use mathlib.Core.Path.{◌≡◌}
use mathlib.Core.Bool.{Bool}
use mathlib.Core.List.{List}
use Prim.Native.Nat.{ℕ}
use Rattle.vocabulary.specs.declared.Slots.{Slots}
use Rattle.vocabulary.specs.declared.refusal.Refusal.{Refusal}
use Rattle.vocabulary.specs.Refusals.{number_of}
use Rattle.rules.specs.RunState.{Machine}
use Rattle.rules.specs.Choices.{with_place, refuse}
use Rattle.rules.specs.Choices as rules
use Rattle.tables.specs.declared.Tables.{Tables}
use Rattle.tables.specs.State as tables
use Rattle.state.specs.declared.State.{State}
use Rattle.engine.specs.declared.Chosen.{Chosen}
use Rattle.state.specs.declared.Figures.{Figures}
use Rattle.state.specs.Machines.{slots_of, figures_of, machine_of, whole}
use Rattle.engine.specs.Machines.{refused_by, chosen_of}
use Rattle.engine.specs.Turns.{Turn, turned}
use Rattle.rules.specs.Answers.{answer_of}

-- the same state but for some of its parts
abbrev pub with_parts : State → List ℕ → Slots → ℕ → Bool → Tables → State
with_parts s counters slots placed stopped tables =
    record {
      pipes = s.pipes;
      lines = s.lines;
      workers = s.workers;
      serial = s.serial;
      counters = counters;
      at = slots.at;
      running = slots.running;
      token = slots.token;
      place = slots.place;
      worker = slots.worker;
      placed = placed;
      stopped = stopped;
      tables = tables;
    }

-- its machine is that of the state but for these parts, if N is the same
pub parts : (s : State) (m m' : List ℕ) {a : rules.Answer} {c c' : List ℕ} {slots slots' : Slots} {k k' : ℕ} {stopped : Bool} {t : Tables} →
    t.tokens ≡ s.tables.tokens → c ≡ c' → slots ≡ slots' → k ≡ k' →
    ◌≡◌ {A = rules.Chosen tables.State} (record { answer = a; machine = machine_of (with_parts s c slots k stopped t) m' })
    (record { answer = a; machine = with_place (machine_of s m) c' slots' k' stopped (t, m') })
unfolding machine_of
parts s m m' {a} {stopped = stopped} {t = t} same c-is slots_are k-is = λ i. record {
  answer = a;
  machine = record {
    pipes = s.pipes;
    lines = s.lines;
    tokens = same i;
    workers = s.workers;
    serial = s.serial;
    counters = c-is i;
    slots = slots_are i;
    placed = k-is i;
    stopped = stopped;
    source = (t, m');
  };
}

-- what the code returns for a refusal
pub refused : {r : Chosen} (s : State) (why : Refusal) (m : List ℕ) → r ≡ refused_by s why →
    chosen_of r m ≡ refuse (machine_of s m) (number_of why)
unfolding chosen_of answer_of
refused s why m e = rw e

-- what was worked out on a state's parts holds of the state: of an answer, and of a turn
module _ (s : State) {f : Figures} {slots : Slots} (f-is : f ≡ figures_of s) (slots_are : slots ≡ slots_of s) (m : List ℕ) where
  pub answered_of : (rule : Machine tables.State → rules.Answer) {a : rules.Answer} → a ≡ rule (machine_of (whole f s.counters slots) m) → a ≡ rule (machine_of s m)
  answered_of rule h = rw (f-is, slots_are) at h

  pub turned_of : (rule : Machine tables.State → rules.Chosen tables.State) (l : ℕ) (m' : List ℕ) {turn told : Turn} → turn ≡ told →
      chosen_of (turned (whole f s.counters slots) l turn) m' ≡ rule (machine_of (whole f s.counters slots) m) →
      chosen_of (turned s l told) m' ≡ rule (machine_of s m)
  turned_of rule l m' turn_is h = rw (f-is, slots_are, turn_is) at h
