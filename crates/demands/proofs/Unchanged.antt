-- A refused choice leaves the state and the memory as they were.
use mathlib.Core.Path.{◌≡◌, sym, ap, ◌∙◌}
use mathlib.Core.List.{List}
use Prim.Native.Nat.{ℕ}
use Rattle.rules.specs.Choices.{Refused}
use Rattle.rules.proofs.choices.Outcomes as rules
use Rattle.tables.specs.Calls.{memory_source}
use Rattle.state.specs.declared.State.{State}
use Rattle.engine.specs.declared.Chosen.{Chosen}
use Rattle.state.specs.Machines.{machine_of}
use Rattle.engine.specs.Machines.{chosen_of}
use Rattle.demands.specs.CodeRuns.{ChooseCall}
use Rattle.rules.specs.Answers.{answer_of}

-- two states and memories with one machine are one
pub same_state : (s t : State) (mem mem' : List ℕ) → machine_of s mem ≡ machine_of t mem' → (s ≡ t) × (mem ≡ mem')
unfolding machine_of
same_state s t mem mem' e = (
  λ i. record {
    pipes = (e i).pipes;
    lines = (e i).lines;
    workers = (e i).workers;
    serial = (e i).serial;
    counters = (e i).counters;
    at = (e i).slots.at;
    running = (e i).slots.running;
    token = (e i).slots.token;
    place = (e i).slots.place;
    worker = (e i).slots.worker;
    placed = (e i).placed;
    stopped = (e i).stopped;
    tables = (e i).source.0;
  },
  λ i. (e i).source.1,
)

-- a call of `choose` that is refused, in whatever state and memory
pub refused_unchanged : (s : State) (m : List ℕ) (w l : ℕ) (r : Chosen) (m' : List ℕ) (n : ℕ) →
    ChooseCall s m w l r m' → answer_of r.answer ≡ Refused n → (r.state ≡ s) × (m' ≡ m)
unfolding chosen_of
refused_unchanged s m w l r m' n called told =
    same_state r.state s m' m
    (ap (λ c. c.machine) called ∙ rules.refused_unchanged memory_source (machine_of s m) w l n (sym (ap (λ c. c.answer) called) ∙ told))
