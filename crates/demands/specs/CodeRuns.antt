-- Runs of the code: what a caller of `open`, `choose` and `ended` sees, and what the demands say of it.
-- Of each call nothing is known here but what its `ensures` says, in the same words.
use Rattle.std.specs.Prelude.{◌≡◌, true, List, [], ◌∷◌, map, ℕ, ◌%◌, ◌≤◌, length, take, Result, Ok}
use Rattle.rules.specs.Lists.{Every}
use Rattle.rules.specs.Choices as rules
use Rattle.rules.specs.Choices.{Choice, Stopped, Refused, choose}
use Rattle.rules.specs.WholeRuns.{WorkersInRange, Accepted, last_of}
use Rattle.rules.specs.Answers.{answer_of}
use Rattle.vocabulary.specs.declared.event.Event.{Event}
use Rattle.vocabulary.specs.declared.refusal.Refusal.{Refusal}
use Rattle.plan.specs.Plan.{Plan, Valid, encode}
use Rattle.tables.specs.Calls.{memory_source}
use Rattle.demands.specs.Demands.{Shows, order, told, left, one_worker_choices, lines_chosen, lines_told}
use Rattle.state.specs.Machines.{machine_of}
use Rattle.engine.specs.Machines.{chosen_of}
use Rattle.state.specs.Ending.{ended_of}
use Rattle.opening.specs.Opened.{open_of, refused_with}
use Rattle.state.specs.declared.State.{State}
use Rattle.engine.specs.declared.Chosen.{Chosen}
use Rattle.opening.specs.declared.Opened.{Opened}

-- a call of `choose` with this state, memory, worker and line returned `r` and left the memory `m'`: what `choose` ensures
abbrev pub ChooseCall : State → List ℕ → ℕ → ℕ → Chosen → List ℕ → Type 0
ChooseCall s m w l r m' = chosen_of r m' ≡ choose memory_source (machine_of s m) w l

-- a call of `open` with this file, W and memory returned `o` and left the memory `m'`: what `open` ensures
abbrev pub OpenCall : List ℕ → ℕ → List ℕ → Opened → List ℕ → Type 0
OpenCall file workers m o m' = (o ≡ (open_of file workers m).0) × (m' ≡ (open_of file workers m).1)

-- from a state and memory, calls of `choose` with these workers and lines, "each given the state and memory that the one before left",
-- returned these answers and left this state and memory
pub data Calls : State → List ℕ → List Choice → List (Result Event Refusal) → State → List ℕ → Type 0 where
  no_call : {s : State} {m : List ℕ} → Calls s m [] [] s m
  call : {s next last : State} {m m' end : List ℕ} {c : Choice} {cs : List Choice} {a : Result Event Refusal} {rest : List (Result Event Refusal)} →
      ChooseCall s m c.worker c.line (record { answer = a; state = next }) m' → Calls next m' cs rest last end →
      Calls s m (c ∷ cs) (a ∷ rest) last end

-- "A run is an accepted opening and choices": the opening of a file with W workers in lent memory, these choices, and
-- what came of them
pub record Session (file : List ℕ) (workers : ℕ) (lent : List ℕ) (choices : List Choice) : Type 0 where
  pub opening : Opened
  pub begun : List ℕ
  pub opens : OpenCall file workers lent opening begun
  pub accepts : opening.answer ≡ Ok tt
  pub answers : List (Result Event Refusal)
  pub state : State
  pub memory : List ℕ
  pub calls : Calls opening.state begun choices answers state memory

-- the state but for W
abbrev pub but_workers : State → State
but_workers s = record {
  pipes = s.pipes;
  lines = s.lines;
  workers = 0;
  serial = s.serial;
  counters = s.counters;
  at = s.at;
  running = s.running;
  token = s.token;
  place = s.place;
  worker = s.worker;
  placed = s.placed;
  stopped = s.stopped;
  tables = s.tables;
}

-- the paper's values of a session's answers
abbrev pub events_of : {file : List ℕ} {workers : ℕ} {lent : List ℕ} {choices : List Choice} → Session file workers lent choices → List rules.Answer
events_of s = map answer_of s.answers

-- "The end state is the state and the first 32,768 numbers": two sessions have left the same one, but for W. It is said too of sessions
-- that have not ended (MoreWorkers.antt).
pub record SameEnd (s : State) (m : List ℕ) (t : State) (k : List ℕ) : Type 0 where
  pub states : but_workers s ≡ but_workers t
  pub memories : take 32768 m ≡ take 32768 k

-- what holds of a session: its file is that of a valid plan, W is 1 to 32 and enough numbers were lent; and all the demands
pub record CodeDemands {file : List ℕ} {workers : ℕ} {lent : List ℕ} {choices : List Choice} (s : Session file workers lent choices) : Type 0 where
  pub plan : Plan
  pub valid : Valid plan
  pub file_is : file ≡ encode plan
  pub manned : WorkersInRange workers
  pub enough : 32768 ≤ length lent
  -- what the code answered and left is what specs/Demands.antt speaks of, and so as `Shows` says there, sentence by sentence
  pub told_is : events_of s ≡ told plan lent workers choices
  pub left_is : machine_of s.state s.memory ≡ left plan lent workers choices
  pub shows : Shows plan workers lent choices (events_of s) (machine_of s.state s.memory) (ended_of s.state)
  -- whatever the workers, the lent numbers and the choices: two sessions of this file that have ended left the same end state
  pub same_end : {w : ℕ} {m : List ℕ} {cs : List Choice} (t : Session file w m cs) → ended_of s.state ≡ true → ended_of t.state ≡ true →
      SameEnd s.state s.memory t.state t.memory
  -- the one-worker run: "All these choices are accepted, and the last stops"; it has ended
  pub one_worker_lem : {m : List ℕ} (t : Session file 1 m (one_worker_choices plan)) → Every Accepted (events_of t)
  pub one_worker_stops : {m : List ℕ} (t : Session file 1 m (one_worker_choices plan)) (a : rules.Answer) →
      last_of a (events_of t) ≡ Stopped (length (order plan) % plan.lines) 0
  pub one_worker_ends : {m : List ℕ} (t : Session file 1 m (one_worker_choices plan)) → ended_of t.state ≡ true
  -- lines listed alone, by practice's workers, are answered as 01 says of the lines (2.14)
  pub lines_answered : {w : ℕ} {m : List ℕ} (ls : List ℕ) (t : Session file w m (lines_chosen plan m w ls)) → events_of t ≡ lines_told plan m w ls

-- "A refused opening returns a state of zeros beside its number; a choice on it gets 14": nothing is written, and whatever
-- the memory, the worker and the line, such a choice changes nothing
pub record RefusedOpening (why : Refusal) (m : List ℕ) (o : Opened) (m' : List ℕ) : Type 0 where
  pub zeros : o ≡ refused_with why
  pub kept : m' ≡ m
  pub spoiled : (mem : List ℕ) (w l : ℕ) (r : Chosen) (mem' : List ℕ) → ChooseCall o.state mem w l r mem' →
      (answer_of r.answer ≡ Refused 14) × (r.state ≡ o.state) × (mem' ≡ mem)
