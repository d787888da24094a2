-- Runs of the code with rounding: what a caller of `open_rounded`, or of `open`, and of `choose_rounded` sees, whatever cells and figures
-- it lends to each call. Of each call nothing is known here but what its `ensures` says, in the same words.
use Rattle.std.specs.Prelude.{◌≡◌, true, List, [], ◌∷◌, map, ℕ, ◌≤◌, length, Result, Ok}
use Rattle.vocabulary.specs.declared.event.Event.{Event}
use Rattle.vocabulary.specs.declared.refusal.Refusal.{Refusal}
use Rattle.rules.specs.Choices as rules
use Rattle.rules.specs.Choices.{Choice, Refused, ended}
use Rattle.rules.specs.Answers.{answer_of}
use Rattle.rules.specs.WholeRuns.{WorkersInRange}
use Rattle.rules.specs.MoreWorkers.{without_refusals, accepted_choices}
use Rattle.rules.specs.Rounding as paper
use Rattle.rules.specs.Rounding.{Lending, choose_rounded}
use Rattle.rules.specs.RoundedRuns.{AtOpening, choices_of, rounded_events, rounded_end, RoundedRun}
use Rattle.plan.specs.Plan.{Plan, Valid, encode}
use Rattle.tables.specs.State as tables
use Rattle.tables.specs.Calls.{memory_source}
use Rattle.loading.specs.Plans.{pipeline_of}
use Rattle.state.specs.Machines.{machine_of}
use Rattle.state.specs.Ending.{ended_of}
use Rattle.opening.specs.declared.Opened as opening
use Rattle.rounding.specs.declared.run.Run.{Run}
use Rattle.rounding.specs.Roundings.{rounding_of}
use Rattle.rounding.specs.Runs.{run_of, without_rounding}
use Rattle.rounded_opening.specs.declared.Opened.{Opened}
use Rattle.rounded_opening.specs.RoundedOpenings.{open_rounded_of, refused_rounded}
use Rattle.rounded.specs.declared.Chosen.{Chosen}
use Rattle.rounded.specs.Runs.{chosen_of}
use Rattle.demands.specs.Demands.{Shows, order, begun}
use Rattle.demands.specs.CodeRuns.{OpenCall, Session, SameEnd}
use Rattle.demands.specs.CodeRuns as base

-- a call of `choose_rounded` with this run and memory, and a choice with the cells and figures that are lent to it, returned `c` and left
-- this memory and these figures: what `choose_rounded` ensures
abbrev pub ChooseRoundedCall : Run → List ℕ → Lending → Chosen → List ℕ → List ℕ → Type 0
ChooseRoundedCall r m a c m' figures' = chosen_of c m' figures' ≡ choose_rounded memory_source (run_of r m) a

-- a call of `open_rounded` returned `o` and left this memory and these figures: what `open_rounded` ensures
abbrev pub OpenRoundedCall : List ℕ → ℕ → ℕ → ℕ → List ℕ → List ℕ → List ℕ → Opened → List ℕ → List ℕ → Type 0
OpenRoundedCall file workers pipe base m cells figures o m' figures' =
    (o ≡ (open_rounded_of file workers pipe base m cells figures).returned) ×
    (m' ≡ (open_rounded_of file workers pipe base m cells figures).memory) ×
    (figures' ≡ (open_rounded_of file workers pipe base m cells figures).figures)

-- from a run and memory, calls of `choose_rounded` with these choices, each given the run and memory that the one before left, and
-- whatever cells and figures, returned these answers and left this run and memory
pub data RoundedCalls : Run → List ℕ → List Lending → List (Result Event Refusal) → Run → List ℕ → Type 0 where
  no_call : {r : Run} {m : List ℕ} → RoundedCalls r m [] [] r m
  call : {r next last : Run} {m m' end : List ℕ} {a : Lending} {more : List Lending} {told : Result Event Refusal} {rest : List (Result Event Refusal)} (figures' : List ℕ) →
      ChooseRoundedCall r m a (record { answer = told; run = next }) m' figures' → RoundedCalls next m' more rest last end →
      RoundedCalls r m (a ∷ more) (told ∷ rest) last end

-- an accepted opening of a file, without rounding or with it, gave this run and left this memory
pub data RoundedOpens (file : List ℕ) (workers : ℕ) (lent : List ℕ) (r : Run) (m : List ℕ) : Type 0 where
  plainly : (o : opening.Opened) → OpenCall file workers lent o m → o.answer ≡ Ok tt → r ≡ without_rounding o.state →
      RoundedOpens file workers lent r m
  rounding : (pipe base : ℕ) (cells figures figures' : List ℕ) (o : Opened) →
      OpenRoundedCall file workers pipe base lent cells figures o m figures' → o.answer ≡ Ok tt → r ≡ o.run →
      RoundedOpens file workers lent r m

-- an opening of a file with W workers in lent memory, these choices with what was lent to each, and what came of them
pub record RoundedSession (file : List ℕ) (workers : ℕ) (lent : List ℕ) (lendings : List Lending) : Type 0 where
  pub first : Run
  pub begun : List ℕ
  pub opens : RoundedOpens file workers lent first begun
  pub answers : List (Result Event Refusal)
  pub run : Run
  pub memory : List ℕ
  pub calls : RoundedCalls first begun lendings answers run memory

module _ {file : List ℕ} {workers : ℕ} {lent : List ℕ} {lendings : List Lending} (s : RoundedSession file workers lent lendings) where
  -- the paper's values of its answers, and the choices that were accepted
  abbrev pub events_of : List rules.Answer
  events_of = map answer_of s.answers

  abbrev pub accepted_in : List Choice
  accepted_in = accepted_choices (choices_of lendings) events_of

  -- what holds of it
  pub record CodeRounded : Type 0 where
    pub plan : Plan
    pub valid : Valid plan
    pub file_is : file ≡ encode plan
    pub manned : WorkersInRange workers
    pub enough : 32768 ≤ length lent
    -- its pipe, base and T at opening: all 0, or a serial pipe of the plan, 3 or 5, and 0
    pub rounding : paper.Rounding
    pub rounding_is : rounding_of s.first.rounding ≡ rounding
    pub opens : AtOpening (pipeline_of plan) rounding
    -- what the code answered and left is what `RoundedRun` speaks of, and so it is as that says, sentence by sentence: sums and cells,
    -- demand 3, no 14, and 18 only where what was lent does not fit
    pub told_is : events_of ≡ rounded_events memory_source (pipeline_of plan) workers (begun plan lent) rounding lendings
    pub left_is : run_of s.run s.memory ≡ rounded_end memory_source (pipeline_of plan) workers (begun plan lent) rounding lendings
    pub closed : tables.State
    pub run_is : RoundedRun memory_source (pipeline_of plan) workers (begun plan lent) rounding lendings (order plan) closed
    pub ended_is : ended_of s.run.state ≡ ended (machine_of s.run.state s.memory)
    -- "After any list of choices .. the rest of state and tables is that of the base run over the choices that were accepted": every
    -- session without rounding with these choices has the same events, and left the same state and numbers
    pub as_base : (t : Session file workers lent accepted_in) →
        (base.events_of t ≡ without_refusals events_of) × (t.state ≡ s.run.state) × (t.memory ≡ s.memory)
    -- so all that the demands say of a run, they say of this one's events, state and numbers
    pub shows : Shows plan workers lent accepted_in (without_refusals events_of) (machine_of s.run.state s.memory) (ended_of s.run.state)
    -- "two runs that differ in rounding or in cells share demand 3's end state but for these three as well", whatever the workers, the
    -- lent numbers and the choices
    pub same_end : {w : ℕ} {m : List ℕ} {ls : List Lending} (t : RoundedSession file w m ls) →
        ended_of s.run.state ≡ true → ended_of t.run.state ≡ true → SameEnd s.run.state s.memory t.run.state t.memory

-- "A refused opening returns a state of zeros beside its number; a choice on it gets 14": nothing is written, figures neither, and
-- whatever is lent to it, such a choice changes nothing
pub record RefusedRounding (why : Refusal) (m figures : List ℕ) (o : Opened) (m' figures' : List ℕ) : Type 0 where
  pub zeros : o ≡ refused_rounded why
  pub kept : m' ≡ m
  pub figures_kept : figures' ≡ figures
  pub spoiled : (mem : List ℕ) (a : Lending) (c : Chosen) (mem' left : List ℕ) → ChooseRoundedCall o.run mem a c mem' left →
      (answer_of c.answer ≡ Refused 14) × (c.run ≡ o.run) × (mem' ≡ mem) × (left ≡ a.figures)
