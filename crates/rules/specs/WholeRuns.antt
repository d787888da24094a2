-- Whole runs (01, "The plain sheet and whole runs"): what is said of a list of choices, over any source of tokens.
-- "demand 3 reads events without the worker" (02, 2.14): no definition here looks at an event's last number.
use Rattle.std.specs.Prelude.{◌≡◌, ◌↔◌, Bool, true, false, List, [], ◌∷◌, ◌++◌, ℕ, zero, suc, ◌+◌, ◌*◌, ◌%◌, ◌≤◌, ◌<◌, eqb, length, get_or, replicate}
use Rattle.rules.specs.Lists.{if, all, same_pair, Every}
use Rattle.rules.specs.Sources.{Source, Writes}
use Rattle.rules.specs.RunState.{Pipeline, Machine, all_idle, full}
use Rattle.rules.specs.Choices.{Choice, Answer, Started, Finished, Stopped, Refused, tabled, opened, choose_by, answers, follow, ended}
use Rattle.rules.specs.Workers.{choice_of, choose_line, OneLineEach}
use Rattle.rules.specs.PlainSheet.{Row, rows}

-- a plan within its ranges, whose first pipe is serial; what is no pipe of it is not serial
pub record PipelineInRange (plan : Pipeline) : Type 0 where
  pub pipes_some : 0 < plan.pipes
  pub pipes_most : plan.pipes ≤ 16
  pub lines_some : 0 < plan.lines
  pub lines_most : plan.lines ≤ 32
  pub tokens_most : plan.tokens ≤ 4096
  pub first_serial : get_or plan.serial 0 false ≡ true
  pub rest_clear : (p : ℕ) → plan.pipes ≤ p → get_or plan.serial p false ≡ false

-- W is 1 to 32
pub record WorkersInRange (workers : ℕ) : Type 0 where
  pub some : 0 < workers
  pub most : workers ≤ 32

-- from x the source writes this order and closes at z, and every token of it is one of the plan's
pub record Sheet {X : Type 0} (S : Source X) (plan : Pipeline) (x : X) (order : List ℕ) (z : X) : Type 0 where
  pub writes : Writes S x order z
  pub fits : length order ≤ plan.tokens
  pub known : (k : ℕ) → k < length order → get_or order k 0 < plan.tokens

-- the counters at the end: as at opening, with the line that stopped for line 0; its counter at pipe 0 is full
unfoldable pub ended_counter : ℕ → ℕ → ℕ → Bool → ℕ
ended_counter stopper l p serial =
    if (all (eqb l stopper ∷ eqb p 0 ∷ [])) 2
    (if (eqb p 0) 1
    (if (eqb l stopper) 1
    (full serial)))

-- the run at the end, when M tokens have been placed
unfoldable pub final : {X : Type 0} → Pipeline → ℕ → ℕ → X → Machine X
final plan workers placed source =
    record {
      pipes = plan.pipes;
      lines = plan.lines;
      tokens = plan.tokens;
      workers = workers;
      serial = plan.serial;
      counters = tabled plan (λ l p. ended_counter (placed % plan.lines) l p (get_or plan.serial p false));
      slots = all_idle;
      placed = placed;
      stopped = true;
      source = source;
    }

-- the same run with another W
abbrev pub with_workers : {X : Type 0} → ℕ → Machine X → Machine X
with_workers workers m =
    record {
      pipes = m.pipes;
      lines = m.lines;
      tokens = m.tokens;
      workers = workers;
      serial = m.serial;
      counters = m.counters;
      slots = m.slots;
      placed = m.placed;
      stopped = m.stopped;
      source = m.source;
    }

-- "The order of a run is that of its Started events at pipe 0."
unfoldable pub ordered : List Answer → List Row
ordered [] = []
ordered (Started l p t k w ∷ rest) = if (eqb p 0) (record { token = t; place = k; line = l } ∷ ordered rest) (ordered rest)
ordered (Finished l p t k w ∷ rest) = ordered rest
ordered (Stopped l w ∷ rest) = ordered rest
ordered (Refused n ∷ rest) = ordered rest

-- an answer that is no refusal
abbrev pub Accepted : Answer → Type 0
Accepted a = (n : ℕ) → a ≡ Refused n → ⊥

-- how many of the choices were accepted
unfoldable pub accepted : List Answer → ℕ
accepted [] = 0
accepted (Started l p t k w ∷ rest) = suc (accepted rest)
accepted (Finished l p t k w ∷ rest) = suc (accepted rest)
accepted (Stopped l w ∷ rest) = suc (accepted rest)
accepted (Refused n ∷ rest) = accepted rest

-- the last answer of a list, or another where it is empty
unfoldable pub last_of : Answer → List Answer → Answer
last_of a [] = a
last_of a (b ∷ rest) = last_of b rest

-- how many Started events there are of a place at a pipe
unfoldable pub starts_of : ℕ → ℕ → List Answer → ℕ
starts_of p k [] = 0
starts_of p k (Started l q t i w ∷ rest) = same_pair p k q i + starts_of p k rest
starts_of p k (Finished l q t i w ∷ rest) = starts_of p k rest
starts_of p k (Stopped l w ∷ rest) = starts_of p k rest
starts_of p k (Refused n ∷ rest) = starts_of p k rest

-- how many Finished events there are of a place at a pipe
unfoldable pub finishes_of : ℕ → ℕ → List Answer → ℕ
finishes_of p k [] = 0
finishes_of p k (Started l q t i w ∷ rest) = finishes_of p k rest
finishes_of p k (Finished l q t i w ∷ rest) = same_pair p k q i + finishes_of p k rest
finishes_of p k (Stopped l w ∷ rest) = finishes_of p k rest
finishes_of p k (Refused n ∷ rest) = finishes_of p k rest

-- an event's numbers are those of the sheet: a pipe of the plan, and a place with its token and line
pub record OnSheet (plan : Pipeline) (order : List ℕ) (l p t k : ℕ) : Type 0 where
  pub pipe : p < plan.pipes
  pub place : k < length order
  pub token : t ≡ get_or order k 0
  pub line : l ≡ k % plan.lines

-- "Each Started or Finished carries the sheet's place and line for its token"; the line that stops is the one after the last
abbrev pub Carries : Pipeline → List ℕ → Answer → Type 0
Carries plan order (Started l p t k w) = OnSheet plan order l p t k
Carries plan order (Finished l p t k w) = OnSheet plan order l p t k
Carries plan order (Stopped l w) = l ≡ length order % plan.lines
Carries plan order (Refused n) = Unit {0}

-- a choice of the one worker that there is for W = 1, worker 0
abbrev pub by_one : ℕ → Choice
by_one l = record { worker = 0; line = l }

-- "Its one worker names line k mod L 2·P times in a row, for each k from 0 to M − 1, then line M mod L once":
-- its choices from place k on, for so many places
unfoldable pub one_worker : Pipeline → ℕ → ℕ → List Choice
one_worker plan k zero = by_one (k % plan.lines) ∷ []
one_worker plan k (suc places) = replicate (2 * plan.pipes) (by_one (k % plan.lines)) ++ one_worker plan (suc k) places

module _ {X : Type 0} (S : Source X) (plan : Pipeline) (workers : ℕ) (events : List Answer) (end : Machine X) where
  -- what demand 3 says of a run's answers and of the machine that it left, where the source writes this order and closes at z
  pub record Demand3 (order : List ℕ) (z : X) : Type 0 where
    -- "After any list it is a first part of the sheet, at the end all of it."
    pub order_part : (rest : List Row) × (ordered events ++ rest ≡ rows plan.lines 0 order)
    pub order_whole : ended end ≡ true → ordered events ≡ rows plan.lines 0 order
    -- "the run has ended exactly when 2·M·P + 1 choices were accepted"
    pub count : (ended end ≡ true) ↔ (accepted events ≡ 2 * length order * plan.pipes + 1)
    -- the end state is that of the plan, W, M and where the source closes: nothing else of the list is left in it
    pub end_state_lem : ended end ≡ true → end ≡ final plan workers (length order) z
    -- "Each Started or Finished carries the sheet's place and line for its token."
    pub carries : Every (Carries plan order) events
    -- "At the end each token of the sheet has had exactly one of each at every pipe."
    pub at_most_once : (p k : ℕ) → p < plan.pipes → k < length order → (starts_of p k events ≤ 1) × (finishes_of p k events ≤ 1)
    pub each_once : ended end ≡ true → (p k : ℕ) → p < plan.pipes → k < length order → (starts_of p k events ≡ 1) × (finishes_of p k events ≡ 1)
    -- "At a serial pipe a token starts after the one before it on the sheet has finished there"
    pub in_turn_lem : (before after : List Answer) (l p t k w : ℕ) → events ≡ before ++ (Started l p t k w ∷ after) →
        get_or plan.serial p false ≡ true → (j : ℕ) → j < k → finishes_of p j before ≡ 1
    -- "no run gets 14"
    pub never_spoiled : Every (λ a. a ≡ Refused 14 → ⊥) events
    -- "before its end every run has an allowed choice"
    pub goes_on : ended end ≡ false → (c : Choice) × (c.worker < workers) × (c.line < plan.lines) × Accepted (choose_by S end c).answer
    -- no worker runs two lines at a time: "A start needs the named worker idle" (2.14)
    pub one_line_each : OneLineEach end.slots plan.lines
    -- "Where 01 lists lines alone, practice's workers go with them": a line's choice by that worker answers and leaves what 01 says
    -- of the line alone (2.14)
    pub line_alone : (l : ℕ) → choose_by S end (choice_of end l) ≡ choose_line S end l

module _ {X : Type 0} (S : Source X) (plan : Pipeline) (workers : ℕ) (x : X) (cs : List Choice) where
  -- the answers of a run with the choices cs, and the run that it leaves
  abbrev pub events : List Answer
  events = answers S (opened plan workers x) cs

  abbrev pub end : Machine X
  end = follow S (opened plan workers x) cs

  -- what holds of the whole list of choices
  abbrev pub WholeRun : List ℕ → X → Type 0
  WholeRun order z = Demand3 S plan workers events end order z
