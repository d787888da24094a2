-- The demands on runs (01, "The plain sheet and whole runs"), for a plan opened in lent memory and any list of choices.
use Rattle.std.specs.Prelude.{◌≡◌, ◌↔◌, Bool, true, false, List, [], ◌∷◌, ◌++◌, ℕ, ◌+◌, ◌*◌, ◌%◌, ◌≤◌, ◌<◌, length, get_or, take, drop}
use Rattle.rules.specs.Lists.{has, times, Every}
use Rattle.rules.specs.TakingTokens as rules
use Rattle.rules.specs.RunState.{Machine}
use Rattle.rules.specs.Choices.{Choice, Answer, Started, Finished, Stopped, Refused, opened, choose_by, answers, follow, ended}
use Rattle.rules.specs.RelatedSources.{with_source, map_machine}
use Rattle.rules.specs.PlainSheet.{Row, rows, sheet, plain_source}
use Rattle.rules.specs.Workers.{choice_of, choices_of, choose_line, line_answers, OneLineEach}
use Rattle.rules.specs.Chains.{Blocked}
use Rattle.rules.specs.WholeRuns.{WorkersInRange, Carries, ordered, accepted, starts_of, finishes_of, final}
use Rattle.rules.specs.WholeRuns.{events, end, with_workers, one_worker, Accepted, last_of}
use Rattle.plan.specs.Plan.{Plan}
use Rattle.tables.specs.State.{State, opened_tables, table_of}
use Rattle.tables.specs.Calls.{memory_source}
use Rattle.tables.specs.Matching.{Match, beyond}
use Rattle.loading.specs.Plans.{numbers_in, pipeline_of}
use Rattle.loading.specs.Layout.{laid_out}

-- an answer came in a list of answers
abbrev pub Came : Answer → List Answer → Type 0
Came a told = (before : List Answer) × (after : List Answer) × (told ≡ before ++ (a ∷ after))

-- a Started event names this token
abbrev pub IsStarted : ℕ → List Answer → Type 0
IsStarted n told = (l : ℕ) × (p : ℕ) × (k : ℕ) × (w : ℕ) × Came (Started l p n k w) told

-- a machine over the rules' tables and one over the tables in memory: the same but for these, which match
pub record Alike (tokens : ℕ) (numbers : ℕ → List ℕ) (a : Machine rules.Tables) (b : Machine State) : Type 0 where
  pub rest : b ≡ with_source a b.source
  -- the tokens that have been taken and have not finished pipe 0
  pub out : ℕ → Bool
  pub tables : Match tokens numbers a.source b.source out

-- the numbers that a token's record lists, and the plain sheet
abbrev pub numbers : Plan → ℕ → List ℕ
numbers p = numbers_in p.records

abbrev pub order : Plan → List ℕ
order p = sheet p.tokens (numbers p)

module _ (p : Plan) (m : List ℕ) where
  -- the tables and the memory at opening
  abbrev pub begun : State
  begun = (opened_tables p.tokens, laid_out p.records m)

  -- a run with so many workers and these choices: its answers, the machine that it leaves, and the deferred table there
  module _ (workers : ℕ) (cs : List Choice) where
    abbrev pub told : List Answer
    told = events memory_source (pipeline_of p) workers begun cs

    abbrev pub left : Machine State
    left = end memory_source (pipeline_of p) workers begun cs

    abbrev pub deferred_at_end : List ℕ
    deferred_at_end = table_of left.source.0 left.source.1

-- What the demands say of a run's answers, of the machine that it left, and of its end. For a session of the code these
-- are the paper's values of its answers, the machine of the state and memory that it left, and what `ended` returns for
-- that state (specs/CodeRuns.antt).
pub record Shows (p : Plan) (workers : ℕ) (lent : List ℕ) (choices : List Choice) (events : List Answer) (machine : Machine State) (over : Bool) : Type 0 where
  -- "The run has ended when it is marked stopped, no line runs and no waiting line has counter 0."
  pub over_is : over ≡ ended machine
  -- "The order of a run is that of its Started events at pipe 0. After any list it is a first part of the sheet, at the
  -- end all of it."
  pub order_part : (rest : List Row) × (ordered events ++ rest ≡ rows p.lines 0 (order p))
  pub order_whole : over ≡ true → ordered events ≡ rows p.lines 0 (order p)
  -- it has ended exactly when 2·M·P + 1 choices were accepted
  pub count : (over ≡ true) ↔ (accepted events ≡ 2 * length (order p) * length p.kinds + 1)
  -- "Each Started or Finished carries the sheet's place and line for its token."
  pub carries : Every (Carries (pipeline_of p) (order p)) events
  -- "At the end each token of the sheet has had exactly one of each at every pipe."
  pub at_most_once : (q k : ℕ) → q < length p.kinds → k < length (order p) → (starts_of q k events ≤ 1) × (finishes_of q k events ≤ 1)
  pub each_once : over ≡ true → (q k : ℕ) → q < length p.kinds → k < length (order p) → (starts_of q k events ≡ 1) × (finishes_of q k events ≡ 1)
  -- "At a serial pipe a token starts after the one before it on the sheet has finished there,
  pub in_turn_lem : (before after : List Answer) (l q t k w : ℕ) → events ≡ before ++ (Started l q t k w ∷ after) →
      get_or (pipeline_of p).serial q false ≡ true → (j : ℕ) → j < k → finishes_of q j before ≡ 1
  -- and so after all it deferred to: every number that its records list."
  pub after_deferred : (before after : List Answer) (l q t k w : ℕ) → events ≡ before ++ (Started l q t k w ∷ after) →
      get_or (pipeline_of p).serial q false ≡ true → (n : ℕ) → has (numbers p t) n ≡ true →
      (i : ℕ) × (j : ℕ) × (v : ℕ) × Came (Finished i q n j v) before
  -- "A token stays deferred if it is below N and no Started event of a run followed to its end names it; the deferred
  -- table then holds just these", each once;
  pub stays : over ≡ true → (n : ℕ) →
      (has (table_of machine.source.0 machine.source.1) n ≡ true) ↔ ((n < p.tokens) × (IsStarted n events → ⊥))
  pub stays_once : over ≡ true → (n : ℕ) → times n (table_of machine.source.0 machine.source.1) ≤ 1
  -- they are the tokens from which a chain meets a cycle or a number that never enters
  pub stays_blocked : over ≡ true → (n : ℕ) → n < p.tokens →
      (has (table_of machine.source.0 machine.source.1) n ≡ true) ↔ Blocked p.tokens (numbers p) n
  -- at the end every number of the state but those of the tables is told by the plan, W and M
  pub end_state_lem : over ≡ true → machine ≡ final (pipeline_of p) workers (length (order p)) machine.source
  -- "before its end every run has an allowed choice": one that `choose` would accept next
  pub goes_on : over ≡ false → (c : Choice) × (c.worker < workers) × (c.line < p.lines) × Accepted (choose_by memory_source machine c).answer
  -- no worker runs two lines at a time: "A start needs the named worker idle" (02, 2.14)
  pub one_line_each : OneLineEach machine.slots p.lines
  -- "Where 01 lists lines alone, practice's workers go with them": a line's choice by that worker answers and leaves what 01 says
  -- of the line alone (2.14)
  pub line_alone : (l : ℕ) → choose_by memory_source machine (choice_of machine l) ≡ choose_line memory_source machine l
  -- "no run gets 14"
  pub never_spoiled : Every (λ a. a ≡ Refused 14 → ⊥) events
  -- demand 2: the answers are those of the rules, and so is the machine, but for the tables, which match
  pub answers_as_rules : events ≡ answers (plain_source p.tokens (numbers p)) (opened (pipeline_of p) workers rules.opened) choices
  pub left_as_rules : Alike p.tokens (numbers p) (follow (plain_source p.tokens (numbers p)) (opened (pipeline_of p) workers rules.opened) choices) machine
  -- the memory keeps its length; "anything beyond is untouched"
  pub length_kept : length machine.source.1 ≡ length lent
  pub beyond_kept : drop 32768 machine.source.1 ≡ drop 32768 lent

-- the end state, but for the workers: the state and the first 32,768 numbers
abbrev pub end_state : Machine State → Machine State
end_state a = with_workers 0 (with_source a (a.source.0, take 32768 a.source.1))

-- a list of lines alone, by practice's workers (02, 2.14), in a run of the plan; and what 01 says of the lines
module _ (p : Plan) (m : List ℕ) (workers : ℕ) (ls : List ℕ) where
  abbrev pub lines_chosen : List Choice
  lines_chosen = choices_of memory_source (opened (pipeline_of p) workers (begun p m)) ls

  abbrev pub lines_told : List Answer
  lines_told = line_answers memory_source (opened (pipeline_of p) workers (begun p m)) ls

-- the choices of the one-worker run
abbrev pub one_worker_choices : Plan → List Choice
one_worker_choices p = one_worker (pipeline_of p) 0 (length (order p))

-- what holds of a plan's runs, in whatever memory
pub record Demands (p : Plan) : Type 0 where
  pub runs : (m : List ℕ) → 32768 ≤ length m → (workers : ℕ) → WorkersInRange workers → (cs : List Choice) →
      Shows p workers m cs (told p m workers cs) (left p m workers cs) (ended (left p m workers cs))
  -- what was in the first 32,768 lent numbers before the opening plays no part, at the end or before
  pub whatever_lent : (m : List ℕ) (workers : ℕ) → WorkersInRange workers → (cs : List Choice) →
      left p m workers cs ≡ map_machine (beyond (drop 32768 m)) (left p [] workers cs)
  -- two runs that have ended, with whatever memory, workers and choices, have left the same end state
  pub same_end : (m k : List ℕ) (w v : ℕ) → WorkersInRange w → WorkersInRange v → (cs ds : List Choice) →
      ended (left p m w cs) ≡ true → ended (left p k v ds) ≡ true →
      end_state (left p m w cs) ≡ end_state (left p k v ds)
  -- the one-worker run: all its choices are accepted, the last stops, and it has ended
  pub one_worker_lem : (m : List ℕ) → Every Accepted (told p m 1 (one_worker_choices p))
  pub one_worker_stops : (m : List ℕ) (a : Answer) → last_of a (told p m 1 (one_worker_choices p)) ≡ Stopped (length (order p) % p.lines) 0
  pub one_worker_ends : (m : List ℕ) → ended (left p m 1 (one_worker_choices p)) ≡ true
  -- "Where 01 lists lines alone, practice's workers go with them": they are answered as 01 says of the lines (2.14)
  pub lines_answered : (m : List ℕ) (workers : ℕ) → WorkersInRange workers → (ls : List ℕ) →
      told p m workers (lines_chosen p m workers ls) ≡ lines_told p m workers ls
