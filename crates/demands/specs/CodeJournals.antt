-- Marking a written journal (02, 2.6), of the code: what a caller of `mark` and of `mark_file` sees.
-- Of a call nothing is known here but what its `ensures` says, in the same words.
use Rattle.std.specs.Prelude.{◌≡◌, ◌↔◌, ◌⊎◌, true, false, List, ◌++◌, ℕ, ◌+◌, ◌*◌, ◌≤◌, length, take, drop, Ok, Err}
use Rattle.vocabulary.specs.Refusals.{number_of}
use Rattle.vocabulary.specs.declared.event.EventRecord.{EventRecord}
use Rattle.vocabulary.specs.declared.refusal.Refusal.{Refusal}
use Rattle.rules.specs.RunState.{Machine}
use Rattle.rules.specs.Choices.{Choice, ended}
use Rattle.rules.specs.PlainSheet.{Row, rows}
use Rattle.rules.specs.WholeRuns.{WorkersInRange}
use Rattle.rules.specs.Journals.{journal_of, order_in, FirstWrong}
use Rattle.plan.specs.Plan.{Plan, Valid, encode}
use Rattle.tables.specs.State as tables
use Rattle.tables.specs.Calls.{memory_source}
use Rattle.state.specs.Ending.{ended_of}
use Rattle.opening.specs.Opened.{opened_machine, open_of}
use Rattle.marking.specs.declared.Marking.{Marking}
use Rattle.marking.specs.Marking.{verdict_of, walked, mark_of, left_memory}
use Rattle.journal_file.specs.Records.{records_in}
use Rattle.demands.specs.Demands.{order, told, left}
use Rattle.demands.specs.CodeRuns.{Session}

-- a call of `mark` with this file, W, records and memory returned `r` and left the memory `m'`: what `mark` ensures
abbrev pub MarkCall : List ℕ → ℕ → List EventRecord → List ℕ → Marking → List ℕ → Type 0
MarkCall file workers events m r m' = (verdict_of r ≡ mark_of file workers events m) × (m' ≡ left_memory (walked file workers events m))

-- the same of `mark_file`, with the records in these bytes: what it ensures, so that all that is said of calls of `mark` holds of its calls
abbrev pub MarkFileCall : List ℕ → ℕ → List ℕ → List ℕ → Marking → List ℕ → Type 0
MarkFileCall file workers journal m r m' = MarkCall file workers (records_in journal) m r m'

-- a journal that passes is complete or correct so far
abbrev pub Passes : Marking → Type 0
Passes r = (r ≡ Marking.Complete) ⊎ (r ≡ Marking.CorrectSoFar)

-- what holds of a journal whose run is opened. The choices that are spoken of are any list, refused ones among them or not; `told` and
-- `left` are what a session with them is answered and leaves (`CodeDemands`, specs/CodeRuns.antt).
pub record MarkedRun (file : List ℕ) (workers : ℕ) (events : List EventRecord) (m : List ℕ) (r : Marking) (m' : List ℕ) : Type 0 where
  pub plan : Plan
  pub valid : Valid plan
  pub file_is : file ≡ encode plan
  pub manned : WorkersInRange workers
  pub enough : 32768 ≤ length m
  -- "A journal passes exactly if some choices, from opening, give just those events.
  pub passes : Passes r ↔ ((cs : List Choice) × (journal_of (told plan m workers cs) ≡ events))
  -- It is complete exactly if they end the run, else correct so far."
  pub complete : (r ≡ Marking.Complete) ↔ ((cs : List Choice) × (journal_of (told plan m workers cs) ≡ events) × (ended (left plan m workers cs) ≡ true))
  pub so_far : (r ≡ Marking.CorrectSoFar) ↔ ((cs : List Choice) × (journal_of (told plan m workers cs) ≡ events) × (ended (left plan m workers cs) ≡ false))
  -- "the lent run numbers end as the accepted events left them
  pub memory : (cs : List Choice) → journal_of (told plan m workers cs) ≡ events → m' ≡ (left plan m workers cs).source.1
  -- , after a refusal too": else "the index (from 0) of the first event that the rules do not give, with its refusal"
  pub wrong : (i : ℕ) (why : Refusal) → r ≡ Marking.Wrong i why →
      (a : Machine tables.State) × FirstWrong memory_source (opened_machine plan workers m) events a i (number_of why) × (m' ≡ a.source.1)
  pub opened : (why : Refusal) → r ≡ Marking.NotOpened why → ⊥
  -- whatever is said, what is lent beyond the first 32,768 numbers is untouched
  pub length_kept : length m' ≡ length m
  pub beyond_kept : drop 32768 m' ≡ drop 32768 m
  -- one key for all: the starts at pipe 0 of a journal that passes are a first part of the plain sheet, and of a complete one all of it,
  -- whatever W and the choices; a journal that passes is complete exactly if it has 2·M·P + 1 events
  pub key_part : Passes r → (rest : List Row) × (order_in events ++ rest ≡ rows plan.lines 0 (order plan))
  pub key : r ≡ Marking.Complete → order_in events ≡ rows plan.lines 0 (order plan)
  pub count : Passes r → ((r ≡ Marking.Complete) ↔ (length events ≡ 2 * length (order plan) * length plan.kinds + 1))

-- what holds of every call of `mark`: "The opening's numbers 1 to 9 come before any event", and nothing is written then
pub record CodeMarks (file : List ℕ) (workers : ℕ) (events : List EventRecord) (m : List ℕ) (r : Marking) (m' : List ℕ) : Type 0 where
  pub refused : (why : Refusal) → (open_of file workers m).0.answer ≡ Err why → (r ≡ Marking.NotOpened why) × (m' ≡ m)
  pub accepted : (open_of file workers m).0.answer ≡ Ok tt → MarkedRun file workers events m r m'

-- the journal of a session of the engine, marked in whatever memory: it passes, and marking leaves the numbers that the session left
pub record SessionMarked {file : List ℕ} {workers : ℕ} {lent : List ℕ} {choices : List Choice} (s : Session file workers lent choices) (r : Marking) (m' : List ℕ) : Type 0 where
  pub complete : ended_of s.state ≡ true → r ≡ Marking.Complete
  pub so_far : ended_of s.state ≡ false → r ≡ Marking.CorrectSoFar
  pub memory : take 32768 m' ≡ take 32768 s.memory

-- a journal that passes in a hall with W workers gets the same word in one with more, up to 32, in whatever memory (2.12)
abbrev pub SameWithMore : Marking → Marking → Type 0
SameWithMore r larger = Passes r → larger ≡ r
