-- More workers, same sheet (02, 2.12): a list of choices made again in a run with a larger limit W, "whichever workers the choices
-- name" (2.14).
use Rattle.std.specs.Prelude.{◌≡◌, Bool, true, false, List, [], ◌∷◌, ℕ, ◌≤◌, ◌<◌}
use Rattle.rules.specs.Lists.{if, keep, Every}
use Rattle.rules.specs.Sources.{Source}
use Rattle.rules.specs.RunState.{Machine}
use Rattle.rules.specs.Choices.{Choice, Answer, Started, Finished, Stopped, Refused, answers, follow}
use Rattle.rules.specs.WholeRuns.{Accepted, with_workers}

-- whether an answer is an event: one that is none is a refusal
unfoldable pub is_event : Answer → Bool
is_event (Started l p t k w) = true
is_event (Finished l p t k w) = true
is_event (Stopped l w) = true
is_event (Refused n) = false

-- a list's answers without its refusals
abbrev pub without_refusals : List Answer → List Answer
without_refusals told = keep is_event told

-- the choices of a list that were accepted, by the list's answers
unfoldable pub accepted_choices : List Choice → List Answer → List Choice
accepted_choices [] told = []
accepted_choices (c ∷ cs) [] = []
accepted_choices (c ∷ cs) (a ∷ told) = if (is_event a) (c ∷ accepted_choices cs told) (accepted_choices cs told)

-- the choices of a list that a run accepts
abbrev pub accepted_in : {X : Type 0} → Source X → Machine X → List Choice → List Choice
accepted_in S m cs = accepted_choices cs (answers S m cs)

-- a choice that names one of W workers
abbrev pub Known : ℕ → Choice → Type 0
Known workers c = c.worker < workers

-- a list of choices made in the run m, and in the run m' with more workers
module _ {X : Type 0} (S : Source X) (m m' : Machine X) (cs : List Choice) where
  -- a list that m accepts
  pub record Reused : Type 0 where
    -- "a list of choices accepted under a limit W of 1 to 32 is accepted under every larger one up to 32,
    pub accepted : Every Accepted (answers S m' cs)
    -- with the same events",
    pub events : answers S m' cs ≡ answers S m cs
    -- and leaves the same but for W
    pub left : follow S m' cs ≡ with_workers m'.workers (follow S m cs)

  -- a list with refused choices: those that m accepts, made by themselves, are accepted by m' with the same events, and leave what the
  -- whole list left, but for W
  pub record AcceptedReused : Type 0 where
    pub accepted : Every Accepted (answers S m' (accepted_in S m cs))
    pub events : answers S m' (accepted_in S m cs) ≡ without_refusals (answers S m cs)
    pub left : follow S m' (accepted_in S m cs) ≡ with_workers m'.workers (follow S m cs)

  -- a list that names only workers below the smaller limit, and that m never answers by 14: every answer is the same, refusals too, and
  -- it leaves the same but for W
  pub record AnsweredAlike : Type 0 where
    pub told : answers S m' cs ≡ answers S m cs
    pub left : follow S m' cs ≡ with_workers m'.workers (follow S m cs)

-- what holds of every machine, whether a run leaves it or not. The run that is opened with W, its limit made larger, is the run that is
-- opened with the larger one.
pub record MoreWorkers {X : Type 0} (S : Source X) (m : Machine X) : Type 0 where
  -- "a list of choices accepted under a limit W .. is accepted under every larger one up to 32, with the same events"
  pub reused : (larger : ℕ) → m.workers ≤ larger → larger ≤ 32 → (cs : List Choice) → Every Accepted (answers S m cs) →
      Reused S m (with_workers larger m) cs
  -- of any list, those that are accepted
  pub accepted_reused : (larger : ℕ) → m.workers ≤ larger → larger ≤ 32 → (cs : List Choice) → AcceptedReused S m (with_workers larger m) cs
  -- and a list that names only workers below W, and gets no 14
  pub answered_alike : (larger : ℕ) → m.workers ≤ larger → larger ≤ 32 → (cs : List Choice) → Every (Known m.workers) cs →
      Every (λ a. a ≡ Refused 14 → ⊥) (answers S m cs) → AnsweredAlike S m (with_workers larger m) cs
