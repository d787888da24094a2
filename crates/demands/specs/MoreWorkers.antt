-- More workers, same sheet (02, 2.12), for runs of the code: a session's choices made again in a session of the same file with a larger
-- limit W, "whichever workers the choices name" (2.14), and whatever the lent numbers.
use Rattle.std.specs.Prelude.{◌≡◌, List, ℕ, ◌≤◌, length, drop, Ok}
use Rattle.rules.specs.Lists.{Every}
use Rattle.rules.specs.Choices.{Choice}
use Rattle.rules.specs.WholeRuns.{Accepted}
use Rattle.rules.specs.MoreWorkers.{accepted_choices, without_refusals, Known}
use Rattle.opening.specs.declared.Opened.{Opened}
use Rattle.demands.specs.CodeRuns.{OpenCall, Session, events_of, SameEnd}

-- two sessions, which need not have ended, have left the same state but for W, and the same numbers: the first 32,768, and the others
-- where these were lent alike
pub record LeftAlike {file : List ℕ} {w v : ℕ} {m k : List ℕ} {cs ds : List Choice} (s : Session file w m cs) (t : Session file v k ds) : Type 0 where
  pub end : SameEnd s.state s.memory t.state t.memory
  pub numbers : drop 32768 m ≡ drop 32768 k → s.memory ≡ t.memory

module _ {file : List ℕ} {workers : ℕ} {lent : List ℕ} {choices : List Choice} (s : Session file workers lent choices) where
  -- a session whose choices were all accepted, and another with these choices
  pub record Reused {larger : ℕ} {m : List ℕ} (t : Session file larger m choices) : Type 0 where
    -- "a list of choices accepted under a limit W of 1 to 32 is accepted under every larger one up to 32,
    pub accepted : Every Accepted (events_of t)
    -- with the same events",
    pub events : events_of t ≡ events_of s
    -- and leaves the same state but for W, and the same numbers
    pub left : LeftAlike s t

  -- a session with refused choices, and another with those that were accepted
  pub record AcceptedReused {larger : ℕ} {m : List ℕ} (t : Session file larger m (accepted_choices choices (events_of s))) : Type 0 where
    pub accepted : Every Accepted (events_of t)
    pub events : events_of t ≡ without_refusals (events_of s)
    pub left : LeftAlike s t

  -- a session whose choices name only workers below its limit, and another with these choices: every answer is the same, refusals too
  pub record AnsweredAlike {larger : ℕ} {m : List ℕ} (t : Session file larger m choices) : Type 0 where
    pub told : events_of t ≡ events_of s
    pub left : LeftAlike s t

  -- what holds of a session in larger halls
  pub record MoreWorkers : Type 0 where
    -- the file is opened with every larger limit up to 32
    pub opens : (larger : ℕ) → workers ≤ larger → larger ≤ 32 → (m : List ℕ) → 32768 ≤ length m →
        (o : Opened) (m' : List ℕ) → OpenCall file larger m o m' → o.answer ≡ Ok tt
    -- "a list of choices accepted under a limit W .. is accepted under every larger one up to 32, with the same events"
    pub reused : Every Accepted (events_of s) → {larger : ℕ} {m : List ℕ} (t : Session file larger m choices) → workers ≤ larger → Reused t
    -- of a list with refused choices, those that were accepted are accepted there too, made by themselves
    pub accepted_reused : {larger : ℕ} {m : List ℕ} (t : Session file larger m (accepted_choices choices (events_of s))) → workers ≤ larger →
        AcceptedReused t
    -- and where it names only workers below W, the whole list is answered alike
    pub answered_alike : Every (Known workers) choices → {larger : ℕ} {m : List ℕ} (t : Session file larger m choices) → workers ≤ larger →
        AnsweredAlike t
