-- More workers, same sheet (02, 2.12), worked out: the example of lines listed alone, under other limits.
use Rattle.std.specs.Prelude.{◌≡◌, false, List, [], ◌∷◌, ◌++◌, ℕ}
use Rattle.rules.specs.Choices.{Choice, Answer, Started, Finished, Refused, answers, follow}
use Rattle.rules.specs.WholeRuns.{with_workers}
use Rattle.rules.specs.MoreWorkers.{accepted_choices, without_refusals}
use Rattle.cases.specs.LinesAlone.{source, begun, by, chosen, overtaken}

-- the answers with so many workers
unfoldable pub told : ℕ → List Choice → List Answer
told workers choices = answers source (begun false workers) choices

-- a list with refused choices among others: a worker that W = 2 has not, a line that must wait, a worker who runs another line
abbrev pub strayed : List Choice
strayed = by 2 0 ∷ by 0 0 ∷ by 1 1 ∷ by 0 0 ∷ by 0 0 ∷ by 0 1 ∷ []

-- the first three events
abbrev pub begins : List Answer
begins = Started 0 0 0 0 0 ∷ Finished 0 0 0 0 0 ∷ Started 0 1 0 0 0 ∷ []

-- the answers from the run in which worker 2 has started line 0 with W = 3, with W then made this
unfoldable pub told_from : ℕ → List Choice → List Answer
told_from workers choices = answers source (with_workers workers (follow source (begun false 3) (by 2 0 ∷ []))) choices

pub record Reuse : Type 0 where
  -- accepted with two workers, and with three or 32, with the same events
  pub two : told 2 chosen ≡ overtaken
  pub three : told 3 chosen ≡ overtaken
  pub most : told 32 chosen ≡ overtaken
  -- with one worker there is no worker 1, and worker 0 cannot start line 1 while line 0 is worker 0's
  pub one_unknown : told 1 (by 0 0 ∷ by 0 0 ∷ by 0 0 ∷ by 1 1 ∷ []) ≡ begins ++ (Refused 26 ∷ [])
  pub one_busy : told 1 (by 0 0 ∷ by 0 0 ∷ by 0 0 ∷ by 0 1 ∷ []) ≡ begins ++ (Refused 13 ∷ [])
  -- refused choices among others: with more workers the accepted ones by themselves have the same events
  pub strays : told 2 strayed ≡
      Refused 26 ∷ Started 0 0 0 0 0 ∷ Refused 12 ∷ Finished 0 0 0 0 0 ∷ Started 0 1 0 0 0 ∷ Refused 13 ∷ []
  pub accepted : accepted_choices strayed (told 2 strayed) ≡ by 0 0 ∷ by 0 0 ∷ by 0 0 ∷ []
  pub events : without_refusals (told 2 strayed) ≡ begins
  pub again : told 3 (by 0 0 ∷ by 0 0 ∷ by 0 0 ∷ []) ≡ begins
  -- the whole list need not: worker 2, refused with W = 2, is accepted with W = 3
  pub whole : told 3 strayed ≡
      Started 0 0 0 0 2 ∷ Refused 26 ∷ Refused 12 ∷ Refused 26 ∷ Refused 26 ∷ Refused 12 ∷ []
  -- a list that gets 14 need not either, though it names only workers below W: a line run by worker 2 is out of range with W = 2
  pub spoiled : told_from 2 (by 0 1 ∷ []) ≡ Refused 14 ∷ []
  pub unspoiled : told_from 3 (by 0 1 ∷ []) ≡ Refused 12 ∷ []
