-- Twenty cells of 2, rounded to base 5 (02, 2.2): each by itself is rounded to 0, and 40 would be lost. Carried on, 40 is published.
use Rattle.std.specs.Prelude.{◌≡◌, true, List, [], ◌∷◌, map, ℕ, replicate}
use Rattle.rules.specs.Sources.{Source}
use Rattle.rules.specs.TakingTokens as tables
use Rattle.rules.specs.RunState.{Pipeline}
use Rattle.rules.specs.Choices.{Choice, ended}
use Rattle.rules.specs.PlainSheet.{plain_source}
use Rattle.rules.specs.WholeRuns.{WorkersInRange, one_worker}
use Rattle.rules.specs.Rounding.{published, Rounding}
use Rattle.rules.specs.RoundedRuns.{sum_of, rounded_end, carried_lendings, carried_figures}

-- twenty tokens that list nothing, one line, and one serial pipe, which rounds to base 5
abbrev pub source : Source tables.Tables
source = plain_source 20 (λ n. [])

abbrev pub plan : Pipeline
plan = record { pipes = 1; lines = 1; tokens = 20; serial = true ∷ [] }

abbrev pub to_five : Rounding
to_five = record { pipe = 0; base = 5; sum = 0 }

abbrev pub twenty : List ℕ
twenty = replicate 20 2

-- what they publish
abbrev pub carried : List ℕ
carried = 0 ∷ 5 ∷ 0 ∷ 5 ∷ 0 ∷ 0 ∷ 5 ∷ 0 ∷ 5 ∷ 0 ∷ 0 ∷ 5 ∷ 0 ∷ 5 ∷ 0 ∷ 0 ∷ 5 ∷ 0 ∷ 5 ∷ 0 ∷ []

-- a run of theirs, with so many workers and these choices: T at its end, and the figures
module _ (workers : ℕ) (ls : List Choice) where
  abbrev pub Ends : Type 0
  Ends = ended (rounded_end source plan workers tables.opened to_five (carried_lendings source plan workers tables.opened to_five twenty ls)).machine ≡ true

  abbrev pub sum_at_end : ℕ
  sum_at_end = (rounded_end source plan workers tables.opened to_five (carried_lendings source plan workers tables.opened to_five twenty ls)).rounding.sum

  abbrev pub figures : List ℕ
  figures = carried_figures source plan workers tables.opened to_five twenty ls

pub record TwentyCells : Type 0 where
  -- each by itself
  pub alone : sum_of (map (published 5) twenty) ≡ 0
  -- every run that has ended, whatever the workers and the choices
  pub all_sum : (workers : ℕ) → WorkersInRange workers → (ls : List Choice) → Ends workers ls → sum_at_end workers ls ≡ 40
  pub all_figures : (workers : ℕ) → WorkersInRange workers → (ls : List Choice) → Ends workers ls → figures workers ls ≡ carried
  -- which add up to 40
  pub together : sum_of carried ≡ 40
  -- the one-worker run is such a run
  pub one_ends : Ends 1 (one_worker plan 0 20)
