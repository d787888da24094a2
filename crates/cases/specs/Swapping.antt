-- Swapping neighbours (02, 2.12), worked out; and what fails from states that no run leaves, where two lines may move at pipe 0 at once.
use Rattle.std.specs.Prelude.{◌≡◌, true, List, [], ◌∷◌, ℕ, set}
use Rattle.rules.specs.Sources.{Source}
use Rattle.rules.specs.TakingTokens.{Tables}
use Rattle.rules.specs.TakingTokens as tables
use Rattle.rules.specs.RunState.{Machine, counter_at}
use Rattle.rules.specs.Choices.{Choice, Answer, Started, Finished, with_place, answers, follow, opened}
use Rattle.rules.specs.PlainSheet.{Deferral, numbers_of, plain_source}
use Rattle.cases.specs.LinesAlone.{by}
use Rattle.cases.specs.MoreWorkers.{told}

-- a run of one serial pipe on two lines with two workers, of so many tokens with these records
abbrev pub source_of : ℕ → List Deferral → Source Tables
source_of tokens records = plain_source tokens (numbers_of records)

abbrev pub begun : ℕ → Machine Tables
begun tokens = opened (record { pipes = 1; lines = 2; tokens = tokens; serial = true ∷ [] }) 2 tables.opened

-- a run whose line 1 may start pipe 0 though it is not its turn: its counter there is made 0
abbrev pub out_of_turn : Machine Tables → Machine Tables
out_of_turn m = with_place m (set m.counters (counter_at 1 0) 0) m.slots m.placed m.stopped m.source

-- two tokens, none deferred, at opening: both lines may start
unfoldable pub starting : List Choice → List Answer
starting choices = answers (source_of 2 []) (out_of_turn (begun 2)) choices

-- four tokens; 0 waits for 2, and 1 for 3. Line 0 runs pipe 0 with token 2, and then line 1 with token 3: both may finish
abbrev pub records : List Deferral
records = (0, 2 ∷ []) ∷ (1, 3 ∷ []) ∷ []

unfoldable pub running : Machine Tables
running = follow (source_of 4 records) (out_of_turn (follow (source_of 4 records) (begun 4) (by 0 0 ∷ []))) (by 1 1 ∷ [])

unfoldable pub finishing : List Choice → List Answer
finishing choices = answers (source_of 4 records) running choices

unfoldable pub ready_after : List Choice → List ℕ
ready_after choices = (follow (source_of 4 records) running choices).source.ready

pub record Swaps : Type 0 where
  -- in the example of lines listed alone the third and the fourth choice change places: each has the same event, and so have those after
  pub swapped : told 2 (by 0 0 ∷ by 0 0 ∷ by 1 1 ∷ by 0 0 ∷ by 1 1 ∷ by 1 1 ∷ by 1 1 ∷ []) ≡
      Started 0 0 0 0 0 ∷ Finished 0 0 0 0 0 ∷ Started 1 0 1 1 1 ∷ Started 0 1 0 0 0 ∷
      Finished 1 0 1 1 1 ∷ Started 1 1 1 1 1 ∷ Finished 1 1 1 1 1 ∷ []
  -- from a state that no run leaves two starts: both orders are accepted, and who is first gets token 0
  pub starts : starting (by 0 0 ∷ by 1 1 ∷ []) ≡ Started 0 0 0 0 0 ∷ Started 1 0 1 1 1 ∷ []
  pub starts_swapped : starting (by 1 1 ∷ by 0 0 ∷ []) ≡ Started 1 0 0 0 1 ∷ Started 0 0 1 1 0 ∷ []
  -- and two finishes: both orders are accepted with the same events, and the ready queue tells who was first
  pub finishes : finishing (by 0 0 ∷ by 1 1 ∷ []) ≡ Finished 0 0 2 0 0 ∷ Finished 1 0 3 1 1 ∷ []
  pub finishes_swapped : finishing (by 1 1 ∷ by 0 0 ∷ []) ≡ Finished 1 0 3 1 1 ∷ Finished 0 0 2 0 0 ∷ []
  pub ready : ready_after (by 0 0 ∷ by 1 1 ∷ []) ≡ 0 ∷ 1 ∷ []
  pub ready_swapped : ready_after (by 1 1 ∷ by 0 0 ∷ []) ≡ 1 ∷ 0 ∷ []
