-- 01's example of lines listed alone ("Wrong turns"): "Pipes serial, parallel, N = 2, L = 2, W = 2: choices 0 0 0 1 1 1 1 let
-- token 1 finish pipe 1 before token 0. With both serial, the sixth choice gets 12." Practice's workers go with them (02, 2.14).
use Rattle.std.specs.Prelude.{◌≡◌, Bool, true, false, List, [], ◌∷◌, ℕ}
use Rattle.rules.specs.Sources.{Source}
use Rattle.rules.specs.TakingTokens.{Tables}
use Rattle.rules.specs.TakingTokens as tables
use Rattle.rules.specs.RunState.{Machine}
use Rattle.rules.specs.Choices.{Choice, Answer, Started, Finished, Refused, answers, opened}
use Rattle.rules.specs.Workers.{choices_of}
use Rattle.rules.specs.PlainSheet.{plain_source}

abbrev pub lines : List ℕ
lines = 0 ∷ 0 ∷ 0 ∷ 1 ∷ 1 ∷ 1 ∷ 1 ∷ []

-- the plan, whose pipe 1 is serial or is not, opened with so many workers; no token has a record
abbrev pub source : Source Tables
source = plain_source 2 (λ n. [])

abbrev pub begun : Bool → ℕ → Machine Tables
begun serial workers = opened (record { pipes = 2; lines = 2; tokens = 2; serial = true ∷ serial ∷ [] }) workers tables.opened

-- the lines by practice's workers with W = 2, and what they are answered
unfoldable pub practised : Bool → List Choice
practised serial = choices_of source (begun serial 2) lines

unfoldable pub answered : Bool → List Answer
answered serial = answers source (begun serial 2) (practised serial)

-- a choice of a worker and a line
abbrev pub by : ℕ → ℕ → Choice
by w l = record { worker = w; line = l }

-- line 0 is worker 0's, and line 1 worker 1's
abbrev pub chosen : List Choice
chosen = by 0 0 ∷ by 0 0 ∷ by 0 0 ∷ by 1 1 ∷ by 1 1 ∷ by 1 1 ∷ by 1 1 ∷ []

-- with pipe 1 parallel token 1, with worker 1, has finished it and token 0, with worker 0, has not
abbrev pub overtaken : List Answer
overtaken =
    Started 0 0 0 0 0 ∷ Finished 0 0 0 0 0 ∷ Started 0 1 0 0 0 ∷
    Started 1 0 1 1 1 ∷ Finished 1 0 1 1 1 ∷ Started 1 1 1 1 1 ∷ Finished 1 1 1 1 1 ∷ []

-- with both serial the sixth choice gets 12, and so does the seventh
abbrev pub in_turn : List Answer
in_turn =
    Started 0 0 0 0 0 ∷ Finished 0 0 0 0 0 ∷ Started 0 1 0 0 0 ∷
    Started 1 0 1 1 1 ∷ Finished 1 0 1 1 1 ∷ Refused 12 ∷ Refused 12 ∷ []

pub record Overtaking : Type 0 where
  pub named : practised false ≡ chosen
  pub parallel : answered false ≡ overtaken
  pub serial : answered true ≡ in_turn
