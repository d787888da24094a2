-- Cases a to j (01, "Plans with known orders"): the rows of one table, with all that the paper says of each.
use Rattle.std.specs.Prelude.{true, List, [], ◌∷◌, ℕ, length, replicate, take}
use Rattle.rules.specs.Lists.{must}
use Rattle.rules.specs.TakingTokens.{Tables}
use Rattle.rules.specs.TakingTokens as tables
use Rattle.rules.specs.RunState.{Pipeline, Machine}
use Rattle.rules.specs.Choices.{Choice, Answer, Started, Finished, Stopped, answers, follow, opened, ended}
use Rattle.rules.specs.PlainSheet.{Deferral, numbers_of, sheet, staying, plain_source, rows, on_line}
use Rattle.rules.specs.WholeRuns.{one_worker}

-- what the paper tells of a plan: the order, what stays deferred, what line 0 runs, how many choices end the one-worker
-- run, and its first events, as far as they are given
pub record Outcome : Type 0 where
  pub order : List ℕ
  pub stays : List ℕ
  pub line0 : List ℕ
  pub choices : ℕ
  pub events : List Answer

-- a plan of P serial pipes, and what is known of it
pub record Case : Type 0 where
  pub pipes : ℕ
  pub lines : ℕ
  pub tokens : ℕ
  pub records : List Deferral
  pub known : Outcome

abbrev pub pipeline_of : Case → Pipeline
pipeline_of c = record { pipes = c.pipes; lines = c.lines; tokens = c.tokens; serial = replicate c.pipes true }

-- the one-worker run of a case, whose sheet is this order: worker 0 makes all its choices
module _ (c : Case) (order : List ℕ) where
  abbrev begun : Machine Tables
  begun = opened (pipeline_of c) 1 tables.opened

  abbrev one_worker_list : List Choice
  one_worker_list = one_worker (pipeline_of c) 0 (length order)

  -- its answers
  unfoldable pub told : List Answer
  told = answers (plain_source c.tokens (numbers_of c.records)) begun one_worker_list

  -- the number of its choices, if they end it
  unfoldable pub ended_after : ℕ
  ended_after = must (ended (follow (plain_source c.tokens (numbers_of c.records)) begun one_worker_list)) 0 (length one_worker_list)

-- what the rules give
unfoldable pub outcome : Case → Outcome
outcome c =
    let order : List ℕ = sheet c.tokens (numbers_of c.records) in
    let answered : List Answer = told c order in
    record {
      order = order;
      stays = staying c.tokens (numbers_of c.records);
      line0 = on_line 0 (rows c.lines 0 order);
      choices = ended_after c order;
      events = take (length c.known.events) answered;
    }

-- "Where a row is silent, it has one serial pipe, one line and one worker": line 0 runs all
abbrev pub case : ℕ → List Deferral → List ℕ → List ℕ → ℕ → Case
case tokens records order stays choices = record {
  pipes = 1;
  lines = 1;
  tokens = tokens;
  records = records;
  known = record { order = order; stays = stays; line0 = order; choices = choices; events = [] };
}

-- case a, whole
abbrev pub case_a : Case
case_a = record {
  pipes = 1;
  lines = 1;
  tokens = 1;
  records = [];
  known = record {
    order = 0 ∷ [];
    stays = [];
    line0 = 0 ∷ [];
    choices = 3;
    events = Started 0 0 0 0 0 ∷ Finished 0 0 0 0 0 ∷ Stopped 0 0 ∷ [];
  };
}

-- case b's order, whatever P and L are
abbrev pub order_b : List ℕ
order_b = 0 ∷ 1 ∷ 2 ∷ 3 ∷ 4 ∷ 5 ∷ 6 ∷ 8 ∷ 9 ∷ 10 ∷ 11 ∷ 13 ∷ 14 ∷ 15 ∷ 16 ∷ 7 ∷ 12 ∷ []

-- case b with P pipes and L lines: line 0 runs these, and the one-worker run takes so many choices
abbrev pub case_b : ℕ → ℕ → List ℕ → ℕ → Case
case_b pipes lines line0 choices = record {
  pipes = pipes;
  lines = lines;
  tokens = 17;
  records = (7, 16 ∷ []) ∷ (12, 6 ∷ 7 ∷ 16 ∷ []) ∷ [];
  known = record { order = order_b; stays = []; line0 = line0; choices = choices; events = [] };
}

-- a row: N, the records, the order, what stays deferred, and the number of choices, which is 2·M·P + 1
abbrev pub cases : List Case
cases =
    {- a -}
    case_a ∷
    {- b -}
    case_b 1 1 order_b 35 ∷
    {- b with L = 3 -}
    case_b 1 3 (0 ∷ 3 ∷ 6 ∷ 10 ∷ 14 ∷ 7 ∷ []) 35 ∷
    {- b with P = 3 -}
    case_b 3 1 order_b 103 ∷
    {- c -}
    case 0 [] [] [] 1 ∷
    {- d -}
    case 2 ((0, 1 ∷ []) ∷ []) (1 ∷ 0 ∷ []) [] 5 ∷
    {- e -}
    case 2 ((0, 1 ∷ []) ∷ (1, 0 ∷ []) ∷ []) [] (0 ∷ 1 ∷ []) 1 ∷
    {- f -}
    case 3 ((0, 3 ∷ []) ∷ []) (1 ∷ 2 ∷ []) (0 ∷ []) 5 ∷
    {- g -}
    case 3 ((0, 2 ∷ []) ∷ (1, 2 ∷ []) ∷ []) (2 ∷ 0 ∷ 1 ∷ []) [] 7 ∷
    {- h -}
    case 3 ((0, 1 ∷ 2 ∷ []) ∷ (1, 2 ∷ []) ∷ []) (2 ∷ 1 ∷ 0 ∷ []) [] 7 ∷
    {- i -}
    case 4 ((0, 3 ∷ []) ∷ (1, 2 ∷ []) ∷ []) (2 ∷ 1 ∷ 3 ∷ 0 ∷ []) [] 9 ∷
    {- j -}
    case 4 ((1, 0 ∷ []) ∷ []) (0 ∷ 1 ∷ 2 ∷ 3 ∷ []) [] 9 ∷ []
