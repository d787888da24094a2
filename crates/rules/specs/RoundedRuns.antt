-- Whole runs with rounding (02, 2.2): what is said of a list of choices, whatever is lent to each, over any source of tokens.
use Rattle.std.specs.Prelude.{◌≡◌, true, false, List, [], ◌∷◌, map, ℕ, suc, ◌+◌, ◌-◌, ◌/◌, ◌≤◌, ◌<◌, length, get_or, take, replicate}
use Rattle.rules.specs.Lists.{has, Every}
use Rattle.rules.specs.Sources.{Source}
use Rattle.rules.specs.RunState.{Pipeline}
use Rattle.rules.specs.Choices.{Choice, Answer, Refused, opened, ended, choose_by}
use Rattle.rules.specs.WholeRuns.{Demand3, events, end}
use Rattle.rules.specs.MoreWorkers.{without_refusals, accepted_choices}
use Rattle.rules.specs.Rounding.{published, sum_most, is_base, Rounding, no_rounding, lent_fits, lent_count, Passing, NonePasses, Passes}
use Rattle.rules.specs.Rounding.{finisher, passing, Run, Lending, choose_rounded, answers_rounded, follow_rounded}

-- the sum of some numbers
unfoldable pub sum_of : List ℕ → ℕ
sum_of [] = 0
sum_of (n ∷ l) = n + sum_of l

-- two numbers differ by at most `most`
pub record Near (most a b : ℕ) : Type 0 where
  pub low : a ≤ b + most
  pub high : b ≤ a + most

-- the rounding of an opening: none, or a serial pipe of the plan with base 3 or 5; T is 0
pub data AtOpening (plan : Pipeline) : Rounding → Type 0 where
  without : AtOpening plan no_rounding
  rounds : {pipe base : ℕ} → pipe < plan.pipes → get_or plan.serial pipe false ≡ true → is_base base ≡ true →
      AtOpening plan (record { pipe = pipe; base = base; sum = 0 })

-- the tokens that finish a pipe, in that order
abbrev pub add_finisher : Passing → List ℕ → List ℕ
add_finisher NonePasses l = l
add_finisher (Passes t) l = t ∷ l

unfoldable pub finishers_at : ℕ → List Answer → List ℕ
finishers_at p [] = []
finishers_at p (a ∷ rest) = add_finisher (finisher p a) (finishers_at p rest)

-- a cell that has passed: its token, the cell, and the figure that the token then has
pub record PassedCell : Type 0 where
  pub token : ℕ
  pub cell : ℕ
  pub figure : ℕ

abbrev pub tokens_in : List PassedCell → List ℕ
tokens_in l = map (λ p. p.token) l

abbrev pub cells_in : List PassedCell → List ℕ
cells_in l = map (λ p. p.cell) l

abbrev pub figures_in : List PassedCell → List ℕ
figures_in l = map (λ p. p.figure) l

-- the cell that passes by one choice, where these cells were lent and these figures left, before those that pass later
abbrev pub add_passed : Passing → List ℕ → List ℕ → List PassedCell → List PassedCell
add_passed NonePasses cells figures l = l
add_passed (Passes t) cells figures l = record { token = t; cell = get_or cells t 0; figure = get_or figures t 0 } ∷ l

-- the choices of a list, without what was lent to each
abbrev pub choices_of : List Lending → List Choice
choices_of lendings = map (λ a. a.choice) lendings

module _ {X : Type 0} (S : Source X) where
  -- the cells that pass, in that order
  unfoldable pub passed_cells : Run X → List Lending → List PassedCell
  passed_cells r [] = []
  passed_cells r (a ∷ more) =
      add_passed (passing r.rounding (choose_rounded S r a).answer) a.cells (choose_rounded S r a).figures
      (passed_cells (choose_rounded S r a).run more)

  -- choices "with the same cells throughout and the figures handed on as left"
  unfoldable pub handed_on : List ℕ → Run X → List ℕ → List Choice → List Lending
  handed_on cells r figures [] = []
  handed_on cells r figures (l ∷ ls) =
      let a : Lending = record { choice = l; cells = cells; figures = figures } in
      a ∷ handed_on cells (choose_rounded S r a).run (choose_rounded S r a).figures ls

  -- the figures that they leave
  unfoldable pub figures_left : List ℕ → Run X → List ℕ → List Choice → List ℕ
  figures_left cells r figures [] = figures
  figures_left cells r figures (l ∷ ls) =
      let a : Lending = record { choice = l; cells = cells; figures = figures } in
      figures_left cells (choose_rounded S r a).run (choose_rounded S r a).figures ls

module _ {X : Type 0} (S : Source X) (plan : Pipeline) (workers : ℕ) (x : X) (r : Rounding) where
  -- the run at opening
  abbrev pub opened_run : Run X
  opened_run = record { machine = opened plan workers x; rounding = r }

  module _ (lendings : List Lending) where
    -- what the run answers and leaves, the choices of it that are accepted, and the cells that pass
    abbrev pub rounded_events : List Answer
    rounded_events = answers_rounded S opened_run lendings

    abbrev pub rounded_end : Run X
    rounded_end = follow_rounded S opened_run lendings

    abbrev pub rounded_choices : List Choice
    rounded_choices = accepted_choices (choices_of lendings) rounded_events

    abbrev pub rounded_cells : List PassedCell
    rounded_cells = passed_cells S opened_run lendings

    -- what holds of the whole list of choices, refused ones among them, where the source writes this order and closes at z
    pub record RoundedRun (order : List ℕ) (z : X) : Type 0 where
      -- the run is one without rounding over the accepted choices, with the same events and the same machine,
      pub events_are : without_refusals rounded_events ≡ events S plan workers x rounded_choices
      pub machine_is : rounded_end.machine ≡ end S plan workers x rounded_choices
      -- and every sentence of demand 3 holds of it, with its refused choices
      pub demand_3 : Demand3 S plan workers rounded_events rounded_end.machine order z
      -- pipe and base stay
      pub pipe_kept : rounded_end.rounding.pipe ≡ r.pipe
      pub base_kept : rounded_end.rounding.base ≡ r.base
      -- cells pass in the sheet's order; without rounding none does, with it at the end all have
      pub passed : ℕ
      pub passed_most : passed ≤ length order
      pub in_order : tokens_in rounded_cells ≡ take passed order
      pub none_passed : r.base ≡ 0 → passed ≡ 0
      pub all_passed : is_base r.base ≡ true → ended rounded_end.machine ≡ true → passed ≡ length order
      -- T is "the sum of cells that passed it so far", and their figures add up to the published sum
      pub sum_is : rounded_end.rounding.sum ≡ sum_of (cells_in rounded_cells)
      pub published_is : sum_of (figures_in rounded_cells) ≡ published r.base rounded_end.rounding.sum
      -- at the end, and at every place before
      pub sums_are : (k : ℕ) → sum_of (take k (figures_in rounded_cells)) ≡ published r.base (sum_of (take k (cells_in rounded_cells)))
      -- "At every place published and true sums differ by at most (b − 1)/2,
      pub sums_near : (k : ℕ) → Near ((r.base - 1) / 2) (sum_of (take k (figures_in rounded_cells))) (sum_of (take k (cells_in rounded_cells)))
      -- and each passed cell by at most b − 1"
      pub cells_near : Every (λ p. Near (r.base - 1) p.figure p.cell) rounded_cells
      -- T never passes 4,096,000,000, so that "no run gets 14"
      pub sum_most_lem : rounded_end.rounding.sum ≤ sum_most
      pub never_spoiled : Every (λ a. a ≡ Refused 14 → ⊥) rounded_events
      -- with cells and figures as they should be, the next choice is answered as it would be without rounding, and that is not 18
      pub as_without : (a : Lending) → lent_fits (lent_count plan.tokens r) a.cells a.figures ≡ true →
          (choose_rounded S rounded_end a).answer ≡ (choose_by S rounded_end.machine a.choice).answer
      pub no_18 : (a : Lending) → lent_fits (lent_count plan.tokens r) a.cells a.figures ≡ true →
          (choose_rounded S rounded_end a).answer ≡ Refused 18 → ⊥

  -- the same cells throughout, the figures cleared at opening and handed on as left
  module _ (cells : List ℕ) (ls : List Choice) where
    abbrev pub carried_lendings : List Lending
    carried_lendings = handed_on S cells opened_run (replicate (lent_count plan.tokens r) 0) ls

    abbrev pub carried_figures : List ℕ
    carried_figures = figures_left S cells opened_run (replicate (lent_count plan.tokens r) 0) ls

    -- the sum of the cells of the places below k
    abbrev pub cells_before : List ℕ → ℕ → ℕ
    cells_before order k = sum_of (map (λ t. get_or cells t 0) (take k order))

    -- what such a run publishes, where the source writes this order
    pub record CarriedRun (order : List ℕ) : Type 0 where
      -- with N cells of at most 1,000,000 rounding changes no answer, and so no choice gets 18
      pub as_without : lent_fits (lent_count plan.tokens r) cells (replicate (lent_count plan.tokens r) 0) ≡ true →
          (rounded_events carried_lendings ≡ events S plan workers x ls) × ((rounded_end carried_lendings).machine ≡ end S plan workers x ls)
      -- how many tokens have passed; at the end of a run with rounding all of the order have
      pub passed : ℕ
      pub passed_most : passed ≤ length order
      pub all_passed : is_base r.base ≡ true → ended (rounded_end carried_lendings).machine ≡ true → passed ≡ length order
      pub tokens_are : tokens_in (rounded_cells carried_lendings) ≡ take passed order
      -- T is the sum of the cells of the tokens that passed, and their figures add up to the published sum
      pub sum_is : (rounded_end carried_lendings).rounding.sum ≡ cells_before order passed
      pub published_is : sum_of (map (λ t. get_or carried_figures t 0) (take passed order)) ≡ published r.base (cells_before order passed)
      -- and so do all figures together
      pub total : sum_of carried_figures ≡ published r.base (cells_before order passed)
      -- the figure of the token at place k, once it has passed
      pub figure_is : (k : ℕ) → k < passed →
          get_or carried_figures (get_or order k 0) 0 ≡ published r.base (cells_before order (suc k)) - published r.base (cells_before order k)
      -- any other token has 0: "a token never ordered keeps 0"
      pub others_keep : (n : ℕ) → has (take passed order) n ≡ false → get_or carried_figures n 0 ≡ 0
      pub size : length carried_figures ≡ lent_count plan.tokens r
