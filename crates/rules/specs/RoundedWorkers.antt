-- More workers, same sheet, in a run with rounding (02, 2.12 and 2.2): a list of choices made again under a larger limit W, with what was
-- lent to each.
use Rattle.std.specs.Prelude.{◌≡◌, List, [], ◌∷◌, ℕ, ◌≤◌}
use Rattle.rules.specs.Lists.{if, Every}
use Rattle.rules.specs.Sources.{Source}
use Rattle.rules.specs.Choices.{Choice, Answer}
use Rattle.rules.specs.WholeRuns.{Accepted, with_workers}
use Rattle.rules.specs.MoreWorkers.{is_event, without_refusals, accepted_choices}
use Rattle.rules.specs.Rounding.{Run, Lending, answers_rounded, follow_rounded}
use Rattle.rules.specs.RoundedRuns.{choices_of, handed_on, figures_left}

-- a run with another limit, and the same rounding
abbrev pub more_run : {X : Type 0} → ℕ → Run X → Run X
more_run workers r = record { machine = with_workers workers r.machine; rounding = r.rounding }

-- the choices of a list that were accepted, by the list's answers, each with what was lent to it
unfoldable pub accepted_lendings : List Lending → List Answer → List Lending
accepted_lendings [] told = []
accepted_lendings (a ∷ more) [] = []
accepted_lendings (a ∷ more) (e ∷ told) = if (is_event e) (a ∷ accepted_lendings more told) (accepted_lendings more told)

-- the choices that a run accepts: of a list, whatever is lent to each; and of one "with the same cells throughout and the figures handed
-- on as left"
module _ {X : Type 0} (S : Source X) (r : Run X) where
  abbrev pub accepted_of : List Lending → List Lending
  accepted_of lendings = accepted_lendings lendings (answers_rounded S r lendings)

  abbrev pub accepted_handed_on : List ℕ → List ℕ → List Choice → List Choice
  accepted_handed_on cells figures cs = accepted_choices cs (answers_rounded S r (handed_on S cells r figures cs))

-- a list of choices made in the run r, and in the run r' with more workers
module _ {X : Type 0} (S : Source X) (r r' : Run X) where
  -- whatever is lent to each
  module _ (lendings : List Lending) where
    -- a list that r accepts
    pub record ReusedRounded : Type 0 where
      -- "a list of choices accepted under a limit W of 1 to 32 is accepted under every larger one up to 32,
      pub accepted : Every Accepted (answers_rounded S r' lendings)
      -- with the same events",
      pub events : answers_rounded S r' lendings ≡ answers_rounded S r lendings
      -- and leaves the same but for W, T with it
      pub left : follow_rounded S r' lendings ≡ more_run r'.machine.workers (follow_rounded S r lendings)

    -- a list with refused choices: those that r accepts, made by themselves, are accepted by r' with the same events, and leave what the
    -- whole list left, but for W
    pub record AcceptedReusedRounded : Type 0 where
      pub choices : choices_of (accepted_of S r lendings) ≡ accepted_choices (choices_of lendings) (answers_rounded S r lendings)
      pub accepted : Every Accepted (answers_rounded S r' (accepted_of S r lendings))
      pub events : answers_rounded S r' (accepted_of S r lendings) ≡ without_refusals (answers_rounded S r lendings)
      pub left : follow_rounded S r' (accepted_of S r lendings) ≡ more_run r'.machine.workers (follow_rounded S r lendings)

  -- with the same cells throughout and the figures handed on as left
  module _ (cells figures : List ℕ) (cs : List Choice) where
    -- what r lends to each; and what r' does to each of those that r accepts, made by themselves
    abbrev pub lent_by : List Lending
    lent_by = handed_on S cells r figures cs

    abbrev pub lent_again : List Lending
    lent_again = handed_on S cells r' figures (accepted_handed_on S r cells figures cs)

    -- a list that r accepts: with more workers the same is lent to each, and the figures are the same
    pub record ReusedHandedOn : Type 0 where
      pub lent : handed_on S cells r' figures cs ≡ lent_by
      pub accepted : Every Accepted (answers_rounded S r' (handed_on S cells r' figures cs))
      pub events : answers_rounded S r' (handed_on S cells r' figures cs) ≡ answers_rounded S r lent_by
      pub left : follow_rounded S r' (handed_on S cells r' figures cs) ≡ more_run r'.machine.workers (follow_rounded S r lent_by)
      pub published : figures_left S cells r' figures cs ≡ figures_left S cells r figures cs

    -- a list with refused choices: those that r accepts, made by themselves, are accepted by r' with the same events, leave what the whole
    -- list left, but for W, and publish the same figures
    pub record AcceptedReusedHandedOn : Type 0 where
      pub accepted : Every Accepted (answers_rounded S r' lent_again)
      pub events : answers_rounded S r' lent_again ≡ without_refusals (answers_rounded S r lent_by)
      pub left : follow_rounded S r' lent_again ≡ more_run r'.machine.workers (follow_rounded S r lent_by)
      pub published : figures_left S cells r' figures (accepted_handed_on S r cells figures cs) ≡ figures_left S cells r figures cs

-- what holds of every run, whether an opening leads to it or not
pub record MoreWorkersRounded {X : Type 0} (S : Source X) (r : Run X) : Type 0 where
  -- "a list of choices accepted under a limit W .. is accepted under every larger one up to 32, with the same events"
  pub reused : (larger : ℕ) → r.machine.workers ≤ larger → larger ≤ 32 → (lendings : List Lending) → Every Accepted (answers_rounded S r lendings) →
      ReusedRounded S r (more_run larger r) lendings
  -- of any list, those that are accepted
  pub accepted_reused : (larger : ℕ) → r.machine.workers ≤ larger → larger ≤ 32 → (lendings : List Lending) →
      AcceptedReusedRounded S r (more_run larger r) lendings
  -- and with the figures handed on, the same figures
  pub handed_on_lem : (larger : ℕ) → r.machine.workers ≤ larger → larger ≤ 32 → (cells figures : List ℕ) (cs : List Choice) →
      Every Accepted (answers_rounded S r (handed_on S cells r figures cs)) → ReusedHandedOn S r (more_run larger r) cells figures cs
  pub accepted_handed_on_lem : (larger : ℕ) → r.machine.workers ≤ larger → larger ≤ 32 → (cells figures : List ℕ) (cs : List Choice) →
      AcceptedReusedHandedOn S r (more_run larger r) cells figures cs
