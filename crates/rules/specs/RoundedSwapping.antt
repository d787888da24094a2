-- Swapping neighbours in a run with rounding (02, 2.12 and 2.2): two choices made in one order and in the other, with the same cells and
-- the figures handed on as left.
use Rattle.std.specs.Prelude.{◌≡◌, List, [], ◌∷◌, ℕ}
use Rattle.rules.specs.Lists.{Every}
use Rattle.rules.specs.Sources.{Source}
use Rattle.rules.specs.Choices.{Choice}
use Rattle.rules.specs.WholeRuns.{Accepted}
use Rattle.rules.specs.Rounding.{Run, RoundedChosen, choose_rounded, answers_rounded, follow_rounded}
use Rattle.rules.specs.RoundedRuns.{handed_on, figures_left}

module _ {X : Type 0} (S : Source X) (r : Run X) where
  module _ (cells figures : List ℕ) where
    -- a choice made first, and one made after another
    abbrev pub made_first : Choice → RoundedChosen X
    made_first a = choose_rounded S r (record { choice = a; cells = cells; figures = figures })

    abbrev pub made_after : Choice → Choice → RoundedChosen X
    made_after a b = choose_rounded S (made_first a).run (record { choice = b; cells = cells; figures = (made_first a).figures })

    -- two choices do the same in either order
    pub record SwappedRounded (a b : Choice) : Type 0 where
      -- they lead "to the same state and tables", where "Pipe, base and T belong to the state";
      pub left : follow_rounded S r (handed_on S cells r figures (a ∷ b ∷ [])) ≡ follow_rounded S r (handed_on S cells r figures (b ∷ a ∷ []))
      -- the figures are the same;
      pub published : figures_left S cells r figures (a ∷ b ∷ []) ≡ figures_left S cells r figures (b ∷ a ∷ [])
      -- and each has the same event, made first or second
      pub event_a : (made_first a).answer ≡ (made_after b a).answer
      pub event_b : (made_first b).answer ≡ (made_after a b).answer

  -- what holds of the state of an opened run: "two choices on different lines, if both orders of the two are accepted, lead to the same
  -- state and tables", whatever cells and figures are lent
  pub record SwappingRounded : Type 0 where
    pub swapped : (cells figures : List ℕ) (a b : Choice) → (a.line ≡ b.line → ⊥) →
        Every Accepted (answers_rounded S r (handed_on S cells r figures (a ∷ b ∷ []))) →
        Every Accepted (answers_rounded S r (handed_on S cells r figures (b ∷ a ∷ []))) → SwappedRounded cells figures a b
