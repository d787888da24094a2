-- Swapping neighbours (02, 2.12): two choices made in one order and in the other, "whichever workers the choices name" (2.14).
use Rattle.std.specs.Prelude.{◌≡◌, [], ◌∷◌}
use Rattle.rules.specs.Lists.{Every}
use Rattle.rules.specs.Sources.{Source}
use Rattle.rules.specs.RunState.{Machine}
use Rattle.rules.specs.Choices.{Choice, choose_by, answers, follow}
use Rattle.rules.specs.WholeRuns.{Accepted}

module _ {X : Type 0} (S : Source X) (m : Machine X) where
  -- two choices do the same in either order
  pub record Swapped (a b : Choice) : Type 0 where
    -- they lead "to the same state and tables";
    pub left : follow S m (a ∷ b ∷ []) ≡ follow S m (b ∷ a ∷ [])
    -- and each has the same event, made first or second
    pub event_a : (choose_by S m a).answer ≡ (choose_by S (choose_by S m b).machine a).answer
    pub event_b : (choose_by S m b).answer ≡ (choose_by S (choose_by S m a).machine b).answer

  -- what holds of the state of an opened run: "two choices on different lines, if both orders of the two are accepted, lead to the same
  -- state and tables"
  pub record Swapping : Type 0 where
    pub swapped : (a b : Choice) → (a.line ≡ b.line → ⊥) → Every Accepted (answers S m (a ∷ b ∷ [])) → Every Accepted (answers S m (b ∷ a ∷ [])) →
        Swapped a b
