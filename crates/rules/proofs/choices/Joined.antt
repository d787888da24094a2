-- One choice after a list of choices.
use mathlib.Core.Path.{◌≡◌, refl, ap}
use mathlib.Core.List.{List, [], ◌∷◌, ◌++◌}
use Rattle.rules.specs.RunState.{Machine}
use Rattle.rules.specs.Sources.{Source}
use Rattle.rules.specs.Choices.{Choice, Answer, choose_by, answers, follow}

module _ {X : Type 0} (S : Source X) where
  pub follow_one : (m : Machine X) (ls : List Choice) (l : Choice) → follow S m (ls ++ (l ∷ [])) ≡ (choose_by S (follow S m ls) l).machine
  unfolding follow
  follow_one m [] l = refl
  follow_one m (k ∷ ls) l = follow_one (choose_by S m k).machine ls l

  pub answers_one : (m : Machine X) (ls : List Choice) (l : Choice) → answers S m (ls ++ (l ∷ [])) ≡ answers S m ls ++ ((choose_by S (follow S m ls) l).answer ∷ [])
  unfolding follow answers
  answers_one m [] l = refl
  answers_one m (k ∷ ls) l = ap (λ (r : List Answer). (choose_by S m k).answer ∷ r) (answers_one (choose_by S m k).machine ls l)
