-- "demand 3 reads events without the worker" (02, 2.14): what it reads off events is the same without their workers.
use mathlib.Core.Path.{◌≡◌, refl, ap}
use mathlib.Core.List.{List, [], ◌∷◌, map}
use Prim.Native.Nat.{ℕ, suc, ◌+◌}
use lib.Dec.{eqb}
use Rattle.rules.specs.Lists.{if, same_pair}
use Rattle.rules.specs.RunState.{Pipeline}
use Rattle.rules.specs.Choices.{Answer, Started, Finished, Stopped, Refused}
use Rattle.rules.specs.Workers.{without_worker}
use Rattle.rules.specs.PlainSheet.{Row}
use Rattle.rules.specs.WholeRuns.{ordered, accepted, starts_of, finishes_of, Carries}

-- the order,
pub ordered_without : (events : List Answer) → ordered (map without_worker events) ≡ ordered events
unfolding ordered without_worker
ordered_without [] = refl
ordered_without (Started l p t k w ∷ rest) =
    ap (λ (rows : List Row). if (eqb p 0) (record { token = t; place = k; line = l } ∷ rows) rows) (ordered_without rest)
ordered_without (Finished l p t k w ∷ rest) = ordered_without rest
ordered_without (Stopped l w ∷ rest) = ordered_without rest
ordered_without (Refused n ∷ rest) = ordered_without rest

-- how many choices were accepted,
pub accepted_without : (events : List Answer) → accepted (map without_worker events) ≡ accepted events
unfolding accepted without_worker
accepted_without [] = refl
accepted_without (Started l p t k w ∷ rest) = ap suc (accepted_without rest)
accepted_without (Finished l p t k w ∷ rest) = ap suc (accepted_without rest)
accepted_without (Stopped l w ∷ rest) = ap suc (accepted_without rest)
accepted_without (Refused n ∷ rest) = accepted_without rest

-- the starts and the finishes of a place at a pipe,
module _ (p k : ℕ) where
  pub starts_without : (events : List Answer) → starts_of p k (map without_worker events) ≡ starts_of p k events
  unfolding starts_of without_worker
  starts_without [] = refl
  starts_without (Started l q t i w ∷ rest) = ap (λ n. same_pair p k q i + n) (starts_without rest)
  starts_without (Finished l q t i w ∷ rest) = starts_without rest
  starts_without (Stopped l w ∷ rest) = starts_without rest
  starts_without (Refused n ∷ rest) = starts_without rest

  pub finishes_without : (events : List Answer) → finishes_of p k (map without_worker events) ≡ finishes_of p k events
  unfolding finishes_of without_worker
  finishes_without [] = refl
  finishes_without (Started l q t i w ∷ rest) = finishes_without rest
  finishes_without (Finished l q t i w ∷ rest) = ap (λ n. same_pair p k q i + n) (finishes_without rest)
  finishes_without (Stopped l w ∷ rest) = finishes_without rest
  finishes_without (Refused n ∷ rest) = finishes_without rest

-- and what an event carries
pub carries_without : (plan : Pipeline) (order : List ℕ) (a : Answer) → Carries plan order (without_worker a) ≡ Carries plan order a
unfolding without_worker
carries_without plan order (Started l p t k w) = refl
carries_without plan order (Finished l p t k w) = refl
carries_without plan order (Stopped l w) = refl
carries_without plan order (Refused n) = refl
