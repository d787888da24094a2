-- What a choice leaves is again a machine that the invariant holds of.
use mathlib.Core.Path.{◌≡◌, ap}
use mathlib.Core.List.{List}
use Prim.Native.Nat.{ℕ}
use Rattle.rules.specs.RunState.{Pipeline, Machine}
use Rattle.rules.specs.Sources.{Source}
use Rattle.rules.specs.Choices.{Chosen, Answer, choose}
use Rattle.rules.proofs.standing.Standing.{Standing}
use Rattle.rules.proofs.invariant.Invariant.{Allowed, State, whole, Inv}
use Rattle.rules.proofs.choices.Moves.{stops, enters, starts, finishes, Next}
use Rattle.rules.proofs.choices.Steps.{Step, refuses, moves, step}

-- a machine whose state the invariant holds of
pub record Stands {X : Type 0} (S : Source X) (plan : Pipeline) (workers : ℕ) (order : List ℕ) (z : X) (m : Machine X) : Type 0 where
  pub state : State X
  pub standing : Standing
  pub is : m ≡ whole plan workers state
  pub kept : Inv S plan workers order z state standing

module _ {X : Type 0} {S : Source X} {plan : Pipeline} {workers : ℕ} {order : List ℕ} {z : X} (ok : Allowed plan workers order) where
  -- what a choice leaves is one
  pub stands : (st : State X) (g : Standing) → Inv S plan workers order z st g → (w l : ℕ) →
      Stands S plan workers order z (choose S (whole plan workers st) w l).machine
  stands st g inv w l = left (step ok inv w l)
    where
      by : {a : Answer} (st' : State X) (g' : Standing) → Next S plan workers order z (choose S (whole plan workers st) w l) a st' g' →
          Stands S plan workers order z (choose S (whole plan workers st) w l).machine
      by st' g' n = record { state = st'; standing = g'; is = ap (λ (c : Chosen X). c.machine) n.is; kept = n.kept }

      left : Step S plan workers order z st g w l (choose S (whole plan workers st) w l) →
          Stands S plan workers order z (choose S (whole plan workers st) w l).machine
      left (refuses n h e) = record { state = st; standing = g; is = ap (λ (c : Chosen X). c.machine) e; kept = inv }
      left (moves (stops st' f n)) = by st' _ n
      left (moves (enters st' f n)) = by st' _ n
      left (moves (starts st' f n)) = by st' _ n
      left (moves (finishes st' f n)) = by st' _ n
