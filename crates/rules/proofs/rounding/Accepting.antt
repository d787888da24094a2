-- What an accepted choice has passed in a run with rounding, in any run.
use mathlib.Core.Path.{◌≡◌, ap}
use mathlib.Core.Bool.{false}
use Prim.Native.Nat.{◌≤◌}
use borrow.Author.Tests.{le-leb}
use Rattle.rules.specs.Sources.{Source}
use Rattle.rules.specs.WholeRuns.{Accepted}
use Rattle.rules.specs.Offers.{is_refused}
use Rattle.rules.specs.Rounding.{sum_most, Run, Lending, RoundedChosen, accept, rounded_with, choose_rounded}
use Rattle.rules.proofs.rounding.Choice.{plain, InRange, Fits, sum_then, spoiled, own, unfit, too_much, accepts, case}

module _ {X : Type 0} (S : Source X) (r : Run X) (a : Lending) where
  -- every check
  pub record Passed : Type 0 where
    pub in_range : InRange S r a
    pub own_accepted : is_refused (plain S r a).answer ≡ false
    pub fits : Fits S r a
    pub within : sum_then S r a ≤ sum_most

  -- one that has passed them does what it does without rounding, and T and a figure may change besides
  pub passed_is : Passed → choose_rounded S r a ≡ accept r a (plain S r a)
  unfolding choose_rounded rounded_with
  passed_is p = rw (p.in_range, p.own_accepted, p.fits, le-leb (sum_then S r a) sum_most p.within)

  pub accepted_passed : Accepted (choose_rounded S r a).answer → Passed
  accepted_passed ok = elim (case S r a) [
    | spoiled m q ↦ absurd (ok 14 (ap (λ (c : RoundedChosen X). c.answer) q))
    | own n s b q ↦ absurd (ok n (ap (λ (c : RoundedChosen X). c.answer) q))
    | unfit s d m q ↦ absurd (ok 18 (ap (λ (c : RoundedChosen X). c.answer) q))
    | too_much s d f m q ↦ absurd (ok 14 (ap (λ (c : RoundedChosen X). c.answer) q))
    | accepts s d f m q ↦ record { in_range = s; own_accepted = d; fits = f; within = m }
  ]

  pub accepted_is : Accepted (choose_rounded S r a).answer → choose_rounded S r a ≡ accept r a (plain S r a)
  accepted_is ok = passed_is (accepted_passed ok)
