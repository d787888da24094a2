-- The accepted choices of a list, made by themselves, have the same events and leave the same: a refused choice changes nothing.
use mathlib.Core.Path.{◌≡◌, refl}
use mathlib.Core.Bool.{true, false}
use mathlib.Core.List.{List, [], ◌∷◌}
use Prim.Native.Nat.{ℕ}
use Rattle.rules.specs.Lists.{Every, keep}
use Rattle.rules.specs.Sources.{Source}
use Rattle.rules.specs.RunState.{Machine}
use Rattle.rules.specs.Choices.{Choice, Answer, Started, Finished, Stopped, Refused, choose_by, answers, follow}
use Rattle.rules.specs.WholeRuns.{Accepted}
use Rattle.rules.specs.MoreWorkers.{is_event, without_refusals, accepted_choices, accepted_in}
use Rattle.rules.proofs.choices.Answers.{started-accepted, finished-accepted, stopped-accepted}
use Rattle.rules.proofs.choices.Outcomes.{refused_unchanged}

-- an answer is an event, and so that of an accepted choice, or a refusal
pub data Kind (a : Answer) : Type 0 where
  event : is_event a ≡ true → Accepted a → Kind a
  refusal : is_event a ≡ false → (n : ℕ) → a ≡ Refused n → Kind a

pub kind : (a : Answer) → Kind a
unfolding is_event
kind (Started l p t k w) = event refl started-accepted
kind (Finished l p t k w) = event refl finished-accepted
kind (Stopped l w) = event refl stopped-accepted
kind (Refused n) = refusal refl n refl

-- what is no refusal was accepted
pub events_accepted : (told : List Answer) → Every Accepted (without_refusals told)
unfolding keep
events_accepted [] = tt
events_accepted (a ∷ told) = elim (kind a) [
  | event e ok ↦ rw e (ok, events_accepted told)
  | refusal e n q ↦ rw e (events_accepted told)
]

pub events_kept : (told : List Answer) → without_refusals (without_refusals told) ≡ without_refusals told
unfolding keep
events_kept [] = refl
events_kept (a ∷ told) = elim (kind a) [
  | event e ok ↦ rw (e, e, events_kept told)
  | refusal e n q ↦ rw e (events_kept told)
]

module _ {X : Type 0} (S : Source X) where
  pub only_told : (m : Machine X) (cs : List Choice) → answers S m (accepted_in S m cs) ≡ without_refusals (answers S m cs)
  unfolding answers accepted_choices keep
  only_told m [] = refl
  only_told m (c ∷ cs) =
      let rest = only_told (choose_by S m c).machine cs in
      elim (kind (choose_by S m c).answer) [
        | event e ok ↦ rw (e, rest)
        | refusal e n q ↦ let same : (choose_by S m c).machine ≡ m = refused_unchanged S m c.worker c.line n q in rw (e, same) (rw same at rest)
      ]

  pub only_left : (m : Machine X) (cs : List Choice) → follow S m (accepted_in S m cs) ≡ follow S m cs
  unfolding answers follow accepted_choices
  only_left m [] = refl
  only_left m (c ∷ cs) =
      let rest = only_left (choose_by S m c).machine cs in
      elim (kind (choose_by S m c).answer) [
        | event e ok ↦ rw e rest
        | refusal e n q ↦ let same : (choose_by S m c).machine ≡ m = refused_unchanged S m c.worker c.line n q in rw (e, same) (rw same at rest)
      ]
