-- The accepted choices of a list in a run with rounding, made by themselves, have the same events and leave the same, T and figures too.
use mathlib.Core.Path.{◌≡◌, refl, ap}
use mathlib.Core.List.{List, [], ◌∷◌}
use Prim.Native.Nat.{ℕ}
use Rattle.rules.specs.Lists.{keep}
use Rattle.rules.specs.Sources.{Source}
use Rattle.rules.specs.Choices.{Choice, Answer}
use Rattle.rules.specs.MoreWorkers.{is_event, without_refusals, accepted_choices}
use Rattle.rules.specs.Rounding.{Run, Lending, choose_rounded, answers_rounded, follow_rounded}
use Rattle.rules.specs.RoundedRuns.{choices_of, handed_on, figures_left}
use Rattle.rules.specs.RoundedWorkers.{accepted_lendings, accepted_of, accepted_handed_on}
use Rattle.rules.proofs.lists.Tests.{by_test}
use Rattle.rules.proofs.runs.AcceptedOnly.{event, refusal, kind}
use Rattle.rules.proofs.rounding.Choice.{rounded_unchanged}

-- without what was lent they are the accepted choices
pub only_choices : (lendings : List Lending) (told : List Answer) → choices_of (accepted_lendings lendings told) ≡ accepted_choices (choices_of lendings) told
unfolding accepted_lendings accepted_choices
only_choices [] told = refl
only_choices (a ∷ more) [] = refl
only_choices (a ∷ more) (e ∷ told) = by_test (is_event e)
    (λ h. rw h (ap (λ (l : List Choice). a.choice ∷ l) (only_choices more told)))
    (λ h. rw h (only_choices more told))

module _ {X : Type 0} (S : Source X) where
  -- whatever is lent to each
  pub only_told : (r : Run X) (lendings : List Lending) → answers_rounded S r (accepted_of S r lendings) ≡ without_refusals (answers_rounded S r lendings)
  unfolding answers_rounded accepted_lendings keep
  only_told r [] = refl
  only_told r (a ∷ more) =
      let rest = only_told (choose_rounded S r a).run more in
      elim (kind (choose_rounded S r a).answer) [
        | event e ok ↦ rw (e, rest)
        | refusal e n q ↦ let same = (rounded_unchanged S r a n q).0 in rw (e, same) (rw same at rest)
      ]

  pub only_left : (r : Run X) (lendings : List Lending) → follow_rounded S r (accepted_of S r lendings) ≡ follow_rounded S r lendings
  unfolding answers_rounded follow_rounded accepted_lendings
  only_left r [] = refl
  only_left r (a ∷ more) =
      let rest = only_left (choose_rounded S r a).run more in
      elim (kind (choose_rounded S r a).answer) [
        | event e ok ↦ rw e rest
        | refusal e n q ↦ let same = (rounded_unchanged S r a n q).0 in rw (e, same) (rw same at rest)
      ]

  -- with the same cells throughout and the figures handed on: by themselves they are lent the same,
  module _ (cells : List ℕ) where
    pub only_lent : (cs : List Choice) (r : Run X) (figures : List ℕ) →
        handed_on S cells r figures (accepted_handed_on S r cells figures cs) ≡ accepted_of S r (handed_on S cells r figures cs)
    unfolding handed_on answers_rounded accepted_choices accepted_lendings
    only_lent [] r figures = refl
    only_lent (c ∷ cs) r figures =
        let a : Lending = record { choice = c; cells = cells; figures = figures } in
        let rest = only_lent cs (choose_rounded S r a).run (choose_rounded S r a).figures in
        elim (kind (choose_rounded S r a).answer) [
          | event e ok ↦ rw e (ap (λ (l : List Lending). a ∷ l) rest)
          | refusal e n q ↦ let same = rounded_unchanged S r a n q in rw (e, same.0, same.1) (rw (same.0, same.1) at rest)
        ]

    -- and the figures are the same
    pub only_figures : (cs : List Choice) (r : Run X) (figures : List ℕ) →
        figures_left S cells r figures (accepted_handed_on S r cells figures cs) ≡ figures_left S cells r figures cs
    unfolding handed_on figures_left answers_rounded accepted_choices
    only_figures [] r figures = refl
    only_figures (c ∷ cs) r figures =
        let a : Lending = record { choice = c; cells = cells; figures = figures } in
        let rest = only_figures cs (choose_rounded S r a).run (choose_rounded S r a).figures in
        elim (kind (choose_rounded S r a).answer) [
          | event e ok ↦ rw e rest
          | refusal e n q ↦ let same = rounded_unchanged S r a n q in rw (e, same.0, same.1) (rw (same.0, same.1) at rest)
        ]
