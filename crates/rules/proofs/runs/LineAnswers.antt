-- A list of lines alone, each by the worker that goes with it, answers what document 01 says of the lines.
use mathlib.Core.Path.{◌≡◌, refl, ap, ◌∙◌}
use mathlib.Core.List.{List, [], ◌∷◌}
use Prim.Native.Nat.{ℕ}
use Rattle.rules.specs.RunState.{Pipeline, Machine}
use Rattle.rules.specs.Sources.{Source}
use Rattle.rules.specs.Choices.{Chosen, Answer, opened, choose, answers}
use Rattle.rules.specs.Workers.{worker_for, choices_of, line_answers, OneLineEach}
use Rattle.rules.specs.WholeRuns.{PipelineInRange, WorkersInRange, Sheet}
use Rattle.rules.proofs.standing.Standing.{Standing}
use Rattle.rules.proofs.invariant.Invariant.{Allowed, State, whole, Inv}
use Rattle.rules.proofs.choices.Opening.{at_opening, opening, opening_inv}
use Rattle.rules.proofs.choices.LineAlone.{line_alone}
use Rattle.rules.proofs.runs.OneLineEach.{left_each, opening_each}

module _ {X : Type 0} {S : Source X} {plan : Pipeline} {workers : ℕ} {order : List ℕ} {z : X} (ok : Allowed plan workers order) where
  followed : (ls : List ℕ) (st : State X) (g : Standing) → Inv S plan workers order z st g → OneLineEach st.slots plan.lines →
      answers S (whole plan workers st) (choices_of S (whole plan workers st) ls) ≡ line_answers S (whole plan workers st) ls
  unfolding answers choices_of line_answers
  followed [] st g inv each = refl
  followed (l ∷ ls) st g inv each =
      let m : Machine X = whole plan workers st in
      let c : Chosen X = choose S m (worker_for m l) l in
      ap (λ (others : List Answer). c.answer ∷ others) (left_each ok st g inv each (worker_for m l) l (λ m. answers S m (choices_of S m ls) ≡ line_answers S m ls) (followed ls))
      ∙ ap (λ (c : Chosen X). c.answer ∷ line_answers S c.machine ls) (line_alone S m each l)

-- so in a run, with whatever workers, they answer as there
pub lines_answered : {X : Type 0} {S : Source X} {plan : Pipeline} {workers : ℕ} {x : X} {order : List ℕ} {z : X} → PipelineInRange plan →
    WorkersInRange workers → Sheet S plan x order z → (ls : List ℕ) →
    answers S (opened plan workers x) (choices_of S (opened plan workers x) ls) ≡ line_answers S (opened plan workers x) ls
unfolding opened
lines_answered {plan = plan} {x = x} ranged manned sheet ls =
    followed (record { ranged = ranged; manned = manned; fits = sheet.fits; known = sheet.known }) ls (opening plan x) at_opening
    (opening_inv ranged manned sheet.writes) (opening_each plan.lines)
