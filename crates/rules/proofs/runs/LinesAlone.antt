-- With one worker, the worker that goes with each line of a list is worker 0, throughout a run.
use mathlib.Core.Path.{◌≡◌, refl, sym, ap, ◌∙◌}
use mathlib.Core.Bool.{true}
use mathlib.Core.List.{List, [], ◌∷◌, map}
use Prim.Native.Nat.{ℕ}
use native.Mathlib.Omega.{arith}
use Rattle.vocabulary.specs.declared.Slot.{Slot}
use Rattle.rules.specs.RunState.{Pipeline, Machine, slot_at}
use Rattle.rules.specs.Sources.{Source}
use Rattle.rules.specs.Choices.{Choice, at_work, opened, choose}
use Rattle.rules.specs.Workers.{first_idle, worker_for, choices_of}
use Rattle.rules.specs.WholeRuns.{PipelineInRange, WorkersInRange, Sheet, by_one}
use Rattle.rules.proofs.lists.Tests.{lower, upper, below, holds, fails, see, never, if_same}
use Rattle.rules.proofs.standing.Standing.{Standing}
use Rattle.rules.proofs.invariant.Invariant.{Allowed, State, whole, Inv}
use Rattle.rules.proofs.choices.Steps.{slot_rests, slot_stopped, slot_manned}
use Rattle.rules.proofs.choices.Opening.{at_opening, opening, opening_inv}
use Rattle.rules.proofs.choices.Workers.{worker_runs, worker_waits}
use Rattle.rules.proofs.choices.Stands.{Stands, stands}

module _ {X : Type 0} {S : Source X} {plan : Pipeline} {order : List ℕ} {z : X} (ok : Allowed plan 1 order) where
  module _ {st : State X} {g : Standing} (inv : Inv S plan 1 order z st g) (l : ℕ) where
    -- no line runs by another
    runs_by_one : (slot_at st.slots l).running ≡ true → (slot_at st.slots l).worker.0 ≡ 0
    runs_by_one r = elim (below l plan.lines) [
      | upper h t ↦ absurd (never (sym r ∙ ap (λ (s : Slot). s.running) (inv.slotted.spare l h)))
      | lower h t ↦ elim (see (g.busy l)) [
        | fails b ↦ absurd (never (sym r ∙ slot_rests ok inv l h b))
        | holds b ↦ omega (arith, slot_manned ok inv l h b (λ s f. never (sym r ∙ slot_stopped ok inv l h b s f)))
      ]
    ]

    one_idle : first_idle st.slots plan.lines 0 1 ≡ 0
    unfolding first_idle
    one_idle = if_same (at_work st.slots 0 plan.lines) 0

    one_named : worker_for (whole plan 1 st) l ≡ 0
    one_named = elim (see (slot_at st.slots l).running) [
      | holds r ↦ worker_runs S (whole plan 1 st) l r ∙ runs_by_one r
      | fails r ↦ worker_waits S (whole plan 1 st) l r ∙ one_idle
    ]

  -- one line, and then the others
  module _ (l : ℕ) (ls : List ℕ) (go : (st : State X) (g : Standing) → Inv S plan 1 order z st g → choices_of S (whole plan 1 st) ls ≡ map by_one ls)
      (st : State X) (g : Standing) (inv : Inv S plan 1 order z st g) where
    and_on : choices_of S (whole plan 1 st) (l ∷ ls) ≡ map by_one (l ∷ ls)
    unfolding choices_of
    and_on =
        let r : Stands S plan 1 order z (choose S (whole plan 1 st) 0 l).machine = stands ok st g inv 0 l in
        rw (one_named inv l) (ap (λ (cs : List Choice). by_one l ∷ cs) (ap (λ (m : Machine X). choices_of S m ls) r.is ∙ go r.state r.standing r.kept))

  by_one_lem : (ls : List ℕ) (st : State X) (g : Standing) → Inv S plan 1 order z st g → choices_of S (whole plan 1 st) ls ≡ map by_one ls
  unfolding choices_of
  by_one_lem [] st g inv = refl
  by_one_lem (l ∷ ls) st g inv = and_on l ls (by_one_lem ls) st g inv

-- so a list of lines alone is that of worker 0's choices, where W is 1
pub lines_alone : {X : Type 0} {S : Source X} {plan : Pipeline} {x : X} {order : List ℕ} {z : X} → PipelineInRange plan → Sheet S plan x order z →
    (ls : List ℕ) → choices_of S (opened plan 1 x) ls ≡ map by_one ls
unfolding opened
lines_alone {plan = plan} {x = x} ranged sheet ls =
    let manned : WorkersInRange 1 = record { some = omega arith; most = omega arith } in
    by_one_lem (record { ranged = ranged; manned = manned; fits = sheet.fits; known = sheet.known }) ls (opening plan x) at_opening
    (opening_inv ranged manned sheet.writes)
