-- Two choices on different lines, from a state of an opened run, accepted in both orders, do the same in either.
use mathlib.Core.Path.{◌≡◌, sym, ap, ◌∙◌}
use mathlib.Core.Bool.{true}
use mathlib.Core.List.{List}
use Prim.Native.Nat.{ℕ, ◌<◌}
use Rattle.rules.specs.Sources.{Source}
use Rattle.rules.specs.RunState.{Pipeline, slot_at}
use Rattle.rules.specs.Choices.{Choice, Chosen, choose_by, answers, opened}
use Rattle.rules.specs.WholeRuns.{PipelineInRange, WorkersInRange, Sheet, Accepted, end}
use Rattle.rules.specs.Swapping.{Swapping}
use Rattle.rules.proofs.standing.Standing.{Standing, serial_at, same_place}
use Rattle.rules.proofs.invariant.Invariant.{Allowed, State, whole, Inv}
use Rattle.rules.proofs.choices.Opening.{at_opening, opening, opening_inv}
use Rattle.rules.proofs.choices.Moves.{Move, stops, enters, starts, finishes}
use Rattle.rules.proofs.choices.Steps.{refuses, moves, step, slot_pipe}
use Rattle.rules.proofs.choices.Swapping.{swapped_past}
use Rattle.rules.proofs.choices.Trace.{Ran, ran}

module _ {X : Type 0} {S : Source X} {plan : Pipeline} {workers : ℕ} {order : List ℕ} {z : X} (ok : Allowed plan workers order)
    {st : State X} {g : Standing} (inv : Inv S plan workers order z st g) where
  -- a line of the plan: if it is at a serial pipe, it has the place that is next there
  record InTurn (l : ℕ) : Type 0 where
    within : l < plan.lines
    next : serial_at plan (g.pipe l) ≡ true → g.place l ≡ g.passed (g.pipe l)

  moves_in_turn : {w l : ℕ} {c : Chosen X} → Move S plan workers order z st g w l c → InTurn l
  moves_in_turn (stops after f n) = record { within = f.ready.within; next = f.ready.turns }
  moves_in_turn (enters after f n) = record { within = f.ready.within; next = f.ready.turns }
  moves_in_turn (starts after f n) = record { within = f.ready.within; next = f.ready.turns }
  moves_in_turn {l = l} (finishes after f n) = record { within = f.within; next = λ s. inv.good.held l f.within s f.runs }

  -- only such a line's choice is accepted
  accepted_in_turn : (c : Choice) → Accepted (choose_by S (whole plan workers st) c).answer → InTurn c.line
  accepted_in_turn c accepted = elim (step ok inv c.worker c.line) [
    | refuses n d q ↦ absurd (accepted n (ap (λ (d : Chosen X). d.answer) q))
    | moves m ↦ moves_in_turn m
  ]

  module _ (a b : Choice) (apart : a.line ≡ b.line → ⊥) (one : Accepted (choose_by S (whole plan workers st) a).answer)
      (other : Accepted (choose_by S (whole plan workers st) b).answer) where
    -- so two lines whose choices are both accepted are not at one serial pipe,
    not_both : g.pipe a.line ≡ g.pipe b.line → serial_at plan (g.pipe b.line) ≡ true → ⊥
    not_both e s =
        let x : InTurn a.line = accepted_in_turn a one in
        let y : InTurn b.line = accepted_in_turn b other in
        apart (same_place ok.ranged g inv.good a.line b.line x.within y.within
        (x.next (ap (serial_at plan) e ∙ s) ∙ ap g.passed e ∙ sym (y.next s)))

    -- and not both at pipe 0, which is one
    not_first : (slot_at st.slots a.line).pipe.0 ≡ 0 → (slot_at st.slots b.line).pipe.0 ≡ 0 → ⊥
    not_first e f =
        let at_a : g.pipe a.line ≡ 0 = sym (slot_pipe ok inv a.line (accepted_in_turn a one).within) ∙ e in
        let at_b : g.pipe b.line ≡ 0 = sym (slot_pipe ok inv b.line (accepted_in_turn b other).within) ∙ f in
        not_both (at_a ∙ sym at_b) (ap (serial_at plan) at_b ∙ ok.ranged.first_serial)

-- "from a state of an opened run": what an opening and any list of choices leave
pub swapping : {X : Type 0} {S : Source X} {plan : Pipeline} {workers : ℕ} {x : X} {order : List ℕ} {z : X} → PipelineInRange plan →
    WorkersInRange workers → Sheet S plan x order z → (cs : List Choice) → Swapping S (end S plan workers x cs)
unfolding opened answers
swapping {X} {S} {plan} {workers} {x} {order} {z} ranged manned sheet cs =
    let ok : Allowed plan workers order = record { ranged = ranged; manned = manned; fits = sheet.fits; known = sheet.known } in
    let run : Ran S plan workers order z (opening plan x) at_opening cs = ran ok cs (opening plan x) at_opening (opening_inv ranged manned sheet.writes) in
    record {
      swapped = λ a b apart one_way other_way. swapped_past S (end S plan workers x cs) a b apart one_way other_way
          (rw run.is (not_first ok run.kept a b apart (rw run.is at one_way.0) (rw run.is at other_way.0)));
    }
