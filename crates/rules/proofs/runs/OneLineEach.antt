-- In a run no worker runs two lines at a time.
use mathlib.Core.Path.{◌≡◌, refl, sym, ap, subst, ◌∙◌}
use mathlib.Core.Bool.{true, false}
use mathlib.Core.List.{List, [], ◌∷◌}
use Prim.Native.Nat.{ℕ, suc, ◌≤◌, ◌<◌}
use native.Mathlib.Omega.{arith}
use lib.Dec.{eqb}
use Rattle.vocabulary.specs.declared.Slot.{Slot}
use Rattle.vocabulary.specs.declared.Slots.{Slots}
use Rattle.rules.specs.RunState.{Pipeline, Machine, all_idle, slot_at, put_slot, slot_of}
use Rattle.rules.specs.Sources.{Source, Taken, Spoiled, Nothing, Took}
use Rattle.rules.specs.Choices.{Choice, Chosen, at_work, moved, opened, choose, follow}
use Rattle.rules.specs.Workers.{OneLineEach}
use Rattle.rules.specs.WholeRuns.{PipelineInRange, WorkersInRange, Sheet, Accepted, end}
use Rattle.rules.proofs.lists.Tests.{by_test, same, other, same_as, never}
use Rattle.rules.proofs.lists.SlotRows.{Sized, put_same, put_other, each_idle}
use Rattle.rules.proofs.standing.Standing.{Standing}
use Rattle.rules.proofs.invariant.Invariant.{Allowed, State, whole, Inv}
use Rattle.rules.proofs.choices.Workers.{at_work_lem}
use Rattle.rules.proofs.choices.Opening.{at_opening, opening, opening_inv}
use Rattle.rules.proofs.choices.Stands.{Stands, stands}
use Rattle.rules.proofs.choices.Accepting.{accepted_line, accepted_idle}
use Rattle.rules.proofs.choices.Outcomes.{enter_effect, effect, by_effect, Outcome, turned_down, made, choose_outcome}

-- a line that has moved on does not run
moved_rests : (pipes : ℕ) (s : Slot) → (moved pipes s).running ≡ false
moved_rests pipes s = by_test (eqb (suc s.pipe.0) pipes) (λ e. rw e) (λ e. rw e)

-- what a choice makes of its line's slot s: one that does not run, or one that the worker runs, where the line waited
module _ {X : Type 0} (S : Source X) (m : Machine X) (w l : ℕ) (s : Slot) where
  data Becomes (v : Slot) : Type 0 where
    waits : v.running ≡ false → Becomes v
    begins : s.running ≡ false → v.worker.0 ≡ w → Becomes v

  taken_becomes : s.running ≡ false → (o : Taken X) → Becomes (enter_effect m l s w o).slot
  unfolding enter_effect
  taken_becomes r Spoiled = waits r
  taken_becomes r (Nothing x) = waits r
  taken_becomes r (Took t x) = begins r refl

  becomes : Becomes (effect S m w l s).slot
  becomes = by_effect S m w l s (λ e. Becomes e.slot)
      (λ r. waits (moved_rests m.pipes s))
      (λ r. waits (moved_rests m.pipes s))
      (λ r. taken_becomes r (S.take m.source))
      (λ r. begins r refl)

-- the slots, with that of one line put anew
module _ (s : Slots) (size : Sized s) (n : ℕ) (most : n ≤ 32) (each : OneLineEach s n) (l : ℕ) (h : l < n) (v : Slot) where
  here : slot_at (put_slot s l v) l ≡ v
  here = put_same s l v size (omega arith)

  -- where it does not run
  put_resting : v.running ≡ false → OneLineEach (put_slot s l v) n
  put_resting rests i j a b r q e = elim (same_as i l) [
    | same u t ↦ absurd (never (sym r ∙ ap (λ k. (slot_at (put_slot s l v) k).running) u ∙ ap (λ (x : Slot). x.running) here ∙ rests))
    | other u t ↦ elim (same_as j l) [
      | same x t ↦ absurd (never (sym q ∙ ap (λ k. (slot_at (put_slot s l v) k).running) x ∙ ap (λ (y : Slot). y.running) here ∙ rests))
      | other x t ↦ each i j a b (rw (put_other s l v i u) at r) (rw (put_other s l v j x) at q) (rw (put_other s l v i u, put_other s l v j x) at e)
    ]
  ]

  -- where a worker runs it that was idle
  put_running : at_work s v.worker.0 n ≡ false → OneLineEach (put_slot s l v) n
  put_running o i j a b r q e = elim (same_as i l) [
    | same u t ↦ elim (same_as j l) [
      | same x t ↦ u ∙ sym x
      | other x t ↦ absurd (apart j x b q (sym e ∙ ap (λ k. (slot_at (put_slot s l v) k).worker.0) u))
    ]
    | other u t ↦ elim (same_as j l) [
      | same x t ↦ absurd (apart i u a r (e ∙ ap (λ k. (slot_at (put_slot s l v) k).worker.0) x))
      | other x t ↦ each i j a b (rw (put_other s l v i u) at r) (rw (put_other s l v j x) at q) (rw (put_other s l v i u, put_other s l v j x) at e)
    ]
  ]
    where
      apart : (k : ℕ) → (k ≡ l → ⊥) → k < n → (slot_at (put_slot s l v) k).running ≡ true →
          (slot_at (put_slot s l v) k).worker.0 ≡ (slot_at (put_slot s l v) l).worker.0 → ⊥
      apart k d c r e =
          never (sym (at_work_lem s v.worker.0 n k c (rw (put_other s l v k d) at r)
          (rw (put_other s l v k d) at (e ∙ ap (λ (y : Slot). y.worker.0) here))) ∙ o)

module _ {X : Type 0} {S : Source X} {plan : Pipeline} {workers : ℕ} {order : List ℕ} {z : X} (ok : Allowed plan workers order) where
  -- a choice keeps it
  module _ (st : State X) (g : Standing) (inv : Inv S plan workers order z st g) (each : OneLineEach st.slots plan.lines) (w l : ℕ) where
    abbrev m : Machine X
    m = whole plan workers st

    by_outcome : {c : Chosen X} → Outcome S m w l (effect S m w l (slot_of m l)) c → (Accepted c.answer → l < plan.lines) →
        (Accepted c.answer → (slot_of m l).running ≡ false → at_work st.slots w plan.lines ≡ false) → OneLineEach c.machine.slots plan.lines
    by_outcome (turned_down n) here idle = each
    by_outcome (made falls event) here idle = elim (becomes S m w l (slot_of m l)) [
      | waits r ↦ put_resting st.slots inv.slotted.size plan.lines ok.ranged.lines_most each l (here event) _ r
      | begins q e ↦ put_running st.slots inv.slotted.size plan.lines ok.ranged.lines_most each l (here event) _ (rw e (idle event q))
    ]

    after : OneLineEach (choose S m w l).machine.slots plan.lines
    after = by_outcome (choose_outcome S m w l) (accepted_line S m w l) (accepted_idle S m w l)

    -- so what holds of every machine that has the invariant and this, holds of what a choice leaves
    pub left_each : (P : Machine X → Type 0) → ((st : State X) (g : Standing) → Inv S plan workers order z st g → OneLineEach st.slots plan.lines →
        P (whole plan workers st)) → P (choose S (whole plan workers st) w l).machine
    left_each P go =
        let r : Stands S plan workers order z (choose S (whole plan workers st) w l).machine = stands ok st g inv w l in
        subst P (sym r.is) (go r.state r.standing r.kept (subst (λ (m : Machine X). OneLineEach m.slots plan.lines) r.is after))

  followed : (cs : List Choice) (st : State X) (g : Standing) → Inv S plan workers order z st g → OneLineEach st.slots plan.lines →
      OneLineEach (follow S (whole plan workers st) cs).slots plan.lines
  unfolding follow
  followed [] st g inv each = each
  followed (c ∷ cs) st g inv each =
      left_each st g inv each c.worker c.line (λ m. OneLineEach (follow S m cs).slots plan.lines) (followed cs)

-- at opening no line runs
pub opening_each : (n : ℕ) → OneLineEach all_idle n
opening_each n i j a b r q e = absurd (never (sym r ∙ ap (λ (s : Slot). s.running) (each_idle i)))

-- so after any list of choices no worker runs two lines
pub one_line_each : {X : Type 0} {S : Source X} {plan : Pipeline} {workers : ℕ} {x : X} {order : List ℕ} {z : X} → PipelineInRange plan →
    WorkersInRange workers → Sheet S plan x order z → (cs : List Choice) → OneLineEach (end S plan workers x cs).slots plan.lines
unfolding opened
one_line_each {plan = plan} {x = x} ranged manned sheet cs =
    followed (record { ranged = ranged; manned = manned; fits = sheet.fits; known = sheet.known }) cs (opening plan x) at_opening
    (opening_inv ranged manned sheet.writes) (opening_each plan.lines)
