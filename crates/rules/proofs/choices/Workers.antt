-- The worker that goes with a line: where any worker's choice of it is accepted, so is this one's, with the same event but for the worker.
use mathlib.Core.Path.{◌≡◌, refl, sym, ap, ◌∙◌}
use mathlib.Core.Bool.{true, false}
use Prim.Native.Nat.{ℕ, zero, suc, ◌+◌, ◌≤◌, ◌<◌}
use native.Mathlib.Omega.{arith}
use lib.Dec.{ltb, eqb}
use borrow.Author.Tests.{eq-eqb, ne_eqb}
use Rattle.vocabulary.specs.declared.Slots.{Slots}
use Rattle.rules.specs.RunState.{Machine, slot_at, slot_of}
use Rattle.rules.specs.Sources.{Source, Taken, Spoiled, Nothing, Took}
use Rattle.rules.specs.Choices.{run_by, at_work, start_first, start_later, start, choose}
use Rattle.rules.specs.Workers.{first_idle, worker_for, without_worker}
use Rattle.rules.specs.WholeRuns.{Accepted}
use Rattle.rules.proofs.lists.Tests.{by_test, same, other, same_as, holds, fails, see, never, if_same}
use Rattle.rules.proofs.choices.Accepting.{accepted_worker, accepted_own, accepted_idle, starts_too}

-- a worker that runs a line is at work
pub at_work_lem : (s : Slots) (w n j : ℕ) → j < n → (slot_at s j).running ≡ true → (slot_at s j).worker.0 ≡ w → at_work s w n ≡ true
unfolding at_work
at_work_lem s w zero j h r e = absurd (omega arith)
at_work_lem s w (suc n) j h r e = elim (same_as j n) [
  | same q t ↦ rw (ap (λ i. (slot_at s i).running) (sym q) ∙ r, eq-eqb (slot_at s n).worker.0 w (ap (λ i. (slot_at s i).worker.0) (sym q) ∙ e))
  | other q t ↦ rw (at_work_lem s w n j (omega arith) r e) (if_same (run_by w (slot_at s n)) true)
]

-- and one that runs none of the lines below n is idle among them
pub not_at_work : (s : Slots) (w n : ℕ) → ((l : ℕ) → l < n → (slot_at s l).running ≡ true → (slot_at s l).worker.0 ≡ w → ⊥) → at_work s w n ≡ false
unfolding at_work
not_at_work s w zero none = refl
not_at_work s w (suc n) none = elim (see (slot_at s n).running) [
  | fails r ↦ rw r (not_at_work s w n (λ l h. none l (omega arith)))
  | holds r ↦ rw (r, ne_eqb (slot_at s n).worker.0 w (none n (omega arith) r)) (not_at_work s w n (λ l h. none l (omega arith)))
]

-- the idle worker with the smallest number, of so many from w on
pub record FirstIdle (s : Slots) (lines w left v : ℕ) : Type 0 where
  pub from : w ≤ v
  pub below : v < w + left
  pub idle : at_work s v lines ≡ false
  pub least : (u : ℕ) → w ≤ u → u < v → at_work s u lines ≡ true

module _ (s : Slots) (lines : ℕ) where
  -- where one is idle, it is found
  pub first_idle_lem : (left w u : ℕ) → w ≤ u → u < w + left → at_work s u lines ≡ false → FirstIdle s lines w left (first_idle s lines w left)
  unfolding first_idle
  first_idle_lem zero w u a b o = absurd (omega arith)
  first_idle_lem (suc left) w u a b o = elim (see (at_work s w lines)) [
    | fails e ↦ rw e (record { from = omega arith; below = omega arith; idle = e; least = λ v c d. absurd (omega arith) })
    | holds e ↦ elim (same_as u w) [
      | same q t ↦ absurd (never (sym e ∙ ap (λ v. at_work s v lines) (sym q) ∙ o))
      | other q t ↦
          let r : FirstIdle s lines (suc w) left (first_idle s lines (suc w) left) = first_idle_lem left (suc w) u (omega arith) (omega arith) o in
          rw e (record {
            from = omega (arith, r.from);
            below = omega (arith, r.below);
            idle = r.idle;
            least = λ v c d. elim (same_as v w) [ same p t ↦ rw p e | other p t ↦ r.least v (omega arith) d ];
          })
    ]
  ]

  -- where none is, it is worker 0
  pub none_idle : (left w : ℕ) → ((u : ℕ) → w ≤ u → u < w + left → at_work s u lines ≡ true) → first_idle s lines w left ≡ 0
  unfolding first_idle
  none_idle zero w all = refl
  none_idle (suc left) w all = rw (all w (omega arith) (omega arith)) (none_idle left (suc w) (λ u a b. all u (omega arith) (omega arith)))

module _ {X : Type 0} (S : Source X) (m : Machine X) (l : ℕ) where
  -- the worker that goes with a line that runs, and with one that waits
  pub worker_runs : (slot_of m l).running ≡ true → worker_for m l ≡ (slot_of m l).worker.0
  unfolding worker_for
  worker_runs r = rw r

  pub worker_waits : (slot_of m l).running ≡ false → worker_for m l ≡ first_idle m.slots m.lines 0 m.workers
  unfolding worker_for
  worker_waits r = rw r

  -- a start is the same whoever makes it, but for the worker
  first_same : (v w : ℕ) (o : Taken X) → without_worker (start_first S m v l o).answer ≡ without_worker (start_first S m w l o).answer
  unfolding start_first without_worker
  first_same v w Spoiled = refl
  first_same v w (Nothing x) = refl
  first_same v w (Took t x) = by_test (ltb m.placed m.tokens) (λ e. rw e) (λ e. rw e)

  start_same : (v w : ℕ) → without_worker (start S m v l).answer ≡ without_worker (start S m w l).answer
  unfolding start start_later without_worker
  start_same v w = by_test (eqb (slot_of m l).pipe.0 0) (λ e. rw e (first_same v w (S.take m.source))) (λ e. rw e)

  module _ (w : ℕ) (accepts : Accepted (choose S m w l).answer) where
    waits_same : (slot_of m l).running ≡ false → without_worker (choose S m (worker_for m l) l).answer ≡ without_worker (choose S m w l).answer
    waits_same r =
        let idle : at_work m.slots w m.lines ≡ false = accepted_idle S m w l accepts r in
        let known : w < m.workers = accepted_worker S m w l accepts in
        let v : ℕ = first_idle m.slots m.lines 0 m.workers in
        let f : FirstIdle m.slots m.lines 0 m.workers v = first_idle_lem m.slots m.lines m.workers 0 w (omega arith) (omega arith) idle in
        rw (worker_waits r, starts_too S m w l accepts r v (omega (arith, f.below)) f.idle, starts_too S m w l accepts r w known idle) (start_same v w)

    -- so the choice by the line's worker has the same event, but for the worker
    pub practice_same : without_worker (choose S m (worker_for m l) l).answer ≡ without_worker (choose S m w l).answer
    practice_same = by_test (slot_of m l).running
        (λ r. ap (λ v. without_worker (choose S m v l).answer) (worker_runs r ∙ accepted_own S m w l accepts r))
        (λ r. waits_same r)
