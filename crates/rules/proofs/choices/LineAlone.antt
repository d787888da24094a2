-- A line listed alone, chosen by the worker that goes with it, answers and leaves what document 01 says of the line.
use mathlib.Core.Path.{◌≡◌, refl, sym, ap, ◌∙◌}
use mathlib.Core.Bool.{true, false, not}
use Prim.Native.Nat.{ℕ, zero, suc, ◌+◌, ◌<◌}
use native.Mathlib.Omega.{arith}
use lib.Dec.{ltb, eqb}
use borrow.Author.Tests.{lt-ltb, eq-eqb, ne_eqb}
use Rattle.vocabulary.specs.declared.Slots.{Slots}
use Rattle.rules.specs.Lists.{if}
use Rattle.rules.specs.RunState.{Machine, slot_at, slot_of, counter_of}
use Rattle.rules.specs.Sources.{Source}
use Rattle.rules.specs.Ranges.{sound}
use Rattle.rules.specs.Choices.{at_work, ended, move, choose}
use Rattle.rules.specs.Workers.{first_idle, worker_for, running_below, choose_line, OneLineEach}
use Rattle.rules.proofs.lists.Tests.{by_test, lower, upper, below, holds, fails, see, if_not}
use Rattle.rules.proofs.lists.Sums.{total_same, total_change, total_zero, passing, one_fails, all_pass}
use Rattle.rules.proofs.choices.SoundMachines.{workers_some, manned}
use Rattle.rules.proofs.choices.Workers.{at_work_lem, not_at_work, FirstIdle, first_idle_lem, none_idle, worker_runs, worker_waits}

module _ (s : Slots) where
  -- one more line, that does not run, or that another worker runs
  rests_no_more : (w n : ℕ) → (slot_at s n).running ≡ false → at_work s w (suc n) ≡ at_work s w n
  unfolding at_work
  rests_no_more w n r = rw r

  runs_no_more : (w n : ℕ) → (w ≡ (slot_at s n).worker.0 → ⊥) → at_work s w (suc n) ≡ at_work s w n
  unfolding at_work
  runs_no_more w n d = by_test (slot_at s n).running (λ r. rw (r, ne_eqb (slot_at s n).worker.0 w (λ e. d (sym e)))) (λ r. rw r)

  -- of W workers as many are at work as lines run, where no two of these have the same worker
  busy : (W n : ℕ) → ((l : ℕ) → l < n → (slot_at s l).running ≡ true → (slot_at s l).worker.0 < W) → OneLineEach s n →
      passing (λ w. at_work s w n) W ≡ running_below s n
  unfolding running_below
  busy W zero man each = total_zero _ W (λ w h. rw (not_at_work s w zero (λ l i. absurd (omega arith))))
  busy W (suc n) man each =
      let go : passing (λ w. at_work s w n) W ≡ running_below s n = busy W n (λ l h. man l (omega arith)) (λ i j a b. each i j (omega arith) (omega arith)) in
      elim (see (slot_at s n).running) [
        | fails r ↦ rw r (omega (arith, total_same (λ w. if (at_work s w n) 1 0) (λ w. if (at_work s w (suc n)) 1 0) W (λ w h. rw (rests_no_more w n r))))
        | holds r ↦
            let v : ℕ = (slot_at s n).worker.0 in
            let was : at_work s v n ≡ false = not_at_work s v n (λ l h q e. omega (arith, each l n (omega arith) (omega arith) q r e)) in
            let is : at_work s v (suc n) ≡ true = at_work_lem s v (suc n) n (omega arith) r refl in
            let more : passing (λ w. at_work s w (suc n)) W + 0 ≡ passing (λ w. at_work s w n) W + 1 = rw (was, is) at
            (total_change (λ w. if (at_work s w n) 1 0) (λ w. if (at_work s w (suc n)) 1 0) v W (man n (omega arith) r) (λ w h d. rw (runs_no_more w n d))) in
            rw r (omega arith)
      ]

module _ {X : Type 0} (S : Source X) (m : Machine X) (each : OneLineEach m.slots m.lines) (l : ℕ) where
  -- how many lines run, and the idle worker with the smallest number
  abbrev running : ℕ
  running = running_below m.slots m.lines

  abbrev first : ℕ
  first = first_idle m.slots m.lines 0 m.workers

  module _ (ok : sound S m ≡ true) where
    busy_here : passing (λ w. at_work m.slots w m.lines) m.workers ≡ running
    busy_here = busy m.slots m.workers m.lines (manned S m ok) each

    -- it is one of the W, and at work exactly if W or more lines run
    first_is : (first < m.workers) × (at_work m.slots first m.lines ≡ not (ltb running m.workers))
    first_is = elim (below running m.workers) [
      | lower h t ↦
          let (u, i, o) = one_fails (λ w. at_work m.slots w m.lines) m.workers (omega (arith, busy_here)) in
          let f : FirstIdle m.slots m.lines 0 m.workers first = first_idle_lem m.slots m.lines m.workers 0 u (omega arith) (omega arith) o in
          (omega (arith, f.below), rw t f.idle)
      | upper h t ↦
          let all = all_pass (λ w. at_work m.slots w m.lines) m.workers (omega (arith, busy_here)) in
          let z : first ≡ 0 = none_idle m.slots m.lines m.workers 0 (λ u a b. all u (omega arith)) in
          (omega (arith, workers_some S m ok), rw (t, z) (all 0 (workers_some S m ok)))
    ]

    -- the worker that goes with a line is one of the W
    known : l < m.lines → ltb (worker_for m l) m.workers ≡ true
    known h = lt-ltb (worker_for m l) m.workers (elim (see (slot_of m l).running) [
      | holds r ↦ omega (arith, worker_runs S m l r, manned S m ok l h r)
      | fails r ↦ omega (arith, worker_waits S m l r, first_is.0)
    ])

    -- and where the line waits, at work exactly if W or more lines run
    taken : (slot_of m l).running ≡ false → at_work m.slots (worker_for m l) m.lines ≡ not (ltb running m.workers)
    taken r = ap (λ w. at_work m.slots w m.lines) (worker_waits S m l r) ∙ first_is.1

  -- so the choice by that worker is 01's choice of the line, check by check
  pub line_alone : choose S m (worker_for m l) l ≡ choose_line S m l
  unfolding choose move choose_line
  line_alone = elim (see (sound S m)) [
    | fails ok ↦ rw ok
    | holds ok ↦ elim (below l m.lines) [
      | upper h t ↦ rw (ok, t)
      | lower h t ↦ elim (see (ended m)) [
        | holds e ↦ rw (ok, t, known ok h, e)
        | fails e ↦ elim (see (slot_of m l).running) [
          | holds r ↦ rw (ok, t, known ok h, e, r, eq-eqb (slot_of m l).worker.0 (worker_for m l) (sym (worker_runs S m l r)))
          | fails r ↦ elim (see (eqb (counter_of m l (slot_of m l).pipe.0) 0)) [
            | fails c ↦ rw (ok, t, known ok h, e, r, c)
            | holds c ↦ rw (ok, t, known ok h, e, r, c, taken ok r) (if_not (ltb running m.workers) _ _)
          ]
        ]
      ]
    ]
  ]
