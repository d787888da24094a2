-- What an accepted choice has passed, in any machine.
use mathlib.Core.Path.{◌≡◌, ap}
use mathlib.Core.Bool.{true, false}
use Prim.Native.Nat.{ℕ, ◌<◌}
use native.Mathlib.Omega.{arith}
use Rattle.rules.specs.Sources.{Source}
use Rattle.rules.specs.RunState.{Machine, slot_of, counter_of}
use Rattle.rules.specs.Ranges.{sound}
use Rattle.rules.specs.Choices.{Refused, Chosen, refuse, at_work, ended, start, choose}
use Rattle.rules.specs.WholeRuns.{Accepted}
use Rattle.rules.proofs.lists.Tests.{same, other, same_as, lower, upper, below, holds, fails, see}
use Rattle.rules.proofs.choices.Cases.{far, unknown, over, another, early, occupied, waiting_choice}

module _ {X : Type 0} (S : Source X) (m : Machine X) (w l : ℕ) where
  -- where a choice is not answered by 14, every number is in range
  pub unspoiled_sound : ((choose S m w l).answer ≡ Refused 14 → ⊥) → sound S m ≡ true
  unfolding choose
  unspoiled_sound n = elim (see (sound S m)) [ holds e ↦ e | fails e ↦ absurd (n (rw e)) ]

  module _ (accepts : Accepted (choose S m w l).answer) where
    not_refused : (n : ℕ) → choose S m w l ≡ refuse m n → ⊥
    not_refused n e = accepts n (ap (λ (c : Chosen X). c.answer) e)

    pub accepted_sound : sound S m ≡ true
    accepted_sound = unspoiled_sound (accepts 14)

    pub accepted_line : l < m.lines
    accepted_line = elim (below l m.lines) [ lower h t ↦ h | upper h t ↦ absurd (not_refused 10 (far S m w l accepted_sound h)) ]

    pub accepted_worker : w < m.workers
    accepted_worker = elim (below w m.workers) [
      | lower h t ↦ h
      | upper h t ↦ absurd (not_refused 26 (unknown S m w l accepted_sound accepted_line h))
    ]

    pub accepted_open : ended m ≡ false
    accepted_open = elim (see (ended m)) [
      | fails e ↦ e
      | holds e ↦ absurd (not_refused 11 (over S m w l accepted_sound accepted_line accepted_worker e))
    ]

    -- a finish is by the line's own worker
    pub accepted_own : (slot_of m l).running ≡ true → (slot_of m l).worker.0 ≡ w
    accepted_own r = elim (same_as (slot_of m l).worker.0 w) [
      | same e t ↦ e
      | other e t ↦ absurd (not_refused 26 (another S m w l accepted_sound accepted_line accepted_worker accepted_open r e))
    ]

    -- a start has counter 0, and is by an idle worker
    module _ (r : (slot_of m l).running ≡ false) where
      pub accepted_due : counter_of m l (slot_of m l).pipe.0 ≡ 0
      accepted_due = elim (same_as (counter_of m l (slot_of m l).pipe.0) 0) [
        | same e t ↦ e
        | other e t ↦ absurd (not_refused 12 (early S m w l accepted_sound accepted_line accepted_worker accepted_open r (omega arith)))
      ]

      pub accepted_idle : at_work m.slots w m.lines ≡ false
      accepted_idle = elim (see (at_work m.slots w m.lines)) [
        | fails e ↦ e
        | holds e ↦ absurd (not_refused 13 (occupied S m w l accepted_sound accepted_line accepted_worker accepted_open r accepted_due e))
      ]

      -- so every idle worker below W would start
      pub starts_too : (v : ℕ) → v < m.workers → at_work m.slots v m.lines ≡ false → choose S m v l ≡ start S m v l
      starts_too v h o = waiting_choice S m v l accepted_sound accepted_line h accepted_open r accepted_due o
