-- What a machine is like whose numbers are all within their ranges.
use mathlib.Core.Path.{◌≡◌}
use mathlib.Core.Bool.{true, not}
use Prim.Native.Nat.{ℕ, ◌≤◌, ◌<◌}
use native.Mathlib.Omega.{arith}
use borrow.Author.Tests.{ltb-true, leb-true, eqb-true}
use lib.Dec.{leb, ltb, eqb}
use Rattle.rules.specs.Lists.{if, every, within}
use Rattle.rules.specs.RunState.{Machine, slot_of}
use Rattle.rules.specs.Sources.{Source}
use Rattle.rules.specs.Ranges.{worker_sound, is_idle, is_loaded, slot_sound, serial_sound, numbers_sound, sound}
use Rattle.rules.proofs.lists.Tests.{holds, fails, see}
use Rattle.rules.proofs.lists.Holding.{first_holds, rest_hold, every_at}

-- a number within a range
module _ (low high n : ℕ) (ok : within low high n ≡ true) where
  within_least : low ≤ n
  unfolding within
  within_least = leb-true low n (first_holds (leb low n) _ ok)

  within_most : n ≤ high
  unfolding within
  within_most = leb-true n high (first_holds (leb n high) _ (rest_hold (leb low n) _ ok))

module _ {X : Type 0} (S : Source X) (m : Machine X) (ok : sound S m ≡ true) where
  numbers_ok : numbers_sound m ≡ true
  unfolding sound
  numbers_ok = first_holds (numbers_sound m) _ ok

  -- the slot of each line
  pub slots_ok_lem : every 32 (slot_sound m.pipes m.lines m.tokens m.workers m.slots) ≡ true
  unfolding sound
  slots_ok_lem = first_holds (every 32 (slot_sound m.pipes m.lines m.tokens m.workers m.slots)) _
      (rest_hold (every 16 (serial_sound m.pipes m.serial)) _ (rest_hold (numbers_sound m) _ ok))

  pub slot_ok : (l : ℕ) → l < 32 → slot_sound m.pipes m.lines m.tokens m.workers m.slots l ≡ true
  slot_ok l h = every_at 32 l _ h slots_ok_lem

  pipes_ok : within 1 16 m.pipes ≡ true
  unfolding numbers_sound
  pipes_ok = first_holds (within 1 16 m.pipes) _ numbers_ok

  lines_ok : within 1 32 m.lines ≡ true
  unfolding numbers_sound
  lines_ok = first_holds (within 1 32 m.lines) _ (rest_hold (within 1 16 m.pipes) _ numbers_ok)

  pub workers_ok : within 1 32 m.workers ≡ true
  unfolding numbers_sound
  workers_ok = first_holds (within 1 32 m.workers) _
      (rest_hold (leb m.tokens 4096) _ (rest_hold (within 1 32 m.lines) _ (rest_hold (within 1 16 m.pipes) _ numbers_ok)))

  pub pipes_some : 1 ≤ m.pipes
  pipes_some = within_least 1 16 m.pipes pipes_ok

  pub pipes_most : m.pipes ≤ 16
  pipes_most = within_most 1 16 m.pipes pipes_ok

  pub lines_most : m.lines ≤ 32
  lines_most = within_most 1 32 m.lines lines_ok

  pub workers_some : 1 ≤ m.workers
  workers_some = within_least 1 32 m.workers workers_ok

  -- the worker of a line that runs is below W
  pub manned : (l : ℕ) → l < m.lines → (slot_of m l).running ≡ true → (slot_of m l).worker.0 < m.workers
  unfolding slot_sound worker_sound
  manned l h r = ltb-true (slot_of m l).worker.0 m.workers
      (rw r at (first_holds (worker_sound m.workers (slot_of m l)) _ (slot_ok l (omega (arith, lines_most)))))

  -- each line is at a pipe of the plan
  pub pipe_in : (l : ℕ) → l < 32 → (slot_of m l).pipe.0 < m.pipes
  unfolding slot_sound is_idle is_loaded
  pipe_in l h =
      let ok-here = rest_hold (worker_sound m.workers (slot_of m l)) _ (slot_ok l h) in
      elim (see (is_idle (slot_of m l))) [
        | holds i ↦ omega (arith, pipes_some, eqb-true (slot_of m l).pipe.0 0 (first_holds (eqb (slot_of m l).pipe.0 0) _ (rest_hold (not (slot_of m l).running) _ i)))
        | fails i ↦ ltb-true (slot_of m l).pipe.0 m.pipes (first_holds (ltb (slot_of m l).pipe.0 m.pipes) _
            (rest_hold (if (slot_of m l).running true (ltb 0 (slot_of m l).pipe.0)) _
            (first_holds (is_loaded m.pipes m.tokens (slot_of m l)) _ (rest_hold (ltb l m.lines) _ (rw i at ok-here)))))
      ]
