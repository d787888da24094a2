-- The invariant holds at opening.
use mathlib.Core.Path.{◌≡◌, refl, sym, ◌∙◌}
use mathlib.Core.Bool.{false}
use mathlib.Core.List.{List}
use Prim.Native.Nat.{ℕ, ◌+◌, ◌≤◌}
use native.Mathlib.Nat.{mod-eq_of_lt}
use native.Mathlib.Omega.{arith}
use lib.Dec.{eqb}
use lib.ListN.{get_or-eq_default}
use borrow.Author.Tests.{ne_eqb, le-ltb}
use Rattle.rules.specs.RunState.{Pipeline, all_idle, full}
use Rattle.rules.specs.Sources.{Source, Writes}
use Rattle.rules.specs.Choices.{opened_counter, tabled}
use Rattle.rules.specs.WholeRuns.{PipelineInRange, WorkersInRange}
use Rattle.rules.proofs.lists.Tests.{same, other, same_as, lower, upper, below, holds, fails, see, never}
use Rattle.rules.proofs.lists.SlotRows.{sized_idle, each_idle}
use Rattle.rules.proofs.standing.Standing.{Standing, Good, serial_at, waiting, turn, to_start, to_finish, reached}
use Rattle.rules.proofs.invariant.Counters.{length_tabled, tabled_used, tabled_unused}
use Rattle.rules.proofs.invariant.Invariant.{State, free, Tallied, Inv}
use Rattle.rules.proofs.invariant.Slots.{shown_idle}

-- every line waits at pipe 0 for the place of its own number
abbrev pub at_opening : Standing
at_opening = record { pipe = λ l. 0; busy = λ l. false; place = λ l. l; passed = λ p. 0 }

-- the state at opening
abbrev pub opening : {X : Type 0} → Pipeline → X → State X
opening plan x = record {
  counters = tabled plan (λ l p. opened_counter l p (serial_at plan p));
  slots = all_idle;
  placed = 0;
  stopped = false;
  source = x;
}

module _ {plan : Pipeline} (ranged : PipelineInRange plan) where
  -- each line starts and finishes next its own number
  pub start_opening : (l p : ℕ) → to_start plan at_opening l p ≡ l
  unfolding to_start reached
  start_opening l p = rw (le-ltb p 0 (omega arith))

  pub finish_opening : (l p : ℕ) → to_finish plan at_opening l p ≡ l
  unfolding to_finish
  finish_opening l p = rw (le-ltb p 0 (omega arith))

  opening_good : Good plan at_opening
  opening_good = record {
    line = λ l h. mod-eq_of_lt h;
    at = λ l h. ranged.pipes_some;
    low = λ l p h q s. omega arith;
    high = λ l p h q s. rw (finish_opening l p) (omega arith);
    held = λ l h s b. absurd (never (sym b));
  }

  -- a counter at opening, with what its line waits for
  opening_count : (l p : ℕ) → opened_counter l p (serial_at plan p) + waiting at_opening l p + turn plan at_opening l p ≡ full (serial_at plan p)
  unfolding opened_counter waiting turn
  opening_count l p = rw (start_opening l p) (elim (same_as p 0) [
    | same e t ↦ rw (e, ranged.first_serial) (elim (see (eqb l 0)) [ holds f ↦ rw f | fails f ↦ rw f ])
    | other n t ↦ rw (t, ne_eqb 0 p (λ e. n (sym e))) (elim (see (eqb l 0)) [
      | holds f ↦ rw f (elim (see (serial_at plan p)) [ holds s ↦ rw s | fails s ↦ rw s ])
      | fails f ↦ rw f (elim (see (serial_at plan p)) [ holds s ↦ rw s | fails s ↦ rw s ])
    ])
  ])

  opening_tally : Tallied plan (tabled plan (λ l p. opened_counter l p (serial_at plan p))) at_opening
  opening_tally =
      let r : plan.pipes ≤ 16 = ranged.pipes_most in
      let r' : plan.lines ≤ 32 = ranged.lines_most in
      record {
        size = length_tabled plan _;
        counts = λ l p a b. rw (tabled_used plan (λ l p. opened_counter l p (serial_at plan p)) l p (omega arith) (omega arith) a b) (opening_count l p);
        unused = λ l p a n. elim (below l 32) [
          | lower h t ↦ tabled_unused plan _ l p h a n
          | upper h t ↦ get_or-eq_default (tabled plan _) 0 (rw (length_tabled plan (λ l p. opened_counter l p (serial_at plan p))) (omega arith))
        ];
      }

  -- so the invariant holds
  pub opening_inv : {X : Type 0} {S : Source X} {workers : ℕ} {x z : X} {order : List ℕ} → WorkersInRange workers → Writes S x order z →
      Inv S plan workers order z (opening plan x) at_opening
  opening_inv {order = order} manned writes = record {
    good = opening_good;
    tally = opening_tally;
    slotted = record {
      size = sized_idle;
      used = λ l h. record { worker = 0; manned = manned.some; is = each_idle l ∙ sym (shown_idle order false at_opening l 0 refl refl) };
      spare = λ l h. each_idle l;
    };
    feed = free refl refl (λ l f. never (sym f.runs)) (omega arith) writes;
  }
