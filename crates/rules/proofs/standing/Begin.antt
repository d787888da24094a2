-- A start, and how it changes the accounts.
use mathlib.Core.Path.{◌≡◌, refl, sym}
use mathlib.Core.Bool.{true, false}
use Prim.Native.Nat.{ℕ, suc, ◌+◌, ◌<◌}
use native.Mathlib.Omega.{arith}
use borrow.Author.Tests.{eq-eqb, ne_eqb, lt-ltb, le-ltb}
use Rattle.rules.specs.RunState.{Pipeline}
use Rattle.rules.specs.WholeRuns.{PipelineInRange}
use Rattle.rules.proofs.lists.Tests.{same, other, same_as, lower, upper, below, holds, fails, see}
use Rattle.rules.proofs.standing.Standing.{Standing, serial_at, Good, put_same, put_other, reached, waiting, begin, to_start, to_finish, turn, start_busy}

-- the pipe that a line waits at
pub waiting_here : (g : Standing) (l : ℕ) → g.busy l ≡ false → waiting g l (g.pipe l) ≡ 1
unfolding waiting
waiting_here g l e = rw (e, eq-eqb (g.pipe l) (g.pipe l) refl)

-- and no other
pub waiting_else : (g : Standing) (l p : ℕ) → (g.pipe l ≡ p → ⊥) → waiting g l p ≡ 0
unfolding waiting
waiting_else g l p n = elim (see (g.busy l)) [ holds e ↦ rw e | fails e ↦ rw (e, ne_eqb (g.pipe l) p n) ]

-- a busy line waits nowhere
pub waiting_busy : (g : Standing) (l p : ℕ) → g.busy l ≡ true → waiting g l p ≡ 0
unfolding waiting
waiting_busy g l p e = rw e

module _ {plan : Pipeline} (ranged : PipelineInRange plan) (g : Standing) (l : ℕ) (idle : g.busy l ≡ false) where
  pub begin_busy : (begin g l).busy l ≡ true
  unfolding begin
  begin_busy = put_same g.busy l true

  -- the other lines are as busy as before
  pub begin_busy_else : (i : ℕ) → (i ≡ l → ⊥) → (begin g l).busy i ≡ g.busy i
  unfolding begin
  begin_busy_else i n = put_other g.busy l true i n

  -- a start finishes nothing
  pub begin_passed : (p : ℕ) → (begin g l).passed p ≡ g.passed p
  unfolding begin
  begin_passed p = refl

  -- nor does it change what is to be finished next
  pub begin_finish : (i p : ℕ) → to_finish plan (begin g l) i p ≡ to_finish plan g i p
  unfolding begin to_finish
  begin_finish i p = refl

  -- the place that the line starts next at its pipe is its next one
  pub begin_start_here : to_start plan (begin g l) l (g.pipe l) ≡ plan.lines + g.place l
  unfolding begin
  begin_start_here = start_busy ranged (begin g l) l begin_busy

  -- elsewhere nothing changes
  pub begin_start_else : (i p : ℕ) → (i ≡ l → p ≡ g.pipe l → ⊥) → to_start plan (begin g l) i p ≡ to_start plan g i p
  unfolding begin to_start reached
  begin_start_else i p n = elim (same_as i l) [
    | other e t ↦ rw (put_other g.busy l true i e)
    | same e t ↦ rw (e, put_same g.busy l true, idle) (elim (below p (g.pipe l)) [
      | lower h f ↦ rw (f, lt-ltb p (suc (g.pipe l)) (omega arith))
      | upper h f ↦ let m : p ≡ g.pipe l → ⊥ = n e in rw (f, le-ltb p (suc (g.pipe l)) (omega arith))
    ])
  ]

  -- the line waits there no more
  pub begin_waiting_here : waiting (begin g l) l (g.pipe l) ≡ 0
  begin_waiting_here = waiting_busy (begin g l) l (g.pipe l) begin_busy

  -- and the rest wait as before
  pub begin_waiting_else : (i p : ℕ) → (i ≡ l → p ≡ g.pipe l → ⊥) → waiting (begin g l) i p ≡ waiting g i p
  unfolding begin waiting
  begin_waiting_else i p n = elim (same_as i l) [
    | other e t ↦ rw (put_other g.busy l true i e)
    | same e t ↦ rw (e, put_same g.busy l true, idle, ne_eqb (g.pipe l) p (λ q. n e (sym q)))
  ]

  -- and have their turns as before
  pub begin_turn_else : (i p : ℕ) → (i ≡ l → p ≡ g.pipe l → ⊥) → turn plan (begin g l) i p ≡ turn plan g i p
  unfolding turn
  begin_turn_else i p n = rw (begin_start_else i p n, begin_passed p)

  module _ (ok : Good plan g) (i : l < plan.lines) (ready : serial_at plan (g.pipe l) ≡ true → g.place l ≡ g.passed (g.pipe l)) where
    -- the line has had its turn
    pub begin_turn_here : turn plan (begin g l) l (g.pipe l) ≡ 0
    unfolding turn begin
    begin_turn_here = elim (see (serial_at plan (g.pipe l))) [
      | fails e ↦ rw e
      | holds e ↦ rw (e, begin_start_here, ready e, ne_eqb (plan.lines + g.passed (g.pipe l)) (g.passed (g.pipe l)) (omega arith))
    ]

    -- a start where it is the line's turn keeps the accounts
    pub begin_good : Good plan (begin g l)
    unfolding begin to_finish
    begin_good = record {
      line = ok.line;
      at = ok.at;
      low = ok.low;
      high = ok.high;
      held = λ j h s b. elim (same_as j l) [
        | same e t ↦ rw e (ready (rw e at s))
        | other e t ↦ ok.held j h s (rw (put_other g.busy l true j e) at b)
      ];
    }
