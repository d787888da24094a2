-- An opening with rounding that is not refused.
use mathlib.Core.Path.{◌≡◌, sym, subst}
use mathlib.Core.Bool.{true, false}
use mathlib.Core.List.{List}
use Prim.Native.Nat.{ℕ, ◌<◌}
use native.Mathlib.Omega.{arith}
use lib.ListN.{get_or, replicate}
use Rattle.rules.specs.RunState.{Pipeline}
use Rattle.rules.specs.Rounding.{is_base, is_rounding_pipe, Rounding, lent_fits, TurnedDown, Opens, open_rounding}
use Rattle.rules.specs.RoundedRuns.{AtOpening, rounds}
use Rattle.rules.proofs.lists.Tests.{lower, upper, below, holds, fails, see, never}

-- its rounding is one that a run begins with, for which its cells and figures fit; the figures are cleared
pub record OpensWith (plan : Pipeline) (pipe base : ℕ) (cells figures : List ℕ) (r : Rounding) (cleared : List ℕ) : Type 0 where
  pub rounding_is : r ≡ record { pipe = pipe; base = base; sum = 0 }
  pub opens : AtOpening plan r
  pub cleared_is : cleared ≡ replicate plan.tokens 0
  pub fits : lent_fits plan.tokens cells figures ≡ true

module _ (plan : Pipeline) (pipe base : ℕ) (cells figures : List ℕ) where
  pipe_serial : is_rounding_pipe plan.pipes plan.serial pipe ≡ true → (pipe < plan.pipes) × (get_or plan.serial pipe false ≡ true)
  unfolding is_rounding_pipe
  pipe_serial h = elim (below pipe plan.pipes) [
    | upper b t ↦ absurd (never (sym (rw t at h)))
    | lower b t ↦ elim (see (get_or plan.serial pipe false)) [ holds s ↦ (b, s) | fails s ↦ absurd (never (sym (rw (t, s) at h))) ]
  ]

  pub opens_with : (r : Rounding) (cleared : List ℕ) → open_rounding plan pipe base cells figures ≡ Opens r cleared →
      OpensWith plan pipe base cells figures r cleared
  unfolding open_rounding
  opens_with r cleared e = elim (see (is_rounding_pipe plan.pipes plan.serial pipe)) [
    | fails p ↦ let q : TurnedDown 16 ≡ Opens r cleared = rw p at e in let w : ◌≡◌ {A = ℕ} 0 1 = cc in absurd (omega arith)
    | holds p ↦ elim (see (is_base base)) [
      | fails b ↦ let q : TurnedDown 17 ≡ Opens r cleared = rw (p, b) at e in let w : ◌≡◌ {A = ℕ} 0 1 = cc in absurd (omega arith)
      | holds b ↦ elim (see (lent_fits plan.tokens cells figures)) [
        | fails f ↦ let q : TurnedDown 18 ≡ Opens r cleared = rw (p, b, f) at e in let w : ◌≡◌ {A = ℕ} 0 1 = cc in absurd (omega arith)
        | holds f ↦
            let q : Opens (record { pipe = pipe; base = base; sum = 0 }) (replicate plan.tokens 0) ≡ Opens r cleared = rw (p, b, f) at e in
            let i : record { pipe = pipe; base = base; sum = 0 } ≡ r = cc in
            record {
              rounding_is = sym i;
              opens = subst (λ (q : Rounding). AtOpening plan q) i (rounds (pipe_serial p).0 (pipe_serial p).1 b);
              cleared_is = cc;
              fits = f;
            }
      ]
    ]
  ]
