-- Tests that hold: each of two, and that of one number among some.
use mathlib.Core.Path.{◌≡◌, refl, ap, ◌∙◌}
use mathlib.Core.Bool.{Bool, true, false}
use mathlib.Core.Logic.{by_cases}
use Prim.Native.Nat.{ℕ, zero, suc, ◌<◌}
use native.Mathlib.Omega.{arith}
use native.Mathlib.Decide.{ℕ_discrete}
use Rattle.rules.specs.Lists.{if, every}

-- of two tests that hold, each
pub first_holds : (b x : Bool) → if b x false ≡ true → b ≡ true
first_holds true x e = refl
first_holds false x e = let z : ◌≡◌ {A = ℕ} 0 1 = cc in absurd (omega arith)

pub rest_hold : (b x : Bool) → if b x false ≡ true → x ≡ true
rest_hold true x e = e
rest_hold false x e = let z : ◌≡◌ {A = ℕ} 0 1 = cc in absurd (omega arith)

-- a test of each number below n holds of one of them
pub every_at : (n i : ℕ) (f : ℕ → Bool) → i < n → every n f ≡ true → f i ≡ true
unfolding every
every_at zero i f h e = absurd (omega arith)
every_at (suc n) i f h e = by_cases (ℕ_discrete i n)
    (λ i-is. ap f i-is ∙ first_holds (f n) _ e)
    (λ less. every_at n i f (omega arith) (rest_hold (f n) _ e))
