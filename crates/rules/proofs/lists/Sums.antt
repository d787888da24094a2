-- Sums of a function's values below a bound, and how many numbers below it pass a test.
use mathlib.Core.Path.{◌≡◌, refl}
use mathlib.Core.Bool.{Bool, true, false}
use Prim.Native.Nat.{ℕ, zero, suc, ◌+◌, ◌≤◌, ◌<◌}
use native.Mathlib.Omega.{arith}
use Rattle.rules.specs.Lists.{if}
use Rattle.rules.proofs.lists.Tests.{by_test, same, other, same_as, holds, fails, see}

-- the sum of a function's values below n
unfoldable pub total : (ℕ → ℕ) → ℕ → ℕ
total f zero = 0
total f (suc n) = f n + total f n

pub total_same : (f h : ℕ → ℕ) (n : ℕ) → ((j : ℕ) → j < n → h j ≡ f j) → total h n ≡ total f n
unfolding total
total_same f h zero e = refl
total_same f h (suc n) e = omega (arith, e n (omega arith), total_same f h n (λ j k. e j (omega arith)))

-- a change at one number changes the sum as much
pub total_change : (f h : ℕ → ℕ) (l n : ℕ) → l < n → ((j : ℕ) → j < n → (j ≡ l → ⊥) → h j ≡ f j) → total h n + f l ≡ total f n + h l
unfolding total
total_change f h l zero k e = absurd (omega arith)
total_change f h l (suc n) k e = elim (same_as n l) [
  | same q t ↦ rw (← q) (omega (arith, total_same f h n (λ j i. e j (omega arith) (omega arith))))
  | other d t ↦ omega (arith, e n (omega arith) d, total_change f h l n (omega arith) (λ j i. e j (omega arith)))
]

-- a sum of zeros
pub total_zero : (f : ℕ → ℕ) (n : ℕ) → ((j : ℕ) → j < n → f j ≡ 0) → total f n ≡ 0
unfolding total
total_zero f zero e = refl
total_zero f (suc n) e = omega (arith, e n (omega arith), total_zero f n (λ j k. e j (omega arith)))

pub total_from : (f : ℕ → ℕ) (l n : ℕ) → l < n → f l ≤ total f n
unfolding total
total_from f l zero h = absurd (omega arith)
total_from f l (suc n) h = elim (same_as l n) [ same e t ↦ rw e (omega arith) | other d t ↦ omega (arith, total_from f l n (omega arith)) ]

-- how many numbers below n pass a test
abbrev pub passing : (ℕ → Bool) → ℕ → ℕ
passing b n = total (λ j. if (b j) 1 0) n

module _ (b : ℕ → Bool) where
  -- at most all of them
  passing_most : (n : ℕ) → passing b n ≤ n
  unfolding total
  passing_most zero = omega arith
  passing_most (suc n) = by_test (b n) (λ e. rw e (omega (arith, passing_most n))) (λ e. rw e (omega (arith, passing_most n)))

  -- where fewer do, one does not
  pub one_fails : (n : ℕ) → passing b n < n → (j : ℕ) × (j < n) × (b j ≡ false)
  unfolding total
  one_fails zero h = absurd (omega arith)
  one_fails (suc n) h = elim (see (b n)) [
    | fails e ↦ (n, omega arith, e)
    | holds e ↦ let (j, i, f) = one_fails n (omega (arith, rw e at h)) in (j, omega arith, f)
  ]

  -- where as many do, each does
  pub all_pass : (n : ℕ) → n ≤ passing b n → (j : ℕ) → j < n → b j ≡ true
  unfolding total
  all_pass zero h j i = absurd (omega arith)
  all_pass (suc n) h j i = elim (see (b n)) [
    | fails e ↦ absurd (omega (arith, rw e at h, passing_most n))
    | holds e ↦ elim (same_as j n) [ same q t ↦ rw q e | other q t ↦ all_pass n (omega (arith, rw e at h)) j (omega arith) ]
  ]
