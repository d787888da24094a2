-- Tests of the numbers below a bound: without a way out on the way, from a number on, in two parts, and row by row.
use mathlib.Core.Path.{◌≡◌, refl, sym, ap, ◌∙◌}
use mathlib.Core.Bool.{Bool, true, false}
use Prim.Native.Nat.{ℕ, zero, suc, ◌+◌, ◌-◌, ◌*◌, ◌<◌, ◌≤◌}
use native.Mathlib.Omega.{arith}
use native.Mathlib.Nat.{mul-zero, mul-suc}
use Rattle.rules.specs.Lists.{if, every}
use Rattle.ranges.specs.RangeParts.{every_from}
use Rattle.rules.proofs.lists.Tests.{if_eta, if_same}
pub use Rattle.rules.proofs.lists.EveryBelow.{every_next, every_all}

-- of two tests, either may come first
pub swap : (a b : Bool) → if a b false ≡ if b a false
swap true b = sym (if_eta b)
swap false true = refl
swap false false = refl

swap_under : (a b c : Bool) → if a (if b c false) false ≡ if b (if a c false) false
swap_under true b c = refl
swap_under false true c = refl
swap_under false false c = refl

-- tests that agree below n
pub every_same : (n : ℕ) (f g : ℕ → Bool) → ((i : ℕ) → i < n → f i ≡ g i) → every n f ≡ every n g
unfolding every
every_same zero f g e = refl
every_same (suc n) f g e = rw (e n (omega arith), every_same n f g (λ i h. e i (omega arith)))

-- two tests of each number, and a test of each pair, may be asked in either order
swap_inner : (a b c d : Bool) → if (if a b false) (if c d false) false ≡ if (if a c false) (if b d false) false
swap_inner true true c d = refl
swap_inner true false c d = sym (if_same c false)
swap_inner false b c d = refl

pub every_both : (n : ℕ) (f g : ℕ → Bool) → every n (λ i. if (f i) (g i) false) ≡ if (every n f) (every n g) false
unfolding every
every_both zero f g = refl
every_both (suc n) f g =
    ap (λ x. if (if (f n) (g n) false) x false) (every_both n f g) ∙ swap_inner (f n) (g n) (every n f) (every n g)

every_holds : (n : ℕ) → every n (λ i. true) ≡ true
unfolding every
every_holds zero = refl
every_holds (suc n) = every_holds n

pub exchange : (m n : ℕ) (g : ℕ → ℕ → Bool) → every m (λ p. every n (λ i. g i p)) ≡ every n (λ i. every m (λ p. g i p))
unfolding every
exchange m zero g = every_holds m
exchange m (suc n) g =
    every_both m (λ p. g n p) (λ p. every n (λ i. g i p)) ∙ ap (λ x. if (every m (λ p. g n p)) x false) (exchange m n g)

module _ (f : ℕ → Bool) where
  -- all numbers below a + b
  split : (a b : ℕ) → every (a + b) f ≡ if (every a f) (every b (λ i. f (a + i))) false
  unfolding every
  split a zero = let none : a + 0 ≡ a = omega arith in rw none (sym (if_eta (every a f)))
  split a (suc b) =
      let one : a + suc b ≡ suc (a + b) = omega arith in
      rw one (ap (λ x. if (f (a + b)) x false) (split a b) ∙ swap_under (f (a + b)) (every a f) _)

  -- rows of k numbers
  pub every_rows : (k n : ℕ) → every (k * n) f ≡ every n (λ l. every k (λ p. f (k * l + p)))
  unfolding every
  every_rows k zero = rw (mul-zero k)
  every_rows k (suc n) =
      ap (λ m. every m f) (mul-suc k n) ∙ split (k * n) k ∙ ap (λ x. if x (every k (λ p. f (k * n + p))) false) (every_rows k n) ∙
      swap (every n (λ l. every k (λ p. f (k * l + p)))) (every k (λ p. f (k * n + p)))

  -- from 0, which is all
  pub from_none : (n : ℕ) → every_from 0 n f ≡ every n f
  unfolding every_from
  from_none n =
      let n-is : n - 0 ≡ n = omega arith in
      rw n-is (every_same n (λ i. f (0 + i)) f (λ i h. let i-is : 0 + i ≡ i = omega arith in ap f i-is))

  -- in two parts, each by a test of its own
  pub every_parts : (n a : ℕ) (g h : ℕ → Bool) → a ≤ n → ((i : ℕ) → i < a → f i ≡ g i) → ((i : ℕ) → a ≤ i → f i ≡ h i) →
      every n f ≡ if (every a g) (every_from a n h) false
  unfolding every_from
  every_parts n a g h le first later =
      let parts : n ≡ a + (n - a) = omega arith in
      ap (λ m. every m f) parts ∙ split a (n - a) ∙
      rw (every_same a f g first, every_same (n - a) (λ i. f (a + i)) (λ i. h (a + i)) (λ i k. later (a + i) (omega arith)))
