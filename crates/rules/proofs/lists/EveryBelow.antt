-- A test of each number below a bound, one number at a time.
use mathlib.Core.Path.{◌≡◌, refl, sym, subst}
use mathlib.Core.Bool.{Bool, true, false}
use Prim.Native.Nat.{ℕ, zero, suc, ◌+◌, ◌<◌, ◌≤◌}
use native.Mathlib.Omega.{arith}
use native.Mathlib.Numerals.{add-one}
use native.Mathlib.Decide.{ℕ_discrete}
use mathlib.Core.Logic.{by_cases}
use Rattle.rules.specs.Lists.{if, every}
use Rattle.rules.proofs.lists.Tests.{by_test}

module _ (f : ℕ → Bool) where
  pub every_none : every 0 f ≡ true
  unfolding every
  every_none = refl

  pub every_more : (i : ℕ) → every i f ≡ true → f i ≡ true → every (i + 1) f ≡ true
  unfolding every
  every_more i h e = rw (add-one, e) h

  -- all have passed, or one has not
  pub every_done : (n i : ℕ) → i ≤ n → n ≤ i → every i f ≡ true → true ≡ every n f
  every_done n i a b h = let i-is : i ≡ n = omega arith in sym (subst (λ j. every j f ≡ true) i-is h)

  pub every_fails : (n i : ℕ) → i < n → f i ≡ false → false ≡ every n f
  unfolding every
  every_fails zero i h e = absurd (omega arith)
  every_fails (suc n) i h e =
      by_cases (ℕ_discrete i n)
      (λ i-is. rw (subst (λ j. f j ≡ false) i-is e))
      (λ less. by_test (f n) (λ t. rw t (every_fails n i (omega arith) e)) (λ t. rw t))

  -- without a way out on the way: the answer so far, after one number more, and after all
  pub every_next : (i : ℕ) {ok now : Bool} → ok ≡ every i f → now ≡ f i → if now ok false ≡ every (i + 1) f
  unfolding every
  every_next i h e = rw (add-one, h, e)

  pub every_all : (n i : ℕ) {ok : Bool} → i ≤ n → n ≤ i → ok ≡ every i f → ok ≡ every n f
  every_all n i {ok} a b h = let i-is : i ≡ n = omega arith in subst (λ j. ok ≡ every j f) i-is h
