-- Among more than N numbers below N, one comes twice.
use mathlib.Core.Path.{◌≡◌, refl, ap}
use mathlib.Core.Bool.{not}
use mathlib.Core.List.{List, [], ◌∷◌}
use mathlib.Core.Logic.{by_cases}
use Prim.Native.Nat.{ℕ, zero, suc, ◌+◌, ◌≤◌, ◌<◌}
use native.Mathlib.Omega.{arith}
use native.Mathlib.Decide.{dec_le, ℕ_discrete}
use lib.Dec.{eqb}
use lib.ListN.{length}
use borrow.Author.Tests.{eq-eqb}
use Rattle.rules.specs.Lists.{keep, times}
use Rattle.rules.proofs.lists.Tests.{by_test}
use Rattle.rules.proofs.lists.Counting.{same_number, times_keep, times_dropped}

-- a list without one number
abbrev without : ℕ → List ℕ → List ℕ
without n l = keep (λ m. not (eqb m n)) l

-- it is shorter by as often as that number comes
length_without : (n : ℕ) (l : List ℕ) → length (without n l) + times n l ≡ length l
unfolding keep times
length_without n [] = refl
length_without n (m ∷ l) = by_test (eqb m n)
    (λ e. rw e (omega (arith, length_without n l)))
    (λ e. rw e (omega (arith, length_without n l)))

-- and has no number more often
times_without : (n k : ℕ) (l : List ℕ) → times k (without n l) ≤ times k l
times_without n k l = by_test (eqb k n)
    (λ e. omega (arith, times_dropped (λ m. not (eqb m n)) k l (ap not e)))
    (λ e. omega (arith, times_keep (λ m. not (eqb m n)) k l (ap not e)))

-- the pigeonhole principle: among more than N numbers below N, one comes twice
pub pigeonhole : (N : ℕ) (l : List ℕ) → ((n : ℕ) → N ≤ n → times n l ≡ 0) → N < length l → (n : ℕ) × (2 ≤ times n l)
unfolding times
pigeonhole zero [] small long = absurd (omega arith)
pigeonhole zero (m ∷ l) small long = absurd (omega (arith, small m (omega arith), same_number m m))
pigeonhole (suc N) l small long = by_cases (dec_le 2 (times N l)) (λ twice. (N, twice)) (λ once.
    let (n, twice) = pigeonhole N (without N l) smaller (omega (arith, length_without N l)) in
    (n, omega (arith, times_without N n l)))
  where
    smaller : (n : ℕ) → N ≤ n → times n (without N l) ≡ 0
    smaller n h = by_cases (ℕ_discrete n N)
        (λ e. times_dropped (λ m. not (eqb m N)) n l (ap not (eq-eqb n N e)))
        (λ other. omega (arith, times_without N n l, small n (omega arith)))
