-- Where a number stands in a list.
use mathlib.Core.Path.{◌≡◌, sym}
use mathlib.Core.Bool.{true, true≢false}
use mathlib.Core.List.{List, [], ◌∷◌}
use Prim.Native.Nat.{ℕ, zero, suc, ◌≤◌, ◌<◌}
use native.Mathlib.Omega.{arith}
use lib.Dec.{eqb}
use lib.ListN.{length, get_or}
use borrow.Author.Tests.{eqb-true}
use Rattle.rules.specs.Lists.{has, times}
use Rattle.rules.proofs.lists.Tests.{by_test}
use Rattle.rules.proofs.lists.Counting.{same_number}

-- a number of a list has a place in it
pub place_of : (l : List ℕ) (n : ℕ) → has l n ≡ true → (j : ℕ) × (j < length l) × (get_or l j 0 ≡ n)
unfolding has
place_of [] n h = absurd (true≢false (sym h))
place_of (m ∷ l) n h = by_test (eqb m n)
    (λ e. (0, omega arith, eqb-true m n e))
    (λ e. let (j, small, at) = place_of l n (rw e at h) in (suc j, omega arith, at))

-- what stands at a place comes in the list
pub at_place : (l : List ℕ) (k : ℕ) → k < length l → 1 ≤ times (get_or l k 0) l
unfolding times
at_place [] k h = absurd (omega arith)
at_place (m ∷ l) zero h = omega (arith, same_number m m)
at_place (m ∷ l) (suc k) h = omega (arith, at_place l k (omega arith))

-- a number at two places comes twice
pub at_two_places : (l : List ℕ) (j k : ℕ) → j < k → k < length l → get_or l j 0 ≡ get_or l k 0 → 2 ≤ times (get_or l k 0) l
unfolding times
at_two_places [] j k h small e = absurd (omega arith)
at_two_places (m ∷ l) j zero h small e = absurd (omega arith)
at_two_places (m ∷ l) zero (suc k) h small e = omega (arith, same_number m (get_or l k 0), at_place l k (omega arith))
at_two_places (m ∷ l) (suc j) (suc k) h small e = omega (arith, at_two_places l j k (omega arith) (omega arith) e)
