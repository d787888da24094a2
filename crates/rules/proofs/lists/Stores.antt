-- A number of a list after one was written.
use mathlib.Core.Path.{◌≡◌, sym}
use mathlib.Core.Bool.{false}
use mathlib.Core.List.{List}
use Prim.Native.Nat.{ℕ, ◌<◌}
use borrow.Author.Tests.{eqb-true, eqb-false}
use lib.Dec.{eqb}
use lib.ListN.{get_or, set, length, get_or-eq_default}
use lib.Seq.{get_or-set_same, get_or-set_other}
use Rattle.rules.specs.Lists.{if}
use Rattle.rules.proofs.lists.Tests.{by_test, lower, upper, below}

-- what is above 0 lies within the list
within : (c : List ℕ) (i : ℕ) → eqb (get_or c i 0) 0 ≡ false → i < length c
within c i e = elim (below i (length c)) [ lower h t ↦ h | upper h t ↦ absurd (eqb-false (get_or c i 0) 0 e (get_or-eq_default c 0 h)) ]

-- a number after another one, or the same, was written
pub left_by : (c : List ℕ) (i j v : ℕ) → eqb (get_or c i 0) 0 ≡ false → get_or (set c i v) j 0 ≡ if (eqb i j) v (get_or c j 0)
left_by c i j v e = by_test (eqb i j)
    (λ b. let same : i ≡ j = eqb-true i j b in rw (b, ← same) (get_or-set_same c i v 0 (within c i e)))
    (λ b. rw b (get_or-set_other c i j v 0 (λ q. eqb-false i j b (sym q))))
