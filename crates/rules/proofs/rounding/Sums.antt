-- Published sums: how far they are from the true ones, and that what cells publish one after the other adds up to them.
use mathlib.Core.Path.{◌≡◌, refl, sym}
use mathlib.Core.Bool.{true}
use mathlib.Core.List.{List, [], ◌∷◌}
use Prim.Native.Nat.{ℕ, zero, suc, ◌+◌, ◌-◌, ◌/◌, ◌≤◌, ◌<◌}
use native.Mathlib.Omega.{arith}
use lib.ListN.{length, get_or, take}
use Rattle.rules.specs.Lists.{Every}
use Rattle.rules.specs.Rounding.{published, rise, is_base}
use Rattle.rules.specs.RoundedRuns.{sum_of, Near, PassedCell, cells_in, figures_in}
use Rattle.rules.proofs.lists.Tests.{same, other, same_as, never}

-- a base is 3 or 5
pub data IsBase : ℕ → Type 0 where
  three : IsBase 3
  five : IsBase 5

pub is_base_lem : (b : ℕ) → is_base b ≡ true → IsBase b
unfolding is_base
is_base_lem b e = elim (same_as b 3) [
  | same q t ↦ rw q three
  | other n t ↦ elim (same_as b 5) [ same q u ↦ rw q five | other m u ↦ absurd (never (sym (rw (t, u) at e))) ]
]

-- "published and true sums differ by at most (b − 1)/2"
pub published_near : {b : ℕ} → IsBase b → (sum : ℕ) → Near ((b - 1) / 2) (published b sum) sum
unfolding published
published_near three sum = record { low = omega arith; high = omega arith }
published_near five sum = record { low = omega arith; high = omega arith }

-- a larger sum publishes no less
pub published_rises : {b : ℕ} → IsBase b → (sum cell : ℕ) → published b sum ≤ published b (sum + cell)
unfolding published
published_rises three sum cell = omega arith
published_rises five sum cell = omega arith

-- nothing publishes nothing
pub published_none : {b : ℕ} → IsBase b → published b 0 ≡ 0
unfolding published
published_none three = refl
published_none five = refl

-- "and each passed cell by at most b − 1"
pub rise_near : {b : ℕ} → IsBase b → (sum cell : ℕ) → Near (b - 1) (rise b sum cell) cell
unfolding published rise
rise_near three sum cell = record { low = omega arith; high = omega arith }
rise_near five sum cell = record { low = omega arith; high = omega arith }

-- the sum before and what the cell publishes are the sum after
pub rise_adds : {b : ℕ} → IsBase b → (sum cell : ℕ) → published b sum + rise b sum cell ≡ published b (sum + cell)
unfolding rise
rise_adds h sum cell = omega (arith, published_rises h sum cell)

-- each of some cells publishes the rise, from this sum on
abbrev pub Carried : ℕ → ℕ → List PassedCell → Type 0
Carried b sum [] = Unit {0}
Carried b sum (p ∷ l) = (p.figure ≡ rise b sum p.cell) × Carried b (sum + p.cell) l

module _ {b : ℕ} (h : IsBase b) where
  -- what the first k of them publish adds up
  pub carried_adds : (k sum : ℕ) (l : List PassedCell) → Carried b sum l →
      published b sum + sum_of (take k (figures_in l)) ≡ published b (sum + sum_of (take k (cells_in l)))
  unfolding sum_of
  carried_adds zero sum l c = let q : sum + 0 ≡ sum = omega arith in rw q (omega arith)
  carried_adds (suc k) sum [] c = let q : sum + 0 ≡ sum = omega arith in rw q (omega arith)
  carried_adds (suc k) sum (p ∷ l) c =
      let q : sum + (p.cell + sum_of (take k (cells_in l))) ≡ sum + p.cell + sum_of (take k (cells_in l)) = omega arith in
      rw q (omega (arith, c.0, rise_adds h sum p.cell, carried_adds k (sum + p.cell) l c.1))

  -- each is near its figure
  pub carried_near : (sum : ℕ) (l : List PassedCell) → Carried b sum l → Every (λ p. Near (b - 1) p.figure p.cell) l
  carried_near sum [] c = tt
  carried_near sum (p ∷ l) c = (rw c.0 (rise_near h sum p.cell), carried_near (sum + p.cell) l c.1)

-- the figure of the k-th
pub carried_figure : (b k sum : ℕ) (l : List PassedCell) → Carried b sum l → k < length l →
    get_or (figures_in l) k 0 ≡ rise b (sum + sum_of (take k (cells_in l))) (get_or (cells_in l) k 0)
unfolding sum_of
carried_figure b k sum [] c i = absurd (omega arith)
carried_figure b zero sum (p ∷ l) c i = let q : sum + 0 ≡ sum = omega arith in rw q c.0
carried_figure b (suc k) sum (p ∷ l) c i =
    let q : sum + (p.cell + sum_of (take k (cells_in l))) ≡ sum + p.cell + sum_of (take k (cells_in l)) = omega arith in
    rw q (carried_figure b k (sum + p.cell) l c.1 (omega arith))
