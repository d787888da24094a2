-- The cells of a part in step with the watches, of those from one on, whose watches are a number, or are not.
use mathlib.Core.Path.{◌≡◌, refl, sym, ap, ◌∙◌}
use mathlib.Core.Logic.{by_cases}
use mathlib.Core.Bool.{Bool, true, false, not}
use mathlib.Core.List.{List, [], ◌∷◌, ◌++◌}
use Prim.Native.Nat.{ℕ, zero, suc, ◌+◌, ◌-◌, ◌<◌, ◌≤◌}
use native.Mathlib.Omega.{arith}
use native.Mathlib.Decide.{dec_lt}
use native.Mathlib.Nat.{add-zero}
use borrow.Author.Tests.{eq-eqb, ne_eqb}
use lib.Dec.{eqb}
use lib.ListN.{length, get_or}
use lib.Seq.{slice, slice_empty, length-slice}
use Rattle.tables.specs.Releasing.{pick, watches, sifted_from, Unwatched}
use Rattle.tables.proofs.memory.Cells.{row_next, row_end}
use Rattle.tables.proofs.memory.PickLaws.{pick_all, pick_none}
use Rattle.tables.proofs.code.ScanLaws.{Next}

-- the next cell's number is one of those asked for, or is not
module _ (watching : Bool) (m : List ℕ) (base d cell held : ℕ) where
  module _ (h : cell < held) (l : base + held ≤ length m) (l' : 24576 + held ≤ length m) {r : Bool} (r-is : r ≡ watches watching d (get_or m (24576 + cell) 0)) where
    sifted_yes : r ≡ true → sifted_from watching m base d cell held ≡ get_or m (base + cell) 0 ∷ sifted_from watching m base d (cell + 1) held
    unfolding pick
    sifted_yes e = rw (row_next m base cell held h l, row_next m 24576 cell held h l', ← r-is, e)

    sifted_no : r ≡ false → sifted_from watching m base d cell held ≡ sifted_from watching m base d (cell + 1) held
    unfolding pick
    sifted_no e = rw (row_next m base cell held h l, row_next m 24576 cell held h l', ← r-is, e)

  pub sifted_end : cell ≤ held → held ≤ cell → sifted_from watching m base d cell held ≡ []
  unfolding pick
  sifted_end l h = rw (row_end m base cell held l h)

module _ (m : List ℕ) (base d held : ℕ) (long : base + held ≤ length m) (long' : 24576 + held ≤ length m) where
  -- a cell that watches the number
  module _ {cell : ℕ} (h : cell < held) (hit : get_or m (24576 + cell) 0 ≡ d) where
    pub watcher_next : sifted_from true m base d cell held ≡ get_or m (base + cell) 0 ∷ sifted_from true m base d (cell + 1) held
    watcher_next = sifted_yes true m base d cell held h long long' refl (eq-eqb (get_or m (24576 + cell) 0) d hit)

    watcher_out : sifted_from false m base d cell held ≡ sifted_from false m base d (cell + 1) held
    watcher_out = sifted_no false m base d cell held h long long' refl (ap not (eq-eqb (get_or m (24576 + cell) 0) d hit))

  -- cells that do not: they are passed, and of the others they are the first
  skip : (k cell : ℕ) → cell + k ≤ held → ((i : ℕ) → cell ≤ i → i < cell + k → get_or m (24576 + i) 0 ≡ d → ⊥)
      → sifted_from true m base d cell held ≡ sifted_from true m base d (cell + k) held
  skip zero cell h none = ap (λ c. sifted_from true m base d c held) (sym (add-zero cell))
  skip (suc k) cell h none =
      let moved : cell + 1 + k ≡ cell + suc k = omega arith in
      sifted_no true m base d cell held (omega arith) long long' refl
      (ne_eqb (get_or m (24576 + cell) 0) d (none cell (omega arith) (omega arith)))
      ∙ (rw moved at (skip k (cell + 1) (omega arith) (λ i a b. none i (omega arith) (omega arith))))

  stay : (k cell : ℕ) → cell + k ≤ held → ((i : ℕ) → cell ≤ i → i < cell + k → get_or m (24576 + i) 0 ≡ d → ⊥)
      → sifted_from false m base d cell held ≡ slice (base + cell) (base + (cell + k)) m ++ sifted_from false m base d (cell + k) held
  stay zero cell h none = rw (add-zero cell, slice_empty (base + cell) m)
  stay (suc k) cell h none =
      let moved : cell + 1 + k ≡ cell + suc k = omega arith in
      let other : eqb (get_or m (24576 + cell) 0) d ≡ false = ne_eqb (get_or m (24576 + cell) 0) d (none cell (omega arith) (omega arith)) in
      sifted_yes false m base d cell held (omega arith) long long' refl (ap not other)
      ∙ ap (λ (l : List ℕ). get_or m (base + cell) 0 ∷ l)
      (rw moved at (stay k (cell + 1) (omega arith) (λ i a b. none i (omega arith) (omega arith))))
      ∙ ap (λ (l : List ℕ). l ++ sifted_from false m base d (cell + suc k) held) (sym (row_next m base cell (cell + suc k) (omega arith) (omega arith)))

  -- up to the next cell that watches the number
  module _ {cell r : ℕ} (n : Next m d cell held r) where
    pub watchers_skip : sifted_from true m base d cell held ≡ sifted_from true m base d r held
    watchers_skip =
        let r-is : cell + (r - cell) ≡ r = omega (arith, n.from) in
        rw r-is at (skip (r - cell) cell (omega (arith, n.upto)) (λ i a b. n.none i a (omega arith)))

    others_stay : sifted_from false m base d cell held ≡ slice (base + cell) (base + r) m ++ sifted_from false m base d r held
    others_stay =
        let r-is : cell + (r - cell) ≡ r = omega (arith, n.from) in
        rw r-is at (stay (r - cell) cell (omega (arith, n.upto)) (λ i a b. n.none i a (omega arith)))

    -- it is there as long as one is left
    pub next_inside : 0 < length (sifted_from true m base d cell held) → r < held
    next_inside some = by_cases (dec_lt r held)
        (λ inside. inside)
        (λ outside. let none : sifted_from true m base d r held ≡ [] = sifted_end true m base d r held n.upto (omega arith) in
        absurd (omega (arith, ap length watchers_skip, ap length none)))

    -- and then it comes first
    module _ (inside : r < held) where
      pub watcher_found : sifted_from true m base d cell held ≡ get_or m (base + r) 0 ∷ sifted_from true m base d (r + 1) held
      watcher_found = watchers_skip ∙ watcher_next inside (n.hit inside)

      pub watcher_left_out : sifted_from false m base d cell held ≡ slice (base + cell) (base + r) m ++ sifted_from false m base d (r + 1) held
      watcher_left_out = others_stay ∙ ap (λ (l : List ℕ). slice (base + cell) (base + r) m ++ l) (watcher_out inside (n.hit inside))

  -- up to the first
  module _ {first : ℕ} (h : first ≤ held) (none : Unwatched m d first) where
    pub first_skip : sifted_from true m base d 0 held ≡ sifted_from true m base d first held
    first_skip =
        let first_is : 0 + first ≡ first = omega arith in
        rw first_is at (skip first 0 (omega arith) (λ i a b. none i (omega arith)))

    pub first_stay : sifted_from false m base d 0 held ≡ slice base (base + first) m ++ sifted_from false m base d first held
    first_stay =
        let first_is : 0 + first ≡ first = omega arith in
        (rw first_is at (stay first 0 (omega arith) (λ i a b. none i (omega arith))))
        ∙ ap (λ from. slice from (base + first) m ++ sifted_from false m base d first held) (add-zero base)

  -- all in all
  module _ {cell : ℕ} (h : cell ≤ held) where
    in_step : length (slice (24576 + cell) (24576 + held) m) ≡ length (slice (base + cell) (base + held) m)
    in_step = omega (arith, length-slice (24576 + cell) (24576 + held) m long', length-slice (base + cell) (base + held) m long)

    pub stay_count : length (sifted_from true m base d cell held) + length (sifted_from false m base d cell held) ≡ held - cell
    stay_count =
        pick_all (λ w. eqb w d) (slice (base + cell) (base + held) m) (slice (24576 + cell) (24576 + held) m) in_step
        ∙ length-slice (base + cell) (base + held) m long ∙ omega arith

    pub all_stay : length (sifted_from true m base d cell held) ≡ 0 → sifted_from false m base d cell held ≡ slice (base + cell) (base + held) m
    all_stay e = (pick_none (λ w. eqb w d) (slice (base + cell) (base + held) m) (slice (24576 + cell) (24576 + held) m) in_step e).1
