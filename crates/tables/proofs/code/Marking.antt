-- The loop of `mark_ready`: what holds at every turn, that a turn keeps it, and what it gives at the end.
use mathlib.Core.Path.{◌≡◌, ◌∙◌}
use mathlib.Core.List.{List}
use Prim.Native.Nat.{ℕ, ◌+◌, ◌<◌, ◌≤◌}
use native.Mathlib.Omega.{arith}
use lib.ListN.{length, get_or, set, drop, length-set}
use lib.Seq.{slice, drop-set-lt}
use Rattle.rules.specs.Lists.{Below}
use Rattle.tables.specs.State.{marks}
use Rattle.tables.proofs.memory.Cells.{cell_from, cells_next, cells_end, marks_store, marks_none}

-- the tokens in some cells are marked: these cells are as at first, and their tokens are below 4,096
pub record Marking (m₀ : List ℕ) (from to : ℕ) (m : List ℕ) (cell : ℕ) : Type 0 where
  pub long : length m ≡ length m₀
  pub high : 20480 ≤ cell
  pub upto : cell ≤ to
  pub same : drop 20480 m ≡ drop 20480 m₀
  pub below : Below 4096 (slice cell to m₀)
  pub left : marks m₀ 2 (slice from to m₀) ≡ marks m 2 (slice cell to m₀)

module _ {m₀ : List ℕ} {from to : ℕ} {m : List ℕ} {cell : ℕ} (inv : Marking m₀ from to m cell) where
  pub mark_end : to ≤ cell → m ≡ marks m₀ 2 (slice from to m₀)
  mark_end h = marks_none m 2 inv.left (cells_end m₀ cell to inv.upto h)

  module _ (more : cell < to) (inside : to ≤ length m₀) where
    marking_token : get_or m cell 0 ≡ get_or m₀ cell 0
    marking_token = cell_from m₀ m 20480 cell inv.same inv.high

    marking_below : (get_or m₀ cell 0 < 4096) × Below 4096 (slice (cell + 1) to m₀)
    marking_below = rw (cells_next m₀ cell to more inside) at inv.below

    pub mark_below : get_or m cell 0 < 4096
    mark_below = rw marking_token marking_below.0

    pub mark_next : {u : ℕ} → u ≡ get_or m cell 0 → Marking m₀ from to (set m (16384 + u) 2) (cell + 1)
    mark_next {u} u-is =
        let low : u < 4096 = rw u-is mark_below in
        record {
          long = simp length-set inv.long;
          high = omega arith;
          upto = omega arith;
          same = drop-set-lt 20480 m (16384 + u) 2 (omega arith) ∙ inv.same;
          below = marking_below.1;
          left = marks_store m 2 inv.left (cells_next m₀ cell to more inside) (u-is ∙ marking_token);
        }
