-- The loop of `queue_woken`: what holds at every turn, that a turn keeps it, and what it gives at the end.
use mathlib.Core.Path.{◌≡◌, refl, ap, ◌∙◌}
use mathlib.Core.Bool.{true}
use mathlib.Core.List.{List, [], ◌∷◌}
use Prim.Native.Nat.{ℕ, ◌+◌, ◌<◌, ◌≤◌}
use native.Mathlib.Omega.{arith}
use lib.ListN.{length, get_or, set, take, length-set}
use lib.Seq.{sets, take-set-le}
use Rattle.tables.specs.Releasing.{sifted_from, Unwatched}
use Rattle.tables.proofs.memory.Cells.{cell_below, sets_store, sets_none}
use Rattle.tables.proofs.code.ScanLaws.{Next, next_same}
use Rattle.tables.proofs.code.SiftLaws.{first_skip, watcher_found, next_inside}

-- the tokens that watch a number are stored behind the ready queue, up to `to`: the tables and the watches are as at first
pub record Queueing (m₀ : List ℕ) (d held from to : ℕ) (m : List ℕ) (cell at : ℕ) : Type 0 where
  pub whole : 32768 ≤ length m₀
  pub most : held ≤ 4096
  pub room : to ≤ 32768
  pub long : length m ≡ length m₀
  pub upto : cell ≤ held
  pub high : 28672 ≤ at
  pub ends : to ≡ at + length (sifted_from true m₀ 20480 d cell held)
  pub same : take 28672 m ≡ take 28672 m₀
  pub left : sets m₀ from (sifted_from true m₀ 20480 d 0 held) ≡ sets m at (sifted_from true m₀ 20480 d cell held)

pub queue_start : (m : List ℕ) (d held from to first : ℕ) → 32768 ≤ length m → held ≤ 4096 → first ≤ held → Unwatched m d first → 28672 ≤ from → to ≤ 32768
    → to ≡ from + length (sifted_from true m 20480 d 0 held) → Queueing m d held from to m first from
queue_start m d held from to first whole most h none high room ends =
    let skipped = first_skip m 20480 d held (omega arith) (omega arith) h none in
    record { whole = whole; most = most; room = room; long = refl; upto = h; high = high; ends = rw skipped at ends; same = refl; left = ap (sets m from) skipped }

module _ {m₀ : List ℕ} {d held from to : ℕ} {m : List ℕ} {cell at : ℕ} (inv : Queueing m₀ d held from to m cell at) where
  pub queue_whole : 32768 ≤ length m
  queue_whole = omega (arith, inv.long, inv.whole)

  -- where all are stored none is left
  pub queue_end : to ≤ at → m ≡ sets m₀ from (sifted_from true m₀ 20480 d 0 held)
  queue_end h = sets_none m at inv.left (none_left (sifted_from true m₀ 20480 d cell held) (omega (arith, inv.ends)))
    where
      none_left : (l : List ℕ) → length l ≡ 0 → l ≡ []
      none_left [] e = refl
      none_left (x ∷ l) e = absurd (omega arith)

  watches_same : (i : ℕ) → i < held → get_or m (24576 + i) 0 ≡ get_or m₀ (24576 + i) 0
  watches_same i h = cell_below m₀ m 28672 (24576 + i) inv.same (omega (arith, inv.most))

  -- before that there is another cell that watches the number, and its token is stored
  module _ (more : at < to) {r : ℕ} (n : Next m d cell held r) where
    next₀ : Next m₀ d cell held r
    next₀ = next_same (λ i l h. watches_same i h) n

    pub queue_inside : r < held
    queue_inside = next_inside m₀ 20480 d held (omega (arith, inv.most, inv.whole)) (omega (arith, inv.most, inv.whole)) next₀ (omega (arith, inv.ends))

    next_one : sifted_from true m₀ 20480 d cell held ≡ get_or m₀ (20480 + r) 0 ∷ sifted_from true m₀ 20480 d (r + 1) held
    next_one = watcher_found m₀ 20480 d held (omega (arith, inv.most, inv.whole)) (omega (arith, inv.most, inv.whole)) next₀ queue_inside

    pub queue_one : Queueing m₀ d held from to (set m at (get_or m (20480 + r) 0)) (r + 1) (at + 1)
    queue_one =
        record {
          whole = inv.whole;
          most = inv.most;
          room = inv.room;
          long = simp length-set inv.long;
          upto = omega (arith, queue_inside);
          high = omega (arith, inv.high);
          ends = omega (arith, inv.ends, ap length next_one);
          same = take-set-le 28672 m at (get_or m (20480 + r) 0) inv.high ∙ inv.same;
          left = sets_store m at inv.left next_one (cell_below m₀ m 28672 (20480 + r) inv.same (omega (arith, inv.most, queue_inside)));
        }
