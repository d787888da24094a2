-- The loop of `close_part`: what holds at every turn, that a turn keeps it, and what it gives at the end.
use mathlib.Core.Path.{◌≡◌, refl, sym, ap, ◌∙◌}
use mathlib.Core.Bool.{true, false}
use mathlib.Core.List.{List, ◌++◌}
use Prim.Native.Nat.{ℕ, suc, ◌+◌, ◌-◌, ◌<◌, ◌≤◌}
use native.Mathlib.Omega.{arith}
use lib.ListN.{length, drop}
use lib.Seq.{sets, slice, length-slice, length-sets}
use Rattle.tables.specs.Releasing.{sifted_from, Unwatched}
use Rattle.tables.proofs.memory.Cells.{drop_more, drop_sets, cell_from, sets_slice}
use Rattle.tables.proofs.memory.MemoryLaws.{slice_same}
use Rattle.tables.proofs.code.MovingLaws.{sets_append}
use Rattle.tables.proofs.code.ScanLaws.{Next, next_same}
use Rattle.tables.proofs.code.SiftLaws.{watcher_found, watcher_left_out, next_inside, first_skip, first_stay, all_stay}

-- a part is closed up by the watches, with n cells left that watch the number: the cells not yet read are as at first, and what is
-- left to store gives the whole
pub record Closing (m₀ : List ℕ) (base d held : ℕ) (m : List ℕ) (at cell n : ℕ) : Type 0 where
  pub whole : 32768 ≤ length m₀
  pub most : held ≤ 4096
  pub low : base ≤ 24576
  pub long : length m ≡ length m₀
  pub upto : cell ≤ held
  pub below : at ≤ base + cell
  pub ahead : drop (base + cell) m ≡ drop (base + cell) m₀
  pub count : n ≡ length (sifted_from true m₀ base d cell held)
  pub left : sets m₀ base (sifted_from false m₀ base d 0 held) ≡ sets m at (sifted_from false m₀ base d cell held)

pub close_start : (m : List ℕ) (base d held first n : ℕ) → 32768 ≤ length m → held ≤ 4096 → base ≤ 24576 → first ≤ held → Unwatched m d first
    → n ≡ length (sifted_from true m base d 0 held) → Closing m base d held m (base + first) first n
close_start m base d held first n whole most low h none count =
    let front : List ℕ = slice base (base + first) m in
    let rest : List ℕ = sifted_from false m base d first held in
    let size : length front ≡ first = length-slice base (base + first) m (omega arith) ∙ omega arith in
    record {
      whole = whole;
      most = most;
      low = low;
      long = refl;
      upto = h;
      below = omega arith;
      ahead = refl;
      count = count ∙ ap length (first_skip m base d held (omega arith) (omega arith) h none);
      left = ap (sets m base) (first_stay m base d held (omega arith) (omega arith) h none)
          ∙ sets_append front rest m base
          ∙ rw (size, sets_slice m base first (omega arith));
    }

module _ {m₀ : List ℕ} {base d held : ℕ} {m : List ℕ} {at cell n : ℕ} (inv : Closing m₀ base d held m at cell n) where
  pub close_whole : 32768 ≤ length m
  close_whole = omega (arith, inv.long, inv.whole)

  room : base + held ≤ length m₀
  room = omega (arith, inv.low, inv.most, inv.whole)

  room' : 24576 + held ≤ length m₀
  room' = omega (arith, inv.most, inv.whole)

  -- cells up to one, moved down
  module _ (r : ℕ) (from : cell ≤ r) (upto : r ≤ held) where
    -- what is asked of a move down
    pub close_within : (at ≤ base + cell) × ((base + cell ≤ base + r) × ((base + r ≤ 32768) × (32768 ≤ length m)))
    close_within = omega (arith, inv.below, inv.low, inv.most, inv.long, inv.whole)

    part_same : slice (base + cell) (base + r) m ≡ slice (base + cell) (base + r) m₀
    part_same = slice_same m₀ m (base + cell) (base + cell) (base + r) inv.ahead (omega arith) (omega arith) (omega (arith, room)) inv.long

    part_length : length (slice (base + cell) (base + r) m) ≡ r - cell
    part_length = length-slice (base + cell) (base + r) m (omega (arith, room, inv.long)) ∙ omega arith

  -- where none is left all others are moved down
  pub close_end : {m' : List ℕ} → n ≤ 0 → m' ≡ sets m at (slice (base + cell) (base + held) m) → m' ≡ sets m₀ base (sifted_from false m₀ base d 0 held)
  close_end none stored =
      stored
      ∙ ap (sets m at) (part_same held inv.upto (omega arith) ∙ sym (all_stay m₀ base d held room room' inv.upto (omega (arith, inv.count))))
      ∙ sym inv.left

  -- before that there is another cell that watches the number: those before it are moved down, and it is left out
  module _ (some : 0 < n) {r : ℕ} (next : Next m d cell held r) where
    next₀ : Next m₀ d cell held r
    next₀ = next_same (λ i l h. cell_from m₀ m (base + cell) (24576 + i) inv.ahead (omega (arith, inv.low))) next

    pub close_inside : r < held
    close_inside = next_inside m₀ base d held room room' next₀ (omega (arith, inv.count))

    split : sifted_from false m₀ base d cell held ≡ slice (base + cell) (base + r) m₀ ++ sifted_from false m₀ base d (r + 1) held
    split = watcher_left_out m₀ base d held room room' next₀ close_inside

    fewer : length (sifted_from true m₀ base d cell held) ≡ suc (length (sifted_from true m₀ base d (r + 1) held))
    fewer = ap length (watcher_found m₀ base d held room room' next₀ close_inside)

    pub close_one : {m' : List ℕ} → m' ≡ sets m at (slice (base + cell) (base + r) m) → Closing m₀ base d held m' (at + (r - cell)) (r + 1) (n - 1)
    close_one stored =
        let part : List ℕ = slice (base + cell) (base + r) m in
        let size : length part ≡ r - cell = part_length r next.from next.upto in
        let ends : at + length part ≡ at + (r - cell) = omega arith in
        record {
          whole = inv.whole;
          most = inv.most;
          low = inv.low;
          long = rw (stored, length-sets m at part) inv.long;
          upto = omega (arith, close_inside);
          below = omega (arith, inv.below, next.from);
          ahead = rw (stored, drop_sets part m at (base + (r + 1)) (omega (arith, inv.below, next.from)))
              (drop_more m₀ m (base + cell) (base + (r + 1)) inv.ahead (omega (arith, next.from)));
          count = omega (arith, inv.count, fewer);
          left = inv.left
              ∙ ap (sets m at) (split ∙ ap (λ (l : List ℕ). l ++ sifted_from false m₀ base d (r + 1) held) (sym (part_same r next.from next.upto)))
              ∙ sets_append part (sifted_from false m₀ base d (r + 1) held) m at
              ∙ rw (ends, ← stored);
        }
