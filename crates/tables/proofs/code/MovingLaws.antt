-- Numbers moved to lower cells: what holds at every turn, that a turn keeps it, and what it gives at the end.
use mathlib.Core.Path.{◌≡◌, sym, ap, ◌∙◌}
use mathlib.Core.List.{List, [], ◌∷◌, ◌++◌}
use Prim.Native.Nat.{ℕ, suc, ◌+◌, ◌-◌, ◌≤◌}
use native.Mathlib.Omega.{arith}
use lib.ListN.{length, set, take, drop}
use lib.Seq.{sets, slice, length-sets, length-slice, length-take-le, take-add, drop-append-le}
use Rattle.tables.proofs.memory.Cells.{drop_more, drop_sets, slice_from, sets_slice}
use Rattle.tables.proofs.memory.MemoryLaws.{slice_same}

-- a list stored in two parts
pub sets_append : (xs ys m : List ℕ) (i : ℕ) → sets m i (xs ++ ys) ≡ sets (sets m i xs) (i + length xs) ys
sets_append [] ys m i = let e : i + 0 ≡ i = omega arith in rw e
sets_append (x ∷ xs) ys m i =
    let e : suc i + length xs ≡ i + suc (length xs) = omega arith in
    rw e at (sets_append xs ys (set m i x) (suc i))

-- cells in two parts
pub slice_parts : (m : List ℕ) (a b c : ℕ) → a ≤ b → b ≤ c → c ≤ length m → slice a c m ≡ slice a b m ++ slice b c m
slice_parts m a b c h l long =
    let c-is : b + (c - b) ≡ c = omega arith in
    let short : length (take b m) ≡ b = length-take-le b m (omega arith) in
    ap (λ k. slice a k m) (sym c-is) ∙ ap (λ (r : List ℕ). drop a r) (take-add b (c - b) m)
    ∙ drop-append-le a (take b m) (take (c - b) (drop b m)) (omega arith)
    ∙ ap (λ (r : List ℕ). slice a b m ++ r) (sym (slice_from m b (c - b) (omega arith)) ∙ ap (λ k. slice b k m) c-is)

-- numbers moved down: the cells not yet moved are as at first, and what is left to store gives the whole
pub record Moving (m₀ : List ℕ) (from last to : ℕ) (m : List ℕ) (cell at : ℕ) : Type 0 where
  pub whole : last ≤ length m₀
  pub long : length m ≡ length m₀
  pub upto : cell ≤ last
  pub below : at ≤ cell
  pub ahead : drop cell m ≡ drop cell m₀
  pub left : sets m₀ to (slice from last m₀) ≡ sets m at (slice cell last m₀)

-- numbers that are there already
pub moving_none : (m : List ℕ) (from last to : ℕ) → from ≤ to → to ≤ from → from ≤ last → last ≤ length m → m ≡ sets m to (slice from last m)
moving_none m from last to a b l long =
    let to_is : to ≡ from = omega arith in
    let last-is : from + (last - from) ≡ last = omega arith in
    sym (rw to_is (ap (λ k. sets m from (slice from k m)) (sym last-is) ∙ sets_slice m from (last - from) (omega arith)))

module _ {m₀ : List ℕ} {from last to : ℕ} {m : List ℕ} {cell at : ℕ} (inv : Moving m₀ from last to m cell at) where
  -- cells ahead are those of before
  same_ahead : (last' : ℕ) → cell ≤ last' → last' ≤ last → slice cell last' m ≡ slice cell last' m₀
  same_ahead last' l h = slice_same m₀ m cell cell last' inv.ahead (omega arith) l (omega (arith, inv.whole)) inv.long

  pub moving_some : {m' : List ℕ} (k : ℕ) → cell + k ≤ last → m' ≡ sets m at (slice cell (cell + k) m) → Moving m₀ from last to m' (cell + k) (at + k)
  moving_some {m'} k h stored =
      let part : List ℕ = slice cell (cell + k) m in
      let size : length part ≡ cell + k - cell = length-slice cell (cell + k) m (omega (arith, inv.whole, inv.long)) in
      let ends : at + length part ≡ at + k = omega arith in
      record {
        whole = inv.whole;
        long = rw (stored, length-sets m at part) inv.long;
        upto = h;
        below = omega (arith, inv.below);
        ahead = rw (stored, drop_sets part m at (cell + k) (omega (arith, inv.below))) (drop_more m₀ m cell (cell + k) inv.ahead (omega arith));
        left = inv.left
            ∙ ap (sets m at) (slice_parts m₀ cell (cell + k) last (omega arith) h inv.whole
            ∙ ap (λ (l : List ℕ). l ++ slice (cell + k) last m₀) (sym (same_ahead (cell + k) (omega arith) h)))
            ∙ sets_append part (slice (cell + k) last m₀) m at
            ∙ rw (ends, ← stored);
      }

  pub moving_rest : {m' : List ℕ} → m' ≡ sets m at (slice cell last m) → m' ≡ sets m₀ to (slice from last m₀)
  moving_rest stored = stored ∙ ap (sets m at) (same_ahead last inv.upto (omega arith)) ∙ sym inv.left
