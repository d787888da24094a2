-- The counters, line by line: those of the plan's lines, and the unused ones.
use mathlib.Core.Path.{◌≡◌, sym, ◌∙◌}
use mathlib.Core.Bool.{Bool, false}
use mathlib.Core.List.{List}
use Prim.Native.Nat.{ℕ, ◌+◌, ◌*◌, ◌/◌, ◌%◌, ◌<◌, ◌≤◌, min}
use native.Mathlib.Omega.{arith}
use borrow.Author.Tests.{lt-ltb, le-ltb}
use lib.Dec.{leb}
use lib.ListN.{get_or, replicate, get_or-replicate}
use Rattle.rules.specs.Lists.{if, every, table}
use Rattle.rules.specs.RunState.{counter_at, full}
use Rattle.rules.specs.Ranges.{most_at, counter_sound}
use Rattle.rules.proofs.lists.ListTables.{get_d_table}
use Rattle.ranges.specs.RangeParts.{pipe_row, highest_row, row_within}
use Rattle.ranges.proofs.in_range.Rows.{every_same, every_rows, every_parts, from_none}
use Rattle.rules.proofs.lists.Tests.{by_test, lower, upper, below}
use Rattle.ranges.proofs.in_range.FlagLaws.{get_d_pipes}
use Rattle.ranges.proofs.in_range.Highest.{within_each}

-- the most at a pipe, by the row of pipes and the full value
pub most_is : (pipes : ℕ) (serial : List Bool) (p : ℕ) → p < 16 →
    min (get_or (pipe_row pipes) p 0) (full (get_or serial p false)) ≡ most_at pipes 1 serial 0 p
unfolding most_at
most_is pipes serial p h = elim (below p pipes) [
  | lower k t ↦ rw (get_d_pipes pipes p h, t) (by_test (get_or serial p false) (λ e. rw e) (λ e. rw e))
  | upper k t ↦ rw (get_d_pipes pipes p h, t) (by_test (get_or serial p false) (λ e. rw e) (λ e. rw e))
]

module _ (pipes lines : ℕ) (serial : List Bool) where
  -- the most of a line of the plan, and of any other
  abbrev most : List ℕ
  most = table 16 (most_at pipes 1 serial 0)

  abbrev none : List ℕ
  none = replicate 16 0

  most_used : (l p : ℕ) → l < lines → p < 16 → most_at pipes lines serial l p ≡ get_or most p 0
  unfolding most_at
  most_used l p h k = rw (lt-ltb l lines h) (sym (get_d_table 16 (most_at pipes 1 serial 0) p 0 k))

  most_unused : (l p : ℕ) → lines ≤ l → p < 16 → most_at pipes lines serial l p ≡ get_or none p 0
  unfolding most_at
  most_unused l p h k = rw (le-ltb l lines h) (sym (get_or-replicate 16 p 0 0 k))

  module _ (counters : List ℕ) where
    -- a line's counters, by the most that each may be
    abbrev line_within : List ℕ → ℕ → Bool
    line_within m l = every 16 (λ p. leb (get_or counters (counter_at l p) 0) (get_or m p 0))

    line : (m : List ℕ) (l : ℕ) → ((p : ℕ) → p < 16 → most_at pipes lines serial l p ≡ get_or m p 0) →
        every 16 (λ p. counter_sound pipes lines serial counters (16 * l + p)) ≡ line_within m l
    unfolding counter_sound
    line m l is = every_same 16 _ _ (λ p h.
        let line-is : (16 * l + p) / 16 ≡ l = omega arith in
        let pipe-is : (16 * l + p) % 16 ≡ p = omega arith in
        rw (line-is, pipe-is, is p h))

    -- all counters, by the highest ones
    pub counters_are : lines ≤ 32 →
        every 512 (counter_sound pipes lines serial counters) ≡
        if (row_within (highest_row counters 0 lines) most) (row_within (highest_row counters lines 32) none) false
    counters_are h =
        every_rows (counter_sound pipes lines serial counters) 16 32 ∙
        every_parts _ 32 lines (line_within most) (line_within none) h
        (λ l k. line most l (λ p. most_used l p k)) (λ l k. line none l (λ p. most_unused l p k)) ∙
        rw (within_each counters 0 lines most, from_none (line_within most) lines, within_each counters lines 32 none)
