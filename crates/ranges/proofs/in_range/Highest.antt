-- The larger of two numbers, the highest of some, and rows of such: a test that holds of all smaller numbers too is asked of the
-- highest only.
use mathlib.Core.Path.{◌≡◌, refl, sym, ap, ◌∙◌}
use mathlib.Core.Bool.{Bool, true, false}
use mathlib.Core.List.{List}
use Prim.Native.Nat.{ℕ, zero, suc, ◌+◌, ◌-◌, ◌<◌, ◌≤◌, max}
use native.Mathlib.Omega.{arith}
use native.Mathlib.Numerals.{add-one}
use Rattle.std.proofs.Math.Nat.{max-eq_left, max-eq_right}
use borrow.Author.Tests.{le-leb, lt-ltb, eq-eqb, leb-true, ltb-true, eqb-true}
use lib.Dec.{leb, ltb, eqb}
use lib.ListN.{length, get_or, replicate, length-replicate, get_or-replicate}
use lib.Seq.{ext_get_or}
use Rattle.rules.specs.Lists.{if, every}
use Rattle.rules.specs.RunState.{counter_at}
use Rattle.rules.proofs.lists.ListTables.{get_d_table, length_table}
use Rattle.rules.proofs.lists.Tests.{by_test, if_same, lower, upper, below}
use Rattle.ranges.specs.RangeParts.{every_from, highest, highest_row, raised_row, row_within}
use Rattle.ranges.proofs.in_range.Rows.{swap, every_same, exchange}

-- a test of the max number is one of both
max_test : (test : ℕ → Bool) → ((a b : ℕ) → a ≤ b → test b ≡ true → test a ≡ true) → (a b : ℕ) →
    test (max a b) ≡ if (test a) (test b) false
max_test test down a b = elim (below a b) [
  | lower h t ↦ rw (max-eq_right {n = a} {m = b} (omega arith)) (by_test (test b) (λ e. rw (e, down a b (omega arith) e)) (λ e. rw e (sym (if_same (test a) false))))
  | upper h t ↦ rw (max-eq_left {n = a} {m = b} h) (by_test (test a) (λ e. rw (e, down b a h e)) (λ e. rw e))
]

pub max_leb : (m a b : ℕ) → leb (max a b) m ≡ if (leb a m) (leb b m) false
max_leb m = max_test (λ n. leb n m) (λ a b h e. let most : b ≤ m = leb-true b m e in le-leb a m (omega arith))

pub max_ltb : (m a b : ℕ) → ltb (max a b) m ≡ if (ltb a m) (ltb b m) false
max_ltb m = max_test (λ n. ltb n m) (λ a b h e. let less : b < m = ltb-true b m e in lt-ltb a m (omega arith))

pub max_none : (a b : ℕ) → eqb (max a b) 0 ≡ if (eqb a 0) (eqb b 0) false
max_none = max_test (λ n. eqb n 0) (λ a b h e. let none : b ≡ 0 = eqb-true b 0 e in eq-eqb a 0 (omega arith))

-- and one of the highest is one of all
pub highest_test : (test : ℕ → Bool) → test 0 ≡ true → ((a b : ℕ) → test (max a b) ≡ if (test a) (test b) false) →
    (n : ℕ) (f : ℕ → ℕ) → test (highest n f) ≡ every n (λ i. test (f i))
unfolding highest every
highest_test test first both zero f = first
highest_test test first both (suc n) f =
    both (highest n f) (f n) ∙ ap (λ x. if x (test (f n)) false) (highest_test test first both n f) ∙
    swap (every n (λ i. test (f i))) (test (f n))

-- none, and one more
pub highest_none : (f : ℕ → ℕ) → highest 0 f ≡ 0
unfolding highest
highest_none f = refl

pub highest_more : (n : ℕ) (f : ℕ → ℕ) → highest (n + 1) f ≡ max (highest n f) (f n)
unfolding highest
highest_more n f = rw add-one

-- a row with one line more: its size, and what it holds
module _ (counters row : List ℕ) (l : ℕ) where
  pub length_raised : length (raised_row counters row l) ≡ 16
  unfolding raised_row
  length_raised = length_table 16 _

  pub get_d_raised : (p : ℕ) → p < 16 → get_or (raised_row counters row l) p 0 ≡ max (get_or row p 0) (get_or counters (counter_at l p) 0)
  unfolding raised_row
  get_d_raised p h = get_d_table 16 (λ q. max (get_or row q 0) (get_or counters (counter_at l q) 0)) p 0 h

module _ (counters : List ℕ) (from : ℕ) where
  -- a line's counter at a pipe, from the first line on
  abbrev at : ℕ → ℕ → ℕ
  at p i = get_or counters (counter_at (from + i) p) 0

  length_highest : (to : ℕ) → length (highest_row counters from to) ≡ 16
  unfolding highest_row
  length_highest to = length_table 16 _

  get_d_highest : (to p : ℕ) → p < 16 → get_or (highest_row counters from to) p 0 ≡ highest (to - from) (at p)
  unfolding highest_row
  get_d_highest to p h = get_d_table 16 (λ q. highest (to - from) (at q)) p 0 h

  -- the row of no line, and that of one line more
  pub row_none : replicate 16 0 ≡ highest_row counters from from
  row_none =
      let no : from - from ≡ 0 = omega arith in
      ext_get_or 0 (replicate 16 0) (highest_row counters from from) (length-replicate {A = ℕ} 16 0 ∙ sym (length_highest from)) (λ p h.
      let less : p < 16 = omega (arith, length-replicate {A = ℕ} 16 0) in
      get_or-replicate 16 p 0 0 less ∙ sym (get_d_highest from p less ∙ ap (λ n. highest n (at p)) no ∙ highest_none (at p)))

  module _ (l : ℕ) (later : from ≤ l) where
    at_line : (p : ℕ) → at p (l - from) ≡ get_or counters (counter_at l p) 0
    at_line p = let line : from + (l - from) ≡ l = omega arith in ap (λ i. get_or counters (counter_at i p) 0) line

    highest_next : (p : ℕ) → highest (l + 1 - from) (at p) ≡ max (highest (l - from) (at p)) (get_or counters (counter_at l p) 0)
    highest_next p =
        let one : l + 1 - from ≡ l - from + 1 = omega arith in
        rw one (highest_more (l - from) (at p) ∙ ap (max (highest (l - from) (at p))) (at_line p))

    pub row_more : raised_row counters (highest_row counters from l) l ≡ highest_row counters from (l + 1)
    row_more = ext_get_or 0 (raised_row counters (highest_row counters from l) l) (highest_row counters from (l + 1))
        (length_raised counters _ l ∙ sym (length_highest (l + 1)))
        (λ p h.
        let less : p < 16 = omega (arith, length_raised counters (highest_row counters from l) l) in
        get_d_raised counters (highest_row counters from l) l p less ∙
        ap (λ n. max n (get_or counters (counter_at l p) 0)) (get_d_highest l p less) ∙
        sym (get_d_highest (l + 1) p less ∙ highest_next p))

  -- the highest counters are within a row if those of each line are
  pipe_within : (to p m : ℕ) → p < 16 → leb (get_or (highest_row counters from to) p 0) m ≡ every (to - from) (λ i. leb (at p i) m)
  pipe_within to p m h =
      ap (λ n. leb n m) (get_d_highest to p h) ∙
      highest_test (λ n. leb n m) (le-leb 0 m (omega arith)) (max_leb m) (to - from) (at p)

  pub within_each : (to : ℕ) (most : List ℕ) →
      row_within (highest_row counters from to) most ≡
      every_from from to (λ l. every 16 (λ p. leb (get_or counters (counter_at l p) 0) (get_or most p 0)))
  unfolding row_within every_from
  within_each to most =
      every_same 16 _ _ (λ p h. pipe_within to p (get_or most p 0) h) ∙ exchange 16 (to - from) (λ i p. leb (at p i) (get_or most p 0))
