-- The flat table of counters: line l, pipe p at 16 * l + p.
use mathlib.Core.Path.{◌≡◌, refl, ◌∙◌}
use mathlib.Core.List.{List}
use Prim.Native.Nat.{ℕ, ◌+◌, ◌-◌, ◌*◌, ◌/◌, ◌%◌, ◌<◌}
use native.Mathlib.Omega.{arith}
use lib.Dec.{ltb}
use lib.ListN.{length, get_or, length-set}
use lib.Seq.{get_or-set_same, get_or-set_other}
use borrow.Author.Tests.{lt-ltb}
use Rattle.rules.specs.Lists.{same_pair, if}
use Rattle.rules.specs.Choices.{fall, tabled}
use Rattle.rules.specs.RunState.{Pipeline}
use Rattle.rules.proofs.lists.ListTables.{get_d_table, length_table}
use Rattle.rules.proofs.lists.Tests.{same, other, same_as, lower, upper, below, same_pair_lem, other_pair}

-- an index is of one line and one pipe
pub same_line : (a b l p : ℕ) → b < 16 → p < 16 → 16 * l + p ≡ 16 * a + b → l ≡ a
same_line a b l p h k e = omega arith

pub same_pipe : (a b l p : ℕ) → b < 16 → p < 16 → 16 * l + p ≡ 16 * a + b → p ≡ b
same_pipe a b l p h k e = omega (arith, same_line a b l p h k e)

-- a counter that falls, and the others, which do not
pub fall_at : (c : List ℕ) (a b l p : ℕ) → b < 16 → p < 16 → 16 * a + b < length c → 0 < get_or c (16 * a + b) 0 →
    get_or (fall c (16 * a + b)) (16 * l + p) 0 + same_pair a b l p ≡ get_or c (16 * l + p) 0
unfolding fall
fall_at c a b l p hb hp fits some = elim (same_as (16 * l + p) (16 * a + b)) [
  | same e t ↦
      let i : l ≡ a = same_line a b l p hb hp e in
      let j : p ≡ b = same_pipe a b l p hb hp e in
      rw (i, j, get_or-set_same c (16 * a + b) (get_or c (16 * a + b) 0 - 1) 0 fits, same_pair_lem a b) (omega arith)
  | other n t ↦ rw (
    get_or-set_other c (16 * a + b) (16 * l + p) (get_or c (16 * a + b) 0 - 1) 0 n,
    other_pair a b l p (λ i j. n (ap₂ i j)),
  ) (omega arith)
]
  where
    ap₂ : {l a p b : ℕ} → l ≡ a → p ≡ b → 16 * l + p ≡ 16 * a + b
    ap₂ i j = omega arith

-- a fall keeps the length
pub length_fall : (c : List ℕ) (i : ℕ) → length (fall c i) ≡ length c
unfolding fall
length_fall c i = length-set c i (get_or c i 0 - 1)

module _ (plan : Pipeline) (f : ℕ → ℕ → ℕ) where
  pub length_tabled : length (tabled plan f) ≡ 512
  unfolding tabled
  length_tabled = length_table 512 _

  entry : ℕ → ℕ → ℕ
  entry l p = if (ltb l plan.lines) (if (ltb p plan.pipes) (f l p) 0) 0

  tabled_entry : (l p : ℕ) → l < 32 → p < 16 → get_or (tabled plan f) (16 * l + p) 0 ≡ entry l p
  unfolding tabled entry
  tabled_entry l p h k =
      let i : (16 * l + p) / 16 ≡ l = omega arith in
      let j : (16 * l + p) % 16 ≡ p = omega arith in
      get_d_table 512 _ (16 * l + p) 0 (omega arith) ∙ rw (i, j) refl

  -- the counters of the plan's lines and pipes
  pub tabled_used : (l p : ℕ) → l < 32 → p < 16 → l < plan.lines → p < plan.pipes → get_or (tabled plan f) (16 * l + p) 0 ≡ f l p
  unfolding entry
  tabled_used l p h k i j = tabled_entry l p h k ∙ rw (lt-ltb l plan.lines i, lt-ltb p plan.pipes j)

  -- and the others
  pub tabled_unused : (l p : ℕ) → l < 32 → p < 16 → (l < plan.lines → p < plan.pipes → ⊥) → get_or (tabled plan f) (16 * l + p) 0 ≡ 0
  unfolding entry
  tabled_unused l p h k n = tabled_entry l p h k ∙ elim (below l plan.lines) [
    | upper d e ↦ rw e
    | lower d e ↦ rw e (elim (below p plan.pipes) [ upper q u ↦ rw u | lower q u ↦ absurd (n d q) ])
  ]
