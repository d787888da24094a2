-- The scan for the next cell that watches a number: a block at a time, then one cell after the other.
use mathlib.Core.Path.{◌≡◌, sym, ap, subst, ◌∙◌}
use mathlib.Core.Logic.{by_cases}
use mathlib.Core.Bool.{false, true≢false}
use mathlib.Core.List.{List, [], ◌∷◌}
use Prim.Native.Nat.{ℕ, zero, suc, ◌+◌, ◌-◌, ◌<◌, ◌≤◌}
use native.Mathlib.Omega.{arith}
use native.Mathlib.Decide.{dec_lt}
use native.Mathlib.Numerals.{add-one}
use borrow.Author.Tests.{eq-eqb, eqb-true, eqb-false}
use lib.Dec.{eqb}
use lib.ListN.{length, get_or, take}
use lib.Seq.{slice, length-slice, get_or-drop, get_or-take}
use Rattle.rules.specs.Lists.{has}
use Rattle.rules.proofs.lists.Tests.{by_test}
use Rattle.tables.specs.Releasing.{next_in, next_from}
use Rattle.tables.proofs.memory.Cells.{row_next, row_end}

-- a list without a number has it nowhere
absent : (l : List ℕ) (d k : ℕ) → has l d ≡ false → k < length l → get_or l k 0 ≡ d → ⊥
unfolding has
absent [] d k e h same = omega arith
absent (a ∷ l) d zero e h same = true≢false (rw (eq-eqb a d same) at e)
absent (a ∷ l) d (suc k) e h same = by_test (eqb a d)
    (λ q. true≢false (rw q at e))
    (λ q. absent l d k (rw q at e) (omega arith) same)

absent_cell : (m : List ℕ) (d from last i : ℕ) → has (slice from last m) d ≡ false → last ≤ length m → from ≤ i → i < last → get_or m i 0 ≡ d → ⊥
absent_cell m d from last i e long l h same =
    let i-is : from + (i - from) ≡ i = omega arith in
    absent (slice from last m) d (i - from) e (omega (arith, length-slice from last m long))
    (get_or-drop from (take last m) (i - from) 0 ∙ ap (λ k. get_or (take last m) k 0) i-is ∙ get_or-take last m i 0 h ∙ same)

-- what tells the next cell that watches a number, from one on, or `held` where there is none
pub record Next (m : List ℕ) (d cell held found : ℕ) : Type 0 where
  pub from : cell ≤ found
  pub upto : found ≤ held
  pub none : (i : ℕ) → cell ≤ i → i < found → get_or m (24576 + i) 0 ≡ d → ⊥
  pub hit : found < held → get_or m (24576 + found) 0 ≡ d

-- one that does not is before it
next_later : {m : List ℕ} {d cell held r : ℕ} → (get_or m (24576 + cell) 0 ≡ d → ⊥) → Next m d (suc cell) held r → Next m d cell held r
next_later {m} {d} {cell} other n = record {
  from = omega (arith, n.from);
  upto = n.upto;
  none = λ i l h e. by_cases (dec_lt cell i)
      (λ after. n.none i (omega arith) h e)
      (λ not_after. let i-is : i ≡ cell = omega arith in other (rw i-is at e));
  hit = n.hit;
}

module _ (m : List ℕ) (d held : ℕ) (long : 24576 + held ≤ length m) where
  next_found : (k cell : ℕ) → cell + k ≡ held → Next m d cell held (next_from m d cell held)
  unfolding next_in
  next_found zero cell e =
      rw (row_end m 24576 cell held (omega arith) (omega arith))
      (record { from = omega arith; upto = omega arith; none = λ i l h q. omega arith; hit = λ h. absurd (omega arith) })
  next_found (suc k) cell e =
      rw (row_next m 24576 cell held (omega arith) long)
      (by_test (eqb (get_or m (24576 + cell) 0) d)
      (λ q. rw q (record { from = omega arith; upto = omega arith; none = λ i l h x. omega arith; hit = λ h. eqb-true (get_or m (24576 + cell) 0) d q }))
      (λ q. rw q (next_later (eqb-false (get_or m (24576 + cell) 0) d q) (rw (add-one cell) (next_found k (suc cell) (omega arith))))))

  -- the code's answer is that cell
  pub next_of : {cell r : ℕ} → cell ≤ held → r ≡ next_from m d cell held → Next m d cell held r
  next_of {cell} h r-is = subst (Next m d cell held) (sym r-is) (next_found (held - cell) cell (omega arith))

  -- and there is just one
  pub next_is : {cell r : ℕ} → cell ≤ held → Next m d cell held r → r ≡ next_from m d cell held
  next_is {cell} {r} h n =
      let n' = next_found (held - cell) cell (omega arith) in
      by_cases (dec_lt r (next_from m d cell held))
      (λ before. absurd (n'.none r n.from before (n.hit (omega (arith, n'.upto)))))
      (λ not-before. by_cases (dec_lt (next_from m d cell held) r)
      (λ after. absurd (n.none (next_from m d cell held) n'.from after (n'.hit (omega (arith, n.upto)))))
      (λ not_after. omega arith))

-- no cell up to one watches the number
pub record Passed (m : List ℕ) (d from held cell : ℕ) : Type 0 where
  pub start : from ≤ cell
  pub none : (i : ℕ) → from ≤ i → i < cell → i < held → get_or m (24576 + i) 0 ≡ d → ⊥

module _ {m : List ℕ} {d from held cell : ℕ} (inv : Passed m d from held cell) where
  pub passed_end : from ≤ held → held ≤ cell → Next m d from held held
  passed_end l h = record { from = l; upto = omega arith; none = λ i a b. inv.none i a (omega arith) b; hit = λ k. absurd (omega arith) }

  pub passed_block : has (slice (24576 + cell) (24576 + cell + 64) m) d ≡ false → 24576 + cell + 64 ≤ length m → Passed m d from held (cell + 64)
  passed_block none long = record {
    start = omega (arith, inv.start);
    none = λ i l h k e. by_cases (dec_lt i cell)
        (λ before. inv.none i l before k e)
        (λ not-before. absent_cell m d (24576 + cell) (24576 + cell + 64) (24576 + i) none long (omega arith) (omega arith) e);
  }

  pub passed_walk : {r : ℕ} → cell < held → Next m d cell held r → Next m d from held r
  passed_walk more n = record {
    from = omega (arith, inv.start, n.from);
    upto = n.upto;
    none = λ i l h. by_cases (dec_lt i cell)
        (λ before. inv.none i l before (omega arith))
        (λ not-before. n.none i (omega arith) h);
    hit = n.hit;
  }

-- the next cell that watches a number, in a memory with the same watches
pub next_same : {m₀ m : List ℕ} {d cell held r : ℕ} → ((i : ℕ) → cell ≤ i → i < held → get_or m (24576 + i) 0 ≡ get_or m₀ (24576 + i) 0) → Next m d cell held r → Next m₀ d cell held r
next_same {m₀} {m} same n =
    record {
      from = n.from;
      upto = n.upto;
      none = λ i l h e. n.none i l h (same i l (omega (arith, n.upto)) ∙ e);
      hit = λ h. sym (same _ n.from h) ∙ n.hit h;
    }
