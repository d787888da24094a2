-- A search among watches: all of a block, then one cell after the other.
use Rattle.std.proofs.Common.{◌≡◌, refl, sym, ap, ◌∙◌, Bool, true, false, not, ◌||◌, List, [], ◌∷◌, Option, Some, None, ℕ, suc, ◌+◌, ◌-◌, ◌<◌, ◌≤◌, length, get_or, take, drop, subst, arith}
use Rattle.std.specs.Prelude.{MatchOption, position, unwrap_or}
use Rattle.std.specs.Option.{IsSome}
use Rattle.std.specs.List.{position_or_len}
use Rattle.std.proofs.lemmas.Slice.{between_is}
use Rattle.std.proofs.lemmas.List.Sums.{prefix_len-le-length}
use lib.Seq.{drop-cons, length-take-le}
use lib.ListN.{drop_of_length-le, length-drop}
use native.Mathlib.Numerals.{add-one}
use borrow.Author.Tests.{ltb-false}
use lib.Dec.{eqb, ltb}
use Rattle.rules.specs.Lists.{if, has}
use Rattle.rules.proofs.lists.Tests.{by_test, if_eta}
use Rattle.tables.specs.Releasing.{next_in, next_from}

-- a block, with the watches from one on left: all are compared, and one that is the number tells
module _ (ws : List ℕ) (d i : ℕ) (found : Bool) (left : has ws d ≡ if found true (has (drop i ws) d)) where
  pub block_next : i < length ws → has ws d ≡ if (found || eqb (get_or ws i 0) d) true (has (drop (i + 1) ws) d)
  unfolding has
  block_next h =
      let next : drop i ws ≡ get_or ws i 0 ∷ drop (i + 1) ws = rw (add-one i) (drop-cons ws i 0 h) in
      left ∙ rw next (either found (eqb (get_or ws i 0) d) _)
    where
      either : (f e x : Bool) → if f true (if e true x) ≡ if (f || e) true x
      either true e x = refl
      either false e x = refl

  pub block_end : length ws ≤ i → found ≡ has ws d
  unfolding has
  block_end h = sym (left ∙ rw (drop_of_length-le ws h) (if_eta found))

-- the first of some cells that watches a number, by how many do not before it
next_at : (d cell : ℕ) (ws : List ℕ) → next_in d cell ws ≡ cell + position_or_len (λ w. eqb w d) ws
unfolding next_in
next_at d cell [] = omega arith
next_at d cell (w ∷ ws) = by_test (eqb w d)
    (λ e. rw e (omega arith))
    (λ e. rw e (next_at d (suc cell) ws ∙ omega arith))

walked : (d cell : ℕ) (ws : List ℕ) → MatchOption (position (λ w. eqb w d) ws) (next_in d cell ws ≡ cell + length ws) (λ k. next_in d cell ws ≡ cell + k)
walked d cell ws = by_test (ltb (position_or_len (λ w. eqb w d) ws) (length ws))
    (λ e. rw e (next_at d cell ws))
    (λ e. rw e (next_at d cell ws ∙ ap (λ k. cell + k) (omega (arith, prefix_len-le-length (λ w. not (eqb w d)) ws, ltb-false _ _ e))))

-- and so by its place among the watches from one cell on
module _ (m : List ℕ) (d from held : ℕ) (long : 24576 + held ≤ length m) (upto : from ≤ held) {o : Option ℕ}
    (told : o ≡ position (λ w. eqb w d) (take (24576 + held - (24576 + from)) (drop (24576 + from) m))) where
  abbrev ws : List ℕ
  ws = take (24576 + held - (24576 + from)) (drop (24576 + from) m)

  same : next_in d from ws ≡ next_from m d from held
  same = ap (next_in d from) (between_is m (24576 + from) (24576 + held))

  pub walk_none : o ≡ None → held ≡ next_from m d from held
  walk_none e =
      let size : length ws ≡ held - from = length-take-le _ (drop (24576 + from) m) (omega (arith, length-drop (24576 + from) m)) ∙ omega arith in
      let passed : next_in d from ws ≡ from + length ws =
      subst (λ o. MatchOption o (next_in d from ws ≡ from + length ws) (λ k. next_in d from ws ≡ from + k)) (sym told ∙ e) (walked d from ws) in
      sym (sym same ∙ passed ∙ omega arith)

  pub walk_some : {k : ℕ} → o ≡ Some k → from + k ≡ next_from m d from held
  walk_some {k} e =
      let passed : next_in d from ws ≡ from + k =
      subst (λ o. MatchOption o (next_in d from ws ≡ from + length ws) (λ k. next_in d from ws ≡ from + k)) (sym told ∙ e) (walked d from ws) in
      sym (sym same ∙ passed)

-- a cell before the last was found
pub some_is : (o : Option ℕ) {held : ℕ} → unwrap_or o held < held → IsSome o
some_is None h = absurd (omega arith)
some_is (Some x) h = refl
