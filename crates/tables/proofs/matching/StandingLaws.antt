-- What follows from standings that fit the rules' tables: every token in them is below Count.
use mathlib.Core.Path.{◌≡◌, sym, ◌∙◌}
use mathlib.Core.Bool.{Bool, true}
use mathlib.Core.List.{List, [], ◌∷◌}
use Prim.Native.Nat.{ℕ, ◌<◌}
use native.Mathlib.Omega.{arith}
use borrow.Author.Tests.{eqb-true, leb-true, leb-false}
use lib.Dec.{leb}
use Rattle.rules.specs.Lists.{has, Below}
use Rattle.rules.specs.TakingTokens.{tokens_of}
use Rattle.rules.specs.TakingTokens as rules
use Rattle.tables.specs.Matching.{Standing}
use Rattle.rules.proofs.lists.Tests.{by_test}
use Rattle.rules.proofs.lists.Counting.{has_head, has_tail}

-- what holds of all that a list has
below_all : (n : ℕ) (l : List ℕ) → ((t : ℕ) → has l t ≡ true → t < n) → Below n l
below_all n [] h = tt
below_all n (a ∷ l) h = (h a (has_head a l), below_all n l (λ t e. h t (has_tail a l t e)))

module _ {numbers : ℕ → List ℕ} {a : rules.Tables} {standing : ℕ → ℕ} {out : ℕ → Bool} (s : Standing numbers a standing out) where
  -- a token with a standing other than 0 was taken as new
  taken : {v : ℕ} (n : ℕ) → 0 < v → standing n ≡ v → n < a.count
  taken n some is = by_test (leb a.count n)
      (λ e. absurd (omega (arith, s.fresh n (leb-true a.count n e))))
      (λ e. leb-false a.count n e)

  pub table_low : Below a.count (tokens_of a.deferred)
  table_low = below_all a.count (tokens_of a.deferred) (λ n h. taken n (omega arith) (eqb-true (standing n) 1 (sym (s.marked n) ∙ h)))

  pub ready_low : Below a.count a.ready
  ready_low = below_all a.count a.ready (λ n h. taken n (omega arith) (eqb-true (standing n) 2 (sym (s.queued n) ∙ h)))
