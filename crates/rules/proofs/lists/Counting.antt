-- How often a number comes in a list: the arithmetic that every later file counts with.
use mathlib.Core.Path.{◌≡◌, refl, sym, ap, ◌∙◌}
use mathlib.Core.Bool.{Bool, true, false, not, true≢false}
use mathlib.Core.List.{List, [], ◌∷◌, ◌++◌, map}
use mathlib.Core.Logic.{◌≢◌}
use Prim.Native.Nat.{ℕ, ◌+◌, ◌-◌, ◌≤◌}
use native.Mathlib.Omega.{arith}
use lib.Dec.{eqb}
use borrow.Author.Tests.{eqb-true, eqb-false, ne_eqb}
use Rattle.rules.specs.Lists.{if, keep, has, empty, times}
use Rattle.rules.proofs.lists.Tests.{by_test}

-- a test for equality as arithmetic
pub same_number : (m n : ℕ) → if (eqb m n) 1 0 ≡ 1 - (m - n + (n - m))
same_number m n = by_test (eqb m n)
    (λ e. rw e (omega (arith, eqb-true m n e)))
    (λ e. let other : m ≢ n = eqb-false m n e in rw e (omega arith))

pub times_append : (n : ℕ) (k l : List ℕ) → times n (k ++ l) ≡ times n k + times n l
unfolding times
times_append n [] l = omega arith
times_append n (m ∷ k) l = omega (arith, times_append n k l)

-- a number is in a list if it comes there, and else not
pub has_true : (l : List ℕ) (n : ℕ) → has l n ≡ true → 1 ≤ times n l
unfolding has times
has_true [] n h = absurd (true≢false (sym h))
has_true (m ∷ l) n h = by_test (eqb m n)
    (λ e. rw e (omega arith))
    (λ e. rw e (omega (arith, has_true l n (rw e at h))))

pub has_false : (l : List ℕ) (n : ℕ) → has l n ≡ false → times n l ≡ 0
unfolding has times
has_false [] n h = refl
has_false (m ∷ l) n h = by_test (eqb m n)
    (λ e. absurd (true≢false (rw e at h)))
    (λ e. rw e (omega (arith, has_false l n (rw e at h))))

pub times_some : (l : List ℕ) (n : ℕ) → 1 ≤ times n l → has l n ≡ true
times_some l n h = by_test (has l n) (λ e. e) (λ e. absurd (omega (arith, has_false l n e)))

pub times_none : (l : List ℕ) (n : ℕ) → times n l ≡ 0 → has l n ≡ false
times_none l n h = by_test (has l n) (λ e. absurd (omega (arith, has_true l n e))) (λ e. e)

-- with these, omega reads and proves that a list has a number
pub ruleset members = (arith, has_true, has_false, times_some, times_none)

pub has_head : (n : ℕ) (l : List ℕ) → has (n ∷ l) n ≡ true
unfolding times
has_head n l = omega (members, same_number n n)

pub has_tail : (m : ℕ) (l : List ℕ) (n : ℕ) → has l n ≡ true → has (m ∷ l) n ≡ true
unfolding times
has_tail m l n h = omega members

pub has_left : (k l : List ℕ) (n : ℕ) → has k n ≡ true → has (k ++ l) n ≡ true
has_left k l n h = omega (members, times_append n k l)

-- what is in a joined list and not in its first part is in its second
pub has_right : (k l : List ℕ) (n : ℕ) → has (k ++ l) n ≡ true → has k n ≡ false → has l n ≡ true
has_right k l n h e = omega (members, times_append n k l)

-- an empty list has no number, and any other has one
pub has_none : (l : List ℕ) (n : ℕ) → empty l ≡ true → has l n ≡ false
unfolding empty has
has_none [] n h = refl
has_none (m ∷ l) n h = absurd (true≢false (sym h))

pub has_some : (l : List ℕ) → empty l ≡ false → (n : ℕ) × (has l n ≡ true)
unfolding empty
has_some [] h = absurd (true≢false h)
has_some (n ∷ l) h = (n, has_head n l)

-- lists with a number equally often both have it or both lack it
pub has_same : (n : ℕ) (k l : List ℕ) → times n k ≡ times n l → has k n ≡ has l n
has_same n k l h = by_test (has l n) (λ e. rw e (omega members)) (λ e. rw e (omega members))

-- numbers that a test tells apart differ
differ : (p : ℕ → Bool) (m n : ℕ) {b : Bool} → p m ≡ b → p n ≡ not b → eqb m n ≡ false
differ p m n {b = true} hm hn = ne_eqb m n (λ e. true≢false (sym hm ∙ ap p e ∙ hn))
differ p m n {b = false} hm hn = ne_eqb m n (λ e. true≢false (sym hn ∙ ap p (sym e) ∙ hm))

module _ (p : ℕ → Bool) (n : ℕ) where
  -- a number that passes the test is kept as often as it comes
  pub times_keep : (l : List ℕ) → p n ≡ true → times n (keep p l) ≡ times n l
  unfolding keep times
  times_keep [] h = refl
  times_keep (m ∷ l) h = by_test (p m)
      (λ e. rw e (omega (arith, times_keep l h)))
      (λ e. rw (e, differ p m n e h) (omega (arith, times_keep l h)))

  -- one that fails it is not kept
  pub times_dropped : (l : List ℕ) → p n ≡ false → times n (keep p l) ≡ 0
  unfolding keep times
  times_dropped [] h = refl
  times_dropped (m ∷ l) h = by_test (p m)
      (λ e. rw (e, differ p m n e h) (omega (arith, times_dropped l h)))
      (λ e. rw e (times_dropped l h))

-- a kept number is one that passes the test
pub has_keep : (p : ℕ → Bool) (l : List ℕ) (n : ℕ) → has (keep p l) n ≡ if (p n) (has l n) false
has_keep p l n = by_test (p n)
    (λ e. rw e (has_same n (keep p l) l (times_keep p n l e)))
    (λ e. rw e (times_none (keep p l) n (times_dropped p n l e)))

-- what passes a test and what fails it make up the list
pub times_split : {A : Type 0} (f : A → ℕ) (p : A → Bool) (n : ℕ) (l : List A) →
    times n (map f (keep p l)) + times n (map f (keep (λ a. not (p a)) l)) ≡ times n (map f l)
unfolding keep times
times_split f p n [] = refl
times_split f p n (a ∷ l) = by_test (p a)
    (λ e. rw e (omega (arith, times_split f p n l)))
    (λ e. rw e (omega (arith, times_split f p n l)))
