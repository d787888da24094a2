-- Walks through a text: to its first stop, and along another text.
use mathlib.Core.Path.{◌≡◌, refl, sym, ap, ◌∙◌}
use mathlib.Core.List.{List, [], ◌∷◌}
use Prim.Native.Nat.{ℕ, suc, ◌+◌, ◌-◌, ◌<◌, ◌≤◌}
use native.Mathlib.Omega.{arith}
use native.Mathlib.Numerals.{add-one}
use borrow.Author.Tests.{lt-ltb, le-ltb, ltb-true, ltb-false}
use lib.Dec.{eqb, ltb}
use lib.ListN.{length, take, drop, length-drop, drop_of_length-le}
use lib.Seq.{drop-length, drop-nil, take_all}
use Rattle.rules.specs.Lists.{has, must}
use Rattle.std.specs.Prelude.{true, false, Option, Some, None, position, unwrap_or, nat_eq, min}
use Rattle.std.specs.List.{position_or_len}
use Rattle.std.specs.Str.{bytes_eq}
use Rattle.rules.proofs.lists.Tests.{by_test}
use Rattle.words.specs.Words.{up_to, past, same}

-- the part of a text from a place on
pub rest_is : (s : List ℕ) (i : ℕ) → take (length s - i) (drop i s) ≡ drop i s
rest_is s i = take_all (length s - i) (drop i s) (simp length-drop (omega arith))

ltb_suc : (a b : ℕ) → ltb (suc a) (suc b) ≡ ltb a b
ltb_suc a b =
    by_test (ltb a b) (λ e. lt-ltb (suc a) (suc b) (omega (arith, ltb-true a b e)) ∙ sym e)
    (λ e. le-ltb (suc a) (suc b) (omega (arith, ltb-false a b e)) ∙ sym e)

module _ (stop : ℕ) where
  -- the text before a stop is a first part
  pub up_to_is : (s : List ℕ) → take (length (up_to stop s)) s ≡ up_to stop s
  unfolding up_to
  up_to_is [] = refl
  up_to_is (b ∷ s) = by_test (eqb b stop) (λ e. rw e) (λ e. rw e (ap (λ l. b ∷ l) (up_to_is s)))

  -- and what follows the stop is the rest
  pub past_is : (s : List ℕ) → drop (length (up_to stop s) + 1) s ≡ past stop s
  unfolding up_to past
  past_is [] = drop-nil 1
  past_is (b ∷ s) = by_test (eqb b stop) (λ e. rw (add-one, e)) (λ e. rw (add-one, e) (rw add-one at (past_is s)))

  pub up_to_length : (s : List ℕ) → length (up_to stop s) ≤ length s
  unfolding up_to
  up_to_length [] = omega arith
  up_to_length (b ∷ s) = let h = up_to_length s in by_test (eqb b stop) (λ e. rw e (omega arith)) (λ e. rw e (omega arith))

  -- where there is no stop nothing follows it
  pub past_end : (s : List ℕ) → length s ≤ length (up_to stop s) → drop (length s) s ≡ past stop s
  past_end s h = drop-length s ∙ sym (drop_of_length-le s {i = length (up_to stop s) + 1} (omega arith)) ∙ past_is s

  -- there is a stop exactly if the text before it is shorter
  pub has_stop : (s : List ℕ) → has s stop ≡ ltb (length (up_to stop s)) (length s)
  unfolding up_to has
  has_stop [] = refl
  has_stop (b ∷ s) = by_test (eqb b stop) (λ e. rw e (sym (lt-ltb 0 (length (b ∷ s)) (omega arith)))) (λ e. rw e (has_stop s ∙ sym (ltb_suc (length (up_to stop s)) (length s))))

-- where a search for the stop ends
up_to_position : (stop : ℕ) (s : List ℕ) → position_or_len (λ b. nat_eq b stop) s ≡ length (up_to stop s)
unfolding up_to
up_to_position stop [] = refl
up_to_position stop (b ∷ s) = let h = up_to_position stop s in by_test (eqb b stop) (λ e. rw e) (λ e. rw e (omega arith))

-- where the first stop is, if there is one
pub first_is : (stop : ℕ) (s : List ℕ) → position (λ b. nat_eq b stop) s ≡ must (has s stop) None (Some (length (up_to stop s)))
first_is stop s = rw (up_to_position stop s, ← has_stop stop s)

pub up_to_found : (stop : ℕ) (s : List ℕ) {found : Option ℕ} {n : ℕ} → found ≡ position (λ b. nat_eq b stop) s → n ≡ unwrap_or found (length s) →
    n ≡ length (up_to stop s)
up_to_found stop s found_is n-is =
    let fits = up_to_length stop s in
    by_test (ltb (length (up_to stop s)) (length s)) (λ e. rw (n-is, found_is, first_is stop s, has_stop stop s, e))
    (λ e. rw (n-is, found_is, first_is stop s, has_stop stop s, e) (omega (arith, ltb-false (length (up_to stop s)) (length s) e)))

-- so without one it is nowhere, and else behind what stands before it
pub first_none : (stop : ℕ) (s : List ℕ) → None ≡ position (λ b. nat_eq b stop) s → has s stop ≡ false
first_none stop s e =
    by_test (has s stop) (λ h. let q : ◌≡◌ {A = Option ℕ} None (Some (length (up_to stop s))) = rw (first_is stop s, h) at e in cc) (λ h. h)

pub first_some : (stop : ℕ) (s : List ℕ) (n : ℕ) → Some n ≡ position (λ b. nat_eq b stop) s → (has s stop ≡ true) × (n ≡ length (up_to stop s)) × (n < length s)
first_some stop s n e =
    by_test (has s stop)
    (λ h. let q : ◌≡◌ {A = Option ℕ} (Some n) (Some (length (up_to stop s))) = rw (first_is stop s, h) at e in
    let n-is : n ≡ length (up_to stop s) = cc in
    (h, n-is, omega (arith, ltb-true (length (up_to stop s)) (length s) (sym (has_stop stop s) ∙ h))))
    (λ h. let q : ◌≡◌ {A = Option ℕ} (Some n) None = rw (first_is stop s, h) at e in cc)

-- one behind the first stop, but no more than the text has
pub past_at : (stop : ℕ) (s : List ℕ) → drop (min (length (up_to stop s) + 1) (length s)) s ≡ past stop s
past_at stop s =
    let end : ℕ = length (up_to stop s) in
    by_test (ltb end (length s)) (λ e. let at : min (end + 1) (length s) ≡ end + 1 = omega (arith, ltb-true end (length s) e) in rw at (past_is stop s))
    (λ e. let at : min (end + 1) (length s) ≡ length s = omega (arith, ltb-false end (length s) e) in rw at (past_end stop s (ltb-false end (length s) e)))

-- the bytes compared one by one
pub same_is : (s t : List ℕ) → bytes_eq s t ≡ same s t
unfolding same
same_is [] [] = refl
same_is [] (c ∷ t) = refl
same_is (b ∷ s) [] = refl
same_is (b ∷ s) (c ∷ t) = let h = same_is s t in by_test (eqb b c) (λ e. rw e h) (λ e. rw e)
