-- A walk along the digits of a number.
use mathlib.Core.Path.{◌≡◌}
use mathlib.Core.Bool.{true, false}
use mathlib.Core.List.{List, [], ◌∷◌}
use Prim.Native.Nat.{ℕ, ◌+◌, ◌-◌, ◌*◌, ◌<◌, ◌≤◌}
use native.Mathlib.Omega.{arith}
use native.Mathlib.Numerals.{add-one}
use borrow.Author.Tests.{le-leb, lt-leb, leb-true}
use lib.Dec.{leb}
use lib.ListN.{length, get_or, drop}
use lib.Seq.{drop-cons, drop-length}
use Rattle.rules.specs.Lists.{must, within}
use Rattle.rules.proofs.lists.Tests.{by_test, if_same, if_eta}
use Rattle.words.specs.Numbers.{digits, value_from, number_of}
use Rattle.std.specs.Prelude.{Option, Some, None}
use Rattle.std.specs.Char.{is_ascii_digit}

-- the number of a word, from the digits that are left
unfoldable pub number_from : ℕ → ℕ → List ℕ → Option ℕ
number_from most n s = must (digits s) None (must (leb (value_from n s) most) None (Some (value_from n s)))

pub number_start : (most : ℕ) (s : List ℕ) → 1 ≤ length s → number_of most s ≡ number_from most 0 s
unfolding number_of number_from
number_start most s h = rw (le-leb 1 (length s) h)

pub number_none : (most : ℕ) (s : List ℕ) → length s < 1 → number_of most s ≡ None
unfolding number_of
number_none most s h = rw (lt-leb 1 (length s) h)

-- more digits make no smaller number
pub value_grows : (s : List ℕ) (n : ℕ) → n ≤ value_from n s
unfolding value_from
value_grows [] n = omega arith
value_grows (b ∷ s) n = let h = value_grows s (n * 10 + (b - 48)) in omega arith

-- a number that is too large stays so
pub number_large : (most n : ℕ) (s : List ℕ) → most < n → number_from most n s ≡ None
unfolding number_from
number_large most n s h =
    let g = value_grows s n in
    rw (lt-leb (value_from n s) most (omega arith)) (if_same (digits s) None)

-- a digit is what std calls one
digit_is : (b : ℕ) → within 48 57 b ≡ is_ascii_digit b
unfolding within
digit_is b = by_test (leb 48 b) (λ e. rw e (if_eta (leb b 57))) (λ e. rw e)

module _ (most n : ℕ) (s : List ℕ) (i : ℕ) where
  -- a digit leads on
  pub number_turn : i < length s → is_ascii_digit (get_or s i 0) ≡ true →
      number_from most n (drop i s) ≡ number_from most (n * 10 + (get_or s i 0 - 48)) (drop (i + 1) s)
  unfolding number_from digits value_from
  number_turn h d = rw (add-one, drop-cons s i 0 h, digit_is (get_or s i 0), d)

  -- another byte makes it no number
  pub number_not : i < length s → is_ascii_digit (get_or s i 0) ≡ false → number_from most n (drop i s) ≡ None
  unfolding number_from digits value_from
  number_not h d = rw (drop-cons s i 0 h, digit_is (get_or s i 0), d)

  pub number_end : i ≤ length s → length s ≤ i → n ≤ most → number_from most n (drop i s) ≡ Some n
  unfolding number_from digits value_from
  number_end h k m = let i-is : i ≡ length s = omega arith in rw (i-is, drop-length s, le-leb n most m)

-- a number is at most its bound
pub number_most : (most : ℕ) (s : List ℕ) (n : ℕ) → number_of most s ≡ Some n → n ≤ most
unfolding number_of
number_most most s n e =
    by_test (leb 1 (length s))
    (λ a. by_test (digits s)
    (λ b. by_test (leb (value_from 0 s) most)
    (λ d. let v : Some (value_from 0 s) ≡ Some n = rw (a, b, d) at e in
    let q : value_from 0 s ≡ n = cc in omega (arith, leb-true (value_from 0 s) most d))
    (λ d. let v : None ≡ Some n = rw (a, b, d) at e in let z : ◌≡◌ {A = ℕ} 0 1 = cc in absurd (omega arith)))
    (λ b. let v : None ≡ Some n = rw (a, b) at e in let z : ◌≡◌ {A = ℕ} 0 1 = cc in absurd (omega arith)))
    (λ a. let v : None ≡ Some n = rw a at e in let z : ◌≡◌ {A = ℕ} 0 1 = cc in absurd (omega arith))
