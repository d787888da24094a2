-- What a range's `contains` tells of a number.
use mathlib.Core.Path.{◌≡◌, refl, sym, ◌∙◌}
use mathlib.Core.Bool.{Bool, true, false, ◌&&◌}
use Prim.Native.Nat.{ℕ, ◌≤◌, ◌<◌}
use native.Mathlib.Omega.{arith}
use lib.Dec.{leb, ltb}
use borrow.Author.Tests.{leb-true, ltb-true, le-leb, lt-leb, lt-ltb}
use Rattle.std.specs.Prelude.{Some}
use Rattle.std.specs.Ordering.{nat_cmp, is_le, is_lt}
use Rattle.std.specs.declared.ops.RangeInclusive.{RangeInclusive}
use Rattle.std.specs.Range.{range_inclusive_start, range_inclusive_end, range_inclusive_exhausted, range_inclusive_contains}
use Rattle.rules.proofs.lists.Tests.{below, lower, upper, same_as, same, other, never}

both_hold : (a b : Bool) → true ≡ (a && b) → (a ≡ true) × (b ≡ true)
both_hold true b e = (refl, sym e)
both_hold false b e = absurd (never e)

le_tested : (a b : ℕ) → is_le (nat_cmp a b) ≡ leb a b
le_tested a b = elim (below a b) [
  | lower h t ↦ rw (t, le-leb a b (omega arith))
  | upper h t ↦ elim (same_as a b) [ same e s ↦ rw (t, s, le-leb a b (omega arith)) | other n s ↦ rw (t, s, lt-leb a b (omega arith)) ]
]

lt_tested : (a b : ℕ) → is_lt (nat_cmp a b) ≡ ltb a b
lt_tested a b = elim (below a b) [ lower h t ↦ rw t | upper h t ↦ elim (same_as a b) [ same e s ↦ rw (t, s) | other n s ↦ rw (t, s) ] ]

-- a number is in `low..high`, or not
module _ (low high n : ℕ) where
  pub among : true ≡ (is_le (nat_cmp low n) && is_lt (nat_cmp n high)) → (low ≤ n) × (n < high)
  among e =
      let (a, b) = both_hold _ _ e in
      (leb-true low n (sym (le_tested low n) ∙ a), ltb-true n high (sym (lt_tested n high) ∙ b))

  pub not_among : false ≡ (is_le (nat_cmp low n) && is_lt (nat_cmp n high)) → low ≤ n → n < high → ⊥
  not_among e a b = never (sym (e ∙ rw (le_tested low n, lt_tested n high, le-leb low n a, lt-ltb n high b)))

-- a number is in `low..=high`, or not
module _ {r : RangeInclusive ℕ} {low high : ℕ} (starts : range_inclusive_start r ≡ low) (ends : range_inclusive_end r ≡ high) (whole : range_inclusive_exhausted r ≡ false) (n : ℕ) where
  tested : range_inclusive_contains (λ x y. Some (nat_cmp x y)) r n ≡ (leb low n && leb n high)
  tested = rw (starts, ends, whole, le_tested low n, le_tested n high)

  pub inside : true ≡ range_inclusive_contains (λ x y. Some (nat_cmp x y)) r n → (low ≤ n) × (n ≤ high)
  inside e = let (a, b) = both_hold (leb low n) (leb n high) (e ∙ tested) in (leb-true low n a, leb-true n high b)

  pub outside : false ≡ range_inclusive_contains (λ x y. Some (nat_cmp x y)) r n → low ≤ n → n ≤ high → ⊥
  outside e a b = never (sym (e ∙ tested ∙ rw (le-leb low n a, le-leb n high b)))
