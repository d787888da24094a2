-- Places go round the lines: place k is of line k mod L.
use mathlib.Core.Path.{◌≡◌}
use Prim.Native.Nat.{ℕ, suc, ◌+◌, ◌/◌, ◌%◌, ◌≤◌, ◌<◌}
use native.Mathlib.Nat.{suc-mod, mod_self, mod-eq_of_lt, mod-lt, div-add-mod, mul-le-mul_left, mul-suc}
use native.Mathlib.Omega.{arith}
use native.Mathlib.Decide.{dec_le}
use Rattle.rules.specs.Choices.{next}
use Rattle.rules.proofs.lists.Tests.{same, other, same_as}

module _ (L : ℕ) (some : 0 < L) where
  -- the line of the next place is the next line
  pub turns : (k : ℕ) → suc k % L ≡ next L (k % L)
  turns k = elim (same_as (suc (k % L)) L) [
    | same e t ↦ rw (t, suc-mod, e, mod_self)
    | other n t ↦ let h : k % L < L = mod-lt k some in rw (t, suc-mod) (mod-eq_of_lt (omega arith))
  ]

  -- of L places in a row, each line has one
  pub only : (a e : ℕ) → a ≤ e → e < a + L → e % L ≡ a % L → e ≡ a
  only a e low high r = elim (dec_le (e / L) (a / L)) [
    | yes h ↦ omega (arith, mul-le-mul_left L h, div-add-mod e L, div-add-mod a L)
    | no h ↦ let g : suc (a / L) ≤ e / L = omega arith in
        omega (arith, mul-le-mul_left L g, mul-suc L (a / L), div-add-mod e L, div-add-mod a L)
  ]
