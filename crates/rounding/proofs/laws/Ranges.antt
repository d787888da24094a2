-- The range of a rounding, case by case.
use mathlib.Core.Path.{◌≡◌, sym}
use mathlib.Core.Bool.{Bool, true, false}
use mathlib.Core.List.{List}
use Prim.Native.Nat.{ℕ, ◌≤◌}
use lib.Dec.{leb, eqb}
use borrow.Author.Tests.{le-leb, eq-eqb, ne_eqb}
use Rattle.rules.specs.Rounding.{sum_most, is_base, is_rounding_pipe, Rounding, rounding_sound}
use Rattle.rounding.specs.Roundings.{rounding_fits}
use Rattle.rounding.specs.Settlings.{is_known}
use Rattle.rules.proofs.lists.Tests.{same, other, same_as, holds, fails, see, never, if_eta}

module _ (pipes : ℕ) (few : pipes ≤ 16) (serial : List Bool) (r : Rounding) where
  -- without rounding
  pub pipe_left : r.base ≡ 0 → (r.pipe ≡ 0 → ⊥) → false ≡ rounding_fits pipes serial r
  unfolding rounding_sound rounding_fits
  pipe_left b p = rw (le-leb pipes 16 few, eq-eqb r.base 0 b, ne_eqb r.pipe 0 p)

  pub sum_tells : r.base ≡ 0 → r.pipe ≡ 0 → eqb r.sum 0 ≡ rounding_fits pipes serial r
  unfolding rounding_sound rounding_fits
  sum_tells b p = rw (le-leb pipes 16 few, eq-eqb r.base 0 b, eq-eqb r.pipe 0 p, if_eta, if_eta)

  -- with rounding
  module _ (b : r.base ≡ 0 → ⊥) where
    pub no_base : is_base r.base ≡ false → false ≡ rounding_fits pipes serial r
    unfolding rounding_sound rounding_fits
    no_base e = rw (le-leb pipes 16 few, ne_eqb r.base 0 b, e)

    pub no_pipe : is_base r.base ≡ true → is_rounding_pipe pipes serial r.pipe ≡ false → false ≡ rounding_fits pipes serial r
    unfolding rounding_sound rounding_fits
    no_pipe e p = rw (le-leb pipes 16 few, ne_eqb r.base 0 b, e, p)

    pub most_tells : is_base r.base ≡ true → is_rounding_pipe pipes serial r.pipe ≡ true → leb r.sum sum_most ≡ rounding_fits pipes serial r
    unfolding rounding_sound rounding_fits
    most_tells e p = rw (le-leb pipes 16 few, ne_eqb r.base 0 b, e, p, if_eta, if_eta)

-- a rounding within its ranges has a known base
pub sound_known : (pipes : ℕ) (serial : List Bool) (r : Rounding) → rounding_sound pipes serial r ≡ true → is_known r.base ≡ true
unfolding rounding_sound is_known
sound_known pipes serial r h = elim (same_as r.base 0) [
  | same e t ↦ rw t
  | other n t ↦ elim (see (is_base r.base)) [ holds b ↦ rw (t, b) | fails b ↦ absurd (never (sym (rw (t, b) at h))) ]
]
