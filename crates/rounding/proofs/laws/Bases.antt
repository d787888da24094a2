-- The bases of the code are those of the paper.
use mathlib.Core.Path.{◌≡◌, sym, ap, ◌∙◌}
use mathlib.Core.Bool.{true, false}
use Prim.Native.Nat.{ℕ, ◌+◌, ◌-◌, ◌/◌, ◌%◌, ◌≤◌, ◌<◌}
use Rattle.std.specs.Prelude.{Ok, Err}
use Rattle.std.specs.Result.{is_ok}
use Rattle.vocabulary.specs.declared.refusal.Refusal.{Refusal}
use native.Mathlib.Omega.{arith}
use Rattle.rules.specs.Rounding.{published, is_base}
use Rattle.rules.proofs.lists.Tests.{same, other, same_as}
use Rattle.rules.proofs.rounding.Sums.{IsBase, three, five}
use Rattle.rounding.specs.Bases.{base_of, base_in}
use Rattle.rounding.specs.declared.base.Base.{Base}
use Rattle.rounding.specs.declared.base.Base.TheVariants.{Three, Five}

pub base_is : (b : Base) → IsBase (base_of b)
base_is Three = three
base_is Five = five

-- the multiple of a base that is nearest to a sum
pub rounds_up : {b : ℕ} → IsBase b → (sum : ℕ) → b / 2 < sum % b → sum - sum % b + b ≡ published b sum
unfolding published
rounds_up three sum h = omega arith
rounds_up five sum h = omega arith

pub rounds_down : {b : ℕ} → IsBase b → (sum : ℕ) → sum % b ≤ b / 2 → sum - sum % b ≡ published b sum
unfolding published
rounds_down three sum h = omega arith
rounds_down five sum h = omega arith

-- it is a 32-bit number if the sum is
pub no_wrap : {b : ℕ} → IsBase b → (sum : ℕ) → sum ≤ 4294967295 → b / 2 < sum % b → sum - sum % b + b ≤ 4294967295
no_wrap three sum m h = omega arith
no_wrap five sum m h = omega arith

-- a number is a base if it stands for one
pub base_test : (n : ℕ) → is_ok (base_in n) ≡ is_base n
unfolding is_base
base_test n = elim (same_as n 3) [
  | same q t ↦ rw t
  | other d t ↦ elim (same_as n 5) [ same q u ↦ rw (t, u) | other f u ↦ rw (t, u) ]
]

pub base_some : (n : ℕ) {b : Base} → Ok b ≡ base_in n → is_base n ≡ true
base_some n e = sym (base_test n) ∙ ap is_ok (sym e)

-- else it is refused with 17
pub base_none : (n : ℕ) {why : Refusal} → Err why ≡ base_in n → (why ≡ Refusal.Base) × (is_base n ≡ false)
base_none n {why} e = elim (same_as n 3) [
  | same q t ↦ let w : Err why ≡ Ok Three = rw t at e in cc
  | other d t ↦ elim (same_as n 5) [
    | same q u ↦ let w : Err why ≡ Ok Five = rw (t, u) at e in cc
    | other f u ↦ let w : Err why ≡ Err Refusal.Base = rw (t, u) at e in (cc, sym (base_test n) ∙ ap is_ok (sym e))
  ]
]

-- no base is 0
pub not_zero : {b : ℕ} → IsBase b → 0 < b
not_zero three = omega arith
not_zero five = omega arith
