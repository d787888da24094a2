-- How long the parts of the laid-out memory are, and what its zeros are.
use mathlib.Core.Path.{◌≡◌, refl}
use mathlib.Core.List.{List, [], ◌∷◌}
use Prim.Native.Nat.{ℕ, ◌+◌, ◌≤◌}
use native.Mathlib.Omega.{arith}
use native.Mathlib.Decide.{dec_lt}
use mathlib.Core.Logic.{by_cases}
use lib.ListN.{length, get_or, replicate, length-append, length-replicate, get_or-replicate, get_or-eq_default}
use Rattle.plan.specs.Plan.{Record, total}
use Rattle.loading.specs.Plans.{filled_up}
use Rattle.loading.specs.Layout.{record_fields, records_fields, zeros}

-- how many fields the records have
pub length_fields : (rs : List Record) → length (records_fields rs) ≡ length rs + total rs
unfolding records_fields total
length_fields [] = refl
length_fields (r ∷ rs) = omega (arith, length-append (record_fields r) (records_fields rs), length_fields rs)

-- a list filled up has its length
pub length_filled : {A : Type 0} (n : ℕ) (a : A) (l : List A) → length l ≤ n → length (filled_up n a l) ≡ n
length_filled n a l h = simp (length-append, length-replicate) (omega arith)

pub length_zeros : (n : ℕ) → length (zeros n) ≡ n
unfolding zeros
length_zeros n = length-replicate n 0

pub zeros_at : (n i : ℕ) → get_or (zeros n) i 0 ≡ 0
unfolding zeros
zeros_at n i = by_cases (dec_lt i n)
    (λ h. get_or-replicate n i 0 0 h)
    (λ h. get_or-eq_default (replicate n 0) 0 (rw (length-replicate {A = ℕ} n 0) (omega arith)))
