-- Lists of a function's first values.
use mathlib.Core.Path.{◌≡◌, refl, ap}
use Prim.Native.Nat.{ℕ, zero, suc, ◌<◌}
use native.Mathlib.Omega.{arith}
use lib.ListN.{length, get_or}
use Rattle.rules.specs.Lists.{table}

-- what a table holds, and how much
pub get_d_table : {A : Type 0} (n : ℕ) (f : ℕ → A) (i : ℕ) (d : A) → i < n → get_or (table n f) i d ≡ f i
unfolding table
get_d_table zero f i d h = absurd (omega arith)
get_d_table (suc n) f zero d h = refl
get_d_table (suc n) f (suc i) d h = get_d_table n (λ j. f (suc j)) i d (omega arith)

pub length_table : {A : Type 0} (n : ℕ) (f : ℕ → A) → length (table n f) ≡ n
unfolding table
length_table zero f = refl
length_table (suc n) f = ap suc (length_table n (λ j. f (suc j)))
