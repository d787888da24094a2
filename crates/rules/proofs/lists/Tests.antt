-- A test taken by its two outcomes, each with what it says of the numbers; and chains of tests.
use mathlib.Core.Path.{◌≡◌, refl, sym}
use mathlib.Core.Bool.{Bool, true, false, not, ◌&&◌}
use Prim.Native.Nat.{ℕ, ◌≤◌, ◌<◌}
use lib.Dec.{ltb, eqb}
use borrow.Author.Tests.{ltb-true, ltb-false, eqb-true, eqb-false, le-leb, lt-leb, lt-ltb, le-ltb, eq-eqb, ne_eqb}
use Rattle.rules.specs.Lists.{if, same_pair}
use native.Mathlib.Omega.{arith}
pub use Rattle.vocabulary.proofs.Branches.{if_holds, if_fails}

-- by the two outcomes of a test
pub by_test : {C : Type 0} (b : Bool) → (b ≡ true → C) → (b ≡ false → C) → C
by_test true f g = f refl
by_test false f g = g refl

pub if_not : {A : Type 0} (b : Bool) (x y : A) → if (not b) x y ≡ if b y x
if_not true x y = refl
if_not false x y = refl

pub if_same : {A : Type 0} (b : Bool) (x : A) → if b x x ≡ x
if_same true x = refl
if_same false x = refl

pub if_eta : (b : Bool) → if b true false ≡ b
if_eta true = refl
if_eta false = refl

-- two tests as one, with no branch
pub and_if : (a b : Bool) → (a && b) ≡ if a b false
and_if true b = refl
and_if false b = refl

-- two tests are equal if each holds where the other does
pub bool_ext : (a b : Bool) → (a ≡ true → b ≡ true) → (b ≡ true → a ≡ true) → a ≡ b
bool_ext true true f g = refl
bool_ext true false f g = sym (f refl)
bool_ext false true f g = g refl
bool_ext false false f g = refl

pub not_holds : (b : Bool) → b ≡ false → not b ≡ true
not_holds b e = rw e

pub not_fails : (b : Bool) → b ≡ true → not b ≡ false
not_fails b e = rw e

-- a chain of tests is answered from the facts of the code's branches by `search tests`
pub ruleset tests = (if_holds, if_fails, not_holds, not_fails, le-leb, lt-leb, lt-ltb, le-ltb, eq-eqb, ne_eqb)

-- one number is below another, or not
pub data Below (a b : ℕ) : Type 0 where
  lower : a < b → ltb a b ≡ true → Below a b
  upper : b ≤ a → ltb a b ≡ false → Below a b

-- two numbers are the same, or not
pub data Same (a b : ℕ) : Type 0 where
  same : a ≡ b → eqb a b ≡ true → Same a b
  other : (a ≡ b → ⊥) → eqb a b ≡ false → Same a b

-- a test holds, or fails
pub data Seen (b : Bool) : Type 0 where
  holds : b ≡ true → Seen b
  fails : b ≡ false → Seen b

-- each test is one of the two
pub see : (b : Bool) → Seen b
see true = holds refl
see false = fails refl

pub below : (a b : ℕ) → Below a b
below a b = elim (see (ltb a b)) [ holds e ↦ lower (ltb-true a b e) e | fails e ↦ upper (ltb-false a b e) e ]

pub same_as : (a b : ℕ) → Same a b
same_as a b = elim (see (eqb a b)) [ holds e ↦ same (eqb-true a b e) e | fails e ↦ other (eqb-false a b e) e ]

-- a number above 0 is not 0
pub pos_eqb : {n : ℕ} → 0 < n → eqb n 0 ≡ false
pos_eqb {n} h = ne_eqb n 0 (omega arith)

-- the two truth values differ
pub never : ◌≡◌ {A = Bool} true false → ⊥
never e = let z : ◌≡◌ {A = ℕ} 0 1 = cc in omega arith

-- the values of `same_pair`
pub same_pair_lem : (a b : ℕ) → same_pair a b a b ≡ 1
unfolding same_pair
same_pair_lem a b = rw (eq-eqb a a refl, eq-eqb b b refl)

pub other_pair : (a b c d : ℕ) → (c ≡ a → d ≡ b → ⊥) → same_pair a b c d ≡ 0
unfolding same_pair
other_pair a b c d n = elim (same_as c a) [ same e t ↦ rw (t, ne_eqb d b (n e)) | other e t ↦ rw t ]
