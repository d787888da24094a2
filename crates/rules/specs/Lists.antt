-- Lists and tests that the rules are written with.
use Rattle.std.specs.Prelude.{Bool, true, false, List, [], ◌∷◌, ℕ, zero, suc, ◌+◌, ◌<◌, eqb, leb}
pub use Rattle.vocabulary.specs.Branches.{if}

-- a chain of rules, in their order: where a test that must hold fails, what is returned instead of all that follows
abbrev pub must : {A : Type 0} → Bool → A → A → A
must test instead rest = if test rest instead

-- the same for a test that must not hold
abbrev pub must_not : {A : Type 0} → Bool → A → A → A
must_not test instead rest = if test instead rest

-- all of some tests hold
abbrev pub all : List Bool → Bool
all [] = true
all (b ∷ l) = if b (all l) false

-- a number is from `low` to `high`
unfoldable pub within : ℕ → ℕ → ℕ → Bool
within low high n = all (leb low n ∷ leb n high ∷ [])

-- a test holds of each number below `n`
unfoldable pub every : ℕ → (ℕ → Bool) → Bool
every zero f = true
every (suc n) f = if (f n) (every n f) false

-- the elements that pass a test, in their order
unfoldable pub keep : {A : Type 0} → (A → Bool) → List A → List A
keep f [] = []
keep f (a ∷ l) = if (f a) (a ∷ keep f l) (keep f l)

-- whether an element passes a test
unfoldable pub any : {A : Type 0} → (A → Bool) → List A → Bool
any f [] = false
any f (a ∷ l) = if (f a) true (any f l)

-- whether a number is in a list
unfoldable pub has : List ℕ → ℕ → Bool
has [] n = false
has (m ∷ l) n = if (eqb m n) true (has l n)

-- whether a list is empty
unfoldable pub empty : {A : Type 0} → List A → Bool
empty [] = true
empty (a ∷ l) = false

-- the numbers from i on, n of them
unfoldable pub range : ℕ → ℕ → List ℕ
range i zero = []
range i (suc n) = i ∷ range (suc i) n

-- the list of a function's first values
unfoldable pub table : {A : Type 0} → ℕ → (ℕ → A) → List A
table zero f = []
table (suc n) f = f 0 ∷ table n (λ i. f (suc i))

-- how many times a number comes in a list
unfoldable pub times : ℕ → List ℕ → ℕ
times n [] = 0
times n (m ∷ l) = if (eqb m n) 1 0 + times n l

-- 1 where two pairs of numbers are the same, else 0
unfoldable pub same_pair : ℕ → ℕ → ℕ → ℕ → ℕ
same_pair a b c d = if (eqb c a) (if (eqb d b) 1 0) 0

-- each element of a list is as said
abbrev pub Every : {A : Type 0} → (A → Type 0) → List A → Type 0
Every P [] = Unit {0}
Every P (a ∷ l) = P a × Every P l

-- each number of a list is below a bound
abbrev pub Below : ℕ → List ℕ → Type 0
Below n l = Every (λ m. m < n) l
