-- Where a run takes its tokens from: the rules' tables, or the same tables in lent memory.
-- A run looks at its source only by these two calls, so the rules for choices are written over any source.
use Rattle.std.specs.Prelude.{◌≡◌, Bool, true, List, [], ◌∷◌, ℕ}

-- what taking a token gives: nothing left, or a token, and the source after it;
-- or that the source is spoiled, so that taking would go past a table's or a number's range
pub data Taken (X : Type 0) : Type 0 where
  Spoiled : Taken X
  Nothing : X → Taken X
  Took : ℕ → X → Taken X

-- what a token's finish at pipe 0 leaves
pub data Released (X : Type 0) : Type 0 where
  Broken : Released X
  Passed : X → Released X

-- taking a token, a token's finish at pipe 0, and whether every number of the source is within its range
pub record Source (X : Type 0) : Type 0 where
  pub take : X → Taken X
  pub release : ℕ → X → Released X
  pub sound : X → Bool

module _ {X : Type 0} (S : Source X) where
  -- from x the source gives these tokens, each finished before the next is taken, and then closes at z
  pub data Writes : X → List ℕ → X → Type 0 where
    close : {x z : X} → S.sound x ≡ true → S.take x ≡ Nothing z → S.sound z ≡ true → Writes x [] z
    write : {x y x' z : X} {t : ℕ} {ts : List ℕ} →
        S.sound x ≡ true → S.take x ≡ Took t y → S.sound y ≡ true → S.release t y ≡ Passed x' →
        Writes x' ts z → Writes x (t ∷ ts) z
