-- Words of a line: texts between stops, such as spaces or line ends.
use Rattle.std.specs.Prelude.{Bool, true, false, List, [], ◌∷◌, ℕ, eqb}
use Rattle.rules.specs.Lists.{if, must, must_not}

-- what stands before the first stop; all where there is none
unfoldable pub up_to : ℕ → List ℕ → List ℕ
up_to stop [] = []
up_to stop (b ∷ s) = must_not (eqb b stop) [] (b ∷ up_to stop s)

-- what stands after it; nothing where there is none
unfoldable pub past : ℕ → List ℕ → List ℕ
past stop [] = []
past stop (b ∷ s) = if (eqb b stop) s (past stop s)

-- a byte before the first of some texts
abbrev pub onto : ℕ → List (List ℕ) → List (List ℕ)
onto b [] = []
onto b (text ∷ texts) = (b ∷ text) ∷ texts

-- the words of a text, a single stop between each two: one more than there are stops, so that a word may be empty
unfoldable pub words_in : ℕ → List ℕ → List (List ℕ)
words_in stop [] = [] ∷ []
words_in stop (b ∷ s) = if (eqb b stop) ([] ∷ words_in stop s) (onto b (words_in stop s))

-- whether two texts are the same
unfoldable pub same : List ℕ → List ℕ → Bool
same [] [] = true
same [] (c ∷ t) = false
same (b ∷ s) [] = false
same (b ∷ s) (c ∷ t) = must (eqb b c) false (same s t)
