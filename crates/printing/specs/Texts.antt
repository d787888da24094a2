-- The program's lines, in the texts that they are put together of: "Numbers are printed in decimal, single spaces, a newline ending
-- every line." (01)
use Rattle.std.specs.Prelude.{List, [], ◌∷◌, ◌++◌, ℕ, decimal}
use Rattle.std.specs.List.{flat_map}
use Rattle.rules.specs.Choices.{Answer, Started, Finished, Stopped, Refused}

-- a text behind a space; a newline
abbrev pub spaced : List ℕ → List (List ℕ)
spaced text = (32 ∷ []) ∷ text ∷ []

abbrev pub newline : List (List ℕ)
newline = (10 ∷ []) ∷ []

-- numbers of some kind, each behind a space, by the text that each has
abbrev pub numbers_texts_by : {N : Type 0} → (N → List ℕ) → List N → List (List ℕ)
numbers_texts_by text = flat_map (λ n. spaced (text n))

-- a line of a letter and such numbers
unfoldable pub line_texts_by : {N : Type 0} → (N → List ℕ) → List ℕ → List N → List (List ℕ)
line_texts_by text letter ns = letter ∷ (numbers_texts_by text ns ++ newline)

-- a line of a letter and numbers
abbrev pub line_texts : List ℕ → List ℕ → List (List ℕ)
line_texts = line_texts_by decimal

-- `R n`
unfoldable pub refusal_texts : ℕ → List (List ℕ)
refusal_texts n = line_texts (82 ∷ []) (n ∷ [])

-- "each choice prints a line: `S l p t k` started, `F l p t k` finished, `X l` stopped, or `R n`", and "Events end with the worker
-- number, also in program output" (02, 2.14)
unfoldable pub answer_texts : Answer → List (List ℕ)
answer_texts (Started line pipe token place worker) = line_texts (83 ∷ []) (line ∷ pipe ∷ token ∷ place ∷ worker ∷ [])
answer_texts (Finished line pipe token place worker) = line_texts (70 ∷ []) (line ∷ pipe ∷ token ∷ place ∷ worker ∷ [])
answer_texts (Stopped line worker) = line_texts (88 ∷ []) (line ∷ worker ∷ [])
answer_texts (Refused number) = refusal_texts number
