-- The lines of a text, and the rest of a text whose last line is not whole.
use Rattle.std.specs.Prelude.{◌≡◌, true, List, [], ◌∷◌, ◌++◌, ℕ, ◌+◌, ◌-◌, eqb, leb, length, take, drop}
use Rattle.rules.specs.Lists.{if, must, has}
use Rattle.words.specs.Words.{up_to, past, onto}

-- the whole lines of a text: those that a newline (10) ends; a byte that none follows is in no such line
unfoldable pub lines_in : List ℕ → List (List ℕ)
lines_in [] = []
lines_in (b ∷ s) = if (eqb b 10) ([] ∷ lines_in s) (onto b (lines_in s))

-- what follows the last newline: the part of a line that is not whole
unfoldable pub rest_of : List ℕ → List ℕ
rest_of [] = []
rest_of (b ∷ s) = if (has s 10) (rest_of s) (if (eqb b 10) s (b ∷ s))

-- a buffer's bytes from one place up to another, moved to its front: how many they are, and the buffer
unfoldable pub moved_up : ℕ → ℕ → List ℕ → ℕ × List ℕ
moved_up from to s =
    must (leb to (length s)) (0, s)
    (must (leb from to) (0, s)
    (to - from, take (to - from) (drop from s) ++ drop (to - from) s))

-- the first whole line of a text, and what follows its newline
pub record FirstLine (text line behind : List ℕ) : Type 0 where
  pub some : has text 10 ≡ true
  pub line_is : line ≡ up_to 10 text
  pub behind_is : behind ≡ past 10 text
  pub size : length line + 1 + length behind ≡ length text
