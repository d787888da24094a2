-- The numbers that words are (docs/CONSOLE.md): decimal digits, at least one, and no sign; leading zeros are allowed. A number too
-- large for its field is none.
use Rattle.std.specs.Prelude.{Bool, true, false, List, [], ◌∷◌, ℕ, ◌+◌, ◌-◌, ◌*◌, leb, length, Option, Some, None}
use Rattle.rules.specs.Lists.{must, within}

-- each byte is a digit, `0` (48) to `9` (57)
unfoldable pub digits : List ℕ → Bool
digits [] = true
digits (b ∷ s) = must (within 48 57 b) false (digits s)

-- the value of digits, the first one first, behind digits of a value
unfoldable pub value_from : ℕ → List ℕ → ℕ
value_from n [] = n
value_from n (b ∷ s) = value_from (n * 10 + (b - 48)) s

-- the number that a word is, if it is at most `most`
unfoldable pub number_of : ℕ → List ℕ → Option ℕ
number_of most word =
    must (leb 1 (length word)) None
    (must (digits word) None
    (must (leb (value_from 0 word) most) None
    (Some (value_from 0 word))))

-- the number of a field of 16 bits
abbrev pub short_of : List ℕ → Option ℕ
short_of word = number_of 65535 word
