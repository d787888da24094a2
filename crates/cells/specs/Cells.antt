-- Cells in a file: four bytes each, low byte first.
use Rattle.std.specs.Prelude.{List, [], ◌∷◌, ℕ, ◌+◌, ◌*◌, get_or}

-- the cell at a place
abbrev pub cell_at : List ℕ → ℕ → ℕ
cell_at s i = get_or s i 0 + 256 * get_or s (i + 1) 0 + 65536 * get_or s (i + 2) 0 + 16777216 * get_or s (i + 3) 0

-- the cells are the file's whole four-byte numbers, low byte first; fewer than four bytes behind them are in none
unfoldable pub cells_in : List ℕ → List ℕ
cells_in [] = []
cells_in (a ∷ []) = []
cells_in (a ∷ b ∷ []) = []
cells_in (a ∷ b ∷ c ∷ []) = []
cells_in (a ∷ b ∷ c ∷ d ∷ s) = (a + 256 * b + 65536 * c + 16777216 * d) ∷ cells_in s
