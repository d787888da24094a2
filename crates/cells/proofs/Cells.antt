-- The cells of a file are its whole four-byte numbers, one a turn.
use mathlib.Core.Path.{◌≡◌, refl, sym, ap, ◌∙◌}
use mathlib.Core.List.{List, [], ◌∷◌, ◌++◌, map, append_assoc}
use Prim.Native.Nat.{ℕ, zero, suc, ◌+◌, ◌*◌, ◌/◌, ◌<◌, min}
use native.Mathlib.Omega.{arith}
use native.Mathlib.Numerals.{add-one}
use lib.ListN.{length, get_or, take, drop, set}
use lib.Seq.{drop-cons, set_at}
use mir.Syntax.{w32}
use Rattle.std.specs.Int.{from_le_bytes}
use Rattle.std.specs.Simd.{first_chunks}
use Rattle.std.proofs.lemmas.List.{take_min, take_more, length-take-le, length-map, length-take, get_or-take, get_or-map}
use Rattle.cells.specs.Cells.{cells_in}

-- the cells are the numbers of the chunks of four bytes
chunked : (n : ℕ) (s : List ℕ) → length s / 4 ≡ n → cells_in s ≡ map (from_le_bytes w32) (first_chunks 4 n s)
unfolding cells_in
chunked zero [] e = refl
chunked zero (a ∷ []) e = refl
chunked zero (a ∷ b ∷ []) e = refl
chunked zero (a ∷ b ∷ c ∷ []) e = refl
chunked zero (a ∷ b ∷ c ∷ d ∷ s) e = absurd (omega arith)
chunked (suc n) [] e = absurd (omega arith)
chunked (suc n) (a ∷ []) e = absurd (omega arith)
chunked (suc n) (a ∷ b ∷ []) e = absurd (omega arith)
chunked (suc n) (a ∷ b ∷ c ∷ []) e = absurd (omega arith)
chunked (suc n) (a ∷ b ∷ c ∷ d ∷ s) e =
    let first : a + 256 * b + 65536 * c + 16777216 * d ≡ from_le_bytes w32 (a ∷ b ∷ c ∷ d ∷ []) = omega arith in
    rw (first, chunked n s (omega arith))

module _ (s : List ℕ) {chunks : List (List ℕ)} (e : chunks ≡ first_chunks 4 (length s / 4) s) where
  cells_are : cells_in s ≡ map (from_le_bytes w32) chunks
  cells_are = chunked (length s / 4) s refl ∙ ap (map (from_le_bytes w32)) (sym e)

  pub cells_count : length (cells_in s) ≡ length chunks
  cells_count = ap length cells_are ∙ length-map chunks (from_le_bytes w32)

  pub cell_is : (n i : ℕ) → i < length (take n chunks) → from_le_bytes w32 (get_or (take n chunks) i []) ≡ get_or (cells_in s) i 0
  cell_is n i h =
      let a : i < n = omega (arith, length-take n chunks) in
      let b : i < length chunks = omega (arith, length-take n chunks) in
      rw (get_or-take n chunks i, cells_are, get_or-map (from_le_bytes w32) chunks i [] 0)

module _ (whole old : List ℕ) {cells : List ℕ} (i : ℕ) (e : cells ≡ take i whole ++ drop i old) where
  -- a cell that is stored behind those before it
  pub store_more : i < length whole → i < length old → set cells i (get_or whole i 0) ≡ take (i + 1) whole ++ drop (i + 1) old
  store_more h k =
      let front : length (take i whole) ≡ i = length-take-le i whole (omega arith) in
      rw (e, drop-cons old i 0, set_at (take i whole) (get_or old i 0) (drop (suc i) old) (get_or whole i 0) i front, take_more whole i 0 h, add-one i)
      (sym (append_assoc (take i whole) (get_or whole i 0 ∷ []) (drop (suc i) old)))

  -- all that there are, or as many as fit
  pub store_all : i ≡ min (length old) (length whole) → cells ≡ take (length old) whole ++ drop i old
  store_all h = e ∙ ap (λ t. t ++ drop i old) (rw (h, take_min))
