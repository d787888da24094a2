-- Spans of tokens, runs of stores and marks, and walks over cells, one step at a time; and what stores leave alone.
use mathlib.Core.Path.{◌≡◌, refl, sym, ap, ◌∙◌}
use mathlib.Core.List.{List, [], ◌∷◌, ◌++◌}
use Prim.Native.Nat.{ℕ, suc, ◌+◌, ◌-◌, ◌<◌, ◌≤◌}
use native.Mathlib.Omega.{arith}
use native.Mathlib.Numerals.{add-one}
use lib.ListN.{length, get_or, take, drop, set, length-append, take-append-drop}
use lib.Seq.{length-take-le, length-slice, sets, sets-eq, slice, take-set-le, drop-set-lt, take-take, drop-drop, take-add, take_at, drop_at}
use lib.Seq.{get_or-take, get_or-drop, slice-cons, slice_empty}
use Rattle.tables.specs.State.{span, marks}
use Rattle.rules.specs.Lists.{range}

-- the facts' part of the memory has its whole length
pub facts_length : (m : List ℕ) → 32768 ≤ length m → length (take 20480 m) ≡ 20480
facts_length m h = length-take-le 20480 m (omega arith)

-- a span is empty from its end on, and begins with its first token before
pub span_nil : (i n : ℕ) → n ≤ i → span i n ≡ []
unfolding range
span_nil i n h =
    let e : n - i ≡ 0 = omega arith in
    rw e

pub span_cons : (i n : ℕ) → i < n → span i n ≡ i ∷ span (i + 1) n
unfolding range
span_cons i n h =
    let e : n - i ≡ suc (n - suc i) = omega arith in
    rw (add-one i, e)

-- what is left to do at a step of a loop that stores, or marks, a span
module _ (m : List ℕ) (at i n : ℕ) (more : i < n) where
  pub sets_next : sets m at (span i n) ≡ sets (set m at i) (at + 1) (span (i + 1) n)
  sets_next = rw (span_cons i n more, add-one at)

pub sets_done : (m : List ℕ) (at i n : ℕ) → n ≤ i → sets m at (span i n) ≡ m
sets_done m at i n h = rw (span_nil i n h)

-- two memories with the same cells below one, or from one on, have the same further down, or up, and the same single cells
module _ (m m' : List ℕ) (n k : ℕ) where
  pub take_less : take n m' ≡ take n m → k ≤ n → take k m' ≡ take k m
  take_less e h = sym (take-take k n m' h) ∙ ap (λ (l : List ℕ). take k l) e ∙ take-take k n m h

  pub drop_more : drop n m' ≡ drop n m → n ≤ k → drop k m' ≡ drop k m
  drop_more e h =
      let k-is : n + (k - n) ≡ k = omega arith in
      rw k-is at (sym (drop-drop (k - n) n m') ∙ ap (λ (l : List ℕ). drop (k - n) l) e ∙ drop-drop (k - n) n m)

  pub cell_below : take n m' ≡ take n m → k < n → get_or m' k 0 ≡ get_or m k 0
  cell_below e h = sym (get_or-take n m' k 0 h) ∙ ap (λ (l : List ℕ). get_or l k 0) e ∙ get_or-take n m k 0 h

  pub cell_from : drop n m' ≡ drop n m → n ≤ k → get_or m' k 0 ≡ get_or m k 0
  cell_from e h =
      let k-is : n + (k - n) ≡ k = omega arith in
      rw k-is at (sym (get_or-drop n m' (k - n) 0) ∙ ap (λ (l : List ℕ). get_or l (k - n) 0) e ∙ get_or-drop n m (k - n) 0)

-- a store, where a list of values is left to store
pub sets_store : {whole : List ℕ} (m : List ℕ) (at : ℕ) {vs ws : List ℕ} {u v : ℕ} → whole ≡ sets m at vs → vs ≡ v ∷ ws → u ≡ v →
    whole ≡ sets (set m at u) (at + 1) ws
sets_store m at e vs-are u-is = rw (u-is, add-one at) (rw vs-are at e)

pub sets_none : {whole : List ℕ} (m : List ℕ) (at : ℕ) {vs : List ℕ} → whole ≡ sets m at vs → vs ≡ [] → m ≡ whole
sets_none m at e vs-are = sym (rw vs-are at e)

-- a mark, where a list of tokens is left to mark
pub marks_store : {whole : List ℕ} (m : List ℕ) (s : ℕ) {ts us : List ℕ} {t u : ℕ} → whole ≡ marks m s ts → ts ≡ t ∷ us → u ≡ t →
    whole ≡ marks (set m (16384 + u) s) s us
unfolding marks
marks_store m s e ts-are u-is = rw u-is (rw ts-are at e)

pub marks_none : {whole : List ℕ} (m : List ℕ) (s : ℕ) {ts : List ℕ} → whole ≡ marks m s ts → ts ≡ [] → m ≡ whole
unfolding marks
marks_none m s e ts-are = sym (rw ts-are at e)

-- a run of stores leaves the cells before it and behind it alone, and its own cells hold the values
pub take_sets : (vs m : List ℕ) (i n : ℕ) → n ≤ i → take n (sets m i vs) ≡ take n m
take_sets [] m i n h = refl
take_sets (v ∷ vs) m i n h = take_sets vs (set m i v) (suc i) n (omega arith) ∙ take-set-le n m i v h

pub drop_sets : (vs m : List ℕ) (i n : ℕ) → i + length vs ≤ n → drop n (sets m i vs) ≡ drop n m
drop_sets [] m i n h = refl
drop_sets (v ∷ vs) m i n h = drop_sets vs (set m i v) (suc i) n (omega arith) ∙ drop-set-lt n m i v (omega arith)

pub slice_before : (vs m : List ℕ) (i f n : ℕ) → n ≤ i → slice f n (sets m i vs) ≡ slice f n m
slice_before vs m i f n h = ap (λ (l : List ℕ). drop f l) (take_sets vs m i n h)

pub slice_from : (m : List ℕ) (f n : ℕ) → f ≤ length m → slice f (f + n) m ≡ take n (drop f m)
slice_from m f n h = rw (take-add f n m) (drop_at (take f m) (take n (drop f m)) f (length-take-le f m h))

pub slice_sets : (vs m : List ℕ) (i : ℕ) → i + length vs ≤ length m → slice i (i + length vs) (sets m i vs) ≡ vs
slice_sets vs m i h =
    let e : length (take i m ++ vs) ≡ i + length vs = simp (length-append, length-take-le i m (omega arith)) in
    rw (sets-eq vs m i h, take_at (take i m ++ vs) (drop (i + length vs) m) (i + length vs) e)
    (drop_at (take i m) vs i (length-take-le i m (omega arith)))

-- cells stored again leave the memory as it is
pub sets_slice : (m : List ℕ) (i n : ℕ) → i + n ≤ length m → sets m i (slice i (i + n) m) ≡ m
sets_slice m i n h =
    let long : length (slice i (i + n) m) ≡ n = length-slice i (i + n) m h ∙ omega arith in
    rw (sets-eq (slice i (i + n) m) m i (omega arith), long, slice_from m i n (omega arith), ← take-add i n m) (take-append-drop (i + n) m)

-- a walk over the cells from one up to another: none is left from the end on, and before it the next one comes first
pub cells_end : (m : List ℕ) (cell last : ℕ) → cell ≤ last → last ≤ cell → slice cell last m ≡ []
cells_end m cell last l h = let e : cell ≡ last = omega arith in rw e (slice_empty last m)

pub cells_next : (m : List ℕ) (cell last : ℕ) → cell < last → last ≤ length m → slice cell last m ≡ get_or m cell 0 ∷ slice (cell + 1) last m
cells_next m cell last h l = rw (add-one cell) (slice-cons cell last m 0 h l)

-- the same over the cells of a part, from one up to another of those that begin at `base`: none is left from the end on, and before it the next one comes first
module _ (m : List ℕ) (base cell held : ℕ) where
  pub row_end : cell ≤ held → held ≤ cell → slice (base + cell) (base + held) m ≡ []
  row_end l h = let e : cell ≡ held = omega arith in rw e (slice_empty (base + held) m)

  pub row_next : cell < held → base + held ≤ length m → slice (base + cell) (base + held) m ≡ get_or m (base + cell) 0 ∷ slice (base + (cell + 1)) (base + held) m
  row_next h l =
      let e : suc (base + cell) ≡ base + (cell + 1) = omega arith in
      rw (← e) (slice-cons (base + cell) (base + held) m 0 (omega arith) l)
