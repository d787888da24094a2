-- The flags of the pipes, as numbers of a row.
use mathlib.Core.Path.{◌≡◌, refl, sym, ap, ◌∙◌}
use mathlib.Core.Bool.{Bool, true, false, true≢false}
use mathlib.Core.List.{List, [], ◌∷◌}
use Prim.Native.Nat.{ℕ, ◌+◌, ◌-◌, ◌<◌, ◌≤◌}
use native.Mathlib.Omega.{arith}
use borrow.Author.Tests.{lt-ltb, le-ltb, eqb-true}
use lib.Dec.{ltb, leb, eqb}
use lib.ListN.{length, get_or, take, drop, length-drop}
use lib.Seq.{ext_get_or}
use Rattle.std.proofs.lemmas.List.{get_or-take, get_or-drop, length-take-le}
use Rattle.rules.specs.Lists.{if, every}
use Rattle.rules.specs.Ranges.{serial_sound}
use Rattle.rules.proofs.lists.EveryBelow.{every_fails}
use Rattle.rules.proofs.lists.Holding.{every_at}
use Rattle.rules.proofs.lists.ListTables.{get_d_table, length_table}
use Rattle.rules.proofs.lists.Tests.{by_test, lower, upper, below}
use Rattle.ranges.specs.RangeParts.{flag_sound, pipe_row, flag_row, row_within}
use Rattle.ranges.proofs.in_range.Rows.{every_same, swap}

-- a row's size, and what it holds
pub length_pipes : (pipes : ℕ) → length (pipe_row pipes) ≡ 16
unfolding pipe_row
length_pipes pipes = length_table 16 _

pub get_d_pipes : (pipes p : ℕ) → p < 16 → get_or (pipe_row pipes) p 0 ≡ if (ltb p pipes) 2 0
unfolding pipe_row
get_d_pipes pipes p h = get_d_table 16 (λ q. if (ltb q pipes) 2 0) p 0 h

pub length_flags : (serial : List Bool) → length (flag_row serial) ≡ 16
unfolding flag_row
length_flags serial = length_table 16 _

pub get_d_flags : (serial : List Bool) (p : ℕ) → p < 16 → get_or (flag_row serial) p 0 ≡ if (get_or serial p false) 2 0
unfolding flag_row
get_d_flags serial p h = get_d_table 16 (λ q. if (get_or serial q false) 2 0) p 0 h

-- the code's fixed row: 2 at each of its first 16 places, and 0 at the others
abbrev pipes_then_none : List ℕ
pipes_then_none =
    2 ∷ 2 ∷ 2 ∷ 2 ∷ 2 ∷ 2 ∷ 2 ∷ 2 ∷ 2 ∷ 2 ∷ 2 ∷ 2 ∷ 2 ∷ 2 ∷ 2 ∷ 2 ∷ 0 ∷ 0 ∷ 0 ∷ 0 ∷ 0 ∷ 0 ∷ 0 ∷ 0 ∷ 0 ∷ 0 ∷ 0 ∷ 0 ∷ 0 ∷ 0 ∷ 0 ∷ 0 ∷ []

abbrev as_placed : ℕ → Bool
as_placed i = eqb (get_or pipes_then_none i 0) (if (ltb i 16) 2 0)

all_placed : every 32 as_placed ≡ true
unfolding every
all_placed = refl

-- so a plan's row can be read off it
windowed : (pipes p : ℕ) → pipes ≤ 16 → p < 16 → get_or pipes_then_none (16 - pipes + p) 0 ≡ get_or (pipe_row pipes) p 0
windowed pipes p some h =
    let i : ℕ = 16 - pipes + p in
    eqb-true (get_or pipes_then_none i 0) (if (ltb i 16) 2 0) (every_at 32 i as_placed (omega arith) all_placed) ∙
    elim (below p pipes) [
      | lower k t ↦ rw (get_d_pipes pipes p h, t, lt-ltb i 16 (omega arith))
      | upper k t ↦ rw (get_d_pipes pipes p h, t, le-ltb i 16 (omega arith))
    ]

pub window_is : (pipes n : ℕ) → pipes ≤ 16 → n ≡ 16 → take n (drop (16 - pipes) pipes_then_none) ≡ pipe_row pipes
window_is pipes n some n_is =
    let rest : List ℕ = drop (16 - pipes) pipes_then_none in
    let long : length (take n rest) ≡ 16 = rw n_is (length-take-le 16 rest (omega (arith, length-drop (16 - pipes) pipes_then_none))) in
    ext_get_or 0 (take n rest) (pipe_row pipes) (long ∙ sym (length_pipes pipes)) (λ p h.
    let less : p < 16 = omega (arith, long) in
    get_or-take n rest p 0 (omega arith) ∙ get_or-drop (16 - pipes) pipes_then_none p 0 ∙ windowed pipes p some less)

-- a flag is within the row of pipes if it is not set, or its pipe is one
one_flag : (a b : Bool) → leb (if a 2 0) (if b 2 0) ≡ if a b true
one_flag true true = refl
one_flag true false = refl
one_flag false true = refl
one_flag false false = refl

module _ (pipes : ℕ) (serial : List Bool) where
  within_pipes : row_within (flag_row serial) (pipe_row pipes) ≡ every 16 (serial_sound pipes serial)
  unfolding row_within serial_sound
  within_pipes = every_same 16 _ _ (λ p h. rw (get_d_flags serial p h, get_d_pipes pipes p h) (one_flag (get_or serial p false) (ltb p pipes)))

  -- that pipe 0 is serial is tested with the others
  first_fails : get_or serial 0 false ≡ false → flag_sound pipes serial 0 ≡ false
  unfolding flag_sound
  first_fails e = rw e

  flag_as : (p : ℕ) → get_or serial 0 false ≡ true → flag_sound pipes serial p ≡ serial_sound pipes serial p
  unfolding flag_sound serial_sound
  flag_as p e = by_test (get_or serial p false)
      (λ t. rw t)
      (λ t. rw t (lt-ltb 0 p (above p (λ z. true≢false (sym e ∙ rw z at t)))))
    where
      above : (n : ℕ) → (n ≡ 0 → ⊥) → 0 < n
      above n h = omega (arith, h)

  pub flags_are : every 16 (flag_sound pipes serial) ≡ if (get_or serial 0 false) (every 16 (serial_sound pipes serial)) false
  flags_are = by_test (get_or serial 0 false)
      (λ e. rw e (every_same 16 _ _ (λ p h. flag_as p e)))
      (λ e. rw e (sym (every_fails (flag_sound pipes serial) 16 0 (omega arith) (first_fails e))))

  -- the code's two tests
  tested : every 16 (flag_sound pipes serial) ≡ if (row_within (flag_row serial) (pipe_row pipes)) (get_or serial 0 false) false
  tested = flags_are ∙ swap (get_or serial 0 false) (every 16 (serial_sound pipes serial)) ∙ ap (λ b. if b (get_or serial 0 false) false) (sym within_pipes)

  module _ {flags known : List ℕ} {b : Bool} (flags-is : flags ≡ flag_row serial) (known_is : known ≡ pipe_row pipes) (b_is : b ≡ row_within flags known) where
    row_is : b ≡ row_within (flag_row serial) (pipe_row pipes)
    row_is = b_is ∙ rw (flags-is, known_is)

    pub no_pipe_serial : b ≡ false → false ≡ every 16 (flag_sound pipes serial)
    no_pipe_serial e = rw (tested, sym row_is ∙ e)

    pub first_told : b ≡ true → get_or serial 0 false ≡ every 16 (flag_sound pipes serial)
    first_told e = rw (tested, sym row_is ∙ e)
