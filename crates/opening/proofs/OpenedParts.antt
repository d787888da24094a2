-- The counters and the kinds of the pipes at opening, one turn of a walk at a time.
use mathlib.Core.Path.{◌≡◌, sym, ap, ◌∙◌}
use mathlib.Core.Bool.{Bool, false}
use mathlib.Core.List.{List, [], ◌∷◌, ◌++◌, map, map-append, append_assoc}
use Prim.Native.Nat.{ℕ, suc, ◌+◌, ◌-◌, ◌*◌, ◌/◌, ◌%◌, ◌≤◌, ◌<◌}
use native.Mathlib.Omega.{arith}
use native.Mathlib.Numerals.{add-one}
use lib.Dec.{eqb}
use lib.ListN.{length, get_or, take, set, replicate, length-map}
use lib.Seq.{take-suc, set_at, length-take-le}
use Rattle.rules.specs.RunState.{Pipeline}
use Rattle.rules.specs.Choices.{opened_counter}
use Rattle.rules.proofs.lists.Tests.{by_test}
use Rattle.rules.proofs.invariant.Counters.{length_tabled, tabled_used, tabled_unused}
use Rattle.vocabulary.specs.PipeKinds.{kind_of}
use Rattle.vocabulary.specs.PipeKinds.{serial_kind}
use Rattle.opening.specs.Opened.{opened_counters}
use Rattle.state.proofs.in_range.Filling.{Filled, filled_first, filled_store, filled_skip, filled_all}

module _ (serial : List Bool) (pipes lines : ℕ) where
  abbrev frame : Pipeline
  frame = record { pipes = pipes; lines = lines; tokens = 0; serial = serial }

  abbrev value : ℕ → ℕ → ℕ
  value l p = opened_counter l p (get_or serial p false)

  abbrev whole : List ℕ
  whole = opened_counters serial pipes lines

  pub counters_first : Filled whole (replicate 512 0) 0
  counters_first = filled_first whole 512 (length_tabled frame value)

  module _ (narrow : pipes ≤ 16) (few : lines ≤ 32) where
    -- past the pipes of a line, and past the lines, the counters are 0
    unused : (j : ℕ) → j < 512 → (j / 16 < lines → j % 16 < pipes → ⊥) → get_or whole j 0 ≡ 0
    unused j h n =
        let j_is : 16 * (j / 16) + j % 16 ≡ j = omega arith in
        rw j_is at (tabled_unused frame value (j / 16) (j % 16) (omega arith) (omega arith) n)

    -- a counter is stored, a line is done, all lines are done
    pub counters_store : {c : List ℕ} (line pipe : ℕ) {v : ℕ} → line < lines → pipe < pipes → Filled whole c (16 * line + pipe) → v ≡ value line pipe →
        Filled whole (set c (16 * line + pipe) v) (16 * line + (pipe + 1))
    counters_store line pipe h k f e =
        let n_is : 16 * line + pipe + 1 ≡ 16 * line + (pipe + 1) = omega arith in
        rw n_is at (filled_store f (omega (arith, f.size, length_tabled frame value))
        (e ∙ sym (tabled_used frame value line pipe (omega arith) (omega arith) h k)))

    pub counters_line : {c : List ℕ} (line pipe : ℕ) → line < lines → pipe ≤ pipes → pipes ≤ pipe →
        Filled whole c (16 * line + pipe) → Filled whole c (16 * (line + 1))
    counters_line line pipe h a b f = filled_skip f (16 * (line + 1)) (omega arith) (λ j low high. unused j (omega arith) (λ p q. omega arith))

    pub counters_all : {c : List ℕ} (line : ℕ) → lines ≤ line → Filled whole c (16 * line) → c ≡ whole
    counters_all line h f = filled_all f (λ j a b. unused j (omega (arith, length_tabled frame value)) (λ p q. omega arith))

-- whether a byte stands for a serial pipe
serial_byte : (b : ℕ) → serial_kind (kind_of b) ≡ eqb b 83
serial_byte b = by_test (eqb b 83) (λ e. rw e) (λ e. rw e)

-- the kinds of the first pipes, and false for the others
abbrev pub serials_to : List ℕ → ℕ → List Bool
serials_to bytes p = map serial_kind (map kind_of (take p bytes)) ++ replicate (16 - p) false

falses_next : (p : ℕ) → p < 16 → replicate (16 - p) false ≡ false ∷ replicate (16 - (p + 1)) false
falses_next p h = let e : 16 - p ≡ suc (16 - (p + 1)) = omega arith in rw e

module _ (bytes : List ℕ) (few : length bytes ≤ 16) where
  first_kinds : ℕ → List Bool
  first_kinds p = map serial_kind (map kind_of (take p bytes))

  length_kinds : (p : ℕ) → p ≤ length bytes → length (first_kinds p) ≡ p
  unfolding first_kinds
  length_kinds p h = length-map (map kind_of (take p bytes)) serial_kind ∙ length-map (take p bytes) kind_of ∙ length-take-le p bytes h

  kinds_next : (p : ℕ) → p < length bytes → first_kinds (p + 1) ≡ first_kinds p ++ (eqb (get_or bytes p 0) 83 ∷ [])
  unfolding first_kinds
  kinds_next p h = rw (add-one p, take-suc bytes p 0 h, ← serial_byte (get_or bytes p 0))
      (ap (map serial_kind) (map-append kind_of (take p bytes) (get_or bytes p 0 ∷ []))
      ∙ map-append serial_kind (map kind_of (take p bytes)) (kind_of (get_or bytes p 0) ∷ []))

  pub serials_store : {s : List Bool} (p : ℕ) → p < length bytes → s ≡ serials_to bytes p → set s p (eqb (get_or bytes p 0) 83) ≡ serials_to bytes (p + 1)
  unfolding first_kinds
  serials_store p h e =
      rw (
        e,
        falses_next p (omega arith),
        set_at (first_kinds p) false (replicate (16 - (p + 1)) false) (eqb (get_or bytes p 0) 83) p (length_kinds p (omega arith)),
      )
      (sym (ap (λ (l : List Bool). l ++ replicate (16 - (p + 1)) false) (kinds_next p h) ∙ append_assoc (first_kinds p) (eqb (get_or bytes p 0) 83 ∷ []) _))
