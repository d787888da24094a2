-- Who passes by an answer, and what a choice does to T and the figures, case by case.
use mathlib.Core.Path.{◌≡◌, refl, sym, ap, ◌∙◌}
use mathlib.Core.Bool.{Bool, true, false}
use mathlib.Core.List.{List}
use Prim.Native.Nat.{ℕ, ◌+◌, ◌-◌, ◌≤◌, ◌<◌}
use native.Mathlib.Omega.{arith}
use lib.Dec.{leb, eqb}
use lib.ListN.{get_or, set}
use Rattle.std.specs.Prelude.{Option, Some, None}
use Rattle.std.specs.Result.{result_ok}
use borrow.Author.Tests.{le-leb, lt-leb, leb-true, leb-false, eq-eqb, ne_eqb}
use Rattle.rules.specs.Choices.{Answer, Started, Finished, Stopped, Refused}
use Rattle.rules.specs.Rounding.{rise, sum_most, is_base, Rounding, with_sum, NonePasses, finisher, passing, sum_after}
use Rattle.rules.specs.Rounding as paper
use Rattle.rules.proofs.lists.Tests.{same, other, same_as, holds, fails, see, never, if_same}
use Rattle.rules.proofs.rounding.Passers.{nobody, someone, seen, passing_some}
use Rattle.rounding.specs.Bases.{base_of, base_in}
use Rattle.rounding.specs.Passings.{pass_of}
use Rattle.rounding.specs.Settlings.{passer, is_known, Settling, Spoils, Leaves, settle_by}
use Rattle.rounding.specs.declared.base.Base.{Base}
use Rattle.rounding.specs.declared.base.Base.TheVariants.{Three, Five}
use Rattle.rounding.specs.declared.sums.Passed.{Passed}

module _ (r : Rounding) where
  -- without rounding nobody passes
  pub without : r.base ≡ 0 → (a : Answer) → NonePasses ≡ passing r a
  unfolding passing
  without b a = rw (eq-eqb r.base 0 b)

  -- who finishes the pipe passes
  pub here : (r.base ≡ 0 → ⊥) → (l p t k w : ℕ) → p ≡ r.pipe → paper.Passes t ≡ passing r (Finished l p t k w)
  unfolding passing finisher
  here b l p t k w e = rw (ne_eqb r.base 0 b, eq-eqb p r.pipe e)

  pub elsewhere : (r.base ≡ 0 → ⊥) → (l p t k w : ℕ) → (p ≡ r.pipe → ⊥) → NonePasses ≡ passing r (Finished l p t k w)
  unfolding passing finisher
  elsewhere b l p t k w e = rw (ne_eqb r.base 0 b, ne_eqb p r.pipe e)

  -- and nobody by another answer
  pub by_start : (l p t k w : ℕ) → NonePasses ≡ passing r (Started l p t k w)
  unfolding passing finisher
  by_start l p t k w = sym (if_same (eqb r.base 0) NonePasses)

  pub by_stop : (l w : ℕ) → NonePasses ≡ passing r (Stopped l w)
  unfolding passing finisher
  by_stop l w = sym (if_same (eqb r.base 0) NonePasses)

  pub by_refusal : (n : ℕ) → NonePasses ≡ passing r (Refused n)
  unfolding passing finisher
  by_refusal n = sym (if_same (eqb r.base 0) NonePasses)

-- the base of a number
pub base_known : (n : ℕ) (b : Base) → Some b ≡ result_ok (base_in n) → base_of b ≡ n
base_known n b e = elim (same_as n 3) [
  | same q t ↦ let w : Some b ≡ Some Three = rw t at e in let v : b ≡ Three = cc in ap base_of v ∙ sym q
  | other d t ↦ elim (same_as n 5) [
    | same q u ↦ let w : Some b ≡ Some Five = rw (t, u) at e in let v : b ≡ Five = cc in ap base_of v ∙ sym q
    | other f u ↦ let w : Some b ≡ None = rw (t, u) at e in cc
  ]
]

-- a number that is a base stands for one
base_there : (n : ℕ) → is_base n ≡ true → None ≡ result_ok (base_in n) → ⊥
unfolding is_base
base_there n h e = elim (same_as n 3) [
  | same q t ↦ let w : None ≡ Some Three = rw t at e in cc
  | other d t ↦ elim (same_as n 5) [
    | same q u ↦ let w : None ≡ Some Five = rw (t, u) at e in cc
    | other f u ↦ never (sym (rw (t, u) at h))
  ]
]

module _ (r : Rounding) (a : Answer) (cells figures : List ℕ) where
  -- a base that is none
  pub unknown : is_known r.base ≡ false → Spoils figures ≡ settle_by r a cells figures
  unfolding settle_by
  unknown h = rw h

  module _ (h : is_known r.base ≡ true) where
    -- T past its limit already
    pub past : sum_most < r.sum → Spoils figures ≡ settle_by r a cells figures
    unfolding settle_by
    past m = elim (seen (passing r a)) [
      | nobody e ↦ rw (h, e, lt-leb r.sum sum_most m)
      | someone t e ↦ rw (h, e, lt-leb (r.sum + get_or cells t 0) sum_most (omega arith))
    ]

    -- nobody passes
    pub kept : r.sum ≤ sum_most → NonePasses ≡ passing r a → Leaves r figures ≡ settle_by r a cells figures
    unfolding settle_by
    kept m e = rw (h, ← e, le-leb r.sum sum_most m)

    -- a token passes
    module _ (t : ℕ) (e : paper.Passes t ≡ passing r a) where
      some_base : is_base r.base ≡ true
      unfolding is_known
      some_base = rw (ne_eqb r.base 0 (passing_some r a t (sym e))) at h

      -- then its base is known
      pub numbered : {o : Settling} → None ≡ result_ok (base_in r.base) → o ≡ settle_by r a cells figures
      numbered u = absurd (base_there r.base some_base u)

      module _ (b : Base) (known : Some b ≡ result_ok (base_in r.base)) where
        -- T would pass its limit
        over_most : pass_of (base_of b) r.sum (get_or cells t 0) ≡ None → Spoils figures ≡ settle_by r a cells figures
        unfolding settle_by pass_of
        over_most m = elim (see (leb (r.sum + get_or cells t 0) sum_most)) [
          | fails q ↦ rw (h, ← e, q)
          | holds q ↦ let w : Some _ ≡ None = rw q at m in cc
        ]

        -- or not
        within_most : (p : Passed) → pass_of (base_of b) r.sum (get_or cells t 0) ≡ Some p →
            Leaves (with_sum r p.sum) (set figures t p.figure) ≡ settle_by r a cells figures
        unfolding settle_by pass_of
        within_most p m = elim (see (leb (r.sum + get_or cells t 0) sum_most)) [
          | fails q ↦ let w : None ≡ Some p = rw q at m in cc
          | holds q ↦
              let told : Passed = record { sum = r.sum + get_or cells t 0; figure = rise (base_of b) r.sum (get_or cells t 0) } in
              let w : Some told ≡ Some p = rw q at m in
              let v : p ≡ told = cc in
              rw (h, ← e, q)
              (ap (λ (p : Passed). Leaves (with_sum r p.sum) (set figures t p.figure)) v ∙
              ap (λ n. Leaves (with_sum r (r.sum + get_or cells t 0)) (set figures t (rise n r.sum (get_or cells t 0)))) (base_known r.base b known))
        ]

        -- the same, with the code's cell, answer and figures
        module _ {cell : ℕ} {o : Option Passed} (at : cell ≡ get_or cells t 0) (told : o ≡ pass_of (base_of b) r.sum cell) where
          there : pass_of (base_of b) r.sum (get_or cells t 0) ≡ o
          there = ap (pass_of (base_of b) r.sum) (sym at) ∙ sym told

          pub too_much : o ≡ None → Spoils figures ≡ settle_by r a cells figures
          too_much m = over_most (there ∙ m)

          pub passes : (p : Passed) → o ≡ Some p → (left : List ℕ) → left ≡ set figures t p.figure →
              Leaves (with_sum r p.sum) left ≡ settle_by r a cells figures
          passes p m left e = ap (λ (f : List ℕ). Leaves (with_sum r p.sum) f) e ∙ within_most p (there ∙ m)

-- whether T stays within its limit
room : (sum cell : ℕ) → sum ≤ sum_most → leb cell (sum_most - sum) ≡ leb (sum + cell) sum_most
room sum cell h = elim (see (leb (sum + cell) sum_most)) [
  | holds q ↦ rw (q, le-leb cell (sum_most - sum) (omega (arith, leb-true (sum + cell) sum_most q)))
  | fails q ↦ rw (q, lt-leb cell (sum_most - sum) (omega (arith, leb-false (sum + cell) sum_most q)))
]

module _ (r : Rounding) (p t : ℕ) (cells : List ℕ) where
  -- T is within its limit after a token has finished a pipe
  abbrev within : Bool
  within = leb (sum_after r cells (passer r p t)) sum_most

  pub stays_past : sum_most < r.sum → false ≡ within
  stays_past m = elim (seen (passer r p t)) [
    | nobody e ↦ rw (e, lt-leb r.sum sum_most m)
    | someone q e ↦ rw (e, lt-leb (r.sum + get_or cells q 0) sum_most (omega arith))
  ]

  module _ (m : r.sum ≤ sum_most) where
    pub stays_without : r.base ≡ 0 → true ≡ within
    unfolding passer
    stays_without b = rw (eq-eqb r.base 0 b, le-leb r.sum sum_most m)

    pub stays_elsewhere : (r.base ≡ 0 → ⊥) → (p ≡ r.pipe → ⊥) → true ≡ within
    unfolding passer
    stays_elsewhere b e = rw (ne_eqb r.base 0 b, ne_eqb p r.pipe e, le-leb r.sum sum_most m)

    pub stays_some : (r.base ≡ 0 → ⊥) → p ≡ r.pipe → {cell : ℕ} → cell ≡ get_or cells t 0 → leb cell (sum_most - r.sum) ≡ within
    unfolding passer
    stays_some b e {cell} q = rw (ne_eqb r.base 0 b, eq-eqb p r.pipe e, ← q) (room r.sum cell m)

-- who finishes a pipe by an answer passes if the token that finished it does
pub passing_finished : (r : Rounding) (l p t k w : ℕ) → passing r (Finished l p t k w) ≡ passer r p t
unfolding passing finisher passer
passing_finished r l p t k w = refl
