-- What a choice does in a run with rounding, by cases; and lists of answers without the refused ones.
use mathlib.Core.Path.{◌≡◌, refl, sym, ap, ◌∙◌}
use mathlib.Core.Bool.{true, false}
use Prim.Native.Nat.{ℕ, ◌≤◌, ◌<◌}
use native.Mathlib.Omega.{arith}
use lib.Dec.{leb}
use borrow.Author.Tests.{leb-true, leb-false}
use Rattle.rules.specs.Sources.{Source}
use Rattle.rules.specs.Choices.{Answer, Started, Finished, Stopped, Refused, Chosen, choose_by}
use Rattle.rules.specs.Offers.{is_refused}
use Rattle.rules.specs.MoreWorkers.{is_event}
use Rattle.rules.specs.Rounding.{sum_most, rounding_sound, lent_fits, lent_count, NonePasses}
use Rattle.rules.specs.Rounding.{finisher, passing, sum_after, Run, Lending, RoundedChosen, refuse_with, accept, rounded_with, choose_rounded}
use Rattle.rules.proofs.lists.Tests.{holds, fails, see, never}

-- a refusal has a number
pub refusal : (a : Answer) → is_refused a ≡ true → (n : ℕ) × (a ≡ Refused n)
refusal (Started l p t k w) e = absurd (never (sym e))
refusal (Finished l p t k w) e = absurd (never (sym e))
refusal (Stopped l w) e = absurd (never (sym e))
refusal (Refused n) e = (n, refl)

-- what is no refusal is an event
pub event_told : (a : Answer) → is_refused a ≡ false → is_event a ≡ true
unfolding is_event
event_told (Started l p t k w) e = refl
event_told (Finished l p t k w) e = refl
event_told (Stopped l w) e = refl
event_told (Refused n) e = absurd (never e)

-- a refusal is no finish
pub refused_finisher : (p n : ℕ) → finisher p (Refused n) ≡ NonePasses
unfolding finisher
refused_finisher p n = refl

module _ {X : Type 0} (S : Source X) (r : Run X) (a : Lending) where
  -- the same choice without rounding
  abbrev pub plain : Chosen X
  plain = choose_by S r.machine a.choice

  -- the three numbers of the state are within their ranges
  abbrev pub InRange : Type 0
  InRange = rounding_sound r.machine.pipes r.machine.serial r.rounding ≡ true

  -- T after the choice
  abbrev pub sum_then : ℕ
  sum_then = sum_after r.rounding a.cells (passing r.rounding plain.answer)

  -- cells and figures are as they should be
  abbrev pub Fits : Type 0
  Fits = lent_fits (lent_count r.machine.tokens r.rounding) a.cells a.figures ≡ true

  -- the cases of a choice, in the order of its checks
  pub data Case : Type 0 where
    spoiled : (InRange → ⊥) → choose_rounded S r a ≡ refuse_with r a (Refused 14) → Case
    own : (n : ℕ) → InRange → plain.answer ≡ Refused n → choose_rounded S r a ≡ refuse_with r a (Refused n) → Case
    unfit : InRange → is_refused plain.answer ≡ false → (Fits → ⊥) → choose_rounded S r a ≡ refuse_with r a (Refused 18) → Case
    too_much : InRange → is_refused plain.answer ≡ false → Fits → sum_most < sum_then → choose_rounded S r a ≡ refuse_with r a (Refused 14) → Case
    accepts : InRange → is_refused plain.answer ≡ false → Fits → sum_then ≤ sum_most → choose_rounded S r a ≡ accept r a plain → Case

  turned_down : InRange → is_refused plain.answer ≡ true → choose_rounded S r a ≡ refuse_with r a plain.answer
  unfolding choose_rounded rounded_with
  turned_down s d = rw (s, d)

  -- every choice is one of them
  pub case : Case
  unfolding choose_rounded rounded_with
  case = elim (see (rounding_sound r.machine.pipes r.machine.serial r.rounding)) [
    | fails s ↦ spoiled (λ h. never (sym h ∙ s)) (rw s)
    | holds s ↦ elim (see (is_refused plain.answer)) [
      | holds d ↦ let q = refusal plain.answer d in own q.0 s q.1 (turned_down s d ∙ ap (refuse_with r a) q.1)
      | fails d ↦ elim (see (lent_fits (lent_count r.machine.tokens r.rounding) a.cells a.figures)) [
        | fails f ↦ unfit s d (λ h. never (sym h ∙ f)) (rw (s, d, f))
        | holds f ↦ elim (see (leb sum_then sum_most)) [
          | fails t ↦ too_much s d f (omega (arith, leb-false sum_then sum_most t)) (rw (s, d, f, t))
          | holds t ↦ accepts s d f (leb-true sum_then sum_most t) (rw (s, d, f, t))
        ]
      ]
    ]
  ]

  -- "and nothing is changed": a refused choice leaves the run and the figures as they were
  pub rounded_unchanged : (n : ℕ) → (choose_rounded S r a).answer ≡ Refused n → ((choose_rounded S r a).run ≡ r) × ((choose_rounded S r a).figures ≡ a.figures)
  rounded_unchanged n e = elim case [
    | spoiled m q ↦ rw q (refl, refl)
    | own m s b q ↦ rw q (refl, refl)
    | unfit s d m q ↦ rw q (refl, refl)
    | too_much s d f m q ↦ rw q (refl, refl)
    | accepts s d f m q ↦ absurd (never (sym (ap is_refused (sym (ap (λ (c : RoundedChosen X). c.answer) q) ∙ e)) ∙ d))
  ]
