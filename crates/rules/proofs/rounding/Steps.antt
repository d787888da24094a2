-- A choice in a run with rounding: it is refused, not with 14, or goes on as it would without rounding, and a cell may pass by it.
use mathlib.Core.Path.{◌≡◌, refl, sym, ap, ◌∙◌}
use mathlib.Core.Bool.{true, false}
use mathlib.Core.List.{List, [], ◌∷◌, ◌++◌}
use Prim.Native.Nat.{ℕ, ◌+◌, ◌*◌, ◌≤◌, ◌<◌}
use native.Mathlib.Omega.{arith}
use lib.Dec.{leb}
use lib.ListN.{length, get_or, set, length-append, get_or-eq_default}
use borrow.Author.Tests.{leb-true, le-leb, lt-ltb, eq-eqb, ne_eqb}
use Rattle.rules.specs.Lists.{Every}
use Rattle.rules.specs.Sources.{Source}
use Rattle.rules.specs.RunState.{Pipeline, Machine}
use Rattle.rules.specs.Choices.{Choice, Answer, Refused, Chosen, opened, choose_by}
use Rattle.rules.specs.WholeRuns.{PipelineInRange, WorkersInRange, Sheet, events, end}
use Rattle.rules.specs.Offers.{is_refused}
use Rattle.rules.specs.Rounding.{rise, cell_most, sum_most, is_rounding_pipe, Rounding, with_sum, rounding_sound, cells_fit, lent_fits, lent_count}
use Rattle.rules.specs.Rounding.{NonePasses, Passes, passing, Run, Lending, RoundedChosen, refuse_with, accept, choose_rounded}
use Rattle.rules.specs.RoundedRuns.{AtOpening, without, rounds}
use Rattle.rules.proofs.lists.Tests.{same, other, same_as, lower, upper, below, holds, fails, see, never}
use Rattle.rules.proofs.lists.Holding.{every_at}
use Rattle.rules.proofs.choices.Joined.{follow_one, answers_one}
use Rattle.rules.proofs.invariant.Invariant.{whole}
use Rattle.rules.proofs.runs.WholeRuns.{whole_run, run, left_is}
use Rattle.rules.proofs.rounding.Choice.{sum_then, Fits, spoiled, own, unfit, too_much, accepts, case}
use Rattle.rules.proofs.rounding.Passers.{nobody, someone, seen, passers_of, passing_with, passers_one, passers_few, passers_none, passing_some, base_some, passers_more, next_passes, next_there}

-- of cells and figures that fit: how many there are, and no cell is too large
pub fits_parts : (n : ℕ) (cells figures : List ℕ) → lent_fits n cells figures ≡ true →
    (length cells ≡ n) × (length figures ≡ n) × (cells_fit cells ≡ true)
unfolding lent_fits
fits_parts n cells figures h = elim (same_as (length cells) n) [
  | other d t ↦ absurd (never (sym (rw t at h)))
  | same e t ↦ elim (same_as (length figures) n) [
    | other d u ↦ absurd (never (sym (rw (t, u) at h)))
    | same f u ↦ elim (see (cells_fit cells)) [ holds q ↦ (e, f, q) | fails q ↦ absurd (never (sym (rw (t, u, q) at h))) ]
  ]
]

pub fits_cell : (cells : List ℕ) → cells_fit cells ≡ true → (t : ℕ) → get_or cells t 0 ≤ cell_most
unfolding cells_fit
fits_cell cells h t = elim (below t (length cells)) [
  | lower b u ↦ leb-true _ _ (every_at (length cells) t (λ i. leb (get_or cells i 0) cell_most) b h)
  | upper b u ↦ rw (get_or-eq_default cells 0 b) (omega arith)
]

-- the three numbers are within their ranges as long as T is
pub opening_sound : {plan : Pipeline} {r : Rounding} → AtOpening plan r → (sum : ℕ) → sum ≤ sum_most → (r.base ≡ 0 → sum ≡ 0) →
    rounding_sound plan.pipes plan.serial (with_sum r sum) ≡ true
unfolding rounding_sound is_rounding_pipe
opening_sound without sum h n = rw (eq-eqb sum 0 (n refl))
opening_sound {plan} (rounds {pipe} {base} b s e) sum h n =
    rw (ne_eqb base 0 (base_some base e), e, lt-ltb pipe plan.pipes b, s, le-leb sum sum_most h)

-- the last of some elements
every_last : {A : Type 0} (P : A → Type 0) (l : List A) (a : A) → Every P (l ++ (a ∷ [])) → P a
every_last P [] a h = h.0
every_last P (b ∷ l) a h = every_last P l a h.1

module _ {X : Type 0} {S : Source X} {plan : Pipeline} (ranged : PipelineInRange plan)
    {workers : ℕ} (manned : WorkersInRange workers) {x : X} {order : List ℕ} {z : X}
    (sheet : Sheet S plan x order z) {r : Rounding} (opens : AtOpening plan r) where
  -- what a run without rounding answers; and the run with rounding after so many accepted choices, with this T
  abbrev pub told : List Choice → List Answer
  told ls = events S plan workers x ls

  abbrev pub at : List Choice → ℕ → Run X
  at ls sum = record { machine = end S plan workers x ls; rounding = with_sum r sum }

  -- T is no more than the tokens that passed can have brought
  abbrev pub Few : List Choice → ℕ → Type 0
  Few ls sum = sum ≤ cell_most * length (passers_of r (told ls))

  -- what a choice does
  pub data Step (ls : List Choice) (sum : ℕ) (a : Lending) : Type 0 where
    refuses : (n : ℕ) → (n ≡ 14 → ⊥) → choose_rounded S (at ls sum) a ≡ refuse_with (at ls sum) a (Refused n) → Step ls sum a
    goes : (e : Answer) → is_refused e ≡ false → passing r e ≡ NonePasses → told (ls ++ (a.choice ∷ [])) ≡ told ls ++ (e ∷ []) →
        choose_rounded S (at ls sum) a ≡ record { answer = e; run = at (ls ++ (a.choice ∷ [])) sum; figures = a.figures } →
        Few (ls ++ (a.choice ∷ [])) sum → Step ls sum a
    passes : (e : Answer) (t : ℕ) → is_refused e ≡ false → passing r e ≡ Passes t → told (ls ++ (a.choice ∷ [])) ≡ told ls ++ (e ∷ []) →
        choose_rounded S (at ls sum) a ≡ record {
          answer = e;
          run = at (ls ++ (a.choice ∷ [])) (sum + get_or a.cells t 0);
          figures = set a.figures t (rise r.base sum (get_or a.cells t 0));
        } →
        Few (ls ++ (a.choice ∷ [])) (sum + get_or a.cells t 0) → t < length a.figures → Step ls sum a

  module _ (ls : List Choice) (sum : ℕ) (few : Few ls sum) where
    -- the numbers that never change
    left_machine : (f : Machine X → ℕ) → f (end S plan workers x ls) ≡ f (whole plan workers (run ranged manned sheet ls).end)
    left_machine f = ap f (left_is ranged manned sheet ls)

    kept_serial : (end S plan workers x ls).serial ≡ plan.serial
    kept_serial = ap (λ (m : Machine X). m.serial) (left_is ranged manned sheet ls)

    -- T is within its range
    pub most : sum ≤ sum_most
    most = omega (arith, few, passers_few ranged manned sheet ls opens, sheet.fits, ranged.tokens_most)

    none : r.base ≡ 0 → sum ≡ 0
    none e = let q : length (passers_of r (told ls)) ≡ 0 = ap length (passers_none r e (told ls)) in omega (arith, few, q)

    pub in_range : rounding_sound (end S plan workers x ls).pipes (end S plan workers x ls).serial (with_sum r sum) ≡ true
    in_range = rw (left_machine (λ m. m.pipes), kept_serial) (opening_sound opens sum most none)

  module _ (ls : List Choice) (sum : ℕ) (few : Few ls sum) (a : Lending) where
    abbrev one : List Choice
    one = ls ++ (a.choice ∷ [])

    -- the choice without rounding
    abbrev bare : Chosen X
    bare = choose_by S (end S plan workers x ls) a.choice

    told_one : told one ≡ told ls ++ (bare.answer ∷ [])
    told_one = answers_one S (opened plan workers x) ls a.choice

    end_one : end S plan workers x one ≡ bare.machine
    end_one = follow_one S (opened plan workers x) ls a.choice

    not_14 : bare.answer ≡ Refused 14 → ⊥
    not_14 = every_last (λ e. e ≡ Refused 14 → ⊥) (told ls) bare.answer (rw told_one at (whole_run ranged manned sheet one).never_spoiled)

    -- nobody passes
    module _ (e : passing r bare.answer ≡ NonePasses) where
      few_kept : Few one sum
      few_kept = rw (told_one, passers_one, e) (omega (arith, few, length-append (passers_of r (told ls)) []))

      sum_kept : sum_then S (at ls sum) a ≡ sum
      sum_kept = rw (passing_with, e)

      goes_on : is_refused bare.answer ≡ false → choose_rounded S (at ls sum) a ≡ accept (at ls sum) a bare → Step ls sum a
      goes_on d q = goes bare.answer d e told_one (q ∙ rw (passing_with, e, end_one)) few_kept

    -- a token passes
    module _ (t : ℕ) (e : passing r bare.answer ≡ Passes t) where
      more : passers_of r (told one) ≡ passers_of r (told ls) ++ (t ∷ [])
      more = passers_more ranged manned sheet opens ls a.choice t e

      known : t < plan.tokens
      known =
          let h = next_there ranged manned sheet opens ls a.choice t e in
          omega (arith, sheet.known (length (passers_of r (told ls))) h, next_passes ranged manned sheet opens ls a.choice t e)

      sum_more : sum_then S (at ls sum) a ≡ sum + get_or a.cells t 0
      sum_more = rw (passing_with, e)

      module _ (f : Fits S (at ls sum) a) where
        few_more : Few one (sum + get_or a.cells t 0)
        few_more =
            let c : get_or a.cells t 0 ≤ cell_most = fits_cell a.cells (fits_parts _ a.cells a.figures f).2 t in
            rw more (omega (arith, few, c, length-append (passers_of r (told ls)) (t ∷ [])))

        most_more : sum + get_or a.cells t 0 ≤ sum_most
        most_more = omega (arith, few_more, passers_few ranged manned sheet one opens, sheet.fits, ranged.tokens_most)

        figures_many : length a.figures ≡ plan.tokens
        unfolding lent_count
        figures_many =
            (fits_parts _ a.cells a.figures f).1 ∙ rw (ne_eqb r.base 0 (passing_some r bare.answer t e)) (left_machine ls sum few (λ m. m.tokens))

        passes_on : is_refused bare.answer ≡ false → choose_rounded S (at ls sum) a ≡ accept (at ls sum) a bare → Step ls sum a
        passes_on d q =
            passes bare.answer t d e told_one (q ∙ rw (passing_with, e, end_one)) few_more (omega (arith, known, figures_many))

    -- every choice is a step
    pub step : Step ls sum a
    step = elim (case S (at ls sum) a) [
      | spoiled n q ↦ absurd (n (in_range ls sum few))
      | own n h b q ↦ refuses n (λ e. not_14 (b ∙ ap Refused e)) q
      | unfit h d n q ↦ refuses 18 (omega arith) q
      | too_much h d f m q ↦ elim (seen (passing r bare.answer)) [
        | nobody e ↦ absurd (omega (arith, m, sum_kept e, most ls sum few))
        | someone t e ↦ absurd (omega (arith, m, sum_more t e, most_more t e f))
      ]
      | accepts h d f m q ↦ elim (seen (passing r bare.answer)) [
        | nobody e ↦ goes_on e d q
        | someone t e ↦ passes_on t e f d q
      ]
    ]

    -- with cells and figures as they should be, it is answered as without rounding
    pub answered : lent_fits (lent_count plan.tokens r) a.cells a.figures ≡ true → (choose_rounded S (at ls sum) a).answer ≡ bare.answer
    unfolding lent_count
    answered f = elim (case S (at ls sum) a) [
      | spoiled n q ↦ absurd (n (in_range ls sum few))
      | own n h b q ↦ ap (λ (c : RoundedChosen X). c.answer) q ∙ sym b
      | unfit h d n q ↦ absurd (n (rw (left_machine ls sum few (λ m. m.tokens)) f))
      | too_much h d g m q ↦ elim (seen (passing r bare.answer)) [
        | nobody e ↦ absurd (omega (arith, m, sum_kept e, most ls sum few))
        | someone t e ↦ absurd (omega (arith, m, sum_more t e, most_more t e g))
      ]
      | accepts h d g m q ↦ ap (λ (c : RoundedChosen X). c.answer) q
    ]
