-- With cells and figures as they should be throughout, a run with rounding answers as one without, and leaves the same machine.
use mathlib.Core.Path.{◌≡◌, refl, sym, ap, subst, ◌∙◌}
use mathlib.Core.Bool.{true}
use mathlib.Core.List.{List, [], ◌∷◌, ◌++◌}
use Prim.Native.Nat.{ℕ, ◌+◌}
use native.Mathlib.Omega.{arith}
use lib.ListN.{get_or, set, length-set, replicate}
use Rattle.rules.specs.Sources.{Source}
use Rattle.rules.specs.RunState.{Pipeline, Machine}
use Rattle.rules.specs.Choices.{Choice, Answer, Refused, Chosen, opened, choose_by, answers, follow}
use Rattle.rules.specs.WholeRuns.{PipelineInRange, WorkersInRange, Sheet, events, end}
use Rattle.rules.specs.Rounding.{rise, Rounding, with_sum, lent_fits, lent_count, Run, Lending, RoundedChosen, choose_rounded, answers_rounded, follow_rounded}
use Rattle.rules.specs.RoundedRuns.{AtOpening, handed_on, rounded_events, rounded_end, carried_lendings}
use Rattle.rules.proofs.choices.Joined.{follow_one}
use Rattle.rules.proofs.choices.Outcomes.{refused_unchanged}
use Rattle.rules.proofs.rounding.RoundedRuns.{opening_sum}
use Rattle.rules.proofs.rounding.Steps.{at, Few, Step, refuses, goes, passes, step, answered}

-- a figure that is put anew changes nothing of that
fits_put : (n : ℕ) (cells figures : List ℕ) (t v : ℕ) → lent_fits n cells figures ≡ true → lent_fits n cells (set figures t v) ≡ true
unfolding lent_fits
fits_put n cells figures t v h = rw length-set h

module _ {X : Type 0} {S : Source X} {plan : Pipeline} (ranged : PipelineInRange plan)
    {workers : ℕ} (manned : WorkersInRange workers) {x : X} {order : List ℕ} {z : X}
    (sheet : Sheet S plan x order z) {r : Rounding} (opens : AtOpening plan r) (cells : List ℕ) where
  abbrev here : List Choice → ℕ → Run X
  here done sum = at ranged manned sheet opens done sum

  abbrev Little : List Choice → ℕ → Type 0
  Little done sum = Few ranged manned sheet opens done sum

  abbrev Fit : List ℕ → Type 0
  Fit figures = lent_fits (lent_count plan.tokens r) cells figures ≡ true

  -- from the run after these accepted choices, with this T and these figures, the choices do what they do without rounding
  pub record Plain (done : List Choice) (sum : ℕ) (figures : List ℕ) (ls : List Choice) : Type 0 where
    pub answers_same : answers_rounded S (here done sum) (handed_on S cells (here done sum) figures ls) ≡ answers S (end S plan workers x done) ls
    pub machine_same : (follow_rounded S (here done sum) (handed_on S cells (here done sum) figures ls)).machine ≡ follow S (end S plan workers x done) ls

  stays : (done : List Choice) (sum : ℕ) (figures : List ℕ) → Plain done sum figures []
  unfolding answers_rounded follow_rounded handed_on answers follow
  stays done sum figures = record { answers_same = refl; machine_same = refl }

  module _ (l : Choice) (ls : List Choice) (go : (done : List Choice) (sum : ℕ) (figures : List ℕ) → Little done sum → Fit figures → Plain done sum figures ls)
      (done : List Choice) (sum : ℕ) (figures : List ℕ) (few : Little done sum) (fit : Fit figures) where
    abbrev lent : Lending
    lent = record { choice = l; cells = cells; figures = figures }

    abbrev bare : Chosen X
    bare = choose_by S (end S plan workers x done) l

    -- the answer is that without rounding
    same_answer : (choose_rounded S (here done sum) lent).answer ≡ bare.answer
    same_answer = answered ranged manned sheet opens done sum few lent fit

    one_end : follow_rounded S (here done sum) (handed_on S cells (here done sum) figures (l ∷ ls)) ≡
        follow_rounded S (choose_rounded S (here done sum) lent).run
        (handed_on S cells (choose_rounded S (here done sum) lent).run (choose_rounded S (here done sum) lent).figures ls)
    unfolding follow_rounded handed_on
    one_end = refl

    end_then : (q : Run X) (left : List ℕ) → (choose_rounded S (here done sum) lent).run ≡ q → (choose_rounded S (here done sum) lent).figures ≡ left →
        follow_rounded S (here done sum) (handed_on S cells (here done sum) figures (l ∷ ls)) ≡ follow_rounded S q (handed_on S cells q left ls)
    end_then q left e f =
        one_end ∙
        ap (λ (t : Run X). follow_rounded S t (handed_on S cells t (choose_rounded S (here done sum) lent).figures ls)) e ∙
        ap (λ (k : List ℕ). follow_rounded S q (handed_on S cells q k ls)) f

    -- a choice that is known, and then the others
    then : (done' : List Choice) (sum' : ℕ) (figures' : List ℕ) → Little done' sum' → Fit figures' →
        (choose_rounded S (here done sum) lent).run ≡ here done' sum' → (choose_rounded S (here done sum) lent).figures ≡ figures' →
        end S plan workers x done' ≡ bare.machine → Plain done sum figures (l ∷ ls)
    unfolding answers_rounded follow_rounded handed_on answers follow
    then done' sum' figures' few' fit' e f m =
        let p : Plain done' sum' figures' ls = go done' sum' figures' few' fit' in
        record {
          answers_same = rw (same_answer, e, f, ← m) (ap (λ (k : List Answer). bare.answer ∷ k) p.answers_same);
          machine_same = ap (λ (q : Run X). q.machine) (end_then (here done' sum') figures' e f) ∙ p.machine_same ∙ ap (λ (k : Machine X). follow S k ls) m;
        }

    one_more : Step ranged manned sheet opens done sum lent → Plain done sum figures (l ∷ ls)
    one_more (refuses n h q) =
        let b : bare.answer ≡ Refused n = sym same_answer ∙ ap (λ (c : RoundedChosen X). c.answer) q in
        then done sum figures few fit (ap (λ (c : RoundedChosen X). c.run) q) (ap (λ (c : RoundedChosen X). c.figures) q)
        (sym (refused_unchanged S (end S plan workers x done) l.worker l.line n b))
    one_more (goes e d p t q fewer) =
        then (done ++ (l ∷ [])) sum figures fewer fit (ap (λ (c : RoundedChosen X). c.run) q) (ap (λ (c : RoundedChosen X). c.figures) q)
        (follow_one S (opened plan workers x) done l)
    one_more (passes e t d p w q fewer b) =
        then (done ++ (l ∷ [])) (sum + get_or cells t 0) (set figures t (rise r.base sum (get_or cells t 0))) fewer
        (fits_put (lent_count plan.tokens r) cells figures t _ fit)
        (ap (λ (c : RoundedChosen X). c.run) q) (ap (λ (c : RoundedChosen X). c.figures) q) (follow_one S (opened plan workers x) done l)

  plain : (ls done : List Choice) (sum : ℕ) (figures : List ℕ) → Little done sum → Fit figures → Plain done sum figures ls
  plain [] done sum figures few fit = stays done sum figures
  plain (l ∷ ls) done sum figures few fit = one_more l ls (plain ls) done sum figures few fit (step ranged manned sheet opens done sum few _)

  -- the whole run
  module _ (ls : List Choice) (fit : Fit (replicate (lent_count plan.tokens r) 0)) where
    abbrev cleared : List ℕ
    cleared = replicate (lent_count plan.tokens r) 0

    abbrev Same : Rounding → Type 0
    Same q =
        let start : Run X = record { machine = opened plan workers x; rounding = q } in
        let lendings : List Lending = handed_on S cells start cleared ls in
        (answers_rounded S start lendings ≡ events S plan workers x ls) × ((follow_rounded S start lendings).machine ≡ end S plan workers x ls)

    from_start : Same (with_sum r 0)
    unfolding follow
    from_start = let p = plain ls [] 0 cleared (omega arith) fit in (p.answers_same, p.machine_same)

    pub as_plain : (rounded_events S plan workers x r (carried_lendings S plan workers x r cells ls) ≡ events S plan workers x ls) ×
        ((rounded_end S plan workers x r (carried_lendings S plan workers x r cells ls)).machine ≡ end S plan workers x ls)
    as_plain = subst Same (opening_sum opens) from_start
