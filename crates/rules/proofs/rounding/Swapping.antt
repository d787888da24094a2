-- Two choices on different lines, from a state of an opened run with rounding, accepted in both orders, do the same in either.
use mathlib.Core.Path.{◌≡◌, refl, sym, ap, subst, ◌∙◌}
use mathlib.Core.List.{List, [], ◌∷◌}
use Prim.Native.Nat.{ℕ}
use native.Mathlib.Omega.{arith}
use lib.Dec.{eqb}
use lib.ListN.{length, get_or}
use Rattle.rules.specs.Lists.{if, Every}
use Rattle.rules.specs.Sources.{Source}
use Rattle.rules.specs.RunState.{Pipeline, Machine}
use Rattle.rules.specs.Choices.{Choice, Answer, Chosen, choose_by, answers, follow}
use Rattle.rules.specs.WholeRuns.{PipelineInRange, WorkersInRange, Sheet, Accepted, events}
use Rattle.rules.specs.Swapping.{Swapped, Swapping}
use Rattle.rules.specs.Rounding.{Rounding, with_sum, Passing, NonePasses, Passes, finisher, passing, sum_after, figures_after}
use Rattle.rules.specs.Rounding.{Run, Lending, RoundedChosen, accept, answers_rounded, follow_rounded}
use Rattle.rules.specs.RoundedRuns.{AtOpening, handed_on, figures_left, rounded_end, rounded_choices, RoundedRun}
use Rattle.rules.specs.RoundedSwapping.{made_first, made_after, SwappedRounded, SwappingRounded}
use Rattle.rules.proofs.runs.Swapping.{swapping}
use Rattle.rules.proofs.rounding.Passers.{passers_of, passing_with, next_passes}
use Rattle.rules.proofs.rounding.Accepting.{accepted_is}
use Rattle.rules.proofs.rounding.RoundedRuns.{rounded_run}

-- if two pass, they are one token
abbrev OneToken : Passing → Passing → Type 0
OneToken p q = (t u : ℕ) → p ≡ Passes t → q ≡ Passes u → t ≡ u

-- T and the figures after one passing, and then another: in either order
module _ (r : Rounding) (cells : List ℕ) where
  abbrev sum_after_two : Passing → Passing → ℕ
  sum_after_two p q = sum_after (with_sum r (sum_after r cells p)) cells q

  sums_swap : (p q : Passing) → sum_after_two p q ≡ sum_after_two q p
  sums_swap NonePasses NonePasses = refl
  sums_swap NonePasses (Passes u) = refl
  sums_swap (Passes t) NonePasses = refl
  sums_swap (Passes t) (Passes u) = omega arith

  module _ (figures : List ℕ) where
    abbrev figures_after_two : Passing → Passing → List ℕ
    figures_after_two p q = figures_after (with_sum r (sum_after r cells p)) cells (figures_after r cells figures p) q

    figures_swap : (p q : Passing) → OneToken p q → figures_after_two p q ≡ figures_after_two q p
    figures_swap NonePasses NonePasses one = refl
    figures_swap NonePasses (Passes u) one = refl
    figures_swap (Passes t) NonePasses one = refl
    figures_swap (Passes t) (Passes u) one = rw (one t u refl refl) refl

-- in any run, where the two do the same without rounding and not two tokens pass
module _ {X : Type 0} (S : Source X) (r : Run X) (cells figures : List ℕ) where
  abbrev m : Machine X
  m = r.machine

  -- without rounding
  abbrev bare : Choice → Chosen X
  bare a = choose_by S m a

  abbrev bare_after : Choice → Choice → Chosen X
  bare_after a b = choose_by S (bare a).machine b

  abbrev lent : Choice → List ℕ → Lending
  lent a f = record { choice = a; cells = cells; figures = f }

  abbrev passes : Choice → Passing
  passes a = passing r.rounding (bare a).answer

  -- two accepted choices
  module _ (a b : Choice) (ok : Every Accepted (answers_rounded S r (handed_on S cells r figures (a ∷ b ∷ [])))) where
    first_is : made_first S r cells figures a ≡ accept r (lent a figures) (bare a)
    unfolding answers_rounded handed_on
    first_is = accepted_is S r (lent a figures) ok.0

    after_is : made_after S r cells figures a b ≡
        (let c : RoundedChosen X = accept r (lent a figures) (bare a) in accept c.run (lent b c.figures) (bare_after a b))
    unfolding answers_rounded handed_on
    after_is =
        accepted_is S (made_first S r cells figures a).run (lent b (made_first S r cells figures a).figures) ok.1.0 ∙
        ap (λ (c : RoundedChosen X). accept c.run (lent b c.figures) (choose_by S c.run.machine b)) first_is

    -- are accepted without rounding too
    bare_accepted : Every Accepted (answers S m (a ∷ b ∷ []))
    unfolding answers answers_rounded handed_on
    bare_accepted = (
      subst Accepted (ap (λ (c : RoundedChosen X). c.answer) first_is) ok.0,
      (subst Accepted (ap (λ (c : RoundedChosen X). c.answer) after_is) ok.1.0, tt),
    )

    -- and leave this, where the second has the event that it has made first
    module _ (same : (bare b).answer ≡ (bare_after a b).answer) where
      second_passes : passing (with_sum r.rounding (sum_after r.rounding cells (passes a))) (bare_after a b).answer ≡ passes b
      second_passes = passing_with r.rounding _ (bare_after a b).answer ∙ ap (passing r.rounding) (sym same)

      run_is : follow_rounded S r (handed_on S cells r figures (a ∷ b ∷ [])) ≡
          record { machine = (bare_after a b).machine; rounding = with_sum r.rounding (sum_after_two r.rounding cells (passes a) (passes b)) }
      unfolding follow_rounded handed_on
      run_is =
          ap (λ (c : RoundedChosen X). c.run) after_is ∙
          (λ i. record {
            machine = (bare_after a b).machine;
            rounding = with_sum r.rounding (sum_after (with_sum r.rounding (sum_after r.rounding cells (passes a))) cells (second_passes i));
          })

      figures_are : figures_left S cells r figures (a ∷ b ∷ []) ≡ figures_after_two r.rounding cells figures (passes a) (passes b)
      unfolding figures_left
      figures_are =
          ap (λ (c : RoundedChosen X). c.figures) after_is ∙
          ap (figures_after (with_sum r.rounding (sum_after r.rounding cells (passes a))) cells (figures_after r.rounding cells figures (passes a))) second_passes

  module _ (a b : Choice) (one_way : Every Accepted (answers_rounded S r (handed_on S cells r figures (a ∷ b ∷ []))))
      (other_way : Every Accepted (answers_rounded S r (handed_on S cells r figures (b ∷ a ∷ []))))
      (w : Swapped S m a b) (one : OneToken (passes a) (passes b)) where
    swapped_rounded : SwappedRounded S r cells figures a b
    unfolding follow
    swapped_rounded = record {
      left =
          run_is a b one_way w.event_b ∙
          (λ i. record {
            machine = w.left i;
            rounding = with_sum r.rounding (sums_swap r.rounding cells (passes a) (passes b) i);
          }) ∙
          sym (run_is b a other_way w.event_a);
      published =
          figures_are a b one_way w.event_b ∙ figures_swap r.rounding cells figures (passes a) (passes b) one ∙
          sym (figures_are b a other_way w.event_a);
      event_a =
          ap (λ (c : RoundedChosen X). c.answer) (first_is a b one_way) ∙ w.event_a ∙
          sym (ap (λ (c : RoundedChosen X). c.answer) (after_is b a other_way));
      event_b =
          ap (λ (c : RoundedChosen X). c.answer) (first_is b a other_way) ∙ w.event_b ∙
          sym (ap (λ (c : RoundedChosen X). c.answer) (after_is a b one_way));
    }

-- who passes goes by pipe and base
passing_by : (r q : Rounding) → r.pipe ≡ q.pipe → r.base ≡ q.base → (a : Answer) → passing r a ≡ passing q a
unfolding passing
passing_by r q e f a = λ i. if (eqb (f i) 0) NonePasses (finisher (e i) a)

module _ {X : Type 0} {S : Source X} {plan : Pipeline} (ranged : PipelineInRange plan)
    {workers : ℕ} (manned : WorkersInRange workers) {x : X} {order : List ℕ} {z : X}
    (sheet : Sheet S plan x order z) {r : Rounding} (opens : AtOpening plan r) where
  -- "from a state of an opened run", with rounding or without: what an opening and any list of choices leave, whatever is lent to each
  module _ (lendings : List Lending) where
    abbrev here : Run X
    here = rounded_end S plan workers x r lendings

    abbrev chosen : List Choice
    chosen = rounded_choices S plan workers x r lendings

    run : RoundedRun S plan workers x r lendings order z
    run = rounded_run ranged manned sheet opens lendings

    -- so of two that would pass now, each is that one
    next_here : (c : Choice) (t : ℕ) → passing here.rounding (choose_by S here.machine c).answer ≡ Passes t →
        get_or order (length (passers_of r (events S plan workers x chosen))) 0 ≡ t
    next_here c t e =
        next_passes ranged manned sheet opens chosen c t (ap (λ (m : Machine X). passing r (choose_by S m c).answer) (sym run.machine_is) ∙
        sym (passing_by here.rounding r run.pipe_kept run.base_kept _) ∙ e)

    bare_swapping : Swapping S here.machine
    bare_swapping = subst (Swapping S) (sym run.machine_is) (swapping ranged manned sheet chosen)

    pub swapping_rounded : SwappingRounded S here
    swapping_rounded = record {
      swapped = λ cells figures a b apart one_way other_way. swapped_rounded S here cells figures a b one_way other_way
          (bare_swapping.swapped a b apart (bare_accepted S here cells figures a b one_way) (bare_accepted S here cells figures b a other_way))
          (λ t u e f. sym (next_here a t e) ∙ next_here b u f);
    }
