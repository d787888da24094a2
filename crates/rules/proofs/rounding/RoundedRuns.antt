-- The rounding paper's claims on every list of choices, whatever is lent to each.
use mathlib.Core.Path.{◌≡◌, refl, sym, ap, subst, ◌∙◌}
use mathlib.Core.Bool.{true}
use mathlib.Core.List.{List, [], ◌∷◌, ◌++◌}
use Prim.Native.Nat.{ℕ, ◌+◌, ◌-◌, ◌/◌}
use native.Mathlib.Omega.{arith}
use lib.ListN.{length, take, length-append, length-map}
use lib.Seq.{take-append_seam, take_all, take-nil}
use Rattle.rules.specs.Lists.{Every}
use Rattle.rules.specs.Sources.{Source}
use Rattle.rules.specs.RunState.{Pipeline}
use Rattle.rules.specs.Choices.{Choice, Answer, answers, follow, ended, choose_by}
use Rattle.rules.specs.WholeRuns.{PipelineInRange, WorkersInRange, Sheet, events, end, with_workers, Demand3}
use Rattle.rules.specs.Rounding.{published, is_base, Rounding, with_sum, lent_fits, lent_count, Run, Lending, choose_rounded}
use Rattle.rules.specs.MoreWorkers.{without_refusals}
use Rattle.rules.specs.RoundedRuns.{sum_of, Near, AtOpening, without, rounds, PassedCell, tokens_in, cells_in, figures_in}
use Rattle.rules.specs.RoundedRuns.{rounded_events, rounded_end, rounded_choices, rounded_cells, RoundedRun}
use Rattle.rules.proofs.choices.Numbers.{never_18}
use Rattle.rules.proofs.runs.WholeRuns.{whole_run, same_end}
use Rattle.rules.proofs.rounding.Sums.{IsBase, is_base_lem, published_near, published_none, Carried, carried_adds, carried_near}
use Rattle.rules.proofs.rounding.Passers.{passers_of, passers_unrefused, passers_none, passers_part, passers_whole}
use Rattle.rules.proofs.rounding.Steps.{at, Few, most, answered}
use Rattle.rules.proofs.rounding.Following.{From, from}
use Rattle.rules.proofs.rounding.Unrefused.{demand_unrefused}

-- the base of an opening is 0, 3 or 5
pub data Based (b : ℕ) : Type 0 where
  no_base : b ≡ 0 → Based b
  some_base : IsBase b → Based b

pub based : {plan : Pipeline} {r : Rounding} → AtOpening plan r → Based r.base
based without = no_base refl
based (rounds {base = base} h s b) = some_base (is_base_lem base b)

-- T is 0 at opening
pub opening_sum : {plan : Pipeline} {r : Rounding} → AtOpening plan r → with_sum r 0 ≡ r
opening_sum without = refl
opening_sum (rounds h s b) = refl

no_cells : (l : List PassedCell) → tokens_in l ≡ [] → l ≡ []
no_cells [] e = refl
no_cells (p ∷ l) e = absurd (omega (arith, ap length e))

published_zero : published 0 0 ≡ 0
unfolding published
published_zero = refl

-- sums of the first cells and figures, by the base
module _ {b : ℕ} (l : List PassedCell) (c : Carried b 0 l) (none : b ≡ 0 → l ≡ []) (k : ℕ) where
  abbrev first_figures : ℕ
  first_figures = sum_of (take k (figures_in l))

  abbrev first_cells : ℕ
  first_cells = sum_of (take k (cells_in l))

  -- without rounding there are none
  nothing : b ≡ 0 → (first_figures ≡ 0) × (first_cells ≡ 0)
  unfolding sum_of
  nothing e = rw (none e, take-nil {A = ℕ} k) (refl, refl)

  sums_add : Based b → first_figures ≡ published b first_cells
  sums_add (no_base e) = (nothing e).0 ∙ sym (ap (published b) (nothing e).1 ∙ ap (λ n. published n 0) e ∙ published_zero)
  sums_add (some_base h) = let q : 0 + first_cells ≡ first_cells = omega arith in
      omega (arith, rw q at (carried_adds h k 0 l c), published_none h)

  sums_close : Based b → Near ((b - 1) / 2) first_figures first_cells
  sums_close (no_base e) = let q = nothing e in record { low = omega (arith, q.0, q.1); high = omega (arith, q.0, q.1) }
  sums_close (some_base h) = rw (sums_add (some_base h)) (published_near h first_cells)

cells_close : {b : ℕ} → Based b → (l : List PassedCell) → Carried b 0 l → (b ≡ 0 → l ≡ []) → Every (λ p. Near (b - 1) p.figure p.cell) l
cells_close (no_base e) l c n = rw (n e) tt
cells_close (some_base h) l c n = carried_near h 0 l c

module _ {X : Type 0} {S : Source X} {plan : Pipeline} (ranged : PipelineInRange plan)
    {workers : ℕ} (manned : WorkersInRange workers) {x : X} {order : List ℕ} {z : X}
    (sheet : Sheet S plan x order z) {r : Rounding} (opens : AtOpening plan r) (lendings : List Lending) where
  -- the rounding at opening, with its T written out; what the run answers, leaves, accepts and publishes
  abbrev zeroed : Rounding
  zeroed = with_sum r 0

  abbrev said : List Answer
  said = rounded_events S plan workers x zeroed lendings

  abbrev left : Run X
  left = rounded_end S plan workers x zeroed lendings

  abbrev chosen : List Choice
  chosen = rounded_choices S plan workers x zeroed lendings

  abbrev cells : List PassedCell
  cells = rounded_cells S plan workers x zeroed lendings

  led : From ranged manned sheet opens [] 0 lendings
  led = from ranged manned sheet opens lendings [] 0 (omega arith)

  -- the run is one without rounding
  events_there : without_refusals said ≡ events S plan workers x chosen
  unfolding follow answers
  events_there = sym led.told_is ∙ ap (λ (l : List Choice). events S plan workers x l) led.to_is

  left_there : left ≡ record { machine = end S plan workers x chosen; rounding = with_sum r led.sum_to }
  unfolding follow
  left_there = led.end_is ∙ ap (λ (l : List Choice). at ranged manned sheet opens l led.sum_to) led.to_is

  few_there : Few ranged manned sheet opens chosen led.sum_to
  unfolding follow
  few_there = subst (λ (l : List Choice). Few ranged manned sheet opens l led.sum_to) led.to_is led.few

  -- who passes
  tokens_there : tokens_in cells ≡ passers_of r (events S plan workers x chosen)
  unfolding follow
  tokens_there = led.tokens_are ∙ sym (passers_unrefused r said) ∙ ap (passers_of r) events_there

  carried_there : Carried r.base 0 cells
  unfolding follow
  carried_there = led.carried

  none_there : r.base ≡ 0 → cells ≡ []
  none_there e = no_cells cells (tokens_there ∙ passers_none r e _)

  rest_there : (rest : List ℕ) × (tokens_in cells ++ rest ≡ order)
  rest_there = let q = passers_part ranged manned sheet chosen opens in (q.0, ap (λ (l : List ℕ). l ++ q.0) tokens_there ∙ q.1)

  all_there : is_base r.base ≡ true → ended left.machine ≡ true → length (tokens_in cells) ≡ length order
  all_there b e =
      ap length (tokens_there ∙
      passers_whole ranged manned sheet chosen opens b (ap (λ (q : Run X). ended q.machine) (sym left_there) ∙ e))

  -- T
  sum_there : left.rounding.sum ≡ sum_of (cells_in cells)
  unfolding follow
  sum_there = ap (λ (q : Run X). q.rounding.sum) left_there ∙ omega (arith, led.sum_is)

  published_there : sum_of (figures_in cells) ≡ published r.base left.rounding.sum
  published_there =
      let k : ℕ = length cells in
      let c : take k (cells_in cells) ≡ cells_in cells = take_all k (cells_in cells) (omega (arith, length-map cells (λ p. p.cell))) in
      let f : take k (figures_in cells) ≡ figures_in cells = take_all k (figures_in cells) (omega (arith, length-map cells (λ p. p.figure))) in
      sym (ap (published r.base) (sum_there ∙ ap sum_of (sym c)) ∙ sym (sums_add cells carried_there none_there k (based opens)) ∙ ap sum_of f)

  -- the next choice
  answered_there : (a : Lending) → lent_fits (lent_count plan.tokens r) a.cells a.figures ≡ true →
      (choose_rounded S left a).answer ≡ (choose_by S left.machine a.choice).answer
  answered_there a f = rw left_there (answered ranged manned sheet opens chosen led.sum_to few_there a f)

  -- demand 3
  demanded_there : Demand3 S plan workers said left.machine order z
  unfolding follow
  demanded_there =
      demand_unrefused (rw (events_there, ap (λ (q : Run X). q.machine) left_there) (whole_run ranged manned sheet chosen)) led.never_spoiled

  from_opening : RoundedRun S plan workers x zeroed lendings order z
  unfolding follow lent_count
  from_opening = record {
    events_are = events_there;
    machine_is = ap (λ (q : Run X). q.machine) left_there;
    demand_3 = demanded_there;
    pipe_kept = ap (λ (q : Run X). q.rounding.pipe) left_there;
    base_kept = ap (λ (q : Run X). q.rounding.base) left_there;
    passed = length (tokens_in cells);
    passed_most = omega (arith, ap length rest_there.1, length-append (tokens_in cells) rest_there.0);
    in_order =
        sym (take-append_seam (tokens_in cells) rest_there.0) ∙ ap (λ (l : List ℕ). take (length (tokens_in cells)) l) rest_there.1;
    none_passed = λ e. ap length (tokens_there ∙ passers_none r e _);
    all_passed = all_there;
    sum_is = sum_there;
    published_is = published_there;
    sums_are = λ k. sums_add cells carried_there none_there k (based opens);
    sums_near = λ k. sums_close cells carried_there none_there k (based opens);
    cells_near = cells_close (based opens) cells carried_there none_there;
    sum_most_lem =
        omega (arith, ap (λ (q : Run X). q.rounding.sum) left_there, most ranged manned sheet opens chosen led.sum_to few_there);
    never_spoiled = led.never_spoiled;
    as_without = answered_there;
    no_18 = λ a f e. never_18 S left.machine a.choice.worker a.choice.line (sym (answered_there a f) ∙ e);
  }

  -- every list of choices, whatever is lent to each, makes a run as the rounding paper says
  pub rounded_run : RoundedRun S plan workers x r lendings order z
  rounded_run = subst (λ q. RoundedRun S plan workers x q lendings order z) (opening_sum opens) from_opening

module _ {X : Type 0} {S : Source X} {plan : Pipeline} (ranged : PipelineInRange plan) {x : X} {order : List ℕ} {z : X} (sheet : Sheet S plan x order z) where
  -- "two runs that differ in rounding or in cells share demand 3's end state but for these three as well"
  pub same_rounded_end : {w v : ℕ} → WorkersInRange w → WorkersInRange v → {r q : Rounding} → AtOpening plan r → AtOpening plan q →
      (ks ls : List Lending) → ended (rounded_end S plan w x r ks).machine ≡ true → ended (rounded_end S plan v x q ls).machine ≡ true →
      (n : ℕ) → with_workers n (rounded_end S plan w x r ks).machine ≡ with_workers n (rounded_end S plan v x q ls).machine
  same_rounded_end mw mv {r} {q} opens shuts ks ls e f n =
      let a = (rounded_run ranged mw sheet opens ks).machine_is in
      let b = (rounded_run ranged mv sheet shuts ls).machine_is in
      ap (with_workers n) a ∙
      same_end ranged sheet mw mv _ _ (ap ended (sym a) ∙ e) (ap ended (sym b) ∙ f) n ∙
      sym (ap (with_workers n) b)
