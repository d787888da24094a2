-- The rounding paper's claims on runs with the same cells throughout and the figures handed on as left.
use mathlib.Core.Path.{◌≡◌, refl, sym, ap, ◌∙◌}
use mathlib.Core.Bool.{true, false}
use mathlib.Core.List.{List, [], ◌∷◌, map}
use Prim.Native.Nat.{ℕ, zero, suc, ◌+◌, ◌-◌, ◌≤◌, ◌<◌}
use native.Mathlib.Omega.{arith}
use lib.Dec.{eqb}
use lib.ListN.{length, get_or, take, drop, replicate, take-append-drop, get_or-eq_default, length-replicate, get_or-replicate, length-map, length-take}
use lib.Seq.{get_or-take, ext_get_or, take_all, take-take}
use Rattle.rules.specs.Lists.{has, times, Every}
use Rattle.rules.specs.Sources.{Source}
use Rattle.rules.specs.RunState.{Pipeline}
use Rattle.rules.specs.Choices.{Choice, ended}
use Rattle.rules.specs.WholeRuns.{PipelineInRange, WorkersInRange, Sheet}
use Rattle.rules.specs.Rounding.{published, is_base, Rounding, lent_count}
use Rattle.rules.specs.RoundedRuns.{sum_of, AtOpening, without, rounds, PassedCell, tokens_in, cells_in, figures_in}
use Rattle.rules.specs.RoundedRuns.{opened_run, rounded_end, rounded_cells, RoundedRun, carried_lendings, carried_figures, cells_before, CarriedRun}
use Rattle.rules.proofs.lists.Tests.{lower, upper, below, holds, fails, see, never}
use Rattle.rules.proofs.lists.Counting.{times_append}
use Rattle.rules.proofs.lists.Places.{place_of}
use Rattle.rules.proofs.rounding.Sums.{IsBase, three, five}
use Rattle.rules.proofs.rounding.Plain.{as_plain}
use Rattle.rules.proofs.rounding.Figures.{put_all, length_put, put_else, put_sum, put_at, figures_put, cells_same}
use Rattle.rules.proofs.rounding.RoundedRuns.{no_base, some_base, based, rounded_run}

-- one number more of a list
sum_next : (l : List ℕ) (k : ℕ) → sum_of (take (suc k) l) ≡ sum_of (take k l) + get_or l k 0
unfolding sum_of
sum_next [] zero = refl
sum_next [] (suc k) = refl
sum_next (n ∷ l) zero = omega arith
sum_next (n ∷ l) (suc k) = omega (arith, sum_next l k)

-- the first images are those of the first elements
map_take : (f : ℕ → ℕ) (k : ℕ) (l : List ℕ) → map f (take k l) ≡ take k (map f l)
map_take f zero l = refl
map_take f (suc k) [] = refl
map_take f (suc k) (n ∷ l) = ap (λ (r : List ℕ). f n ∷ r) (map_take f k l)

-- a first part has a number no more often than the whole
times_take : (n k : ℕ) (l : List ℕ) → times n (take k l) ≤ times n l
times_take n k l = omega (arith, times_append n (take k l) (drop k l), ap (times n) (take-append-drop k l))

-- figures that are cleared
cleared : (n i : ℕ) → get_or {A = ℕ} (replicate n 0) i 0 ≡ 0
cleared n i = elim (below i n) [
  | lower h t ↦ get_or-replicate n i 0 0 h
  | upper h t ↦ get_or-eq_default (replicate n 0) 0 (omega (arith, length-replicate {A = ℕ} n 0))
]

-- tokens that are below a bound at each place
small_take : (bound k : ℕ) (order : List ℕ) → ((i : ℕ) → i < length order → get_or order i 0 < bound) → Every (λ t. t < bound) (take k order)
small_take bound zero order h = tt
small_take bound (suc k) [] h = tt
small_take bound (suc k) (t ∷ order) h = (h 0 (omega arith), small_take bound k order (λ i b. h (suc i) (omega arith)))

-- an image at a place
map_at : (f : ℕ → ℕ) (l : List ℕ) (i : ℕ) → i < length l → get_or (map f l) i 0 ≡ f (get_or l i 0)
map_at f [] i h = absurd (omega arith)
map_at f (n ∷ l) zero h = refl
map_at f (n ∷ l) (suc i) h = map_at f l i (omega arith)

-- zeros together are 0
sum_zeros : (n : ℕ) → sum_of (replicate n 0) ≡ 0
unfolding sum_of
sum_zeros zero = refl
sum_zeros (suc n) = omega (arith, sum_zeros n)

-- without rounding there are no figures
no_figures : {plan : Pipeline} {r : Rounding} → AtOpening plan r → is_base r.base ≡ false → lent_count plan.tokens r ≡ 0
unfolding lent_count
no_figures without q = refl
no_figures (rounds h s b) q = absurd (never (sym b ∙ q))

-- a base is not 0
base_not_0 : {b : ℕ} → IsBase b → eqb b 0 ≡ false
base_not_0 three = refl
base_not_0 five = refl

module _ {X : Type 0} {S : Source X} {plan : Pipeline} (ranged : PipelineInRange plan)
    {workers : ℕ} (manned : WorkersInRange workers) {x : X} {order : List ℕ} {z : X}
    (sheet : Sheet S plan x order z) (once : (n : ℕ) → times n order ≤ 1) {r : Rounding} (opens : AtOpening plan r) (cells : List ℕ) (ls : List Choice) where
  run : RoundedRun S plan workers x r (carried_lendings S plan workers x r cells ls) order z
  run = rounded_run ranged manned sheet opens (carried_lendings S plan workers x r cells ls)

  abbrev passings : List PassedCell
  passings = rounded_cells S plan workers x r (carried_lendings S plan workers x r cells ls)

  abbrev figures : List ℕ
  figures = carried_figures S plan workers x r cells ls

  abbrev before : ℕ → ℕ
  before k = cells_before S plan workers x r cells ls order k

  figures_are : figures ≡ put_all (replicate (lent_count plan.tokens r) 0) passings
  figures_are = figures_put S cells ls (opened_run S plan workers x r) (replicate (lent_count plan.tokens r) 0)

  count_is : length passings ≡ run.passed
  count_is = omega (arith, length-map passings (λ p. p.token), ap length run.in_order, length-take run.passed order, run.passed_most)

  -- the cells of the places
  cells_are : cells_in passings ≡ map (λ t. get_or cells t 0) (take run.passed order)
  cells_are =
      cells_same S cells ls (opened_run S plan workers x r) (replicate (lent_count plan.tokens r) 0) ∙
      ap (map (λ t. get_or cells t 0)) run.in_order

  before_is : (k : ℕ) → k ≤ run.passed → sum_of (take k (cells_in passings)) ≡ before k
  before_is k h =
      ap sum_of (ap (take k) cells_are ∙ sym (map_take (λ t. get_or cells t 0) k (take run.passed order)) ∙
      ap (map (λ t. get_or cells t 0)) (take-take k run.passed order h))

  -- each token comes once, and has a figure
  each_once : (n : ℕ) → times n (tokens_in passings) ≤ 1
  each_once n = rw run.in_order (omega (arith, once n, times_take n run.passed order))

  each_small : Every (λ t. t < length (replicate {A = ℕ} (lent_count plan.tokens r) 0)) (tokens_in passings)
  unfolding lent_count
  each_small = elim (based opens) [
    | no_base e ↦ rw (run.in_order, run.none_passed e) tt
    | some_base h ↦ rw (run.in_order, length-replicate, base_not_0 h) (small_take plan.tokens run.passed order sheet.known)
  ]

  figure_at : (k : ℕ) → k < run.passed → get_or figures (get_or order k 0) 0 ≡ get_or (figures_in passings) k 0
  figure_at k h =
      let t : get_or (tokens_in passings) k 0 ≡ get_or order k 0 = ap (λ (l : List ℕ). get_or l k 0) run.in_order ∙ get_or-take run.passed order k 0 h in
      ap (λ (f : List ℕ). get_or f (get_or order k 0) 0) figures_are ∙
      ap (λ n. get_or (put_all (replicate (lent_count plan.tokens r) 0) passings) n 0) (sym t) ∙
      put_at (replicate (lent_count plan.tokens r) 0) passings each_once each_small k (omega (arith, count_is))

  figures_read : map (λ t. get_or figures t 0) (take run.passed order) ≡ figures_in passings
  figures_read =
      let n : length (take run.passed order) ≡ run.passed = omega (arith, length-take run.passed order, run.passed_most) in
      ext_get_or 0 _ _
      (length-map (take run.passed order) (λ t. get_or figures t 0) ∙ n ∙ sym count_is ∙ sym (length-map passings (λ p. p.figure)))
      (λ k h.
      let b : k < run.passed = omega (arith, length-map (take run.passed order) (λ t. get_or figures t 0)) in
      map_at (λ t. get_or figures t 0) (take run.passed order) k (omega arith) ∙
      ap (λ t. get_or figures t 0) (get_or-take run.passed order k 0 b) ∙ figure_at k b)

  all_together : sum_of figures ≡ published r.base (before run.passed)
  all_together =
      ap sum_of figures_are ∙
      put_sum (replicate (lent_count plan.tokens r) 0) passings each_once each_small (λ n h. cleared (lent_count plan.tokens r) n) ∙
      omega (arith, sum_zeros (lent_count plan.tokens r), run.published_is, ap (published r.base) (run.sum_is ∙ ap sum_of cells_are))

  -- every list of choices, with the same cells throughout and the figures handed on
  pub carried_run : CarriedRun S plan workers x r cells ls order
  carried_run = record {
    as_without = as_plain ranged manned sheet opens cells ls;
    passed = run.passed;
    passed_most = run.passed_most;
    all_passed = run.all_passed;
    tokens_are = run.in_order;
    sum_is = run.sum_is ∙ ap sum_of cells_are;
    published_is = ap sum_of figures_read ∙ run.published_is ∙ ap (published r.base) (run.sum_is ∙ ap sum_of cells_are);
    total = all_together;
    figure_is = λ k h. figure_at k h ∙
        omega (
          arith,
          sum_next (figures_in passings) k,
          run.sums_are k,
          run.sums_are (suc k),
          ap (published r.base) (before_is k (omega arith)),
          ap (published r.base) (before_is (suc k) (omega arith)),
        );
    others_keep = λ n h.
        ap (λ (f : List ℕ). get_or f n 0) figures_are ∙
        put_else (replicate (lent_count plan.tokens r) 0) passings n (rw run.in_order h) ∙ cleared (lent_count plan.tokens r) n;
    size = ap length figures_are ∙ length_put (replicate (lent_count plan.tokens r) 0) passings ∙ length-replicate (lent_count plan.tokens r) 0;
  }

module _ {X : Type 0} {S : Source X} {plan : Pipeline} (ranged : PipelineInRange plan) {order : List ℕ} (once : (n : ℕ) → times n order ≤ 1)
    {r : Rounding} (opens : AtOpening plan r) (cells : List ℕ) where
  -- the figure of each token at the end of a run
  module _ {x z : X} (sheet : Sheet S plan x order z) {w : ℕ} (manned : WorkersInRange w) (ls : List Choice) (b : is_base r.base ≡ true)
      (e : ended (rounded_end S plan w x r (carried_lendings S plan w x r cells ls)).machine ≡ true) where
    all_through : (carried_run ranged manned sheet once opens cells ls).passed ≡ length order
    all_through = (carried_run ranged manned sheet once opens cells ls).all_passed b e

    end_figure : (k : ℕ) → k < length order →
        get_or (carried_figures S plan w x r cells ls) (get_or order k 0) 0 ≡
        published r.base (sum_of (map (λ t. get_or cells t 0) (take (suc k) order))) - published r.base (sum_of (map (λ t. get_or cells t 0) (take k order)))
    end_figure k h = (carried_run ranged manned sheet once opens cells ls).figure_is k (omega (arith, all_through))

    end_other : (n : ℕ) → has order n ≡ false → get_or (carried_figures S plan w x r cells ls) n 0 ≡ 0
    end_other n h =
        let c = carried_run ranged manned sheet once opens cells ls in
        c.others_keep n (ap (λ (l : List ℕ). has l n) (take_all c.passed order (omega (arith, all_through))) ∙ h)

  -- "Any two runs over one plan, pipe and base, followed to their end with the same cells throughout and the figures handed on as
  -- left, publish the same figure for each token", whatever the workers, and wherever the tokens come from
  pub same_figures : {x y z u : X} (sheet : Sheet S plan x order z) (sheet' : Sheet S plan y order u) →
      {w v : ℕ} → WorkersInRange w → WorkersInRange v → (ls ks : List Choice) →
      ended (rounded_end S plan w x r (carried_lendings S plan w x r cells ls)).machine ≡ true →
      ended (rounded_end S plan v y r (carried_lendings S plan v y r cells ks)).machine ≡ true →
      carried_figures S plan w x r cells ls ≡ carried_figures S plan v y r cells ks
  same_figures sheet sheet' mw mv ls ks e f =
      let a = carried_run ranged mw sheet once opens cells ls in
      let b = carried_run ranged mv sheet' once opens cells ks in
      ext_get_or 0 _ _ (a.size ∙ sym b.size) (λ n h. elim (see (is_base r.base)) [
        | fails q ↦ absurd (omega (arith, a.size, no_figures opens q))
        | holds q ↦ elim (see (has order n)) [
          | fails t ↦ end_other sheet mw ls q e n t ∙ sym (end_other sheet' mv ks q f n t)
          | holds t ↦
              let (k, i, found) = place_of order n t in
              rw found at (end_figure sheet mw ls q e k i ∙ sym (end_figure sheet' mv ks q f k i))
        ]
      ])
