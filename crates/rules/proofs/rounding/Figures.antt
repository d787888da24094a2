-- Figures that are handed on from choice to choice, with the same cells throughout.
use mathlib.Core.Path.{◌≡◌, refl, sym, ap, ◌∙◌}
use mathlib.Core.Bool.{true, false}
use mathlib.Core.List.{List, [], ◌∷◌, map}
use Prim.Native.Nat.{ℕ, zero, suc, ◌+◌, ◌≤◌, ◌<◌}
use native.Mathlib.Omega.{arith}
use lib.ListN.{length, get_or, set, length-set}
use lib.Seq.{get_or-set_same, get_or-set_other, set_out}
use Rattle.rules.specs.Lists.{has, times, Every}
use Rattle.rules.specs.Sources.{Source}
use Rattle.rules.specs.Choices.{Choice}
use Rattle.rules.specs.Rounding.{rise, Rounding, Passing, NonePasses, Passes, passing, figures_after, Run, Lending, choose_rounded}
use Rattle.rules.specs.RoundedRuns.{sum_of, PassedCell, tokens_in, cells_in, figures_in, add_passed, passed_cells, handed_on, figures_left}
use Rattle.rules.proofs.lists.Tests.{lower, upper, below}
use Rattle.rules.proofs.lists.Counting.{members, same_number}
use Rattle.rules.proofs.rounding.Choice.{spoiled, own, unfit, too_much, accepts, case}
use Rattle.rules.proofs.rounding.Passers.{passing_refused}

-- figures with those of some passed cells put in, one after the other
unfoldable pub put_all : List ℕ → List PassedCell → List ℕ
put_all f [] = f
put_all f (p ∷ l) = put_all (set f p.token p.figure) l

pub length_put : (f : List ℕ) (l : List PassedCell) → length (put_all f l) ≡ length f
unfolding put_all
length_put f [] = refl
length_put f (p ∷ l) = length_put (set f p.token p.figure) l ∙ length-set f p.token p.figure

-- a token without a passed cell keeps its figure
pub put_else : (f : List ℕ) (l : List PassedCell) (n : ℕ) → has (tokens_in l) n ≡ false → get_or (put_all f l) n 0 ≡ get_or f n 0
unfolding put_all times
put_else f [] n h = refl
put_else f (p ∷ l) n h =
    put_else (set f p.token p.figure) l n (omega members) ∙
    get_or-set_other f p.token n p.figure 0 (λ e. omega (members, same_number p.token n, e))

-- where each token comes once, it has the figure of its cell
pub put_at : (f : List ℕ) (l : List PassedCell) → ((n : ℕ) → times n (tokens_in l) ≤ 1) → Every (λ t. t < length f) (tokens_in l) →
    (k : ℕ) → k < length l → get_or (put_all f l) (get_or (tokens_in l) k 0) 0 ≡ get_or (figures_in l) k 0
unfolding put_all times
put_at f [] once small k h = absurd (omega arith)
put_at f (p ∷ l) once small zero h =
    put_else (set f p.token p.figure) l p.token (omega (members, once p.token, same_number p.token p.token)) ∙
    get_or-set_same f p.token p.figure 0 small.0
put_at f (p ∷ l) once small (suc k) h =
    put_at (set f p.token p.figure) l (λ n. omega (arith, once n)) (rw length-set small.1) k (omega arith)

-- a figure put in for another
sum_set : (f : List ℕ) (t v : ℕ) → t < length f → sum_of (set f t v) + get_or f t 0 ≡ sum_of f + v
unfolding sum_of
sum_set [] t v h = absurd (omega arith)
sum_set (n ∷ f) zero v h = omega arith
sum_set (n ∷ f) (suc t) v h = omega (arith, sum_set f t v (omega arith))

-- where each token comes once and had 0, all figures together are more by those of the passed cells
pub put_sum : (f : List ℕ) (l : List PassedCell) → ((n : ℕ) → times n (tokens_in l) ≤ 1) → Every (λ t. t < length f) (tokens_in l) →
    ((n : ℕ) → has (tokens_in l) n ≡ true → get_or f n 0 ≡ 0) → sum_of (put_all f l) ≡ sum_of f + sum_of (figures_in l)
unfolding put_all times sum_of
put_sum f [] once small clear = omega arith
put_sum f (p ∷ l) once small clear =
    let rest = put_sum (set f p.token p.figure) l (λ n. omega (arith, once n)) (rw length-set small.1)
    (λ n h. get_or-set_other f p.token n p.figure 0 (λ e. omega (members, h, once n, same_number p.token n, e)) ∙ clear n (omega (members, h))) in
    omega (arith, rest, sum_set f p.token p.figure small.0, clear p.token (omega (members, same_number p.token p.token)))

-- reading what was put
set_read : (f : List ℕ) (t v : ℕ) → set f t (get_or (set f t v) t 0) ≡ set f t v
set_read f t v = elim (below t (length f)) [
  | lower h u ↦ ap (set f t) (get_or-set_same f t v 0 h)
  | upper h u ↦ set_out f t _ h ∙ sym (set_out f t v h)
]

-- one passed cell before others
add_put : (r : Rounding) (cells figures left : List ℕ) (p : Passing) (l : List PassedCell) → left ≡ figures_after r cells figures p →
    put_all left l ≡ put_all figures (add_passed p cells left l)
unfolding put_all
add_put r cells figures left NonePasses l e = ap (λ (f : List ℕ). put_all f l) e
add_put r cells figures left (Passes t) l e =
    ap (λ (f : List ℕ). put_all f l)
    (e ∙ sym (set_read figures t (rise r.base r.sum (get_or cells t 0))) ∙ ap (λ (f : List ℕ). set figures t (get_or f t 0)) (sym e))

add_cells : (cells left : List ℕ) (p : Passing) (l : List PassedCell) → cells_in l ≡ map (λ t. get_or cells t 0) (tokens_in l) →
    cells_in (add_passed p cells left l) ≡ map (λ t. get_or cells t 0) (tokens_in (add_passed p cells left l))
add_cells cells left NonePasses l e = e
add_cells cells left (Passes t) l e = ap (λ (k : List ℕ). get_or cells t 0 ∷ k) e

module _ {X : Type 0} (S : Source X) where
  -- a choice changes the figure of the token that passes by it, and no other
  left_figures : (r : Run X) (a : Lending) →
      (choose_rounded S r a).figures ≡ figures_after r.rounding a.cells a.figures (passing r.rounding (choose_rounded S r a).answer)
  left_figures r a = elim (case S r a) [
    | spoiled n q ↦ rw (q, passing_refused)
    | own n h b q ↦ rw (q, passing_refused)
    | unfit h d n q ↦ rw (q, passing_refused)
    | too_much h d f m q ↦ rw (q, passing_refused)
    | accepts h d f m q ↦ rw q refl
  ]

  -- so what is left in the end is what was there, with the figures of the passed cells put in
  pub figures_put : (cells : List ℕ) (ls : List Choice) (r : Run X) (figures : List ℕ) →
      figures_left S cells r figures ls ≡ put_all figures (passed_cells S r (handed_on S cells r figures ls))
  unfolding figures_left handed_on passed_cells put_all
  figures_put cells [] r figures = refl
  figures_put cells (l ∷ ls) r figures =
      let a : Lending = record { choice = l; cells = cells; figures = figures } in
      figures_put cells ls (choose_rounded S r a).run (choose_rounded S r a).figures ∙
      add_put r.rounding cells figures (choose_rounded S r a).figures (passing r.rounding (choose_rounded S r a).answer) _ (left_figures r a)

  -- the cells are those of their tokens
  pub cells_same : (cells : List ℕ) (ls : List Choice) (r : Run X) (figures : List ℕ) →
      let l = passed_cells S r (handed_on S cells r figures ls) in cells_in l ≡ map (λ t. get_or cells t 0) (tokens_in l)
  unfolding handed_on passed_cells
  cells_same cells [] r figures = refl
  cells_same cells (l ∷ ls) r figures =
      let a : Lending = record { choice = l; cells = cells; figures = figures } in
      add_cells cells (choose_rounded S r a).figures (passing r.rounding (choose_rounded S r a).answer) _
      (cells_same cells ls (choose_rounded S r a).run (choose_rounded S r a).figures)
