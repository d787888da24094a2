-- Every token placed takes two accepted choices a pipe, and the stop takes one.
use mathlib.Core.Path.{◌≡◌, refl, sym, ap, ◌∙◌}
use mathlib.Core.Bool.{true, false}
use mathlib.Core.List.{List}
use Prim.Native.Nat.{ℕ, suc, ◌+◌, ◌-◌, ◌*◌, ◌≤◌, ◌<◌}
use native.Mathlib.Nat.{mul-suc, mul-le-mul_left}
use native.Mathlib.Omega.{arith}
use lib.Dec.{eqb}
use lib.ListN.{length}
use borrow.Author.Tests.{ne_eqb}
use Rattle.rules.specs.Lists.{if}
use Rattle.rules.specs.RunState.{Pipeline}
use Rattle.rules.specs.Sources.{Source}
use Rattle.rules.specs.Choices.{Answer}
use Rattle.rules.specs.WholeRuns.{PipelineInRange, accepted}
use Rattle.rules.proofs.lists.Sums.{total, total_change, total_zero, total_from}
use Rattle.rules.proofs.lists.Tests.{same, other, same_as, holds, fails, see, never}
use Rattle.rules.proofs.standing.Standing.{Standing, Good, begin, finish, put, put_same, put_other, same_place}
use Rattle.rules.proofs.standing.Begin.{begin_busy, begin_busy_else}
use Rattle.rules.proofs.standing.Finish.{finish_pipe, finish_busy, finish_pipe_else, finish_busy_else}
use Rattle.rules.proofs.invariant.Invariant.{Allowed, State, free, taken, closed, Inv, placed_most, first_held}
use Rattle.rules.proofs.choices.Moves.{Ready, Starts, Finishes}
use Rattle.rules.proofs.choices.Trace.{Trace, rests, refused, stopped, entered, started, finished}
use Rattle.rules.proofs.runs.Ending.{Over}

module _ (plan : Pipeline) where
  -- the accepted choices that a line's token still needs; the line that stopped is counted as if it held one
  unfoldable pub left : Standing → ℕ → ℕ
  left g l = if (g.busy l) (2 * (plan.pipes - g.pipe l) - 1) (if (eqb (g.pipe l) 0) 0 (2 * (plan.pipes - g.pipe l)))

  -- what is left, case by case
  pub left_busy : (g : Standing) (l : ℕ) → g.busy l ≡ true → left g l ≡ 2 * (plan.pipes - g.pipe l) - 1
  unfolding left
  left_busy g l b = rw b

  pub left_first : (g : Standing) (l : ℕ) → g.busy l ≡ false → g.pipe l ≡ 0 → left g l ≡ 0
  unfolding left
  left_first g l b e = rw (b, e)

  pub left_later : (g : Standing) (l : ℕ) → g.busy l ≡ false → (g.pipe l ≡ 0 → ⊥) → left g l ≡ 2 * (plan.pipes - g.pipe l)
  unfolding left
  left_later g l b n = rw (b, ne_eqb (g.pipe l) 0 n)

module _ {plan : Pipeline} (ranged : PipelineInRange plan) {g : Standing} (ok : Good plan g) (l : ℕ) (i : l < plan.lines) where
  left_begin_else : g.busy l ≡ false → (j : ℕ) → (j ≡ l → ⊥) → left plan (begin g l) j ≡ left plan g j
  unfolding left begin
  left_begin_else b j n = rw (begin_busy_else ranged g l b j n)

  -- a line that starts has one less than two a pipe left
  pub left_begin : g.busy l ≡ false → left plan (begin g l) l ≡ 2 * (plan.pipes - g.pipe l) - 1
  unfolding begin
  left_begin b = left_busy plan (begin g l) l (begin_busy ranged g l b)

  left_finish_else : g.busy l ≡ true → (j : ℕ) → (j ≡ l → ⊥) → left plan (finish plan g l) j ≡ left plan g j
  unfolding left
  left_finish_else b j n = rw (finish_busy_else ranged g l b j n, finish_pipe_else ranged g l b j n)

  -- a finish leaves one less
  pub left_finish : g.busy l ≡ true → suc (left plan (finish plan g l) l) ≡ left plan g l
  left_finish b =
      let h : g.pipe l < plan.pipes = ok.at l i in
      let q : left plan g l ≡ 2 * (plan.pipes - g.pipe l) - 1 = left_busy plan g l b in
      elim (same_as (suc (g.pipe l)) plan.pipes) [
        | same e t ↦
            let p : (finish plan g l).pipe l ≡ 0 = finish_pipe ranged g l b ∙ rw t in
            omega (arith, left_first plan (finish plan g l) l (finish_busy ranged g l b) p)
        | other n t ↦
            let p : (finish plan g l).pipe l ≡ suc (g.pipe l) = finish_pipe ranged g l b ∙ rw t in
            omega (arith, left_later plan (finish plan g l) l (finish_busy ranged g l b) (omega arith))
      ]

  -- a token that enters needs two choices a pipe, the first of which is this one
  pub enter_left : g.busy l ≡ false → g.pipe l ≡ 0 → suc (total (left plan (begin g l)) plan.lines) ≡ total (left plan g) plan.lines + 2 * plan.pipes
  enter_left b e =
      let h : 0 < plan.pipes = ranged.pipes_some in
      omega (arith, left_begin b, left_first plan g l b e, total_change (left plan g) (left plan (begin g l)) l plan.lines i (λ j k. left_begin_else b j))

  -- any later start, and any finish, is one of the choices that were left
  pub start_left : g.busy l ≡ false → (g.pipe l ≡ 0 → ⊥) → suc (total (left plan (begin g l)) plan.lines) ≡ total (left plan g) plan.lines
  start_left b n =
      let h : g.pipe l < plan.pipes = ok.at l i in
      omega (arith, left_begin b, left_later plan g l b n, total_change (left plan g) (left plan (begin g l)) l plan.lines i (λ j k. left_begin_else b j))

  pub finish_left : g.busy l ≡ true → suc (total (left plan (finish plan g l)) plan.lines) ≡ total (left plan g) plan.lines
  finish_left b = omega (arith, left_finish b, total_change (left plan g) (left plan (finish plan g l)) l plan.lines i (λ j k. left_finish_else b j))

-- how often a line has taken: once a token placed, and once for the stop
abbrev pub takes : {X : Type 0} → State X → ℕ
takes st = st.placed + if st.stopped 1 0

-- the accepted choices on the way to an end, by what was taken and what is left
abbrev Balance : {X : Type 0} → Pipeline → State X → Standing → State X → Standing → ℕ → Type 0
Balance plan end last st g n =
    n + 2 * (plan.pipes * takes st) + total (left plan last) plan.lines ≡ 2 * (plan.pipes * takes end) + total (left plan g) plan.lines

module _ {X : Type 0} {S : Source X} {plan : Pipeline} {workers : ℕ} {order : List ℕ} {z : X} (ranged : PipelineInRange plan) (end : State X) (last : Standing)
    (st st' : State X) (g : Standing) (l n : ℕ) (inv : Inv S plan workers order z st g) where
  enter_balance : Ready plan g l → g.pipe l ≡ 0 → takes st' ≡ suc (takes st) → Balance plan end last st' (begin g l) n → Balance plan end last st g (suc n)
  enter_balance r e t b =
      omega (arith, enter_left ranged inv.good l r.within r.waits e, ap (λ k. plan.pipes * k) t, mul-suc plan.pipes (takes st), b)

  start_balance : Starts plan order st g l st' → Balance plan end last st' (begin g l) n → Balance plan end last st g (suc n)
  start_balance f b =
      let t : takes st' ≡ takes st = rw (f.placed, f.stopped) in
      omega (arith, start_left ranged inv.good l f.ready.within f.ready.waits f.later, ap (λ k. plan.pipes * k) t, b)

  finish_balance : Finishes plan order st g l st' → Balance plan end last st' (finish plan g l) n → Balance plan end last st g (suc n)
  finish_balance f b =
      let t : takes st' ≡ takes st = rw (f.placed, f.stopped) in
      omega (arith, finish_left ranged inv.good l f.within f.runs, ap (λ k. plan.pipes * k) t, b)

stop_takes : {X : Type 0} (st st' : State X) → st.stopped ≡ false → st'.stopped ≡ true → st'.placed ≡ st.placed → takes st' ≡ suc (takes st)
stop_takes st st' a b c = rw (a, b, c) (omega arith)

-- the accepted choices of a run, or of a part of one
pub balance : {X : Type 0} {S : Source X} {plan : Pipeline} {workers : ℕ} {order : List ℕ} {z : X} → PipelineInRange plan → {end : State X} {last : Standing}
    {st : State X} {g : Standing} {events : List Answer} → Trace S plan workers order z end last st g events → Balance plan end last st g (accepted events)
unfolding accepted
balance r (rests inv) = omega arith
balance r (refused n h t) = balance r t
balance r {end} {last} (stopped {st = st} {st' = st'} {g = g} {rest = rest} l inv f t) =
    enter_balance r end last st st' g l (accepted rest) inv f.ready f.first (stop_takes st st' f.before f.after f.placed) (balance r t)
balance r {end} {last} (entered {st = st} {st' = st'} {g = g} {rest = rest} l inv f t) =
    enter_balance r end last st st' g l (accepted rest) inv f.ready f.first (rw (f.placed, f.stopped) (omega arith)) (balance r t)
balance r {end} {last} (started {st = st} {st' = st'} {g = g} {rest = rest} l inv f t) =
    start_balance r end last st st' g l (accepted rest) inv f (balance r t)
balance r {end} {last} (finished {st = st} {st' = st'} {g = g} {rest = rest} l inv f t) =
    finish_balance r end last st st' g l (accepted rest) inv f (balance r t)

module _ {X : Type 0} {S : Source X} {plan : Pipeline} {workers : ℕ} {order : List ℕ} {z : X} (ok : Allowed plan workers order)
    {st : State X} {g : Standing} (inv : Inv S plan workers order z st g) where
  -- a line for which nothing is left waits at pipe 0
  pub none_left : (l : ℕ) → l < plan.lines → left plan g l ≡ 0 → g.pipe l ≡ 0
  none_left l h e =
      let q : g.pipe l < plan.pipes = inv.good.at l h in
      elim (see (g.busy l)) [
        | holds b ↦ absurd (omega (arith, left_busy plan g l b))
        | fails b ↦ elim (same_as (g.pipe l) 0) [ same f t ↦ f | other n t ↦ absurd (omega (arith, left_later plan g l b n)) ]
      ]

  -- at the end only the line that stopped counts as having something left
  pub over_left : Over plan order z st g → suc (total (left plan g) plan.lines) ≡ 2 * plan.pipes
  over_left o =
      let s : ℕ = o.stopper in
      let h : 0 < plan.pipes = ok.ranged.pipes_some in
      let e : g.pipe s ≡ 0 = o.stops.first in
      let else : (j : ℕ) → j < plan.lines → (j ≡ s → ⊥) → left plan g j ≡ 0 = λ j i n. elim (see (g.busy j)) [
        | fails b ↦ left_first plan g j b (o.first j i)
        | holds b ↦ absurd (n (same_place ok.ranged g inv.good j s i o.stops.within
            (first_held ok.ranged inv j (record { within = i; first = o.first j i; runs = b })
            ∙ sym (first_held ok.ranged inv s o.stops))))
      ] in
      omega (
        arith,
        left_busy plan g s o.stops.runs,
        total_zero (λ j. 0) plan.lines (λ j i. refl),
        total_change (λ j. 0) (left plan g) s plan.lines o.stops.within else,
      )

  -- once the line has stopped, the whole order is placed
  stopped_placed : st.stopped ≡ true → st.placed ≡ length order
  stopped_placed halted = elim inv.feed [
    | free s p none m w ↦ absurd (never (sym halted ∙ s))
    | taken j f s p m o d w ↦ absurd (never (sym halted ∙ s))
    | closed j f s p m o d ↦ p ∙ m
  ]

  -- and where only so much is left once the line has stopped, the run is over
  pub left_over : st.stopped ≡ true → suc (total (left plan g) plan.lines) ≡ 2 * plan.pipes → Over plan order z st g
  left_over halted e = elim inv.feed [
    | free s p none m w ↦ absurd (never (sym halted ∙ s))
    | taken j f s p m o d w ↦ absurd (never (sym halted ∙ s))
    | closed j f s p m o d ↦
        let others : ℕ → ℕ = put (left plan g) j 0 in
        let h : 0 < plan.pipes = ok.ranged.pipes_some in
        let q : g.pipe j ≡ 0 = f.first in
        let rest : total others plan.lines ≡ 0 =
        omega (
          arith,
          e,
          left_busy plan g j f.runs,
          put_same (left plan g) j 0,
          total_change (left plan g) others j plan.lines f.within (λ i k n. put_other (left plan g) j 0 i n),
        ) in
        record {
          stopped = s;
          placed = p ∙ m;
          passed = m;
          source = d;
          stopper = j;
          stops = f;
          first = λ l i. elim (same_as l j) [
            | same u t ↦ rw u f.first
            | other n t ↦ none_left l i (omega (arith, rest, total_from others l plan.lines i, put_other (left plan g) j 0 l n))
          ];
        }
  ]

  module _ (n : ℕ) (balanced : n + total (left plan g) plan.lines ≡ 2 * (plan.pipes * takes st)) where
    -- the run has ended exactly if so many choices were accepted
    pub over_count : Over plan order z st g → n ≡ 2 * length order * plan.pipes + 1
    over_count o =
        let t : takes st ≡ suc (length order) = rw (o.stopped, o.placed) (omega arith) in
        omega (arith, balanced, over_left o, ap (λ k. plan.pipes * k) t, mul-suc plan.pipes (length order))

    -- and only then
    pub count_over : n ≡ 2 * length order * plan.pipes + 1 → Over plan order z st g
    count_over e = elim (see st.stopped) [
      | fails s ↦
          let t : takes st ≤ length order = rw s (omega (arith, placed_most ok.ranged inv)) in
          absurd (omega (arith, e, balanced, mul-le-mul_left plan.pipes t))
      | holds s ↦
          let t : takes st ≡ suc (length order) = rw (s, stopped_placed s) (omega arith) in
          left_over s (omega (arith, e, balanced, ap (λ k. plan.pipes * k) t, mul-suc plan.pipes (length order)))
    ]
