-- How a run stands, line by line and pipe by pipe: what the counters and the slots are accounted by.
use mathlib.Core.Path.{◌≡◌, refl, sym, ap, ◌∙◌}
use mathlib.Core.Bool.{Bool, true, false}
use Prim.Native.Nat.{ℕ, suc, ◌+◌, ◌%◌, ◌≤◌, ◌<◌}
use native.Mathlib.Nat.{add-mod_left, mod-lt}
use native.Mathlib.Omega.{arith}
use lib.Dec.{eqb, ltb}
use borrow.Author.Tests.{eq-eqb, ne_eqb, lt-ltb, le-ltb}
use Rattle.rules.specs.Lists.{if}
use lib.ListN.{get_or}
use Rattle.rules.specs.RunState.{Pipeline, full}
use Rattle.rules.specs.Choices.{next}
use Rattle.rules.specs.WholeRuns.{PipelineInRange}
use Rattle.rules.proofs.lists.Tests.{lower, upper, below, holds, fails, see}
use Rattle.rules.proofs.lists.Rotation.{only}

-- whether a pipe of the plan is serial
abbrev pub serial_at : Pipeline → ℕ → Bool
serial_at plan p = get_or plan.serial p false

-- a function with one value put in place of another
unfoldable pub put : {A : Type 0} → (ℕ → A) → ℕ → A → ℕ → A
put f i v j = if (eqb j i) v (f j)

-- what was put, and what was there
pub put_same : {A : Type 0} (f : ℕ → A) (i : ℕ) (v : A) → put f i v i ≡ v
unfolding put
put_same f i v = rw (eq-eqb i i refl)

pub put_other : {A : Type 0} (f : ℕ → A) (i : ℕ) (v : A) (j : ℕ) → (j ≡ i → ⊥) → put f i v j ≡ f j
unfolding put
put_other f i v j n = rw (ne_eqb j i n)

-- for each line its pipe, whether it runs there, and the place of its token, or of its next one where it waits at pipe 0;
-- for each serial pipe how many tokens have finished it. The line that stopped counts as running pipe 0.
pub record Standing : Type 0 where
  pub pipe : ℕ → ℕ
  pub busy : ℕ → Bool
  pub place : ℕ → ℕ
  pub passed : ℕ → ℕ

-- how many pipes a line has started with its token
unfoldable pub reached : Standing → ℕ → ℕ
reached g l = if (g.busy l) (suc (g.pipe l)) (g.pipe l)

-- 1 where a line waits at a pipe
unfoldable pub waiting : Standing → ℕ → ℕ → ℕ
waiting g l p = if (g.busy l) 0 (if (eqb (g.pipe l) p) 1 0)

-- a line starts its pipe
unfoldable pub begin : Standing → ℕ → Standing
begin g l = record { pipe = g.pipe; busy = put g.busy l true; place = g.place; passed = g.passed }

module _ (plan : Pipeline) where
  -- the place that a line starts next at a pipe
  unfoldable pub to_start : Standing → ℕ → ℕ → ℕ
  to_start g l p = if (ltb p (reached g l)) (plan.lines + g.place l) (g.place l)

  -- the place that a line finishes next at a pipe
  unfoldable pub to_finish : Standing → ℕ → ℕ → ℕ
  to_finish g l p = if (ltb p (g.pipe l)) (plan.lines + g.place l) (g.place l)

  -- 1 where it is a line's turn at a serial pipe
  unfoldable pub turn : Standing → ℕ → ℕ → ℕ
  turn g l p = if (serial_at plan p) (if (eqb (to_start g l p) (g.passed p)) 1 0) 0

  -- a line finishes its pipe
  unfoldable pub finish : Standing → ℕ → Standing
  finish g l = record {
    pipe = put g.pipe l (next plan.pipes (g.pipe l));
    busy = put g.busy l false;
    place = put g.place l (if (eqb (suc (g.pipe l)) plan.pipes) (plan.lines + g.place l) (g.place l));
    passed = put g.passed (g.pipe l) (if (serial_at plan (g.pipe l)) (suc (g.passed (g.pipe l))) (g.passed (g.pipe l)));
  }

  -- every line's next place to finish at a serial pipe is one of the L places that follow those that have finished it
  pub record Good (g : Standing) : Type 0 where
    pub line : (l : ℕ) → l < plan.lines → g.place l % plan.lines ≡ l
    pub at : (l : ℕ) → l < plan.lines → g.pipe l < plan.pipes
    pub low : (l p : ℕ) → l < plan.lines → p < plan.pipes → serial_at plan p ≡ true → g.passed p ≤ to_finish g l p
    pub high : (l p : ℕ) → l < plan.lines → p < plan.pipes → serial_at plan p ≡ true → to_finish g l p < g.passed p + plan.lines
    pub held : (l : ℕ) → l < plan.lines → serial_at plan (g.pipe l) ≡ true → g.busy l ≡ true → g.place l ≡ g.passed (g.pipe l)

module _ {plan : Pipeline} (ranged : PipelineInRange plan) (g : Standing) where
  -- the places of a line keep its number
  pub finish_line : (l p : ℕ) → to_finish plan g l p % plan.lines ≡ g.place l % plan.lines
  unfolding to_finish
  finish_line l p = elim (see (ltb p (g.pipe l))) [
    | holds e ↦ rw e (add-mod_left plan.lines (g.place l))
    | fails e ↦ rw e refl
  ]

  -- the places of a line keep its number
  pub start_line : (l p : ℕ) → to_start plan g l p % plan.lines ≡ g.place l % plan.lines
  unfolding to_start
  start_line l p = elim (see (ltb p (reached g l))) [
    | holds e ↦ rw e (add-mod_left plan.lines (g.place l))
    | fails e ↦ rw e refl
  ]

  -- what is to be started next is no earlier than the line's place
  pub start_from : (l p : ℕ) → g.place l ≤ to_start plan g l p
  unfolding to_start
  start_from l p = elim (see (ltb p (reached g l))) [ holds e ↦ rw e (omega arith) | fails e ↦ rw e (omega arith) ]

  -- nor is what is to be finished next
  pub finish_from : (l p : ℕ) → g.place l ≤ to_finish plan g l p
  unfolding to_finish
  finish_from l p = elim (see (ltb p (g.pipe l))) [ holds e ↦ rw e (omega arith) | fails e ↦ rw e (omega arith) ]

  -- at its own pipe a line finishes its own place next
  pub finish_here : (l : ℕ) → to_finish plan g l (g.pipe l) ≡ g.place l
  unfolding to_finish
  finish_here l = rw (le-ltb (g.pipe l) (g.pipe l) (omega arith))

  -- and at the pipes behind it its next place
  pub finish_past : (l p : ℕ) → p < g.pipe l → to_finish plan g l p ≡ plan.lines + g.place l
  unfolding to_finish
  finish_past l p h = rw (lt-ltb p (g.pipe l) h)

  -- a waiting line starts its own place next
  pub start_here : (l : ℕ) → g.busy l ≡ false → to_start plan g l (g.pipe l) ≡ g.place l
  unfolding to_start reached
  start_here l e = rw (e, le-ltb (g.pipe l) (g.pipe l) (omega arith))

  -- a busy one its next place
  pub start_busy : (l : ℕ) → g.busy l ≡ true → to_start plan g l (g.pipe l) ≡ plan.lines + g.place l
  unfolding to_start reached
  start_busy l e = rw (e, lt-ltb (g.pipe l) (suc (g.pipe l)) (omega arith))

  -- the two differ only at the pipe that the line runs
  pub start_finish : (l p : ℕ) → (g.busy l ≡ true → p ≡ g.pipe l → ⊥) → to_start plan g l p ≡ to_finish plan g l p
  unfolding to_start to_finish reached
  start_finish l p n = elim (see (g.busy l)) [
    | fails e ↦ rw e refl
    | holds e ↦ rw e (let m : p ≡ g.pipe l → ⊥ = n e in elim (below p (g.pipe l)) [
      | lower d f ↦ rw (f, lt-ltb p (suc (g.pipe l)) (omega arith))
      | upper d f ↦ rw (f, le-ltb p (suc (g.pipe l)) (omega arith))
    ])
  ]

  -- a line waits once
  pub waiting_one : (l p : ℕ) → waiting g l p ≤ 1
  unfolding waiting
  waiting_one l p = elim (see (g.busy l)) [
    | holds e ↦ rw e (omega arith)
    | fails e ↦ elim (see (eqb (g.pipe l) p)) [ holds f ↦ rw (e, f) (omega arith) | fails f ↦ rw (e, f) (omega arith) ]
  ]

  -- a turn's values
  pub turn_yes : (l p : ℕ) → serial_at plan p ≡ true → to_start plan g l p ≡ g.passed p → turn plan g l p ≡ 1
  unfolding turn
  turn_yes l p s e = rw (s, eq-eqb (to_start plan g l p) (g.passed p) e)

  pub turn_no : (l p : ℕ) → (to_start plan g l p ≡ g.passed p → ⊥) → turn plan g l p ≡ 0
  unfolding turn
  turn_no l p n = elim (see (serial_at plan p)) [ holds s ↦ rw (s, ne_eqb (to_start plan g l p) (g.passed p) n) | fails s ↦ rw s ]

  pub turn_parallel : (l p : ℕ) → serial_at plan p ≡ false → turn plan g l p ≡ 0
  unfolding turn
  turn_parallel l p s = rw s

  -- a turn never fills a counter
  pub turn_less : (l p : ℕ) → turn plan g l p < full (serial_at plan p)
  unfolding turn
  turn_less l p = elim (see (serial_at plan p)) [
    | fails e ↦ rw e (omega arith)
    | holds e ↦ elim (see (eqb (to_start plan g l p) (g.passed p))) [ holds f ↦ rw (e, f) (omega arith) | fails f ↦ rw (e, f) (omega arith) ]
  ]

  module _ (ok : Good plan g) where
    -- two lines that have the same place are one
    pub same_place : (i j : ℕ) → i < plan.lines → j < plan.lines → g.place i ≡ g.place j → i ≡ j
    same_place i j h k e = sym (ok.line i h) ∙ ap (λ n. n % plan.lines) e ∙ ok.line j k

    -- the line whose turn it is at a serial pipe, by the places that have finished it
    pub finishes_next : (p : ℕ) → p < plan.pipes → serial_at plan p ≡ true → to_finish plan g (g.passed p % plan.lines) p ≡ g.passed p
    finishes_next p h s =
        let l : ℕ = g.passed p % plan.lines in
        let i : l < plan.lines = mod-lt (g.passed p) ranged.lines_some in
        only plan.lines ranged.lines_some (g.passed p) (to_finish plan g l p) (ok.low l p i h s) (ok.high l p i h s) (finish_line l p ∙ ok.line l i)

    -- at the pipe of the line with the least place it is that line's turn
    pub least_turn : (l : ℕ) → l < plan.lines → ((i : ℕ) → i < plan.lines → g.place l ≤ g.place i) → serial_at plan (g.pipe l) ≡ true →
        g.place l ≡ g.passed (g.pipe l)
    least_turn l h least s =
        let p : ℕ = g.pipe l in
        let i : ℕ = g.passed p % plan.lines in
        let q : p < plan.pipes = ok.at l h in
        omega (arith, finishes_next p q s, finish_from i p, least i (mod-lt (g.passed p) ranged.lines_some), ok.low l p h q s, finish_here l)
