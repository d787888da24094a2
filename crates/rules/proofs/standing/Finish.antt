-- A finish, and how it changes the accounts.
use mathlib.Core.Path.{◌≡◌, refl, sym, ap, ◌∙◌}
use mathlib.Core.Bool.{Bool, true, false}
use Prim.Native.Nat.{ℕ, suc, ◌+◌, ◌%◌, ◌≤◌, ◌<◌}
use native.Mathlib.Omega.{arith}
use native.Mathlib.Nat.{add-mod_left}
use lib.Dec.{eqb}
use borrow.Author.Tests.{eq-eqb, ne_eqb, lt-ltb, le-ltb}
use Rattle.rules.specs.Lists.{same_pair, if}
use Rattle.rules.specs.RunState.{Pipeline}
use Rattle.rules.specs.Choices.{next}
use Rattle.rules.specs.WholeRuns.{PipelineInRange}
use Rattle.rules.proofs.lists.Tests.{same, other, same_as, lower, upper, below, holds, fails, see, never, same_pair_lem, other_pair}
use Rattle.rules.proofs.lists.Rotation.{turns}
use Rattle.rules.proofs.standing.Standing.{Standing, serial_at, Good, put_same, put_other, reached, waiting, to_start, to_finish, turn, finish}
use Rattle.rules.proofs.standing.Standing.{finish_here, finish_line, start_line, start_busy, start_finish, finishes_next}
use Rattle.rules.proofs.standing.Standing.{turn_yes, turn_no, turn_parallel}

-- the pipe after is one of the pipes
pub next_lt : (n p : ℕ) → p < n → next n p < n
next_lt n p h = elim (same_as (suc p) n) [ same e t ↦ rw t (omega arith) | other e t ↦ rw t (omega arith) ]

module _ {plan : Pipeline} (ranged : PipelineInRange plan) (g : Standing) (l : ℕ) (runs : g.busy l ≡ true) where
  -- what a finish leaves of the other lines
  pub finish_pipe_else : (j : ℕ) → (j ≡ l → ⊥) → (finish plan g l).pipe j ≡ g.pipe j
  unfolding finish
  finish_pipe_else j n = put_other g.pipe l (next plan.pipes (g.pipe l)) j n

  pub finish_busy_else : (j : ℕ) → (j ≡ l → ⊥) → (finish plan g l).busy j ≡ g.busy j
  unfolding finish
  finish_busy_else j n = put_other g.busy l false j n

  pub finish_place_else : (j : ℕ) → (j ≡ l → ⊥) → (finish plan g l).place j ≡ g.place j
  unfolding finish
  finish_place_else j n = put_other g.place l (if (eqb (suc (g.pipe l)) plan.pipes) (plan.lines + g.place l) (g.place l)) j n

  -- and of the line itself
  pub finish_pipe : (finish plan g l).pipe l ≡ next plan.pipes (g.pipe l)
  unfolding finish
  finish_pipe = put_same g.pipe l (next plan.pipes (g.pipe l))

  pub finish_busy : (finish plan g l).busy l ≡ false
  unfolding finish
  finish_busy = put_same g.busy l false

  pub finish_place : (finish plan g l).place l ≡ if (eqb (suc (g.pipe l)) plan.pipes) (plan.lines + g.place l) (g.place l)
  unfolding finish
  finish_place = put_same g.place l (if (eqb (suc (g.pipe l)) plan.pipes) (plan.lines + g.place l) (g.place l))

  -- what is to be started next does not change
  pub finish_start : (j p : ℕ) → p < plan.pipes → to_start plan (finish plan g l) j p ≡ to_start plan g j p
  unfolding to_start reached
  finish_start j p h = elim (same_as j l) [
    | other n t ↦ rw (finish_pipe_else j n, finish_busy_else j n, finish_place_else j n)
    | same e t ↦ rw (e, finish_pipe, finish_busy, finish_place, runs) (elim (same_as (suc (g.pipe l)) plan.pipes) [
      | same q u ↦ rw (u, le-ltb p 0 (omega arith), lt-ltb p (suc (g.pipe l)) (omega arith))
      | other q u ↦ rw u
    ])
  ]

  -- what the line finishes next at its pipe is its next place
  pub finish_finish_here : to_finish plan (finish plan g l) l (g.pipe l) ≡ plan.lines + g.place l
  unfolding to_finish
  finish_finish_here = rw (finish_pipe, finish_place) (elim (same_as (suc (g.pipe l)) plan.pipes) [
    | same q u ↦ rw (u, le-ltb (g.pipe l) 0 (omega arith))
    | other q u ↦ rw (u, lt-ltb (g.pipe l) (suc (g.pipe l)) (omega arith))
  ])

  -- elsewhere nothing changes
  pub finish_finish_else : (j p : ℕ) → p < plan.pipes → (j ≡ l → p ≡ g.pipe l → ⊥) →
      to_finish plan (finish plan g l) j p ≡ to_finish plan g j p
  unfolding to_finish
  finish_finish_else j p h n = elim (same_as j l) [
    | other m t ↦ rw (finish_pipe_else j m, finish_place_else j m)
    | same e t ↦ rw (e, finish_pipe, finish_place) (let m : p ≡ g.pipe l → ⊥ = n e in elim (same_as (suc (g.pipe l)) plan.pipes) [
      | same q u ↦ rw (u, le-ltb p 0 (omega arith), lt-ltb p (g.pipe l) (omega arith))
      | other q u ↦ rw u (elim (below p (g.pipe l)) [
        | lower d f ↦ rw (f, lt-ltb p (suc (g.pipe l)) (omega arith))
        | upper d f ↦ rw (f, le-ltb p (suc (g.pipe l)) (omega arith))
      ])
    ])
  ]

  -- one more token has finished a serial pipe
  pub finish_passed_here : serial_at plan (g.pipe l) ≡ true → (finish plan g l).passed (g.pipe l) ≡ suc (g.passed (g.pipe l))
  unfolding finish
  finish_passed_here s = rw (put_same g.passed (g.pipe l), s)

  -- and no other pipe
  pub finish_passed_else : (p : ℕ) → (p ≡ g.pipe l → ⊥) → (finish plan g l).passed p ≡ g.passed p
  unfolding finish
  finish_passed_else p n = put_other g.passed (g.pipe l) _ p n

  -- the line waits at its next pipe
  pub finish_waiting : (j p : ℕ) → waiting (finish plan g l) j p ≡ waiting g j p + same_pair l (next plan.pipes (g.pipe l)) j p
  unfolding waiting
  finish_waiting j p = elim (same_as j l) [
    | other n t ↦ rw (finish_pipe_else j n, finish_busy_else j n, other_pair l (next plan.pipes (g.pipe l)) j p (λ e f. n e)) (omega arith)
    | same e t ↦ rw (e, finish_pipe, finish_busy, runs) (elim (same_as p (next plan.pipes (g.pipe l))) [
      | same q u ↦ rw (q, same_pair_lem l (next plan.pipes (g.pipe l)), eq-eqb (next plan.pipes (g.pipe l)) (next plan.pipes (g.pipe l)) refl)
      | other q u ↦ rw (other_pair l (next plan.pipes (g.pipe l)) l p (λ e f. q f), ne_eqb (next plan.pipes (g.pipe l)) p (λ r. q (sym r)))
    ])
  ]

  finish_turn_apart : (j p : ℕ) → p < plan.pipes → (finish plan g l).passed p ≡ g.passed p → turn plan (finish plan g l) j p ≡ turn plan g j p
  unfolding turn
  finish_turn_apart j p h e = rw (finish_start j p h, e)

  -- a parallel pipe's finish changes nobody's turn
  pub finish_turn_parallel : serial_at plan (g.pipe l) ≡ false → (j p : ℕ) → p < plan.pipes → turn plan (finish plan g l) j p ≡ turn plan g j p
  finish_turn_parallel s j p h = elim (same_as p (g.pipe l)) [
    | same e t ↦ rw (e, turn_parallel ranged g j (g.pipe l) s, turn_parallel ranged (finish plan g l) j (g.pipe l) s)
    | other n t ↦ finish_turn_apart j p h (finish_passed_else p n)
  ]

  module _ (ok : Good plan g) (i : l < plan.lines) where
    -- a line that is not this one is not the next to finish this pipe
    apart : (j : ℕ) → j < plan.lines → serial_at plan (g.pipe l) ≡ true → (j ≡ l → ⊥) → to_finish plan g j (g.pipe l) ≡ g.passed (g.pipe l) → ⊥
    apart j h s n e = n (sym (finish_line ranged g j (g.pipe l) ∙ ok.line j h) ∙ ap (λ k. k % plan.lines) (e ∙ sym (ok.held l i s runs)) ∙ ok.line l i)

    window : (j p : ℕ) → j < plan.lines → p < plan.pipes → serial_at plan p ≡ true →
        ((finish plan g l).passed p ≤ to_finish plan (finish plan g l) j p) ×
        (to_finish plan (finish plan g l) j p < (finish plan g l).passed p + plan.lines)
    window j p h q s = elim (same_as p (g.pipe l)) [
      | other n t ↦ rw (finish_passed_else p n, finish_finish_else j p q (λ e f. n f)) (ok.low j p h q s, ok.high j p h q s)
      | same e t ↦
          let r : serial_at plan (g.pipe l) ≡ true = rw e at s in
          rw (e, finish_passed_here r) (elim (same_as j l) [
            | same f u ↦ rw (f, finish_finish_here) (omega (arith, ok.held l i r runs))
            | other n u ↦ rw (finish_finish_else j (g.pipe l) (ok.at l i) (λ f v. n f))
                (omega (arith, apart j h r n, ok.low j (g.pipe l) h (ok.at l i) r, ok.high j (g.pipe l) h (ok.at l i) r))
          ])
    ]

    -- no other line runs the serial pipe that a line runs
    pub alone : (j : ℕ) → j < plan.lines → (j ≡ l → ⊥) → g.busy j ≡ true → serial_at plan (g.pipe j) ≡ true → g.pipe j ≡ g.pipe l → ⊥
    alone j h n b s e =
        apart j h (rw e at s) n (ap (to_finish plan g j) (sym e) ∙ finish_here ranged g j ∙ ok.held j h s b ∙ ap g.passed e)

    -- a finish keeps the accounts
    pub finish_good : Good plan (finish plan g l)
    finish_good = record {
      line = λ j h. elim (same_as j l) [
        | other n t ↦ rw (finish_place_else j n) (ok.line j h)
        | same e t ↦ rw (e, finish_place) (elim (see (eqb (suc (g.pipe l)) plan.pipes)) [
          | holds u ↦ rw u (add-mod_left plan.lines (g.place l) ∙ ok.line l i)
          | fails u ↦ rw u (ok.line l i)
        ])
      ];
      at = λ j h. elim (same_as j l) [
        | other n t ↦ rw (finish_pipe_else j n) (ok.at j h)
        | same e t ↦ rw (e, finish_pipe) (next_lt plan.pipes (g.pipe l) (ok.at l i))
      ];
      low = λ j p h q s. (window j p h q s).0;
      high = λ j p h q s. (window j p h q s).1;
      held = λ j h s b. elim (same_as j l) [
        | same e t ↦ let z : ◌≡◌ {A = Bool} true false = sym b ∙ ap (finish plan g l).busy e ∙ finish_busy in absurd (never z)
        | other n t ↦
            let s' : serial_at plan (g.pipe j) ≡ true = rw (finish_pipe_else j n) at s in
            let b' : g.busy j ≡ true = rw (finish_busy_else j n) at b in
            rw (finish_pipe_else j n, finish_place_else j n, finish_passed_else (g.pipe j) (alone j h n b' s')) (ok.held j h s' b')
      ];
    }

    -- at the serial pipe just finished it was nobody's turn
    was_nobodys : serial_at plan (g.pipe l) ≡ true → (j : ℕ) → j < plan.lines → turn plan g j (g.pipe l) ≡ 0
    was_nobodys s j h = turn_no ranged g j (g.pipe l) (λ e. elim (same_as j l) [
      | same f t ↦ let u : to_start plan g l (g.pipe l) ≡ g.passed (g.pipe l) = rw f at e in
          omega (arith, u, start_busy ranged g l runs, ok.held l i s runs)
      | other n t ↦ n (sym (start_line ranged g j (g.pipe l) ∙ ok.line j h) ∙ ap (λ k. k % plan.lines) (e ∙ sym (ok.held l i s runs)) ∙ ok.line l i)
    ])

    -- the next place to finish that pipe is the next line's
    next_line : serial_at plan (g.pipe l) ≡ true → (finish plan g l).passed (g.pipe l) % plan.lines ≡ next plan.lines l
    next_line s =
        ap (λ k. k % plan.lines) (finish_passed_here s ∙ ap suc (sym (ok.held l i s runs))) ∙
        turns plan.lines ranged.lines_some (g.place l) ∙ ap (next plan.lines) (ok.line l i)

    -- so the next line's turn comes there
    is_next : serial_at plan (g.pipe l) ≡ true → turn plan (finish plan g l) (next plan.lines l) (g.pipe l) ≡ 1
    is_next s =
        turn_yes ranged (finish plan g l) (next plan.lines l) (g.pipe l) s
        (start_finish ranged (finish plan g l) (next plan.lines l) (g.pipe l) (λ b e. elim (same_as (next plan.lines l) l) [
          | same f t ↦ never (sym b ∙ ap (finish plan g l).busy f ∙ finish_busy)
          | other n t ↦
              let b' : g.busy (next plan.lines l) ≡ true = rw (finish_busy_else (next plan.lines l) n) at b in
              let e' : g.pipe l ≡ g.pipe (next plan.lines l) = rw (finish_pipe_else (next plan.lines l) n) at e in
              alone (next plan.lines l) (next_lt plan.lines l i) n b' (ap (serial_at plan) (sym e') ∙ s) (sym e')
        ])
        ∙ (rw (next_line s) at (finishes_next ranged (finish plan g l) finish_good (g.pipe l) (ok.at l i) s)))

    -- and nobody else's
    is_nobody_elses : serial_at plan (g.pipe l) ≡ true → (j : ℕ) → j < plan.lines → (j ≡ next plan.lines l → ⊥) →
        turn plan (finish plan g l) j (g.pipe l) ≡ 0
    is_nobody_elses s j h n = turn_no ranged (finish plan g l) j (g.pipe l) (λ e.
        n (sym (start_line ranged (finish plan g l) j (g.pipe l) ∙ finish_good.line j h) ∙ ap (λ k. k % plan.lines) e ∙ next_line s))

    -- at a serial pipe a finish hands the turn to the next line
    pub finish_turn : serial_at plan (g.pipe l) ≡ true → (j p : ℕ) → j < plan.lines → p < plan.pipes →
        turn plan (finish plan g l) j p ≡ turn plan g j p + same_pair (next plan.lines l) (g.pipe l) j p
    finish_turn s j p h q = elim (same_as p (g.pipe l)) [
      | other n t ↦ omega (arith, finish_turn_apart j p q (finish_passed_else p n), other_pair (next plan.lines l) (g.pipe l) j p (λ e f. n f))
      | same e t ↦ rw e (elim (same_as j (next plan.lines l)) [
        | same f u ↦ rw f (omega (
          arith,
          is_next s,
          was_nobodys s (next plan.lines l) (next_lt plan.lines l i),
          same_pair_lem (next plan.lines l) (g.pipe l),
        ))
        | other n u ↦ omega (arith, is_nobody_elses s j h n, was_nobodys s j h, other_pair (next plan.lines l) (g.pipe l) j (g.pipe l) (λ f v. n f))
      ])
    ]
