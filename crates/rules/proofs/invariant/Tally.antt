-- The counters after a start and after a finish.
use mathlib.Core.Path.{◌≡◌, ◌∙◌}
use mathlib.Core.Bool.{true, false}
use mathlib.Core.List.{List}
use Prim.Native.Nat.{ℕ, ◌+◌, ◌*◌, ◌≤◌, ◌<◌}
use native.Mathlib.Omega.{arith}
use lib.ListN.{length, get_or, set, length-set}
use lib.Seq.{get_or-set_same, get_or-set_other}
use Rattle.rules.specs.RunState.{Pipeline, full}
use Rattle.rules.specs.Choices.{fall, next}
use Rattle.rules.specs.WholeRuns.{PipelineInRange}
use Rattle.rules.proofs.lists.Tests.{same, other, same_as, holds, fails, see, same_pair_lem}
use Rattle.rules.proofs.standing.Standing.{Standing, serial_at, Good, begin, finish, waiting, turn, start_here, turn_no, turn_yes, waiting_one, turn_less}
use Rattle.rules.proofs.standing.Begin.{waiting_here, begin_waiting_here, begin_waiting_else, begin_turn_here, begin_turn_else}
use Rattle.rules.proofs.standing.Finish.{next_lt, finish_waiting, finish_turn, finish_turn_parallel}
use Rattle.rules.proofs.invariant.Counters.{same_line, same_pipe, fall_at, length_fall}
use Rattle.rules.proofs.invariant.Invariant.{Tallied}
use Rattle.rules.specs.Lists.{same_pair}

module _ {plan : Pipeline} (ranged : PipelineInRange plan) {c : List ℕ} {g : Standing} (tally : Tallied plan c g) (ok : Good plan g)
    (l : ℕ) (i : l < plan.lines) where
  module _ (waits : g.busy l ≡ false) where
    -- a waiting line's counter is 0 only if it is its turn
    pub zero_turn : get_or c (16 * l + g.pipe l) 0 ≡ 0 → serial_at plan (g.pipe l) ≡ true → g.place l ≡ g.passed (g.pipe l)
    zero_turn e s = elim (same_as (g.place l) (g.passed (g.pipe l))) [
      | same f t ↦ f
      | other n t ↦
          let none : turn plan g l (g.pipe l) ≡ 0 =
          turn_no ranged g l (g.pipe l)
          (rw (start_here ranged g l waits) n) in
          let two : get_or c (16 * l + g.pipe l) 0 + waiting g l (g.pipe l) + turn plan g l (g.pipe l) ≡ 2 =
          rw s at (tally.counts l (g.pipe l) i (ok.at l i)) in
          absurd (omega (arith, waiting_here g l waits))
    ]

    -- and where it is its turn, its counter is 0
    pub turn_zero : (serial_at plan (g.pipe l) ≡ true → g.place l ≡ g.passed (g.pipe l)) → get_or c (16 * l + g.pipe l) 0 ≡ 0
    turn_zero ready = elim (see (serial_at plan (g.pipe l))) [
      | holds s ↦
          let one : turn plan g l (g.pipe l) ≡ 1 =
          turn_yes ranged g l (g.pipe l) s
          (start_here ranged g l waits ∙ ready s) in
          let two : get_or c (16 * l + g.pipe l) 0 + waiting g l (g.pipe l) + turn plan g l (g.pipe l) ≡ 2 =
          rw s at (tally.counts l (g.pipe l) i (ok.at l i)) in
          omega (arith, waiting_here g l waits)
      | fails s ↦
          let one : get_or c (16 * l + g.pipe l) 0 + waiting g l (g.pipe l) + turn plan g l (g.pipe l) ≡ 1 =
          rw s at (tally.counts l (g.pipe l) i (ok.at l i)) in
          omega (arith, waiting_here g l waits)
    ]

    module _ (ready : serial_at plan (g.pipe l) ≡ true → g.place l ≡ g.passed (g.pipe l)) where
      -- the counters after a start
      pub begin_tally : Tallied plan (set c (16 * l + g.pipe l) (full (serial_at plan (g.pipe l)))) (begin g l)
      begin_tally =
          let h : g.pipe l < plan.pipes = ok.at l i in
          let r : plan.pipes ≤ 16 = ranged.pipes_most in
          let r' : plan.lines ≤ 32 = ranged.lines_most in
          let z : length c ≡ 512 = tally.size in
          let v : ℕ = full (serial_at plan (g.pipe l)) in
          record {
            size = length-set c (16 * l + g.pipe l) v ∙ tally.size;
            counts = λ j p a b. elim (same_as (16 * j + p) (16 * l + g.pipe l)) [
              | same e t ↦
                  let u : j ≡ l = same_line l (g.pipe l) j p (omega arith) (omega arith) e in
                  let w : p ≡ g.pipe l = same_pipe l (g.pipe l) j p (omega arith) (omega arith) e in
                  rw (
                    u,
                    w,
                    get_or-set_same c (16 * l + g.pipe l) v 0 (omega arith),
                    begin_waiting_here ranged g l waits,
                    begin_turn_here ranged g l waits ok i ready,
                  ) (omega arith)
              | other n t ↦
                  let m : j ≡ l → p ≡ g.pipe l → ⊥ = λ e f. n (omega arith) in
                  rw (
                    get_or-set_other c (16 * l + g.pipe l) (16 * j + p) v 0 n,
                    begin_waiting_else ranged g l waits j p m,
                    begin_turn_else ranged g l waits j p m,
                  ) (tally.counts j p a b)
            ];
            unused = λ j p a n.
                get_or-set_other c (16 * l + g.pipe l) (16 * j + p) v 0 (λ e.
                let u : j ≡ l = same_line l (g.pipe l) j p (omega arith) a e in
                let w : p ≡ g.pipe l = same_pipe l (g.pipe l) j p (omega arith) a e in
                n (omega arith) (omega arith)) ∙ tally.unused j p a n;
          }

  module _ (runs : g.busy l ≡ true) where
    -- the second fall, that of the line's own next pipe, from counters that the first fall, if any, has left
    settled : (c₁ : List ℕ) → length c₁ ≡ 512 →
        ((j p : ℕ) → j < plan.lines → p < plan.pipes →
        get_or c₁ (16 * j + p) 0 + waiting g j p + turn plan (finish plan g l) j p ≡ full (serial_at plan p)) →
        ((j p : ℕ) → p < 16 → (j < plan.lines → p < plan.pipes → ⊥) → get_or c₁ (16 * j + p) 0 ≡ 0) →
        (0 < get_or c₁ (16 * l + next plan.pipes (g.pipe l)) 0) × Tallied plan (fall c₁ (16 * l + next plan.pipes (g.pipe l))) (finish plan g l)
    settled c₁ size counts unused =
        let n : ℕ = next plan.pipes (g.pipe l) in
        let h : n < plan.pipes = next_lt plan.pipes (g.pipe l) (ok.at l i) in
        let r : plan.pipes ≤ 16 = ranged.pipes_most in
        let r' : plan.lines ≤ 32 = ranged.lines_most in
        let some : 0 < get_or c₁ (16 * l + n) 0 =
        omega (
          arith,
          counts l n i h,
          finish_waiting ranged g l runs l n,
          same_pair_lem l n,
          waiting_one ranged (finish plan g l) l n,
          turn_less ranged (finish plan g l) l n,
        ) in
        let fell : (j p : ℕ) → p < 16 → get_or (fall c₁ (16 * l + n)) (16 * j + p) 0 + same_pair l n j p ≡ get_or c₁ (16 * j + p) 0 =
        λ j p q. fall_at c₁ l n j p (omega arith) q (omega arith) some in (
          some,
          record {
            size = length_fall c₁ (16 * l + n) ∙ size;
            counts = λ j p a b. omega (arith, counts j p a b, finish_waiting ranged g l runs j p, fell j p (omega arith));
            unused = λ j p a m. omega (arith, fell j p a, unused j p a m);
          },
        )

    -- the counters after a finish at a parallel pipe
    pub finish_tally_parallel : serial_at plan (g.pipe l) ≡ false →
        (0 < get_or c (16 * l + next plan.pipes (g.pipe l)) 0) × Tallied plan (fall c (16 * l + next plan.pipes (g.pipe l))) (finish plan g l)
    finish_tally_parallel s = settled c tally.size
        (λ j p a b. rw (finish_turn_parallel ranged g l runs s j p b) (tally.counts j p a b)) tally.unused

    -- the first fall, that of the next line at the same serial pipe
    pub first_fall : serial_at plan (g.pipe l) ≡ true → 0 < get_or c (16 * next plan.lines l + g.pipe l) 0
    first_fall s =
        let n : ℕ = next plan.lines l in
        let h : n < plan.lines = next_lt plan.lines l i in
        omega (
          arith,
          tally.counts n (g.pipe l) h (ok.at l i),
          finish_turn ranged g l runs ok i s n (g.pipe l) h (ok.at l i),
          same_pair_lem n (g.pipe l),
          waiting_one ranged g n (g.pipe l),
          turn_less ranged (finish plan g l) n (g.pipe l),
          rw s at (tally.counts n (g.pipe l) h (ok.at l i)),
        )

    -- the counters after a finish at a serial pipe
    pub finish_tally_serial : serial_at plan (g.pipe l) ≡ true →
        (0 < get_or (fall c (16 * next plan.lines l + g.pipe l)) (16 * l + next plan.pipes (g.pipe l)) 0) ×
        Tallied plan (fall (fall c (16 * next plan.lines l + g.pipe l)) (16 * l + next plan.pipes (g.pipe l))) (finish plan g l)
    finish_tally_serial s =
        let n : ℕ = next plan.lines l in
        let h : n < plan.lines = next_lt plan.lines l i in
        let q : g.pipe l < plan.pipes = ok.at l i in
        let r : plan.pipes ≤ 16 = ranged.pipes_most in
        let r' : plan.lines ≤ 32 = ranged.lines_most in
        let z : length c ≡ 512 = tally.size in
        let fell : (j p : ℕ) → p < 16 → get_or (fall c (16 * n + g.pipe l)) (16 * j + p) 0 + same_pair n (g.pipe l) j p ≡ get_or c (16 * j + p) 0 =
        λ j p a. fall_at c n (g.pipe l) j p (omega arith) a (omega arith) (first_fall s) in
        settled (fall c (16 * n + g.pipe l)) (length_fall c (16 * n + g.pipe l) ∙ tally.size)
        (λ j p a b. omega (arith, tally.counts j p a b, finish_turn ranged g l runs ok i s j p a b, fell j p (omega arith)))
        (λ j p a m. omega (arith, fell j p a, tally.unused j p a m))
