-- The machine at the end is determined by the plan, the order and where the source closes.
use mathlib.Core.Path.{◌≡◌, sym, ap, ◌∙◌}
use mathlib.Core.Bool.{true, false}
use mathlib.Core.List.{List}
use Prim.Native.Nat.{ℕ, ◌+◌, ◌*◌, ◌/◌, ◌%◌, ◌≤◌, ◌<◌}
use native.Mathlib.Nat.{mod-lt}
use native.Mathlib.Omega.{arith}
use lib.ListN.{length, get_or}
use lib.Seq.{ext_get_or}
use borrow.Author.Tests.{le-ltb}
use Rattle.rules.specs.RunState.{Pipeline, idle, slot_at, all_idle, full}
use Rattle.rules.specs.Sources.{Source}
use Rattle.rules.specs.Choices.{tabled}
use Rattle.rules.specs.WholeRuns.{ended_counter, final}
use Rattle.rules.proofs.lists.Tests.{same, other, same_as, lower, upper, below, holds, fails, see, never}
use Rattle.rules.proofs.lists.Rotation.{only}
use Rattle.rules.proofs.standing.Standing.{Standing, serial_at, waiting, turn, to_start, to_finish, finishes_next, start_finish}
use Rattle.rules.proofs.standing.Standing.{turn_yes, turn_no, turn_parallel}
use Rattle.rules.proofs.standing.Begin.{waiting_here, waiting_else, waiting_busy}
use Rattle.rules.proofs.invariant.Counters.{length_tabled, tabled_used, tabled_unused}
use Rattle.rules.proofs.invariant.Invariant.{Allowed, State, whole, Inv, first_held}
use Rattle.rules.proofs.invariant.Slots.{shown_idle, shown_stopped}
use Rattle.rules.proofs.lists.SlotRows.{sized_idle, each_idle, same_slots}
use Rattle.rules.proofs.choices.Steps.{busy_full}
use Rattle.rules.proofs.runs.Ending.{Over, over_busy}

module _ {X : Type 0} {S : Source X} {plan : Pipeline} {workers : ℕ} {order : List ℕ} {z : X} (ok : Allowed plan workers order)
    {st : State X} {g : Standing} (inv : Inv S plan workers order z st g) (over : Over plan order z st g) where
  -- every line's next place to finish is its own
  waits_first : (l p : ℕ) → l < plan.lines → to_finish plan g l p ≡ g.place l
  unfolding to_finish
  waits_first l p h = rw (over.first l h, le-ltb p 0 (omega arith))

  -- every place of the order lies behind every line
  pub place_from : (l : ℕ) → l < plan.lines → length order ≤ g.place l
  place_from l h = omega (arith, inv.good.low l 0 h ok.ranged.pipes_some ok.ranged.first_serial, waits_first l 0 h, over.passed)

  place_to : (l : ℕ) → l < plan.lines → g.place l < length order + plan.lines
  place_to l h = omega (arith, inv.good.high l 0 h ok.ranged.pipes_some ok.ranged.first_serial, waits_first l 0 h, over.passed)

  -- all the order's tokens have finished each serial pipe
  pub all_passed : (p : ℕ) → p < plan.pipes → serial_at plan p ≡ true → g.passed p ≡ length order
  all_passed p h s =
      let l : ℕ = g.passed p % plan.lines in
      let i : l < plan.lines = mod-lt (g.passed p) ok.ranged.lines_some in
      let j : ℕ = over.stopper in
      omega (
        arith,
        finishes_next ok.ranged g inv.good p h s,
        waits_first l p i,
        place_from l i,
        inv.good.low j p over.stops.within h s,
        waits_first j p over.stops.within,
        first_held ok.ranged inv j over.stops,
        over.passed,
      )

  -- the line that stopped is that of the place after the order's last
  module _ (l : ℕ) (i : l < plan.lines) where
    stopper_place : l ≡ length order % plan.lines → g.place l ≡ length order
    stopper_place e = only plan.lines ok.ranged.lines_some (length order) (g.place l) (place_from l i) (place_to l i) (inv.good.line l i ∙ e)

    stopper_busy : l ≡ length order % plan.lines → g.busy l ≡ true
    stopper_busy e = over_busy ok inv over l i (stopper_place e ∙ sym over.passed)

    other_place : (l ≡ length order % plan.lines → ⊥) → g.place l ≡ length order → ⊥
    other_place n e = n (sym (inv.good.line l i) ∙ ap (λ k. k % plan.lines) e)

    other_rests : (l ≡ length order % plan.lines → ⊥) → g.busy l ≡ false
    other_rests n = elim (see (g.busy l)) [
      | fails b ↦ b
      | holds b ↦ absurd (other_place n (first_held ok.ranged inv l (record { within = i; first = over.first l i; runs = b }) ∙ over.passed))
    ]

    -- past pipe 0, and where it has not stopped, a line starts next at its own place
    starts_own : (p : ℕ) → (g.busy l ≡ true → p ≡ 0 → ⊥) → to_start plan g l p ≡ g.place l
    starts_own p n = start_finish ok.ranged g l p (λ b e. n b (e ∙ over.first l i)) ∙ waits_first l p i

    module _ (p : ℕ) (h : p < plan.pipes) where
      counted : get_or st.counters (16 * l + p) 0 + waiting g l p + turn plan g l p ≡ full (serial_at plan p)
      counted = inv.tally.counts l p i h

      serial_first : p ≡ 0 → serial_at plan p ≡ true
      serial_first f = ap (serial_at plan) f ∙ ok.ranged.first_serial

      -- of the other lines nobody has a turn
      other_turn : (l ≡ length order % plan.lines → ⊥) → turn plan g l p ≡ 0
      other_turn m = elim (see (serial_at plan p)) [
        | fails s ↦ turn_parallel ok.ranged g l p s
        | holds s ↦ turn_no ok.ranged g l p (λ q. other_place m
            (sym (starts_own p (λ b f. never (sym b ∙ other_rests m))) ∙ q ∙ all_passed p h s))
      ]

      stopper_later : l ≡ length order % plan.lines → (p ≡ 0 → ⊥) → get_or st.counters (16 * l + p) 0 ≡ 1
      stopper_later e n = elim (see (serial_at plan p)) [
        | fails s ↦ omega (arith, waiting_busy g l p (stopper_busy e), turn_parallel ok.ranged g l p s, rw s at counted)
        | holds s ↦ omega (
          arith,
          waiting_busy g l p (stopper_busy e),
          rw s at counted,
          turn_yes ok.ranged g l p s (starts_own p (λ b f. n f) ∙ stopper_place e ∙ sym (all_passed p h s)),
        )
      ]

      other_first : (l ≡ length order % plan.lines → ⊥) → p ≡ 0 → get_or st.counters (16 * l + p) 0 ≡ 1
      other_first m f =
          let q : g.pipe l ≡ p = over.first l i ∙ sym f in
          omega (arith, other_turn m, ap (waiting g l) (sym q) ∙ waiting_here g l (other_rests m), rw (serial_first f) at counted)

      other_later : (l ≡ length order % plan.lines → ⊥) → (p ≡ 0 → ⊥) → get_or st.counters (16 * l + p) 0 ≡ full (serial_at plan p)
      other_later m n = omega (arith, other_turn m, waiting_else g l p (λ q. n (sym q ∙ over.first l i)), counted)

      stopper_first : l ≡ length order % plan.lines → p ≡ 0 → get_or st.counters (16 * l + p) 0 ≡ 2
      stopper_first e f =
          let q : p ≡ g.pipe l = f ∙ sym (over.first l i) in
          ap (λ n. get_or st.counters (16 * l + n) 0) q ∙
          busy_full ok inv l i (stopper_busy e) (ap (serial_at plan) (sym q) ∙ serial_first f)

      final_count : get_or st.counters (16 * l + p) 0 ≡ ended_counter (length order % plan.lines) l p (serial_at plan p)
      unfolding ended_counter
      final_count = elim (same_as l (length order % plan.lines)) [
        | same e t ↦ rw t (elim (same_as p 0) [
          | same f u ↦ rw u (stopper_first e f)
          | other n u ↦ rw u (stopper_later e n)
        ])
        | other m t ↦ rw t (elim (same_as p 0) [
          | same f u ↦ rw u (other_first m f)
          | other n u ↦ rw u (other_later m n)
        ])
      ]

  abbrev table_at_end : List ℕ
  table_at_end = tabled plan (λ l p. ended_counter (length order % plan.lines) l p (serial_at plan p))

  final_entry : (l p : ℕ) → l < 32 → p < 16 → get_or st.counters (16 * l + p) 0 ≡ get_or table_at_end (16 * l + p) 0
  final_entry l p h k = elim (below l plan.lines) [
    | upper a t ↦ inv.tally.unused l p k (λ c d. omega arith) ∙ sym (tabled_unused plan _ l p h k (λ c d. omega arith))
    | lower a t ↦ elim (below p plan.pipes) [
      | upper b u ↦ inv.tally.unused l p k (λ c d. omega arith) ∙ sym (tabled_unused plan _ l p h k (λ c d. omega arith))
      | lower b u ↦ final_count l a p b ∙ sym (tabled_used plan (λ l p. ended_counter (length order % plan.lines) l p (serial_at plan p)) l p h k a b)
    ]
  ]

  final_counters : st.counters ≡ table_at_end
  final_counters = ext_get_or 0 st.counters table_at_end (inv.tally.size ∙ sym (length_tabled plan _))
      (λ k h. let e : 16 * (k / 16) + k % 16 ≡ k = omega arith in
      rw e at (final_entry (k / 16) (k % 16) (omega (arith, inv.tally.size)) (omega arith)))

  final_slots : st.slots ≡ all_idle
  final_slots = same_slots inv.slotted.size sized_idle (λ k. final_slot k ∙ sym (each_idle k))
    where
      final_slot : (k : ℕ) → slot_at st.slots k ≡ idle
      final_slot k = elim (below k plan.lines) [
        | upper h t ↦ inv.slotted.spare k h
        | lower h t ↦ (inv.slotted.used k h).is ∙ elim (see (g.busy k)) [
          | fails b ↦ shown_idle order st.stopped g k _ (over.first k h) b
          | holds b ↦ shown_stopped order st.stopped g k _ (over.first k h) b over.stopped
        ]
      ]

  -- the machine at the end
  pub is_final : whole plan workers st ≡ final plan workers (length order) z
  unfolding final
  is_final = rw (final_counters, final_slots, over.placed, over.stopped, over.source)
