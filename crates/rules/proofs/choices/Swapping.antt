-- Two choices on different lines, not both at pipe 0, accepted in both orders, do the same in either: in any machine.
use mathlib.Core.Path.{◌≡◌, refl, sym, ap, subst, ◌∙◌}
use mathlib.Core.Bool.{Bool, true, false}
use mathlib.Core.List.{List, [], ◌∷◌}
use Prim.Native.Nat.{ℕ, ◌≤◌, ◌<◌}
use native.Mathlib.Omega.{arith}
use lib.Dec.{eqb}
use lib.ListN.{get_or, set}
use lib.Seq.{get_or-set_other, set_comm}
use borrow.Author.Tests.{ne_eqb}
use Rattle.vocabulary.specs.declared.Slot.{Slot}
use Rattle.vocabulary.specs.declared.Slots.{Slots}
use Rattle.rules.specs.Lists.{Every}
use Rattle.rules.specs.Sources.{Source}
use Rattle.rules.specs.RunState.{Machine, put_slot, slot_of, counter_at, counter_of, is_serial}
use Rattle.rules.specs.Ranges.{sound}
use Rattle.rules.specs.Choices.{Choice, Chosen, with_place, next, fall, choose_by, answers, follow}
use Rattle.rules.specs.WholeRuns.{Accepted}
use Rattle.rules.specs.Swapping.{Swapped}
use Rattle.rules.proofs.lists.Tests.{same, other, same_as, by_test}
use Rattle.rules.proofs.lists.SlotRows.{put_other, put_swap}
use Rattle.rules.proofs.standing.Finish.{next_lt}
use Rattle.rules.proofs.choices.SoundMachines.{pipes_most, lines_most, pipe_in}
use Rattle.rules.proofs.choices.Accepting.{accepted_sound, accepted_line, accepted_due}
use Rattle.rules.proofs.choices.Outcomes.{Effect, enter_effect, effect, starts, finishes}
use Rattle.rules.proofs.choices.Outcomes.{fall_if, counters_by, counters_start, counters_finish, NextCanFall, did, accepted_choice}

-- two falls
fall_swap : (c : List ℕ) (i j : ℕ) → fall (fall c i) j ≡ fall (fall c j) i
unfolding fall
fall_swap c i j = elim (same_as i j) [
  | same e t ↦ rw e
  | other n t ↦ rw (get_or-set_other c i j _ 0 (λ e. n (sym e)), get_or-set_other c j i _ 0 n) (set_comm c i j _ _ n)
]

fall_if_swap : (a b : Bool) (c : List ℕ) (i j : ℕ) → fall_if b (fall_if a c i) j ≡ fall_if a (fall_if b c j) i
fall_if_swap true true c i j = fall_swap c i j
fall_if_swap true false c i j = refl
fall_if_swap false true c i j = refl
fall_if_swap false false c i j = refl

-- a fill, and a fall of another counter
fill_fall : (b : Bool) (c : List ℕ) (i v j : ℕ) → (b ≡ true → i ≡ j → ⊥) → fall_if b (set c i v) j ≡ set (fall_if b c j) i v
unfolding fall
fill_fall true c i v j n = rw (get_or-set_other c i j v 0 (λ e. n refl (sym e))) (set_comm c i j v _ (n refl))
fill_fall false c i v j n = refl

-- what holds of a line, with slot s, that may move
record MayMove {X : Type 0} (m : Machine X) (l : ℕ) (s : Slot) : Type 0 where
  at : s.pipe.0 < m.pipes
  fills : s.running ≡ false → counter_of m l s.pipe.0 ≡ 0
  falls : NextCanFall m l s

module _ {X : Type 0} (m : Machine X) (most : m.pipes ≤ 16) where
  -- the counters after two lines' choices do not depend on their order
  module _ (a b : ℕ) (apart : a ≡ b → ⊥) (s t : Slot) (x : MayMove m a s) (y : MayMove m b t) (c : List ℕ) where
    abbrev Swaps : Type 0
    Swaps = counters_by m b t (counters_by m a s c) ≡ counters_by m a s (counters_by m b t c)

    -- two fills;
    two_fills : s.running ≡ false → t.running ≡ false → Swaps
    two_fills r q = rw (counters_start m a s r c, counters_start m b t q c, counters_start m b t q _, counters_start m a s r _)
        (set_comm c (counter_at a s.pipe.0) (counter_at b t.pipe.0) _ _ (λ e. omega (arith, x.at, y.at)))

    -- a fill and falls: the counter that is filled was 0, so it is none of those that fall;
    fill_falls : s.running ≡ false → t.running ≡ true → Swaps
    fill_falls r q =
        let i : ℕ = counter_at a s.pipe.0 in
        let n : ℕ = next m.pipes t.pipe.0 in
        rw (counters_start m a s r c, counters_finish m b t q (set c i _), counters_finish m b t q c, counters_start m a s r _)
        (ap (λ d. fall d (counter_at b n)) (fill_fall (is_serial m t.pipe.0) c i _ (counter_at (next m.lines b) t.pipe.0)
        (λ serial e. y.falls q serial (ap (λ k. get_or m.counters k 0) (sym e) ∙ x.fills r)))
        ∙ fill_fall true _ i _ (counter_at b n) (λ u e. omega (arith, x.at, next_lt m.pipes t.pipe.0 y.at)))

    -- falls
    all_falls : s.running ≡ true → t.running ≡ true → Swaps
    all_falls r q =
        let u : Bool = is_serial m s.pipe.0 in
        let v : Bool = is_serial m t.pipe.0 in
        let i : ℕ = counter_at (next m.lines a) s.pipe.0 in
        let j : ℕ = counter_at a (next m.pipes s.pipe.0) in
        let k : ℕ = counter_at (next m.lines b) t.pipe.0 in
        let n : ℕ = counter_at b (next m.pipes t.pipe.0) in
        rw (counters_finish m a s r c, counters_finish m b t q c, counters_finish m b t q _, counters_finish m a s r _)
        (ap (λ d. fall d n) (fall_if_swap true v (fall_if u c i) j k)
        ∙ fall_swap (fall_if v (fall_if u c i) k) j n
        ∙ ap (λ d. fall (fall d n) j) (fall_if_swap u v c i k)
        ∙ ap (λ d. fall d j) (fall_if_swap u true (fall_if v c k) i n))

  counters_swap : (a b : ℕ) → (a ≡ b → ⊥) → (s t : Slot) → MayMove m a s → MayMove m b t → (c : List ℕ) →
      counters_by m b t (counters_by m a s c) ≡ counters_by m a s (counters_by m b t c)
  counters_swap a b apart s t x y c = by_test s.running
      (λ r. by_test t.running
      (λ q. all_falls a b apart s t x y c r q)
      (λ q. sym (fill_falls b a (λ e. apart (sym e)) t s y x c q r)))
      (λ r. by_test t.running
      (λ q. fill_falls a b apart s t x y c r q)
      (λ q. two_fills a b apart s t x y c r q))

module _ {X : Type 0} (S : Source X) (m : Machine X) where
  -- past pipe 0 a choice leaves the places, the mark and the source as they are, whatever these are
  past : (w l : ℕ) (s : Slot) → eqb s.pipe.0 0 ≡ false → (c : List ℕ) (v : Slots) (k : ℕ) (b : Bool) (x : X) →
      effect S (with_place m c v k b x) w l s ≡
      record { answer = (effect S m w l s).answer; slot = (effect S m w l s).slot; placed = k; stopped = b; source = x }
  past w l s e c v k b x = by_test s.running
      (λ r. rw (finishes S (with_place m c v k b x) w l s r e, finishes S m w l s r e))
      (λ r. rw (starts S (with_place m c v k b x) w l s r e, starts S m w l s r e))

  -- an accepted choice whose line has slot s
  with_slot : (n : Machine X) (c : Choice) (s : Slot) → slot_of n c.line ≡ s → Accepted (choose_by S n c).answer →
      choose_by S n c ≡ did n c.line (counters_by n c.line s n.counters) (effect S n c.worker c.line s)
  with_slot n c s e ok = subst (λ s. choose_by S n c ≡ did n c.line (counters_by n c.line s n.counters) (effect S n c.worker c.line s)) e
      (accepted_choice S n c.worker c.line ok).1

  -- a line whose choice is accepted may move
  may_move : (c : Choice) → Accepted (choose_by S m c).answer → MayMove m c.line (slot_of m c.line)
  may_move c ok =
      let ranges : sound S m ≡ true = accepted_sound S m c.worker c.line ok in
      record {
        at = pipe_in S m ranges c.line (omega (arith, accepted_line S m c.worker c.line ok, lines_most S m ranges));
        fills = accepted_due S m c.worker c.line ok;
        falls = (accepted_choice S m c.worker c.line ok).0;
      }

  module _ (a b : Choice) (apart : a.line ≡ b.line → ⊥) (one_way : Every Accepted (answers S m (a ∷ b ∷ []))) (other_way : Every Accepted (answers S m (b ∷ a ∷ []))) where
    -- the two lines' slots, and what their choices make
    abbrev s : Slot
    s = slot_of m a.line

    abbrev t : Slot
    t = slot_of m b.line

    abbrev x : Effect X
    x = effect S m a.worker a.line s

    abbrev y : Effect X
    y = effect S m b.worker b.line t

    module _ (later : eqb s.pipe.0 0 ≡ false) where
      -- the first line is past pipe 0: what each choice leaves, made first
      abbrev after_a : Machine X
      after_a = with_place m (counters_by m a.line s m.counters) (put_slot m.slots a.line x.slot) m.placed m.stopped m.source

      abbrev after_b : Machine X
      after_b = with_place m (counters_by m b.line t m.counters) (put_slot m.slots b.line y.slot) y.placed y.stopped y.source

      a_first : choose_by S m a ≡ record { answer = x.answer; machine = after_a }
      unfolding answers
      a_first = with_slot m a s refl one_way.0 ∙ ap (did m a.line (counters_by m a.line s m.counters))
          (past a.worker a.line s later m.counters m.slots m.placed m.stopped m.source)

      b_first : choose_by S m b ≡ record { answer = y.answer; machine = after_b }
      unfolding answers
      b_first = with_slot m b t refl other_way.0

      b_second : choose_by S after_a b ≡ record {
        answer = y.answer;
        machine = with_place m (counters_by m b.line t after_a.counters) (put_slot after_a.slots b.line y.slot) y.placed y.stopped y.source;
      }
      unfolding answers effect enter_effect counters_by
      b_second = with_slot after_a b t (put_other m.slots a.line x.slot b.line (λ e. apart (sym e))) (rw a_first at one_way.1.0)

      a_second : choose_by S after_b a ≡ record {
        answer = x.answer;
        machine = with_place m (counters_by m a.line s after_b.counters) (put_slot after_b.slots a.line x.slot) y.placed y.stopped y.source;
      }
      unfolding answers counters_by
      a_second = with_slot after_b a s (put_other m.slots b.line y.slot a.line apart) (rw b_first at other_way.1.0)
          ∙ ap (did after_b a.line (counters_by m a.line s after_b.counters))
          (past a.worker a.line s later after_b.counters after_b.slots y.placed y.stopped y.source)

      same_counters : counters_by m b.line t after_a.counters ≡ counters_by m a.line s after_b.counters
      unfolding answers
      same_counters = counters_swap m (pipes_most S m (accepted_sound S m a.worker a.line one_way.0)) a.line b.line apart s t
          (may_move a one_way.0) (may_move b other_way.0) m.counters

      later_swapped : Swapped S m a b
      unfolding follow
      later_swapped = record {
        left =
            ap (λ (c : Chosen X). (choose_by S c.machine b).machine) a_first ∙ ap (λ (c : Chosen X). c.machine) b_second
            ∙ (λ i. with_place m (same_counters i) (put_swap m.slots a.line b.line x.slot y.slot apart i) y.placed y.stopped y.source)
            ∙ sym (ap (λ (c : Chosen X). (choose_by S c.machine a).machine) b_first ∙ ap (λ (c : Chosen X). c.machine) a_second);
        event_a = ap (λ (c : Chosen X). c.answer) a_first
            ∙ sym (ap (λ (c : Chosen X). (choose_by S c.machine a).answer) b_first ∙ ap (λ (c : Chosen X). c.answer) a_second);
        event_b = ap (λ (c : Chosen X). c.answer) b_first
            ∙ sym (ap (λ (c : Chosen X). (choose_by S c.machine b).answer) a_first ∙ ap (λ (c : Chosen X). c.answer) b_second);
      }

  -- two choices on different lines that are not both at pipe 0, accepted in both orders
  pub swapped_past : (a b : Choice) → (a.line ≡ b.line → ⊥) → Every Accepted (answers S m (a ∷ b ∷ [])) → Every Accepted (answers S m (b ∷ a ∷ [])) →
      ((slot_of m a.line).pipe.0 ≡ 0 → (slot_of m b.line).pipe.0 ≡ 0 → ⊥) → Swapped S m a b
  swapped_past a b apart one_way other_way n = elim (same_as (slot_of m a.line).pipe.0 0) [
    | other d e ↦ later_swapped a b apart one_way other_way e
    | same d e ↦
        let r : Swapped S m b a = later_swapped b a (λ e. apart (sym e)) other_way one_way (ne_eqb (slot_of m b.line).pipe.0 0 (n d)) in
        record { left = sym r.left; event_a = r.event_b; event_b = r.event_a }
  ]
