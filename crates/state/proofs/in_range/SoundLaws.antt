-- What a state within its ranges is like.
use mathlib.Core.Path.{◌≡◌, refl, sym, ap, ◌∙◌}
use mathlib.Core.Bool.{Bool, true, false, not}
use mathlib.Core.List.{List}
use Prim.Native.Nat.{ℕ, zero, suc, ◌+◌, ◌*◌, ◌<◌, ◌≤◌}
use native.Mathlib.Omega.{arith}
use borrow.Author.Tests.{lt-ltb}
use lib.Dec.{eqb}
use lib.ListN.{get_or}
use Rattle.rules.specs.Lists.{if, every}
use Rattle.vocabulary.specs.declared.Slot.{Slot}
use Rattle.vocabulary.specs.declared.Slots.{Slots}
use Rattle.rules.specs.RunState.{Machine, slot_at}
use Rattle.rules.specs.Choices.{movable, ended}
use Rattle.rules.specs.Ranges.{sound}
use Rattle.tables.specs.State as tables
use Rattle.tables.specs.Calls.{memory_source}
use Rattle.state.specs.declared.State.{State}
use Rattle.state.specs.declared.Figures.{Figures}
use Rattle.state.specs.Machines.{slots_of, machine_of}
use Rattle.state.specs.Ending.{is_early, is_still, over_of, ended_of}
use Rattle.state.specs.Machines.{whole, Ready}
use Rattle.rules.proofs.lists.Tests.{by_test, if_same}
use Rattle.rules.proofs.lists.EveryBelow.{every_fails}
use Rattle.rules.proofs.choices.SoundMachines.{pipe_in}
use Rattle.rules.proofs.choices.SoundMachines.{pipes_most as most_pipes, lines_most as most_lines}

module _ (a : Machine tables.State) (ok : sound memory_source a ≡ true) where
  -- a line's slot
  abbrev slot_in : ℕ → Slot
  slot_in l = slot_at a.slots l

  lines_most : a.lines ≤ 32
  lines_most = most_lines memory_source a ok

  pipes_most : a.pipes ≤ 16
  pipes_most = most_pipes memory_source a ok

  -- each line is at a pipe of the plan
  pipe_less : (l : ℕ) → l < 32 → (slot_in l).pipe.0 < a.pipes
  pipe_less l h = pipe_in memory_source a ok l h

  -- so a line of the plan cannot move exactly if it waits with its counter above 0
  still_early : (l : ℕ) → l < a.lines → is_still a.counters a.slots l ≡ is_early a.counters (slot_in l) l
  unfolding is_still
  still_early l h =
      let pipe : ℕ = (slot_in l).pipe.0 in
      rw (
        lt-ltb l 32 (omega (arith, lines_most)),
        lt-ltb pipe 16 (omega (arith, pipe_less l (omega (arith, lines_most)), pipes_most)),
      )

  -- no line below n can move
  still_lines : (n : ℕ) → n ≤ a.lines → every n (is_still a.counters a.slots) ≡ not (movable a n)
  unfolding every movable is_early
  still_lines zero h = refl
  still_lines (suc n) h =
      let slot : Slot = slot_in n in
      let early = still_early n (omega arith) in
      by_test slot.running
      (λ e. rw (early, e))
      (λ e. by_test (eqb (get_or a.counters (16 * n + slot.pipe.0) 0) 0)
      (λ f. rw (early, e, f))
      (λ f. rw (early, e, f) (still_lines n (omega arith))))

  -- and the code's test of the end is that of the rules
  pub over_is : over_of a.stopped a.lines a.counters a.slots ≡ ended a
  unfolding over_of ended
  over_is = ap (λ b. if a.stopped b false) (still_lines a.lines (omega arith))

  -- a run in which a line can move has not ended
  can_move : (l : ℕ) → l < a.lines → is_early a.counters (slot_in l) l ≡ false → ended a ≡ false
  unfolding over_of
  can_move l h able =
      let some : false ≡ every a.lines (is_still a.counters a.slots) = every_fails _ _ l h (still_early l h ∙ able) in
      sym over_is ∙ rw (sym some) (if_same a.stopped false)

-- both of a state
module _ (s : State) (mem : List ℕ) (ok : sound memory_source (machine_of s mem) ≡ true) where
  pub ended_is : ended_of s ≡ ended (machine_of s mem)
  unfolding machine_of
  ended_is = over_is (machine_of s mem) ok

  pub goes_on : (l : ℕ) → l < s.lines → is_early s.counters (slot_at (slots_of s) l) l ≡ false → ended (machine_of s mem) ≡ false
  unfolding machine_of
  goes_on l h able = can_move (machine_of s mem) ok l h able

-- so a line of the plan is ready to move
pub ready : (f : Figures) (counters : List ℕ) (slots : Slots) (mem : List ℕ) → sound memory_source (machine_of (whole f counters slots) mem) ≡ true →
    (l : ℕ) → l < f.lines → Ready f (slot_at slots l) l
unfolding machine_of
ready f counters slots mem ok l h =
    let a : Machine tables.State = machine_of (whole f counters slots) mem in
    record {
      lines = lines_most a ok;
      pipes = pipes_most a ok;
      line = h;
      pipe = pipe_less a ok l (omega (arith, lines_most a ok));
    }

-- what the code's test promises
pub both_rules : {r : Bool} (s : State) → r ≡ ended_of s →
    (r ≡ ended_of s) × ((m : List ℕ) → sound memory_source (machine_of s m) ≡ true → r ≡ ended (machine_of s m))
both_rules s e = (e, λ m ok. e ∙ ended_is s m ok)
