-- The end of a run, for any state.
use Rattle.std.specs.Prelude.{Bool, false, not, List, [], ◌∷◌, ℕ, eqb, ltb, get_or}
use Rattle.rules.specs.Lists.{must, all, every}
use Rattle.vocabulary.specs.declared.Slot.{Slot}
use Rattle.vocabulary.specs.declared.Slots.{Slots}
use Rattle.rules.specs.RunState.{slot_at, counter_at}
use Rattle.state.specs.declared.State.{State}
use Rattle.state.specs.Machines.{slots_of}

-- 12's condition: "line waits with counter above 0"
unfoldable pub is_early : List ℕ → Slot → ℕ → Bool
is_early counters slot l = all (not slot.running ∷ not (eqb (get_or counters (counter_at l slot.pipe.0) 0) 0) ∷ [])

-- a line that cannot move: its numbers are within the tables, and it waits with its counter above 0
unfoldable pub is_still : List ℕ → Slots → ℕ → Bool
is_still counters slots l =
    let slot : Slot = slot_at slots l in
    must (ltb l 32) false
    (must (ltb slot.pipe.0 16) false
    (is_early counters slot l))

-- "The run has ended when it is marked stopped, no line runs and no waiting line has counter 0." For any state; of one in
-- range it is the rules' `ended`.
unfoldable pub over_of : Bool → ℕ → List ℕ → Slots → Bool
over_of stopped lines counters slots = must stopped false (every lines (is_still counters slots))

abbrev pub ended_of : State → Bool
ended_of s = over_of s.stopped s.lines s.counters (slots_of s)
