-- The ranges: "14 if .. a number in state or memory is outside its range" (01, "When the engine says no").
use Rattle.std.specs.Prelude.{Bool, true, false, not, List, [], ◌∷◌, ℕ, ◌/◌, ◌%◌, leb, ltb, eqb, get_or}
use Rattle.rules.specs.Lists.{if, must, all, within, every}
use Rattle.rules.specs.Sources.{Source}
use Rattle.rules.specs.RunState.{Machine, slot_at, is_serial, full}
use Rattle.vocabulary.specs.declared.Slot.{Slot}
use Rattle.vocabulary.specs.declared.Slots.{Slots}

-- a slot is that of a line that waits at pipe 0 with no token
unfoldable pub is_idle : Slot → Bool
is_idle s = all (not s.running ∷ eqb s.pipe.0 0 ∷ eqb s.token.0 0 ∷ eqb s.place.0 0 ∷ [])

-- a slot of a line that runs, or waits past pipe 0: its pipe is below P, its token and its place are below N
unfoldable pub is_loaded : ℕ → ℕ → Slot → Bool
is_loaded pipes tokens s =
    all (
    if s.running true (ltb 0 s.pipe.0) ∷
    ltb s.pipe.0 pipes ∷ ltb s.token.0 tokens ∷ ltb s.place.0 tokens ∷ [])

-- the worker of a line that runs is below W; that of one that does not is 0
unfoldable pub worker_sound : ℕ → Slot → Bool
worker_sound workers s = if s.running (ltb s.worker.0 workers) (eqb s.worker.0 0)

-- a slot is idle, or else of a line of the plan, and loaded; and its worker is in range
unfoldable pub slot_sound : ℕ → ℕ → ℕ → ℕ → Slots → ℕ → Bool
slot_sound pipes lines tokens workers slots l =
    must (worker_sound workers (slot_at slots l)) false
    (if (is_idle (slot_at slots l)) true
    (all (ltb l lines ∷ is_loaded pipes tokens (slot_at slots l) ∷ [])))

-- the most that a counter may be: its full value; "unused ones are 0"
unfoldable pub most_at : ℕ → ℕ → List Bool → ℕ → ℕ → ℕ
most_at pipes lines serial l p =
    must (ltb l lines) 0
    (must (ltb p pipes) 0
    (full (get_or serial p false)))

unfoldable pub counter_sound : ℕ → ℕ → List Bool → List ℕ → ℕ → Bool
counter_sound pipes lines serial counters i = leb (get_or counters i 0) (most_at pipes lines serial (i / 16) (i % 16))

-- what is no pipe of the plan is not serial
unfoldable pub serial_sound : ℕ → List Bool → ℕ → Bool
serial_sound pipes serial p = if (get_or serial p false) (ltb p pipes) true

-- 1 to 16 pipes, the first of them serial, 1 to 32 lines, at most 4,096 tokens, 1 to 32 workers, and no more places than tokens
unfoldable pub numbers_sound : {X : Type 0} → Machine X → Bool
numbers_sound m =
    all (
    within 1 16 m.pipes ∷ within 1 32 m.lines ∷ leb m.tokens 4096 ∷ within 1 32 m.workers ∷
    leb m.placed m.tokens ∷ is_serial m 0 ∷ [])

module _ {X : Type 0} (S : Source X) where
  -- every number of the state is within its range, and so is every number of its source
  unfoldable pub sound : Machine X → Bool
  sound m =
      all (
      numbers_sound m ∷
      every 16 (serial_sound m.pipes m.serial) ∷
      every 32 (slot_sound m.pipes m.lines m.tokens m.workers m.slots) ∷
      every 512 (counter_sound m.pipes m.lines m.serial m.counters) ∷
      S.sound m.source ∷ [])
