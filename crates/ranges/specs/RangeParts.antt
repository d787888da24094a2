-- The ranges of a state, in the parts that the code tests.
use Rattle.std.specs.Prelude.{Bool, false, List, [], ◌∷◌, ℕ, zero, suc, ◌+◌, ◌-◌, max, leb, ltb, get_or}
use Rattle.rules.specs.Lists.{if, all, within, every, table}
use Rattle.vocabulary.specs.declared.Slots.{Slots}
use Rattle.rules.specs.RunState.{counter_at}
use Rattle.rules.specs.Choices.{at_work}
use Rattle.rules.specs.Ranges.{slot_sound}
use Rattle.state.specs.declared.Figures.{Figures}
use Rattle.ranges.specs.declared.slots.Found.{Found}

-- a test holds of each number from one up to another
unfoldable pub every_from : ℕ → ℕ → (ℕ → Bool) → Bool
every_from from to f = every (to - from) (λ i. f (from + i))

-- the highest of a function's first values; 0 if there are none
unfoldable pub highest : ℕ → (ℕ → ℕ) → ℕ
highest zero f = 0
highest (suc n) f = max (highest n f) (f n)

-- P, L, N, W and the places
unfoldable pub figures_sound : Figures → Bool
figures_sound f =
    all (
    within 1 16 f.pipes ∷ within 1 32 f.lines ∷ leb f.tables.tokens 4096 ∷ within 1 32 f.workers ∷
    leb f.placed f.tables.tokens ∷ [])

-- the flags: pipe 0 is serial, and what is no pipe of the plan is not
unfoldable pub flag_sound : ℕ → List Bool → ℕ → Bool
flag_sound pipes serial p = if (get_or serial p false) (ltb p pipes) (ltb 0 p)

-- the highest counters of some lines, one at each pipe; and the same with one line more
unfoldable pub highest_row : List ℕ → ℕ → ℕ → List ℕ
highest_row counters from to = table 16 (λ p. highest (to - from) (λ i. get_or counters (counter_at (from + i) p) 0))

unfoldable pub raised_row : List ℕ → List ℕ → ℕ → List ℕ
raised_row counters row l = table 16 (λ p. max (get_or row p 0) (get_or counters (counter_at l p) 0))

-- no number of a row is above that of another
unfoldable pub row_within : List ℕ → List ℕ → Bool
row_within row most = every 16 (λ p. leb (get_or row p 0) (get_or most p 0))

-- 2 for each pipe of the plan, and 0 for what is none; and 2 for each flag that is set
unfoldable pub pipe_row : ℕ → List ℕ
pipe_row pipes = table 16 (λ p. if (ltb p pipes) 2 0)

unfoldable pub flag_row : List Bool → List ℕ
flag_row serial = table 16 (λ p. if (get_or serial p false) 2 0)

-- what a walk over the slots finds: whether all are within their ranges, and whether a worker runs a line
unfoldable pub found_of : Slots → ℕ → ℕ → ℕ → ℕ → ℕ → Found
found_of slots pipes lines tokens workers worker =
    record { sound = every 32 (slot_sound pipes lines tokens workers slots); busy = at_work slots worker 32 }
