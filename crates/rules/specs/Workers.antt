-- The worker that goes with a line (02, 2.14): "Where 01 lists lines alone, practice's workers go with them."
use Rattle.std.specs.Prelude.{◌≡◌, true, List, [], ◌∷◌, ℕ, zero, suc, ◌+◌, ◌<◌, ltb, eqb}
use Rattle.vocabulary.specs.declared.Slots.{Slots}
use Rattle.rules.specs.Lists.{if, must, must_not}
use Rattle.rules.specs.Sources.{Source}
use Rattle.rules.specs.RunState.{Machine, slot_at, slot_of, counter_of}
use Rattle.rules.specs.Ranges.{sound}
use Rattle.rules.specs.Choices.{Choice, Chosen, Answer, Started, Finished, Stopped, Refused, refuse, at_work, ended, start, finish, choose_by}

-- "the idle one with the smallest number", of so many workers from w on. Where none is idle it is worker 0, who then runs another
-- line: a start is refused with 13, as in 01 where W or more lines run.
unfoldable pub first_idle : Slots → ℕ → ℕ → ℕ → ℕ
first_idle s lines w zero = 0
first_idle s lines w (suc left) = if (at_work s w lines) (first_idle s lines (suc w) left) w

-- "names the line's running worker, or for a start or stop the idle one with the smallest number"
unfoldable pub worker_for : {X : Type 0} → Machine X → ℕ → ℕ
worker_for m l = if (slot_of m l).running (slot_of m l).worker.0 (first_idle m.slots m.lines 0 m.workers)

-- a choice of a line, by that worker
abbrev pub choice_of : {X : Type 0} → Machine X → ℕ → Choice
choice_of m l = record { worker = worker_for m l; line = l }

-- a list of lines alone as a list of choices, each by the worker that goes with its line there
unfoldable pub choices_of : {X : Type 0} → Source X → Machine X → List ℕ → List Choice
choices_of S m [] = []
choices_of S m (l ∷ ls) = choice_of m l ∷ choices_of S (choose_by S m (choice_of m l)).machine ls

-- how many of the lines below `n` run
unfoldable pub running_below : Slots → ℕ → ℕ
running_below s zero = 0
running_below s (suc n) = if (slot_at s n).running 1 0 + running_below s n

module _ {X : Type 0} (S : Source X) where
  -- 01's choice, which "names a line": 13 if "line waits with counter 0 (to start or stop) but W or more lines run". What starts or
  -- stops has the worker that goes with the line.
  unfoldable pub choose_line : Machine X → ℕ → Chosen X
  choose_line m l =
      must (sound S m) (refuse m 14)
      (must (ltb l m.lines) (refuse m 10)
      (must_not (ended m) (refuse m 11)
      (if (slot_of m l).running (finish S m l)
      (must (eqb (counter_of m l (slot_of m l).pipe.0) 0) (refuse m 12)
      (must (ltb (running_below m.slots m.lines) m.workers) (refuse m 13)
      (start S m (worker_for m l) l))))))

  -- what a list of lines alone answers by it
  unfoldable pub line_answers : Machine X → List ℕ → List Answer
  line_answers m [] = []
  line_answers m (l ∷ ls) = (choose_line m l).answer ∷ line_answers (choose_line m l).machine ls

-- no worker runs two of the lines below `n`
abbrev pub OneLineEach : Slots → ℕ → Type 0
OneLineEach s n = (i j : ℕ) → i < n → j < n → (slot_at s i).running ≡ true → (slot_at s j).running ≡ true → (slot_at s i).worker.0 ≡ (slot_at s j).worker.0 → i ≡ j

-- an event without the worker, as demand 3 reads it: the worker is written 0
unfoldable pub without_worker : Answer → Answer
without_worker (Started l p t k w) = Started l p t k 0
without_worker (Finished l p t k w) = Finished l p t k 0
without_worker (Stopped l w) = Stopped l 0
without_worker (Refused n) = Refused n
