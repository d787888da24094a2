-- Choices and join counters (01, "Choices and join counters"), over any source of tokens.
use Rattle.std.specs.Prelude.{Bool, true, false, not, List, [], ◌∷◌, ℕ, zero, suc, ◌-◌, ◌/◌, ◌%◌, ltb, eqb, get_or, set}
use Rattle.rules.specs.Lists.{if, must, must_not, all, table}
use Rattle.rules.specs.Sources.{Source, Taken, Spoiled, Nothing, Took, Released, Broken, Passed}
use Rattle.rules.specs.RunState.{Pipeline, Machine, idle, runs, waits, slot_at, put_slot, all_idle, counter_at, slot_of, counter_of, is_serial, full}
use Rattle.rules.specs.Ranges.{sound}
use Rattle.vocabulary.specs.declared.Slot.{Slot}
use Rattle.vocabulary.specs.declared.Slots.{Slots}

-- "A choice is a worker and a line" (02, 2.14)
pub record Choice : Type 0 where
  pub worker : ℕ
  pub line : ℕ

-- the choices of some input bytes: "A choice is a worker and a line, two input bytes in that order (a lone last byte is ignored)"
unfoldable pub choices_in : List ℕ → List Choice
choices_in [] = []
choices_in (w ∷ []) = []
choices_in (w ∷ (l ∷ rest)) = record { worker = w; line = l } ∷ choices_in rest

-- "An accepted choice returns Started or Finished with line, pipe, token, place, or Stopped with line", and "Events end with
-- the worker number" (2.14); any other returns the number of the first rule broken
pub data Answer : Type 0 where
  Started : ℕ → ℕ → ℕ → ℕ → ℕ → Answer
  Finished : ℕ → ℕ → ℕ → ℕ → ℕ → Answer
  Stopped : ℕ → ℕ → Answer
  Refused : ℕ → Answer

-- what a choice returns and leaves
pub record Chosen (X : Type 0) : Type 0 where
  pub answer : Answer
  pub machine : Machine X

-- "state and memory unchanged"
abbrev pub refuse : {X : Type 0} → Machine X → ℕ → Chosen X
refuse m n = record { answer = Refused n; machine = m }

-- the same run but for what a choice may change
abbrev pub with_place : {X : Type 0} → Machine X → List ℕ → Slots → ℕ → Bool → X → Machine X
with_place m counters slots placed stopped source =
    record {
      pipes = m.pipes;
      lines = m.lines;
      tokens = m.tokens;
      workers = m.workers;
      serial = m.serial;
      counters = counters;
      slots = slots;
      placed = placed;
      stopped = stopped;
      source = source;
    }

-- (i + 1) mod n: the line after, and the pipe after
abbrev pub next : ℕ → ℕ → ℕ
next n i = if (eqb (suc i) n) 0 (suc i)

-- "the line waits there", at pipe (p + 1) mod P, and has no worker; at pipe 0 it holds no token
abbrev pub moved : ℕ → Slot → Slot
moved pipes s =
    if (eqb (suc s.pipe.0) pipes) idle
    (waits (suc s.pipe.0) s.token.0 s.place.0)

-- a counter falls by one
unfoldable pub fall : List ℕ → ℕ → List ℕ
fall c i = set c i (get_or c i 0 - 1)

-- "The counter becomes full."
abbrev pub filled : {X : Type 0} → Machine X → ℕ → ℕ → List ℕ
filled m l p = set m.counters (counter_at l p) (full (is_serial m p))

-- whether a worker runs the line of a slot
abbrev pub run_by : ℕ → Slot → Bool
run_by w s = must s.running false (eqb s.worker.0 w)

-- whether a worker runs one of the lines below `n`; one that runs none is idle
unfoldable pub at_work : Slots → ℕ → ℕ → Bool
at_work s w zero = false
at_work s w (suc n) = if (run_by w (slot_at s n)) true (at_work s w n)

-- whether one of the lines below `n` runs, or waits with counter 0
unfoldable pub movable : {X : Type 0} → Machine X → ℕ → Bool
movable m zero = false
movable m (suc n) =
    if (slot_of m n).running true
    (if (eqb (counter_of m n (slot_of m n).pipe.0) 0) true
    (movable m n))

-- "The run has ended when it is marked stopped, no line runs and no waiting line has counter 0."
unfoldable pub ended : {X : Type 0} → Machine X → Bool
ended m = must m.stopped false (not (movable m m.lines))

module _ {X : Type 0} (S : Source X) where
  -- a worker's start at pipe 0, with what the source gives: "a token is taken; if there is none, the line stops (it still counts
  -- as waiting there), the run is marked stopped and the counter stays full"; 14 if no place is left for the token
  unfoldable pub start_first : Machine X → ℕ → ℕ → Taken X → Chosen X
  start_first m w l Spoiled = refuse m 14
  start_first m w l (Nothing x) =
      record {
        answer = Stopped l w;
        machine = with_place m (filled m l 0) m.slots m.placed true x;
      }
  start_first m w l (Took t x) =
      must (ltb m.placed m.tokens) (refuse m 14)
      (record {
        answer = Started l 0 t m.placed w;
        machine = with_place m (filled m l 0)
            (put_slot m.slots l (runs 0 t m.placed w)) (suc m.placed) m.stopped x;
      })

  -- a start at a later pipe, with the token and place that the line holds
  unfoldable pub start_later : Machine X → ℕ → ℕ → Slot → Chosen X
  start_later m w l s =
      record {
        answer = Started l s.pipe.0 s.token.0 s.place.0 w;
        machine = with_place m (filled m l s.pipe.0)
            (put_slot m.slots l (runs s.pipe.0 s.token.0 s.place.0 w)) m.placed m.stopped m.source;
      }

  -- "Waiting with counter 0: start." The line is then the worker's.
  unfoldable pub start : Machine X → ℕ → ℕ → Chosen X
  start m w l =
      let s : Slot = slot_of m l in
      let first : Chosen X = start_first m w l (S.take m.source) in
      if (eqb s.pipe.0 0) first (start_later m w l s)

  -- "Then that of this line at pipe (p + 1) mod P falls by one, and the line waits there"; 14 if it is 0
  unfoldable pub settle : Machine X → ℕ → Slot → List ℕ → X → Chosen X
  settle m l s c x =
      let i : ℕ = counter_at l (next m.pipes s.pipe.0) in
      must_not (eqb (get_or c i 0) 0) (refuse m 14)
      (record {
        answer = Finished l s.pipe.0 s.token.0 s.place.0 s.worker.0;
        machine = with_place m (fall c i) (put_slot m.slots l (moved m.pipes s)) m.placed m.stopped x;
      })

  -- "If the pipe is serial, the counter of line (l + 1) mod L at the same pipe falls by one"; 14 if it is 0
  unfoldable pub finish_with : Machine X → ℕ → Slot → X → Chosen X
  finish_with m l s x =
      let i : ℕ = counter_at (next m.lines l) s.pipe.0 in
      if (is_serial m s.pipe.0)
      (must_not (eqb (get_or m.counters i 0) 0) (refuse m 14)
      (settle m l s (fall m.counters i) x))
      (settle m l s m.counters x)

  -- a finish at pipe 0, with what the source makes of it
  unfoldable pub finish_first : Machine X → ℕ → Slot → Released X → Chosen X
  finish_first m l s Broken = refuse m 14
  finish_first m l s (Passed x) = finish_with m l s x

  -- "Running: finish. At pipe 0 rule 4 is applied first."
  unfoldable pub finish : Machine X → ℕ → Chosen X
  finish m l =
      let s : Slot = slot_of m l in
      let first : Chosen X = finish_first m l s (S.release s.token.0 m.source) in
      if (eqb s.pipe.0 0) first (finish_with m l s m.source)

  -- a running line finishes, which "must be by that worker": 26 if another is named. A waiting one starts: 12 if its counter is
  -- above 0; "A start needs the named worker idle, .. so 13 now means the named worker runs another line; a stop too" (2.14)
  unfoldable pub move : Machine X → ℕ → ℕ → Chosen X
  move m w l =
      let s : Slot = slot_of m l in
      if s.running
      (must (eqb s.worker.0 w) (refuse m 26)
      (finish m l))
      (must (eqb (counter_of m l s.pipe.0) 0) (refuse m 12)
      (must_not (at_work m.slots w m.lines) (refuse m 13)
      (start m w l)))

  -- "For a choice: 14 if .. a number in state or memory is outside its range, then 10 to 13, then 14", and "26 after 10 for a
  -- worker number of W or more" (2.14)
  unfoldable pub choose : Machine X → ℕ → ℕ → Chosen X
  choose m w l =
      must (sound S m) (refuse m 14)
      (must (ltb l m.lines) (refuse m 10)
      (must (ltb w m.workers) (refuse m 26)
      (must_not (ended m) (refuse m 11)
      (move m w l))))

  -- a choice as a pair
  abbrev pub choose_by : Machine X → Choice → Chosen X
  choose_by m c = choose m c.worker c.line

  -- what a list of choices answers, and the run that it leaves: each is given what the one before left
  unfoldable pub answers : Machine X → List Choice → List Answer
  answers m [] = []
  answers m (c ∷ cs) = (choose_by m c).answer ∷ answers (choose_by m c).machine cs

  unfoldable pub follow : Machine X → List Choice → Machine X
  follow m [] = m
  follow m (c ∷ cs) = follow (choose_by m c).machine cs

-- "At opening: line 0 pipe 0 has 0; pipe 0 of other lines 1; other pipes of line 0 have 1; the rest are full."
unfoldable pub opened_counter : ℕ → ℕ → Bool → ℕ
opened_counter l p serial =
    if (all (eqb l 0 ∷ eqb p 0 ∷ [])) 0
    (if (eqb p 0) 1
    (if (eqb l 0) 1
    (full serial)))

-- "The run holds 512 counters (32 × 16); unused ones are 0."
unfoldable pub tabled : Pipeline → (ℕ → ℕ → ℕ) → List ℕ
tabled plan f =
    table 512 (λ i.
    must (ltb (i / 16) plan.lines) 0
    (must (ltb (i % 16) plan.pipes) 0
    (f (i / 16) (i % 16))))

-- the run at opening, with W workers: "Each line waits at pipe 0."
unfoldable pub opened : {X : Type 0} → Pipeline → ℕ → X → Machine X
opened plan workers source =
    record {
      pipes = plan.pipes;
      lines = plan.lines;
      tokens = plan.tokens;
      workers = workers;
      serial = plan.serial;
      counters = tabled plan (λ l p. opened_counter l p (get_or plan.serial p false));
      slots = all_idle;
      placed = 0;
      stopped = false;
      source = source;
    }
