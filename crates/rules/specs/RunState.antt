-- The state of a run, over any source of tokens (01, "Choices and join counters").
use Rattle.std.specs.Prelude.{Bool, true, false, List, ℕ, ◌+◌, ◌*◌, get_or, set, replicate}
use Rattle.vocabulary.specs.declared.Slot.{Slot}
use Rattle.vocabulary.specs.declared.Slots.{Slots}
use Rattle.vocabulary.specs.PipeKinds.{full_of, kind_if}

-- a plan, but for its records: P, L, N, and which pipes are serial
pub record Pipeline : Type 0 where
  pub pipes : ℕ
  pub lines : ℕ
  pub tokens : ℕ
  pub serial : List Bool

-- the state of a run: its plan and W; the join counters, 16 to a line; what each line does; how many places were
-- given; whether it is marked stopped; and where its tokens come from
pub record Machine (X : Type 0) : Type 0 where
  pub pipes : ℕ
  pub lines : ℕ
  pub tokens : ℕ
  pub workers : ℕ
  pub serial : List Bool
  pub counters : List ℕ
  pub slots : Slots
  pub placed : ℕ
  pub stopped : Bool
  pub source : X

-- a line that waits at a pipe, with its token and place: it has no worker, which is written 0
abbrev pub waits : ℕ → ℕ → ℕ → Slot
waits p t k = record {
  pipe = record { 0 = p };
  running = false;
  token = record { 0 = t };
  place = record { 0 = k };
  worker = record { 0 = 0 };
}

-- a line that waits at pipe 0: it holds no token
abbrev pub idle : Slot
idle = waits 0 0 0

-- a line that runs a pipe, with its token and place, by a worker
abbrev pub runs : ℕ → ℕ → ℕ → ℕ → Slot
runs p t k w = record {
  pipe = record { 0 = p };
  running = true;
  token = record { 0 = t };
  place = record { 0 = k };
  worker = record { 0 = w };
}

-- what a line does, by the rows of all; and the rows with what one line does put anew
unfoldable pub slot_at : Slots → ℕ → Slot
slot_at s l = record {
  pipe = get_or s.at l idle.pipe;
  running = get_or s.running l idle.running;
  token = get_or s.token l idle.token;
  place = get_or s.place l idle.place;
  worker = get_or s.worker l idle.worker;
}

unfoldable pub put_slot : Slots → ℕ → Slot → Slots
put_slot s l v = record {
  at = set s.at l v.pipe;
  running = set s.running l v.running;
  token = set s.token l v.token;
  place = set s.place l v.place;
  worker = set s.worker l v.worker;
}

-- "Each line waits at pipe 0."
unfoldable pub all_idle : Slots
all_idle = record {
  at = replicate 32 idle.pipe;
  running = replicate 32 idle.running;
  token = replicate 32 idle.token;
  place = replicate 32 idle.place;
  worker = replicate 32 idle.worker;
}

-- "There is a counter for each line and pipe", of 512 (32 × 16)
abbrev pub counter_at : ℕ → ℕ → ℕ
counter_at l p = 16 * l + p

-- a line's slot, a line's counter at a pipe, and whether a pipe is serial
abbrev pub slot_of : {X : Type 0} → Machine X → ℕ → Slot
slot_of m l = slot_at m.slots l

abbrev pub counter_of : {X : Type 0} → Machine X → ℕ → ℕ → ℕ
counter_of m l p = get_or m.counters (counter_at l p) 0

abbrev pub is_serial : {X : Type 0} → Machine X → ℕ → Bool
is_serial m p = get_or m.serial p false

-- the full value of a counter at a pipe that is serial, or is not
abbrev pub full : Bool → ℕ
full serial = full_of (kind_if serial)
