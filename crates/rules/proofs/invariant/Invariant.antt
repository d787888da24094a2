-- What holds of the machine after any choices.
use mathlib.Core.Path.{◌≡◌, ap, ◌∙◌}
use mathlib.Core.Bool.{Bool, true, false}
use mathlib.Core.List.{List}
use Prim.Native.Nat.{ℕ, suc, ◌+◌, ◌*◌, ◌≤◌, ◌<◌}
use native.Mathlib.Omega.{arith}
use lib.Dec.{eqb}
use lib.ListN.{length, get_or, drop}
use Rattle.vocabulary.specs.declared.Slot.{Slot}
use Rattle.vocabulary.specs.declared.Slots.{Slots}
use Rattle.rules.specs.Lists.{if}
use Rattle.rules.specs.RunState.{Pipeline, Machine, idle, runs, waits, slot_at, full}
use Rattle.rules.specs.Sources.{Source, Writes, close, write, Passed}
use Rattle.rules.specs.WholeRuns.{PipelineInRange, WorkersInRange}
use Rattle.rules.proofs.lists.SlotRows.{Sized}
use Rattle.rules.proofs.standing.Standing.{finish_past, Standing, serial_at, Good, waiting, turn}

-- a plan, a number of workers and an order within their ranges
pub record Allowed (plan : Pipeline) (workers : ℕ) (order : List ℕ) : Type 0 where
  pub ranged : PipelineInRange plan
  pub manned : WorkersInRange workers
  pub fits : length order ≤ plan.tokens
  pub known : (k : ℕ) → k < length order → get_or order k 0 < plan.tokens

-- what a choice may change of the machine
pub record State (X : Type 0) : Type 0 where
  pub counters : List ℕ
  pub slots : Slots
  pub placed : ℕ
  pub stopped : Bool
  pub source : X

-- the machine of a plan, so many workers and a state
abbrev pub whole : {X : Type 0} → Pipeline → ℕ → State X → Machine X
whole plan workers st =
    record {
      pipes = plan.pipes;
      lines = plan.lines;
      tokens = plan.tokens;
      workers = workers;
      serial = plan.serial;
      counters = st.counters;
      slots = st.slots;
      placed = st.placed;
      stopped = st.stopped;
      source = st.source;
    }

-- the slot of a line by how the run stands, and by its worker if it runs; the line that stopped holds no token
unfoldable pub shown : List ℕ → Bool → Standing → ℕ → ℕ → Slot
shown order stopped g l w =
    if (eqb (g.pipe l) 0)
    (if (g.busy l) (if stopped idle (runs 0 (get_or order (g.place l) 0) (g.place l) w)) idle)
    (if (g.busy l) (runs (g.pipe l) (get_or order (g.place l) 0) (g.place l) w) (waits (g.pipe l) (get_or order (g.place l) 0) (g.place l)))

-- a line runs pipe 0, or has stopped there
pub record First (plan : Pipeline) (g : Standing) (l : ℕ) : Type 0 where
  pub within : l < plan.lines
  pub first : g.pipe l ≡ 0
  pub runs : g.busy l ≡ true

-- a counter is full but for 1 where its line waits at its pipe, and 1 where it is the line's turn there
pub record Tallied (plan : Pipeline) (counters : List ℕ) (g : Standing) : Type 0 where
  pub size : length counters ≡ 512
  pub counts : (l p : ℕ) → l < plan.lines → p < plan.pipes →
      get_or counters (16 * l + p) 0 + waiting g l p + turn plan g l p ≡ full (serial_at plan p)
  pub unused : (l p : ℕ) → p < 16 → (l < plan.lines → p < plan.pipes → ⊥) → get_or counters (16 * l + p) 0 ≡ 0

-- a slot says how its line stands, by one of the workers
pub record Shown (workers : ℕ) (order : List ℕ) (slot : Slot) (stopped : Bool) (g : Standing) (l : ℕ) : Type 0 where
  pub worker : ℕ
  pub manned : worker < workers
  pub is : slot ≡ shown order stopped g l worker

-- the slots say how the run stands
pub record Slotted (plan : Pipeline) (workers : ℕ) (order : List ℕ) (slots : Slots) (stopped : Bool) (g : Standing) : Type 0 where
  pub size : Sized slots
  pub used : (l : ℕ) → l < plan.lines → Shown workers order (slot_at slots l) stopped g l
  pub spare : (l : ℕ) → plan.lines ≤ l → slot_at slots l ≡ idle

module _ {X : Type 0} (S : Source X) (plan : Pipeline) (order : List ℕ) (z : X) where
  -- what the source has still to give: nobody runs pipe 0; a line runs it with the last token placed; or the source has closed
  pub data Feed (st : State X) (g : Standing) : Type 0 where
    free : st.stopped ≡ false → st.placed ≡ g.passed 0 → ((l : ℕ) → First plan g l → ⊥) → g.passed 0 ≤ length order →
        Writes S st.source (drop (g.passed 0) order) z → Feed st g
    taken : {x : X} (l : ℕ) → First plan g l → st.stopped ≡ false → st.placed ≡ suc (g.passed 0) → g.passed 0 < length order →
        S.sound st.source ≡ true → S.release (get_or order (g.passed 0) 0) st.source ≡ Passed x →
        Writes S x (drop (suc (g.passed 0)) order) z → Feed st g
    closed : (l : ℕ) → First plan g l → st.stopped ≡ true → st.placed ≡ g.passed 0 → g.passed 0 ≡ length order →
        S.sound st.source ≡ true → st.source ≡ z → Feed st g

-- the invariant of a run
pub record Inv {X : Type 0} (S : Source X) (plan : Pipeline) (workers : ℕ) (order : List ℕ) (z : X) (st : State X) (g : Standing) : Type 0 where
  pub good : Good plan g
  pub tally : Tallied plan st.counters g
  pub slotted : Slotted plan workers order st.slots st.stopped g
  pub feed : Feed S plan order z st g

-- a source that writes is sound
pub writes_sound : {X : Type 0} {S : Source X} {x z : X} {ts : List ℕ} → Writes S x ts z → S.sound x ≡ true
writes_sound (close a b c) = a
writes_sound (write a b c d e) = a

module _ {X : Type 0} {S : Source X} {plan : Pipeline} {workers : ℕ} {order : List ℕ} {z : X} (ranged : PipelineInRange plan) {st : State X} {g : Standing}
    (inv : Inv S plan workers order z st g) where
  -- no more has finished pipe 0 than the order has
  passed_most : g.passed 0 ≤ length order
  passed_most = elim inv.feed [
    | free a b c d e ↦ d
    | taken l f a b c d e w ↦ omega arith
    | closed l f a b c d e ↦ omega arith
  ]

  -- no more is placed than the order has
  pub placed_most : st.placed ≤ length order
  placed_most = elim inv.feed [
    | free a b c d e ↦ omega arith
    | taken l f a b c d e w ↦ omega arith
    | closed l f a b c d e ↦ omega arith
  ]

  -- the source is sound
  pub source_sound : S.sound st.source ≡ true
  source_sound = elim inv.feed [
    | free a b c d e ↦ writes_sound e
    | taken l f a b c d e w ↦ d
    | closed l f a b c d e ↦ d
  ]

  -- a line past pipe 0 holds a token of the order
  pub carried : (l : ℕ) → l < plan.lines → (g.pipe l ≡ 0 → ⊥) → g.place l < length order
  carried l h n =
      omega (arith, passed_most, finish_past ranged g l 0 (omega arith), inv.good.high l 0 h ranged.pipes_some ranged.first_serial)

  -- a line that runs pipe 0, or has stopped there, has the place next to finish it
  pub first_held : (l : ℕ) → First plan g l → g.place l ≡ g.passed 0
  first_held l f = inv.good.held l f.within (ap (serial_at plan) f.first ∙ ranged.first_serial) f.runs ∙ ap g.passed f.first
