-- The ranges of a state, where the other tests have passed.
use mathlib.Core.Path.{◌≡◌, refl, sym, ap, ◌∙◌}
use mathlib.Core.Bool.{Bool, true, false}
use mathlib.Core.List.{List, [], ◌∷◌, ◌++◌}
use Prim.Native.Nat.{ℕ, ◌≤◌}
use borrow.Author.Tests.{leb-true, le-leb}
use lib.Dec.{leb}
use Rattle.std.specs.Prelude.{Some, None}
use lib.ListN.{get_or}
use Rattle.rules.specs.Lists.{if, all, every, within}
use Rattle.rules.specs.Ranges.{sound, numbers_sound, serial_sound, slot_sound, counter_sound}
use Rattle.rules.specs.RunState.{Machine, slot_at}
use Rattle.vocabulary.specs.declared.Slots.{Slots}
use Rattle.rules.specs.Choices.{at_work}
use Rattle.rules.proofs.lists.Holding.{first_holds, rest_hold}
use Rattle.rules.proofs.lists.Tests.{by_test, never, if_same, if_eta}
use Rattle.tables.specs.State as tables
use Rattle.tables.specs.Calls.{memory_source}
use Rattle.state.specs.declared.Figures.{Figures}
use Rattle.ranges.specs.declared.slots.Found.{Found}
use Rattle.state.specs.Machines.{machine_of, whole}
use Rattle.ranges.specs.RangeParts.{figures_sound, flag_sound, found_of}
use Rattle.ranges.specs.Surveys.{rows_sound, rest_sound, near, survey_of}
use Rattle.ranges.proofs.in_range.FlagLaws.{flags_are}
use Rattle.ranges.proofs.in_range.SlotLaws.{works_all}

-- single numbers that are in range
module _ (f : Figures) (ok : figures_sound f ≡ true) where
  pipes_ok : within 1 16 f.pipes ≡ true
  unfolding figures_sound
  pipes_ok = first_holds (within 1 16 f.pipes) _ ok

  pub pipes_some : 1 ≤ f.pipes
  unfolding within
  pipes_some = leb-true 1 f.pipes (first_holds (leb 1 f.pipes) _ pipes_ok)

  pub pipes_most : f.pipes ≤ 16
  unfolding within
  pipes_most = leb-true f.pipes 16 (first_holds (leb f.pipes 16) _ (rest_hold (leb 1 f.pipes) _ pipes_ok))

  pub lines_most : f.lines ≤ 32
  unfolding figures_sound within
  lines_most =
      leb-true f.lines 32 (first_holds (leb f.lines 32) _ (rest_hold (leb 1 f.lines) _
      (first_holds (within 1 32 f.lines) _ (rest_hold (within 1 16 f.pipes) _ ok))))

-- the last of some tests
all_last : (l : List Bool) (b : Bool) → all (l ++ (b ∷ [])) ≡ if (all l) b false
all_last [] b = if_eta b
all_last (true ∷ l) b = all_last l b
all_last (false ∷ l) b = refl

-- the order of the tests is no matter
reorder : (n first flags counters slots rest : Bool) →
    all (if n first false ∷ flags ∷ slots ∷ counters ∷ rest ∷ []) ≡ if (all (n ∷ counters ∷ if first flags false ∷ rest ∷ [])) slots false
reorder false first flags counters slots rest = refl
reorder true false flags true slots rest = refl
reorder true false flags false slots rest = refl
reorder true true false true slots rest = refl
reorder true true false false slots rest = refl
reorder true true true counters true rest = sym (if_eta _)
reorder true true true counters false rest = sym (if_same (if counters (if rest true false) false) false)

-- where the rest is sound the single numbers are
pub figures_ok : (f : Figures) (counters mem : List ℕ) {b : Bool} → b ≡ rest_sound f counters mem → b ≡ true → figures_sound f ≡ true
unfolding rest_sound
figures_ok f counters mem b_is ok = first_holds (figures_sound f) _ (sym b_is ∙ ok)

-- the rest by what the counters and flags are
module _ (f : Figures) (counters mem : List ℕ) {rows : Bool} (rows_are : rows ≡ rows_sound f.pipes f.lines f.serial counters) where
  abbrev counters_ok : Bool
  counters_ok = every 512 (counter_sound f.pipes f.lines f.serial counters)

  abbrev flags_ok : Bool
  flags_ok = every 16 (flag_sound f.pipes f.serial)

  rows_hold : rest_sound f counters mem ≡ true → rows_sound f.pipes f.lines f.serial counters ≡ true
  unfolding rest_sound rows_sound
  rows_hold ok =
      let figures : figures_sound f ≡ true = first_holds (figures_sound f) _ ok in
      let past = rest_hold (figures_sound f) _ ok in
      rw (
        le-leb f.pipes 16 (pipes_most f figures),
        le-leb f.lines 32 (lines_most f figures),
        first_holds counters_ok _ past,
        first_holds flags_ok _ (rest_hold counters_ok _ past),
      )

  pub rows_fail : rows ≡ false → false ≡ rest_sound f counters mem
  rows_fail e = by_test (rest_sound f counters mem) (λ ok. absurd (never (sym (rows_hold ok) ∙ sym rows_are ∙ e))) sym

  pub figures_fail : figures_sound f ≡ false → false ≡ rest_sound f counters mem
  unfolding rest_sound
  figures_fail e = rw e

  -- what is left to ask
  pub tables_left : rows ≡ true → figures_sound f ≡ true → tables.sound_of (f.tables, mem) ≡ rest_sound f counters mem
  unfolding rest_sound rows_sound
  tables_left e figures =
      let past = rest_hold (leb f.lines 32) _ (rest_hold (leb f.pipes 16) _ (sym rows_are ∙ e)) in
      rw (figures, first_holds counters_ok _ past, first_holds flags_ok _ (rest_hold counters_ok _ past)) (sym (if_eta _))

module _ (f : Figures) (counters : List ℕ) (slots : Slots) (mem : List ℕ) where
  abbrev machine : Machine tables.State
  machine = machine_of (whole f counters slots) mem

  pub numbers_are : numbers_sound machine ≡ if (figures_sound f) (get_or f.serial 0 false) false
  unfolding numbers_sound figures_sound machine_of
  numbers_are =
      all_last (within 1 16 f.pipes ∷ within 1 32 f.lines ∷ leb f.tables.tokens 4096 ∷ within 1 32 f.workers ∷
      leb f.placed f.tables.tokens ∷ []) (get_or f.serial 0 false)

  -- the slots, and all the rest
  abbrev slots_ok : Bool
  slots_ok = every 32 (slot_sound f.pipes f.lines f.tables.tokens f.workers slots)

  sound_is : sound memory_source machine ≡ if (rest_sound f counters mem) slots_ok false
  unfolding sound rest_sound machine_of
  sound_is =
      let flags : Bool = every 16 (serial_sound f.pipes f.serial) in
      let counters_ok : Bool = every 512 (counter_sound f.pipes f.lines f.serial counters) in
      let tablesOk : Bool = tables.sound_of (f.tables, mem) in
      ap (λ b. all (b ∷ flags ∷ slots_ok ∷ counters_ok ∷ tablesOk ∷ [])) numbers_are ∙
      reorder (figures_sound f) (get_or f.serial 0 false) flags counters_ok slots_ok tablesOk ∙
      ap (λ b. if (all (figures_sound f ∷ counters_ok ∷ b ∷ tablesOk ∷ [])) slots_ok false) (sym (flags_are f.pipes f.serial))

  -- what is told of the state
  module _ (worker line : ℕ) where
    pub rest_fails : {b : Bool} → b ≡ rest_sound f counters mem → b ≡ false → None ≡ survey_of f counters slots mem worker line
    unfolding survey_of
    rest_fails b_is e = rw (sound_is, sym b_is ∙ e)

    module _ {b : Bool} (b_is : b ≡ rest_sound f counters mem) (ok : b ≡ true)
        {found : Found} (found_is : found ≡ found_of slots f.pipes f.lines f.tables.tokens f.workers worker) where
      slots_are : found.sound ≡ slots_ok
      unfolding found_of
      slots_are = ap (λ t. t.sound) found_is

      pub slots_fail : found.sound ≡ false → None ≡ survey_of f counters slots mem worker line
      unfolding survey_of
      slots_fail e = rw (sound_is, sym b_is ∙ ok, sym slots_are ∙ e)

      busy_is : found.sound ≡ true → found.busy ≡ at_work slots worker f.lines
      unfolding found_of
      busy_is e =
          ap (λ t. t.busy) found_is ∙
          works_all slots worker f.pipes f.lines f.tables.tokens f.workers 32 (lines_most f (figures_ok f counters mem b_is ok)) (sym slots_are ∙ e)

      pub told : found.sound ≡ true → {at : ℕ} → at ≡ near line →
          Some (record { busy = found.busy; slot = slot_at slots at }) ≡ survey_of f counters slots mem worker line
      unfolding survey_of
      told e at-is = rw (sound_is, sym b_is ∙ ok, sym slots_are ∙ e, busy_is e, at-is)
