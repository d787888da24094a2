-- A finish, case by case, as the code meets it.
use mathlib.Core.Path.{◌≡◌, refl, sym, ap, ◌∙◌}
use mathlib.Core.Bool.{Bool, true, false}
use mathlib.Core.List.{List}
use mathlib.Core.Logic.{by_cases}
use native.Mathlib.Decide.{ℕ_discrete}
use Prim.Native.Nat.{ℕ, suc, ◌-◌, ◌<◌}
use native.Mathlib.Omega.{arith}
use borrow.Author.Tests.{eq-eqb, ne_eqb}
use lib.Dec.{eqb}
use lib.ListN.{get_or}
use lib.Seq.{set-get_or}
use Rattle.std.specs.Prelude.{Option, Some, None, Result, Ok, Err}
use Rattle.rules.specs.Lists.{if}
use Rattle.vocabulary.specs.declared.Line.{Line}
use Rattle.vocabulary.specs.declared.Slot.{Slot}
use Rattle.vocabulary.specs.declared.Slots.{Slots}
use Rattle.vocabulary.specs.declared.event.Event.{Event}
use Rattle.vocabulary.specs.declared.refusal.Refusal.{Refusal}
use Rattle.rules.specs.RunState.{slot_at, counter_at}
use Rattle.rules.specs.Sources.{Released as Outcome, Broken, Passed}
use Rattle.rules.specs.Choices.{next, moved, fall, refuse, settle, finish_with, finish_first, finish}
use Rattle.rules.specs.Choices as rules
use Rattle.rules.specs.Answers.{answer_of}
use Rattle.rules.proofs.lists.Tests.{by_test}
use Rattle.rules.proofs.lists.Stores.{left_by}
use Rattle.tables.specs.declared.Tables.{Tables}
use Rattle.tables.specs.declared.Spoiled.{Spoiled as TableError}
use Rattle.tables.specs.State as tables
use Rattle.tables.specs.Releasing.{released_of, released_memory, passes}
use Rattle.tables.specs.Calls.{safe_release, memory_source}
use Rattle.state.specs.declared.State.{State}
use Rattle.state.specs.declared.Figures.{Figures}
use Rattle.engine.specs.declared.turn.Cell.{Cell}
use Rattle.engine.specs.declared.turn.Change.{Change}
use Rattle.engine.specs.declared.finishing.Falls.{Falls}
use Rattle.state.specs.Machines.{machine_of}
use Rattle.engine.specs.Machines.{chosen_of}
use Rattle.state.specs.Machines.{whole}
use Rattle.engine.specs.Turns.{Turn, Answer, turned}
use Rattle.engine.specs.Moves.{lowered_of, left_of, with_second, falls_of, FitFalls, cell_of, both_of, fallen, finished_of, finished_event, settled_change}
use Rattle.engine.proofs.moves.Parts.{parts, refused}
use Rattle.engine.proofs.moves.Kept.{was_broken, was_passed, passed_kept}

-- the number after is one of the numbers
pub next_less : (n i : ℕ) {r : ℕ} → i < n → r ≡ next n i → r < n
next_less n i h e = by_cases (ℕ_discrete (suc i) n)
    (λ last. let e' = rw (eq-eqb (suc i) n last) at e in omega arith)
    (λ inner. let e' = rw (ne_eqb (suc i) n inner) at e in omega arith)

-- a counter that can fall, and one that cannot
pub falls_one : (c : Cell) → (c.value ≡ 0 → ⊥) → Some (record { at = c.at; value = c.value - 1 }) ≡ lowered_of c
unfolding lowered_of
falls_one c n = rw (ne_eqb c.value 0 n)

pub falls_none : (c : Cell) → c.value ≡ 0 → None ≡ lowered_of c
unfolding lowered_of
falls_none c z = rw (eq-eqb c.value 0 z)

-- the counter ahead, where it is the one that has fallen, and where not
pub left_same : (c ahead : Cell) → c.at ≡ ahead.at → c ≡ left_of c ahead
unfolding left_of
left_same c ahead e = rw (eq-eqb c.at ahead.at e) (λ i. record { at = e i; value = c.value })

pub left_other : (c ahead : Cell) → (c.at ≡ ahead.at → ⊥) → ahead ≡ left_of c ahead
unfolding left_of
left_other c ahead n = rw (ne_eqb c.at ahead.at n)

-- the falls at a pipe that is parallel, and at one that is serial
module _ {serial : Bool} (beside ahead : Cell) where
  pub falls_ahead : {r v : Option Cell} → serial ≡ false → r ≡ lowered_of ahead → r ≡ v → with_second ahead v ≡ falls_of serial beside ahead
  unfolding falls_of
  falls_ahead e told v_is = rw (e, sym told ∙ v_is)

  module _ (e : serial ≡ true) {r : Option Cell} (told : r ≡ lowered_of beside) where
    pub falls_low : r ≡ None → None ≡ falls_of serial beside ahead
    unfolding falls_of
    falls_low none = rw (e, sym told ∙ none)

    pub falls_both : {first left : Cell} {q v : Option Cell} → r ≡ Some first → left ≡ left_of first ahead → q ≡ lowered_of left → q ≡ v →
        with_second first v ≡ falls_of serial beside ahead
    unfolding falls_of
    falls_both some left_is left_told v_is = rw (e, sym told ∙ some, ← left_is, sym left_told ∙ v_is)

-- the counters that fall are those handed in
pub falls_within : (serial : Bool) (beside ahead : Cell) → beside.at < 512 → ahead.at < 512 → FitFalls (falls_of serial beside ahead)
unfolding falls_of lowered_of left_of
falls_within serial beside ahead a b =
    by_test serial
    (λ e. by_test (eqb beside.value 0) (λ g. rw (e, g) tt)
    (λ g. by_test (eqb (if (eqb beside.at ahead.at) (beside.value - 1) ahead.value) 0) (λ h. rw (e, g, h) tt) (λ h. rw (e, g, h) (a, b))))
    (λ e. by_test (eqb ahead.value 0) (λ g. rw (e, g) tt) (λ g. rw (e, g) (b, b)))

-- both falls, by the counters that the code worked out
module _ (f : Figures) (counters : List ℕ) (l : ℕ) (slot : Slot) {a b p : ℕ} {beside ahead : Cell}
    (p_is : p ≡ slot.pipe.0) (a_is : a ≡ next f.lines l) (b_is : b ≡ next f.pipes slot.pipe.0)
    (beside_is : beside ≡ cell_of counters a slot.pipe.0) (ahead_is : ahead ≡ cell_of counters l b)
    {x : Option Falls} (x_is : x ≡ falls_of (get_or f.serial p false) beside ahead) where
  pub both_told : x ≡ both_of f counters l slot
  unfolding both_of
  both_told = rw (← a_is, ← b_is, ← beside_is, ← ahead_is) (rw p_is at x_is)

  pub both_within : counter_at a slot.pipe.0 < 512 → counter_at l b < 512 → FitFalls x
  both_within h k =
      rw (x_is, beside_is, ahead_is)
      (falls_within (get_or f.serial p false) (cell_of counters a slot.pipe.0) (cell_of counters l b) h k)

module _ (f : Figures) (counters : List ℕ) (slots : Slots) (line : Line) (slot : Slot) (at : slot_at slots line.0 ≡ slot) where
  abbrev s : State
  s = whole f counters slots

  abbrev both : Option Falls
  both = both_of f counters line.0 slot

  -- the counters that fall: that of the next line, and that of the next pipe
  abbrev beside : ℕ
  beside = counter_at (next f.lines line.0) slot.pipe.0

  abbrev ahead : ℕ
  ahead = counter_at line.0 (next f.pipes slot.pipe.0)

  -- what is left once the counters have fallen
  settled : (x : Falls) (t : Tables) → t.tokens ≡ f.tables.tokens → (m m' : List ℕ) →
      chosen_of (turned s line.0 (Ok (settled_change f line slot x t))) m' ≡ finished_of (machine_of s m) line.0 (fallen counters x) (t, m')
  unfolding chosen_of answer_of machine_of
  settled x t same m m' = rw at (parts s m m' same refl refl refl)

  -- what follows from the falls
  abbrev by_falls : List ℕ → tables.State → Option Falls → rules.Chosen tables.State
  by_falls m x None = refuse (machine_of s m) 14
  by_falls m x (Some y) = finished_of (machine_of s m) line.0 (fallen counters y) x

  with_falls : (m : List ℕ) (x : tables.State) → finish_with memory_source (machine_of s m) line.0 slot x ≡ by_falls m x both
  unfolding finish_with settle both_of falls_of lowered_of left_of fall machine_of
  with_falls m x =
      by_test (get_or f.serial slot.pipe.0 false)
      (λ b. by_test (eqb (get_or counters beside 0) 0)
      (λ e. rw (b, e))
      (λ e. let left = left_by counters beside ahead (get_or counters beside 0 - 1) e in
      by_test (eqb (if (eqb beside ahead) (get_or counters beside 0 - 1) (get_or counters ahead 0)) 0)
      (λ g. rw (b, e, left, g))
      (λ g. rw (b, e, left, g, at))))
      (λ b. by_test (eqb (get_or counters ahead 0) 0) (λ e. rw (b, e)) (λ e. rw (b, e, at, set-get_or counters ahead 0)))

  module _ (mem : List ℕ) {x : Option Falls} (x_is : x ≡ both) where
    -- what the tables make of the token's finish
    abbrev given : Outcome tables.State
    given = safe_release slot.token.0 (f.tables, mem)

    -- the turn of the line is what the rules make of it
    abbrev Turns : Turn → List ℕ → Type 0
    Turns r mem' = chosen_of (turned s line.0 r) mem' ≡ finish memory_source (machine_of s mem) line.0

    -- the answer of a finish
    abbrev Answers : Answer → Type 0
    Answers a = answer_of a ≡ (finish memory_source (machine_of s mem) line.0).answer

    -- a fall below 0
    low : (o : Outcome tables.State) → x ≡ None → finish_first memory_source (machine_of s mem) line.0 slot o ≡ refuse (machine_of s mem) 14
    unfolding finish_first
    low Broken e = refl
    low (Passed y) e = with_falls mem y ∙ rw (← x_is, e)

    pub finish_low : x ≡ None → Turns (Err Refusal.Spoiled) mem
    unfolding finish machine_of
    finish_low e = refused s Refusal.Spoiled mem refl ∙ by_test (eqb slot.pipe.0 0)
        (λ b. rw (at, b) (sym (low given e)))
        (λ b. rw (at, b) (sym (with_falls mem (f.tables, mem) ∙ rw (← x_is, e))))

    pub would_low : x ≡ None → Answers (Err Refusal.Spoiled)
    unfolding chosen_of
    would_low e = ap (λ c. c.answer) (finish_low e)

    module _ {y : Falls} (fell : x ≡ Some y) where
      counted : (t : Tables) (m : List ℕ) → t.tokens ≡ f.tables.tokens →
          chosen_of (turned s line.0 (Ok (settled_change f line slot y t))) m ≡ finish_with memory_source (machine_of s mem) line.0 slot (t, m)
      counted t m same = settled y t same mem m ∙ sym (with_falls mem (t, m) ∙ rw (← x_is, fell))

      -- past pipe 0
      pub finish_later : {c : Change} → (slot.pipe.0 ≡ 0 → ⊥) → c ≡ settled_change f line slot y f.tables → Turns (Ok c) mem
      unfolding finish machine_of
      finish_later n c_is = rw (c_is, at, ne_eqb slot.pipe.0 0 n) (counted f.tables mem refl)

      pub would_later : {e : Event} → (slot.pipe.0 ≡ 0 → ⊥) → e ≡ finished_event line slot → Answers (Ok e)
      unfolding chosen_of
      would_later n e_is = ap (λ v. answer_of (Ok v)) e_is ∙ ap (λ c. c.answer) (finish_later n refl)

      -- at pipe 0, by whether the tables would let it pass
      module _ (first : slot.pipe.0 ≡ 0) where
        first_is : finish_first memory_source (machine_of s mem) line.0 slot given ≡ finish memory_source (machine_of s mem) line.0
        unfolding finish machine_of
        first_is = rw (at, eq-eqb slot.pipe.0 0 first)

        would_by : (o : Outcome tables.State) → passes o ≡ true →
            answer_of (Ok (finished_event line slot)) ≡ (finish_first memory_source (machine_of s mem) line.0 slot o).answer
        unfolding finish_first answer_of machine_of
        would_by Broken e = let z : ◌≡◌ {A = ℕ} 0 1 = cc in absurd (omega arith)
        would_by (Passed v) e =
            let after : finish_with memory_source (machine_of s mem) line.0 slot v ≡ finished_of (machine_of s mem) line.0 (fallen counters y) v =
            with_falls mem v ∙ rw (← x_is, fell) in
            rw after (rw at)

        would_not : (o : Outcome tables.State) → passes o ≡ false → answer_of (Err Refusal.Spoiled) ≡ (finish_first memory_source (machine_of s mem) line.0 slot o).answer
        unfolding finish_first answer_of
        would_not Broken e = refl
        would_not (Passed v) e = let z : ◌≡◌ {A = ℕ} 0 1 = cc in absurd (omega arith)

        module _ {b : Bool} (told : b ≡ passes given) where
          pub would_pass : {e : Event} → b ≡ true → e ≡ finished_event line slot → Answers (Ok e)
          would_pass h e_is = ap (λ v. answer_of (Ok v)) e_is ∙ would_by given (sym told ∙ h) ∙ ap (λ c. c.answer) first_is

          pub would_broken : b ≡ false → Answers (Err Refusal.Spoiled)
          would_broken h = would_not given (sym told ∙ h) ∙ ap (λ c. c.answer) first_is

        -- at pipe 0, by what the tables made of it
        module _ {a : Result Tables TableError} (told : a ≡ released_of given) {mem' : List ℕ} (left : mem' ≡ released_memory mem given) where
          finish_told : (o : Outcome tables.State) {c : rules.Chosen tables.State} → given ≡ o →
              c ≡ finish_first memory_source (machine_of s mem) line.0 slot o → c ≡ finish memory_source (machine_of s mem) line.0
          unfolding finish machine_of
          finish_told o e h = rw (at, eq-eqb slot.pipe.0 0 first, e) h

          pub finish_broken : {e : TableError} {why : Refusal} → a ≡ Err e → why ≡ Refusal.Spoiled → Turns (Err why) mem'
          unfolding finish_first
          finish_broken h why_is =
              let o = was_broken mem given (sym told ∙ h) in
              ap (λ v. chosen_of (turned s line.0 (Err v)) mem') why_is ∙
              ap (chosen_of (turned s line.0 (Err Refusal.Spoiled))) (left ∙ o.1) ∙
              finish_told Broken o.0 (refused s Refusal.Spoiled mem refl)

          pub finish_passed : {t : Tables} {c : Change} → a ≡ Ok t → c ≡ settled_change f line slot y t → Turns (Ok c) mem'
          unfolding finish_first
          finish_passed {t} h c_is =
              finish_told (Passed (t, released_memory mem given)) (was_passed mem given (sym told ∙ h))
              (rw (c_is, left) (counted t (released_memory mem given) (passed_kept f.tables mem slot.token.0 told h)))
