-- A start, case by case, as the code meets it.
use mathlib.Core.Path.{◌≡◌, refl, sym, ap, ◌∙◌}
use mathlib.Core.Bool.{Bool, true, false}
use mathlib.Core.List.{List, [], ◌∷◌}
use Prim.Native.Nat.{ℕ, zero, suc, ◌<◌, ◌≤◌}
use native.Mathlib.Omega.{arith}
use native.Mathlib.Numerals.{add-one}
use borrow.Author.Tests.{lt-ltb, le-ltb, ltb-true, eq-eqb, ne_eqb}
use lib.Dec.{ltb}
use lib.ListN.{set}
use Rattle.std.specs.Prelude.{Option, Some, None, is_some, Result, Ok, Err}
use Rattle.rules.specs.Lists.{if}
use Rattle.vocabulary.specs.declared.Line.{Line}
use Rattle.vocabulary.specs.declared.Worker.{Worker}
use Rattle.vocabulary.specs.declared.Slot.{Slot}
use Rattle.vocabulary.specs.declared.Slots.{Slots}
use Rattle.vocabulary.specs.declared.event.Event.{Event}
use Rattle.vocabulary.specs.declared.event.Step.{Step}
use Rattle.vocabulary.specs.declared.refusal.Refusal.{Refusal}
use Rattle.rules.specs.RunState.{Machine, slot_at, put_slot, counter_at}
use Rattle.rules.specs.Sources.{Taken as Outcome, Spoiled, Nothing, Took}
use Rattle.rules.specs.Choices.{refuse, start_first, start_later, start}
use Rattle.rules.specs.Choices as rules
use Rattle.rules.specs.Answers.{answer_of}
use Rattle.rules.proofs.lists.Tests.{by_test}
use Rattle.rules.proofs.lists.SlotRows.{put_own}
use Rattle.tables.specs.declared.Tables.{Tables}
use Rattle.tables.specs.declared.Taken.{Taken}
use Rattle.tables.specs.declared.Spoiled.{Spoiled as TableError}
use Rattle.tables.specs.State as tables
use Rattle.tables.specs.Taking.{taken_of, taken_memory, offered_of}
use Rattle.tables.specs.Calls.{safe_take, memory_source}
use Rattle.state.specs.declared.State.{State}
use Rattle.state.specs.declared.Figures.{Figures}
use Rattle.engine.specs.declared.turn.Change.{Change}
use Rattle.state.specs.Machines.{machine_of}
use Rattle.engine.specs.Machines.{chosen_of}
use Rattle.state.specs.Machines.{whole}
use Rattle.engine.specs.Turns.{Turn, Answer, turned}
use Rattle.engine.specs.Moves.{is_took, overfull_of, step_of, refilled, started_change, taken_change, stopped_change}
use Rattle.engine.proofs.moves.Parts.{parts, refused}
use Rattle.engine.proofs.moves.Kept.{was_spoiled, was_nothing, was_took, nothing_kept, took_kept}

-- whether a token is offered
abbrev is_token : Result (Option ℕ) TableError → Bool
is_token (Err e) = false
is_token (Ok token) = is_some token

token_took : (o : Outcome tables.State) → is_token (offered_of o) ≡ is_took o
unfolding offered_of
token_took Spoiled = refl
token_took (Nothing x) = refl
token_took (Took k x) = refl

-- whether a token would be taken with no place left
module _ (f : Figures) (mem : List ℕ) where
  pub overfull_no : f.placed < f.tables.tokens → false ≡ overfull_of f mem
  unfolding overfull_of
  overfull_no h = rw (lt-ltb f.placed f.tables.tokens h)

  pub overfull_by : {a v : Result (Option ℕ) TableError} → f.tables.tokens ≤ f.placed → a ≡ offered_of (safe_take (f.tables, mem)) → a ≡ v → is_token v ≡ overfull_of f mem
  unfolding overfull_of
  overfull_by h told e = rw (le-ltb f.placed f.tables.tokens h) (ap is_token (sym e ∙ told) ∙ token_took (safe_take (f.tables, mem)))

  -- where not, a token that was taken has a place
  under : (o : Outcome tables.State) {k : ℕ} {x : tables.State} → if (ltb f.placed f.tables.tokens) false (is_took o) ≡ false → o ≡ Took k x →
      f.placed < f.tables.tokens
  under o e g = by_test (ltb f.placed f.tables.tokens)
      (λ b. ltb-true f.placed f.tables.tokens b)
      (λ b. let z : ◌≡◌ {A = ℕ} 0 1 = cc (rw (b, g) at e) in absurd (omega arith))

  pub took_room : {b : Bool} {a : Result Taken TableError} {y : Taken} {k : ℕ} → b ≡ overfull_of f mem → b ≡ false →
      a ≡ taken_of (safe_take (f.tables, mem)) → a ≡ Ok y → y.token ≡ Some k → f.placed < f.tables.tokens
  unfolding overfull_of
  took_room b_is below told h some = under (safe_take (f.tables, mem)) (sym b_is ∙ below) (was_took mem (safe_take (f.tables, mem)) (sym told ∙ h) some)

-- a number written twice
written_twice : (c : List ℕ) (i v : ℕ) → set (set c i v) i v ≡ set c i v
written_twice [] i v = refl
written_twice (x ∷ c) zero v = refl
written_twice (x ∷ c) (suc i) v = ap (λ (r : List ℕ). x ∷ r) (written_twice c i v)

module _ (f : Figures) (counters : List ℕ) (slots : Slots) (worker : Worker) (line : Line) where
  abbrev s : State
  s = whole f counters slots

  -- a counter that is full again
  full_again : (p : ℕ) → set (set counters (counter_at line.0 p) (refilled f line.0 p).value) (counter_at line.0 p) (refilled f line.0 p).value ≡
      set counters (counter_at line.0 p) (refilled f line.0 p).value
  full_again p = written_twice counters (counter_at line.0 p) (refilled f line.0 p).value

  -- a start at the pipe of a slot, with its token and place
  started : (slot : Slot) (m : List ℕ) →
      chosen_of (turned s line.0 (Ok (started_change f worker line slot))) m ≡ start_later memory_source (machine_of s m) worker.0 line.0 slot
  unfolding chosen_of answer_of start_later machine_of
  started slot m = parts s m m refl (full_again slot.pipe.0) refl refl

  -- a start with a token that was taken
  taken : (t : Tables) (token : ℕ) → t.tokens ≡ f.tables.tokens → f.placed < f.tables.tokens → (m m' : List ℕ) →
      chosen_of (turned s line.0 (Ok (taken_change f worker line token t))) m' ≡ start_first memory_source (machine_of s m) worker.0 line.0 (Took token (t, m'))
  unfolding chosen_of answer_of start_first machine_of
  taken t token same room m m' =
      rw (lt-ltb f.placed f.tables.tokens room) (parts s m m' same (full_again 0) refl (add-one f.placed))

  module _ (slot : Slot) (at : slot_at slots line.0 ≡ slot) where
    -- a stop
    stopped : (t : Tables) → t.tokens ≡ f.tables.tokens → (m m' : List ℕ) →
        chosen_of (turned s line.0 (Ok (stopped_change f worker line slot t))) m' ≡ start_first memory_source (machine_of s m) worker.0 line.0 (Nothing (t, m'))
    unfolding chosen_of answer_of start_first machine_of
    stopped t same m m' =
        parts s m m' same (full_again 0) (ap (put_slot slots line.0) (sym at) ∙ put_own slots line.0) refl

    -- a token that no place is left for is refused
    over : (m : List ℕ) (o : Outcome tables.State) → if (ltb f.placed f.tables.tokens) false (is_took o) ≡ true →
        refuse (machine_of s m) 14 ≡ start_first memory_source (machine_of s m) worker.0 line.0 o
    unfolding start_first machine_of
    over m Spoiled e = refl
    over m (Nothing x) e = by_test (ltb f.placed f.tables.tokens)
        (λ b. let z : ◌≡◌ {A = ℕ} 0 1 = cc (rw b at e) in absurd (omega arith))
        (λ b. let z : ◌≡◌ {A = ℕ} 0 1 = cc (rw b at e) in absurd (omega arith))
    over m (Took k x) e = by_test (ltb f.placed f.tables.tokens)
        (λ b. let z : ◌≡◌ {A = ℕ} 0 1 = cc (rw b at e) in absurd (omega arith))
        (λ b. rw b)

    module _ (mem : List ℕ) where
      -- what the tables give
      abbrev given : Outcome tables.State
      given = safe_take (f.tables, mem)

      abbrev First : Turn → List ℕ → Type 0
      First r mem' = chosen_of (turned s line.0 r) mem' ≡ start_first memory_source (machine_of s mem) worker.0 line.0 given

      pub first_overfull : {b : Bool} → b ≡ overfull_of f mem → b ≡ true → First (Err Refusal.Spoiled) mem
      unfolding overfull_of
      first_overfull told e = refused s Refusal.Spoiled mem refl ∙ over mem given (sym told ∙ e)

      -- the start with what is given, as it was told
      from : {o : Outcome tables.State} {c : rules.Chosen tables.State} → given ≡ o → c ≡ start_first memory_source (machine_of s mem) worker.0 line.0 o →
          c ≡ start_first memory_source (machine_of s mem) worker.0 line.0 given
      from e h = h ∙ ap (start_first memory_source (machine_of s mem) worker.0 line.0) (sym e)

      module _ {a : Result Taken TableError} (told : a ≡ taken_of given) {mem' : List ℕ} (left : mem' ≡ taken_memory mem given) where
        pub first_spoiled : {e : TableError} {why : Refusal} → a ≡ Err e → why ≡ Refusal.Spoiled → First (Err why) mem'
        unfolding start_first
        first_spoiled h why_is =
            let o = was_spoiled mem given (sym told ∙ h) in
            ap (λ v. chosen_of (turned s line.0 (Err v)) mem') why_is ∙
            ap (chosen_of (turned s line.0 (Err Refusal.Spoiled))) (left ∙ o.1) ∙ from o.0 (refused s Refusal.Spoiled mem refl)

        module _ {y : Taken} (h : a ≡ Ok y) where
          pub first_nothing : {c : Change} → y.token ≡ None → c ≡ stopped_change f worker line slot y.tables → First (Ok c) mem'
          first_nothing none c_is =
              from (was_nothing mem given (sym told ∙ h) none)
              (rw (c_is, left) (stopped y.tables (nothing_kept f.tables mem told h none) mem (taken_memory mem given)))

          pub first_took : {k : ℕ} {c : Change} → y.token ≡ Some k → f.placed < f.tables.tokens →
              c ≡ taken_change f worker line k y.tables → First (Ok c) mem'
          first_took {k} some room c_is =
              from (was_took mem given (sym told ∙ h) some)
              (rw (c_is, left) (taken y.tables k (took_kept f.tables mem told h some) room mem (taken_memory mem given)))

      -- at pipe 0, and later
      pub start_first_lem : {c : rules.Chosen tables.State} → slot.pipe.0 ≡ 0 → c ≡ start_first memory_source (machine_of s mem) worker.0 line.0 given →
          c ≡ start memory_source (machine_of s mem) worker.0 line.0
      unfolding start machine_of
      start_first_lem e h = rw (at, eq-eqb slot.pipe.0 0 e) h

      pub start_later_lem : {c : Change} → (slot.pipe.0 ≡ 0 → ⊥) → c ≡ started_change f worker line slot →
          chosen_of (turned s line.0 (Ok c)) mem ≡ start memory_source (machine_of s mem) worker.0 line.0
      unfolding start machine_of
      start_later_lem n c_is = rw (c_is, at, ne_eqb slot.pipe.0 0 n) (started slot mem)

-- what a start would answer
module _ (f : Figures) (counters : List ℕ) (slots : Slots) (worker : Worker) (line : Line) (mem : List ℕ) where
  abbrev machine : Machine tables.State
  machine = machine_of (whole f counters slots) mem

  -- at pipe 0, by what the tables would give
  abbrev FirstAnswers : Outcome tables.State → rules.Answer → Type 0
  FirstAnswers o a = a ≡ (start_first memory_source machine worker.0 line.0 o).answer

  by_spoiled : (o : Outcome tables.State) {e : TableError} → offered_of o ≡ Err e → FirstAnswers o (rules.Refused 14)
  unfolding offered_of start_first
  by_spoiled Spoiled h = refl
  by_spoiled (Nothing x) h = let z : ◌≡◌ {A = ℕ} 0 1 = cc in absurd (omega arith)
  by_spoiled (Took k x) h = let z : ◌≡◌ {A = ℕ} 0 1 = cc in absurd (omega arith)

  by_nothing : (o : Outcome tables.State) → offered_of o ≡ Ok None → FirstAnswers o (rules.Stopped line.0 worker.0)
  unfolding offered_of start_first
  by_nothing Spoiled h = let z : ◌≡◌ {A = ℕ} 0 1 = cc in absurd (omega arith)
  by_nothing (Nothing x) h = refl
  by_nothing (Took k x) h = let z : ◌≡◌ {A = ℕ} 0 1 = cc in absurd (omega arith)

  by_token : (o : Outcome tables.State) {k : ℕ} → offered_of o ≡ Ok (Some k) →
      FirstAnswers o (if (ltb f.placed f.tables.tokens) (rules.Started line.0 0 k f.placed worker.0) (rules.Refused 14))
  unfolding offered_of start_first machine_of
  by_token Spoiled h = let z : ◌≡◌ {A = ℕ} 0 1 = cc in absurd (omega arith)
  by_token (Nothing x) h = let z : ◌≡◌ {A = ℕ} 0 1 = cc in absurd (omega arith)
  by_token (Took j x) {k} h =
      let same : j ≡ k = cc in
      by_test (ltb f.placed f.tables.tokens) (λ b. rw (b, same)) (λ b. rw b)

  module _ {a : Result (Option ℕ) TableError} (told : a ≡ offered_of (safe_take (f.tables, mem))) where
    abbrev Answers : Answer → Type 0
    Answers r = answer_of r ≡ (start_first memory_source machine worker.0 line.0 (safe_take (f.tables, mem))).answer

    pub would_spoiled : {e : TableError} {why : Refusal} → a ≡ Err e → why ≡ Refusal.Spoiled → Answers (Err why)
    unfolding answer_of
    would_spoiled h why_is = rw why_is (by_spoiled (safe_take (f.tables, mem)) (sym told ∙ h))

    module _ {v : Option ℕ} (h : a ≡ Ok v) where
      pub would_stop : v ≡ None → Answers (Ok (Event.Stopped (record { line = line; worker = worker })))
      unfolding answer_of
      would_stop none = by_nothing (safe_take (f.tables, mem)) (sym told ∙ h ∙ ap Ok none)

      module _ {k : ℕ} (some : v ≡ Some k) where
        pub would_overfill : f.tables.tokens ≤ f.placed → Answers (Err Refusal.Spoiled)
        unfolding answer_of
        would_overfill full =
            let t = by_token (safe_take (f.tables, mem)) (sym told ∙ h ∙ ap Ok some) in rw (le-ltb f.placed f.tables.tokens full) at t

        pub would_take : f.placed < f.tables.tokens →
            Answers (Ok (Event.Started (record { line = line; pipe = record { 0 = 0 }; token = record { 0 = k }; place = record { 0 = f.placed }; worker = worker })))
        unfolding answer_of
        would_take room =
            let t = by_token (safe_take (f.tables, mem)) (sym told ∙ h ∙ ap Ok some) in rw (lt-ltb f.placed f.tables.tokens room) at t

  -- at pipe 0, and later
  module _ (slot : Slot) (at : slot_at slots line.0 ≡ slot) where
    pub would_first : (r : Answer) → slot.pipe.0 ≡ 0 → answer_of r ≡ (start_first memory_source machine worker.0 line.0 (safe_take (f.tables, mem))).answer →
        answer_of r ≡ (start memory_source machine worker.0 line.0).answer
    would_first r e h = h ∙ ap (λ c. c.answer) (start_first_lem f counters slots worker line slot at mem e refl)

    pub would_later : {step : Step} → (slot.pipe.0 ≡ 0 → ⊥) → step ≡ step_of line slot worker →
        answer_of (Ok (Event.Started step)) ≡ (start memory_source machine worker.0 line.0).answer
    unfolding chosen_of
    would_later n step_is = ap (λ e. answer_of (Ok (Event.Started e))) step_is ∙ ap (λ c. c.answer) (start_later_lem f counters slots worker line slot at mem n refl)
