-- The slots, line by line: whether each is within its range, and whether a worker runs one.
use mathlib.Core.Path.{◌≡◌, refl, sym}
use mathlib.Core.Bool.{Bool, true, false, not, true≢false}
use mathlib.Core.List.{[], ◌∷◌}
use mathlib.Core.Logic.{by_cases}
use Prim.Native.Nat.{ℕ, zero, suc, ◌+◌, ◌<◌, ◌≤◌, max}
use native.Mathlib.Omega.{arith}
use native.Mathlib.Numerals.{add-one}
use native.Mathlib.Decide.{ℕ_discrete}
use borrow.Author.Tests.{eq-eqb, lt-ltb, le-ltb}
use lib.Dec.{ltb, eqb}
use Rattle.rules.specs.Lists.{if, all, every}
use Rattle.vocabulary.specs.declared.Slot.{Slot}
use Rattle.vocabulary.specs.declared.Slots.{Slots}
use Rattle.rules.specs.RunState.{slot_at}
use Rattle.rules.specs.Choices.{run_by, at_work}
use Rattle.rules.specs.Ranges.{is_idle, is_loaded, worker_sound, slot_sound}
use Rattle.rules.proofs.lists.Holding.{first_holds, rest_hold}
use Rattle.rules.proofs.lists.Tests.{by_test, same, other, same_as, lower, upper, below, if_same, pos_eqb}
use Rattle.ranges.specs.RangeParts.{found_of}
use Rattle.ranges.proofs.in_range.Highest.{max_ltb, max_none}

module _ (slot : Slot) where
  -- an idle slot does not run
  idle_rests : is_idle slot ≡ true → slot.running ≡ false
  unfolding is_idle
  idle_rests e = by_test slot.running (λ r. absurd (true≢false (sym (rw r at e)))) (λ r. r)

-- the tests of a loaded slot, in another order
any_order : (used a b c : Bool) →
    if a (if used (if b c false) false) false ≡ if used (if (if a (if b (if c true false) false) false) true false) false
any_order true true true true = refl
any_order true true true false = refl
any_order true true false c = refl
any_order true false b c = refl
any_order false a b c = if_same a false

-- and those of one that holds nothing
nothing_held : (used a b : Bool) → if a b false ≡ if (if a (if b true false) false) true (if used false false)
nothing_held used true true = refl
nothing_held used true false = sym (if_same used false)
nothing_held used false b = sym (if_same used false)

-- a number below its bound, or 0 where there is none: one comparison, with the bound or with 1
pub limit_is : (holds : Bool) (held bound : ℕ) → ltb held (if holds bound 1) ≡ if holds (ltb held bound) (eqb held 0)
limit_is true held bound = refl
limit_is false held bound = elim (same_as held 0) [
  | same e t ↦ rw (t, lt-ltb held 1 (omega arith))
  | other n t ↦ rw (t, le-ltb held 1 (omega arith))
]

-- the code's test of one slot is that of the rules
module _ (s : Slot) (used : Bool) (pipes tokens : ℕ) where
  abbrev held : ℕ
  held = max s.token.0 s.place.0

  abbrev bound : ℕ
  bound = if used tokens 0

  -- what the code asks
  abbrev asked : Bool
  asked = if (ltb s.pipe.0 pipes) (if (if s.running true (ltb 0 s.pipe.0)) (ltb held bound) (eqb held 0)) false

  below_bound : ltb held bound ≡ if used (if (ltb s.token.0 tokens) (ltb s.place.0 tokens) false) false
  below_bound = by_test used
      (λ u. rw u (max_ltb tokens s.token.0 s.place.0))
      (λ u. rw u (le-ltb held 0 (omega arith)))

  loaded_is : is_idle s ≡ false → if s.running true (ltb 0 s.pipe.0) ≡ true →
      asked ≡ if (is_idle s) true (all (used ∷ is_loaded pipes tokens s ∷ []))
  unfolding is_loaded
  loaded_is i e = rw (i, e, below_bound) (any_order used (ltb s.pipe.0 pipes) (ltb s.token.0 tokens) (ltb s.place.0 tokens))

  runs_not_idle : s.running ≡ true → is_idle s ≡ false
  unfolding is_idle
  runs_not_idle r = rw r

  past_not_idle : 0 < s.pipe.0 → is_idle s ≡ false
  unfolding is_idle
  past_not_idle h = rw (pos_eqb h) (if_same (not s.running) false)

  waits_first : 1 ≤ pipes → s.running ≡ false → s.pipe.0 ≡ 0 → ltb 0 s.pipe.0 ≡ false →
      asked ≡ if (is_idle s) true (all (used ∷ is_loaded pipes tokens s ∷ []))
  unfolding is_idle is_loaded
  waits_first some r z t =
      rw (r, t, eq-eqb s.pipe.0 0 z, lt-ltb s.pipe.0 pipes (omega arith), max_none s.token.0 s.place.0)
      (nothing_held used (eqb s.token.0 0) (eqb s.place.0 0))

  pub slot_is : 1 ≤ pipes → asked ≡ if (is_idle s) true (all (used ∷ is_loaded pipes tokens s ∷ []))
  slot_is some = by_test s.running
      (λ r. loaded_is (runs_not_idle r) (rw r))
      (λ r. elim (below 0 s.pipe.0) [
        | lower h t ↦ loaded_is (past_not_idle h) (rw (r, t))
        | upper h t ↦ let first : s.pipe.0 ≡ 0 = omega arith in waits_first some r first t
      ])

-- and so is its test of a slot's worker
pub worker_is : (workers : ℕ) (s : Slot) → if s.running (ltb s.worker.0 workers) (eqb s.worker.0 0) ≡ worker_sound workers s
unfolding worker_sound
worker_is workers s = refl

module _ (slots : Slots) (worker : ℕ) where
  -- the walk, at its start and one slot more
  pub works_none : false ≡ at_work slots worker 0
  unfolding at_work
  works_none = refl

  pub works_more : (n : ℕ) {here before : Bool} → here ≡ run_by worker (slot_at slots n) → before ≡ at_work slots worker n →
      if here true before ≡ at_work slots worker (n + 1)
  unfolding at_work
  works_more n h b = rw (add-one n, h, b)

  module _ (pipes lines tokens workers : ℕ) where
    -- a line that the plan does not have is idle
    spare_idle : (l : ℕ) → lines ≤ l → slot_sound pipes lines tokens workers slots l ≡ true → is_idle (slot_at slots l) ≡ true
    unfolding slot_sound
    spare_idle l h e = by_test (is_idle (slot_at slots l))
        (λ i. i)
        (λ i. absurd (true≢false (sym (rw (i, le-ltb l lines h) at (rest_hold (worker_sound workers (slot_at slots l)) _ e)))))

    -- so a worker runs none but the plan's lines
    pub works_all : (n : ℕ) → lines ≤ n → every n (slot_sound pipes lines tokens workers slots) ≡ true → at_work slots worker n ≡ at_work slots worker lines
    unfolding every at_work
    works_all zero h e = let none : lines ≡ 0 = omega arith in rw none
    works_all (suc n) h e = by_cases (ℕ_discrete lines (suc n))
        (λ same. rw same)
        (λ less.
        let rests : (slot_at slots n).running ≡ false =
        idle_rests (slot_at slots n) (spare_idle n (omega arith) (first_holds (slot_sound pipes lines tokens workers slots n) _ e)) in
        rw rests (works_all n (omega arith) (rest_hold (slot_sound pipes lines tokens workers slots n) _ e)))

    -- the walk is at its end
    pub found_is : {n : ℕ} {sound busy : Bool} → n ≡ 32 → sound ≡ every n (slot_sound pipes lines tokens workers slots) → busy ≡ at_work slots worker n →
        record { sound = sound; busy = busy } ≡ found_of slots pipes lines tokens workers worker
    unfolding found_of
    found_is n-is s b = rw (s, b, n-is)
