-- A token below N stays deferred exactly if a chain of deferrals from it meets a cycle or a number that never enters (01).
use mathlib.Core.Path.{◌≡◌, refl, sym, ap, subst, ◌∙◌}
use mathlib.Core.Bool.{true, false, not}
use mathlib.Core.List.{List, [], ◌∷◌}
use mathlib.Core.Logic.{◌⊎◌, inl, inr, ◌↔◌, by_cases}
use Prim.Native.Nat.{ℕ, zero, suc, ◌≤◌, ◌<◌}
use native.Mathlib.Omega.{arith}
use native.Mathlib.Decide.{dec_lt, ℕ_discrete}
use lib.ListN.{length, get_or}
use Rattle.rules.specs.Lists.{has, times}
use Rattle.rules.specs.PlainSheet.{sheet, staying}
use Rattle.rules.specs.Chains.{Chain, stop, step, MeetsCycle, MeetsAbsent, Blocked}
use Rattle.rules.proofs.lists.Tests.{by_test}
use Rattle.rules.proofs.lists.Counting.{members, same_number, has_head, has_tail}
use Rattle.rules.proofs.lists.Pigeonhole.{pigeonhole}
use Rattle.rules.proofs.lists.Places.{place_of, at_place, at_two_places}
use Rattle.rules.proofs.sheet.PlainSheet.{once, sheet_distinct, staying_below, stays_or_written, sheet_order, waits_for}

module _ (tokens : ℕ) (numbers : ℕ → List ℕ) (others : (n : ℕ) → has (numbers n) n ≡ false) where
  -- what following a deferred token for some steps finds: a number that never enters, or so many tokens below N
  data Followed (steps n : ℕ) : Type 0 where
    absent : {l : List ℕ} → Chain numbers n l → MeetsAbsent tokens l → Followed steps n
    within : {l : List ℕ} → Chain numbers n l → length l ≡ suc steps → ((k : ℕ) → tokens ≤ k → times k l ≡ 0) → Followed steps n

  follow : (steps n : ℕ) → has (staying tokens numbers) n ≡ true → Followed steps n
  unfolding times
  follow zero n h = within stop refl (λ k big. omega (arith, same_number n k, staying_below tokens numbers others n h))
  follow (suc steps) n h =
      let (m, listed, unwritten) = waits_for tokens numbers others n h in
      by_cases (dec_lt m tokens)
      (λ small. longer m listed (follow steps m (stays_or_written tokens numbers others m small ∙ ap not unwritten)))
      (λ big. absent (step listed stop) (m, has_tail n (m ∷ []) m (has_head m []), omega arith))
    where
      longer : (m : ℕ) → has (numbers n) m ≡ true → Followed steps m → Followed (suc steps) n
      longer m listed (absent {l} c (k, met, big)) = absent (step listed c) (k, has_tail n l k met, big)
      longer m listed (within c long small) = within (step listed c) (ap suc long)
          (λ k big. omega (arith, same_number n k, small k big, staying_below tokens numbers others n h))

  -- a token that stays deferred is blocked: among N + 1 tokens below N, one comes twice
  blocked : (n : ℕ) → has (staying tokens numbers) n ≡ true → Blocked tokens numbers n
  blocked n h = go (follow tokens n h)
    where
      go : Followed tokens n → Blocked tokens numbers n
      go (absent {l} c met) = (l, c, inr met)
      go (within {l} c long small) = (l, c, inl (pigeonhole tokens l small (omega arith)))

  -- along a chain from the k-th token of the sheet the places fall: each number has a place up to k, and comes once
  record Falls (k : ℕ) (l : List ℕ) : Type 0 where
    placed : (m : ℕ) → has l m ≡ true → (j : ℕ) × (j ≤ k) × (get_or (sheet tokens numbers) j 0 ≡ m)
    single : (m : ℕ) → times m l ≤ 1

  falls_step : {n j k : ℕ} {l : List ℕ} → k < length (sheet tokens numbers) → get_or (sheet tokens numbers) k 0 ≡ n →
      j < k → Falls j l → Falls k (n ∷ l)
  unfolding times
  falls_step {n} {j} {k} {l} h at before f = record {
    placed = λ m e. by_cases (ℕ_discrete n m)
        (λ same. (k, omega arith, at ∙ same))
        (λ other. let (i, low, at) = f.placed m (omega (members, same_number n m)) in (i, omega arith, at));
    single = λ m. by_cases (ℕ_discrete n m)
        (λ same. subst (λ (x : ℕ). times x (n ∷ l) ≤ 1) same (omega (arith, fresh, same_number n n)))
        (λ other. omega (arith, f.single m, same_number n m));
  }
    where
      -- what has a place below k is not the k-th token
      fresh : times n l ≡ 0
      fresh = by_test (has l n)
          (λ e.
          let (i, low, at') = f.placed n e in
          absurd (omega (
            arith,
            at_two_places (sheet tokens numbers) i k (omega arith) h (at' ∙ sym at),
            sheet_distinct tokens numbers others (get_or (sheet tokens numbers) k 0),
          )))
          (λ e. omega members)

  falls : {n : ℕ} {l : List ℕ} → Chain numbers n l → (k : ℕ) → k < length (sheet tokens numbers) → get_or (sheet tokens numbers) k 0 ≡ n → Falls k l
  unfolding times
  falls (stop {n}) k h at = record {
    placed = λ m e. (k, omega arith, at ∙ omega (members, same_number n m));
    single = λ m. omega (arith, same_number n m);
  }
  falls (step {n} {m} {l} listed c) k h at =
      let (j, before, at') = sheet_order tokens numbers others k h m (rw at listed) in
      falls_step h at before (falls c j (omega arith) at')

  -- a token of the sheet is not blocked
  not_blocked : (n : ℕ) → has (sheet tokens numbers) n ≡ true → Blocked tokens numbers n → ⊥
  not_blocked n e (l, c, met) =
      let (k, h, at) = place_of (sheet tokens numbers) n e in
      go k h (falls c k h at) met
    where
      go : (k : ℕ) → k < length (sheet tokens numbers) → Falls k l → MeetsCycle l ⊎ MeetsAbsent tokens l → ⊥
      go k h f (inl (m, twice)) = omega (arith, f.single m)
      go k h f (inr (m, met, big)) =
          let (j, low, at) = f.placed m met in
          omega (arith, once tokens numbers others m, rw at at (at_place (sheet tokens numbers) j (omega arith)))

  -- a token below N stays deferred exactly if it is blocked
  pub stays_iff_blocked : (n : ℕ) → n < tokens → (has (staying tokens numbers) n ≡ true) ↔ Blocked tokens numbers n
  stays_iff_blocked n h = (
    blocked n,
    λ b. by_test (has (sheet tokens numbers) n)
        (λ e. absurd (not_blocked n e b))
        (λ e. stays_or_written tokens numbers others n h ∙ ap not e),
  )
