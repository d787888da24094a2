-- Taking and a token's finish keep N, and what the code's answer says of the outcome.
use mathlib.Core.Path.{◌≡◌, refl, sym, ap, ◌∙◌, subst}
use mathlib.Core.List.{List}
use Prim.Native.Nat.{ℕ, ◌+◌, ◌-◌}
use native.Mathlib.Omega.{arith}
use lib.Dec.{ltb, leb}
use lib.ListN.{length}
use Rattle.std.specs.Prelude.{Option, Some, None, Result, Ok, Err}
use Rattle.rules.specs.Sources.{Taken as Outcome, Spoiled, Nothing, Took, Released as Finish, Broken, Passed}
use Rattle.tables.specs.declared.Tables.{Tables}
use Rattle.tables.specs.declared.Taken.{Taken}
use Rattle.tables.specs.declared.Spoiled.{Spoiled as TableError}
use Rattle.tables.specs.State.{State, sound_of}
use Rattle.tables.specs.Taking.{take_upto, take_ready, take_of, taken, taken_of, taken_memory}
use Rattle.tables.specs.Releasing.{unsound_in, woken_in, moved_tables, release_of, released_of, released_memory}
use Rattle.tables.specs.Calls.{safe_take, safe_release}
use Rattle.rules.proofs.lists.Tests.{by_test}

-- the tables of an outcome are for n tokens
abbrev Keeps : ℕ → Outcome State → Type 0
Keeps n Spoiled = Unit {0}
Keeps n (Nothing x) = x.0.tokens ≡ n
Keeps n (Took t x) = x.0.tokens ≡ n

abbrev Leaves : ℕ → Finish State → Type 0
Leaves n Broken = Unit {0}
Leaves n (Passed x) = x.0.tokens ≡ n

module _ (t : Tables) (m : List ℕ) where
  ready_keeps : (token : ℕ) → Keeps t.tokens (take_ready t m token)
  unfolding take_ready
  ready_keeps token = by_test (ltb token t.tokens) (λ e. rw e refl) (λ e. rw e tt)

  upto_keeps : (x : Result ℕ TableError) → Keeps t.tokens (take_upto t m x)
  unfolding take_upto
  upto_keeps (Err e) = tt
  upto_keeps (Ok upto) =
      by_test (leb (t.held + (upto - t.count)) 4096)
      (λ e. by_test (ltb upto t.tokens) (λ f. rw (e, f) refl) (λ f. rw (e, f) refl))
      (λ e. rw e tt)

  take_keeps : Keeps t.tokens (safe_take (t, m))
  unfolding safe_take take_of
  take_keeps =
      by_test (sound_of (t, m))
      (λ e. by_test (ltb t.first t.end) (λ f. rw (e, f) (ready_keeps _)) (λ f. rw (e, f) (upto_keeps _)))
      (λ e. rw e tt)

  release_keeps : (d : ℕ) → Leaves t.tokens (safe_release d (t, m))
  unfolding safe_release release_of moved_tables
  release_keeps d =
      by_test (sound_of (t, m))
      (λ e. by_test (leb t.tokens d) (λ f. rw (e, f) tt)
      (λ f. by_test (unsound_in t d m) (λ g. rw (e, f, g) tt)
      (λ g. by_test (leb (t.end + length (woken_in t d m)) 4096) (λ h. rw (e, f, g, h) refl) (λ h. rw (e, f, g, h) tt))))
      (λ e. rw e tt)

-- the outcome, by the code's answer and memory
module _ (m : List ℕ) where
  pub was_spoiled : (o : Outcome State) {e : TableError} → taken_of o ≡ Err e → (o ≡ Spoiled) × (taken_memory m o ≡ m)
  unfolding taken_of taken_memory
  was_spoiled Spoiled h = (refl, refl)
  was_spoiled (Nothing x) h = let z : ◌≡◌ {A = ℕ} 0 1 = cc in absurd (omega arith)
  was_spoiled (Took k x) h = let z : ◌≡◌ {A = ℕ} 0 1 = cc in absurd (omega arith)

  pub was_nothing : (o : Outcome State) {y : Taken} → taken_of o ≡ Ok y → y.token ≡ None → o ≡ Nothing (y.tables, taken_memory m o)
  unfolding taken_of taken_memory
  was_nothing Spoiled h none = let z : ◌≡◌ {A = ℕ} 0 1 = cc in absurd (omega arith)
  was_nothing (Nothing x) {y} h none = let same : taken None x.0 ≡ y = cc in λ i. Nothing ((same i).tables, x.1)
  was_nothing (Took k x) {y} h none =
      let same : taken (Some k) x.0 ≡ y = cc in
      let both : ◌≡◌ {A = Option ℕ} (Some k) None = ap (λ v. v.token) same ∙ none in
      let z : ◌≡◌ {A = ℕ} 0 1 = cc in absurd (omega arith)

  pub was_took : (o : Outcome State) {y : Taken} {k : ℕ} → taken_of o ≡ Ok y → y.token ≡ Some k → o ≡ Took k (y.tables, taken_memory m o)
  unfolding taken_of taken_memory
  was_took Spoiled h some = let z : ◌≡◌ {A = ℕ} 0 1 = cc in absurd (omega arith)
  was_took (Nothing x) {y} h some =
      let same : taken None x.0 ≡ y = cc in
      let both : ◌≡◌ {A = Option ℕ} None (Some _) = ap (λ v. v.token) same ∙ some in
      let z : ◌≡◌ {A = ℕ} 0 1 = cc in absurd (omega arith)
  was_took (Took j x) {y} {k} h some =
      let same : taken (Some j) x.0 ≡ y = cc in
      let both : ◌≡◌ {A = Option ℕ} (Some j) (Some k) = ap (λ v. v.token) same ∙ some in
      let j_is : j ≡ k = cc in
      λ i. Took (j_is i) ((same i).tables, x.1)

  pub was_broken : (o : Finish State) {e : TableError} → released_of o ≡ Err e → (o ≡ Broken) × (released_memory m o ≡ m)
  unfolding released_of released_memory
  was_broken Broken h = (refl, refl)
  was_broken (Passed x) h = let z : ◌≡◌ {A = ℕ} 0 1 = cc in absurd (omega arith)

  pub was_passed : (o : Finish State) {t : Tables} → released_of o ≡ Ok t → o ≡ Passed (t, released_memory m o)
  unfolding released_of released_memory
  was_passed Broken h = let z : ◌≡◌ {A = ℕ} 0 1 = cc in absurd (omega arith)
  was_passed (Passed x) {t} h = let x_is : x.0 ≡ t = cc in λ i. Passed (x_is i, x.1)

-- so the code's answer has tables for the same N
module _ (t : Tables) (m : List ℕ) where
  pub nothing_kept : {a : Result Taken TableError} {y : Taken} → a ≡ taken_of (safe_take (t, m)) → a ≡ Ok y → y.token ≡ None → y.tables.tokens ≡ t.tokens
  nothing_kept told h none = subst (Keeps t.tokens) (was_nothing m (safe_take (t, m)) (sym told ∙ h) none) (take_keeps t m)

  pub took_kept : {a : Result Taken TableError} {y : Taken} {k : ℕ} → a ≡ taken_of (safe_take (t, m)) → a ≡ Ok y → y.token ≡ Some k → y.tables.tokens ≡ t.tokens
  took_kept told h some = subst (Keeps t.tokens) (was_took m (safe_take (t, m)) (sym told ∙ h) some) (take_keeps t m)

  pub passed_kept : (d : ℕ) {a : Result Tables TableError} {t' : Tables} → a ≡ released_of (safe_release d (t, m)) → a ≡ Ok t' → t'.tokens ≡ t.tokens
  passed_kept d told h = subst (Leaves t.tokens) (was_passed m (safe_release d (t, m)) (sym told ∙ h)) (release_keeps t m d)
