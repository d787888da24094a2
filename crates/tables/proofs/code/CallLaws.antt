-- The definitions of specs/Calls, by the tests of the ranges.
use mathlib.Core.Path.{◌≡◌, refl, sym, ◌∙◌}
use mathlib.Core.Bool.{Bool, true, false}
use mathlib.Core.List.{List}
use Prim.Native.Nat.{ℕ, ◌<◌, ◌≤◌}
use lib.ListN.{length, take}
use borrow.Author.Tests.{le-leb, lt-ltb}
use Rattle.std.specs.Prelude.{Option, Result, Err}
use Rattle.rules.specs.Sources.{Spoiled}
use Rattle.tables.specs.declared.Tables.{Tables}
use Rattle.tables.specs.declared.Taken.{Taken}
use Rattle.tables.specs.declared.Spoiled.{Spoiled as TableError}
use Rattle.tables.specs.Facts.{spoiled, new_hold, left_hold}
use Rattle.tables.specs.State.{InRange, sound_of}
use Rattle.tables.specs.Taking.{take_of, taken_of, taken_memory, offered_of}
use Rattle.tables.specs.Releasing.{release_of, released_of, released_memory, passes}
use Rattle.tables.specs.Calls.{safe_new_hold, safe_left_hold, safe_take, safe_release}
use Rattle.tables.proofs.memory.Ranges.{sound_range}

module _ (t : Tables) (m : List ℕ) {r : Bool} (told : r ≡ sound_of (t, m)) where
  -- what the test tells of the numbers
  pub in_range : r ≡ true → InRange t × (32768 ≤ length m)
  in_range e = sound_range t m (sym told ∙ e)

  -- the public calls, where the numbers are within their ranges, and where not
  take_is : r ≡ true → safe_take (t, m) ≡ take_of t m
  unfolding safe_take
  take_is e = rw (← told, e)

  take_not : r ≡ false → safe_take (t, m) ≡ Spoiled
  unfolding safe_take
  take_not e = rw (← told, e)

  pub takes : {a : Result Taken TableError} {m' : List ℕ} → r ≡ true → (a ≡ taken_of (take_of t m)) × (m' ≡ taken_memory m (take_of t m)) →
      (a ≡ taken_of (safe_take (t, m))) × (m' ≡ taken_memory m (safe_take (t, m)))
  takes e g = rw (take_is e) g

  pub takes_none : r ≡ false → (Err spoiled ≡ taken_of (safe_take (t, m))) × (m ≡ taken_memory m (safe_take (t, m)))
  unfolding taken_of taken_memory
  takes_none e = rw (take_not e) (refl, refl)

  pub offers : {a : Result (Option ℕ) TableError} → r ≡ true → a ≡ offered_of (take_of t m) → a ≡ offered_of (safe_take (t, m))
  offers e g = rw (take_is e) g

  pub offers_none : r ≡ false → Err spoiled ≡ offered_of (safe_take (t, m))
  unfolding offered_of
  offers_none e = rw (take_not e)

  pub releases : (d : ℕ) {a : Result Tables TableError} {m' : List ℕ} → r ≡ true → (a ≡ released_of (release_of t d m)) × (m' ≡ released_memory m (release_of t d m)) →
      (a ≡ released_of (safe_release d (t, m))) × (m' ≡ released_memory m (safe_release d (t, m)))
  unfolding safe_release
  releases d e g = rw (← told, e) g

  pub releases_none : (d : ℕ) → r ≡ false → (Err spoiled ≡ released_of (safe_release d (t, m))) × (m ≡ released_memory m (safe_release d (t, m)))
  unfolding safe_release released_of released_memory
  releases_none d e = rw (← told, e) (refl, refl)

  pub passes_too : (d : ℕ) {a : Bool} → r ≡ true → a ≡ passes (release_of t d m) → a ≡ passes (safe_release d (t, m))
  unfolding safe_release
  passes_too d e g = rw (← told, e) g

  pub passes_not : (d : ℕ) → r ≡ false → false ≡ passes (safe_release d (t, m))
  unfolding safe_release
  passes_not d e = rw (← told, e)

-- what holds one token
pub new_is : (m : List ℕ) (count t : ℕ) → 32768 ≤ length m → t < 4096 → safe_new_hold m count t ≡ new_hold (take 20480 m) count t
unfolding safe_new_hold
new_is m count t whole h = rw (le-leb 32768 (length m) whole, lt-ltb t 4096 h)

pub left_is : (m : List ℕ) (tokens d t : ℕ) → 32768 ≤ length m → tokens ≤ 4096 → safe_left_hold m tokens d t ≡ left_hold (take 20480 m) tokens d t
unfolding safe_left_hold
left_is m tokens d t whole h = rw (le-leb 32768 (length m) whole, le-leb tokens 4096 h)
