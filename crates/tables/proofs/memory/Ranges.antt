-- The test of the tables' ranges says what `InRange` says.
use mathlib.Core.Path.{◌≡◌, refl}
use mathlib.Core.Bool.{Bool, true, false}
use mathlib.Core.List.{List}
use Prim.Native.Nat.{ℕ, ◌≤◌}
use native.Mathlib.Omega.{arith}
use borrow.Author.Tests.{le-leb, leb-true}
use lib.Dec.{leb}
use lib.ListN.{length}
use Rattle.rules.specs.Lists.{if}
use Rattle.tables.specs.declared.Tables.{Tables}
use Rattle.tables.specs.State.{InRange, sound_of}

-- a test in front of another, as tables are tested: both hold, or the first fails and the second holds
pub and_true : (b : Bool) {x : Bool} → if b x false ≡ true → (b ≡ true) × (x ≡ true)
and_true true e = (refl, e)
and_true false e = let z : ◌≡◌ {A = ℕ} 0 1 = cc in absurd (omega arith)

-- tables that pass the test are within their ranges
pub sound_range : (t : Tables) (m : List ℕ) → sound_of (t, m) ≡ true → InRange t × (32768 ≤ length m)
unfolding sound_of
sound_range t m e =
    let a = and_true (leb 32768 (length m)) e in
    let b = and_true (leb t.tokens 4096) a.1 in
    let c = and_true (leb t.count t.tokens) b.1 in
    let d = and_true (leb t.first t.end) c.1 in
    let f = and_true (leb t.end 4096) d.1 in (
      record {
        tokens = leb-true t.tokens 4096 b.0;
        count = leb-true t.count t.tokens c.0;
        queue = leb-true t.first t.end d.0;
        end = leb-true t.end 4096 f.0;
        held = leb-true t.held 4096 (and_true (leb t.held 4096) f.1).0;
      },
      leb-true 32768 (length m) a.0,
    )

-- tables within their ranges are sound
pub range_sound : (t : Tables) (m : List ℕ) → InRange t → 32768 ≤ length m → sound_of (t, m) ≡ true
unfolding sound_of
range_sound t m ok whole =
    rw (
      le-leb 32768 (length m) whole,
      le-leb t.tokens 4096 ok.tokens,
      le-leb t.count t.tokens ok.count,
      le-leb t.first t.end ok.queue,
      le-leb t.end 4096 ok.end,
      le-leb t.held 4096 ok.held,
    )
