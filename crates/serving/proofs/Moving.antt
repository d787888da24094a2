-- Bytes moved to the front of a buffer.
use mathlib.Core.Path.{◌≡◌}
use mathlib.Core.List.{List}
use Prim.Native.Nat.{ℕ, ◌-◌, ◌<◌, ◌≤◌}
use borrow.Author.Tests.{le-leb, lt-leb}
use native.Mathlib.Nat.{zero-add}
use lib.ListN.{length}
use Rattle.std.specs.List.{copy_within}
use Rattle.serving.specs.Lines.{moved_up}

module _ (s : List ℕ) (from to : ℕ) where
  -- places that are not within the buffer
  pub moved_past : length s < to → (0, s) ≡ moved_up from to s
  unfolding moved_up
  moved_past h = rw (lt-leb to (length s) h)

  pub moved_none : to ≤ length s → to < from → (0, s) ≡ moved_up from to s
  unfolding moved_up
  moved_none h k = rw (le-leb to (length s) h, lt-leb from to k)

  pub moved_all : to ≤ length s → from ≤ to → {r : List ℕ} → r ≡ copy_within s from to 0 → (to - from, r) ≡ moved_up from to s
  unfolding moved_up
  moved_all h k r-is = rw (le-leb to (length s) h, le-leb from to k, r-is, zero-add)
