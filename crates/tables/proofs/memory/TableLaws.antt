-- How long the deferred table, its watches and those after a finish are, for tables within their ranges.
use mathlib.Core.Path.{◌≡◌, sym, ◌∙◌}
use mathlib.Core.Bool.{not}
use mathlib.Core.List.{List}
use Prim.Native.Nat.{ℕ, ◌+◌, ◌≤◌}
use native.Mathlib.Omega.{arith}
use lib.Dec.{eqb}
use lib.ListN.{length, take}
use lib.Seq.{length-slice}
use Rattle.tables.specs.declared.Tables.{Tables}
use Rattle.tables.specs.Facts.{left_hold}
use Rattle.tables.specs.State.{InRange, table_of, watches_of}
use Rattle.tables.specs.Releasing.{renewed_in, woken_in, staying_in, staying_watches_in}
use Rattle.tables.proofs.memory.PickLaws.{pick_same, pick_all, length_new}

module _ (t : Tables) (m : List ℕ) (ok : InRange t) (whole : 32768 ≤ length m) where
  pub table_length : length (table_of t m) ≡ t.held
  table_length = length-slice 20480 (20480 + t.held) m (omega (arith, ok.held)) ∙ omega arith

  pub watches_length : length (watches_of t m) ≡ t.held
  watches_length = length-slice 24576 (24576 + t.held) m (omega (arith, ok.held)) ∙ omega arith

  -- the watches stand in step with the table, before a finish and after it
  pub in_step : length (watches_of t m) ≡ length (table_of t m)
  in_step = watches_length ∙ sym table_length

  module _ (d : ℕ) where
    pub renewed_length : length (renewed_in t d m) ≡ t.held
    renewed_length = length_new (left_hold (take 20480 m) t.tokens d) d (table_of t m) (watches_of t m) in_step ∙ table_length

    pub renewed_in_step : length (renewed_in t d m) ≡ length (table_of t m)
    renewed_in_step = renewed_length ∙ sym table_length

    -- the woken and the staying are the whole table, and each that stays has its watch
    pub all_moved : length (woken_in t d m) + length (staying_in t d m) ≡ t.held
    all_moved = pick_all (λ w. eqb w d) (table_of t m) (renewed_in t d m) renewed_in_step ∙ table_length

    pub even : length (staying_watches_in t d m) ≡ length (staying_in t d m)
    even = pick_same (λ w. not (eqb w d)) (renewed_in t d m) (table_of t m) (renewed_in t d m) renewed_in_step
