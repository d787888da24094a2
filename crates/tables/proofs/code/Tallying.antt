-- The loop of `tally`: what holds at every turn, that a turn keeps it, and what it gives at the end.
use mathlib.Core.Path.{◌≡◌, ap, ◌∙◌}
use mathlib.Core.Bool.{true}
use mathlib.Core.List.{List}
use Prim.Native.Nat.{ℕ, ◌+◌, ◌<◌, ◌≤◌}
use native.Mathlib.Omega.{arith}
use lib.ListN.{length, get_or, take}
use Rattle.std.specs.Prelude.{Some, None, Ok, Err}
use Rattle.tables.specs.Facts.{Hold, spoiled, left_hold}
use Rattle.tables.specs.Releasing.{sifted_from, tally, tally_of, Unwatched}
use Rattle.tables.proofs.code.ScanLaws.{Next}
use Rattle.tables.proofs.code.SiftLaws.{watchers_skip, first_skip}
use Rattle.tables.proofs.code.ReleasingLaws.{tally_from, tally_first, tally_end, tally_bad, tally_free, tally_by}

-- the tokens of the cells before one are counted: n of them wake, and another number holds k
pub record Tallying (m : List ℕ) (tokens d held n k cell : ℕ) : Type 0 where
  pub upto : cell ≤ held
  pub few : n + k ≤ cell
  pub left : tally_of (left_hold (take 20480 m) tokens d) (sifted_from true m 20480 d 0 held) ≡ tally_from (left_hold (take 20480 m) tokens d) n k (sifted_from true m 20480 d cell held)

module _ {m : List ℕ} {held : ℕ} (whole : 32768 ≤ length m) (most : held ≤ 4096) where
  pub tally_start : (tokens : ℕ) {d first : ℕ} → first ≤ held → Unwatched m d first → Tallying m tokens d held 0 0 first
  tally_start tokens {d} h none =
      record {
        upto = h;
        few = omega arith;
        left = tally_first (left_hold (take 20480 m) tokens d) (sifted_from true m 20480 d 0 held)
            ∙ ap (tally_from (left_hold (take 20480 m) tokens d) 0 0) (first_skip m 20480 d held (omega arith) (omega arith) h none);
      }

  module _ {tokens d n k cell : ℕ} (inv : Tallying m tokens d held n k cell) where
    pub tally_done : held ≤ cell → Ok (tally n k) ≡ tally_of (left_hold (take 20480 m) tokens d) (sifted_from true m 20480 d 0 held)
    tally_done h = tally_end (left_hold (take 20480 m) tokens d) d n k m cell held inv.left inv.upto h

    -- cells that do not watch the number are passed
    pub tally_pass : {r : ℕ} → Next m d cell held r → Tallying m tokens d held n k r
    tally_pass next =
        record {
          upto = next.upto;
          few = omega (arith, inv.few, next.from);
          left = inv.left ∙ ap (tally_from (left_hold (take 20480 m) tokens d) n k) (watchers_skip m 20480 d held (omega arith) (omega arith) next);
        }

    -- one that does: by what still holds its token
    module _ (more : cell < held) (hit : get_or m (24576 + cell) 0 ≡ d) {r : Hold} (r-is : r ≡ left_hold (take 20480 m) tokens d (get_or m (20480 + cell) 0)) where
      pub tally_unsound : r ≡ Err spoiled → Err spoiled ≡ tally_of (left_hold (take 20480 m) tokens d) (sifted_from true m 20480 d 0 held)
      tally_unsound e = tally_bad (left_hold (take 20480 m) tokens d) d n k m cell held inv.left more most whole hit r-is e

      pub tally_woken : r ≡ Ok None → Tallying m tokens d held (n + 1) k (cell + 1)
      tally_woken e =
          record {
            upto = omega arith;
            few = omega (arith, inv.few);
            left = tally_free (left_hold (take 20480 m) tokens d) d n k m cell held inv.left more most whole hit r-is e;
          }

      pub tally_kept : {v : ℕ} → r ≡ Ok (Some v) → Tallying m tokens d held n (k + 1) (cell + 1)
      tally_kept e =
          record {
            upto = omega arith;
            few = omega (arith, inv.few);
            left = tally_by (left_hold (take 20480 m) tokens d) d n k m cell held inv.left more most whole hit r-is e;
          }
