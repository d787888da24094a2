-- The console, case by case: how it begins, and what it makes of a line that is too long.
use mathlib.Core.Path.{◌≡◌, refl, sym, ap}
use mathlib.Core.List.{List, [], ◌∷◌}
use Prim.Native.Nat.{ℕ, ◌-◌, ◌<◌, ◌≤◌}
use native.Mathlib.Omega.{arith}
use borrow.Author.Tests.{lt-ltb, le-ltb}
use lib.Dec.{ltb}
use lib.ListN.{length, replicate, length-replicate}
use Rattle.vocabulary.specs.declared.refusal.Refusal.TheVariants.{FileSize}
use Rattle.rules.proofs.lists.Tests.{by_test}
use Rattle.plan.specs.Reading.{refused, check_of, read_of}
use Rattle.loading.specs.Loading.{load_as}
use Rattle.opening.specs.Opened.{refused_with, opened_by, open_of}
use Rattle.sink.specs.declared.Sink.{Sink}
use Rattle.sink.specs.Sinks.{put_of}
use Rattle.console.specs.declared.input.Input.{Input}
use Rattle.console.specs.declared.Console.{Console}
use Rattle.console.specs.Inputs.{Within, too_long}
use Rattle.console.specs.Consoles.{Kept, begun, refused_in, refused_long}

-- an empty file opens no run
none_read : read_of [] ≡ refused FileSize
unfolding read_of check_of
none_read = refl

module _ (m : List ℕ) where
  pub none_opened : (open_of [] 0 m).0 ≡ refused_with FileSize
  unfolding opened_by load_as
  none_opened = rw none_read

  pub none_written : (open_of [] 0 m).1 ≡ m
  unfolding load_as
  none_written = rw none_read

-- the size of an array of zeros; of any, so that none is written out
pub zeros_size : (n : ℕ) → n ≡ length (replicate {A = ℕ} n 0)
zeros_size n = sym (length-replicate n 0)

-- at first all is within the buffers
pub begun_kept : {files inputs : ℕ} {c : Console} → c ≡ begun → Kept files inputs c
begun_kept e = rw e (record { size = omega arith; input = record { at = omega arith; end = omega arith } })

-- a line that is too long
module _ (c : Console) (out : List ℕ) where
  pub refuses_not : c.input.end - c.input.at ≤ 8191 → (c, out) ≡ refused_long c out
  unfolding refused_long
  refuses_not h = rw (le-ltb 8191 (c.input.end - c.input.at) h)

  pub refuses : 8191 < c.input.end - c.input.at → {sink : Sink} {after : List ℕ} {i : Input} →
      (sink, after) ≡ put_of (c.talk.sink, out) (63 ∷ 10 ∷ []) → i ≡ too_long c.input →
      ◌≡◌ {A = Console × List ℕ} (
        record {
          talk = record { run = c.talk.run; lent = c.talk.lent; sink = sink };
          size = c.size;
          input = i;
          done = c.done;
        },
        after,
      ) (refused_long c out)
  unfolding refused_long
  refuses h e i-is = rw (lt-ltb 8191 (c.input.end - c.input.at) h, i-is) (ap (λ o. (refused_in c o, o.1)) e)

-- what is left then is within the buffer
module _ (c : Console) (out : List ℕ) {n : ℕ} (w : Within n c.input) where
  refused_within : Within n (refused_long c out).0.input
  unfolding refused_long
  refused_within =
      by_test (ltb 8191 (c.input.end - c.input.at)) (λ e. rw e (record { at = omega arith; end = w.end })) (λ e. rw e w)

  pub left_within : {left : Console} {out' : List ℕ} → (left, out') ≡ refused_long c out → Within n left.input
  left_within e = rw (← e) at refused_within
