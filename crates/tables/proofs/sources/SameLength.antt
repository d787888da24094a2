-- The memory keeps its length.
use mathlib.Core.Path.{◌≡◌, ◌∙◌}
use mathlib.Core.List.{List}
use Prim.Native.Nat.{ℕ, ◌+◌, ◌-◌}
use lib.Dec.{leb, ltb}
use lib.ListN.{length, length-set}
use lib.Seq.{length-sets}
use Rattle.std.specs.Prelude.{Result, Ok, Err}
use Rattle.rules.specs.RelatedSources.{OnTaken, OnReleased, Keeps}
use Rattle.rules.proofs.lists.Tests.{by_test}
use Rattle.tables.specs.declared.Tables.{Tables}
use Rattle.tables.specs.declared.Spoiled.{Spoiled as TableError}
use Rattle.tables.specs.Layout.{facts_of}
use Rattle.tables.specs.State.{State, sound_of}
use Rattle.tables.specs.Taking.{find_of, deferred_upto, oldest_of, take_upto, take_ready, take_of}
use Rattle.tables.specs.Releasing.{woken_in, unsound_in, moved_memory, release_of}
use Rattle.tables.specs.Calls.{safe_take, safe_release, memory_source}
use Rattle.tables.proofs.memory.MemoryLaws.{length_marks}

module _ (n : ℕ) where
  -- the memory has this length
  abbrev Long : State → Type 0
  Long x = length x.1 ≡ n

  module _ (t : Tables) (m : List ℕ) (long : length m ≡ n) where
    upto_length : (c : Result ℕ TableError) → OnTaken Long (take_upto t m c)
    unfolding take_upto deferred_upto
    upto_length (Err e) = tt
    upto_length (Ok upto) = by_test (leb (t.held + (upto - t.count)) 4096)
        (λ room. rw room (by_test (ltb upto t.tokens) (λ e. rw e deferred) (λ e. rw e deferred)))
        (λ full. rw full tt)
      where
        deferred : length (deferred_upto t upto m) ≡ n
        deferred = length_marks _ 1 _ ∙ simp length-sets long

    take-length : OnTaken Long (take_of t m)
    unfolding take_of take_ready
    take-length = by_test (ltb t.first t.end)
        (λ e. rw e (by_test (ltb (oldest_of t m) t.tokens) (λ l. rw l (simp length-set long)) (λ l. rw l tt)))
        (λ e. rw e (upto_length (find_of (facts_of m) t.tokens t.count)))

    moved_length : (d : ℕ) → length (moved_memory t d m) ≡ n
    unfolding moved_memory
    moved_length d = simp (length-set, length_marks, length-sets) long

    release_length : (d : ℕ) → OnReleased Long (release_of t d m)
    unfolding release_of
    release_length d = by_test (leb t.tokens d)
        (λ e. rw e tt)
        (λ e. rw e (by_test (unsound_in t d m)
        (λ u. rw u tt)
        (λ u. rw u (by_test (leb (t.end + length (woken_in t d m)) 4096) (λ room. rw room (moved_length d)) (λ full. rw full tt)))))

  -- the public calls
  pub length_kept : Keeps Long memory_source
  unfolding safe_take safe_release
  length_kept = record {
    takes = λ x h. by_test (sound_of x) (λ e. rw e (take-length x.0 x.1 h)) (λ e. rw e tt);
    releases = λ d x h. by_test (sound_of x) (λ e. rw e (release_length x.0 x.1 h d)) (λ e. rw e tt);
  }
