-- A token's finish keeps the match between the tables in memory and the rules' tables.
use mathlib.Core.Path.{◌≡◌, refl, sym, ap, ap₂, ◌∙◌, fun_ext, subst}
use mathlib.Core.Bool.{false, not}
use mathlib.Core.List.{List, ◌++◌}
use Prim.Native.Nat.{ℕ, ◌+◌, ◌-◌, ◌<◌, ◌≤◌}
use native.Mathlib.Omega.{arith}
use borrow.Author.Tests.{le-leb, lt-leb, eq-eqb}
use lib.Dec.{eqb}
use lib.ListN.{length, take, drop, set, replicate, length-set, length-replicate}
use lib.Seq.{take-set-le, drop-set-lt, sets, slice, length-sets}
use Rattle.rules.specs.Lists.{if, has, any, Below}
use Rattle.rules.specs.TakingTokens.{tokens_of}
use Rattle.rules.specs.TakingTokens as rules
use Rattle.rules.specs.Sources.{Passed}
use Rattle.tables.specs.declared.Tables.{Tables}
use Rattle.tables.specs.Facts.{standing_of, left_hold}
use Rattle.tables.specs.State.{State, marks, table_of, watches_of}
use Rattle.tables.specs.Releasing.{is_unsound, pick, new_watches, renewed_in, woken_in, staying_in, staying_watches_in, unsound_in, moved_tables, moved_memory, release_of}
use Rattle.tables.specs.Matching.{Recorded, Watched, Standing, Match, nobody, only}
use Rattle.rules.proofs.lists.Members.{below_mono}
use Rattle.tables.proofs.memory.Cells.{take_less, take_sets, drop_sets, drop_more, slice_before, slice_sets}
use Rattle.tables.proofs.memory.MemoryLaws.{standing_set, length_marks, take_marks, drop_marks, standing_marks, recorded_kept, slice_append, slice_same}
use Rattle.tables.proofs.memory.PickLaws.{below_pick}
use Rattle.tables.proofs.memory.TableLaws.{renewed_length, all_moved, even}
use Rattle.tables.proofs.matching.StandingLaws.{table_low}
use Rattle.tables.proofs.matching.RuleReleasing.{finished, woken_are, staying_are, watched_after, none_unsound, release_standing}

-- the memory after watches were renewed, some tokens joined the ready queue, others closed up with their watches, and a token finished
module _ (m : List ℕ) (whole : 32768 ≤ length m) (end held d : ℕ) (renewed woken staying watching : List ℕ) (size : length renewed ≡ held)
    (room : end + length woken ≤ 4096) (short : length staying ≤ held) (even : length watching ≡ length staying) (most : held ≤ 4096)
    (low : Below 4096 woken) (inside : d < 4096) where
  watched : List ℕ
  watched = sets m 24576 renewed

  queued : List ℕ
  queued = sets watched (28672 + end) woken

  shut : List ℕ
  shut = sets queued 20480 staying

  closed : List ℕ
  closed = sets shut 24576 watching

  freed : List ℕ
  freed = replicate (held - length staying) 0

  halfway : List ℕ
  halfway = sets closed (20480 + length staying) freed

  cleared : List ℕ
  cleared = sets halfway (24576 + length staying) freed

  readied : List ℕ
  readied = marks cleared 2 woken

  moved : List ℕ
  moved = set readied (16384 + d) 3

  freed_length : length freed ≡ held - length staying
  unfolding freed
  freed_length = length-replicate (held - length staying) 0

  watched_length : length watched ≡ length m
  unfolding watched
  watched_length = length-sets m 24576 renewed

  queued_length : length queued ≡ length m
  unfolding queued
  queued_length = length-sets watched (28672 + end) woken ∙ watched_length

  shut_length : length shut ≡ length m
  unfolding shut
  shut_length = length-sets queued 20480 staying ∙ queued_length

  closed_length : length closed ≡ length m
  unfolding closed
  closed_length = length-sets shut 24576 watching ∙ shut_length

  halfway_length : length halfway ≡ length m
  unfolding halfway
  halfway_length = length-sets closed (20480 + length staying) freed ∙ closed_length

  cleared_length : length cleared ≡ length m
  unfolding cleared
  cleared_length = length-sets halfway (24576 + length staying) freed ∙ halfway_length

  readied_length : length readied ≡ length m
  unfolding readied
  readied_length = length_marks cleared 2 woken ∙ cleared_length

  moved_length : length moved ≡ length m
  unfolding moved
  moved_length = length-set readied (16384 + d) 3 ∙ readied_length

  cleared_facts : take 20480 cleared ≡ take 20480 m
  unfolding cleared halfway closed shut queued watched
  cleared_facts =
      take_sets freed halfway (24576 + length staying) 20480 (omega arith)
      ∙ take_sets freed closed (20480 + length staying) 20480 (omega arith)
      ∙ take_sets watching shut 24576 20480 (omega arith)
      ∙ take_sets staying queued 20480 20480 (omega arith)
      ∙ take_sets woken watched (28672 + end) 20480 (omega arith)
      ∙ take_sets renewed m 24576 20480 (omega arith)

  moved_standing : standing_of (take 20480 moved) ≡ finished (standing_of (take 20480 m)) d woken
  unfolding moved readied
  moved_standing =
      fun_ext (λ n.
      standing_set readied (rw readied_length whole) d 3 n inside
      ∙ ap (λ s. if (eqb d n) 3 s)
      (standing_marks cleared 2 woken (rw cleared_length whole) low n ∙ ap (λ l. if (has woken n) 2 (standing_of l n)) cleared_facts))

  moved_records : take 16384 moved ≡ take 16384 m
  unfolding moved readied
  moved_records =
      take-set-le 16384 readied (16384 + d) 3 (omega arith)
      ∙ take_marks cleared 2 woken
      ∙ take_less m cleared 20480 16384 cleared_facts (omega arith)

  moved_tables_lem : drop 20480 moved ≡ drop 20480 cleared
  unfolding moved readied
  moved_tables_lem = drop-set-lt 20480 readied (16384 + d) 3 (omega arith) ∙ drop_marks cleared 2 woken low

  moved_table : slice 20480 (20480 + length staying) moved ≡ staying
  unfolding cleared halfway closed shut
  moved_table =
      slice_same cleared moved 20480 20480 (20480 + length staying) moved_tables_lem (omega arith) (omega arith) (omega (arith, cleared_length))
      (moved_length ∙ sym cleared_length)
      ∙ slice_before freed halfway (24576 + length staying) 20480 (20480 + length staying) (omega arith)
      ∙ slice_before freed closed (20480 + length staying) 20480 (20480 + length staying) (omega arith)
      ∙ slice_before watching shut 24576 20480 (20480 + length staying) (omega arith)
      ∙ slice_sets staying queued 20480 (omega (arith, queued_length))

  moved_watches : slice 24576 (24576 + length staying) moved ≡ watching
  unfolding cleared halfway closed
  moved_watches =
      let ends : 24576 + length staying ≡ 24576 + length watching = omega arith in
      slice_same cleared moved 20480 24576 (24576 + length staying) moved_tables_lem (omega arith) (omega arith) (omega (arith, cleared_length))
      (moved_length ∙ sym cleared_length)
      ∙ slice_before freed halfway (24576 + length staying) 24576 (24576 + length staying) (omega arith)
      ∙ slice_same closed halfway 24576 24576 (24576 + length staying)
      (drop_sets freed closed (20480 + length staying) 24576 (omega (arith, freed_length)))
      (omega arith) (omega arith) (omega (arith, closed_length)) (halfway_length ∙ sym closed_length)
      ∙ ap (λ e. slice 24576 e closed) ends
      ∙ slice_sets watching shut 24576 (omega (arith, shut_length))

  moved_queue : (first : ℕ) → first ≤ end → slice (28672 + first) (28672 + (end + length woken)) moved ≡ slice (28672 + first) (28672 + end) m ++ woken
  unfolding cleared halfway closed shut queued watched
  moved_queue first h =
      let same : drop 28672 moved ≡ drop 28672 queued =
      drop_more cleared moved 20480 28672 moved_tables_lem (omega arith)
      ∙ drop_sets freed halfway (24576 + length staying) 28672 (omega (arith, freed_length))
      ∙ drop_sets freed closed (20480 + length staying) 28672 (omega (arith, freed_length))
      ∙ drop_sets watching shut 24576 28672 (omega arith)
      ∙ drop_sets staying queued 20480 28672 (omega arith) in
      let ends : 28672 + (end + length woken) ≡ 28672 + end + length woken = omega arith in
      slice_same queued moved 28672 (28672 + first) (28672 + (end + length woken)) same (omega arith) (omega arith) (omega (arith, queued_length))
      (moved_length ∙ sym queued_length)
      ∙ (rw (← ends) at (slice_append woken watched (28672 + first) (28672 + end) (omega arith) (omega (arith, watched_length))))
      ∙ ap (λ l. l ++ woken)
      (slice_same m watched 28672 (28672 + first) (28672 + end) (drop_sets renewed m 24576 28672 (omega arith)) (omega arith) (omega arith) (omega arith) watched_length)

module _ (tokens : ℕ) (numbers : ℕ → List ℕ) (a : rules.Tables) (t : Tables) (m : List ℕ) (d : ℕ) (p : Match tokens numbers a (t, m) (only d)) where
  -- the new watches, over the rules' table
  after : List ℕ
  after = new_watches (left_hold (take 20480 m) tokens d) d (tokens_of a.deferred) (watches_of t m)

  renewed_is : renewed_in t d m ≡ after
  unfolding after
  renewed_is = ap₂ (λ n l. new_watches (left_hold (take 20480 m) n d) d l (watches_of t m)) p.size p.table

  woken_is : woken_in t d m ≡ pick (λ w. eqb w d) (tokens_of a.deferred) after
  woken_is = ap₂ (λ l ws. pick (λ w. eqb w d) l ws) p.table renewed_is

  staying_is : staying_in t d m ≡ pick (λ w. not (eqb w d)) (tokens_of a.deferred) after
  staying_is = ap₂ (λ l ws. pick (λ w. not (eqb w d)) l ws) p.table renewed_is

  count_within : a.count ≤ tokens
  count_within = omega (arith, p.range.count, p.count, p.size)

  low_table : Below tokens (tokens_of a.deferred)
  low_table = below_mono (tokens_of a.deferred) count_within (table_low p.standing)

  low_cells : Below tokens (table_of t m)
  low_cells = rw p.table low_table

  all_sound : unsound_in t d m ≡ false
  all_sound =
      ap (λ n. any (λ k. is_unsound (left_hold (take 20480 m) n d k)) (pick (λ w. eqb w d) (table_of t m) (watches_of t m))) p.size
      ∙ none_unsound numbers (take 20480 m) tokens d p.records (pick (λ w. eqb w d) (table_of t m) (watches_of t m))
      (below_pick (λ w. eqb w d) tokens (table_of t m) (watches_of t m) low_cells)

  finisher_low : d < tokens
  finisher_low = omega (arith, (p.standing.outside d (eq-eqb d d refl)).1, count_within)

  renewed_size : length (renewed_in t d m) ≡ t.held
  renewed_size = renewed_length t m p.range p.whole d

  parts : length (woken_in t d m) + length (staying_in t d m) ≡ t.held
  parts = all_moved t m p.range p.whole d

  steps : length (staying_watches_in t d m) ≡ length (staying_in t d m)
  steps = even t m p.range p.whole d

  releases : release_of t d m ≡ Passed (moved_tables t d m, moved_memory t d m)
  unfolding release_of
  releases =
      rw (
        lt-leb t.tokens d (omega (arith, finisher_low, p.size)),
        all_sound,
        le-leb (t.end + length (woken_in t d m)) 4096 (omega (arith, parts, p.room, p.range.count, p.range.tokens)),
      )

  woken_low : Below 4096 (woken_in t d m)
  woken_low =
      below_pick (λ w. eqb w d) 4096 (table_of t m) (renewed_in t d m)
      (below_mono (table_of t m) (omega (arith, p.size, p.range.tokens)) low_cells)

  room : t.end + length (woken_in t d m) ≤ 4096
  room = omega (arith, parts, p.room, p.range.count, p.range.tokens)

  short : length (staying_in t d m) ≤ t.held
  short = omega (arith, parts)

  low : d < 4096
  low = omega (arith, finisher_low, p.size, p.range.tokens)

  long : length (moved_memory t d m) ≡ length m
  unfolding moved_memory moved readied cleared halfway freed closed shut queued watched
  long = moved_length m p.whole t.end t.held d (renewed_in t d m) (woken_in t d m) (staying_in t d m) (staying_watches_in t d m) renewed_size room short steps p.range.held woken_low low

  after_queue : slice (28672 + t.first) (28672 + (t.end + length (woken_in t d m))) (moved_memory t d m) ≡ (rules.release d a).ready
  unfolding moved_memory moved readied cleared halfway freed closed shut queued watched rules.release after
  after_queue =
      moved_queue m p.whole t.end t.held d (renewed_in t d m) (woken_in t d m) (staying_in t d m) (staying_watches_in t d m) renewed_size room short steps p.range.held woken_low low t.first p.range.queue
      ∙ ap₂ ◌++◌ p.queue (woken_is ∙ sym (woken_are numbers (take 20480 m) tokens d p.records a.deferred (watches_of t m) p.standing.waiting low_table p.watched))

  after_table : slice 20480 (20480 + length (staying_in t d m)) (moved_memory t d m) ≡ tokens_of (rules.release d a).deferred
  unfolding moved_memory moved readied cleared halfway freed closed shut queued watched rules.release after
  after_table =
      moved_table m p.whole t.end t.held d (renewed_in t d m) (woken_in t d m) (staying_in t d m) (staying_watches_in t d m) renewed_size room short steps p.range.held woken_low low
      ∙ staying_is ∙ sym (staying_are numbers (take 20480 m) tokens d p.records a.deferred (watches_of t m) p.standing.waiting low_table p.watched)

  after_watched : Watched (rules.release d a).deferred (slice 24576 (24576 + length (staying_in t d m)) (moved_memory t d m))
  unfolding moved_memory moved readied cleared halfway freed closed shut queued watched rules.release after
  after_watched =
      subst (Watched (rules.release d a).deferred)
      (sym (moved_watches m p.whole t.end t.held d (renewed_in t d m) (woken_in t d m) (staying_in t d m) (staying_watches_in t d m) renewed_size room short steps p.range.held woken_low low
      ∙ ap (λ ws. pick (λ w. not (eqb w d)) ws ws) renewed_is))
      (watched_after numbers (take 20480 m) tokens d p.records a.deferred (watches_of t m) p.standing.waiting low_table p.watched)

  after_records : (n : ℕ) → n < tokens → Recorded (take 20480 (moved_memory t d m)) n (numbers n)
  unfolding moved_memory moved readied cleared halfway freed closed shut queued watched
  after_records n l =
      recorded_kept m (moved_memory t d m)
      (moved_records m p.whole t.end t.held d (renewed_in t d m) (woken_in t d m) (staying_in t d m) (staying_watches_in t d m) renewed_size room short steps p.range.held woken_low low)
      long p.whole n (omega (arith, p.size, p.range.tokens)) (p.records n l)

  after_standing : Standing numbers (rules.release d a) (standing_of (take 20480 (moved_memory t d m))) nobody
  unfolding moved_memory moved readied cleared halfway freed closed shut queued watched after
  after_standing =
      subst (λ s. Standing numbers (rules.release d a) s nobody)
      (sym (moved_standing m p.whole t.end t.held d (renewed_in t d m) (woken_in t d m) (staying_in t d m) (staying_watches_in t d m) renewed_size room short steps p.range.held woken_low low
      ∙ ap (finished (standing_of (take 20480 m)) d)
      (woken_is ∙ sym (woken_are numbers (take 20480 m) tokens d p.records a.deferred (watches_of t m) p.standing.waiting low_table p.watched))))
      (release_standing numbers (take 20480 m) d a p.standing)

  pub release_match : (x : State) × (release_of t d m ≡ Passed x) × Match tokens numbers (rules.release d a) x nobody
  unfolding moved_tables rules.release
  release_match = (
    (moved_tables t d m, moved_memory t d m),
    releases,
    record {
      range = record {
        tokens = p.range.tokens;
        count = p.range.count;
        queue = omega (arith, p.range.queue);
        end = room;
        held = omega
            (arith, short, p.range.held);
      };
      whole = rw long p.whole;
      size = p.size;
      count = p.count;
      room = omega (arith, parts, p.room);
      queue = after_queue;
      table = after_table;
      watched = after_watched;
      records = after_records;
      standing = after_standing;
    },
  )
