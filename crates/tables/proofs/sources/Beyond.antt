-- What is lent beyond the first 32,768 numbers plays no part, and is left as it was.
use mathlib.Core.Path.{◌≡◌, refl, sym, ap, ap₂, ◌∙◌}
use mathlib.Core.Bool.{true, false, not}
use mathlib.Core.List.{List, [], ◌∷◌, ◌++◌, map}
use Prim.Native.Nat.{ℕ, suc, ◌+◌, ◌-◌, ◌<◌, ◌≤◌}
use native.Mathlib.Omega.{arith}
use borrow.Author.Tests.{ltb-true, leb-true, leb-false}
use lib.Dec.{leb, ltb, eqb}
use lib.ListN.{length, drop, set, replicate, length-append, length-map, length-set, length-replicate, get_or-append}
use lib.Seq.{sets, length-sets, set-append_left, take-append-le}
use Rattle.std.specs.Prelude.{Result, Ok, Err}
use Rattle.rules.specs.Lists.{any, has, Below}
use Rattle.rules.specs.Sources.{Taken as Outcome, Spoiled, Nothing, Took, Released, Broken, Passed}
use Rattle.rules.specs.RelatedSources.{map_taken, map_released, Follows}
use Rattle.rules.proofs.lists.Tests.{by_test}
use Rattle.tables.specs.declared.Tables.{Tables}
use Rattle.tables.specs.declared.Spoiled.{Spoiled as TableError}
use Rattle.tables.specs.Layout.{facts_of}
use Rattle.tables.specs.Facts.{left_hold}
use Rattle.tables.specs.State.{InRange, sound_of, span, marks, table_of, watches_of}
use Rattle.tables.specs.Taking.{find_of, watch_of, deferred_by, deferred_upto, oldest_of, take_upto, take_ready, take_of}
use Rattle.tables.specs.Releasing.{is_unsound, pick, new_watches, watchers_in, renewed_in, woken_in, staying_in, staying_watches_in, unsound_in, closed_by, moved_by, moved_tables, moved_memory, release_of}
use Rattle.tables.specs.Matching.{beyond}
use Rattle.tables.specs.Calls.{safe_take, safe_release, memory_source}
use Rattle.rules.proofs.lists.Members.{below_range, length_range}
use Rattle.tables.proofs.memory.MemoryLaws.{length_marks}
use Rattle.tables.proofs.memory.TableLaws.{renewed_length, all_moved, even}
use Rattle.tables.proofs.code.Moves.{woken_below}
use Rattle.tables.proofs.code.TakingLaws.{found_within}
use Rattle.tables.proofs.memory.Ranges.{range_sound}
use Rattle.tables.proofs.sources.Joint.{Joint, memory_side, sides_match, take_joint, release_joint, joint_source, memory_follows, safe_take_lem, safe_release_lem}

module _ (r : List ℕ) where
  -- stores and marks within a list
  sets_beyond : (vs l : List ℕ) (i : ℕ) → i + length vs ≤ length l → sets (l ++ r) i vs ≡ sets l i vs ++ r
  sets_beyond [] l i h = refl
  sets_beyond (v ∷ vs) l i h = rw (set-append_left l r i v (omega arith)) (sets_beyond vs (set l i v) (suc i) (rw length-set (omega arith)))

  marks_beyond : (v : ℕ) (ts l : List ℕ) → Below 4096 ts → 32768 ≤ length l → marks (l ++ r) v ts ≡ marks l v ts ++ r
  unfolding marks
  marks_beyond v [] l low h = refl
  marks_beyond v (t ∷ ts) l low h =
      rw (set-append_left l r (16384 + t) v (omega (arith, low.0))) (marks_beyond v ts (set l (16384 + t) v) low.1 (rw length-set h))

  -- the passes of a release
  closed_beyond : (m staying watching : List ℕ) (held : ℕ) → 32768 ≤ length m → length staying ≤ held → length watching ≡ length staying → held ≤ 4096 →
      closed_by (m ++ r) held staying watching ≡ closed_by m held staying watching ++ r
  closed_beyond m staying watching held whole short even most =
      let shut : List ℕ = sets m 20480 staying in
      let shut_length : length shut ≡ length m = length-sets m 20480 staying in
      let closed : List ℕ = sets shut 24576 watching in
      let closed_length : length closed ≡ length m = length-sets shut 24576 watching ∙ shut_length in
      let freed : List ℕ = replicate (held - length staying) 0 in
      let freed_length : length freed ≡ held - length staying = length-replicate (held - length staying) 0 in
      let halfway : List ℕ = sets closed (20480 + length staying) freed in
      let halfway_length : length halfway ≡ length m = length-sets closed (20480 + length staying) freed ∙ closed_length in
      rw (
        sets_beyond staying m 20480 (omega arith),
        sets_beyond watching shut 24576 (omega arith),
        sets_beyond freed closed (20480 + length staying) (omega arith),
      )
      (sets_beyond freed halfway (24576 + length staying) (omega arith))

  passes_beyond : (m woken staying watching : List ℕ) (end held d : ℕ) → 32768 ≤ length m → end + length woken ≤ 4096 → length staying ≤ held →
      length watching ≡ length staying → held ≤ 4096 → Below 4096 woken → d < 4096 →
      moved_by (m ++ r) end held d woken staying watching ≡ moved_by m end held d woken staying watching ++ r
  passes_beyond m woken staying watching end held d whole room short even most low inside =
      let queued : List ℕ = sets m (28672 + end) woken in
      let queued_length : length queued ≡ length m = length-sets m (28672 + end) woken in
      let closed : List ℕ = closed_by queued held staying watching in
      let closed_length : length closed ≡ length m = simp length-sets in
      ap (λ (l : List ℕ). set (marks (closed_by l held staying watching) 2 woken) (16384 + d) 3) (sets_beyond woken m (28672 + end) (omega arith))
      ∙ ap (λ (l : List ℕ). set (marks l 2 woken) (16384 + d) 3) (closed_beyond queued staying watching held (omega arith) short even most)
      ∙ ap (λ (l : List ℕ). set l (16384 + d) 3) (marks_beyond 2 woken closed low (omega arith))
      ∙ set-append_left (marks closed 2 woken) r (16384 + d) 3 (omega (arith, length_marks closed 2 woken))

  module _ (t : Tables) (m : List ℕ) (ok : InRange t) (whole : 32768 ≤ length m) where
    facts_beyond : facts_of (m ++ r) ≡ facts_of m
    facts_beyond = take-append-le 20480 m r (omega arith)

    table_beyond : table_of t (m ++ r) ≡ table_of t m
    table_beyond = ap (λ (l : List ℕ). drop 20480 l) (take-append-le (20480 + t.held) m r (omega (arith, ok.held)))

    watches_beyond : watches_of t (m ++ r) ≡ watches_of t m
    watches_beyond = ap (λ (l : List ℕ). drop 24576 l) (take-append-le (24576 + t.held) m r (omega (arith, ok.held)))

    -- taking
    module _ (upto : ℕ) (high : upto ≤ t.tokens) (room : t.held + (upto - t.count) ≤ 4096) where
      deferred_beyond : deferred_upto t upto (m ++ r) ≡ deferred_upto t upto m ++ r
      unfolding deferred_upto
      deferred_beyond =
          let passed : List ℕ = span t.count upto in
          let watches : List ℕ = map (watch_of (facts_of m) t.count) passed in
          let passed_length : length passed ≡ upto - t.count = length_range t.count (upto - t.count) in
          let watches_length : length watches ≡ upto - t.count = length-map passed (watch_of (facts_of m) t.count) ∙ passed_length in
          let joined : List ℕ = sets m (20480 + t.held) passed in
          let joined_length : length joined ≡ length m = length-sets m (20480 + t.held) passed in
          let entered : List ℕ = sets joined (24576 + t.held) watches in
          let entered_length : length entered ≡ length m = length-sets joined (24576 + t.held) watches ∙ joined_length in
          ap (λ (f : List ℕ). deferred_by (m ++ r) t.held passed (map (watch_of f t.count) passed)) facts_beyond
          ∙ ap (λ (l : List ℕ). marks (sets l (24576 + t.held) watches) 1 passed) (sets_beyond passed m (20480 + t.held) (omega arith))
          ∙ ap (λ (l : List ℕ). marks l 1 passed) (sets_beyond watches joined (24576 + t.held) (omega arith))
          ∙ marks_beyond 1 passed entered (below_range 4096 t.count (upto - t.count) (omega (arith, ok.tokens, ok.count))) (omega arith)

    upto_beyond : (c : Result ℕ TableError) → find_of (facts_of m) t.tokens t.count ≡ c → take_upto t (m ++ r) c ≡ map_taken (beyond r) (take_upto t m c)
    unfolding take_upto
    upto_beyond (Err e) found = refl
    upto_beyond (Ok upto) found = by_test (leb (t.held + (upto - t.count)) 4096)
        (λ room.
        let high = found_within (facts_of m) t.tokens t.count ok.count (sym found) refl in
        rw (room, deferred_beyond upto high.1 (leb-true _ _ room)) (by_test (ltb upto t.tokens) (λ e. rw e) (λ e. rw e)))
        (λ full. rw full)

    take_beyond : take_of t (m ++ r) ≡ map_taken (beyond r) (take_of t m)
    unfolding take_of take_ready
    take_beyond = by_test (ltb t.first t.end)
        (λ e.
        let some : t.first < t.end = ltb-true _ _ e in
        rw (e, get_or-append m r 0 (28672 + t.first) (omega (arith, ok.end)))
        (by_test (ltb (oldest_of t m) t.tokens)
        (λ low. rw (low, set-append_left m r (16384 + oldest_of t m) 0 (omega (arith, ltb-true (oldest_of t m) t.tokens low, ok.tokens))))
        (λ high. rw high)))
        (λ e. rw (e, facts_beyond) (upto_beyond (find_of (facts_of m) t.tokens t.count) refl))

    -- a token's finish
    watchers_same : (d : ℕ) → watchers_in t d (m ++ r) ≡ watchers_in t d m
    watchers_same d = ap₂ (λ xs ws. pick (λ w. eqb w d) xs ws) table_beyond watches_beyond

    renewed_same : (d : ℕ) → renewed_in t d (m ++ r) ≡ renewed_in t d m
    renewed_same d =
        ap (λ f. new_watches (left_hold f t.tokens d) d (table_of t (m ++ r)) (watches_of t (m ++ r))) facts_beyond
        ∙ ap₂ (λ xs ws. new_watches (left_hold (facts_of m) t.tokens d) d xs ws) table_beyond watches_beyond

    woken_same : (d : ℕ) → woken_in t d (m ++ r) ≡ woken_in t d m
    woken_same d = ap₂ (λ xs ws. pick (λ w. eqb w d) xs ws) table_beyond (renewed_same d)

    staying_same : (d : ℕ) → staying_in t d (m ++ r) ≡ staying_in t d m
    staying_same d = ap₂ (λ xs ws. pick (λ w. not (eqb w d)) xs ws) table_beyond (renewed_same d)

    watching_same : (d : ℕ) → staying_watches_in t d (m ++ r) ≡ staying_watches_in t d m
    watching_same d = ap (λ ws. pick (λ w. not (eqb w d)) ws ws) (renewed_same d)

    unsound_same : (d : ℕ) → unsound_in t d (m ++ r) ≡ unsound_in t d m
    unsound_same d = ap₂ (λ f l. any (λ n. is_unsound (left_hold f t.tokens d n)) l) facts_beyond (watchers_same d)

    moved_beyond : (d : ℕ) → unsound_in t d m ≡ false → d < t.tokens → t.end + length (woken_in t d m) ≤ 4096 → moved_memory t d (m ++ r) ≡ moved_memory t d m ++ r
    unfolding moved_memory
    moved_beyond d sound low room =
        parts (renewed_same d) (woken_same d) (staying_same d) (watching_same d)
        ∙ ap (λ l. moved_by l t.end t.held d (woken_in t d m) (staying_in t d m) (staying_watches_in t d m))
        (sets_beyond (renewed_in t d m) m 24576 (omega (arith, ok.held, renewed_length t m ok whole d)))
        ∙ passes_beyond (sets m 24576 (renewed_in t d m)) (woken_in t d m) (staying_in t d m) (staying_watches_in t d m) t.end t.held d (rw length-sets whole) room
        (omega (arith, all_moved t m ok whole d)) (even t m ok whole d) ok.held (woken_below t d m ok whole sound) (omega (arith, ok.tokens))
      where
        parts : {n n' w w' s s' v v' : List ℕ} → n ≡ n' → w ≡ w' → s ≡ s' → v ≡ v' →
            moved_by (sets (m ++ r) 24576 n) t.end t.held d w s v ≡ moved_by (sets (m ++ r) 24576 n') t.end t.held d w' s' v'
        parts e f g h = rw (e, f, g, h)

    release_beyond : (d : ℕ) → release_of t d (m ++ r) ≡ map_released (beyond r) (release_of t d m)
    unfolding release_of moved_tables
    release_beyond d = by_test (leb t.tokens d)
        (λ e. rw e)
        (λ e. rw (e, unsound_same d, woken_same d, staying_same d) (by_test (unsound_in t d m)
        (λ u. rw u)
        (λ u. rw u (by_test (leb (t.end + length (woken_in t d m)) 4096)
        (λ room. rw (room, moved_beyond d u (leb-false _ _ e) (leb-true _ _ room)))
        (λ full. rw full)))))

    -- the public calls
    sound_beyond : sound_of (t, m ++ r) ≡ true
    sound_beyond = range_sound t (m ++ r) ok (omega (arith, length-append m r))

    safe_take_beyond : safe_take (t, m ++ r) ≡ map_taken (beyond r) (safe_take (t, m))
    safe_take_beyond = safe_take_lem (t, m ++ r) sound_beyond ∙ take_beyond ∙ ap (map_taken (beyond r)) (sym (safe_take_lem (t, m) (range_sound t m ok whole)))

    safe_release_beyond : (d : ℕ) → safe_release d (t, m ++ r) ≡ map_released (beyond r) (safe_release d (t, m))
    safe_release_beyond d =
        safe_release_lem d (t, m ++ r) sound_beyond ∙ release_beyond d ∙ ap (map_released (beyond r)) (sym (safe_release_lem d (t, m) (range_sound t m ok whole)))

  -- more memory makes no difference to the tables in memory as a source
  module _ (tokens : ℕ) (numbers : ℕ → List ℕ) (others : (n : ℕ) → has (numbers n) n ≡ false) where
    taken_twice : (o : Outcome (Joint tokens numbers)) → map_taken (beyond r) (map_taken memory_side o) ≡ map_taken (λ j. beyond r (memory_side j)) o
    taken_twice Spoiled = refl
    taken_twice (Nothing j) = refl
    taken_twice (Took n j) = refl

    released_twice : (o : Released (Joint tokens numbers)) → map_released (beyond r) (map_released memory_side o) ≡ map_released (λ j. beyond r (memory_side j)) o
    released_twice Broken = refl
    released_twice (Passed j) = refl

    pub beyond_follows : Follows (λ j. beyond r (memory_side j)) (joint_source tokens numbers others) memory_source
    beyond_follows = record { takes = takes; releases = releases; sounds = sounds }
      where
        memory : Follows memory_side (joint_source tokens numbers others) memory_source
        memory = memory_follows tokens numbers others

        takes : (j : Joint tokens numbers) → (take_joint tokens numbers others j ≡ Spoiled → ⊥) →
            memory_source.take (beyond r (memory_side j)) ≡ map_taken (λ j. beyond r (memory_side j)) (take_joint tokens numbers others j)
        takes j n =
            let p = (sides_match j).1 in
            safe_take_beyond (memory_side j).0 (memory_side j).1 p.range p.whole ∙ ap (map_taken (beyond r)) (memory.takes j n)
            ∙ taken_twice (take_joint tokens numbers others j)

        releases : (d : ℕ) (j : Joint tokens numbers) → (release_joint tokens numbers others d j ≡ Broken → ⊥) →
            memory_source.release d (beyond r (memory_side j)) ≡ map_released (λ j. beyond r (memory_side j)) (release_joint tokens numbers others d j)
        releases d j n =
            let p = (sides_match j).1 in
            safe_release_beyond (memory_side j).0 (memory_side j).1 p.range p.whole d ∙ ap (map_released (beyond r)) (memory.releases d j n)
            ∙ released_twice (release_joint tokens numbers others d j)

        sounds : (j : Joint tokens numbers) → sound_of (beyond r (memory_side j)) ≡ true
        sounds j =
            let p = (sides_match j).1 in
            sound_beyond (memory_side j).0 (memory_side j).1 p.range p.whole
