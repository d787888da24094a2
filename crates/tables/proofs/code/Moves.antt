-- The passes of a release, one after the other: together they leave the memory of `moved_memory`.
use mathlib.Core.Path.{◌≡◌, refl, sym, ap, ap₂, subst, ◌∙◌}
use mathlib.Core.Bool.{true, false, not}
use mathlib.Core.List.{List, []}
use Prim.Native.Nat.{ℕ, ◌+◌, ◌-◌, ◌<◌, ◌≤◌}
use native.Mathlib.Omega.{arith}
use native.Mathlib.Nat.{add-zero}
use lib.Dec.{eqb}
use lib.ListN.{length, get_or, set, take, drop, replicate, length-replicate}
use lib.Seq.{sets, slice, length-sets, length-slice, get_or-drop, get_or-take}
use Rattle.std.specs.Prelude.{Ok}
use Rattle.rules.specs.Lists.{keep, Below}
use Rattle.rules.proofs.lists.Members.{below_mono, below_keep}
use Rattle.tables.specs.declared.Tables.{Tables}
use Rattle.tables.specs.Facts.{Hold, left_hold}
use Rattle.tables.specs.State.{InRange, marks, table_of, watches_of}
use Rattle.tables.specs.Releasing.{is_free, pick, sifted_from, renewed_in, watchers_in, woken_in, staying_in, staying_watches_in, unsound_in, closed_by, moved_by, moved_tables, moved_memory, release_of, Unwatched}
use Rattle.tables.proofs.memory.Cells.{cell_below, cell_from, take_sets, drop_sets, slice_before, slice_sets, sets_slice}
use Rattle.tables.proofs.memory.MemoryLaws.{slice_same}
use Rattle.tables.proofs.memory.FactsLaws.{left_by, left_low}
use Rattle.tables.proofs.memory.PickLaws.{pick_same, pick_none, new_unheld, new_apart, still_watching, watching_below}
use Rattle.tables.proofs.memory.TableLaws.{table_length, watches_length, in_step, renewed_length, renewed_in_step}
use Rattle.tables.proofs.code.ScanLaws.{Next}
use Rattle.tables.proofs.code.SiftLaws.{sifted_end, watchers_skip, stay_count}
use Rattle.tables.proofs.code.ReleasingLaws.{Gives, tally_nobody, release_moved}

-- nothing moves where none wakes and all stay, over plain variables: the lists of a release are long to compare
same_tables : (t : Tables) {woken staying : ℕ} → woken ≡ 0 → staying ≡ t.held
    → t ≡ record { tokens = t.tokens; count = t.count; first = t.first; end = t.end + woken; held = staying }
same_tables t none all = rw (none, all, add-zero t.end)

same_memory : (m : List ℕ) (end held d : ℕ) {woken staying watching : List ℕ} → held ≤ 4096 → 32768 ≤ length m → woken ≡ []
    → staying ≡ slice 20480 (20480 + held) m → watching ≡ slice 24576 (24576 + held) m → length staying ≡ held
    → set m (16384 + d) 3 ≡ moved_by m end held d woken staying watching
unfolding marks
same_memory m end held d most whole none all kept long =
    let gone : held - held ≡ 0 = omega arith in
    rw (none, long, gone, all, kept, sets_slice m 20480 held (omega arith), sets_slice m 24576 held (omega arith))

module _ (t : Tables) (d : ℕ) (m : List ℕ) (ok : InRange t) (whole : 32768 ≤ length m) where
  abbrev hold : ℕ → Hold
  hold = left_hold (take 20480 m) t.tokens d

  pub woken_below : unsound_in t d m ≡ false → Below 4096 (woken_in t d m)
  woken_below sound =
      subst (Below 4096) (still_watching hold d (λ n v e. left_by (take 20480 m) t.tokens d n v e) (table_of t m) (watches_of t m) sound)
      (below_keep 4096 (λ n. is_free (hold n)) (watchers_in t d m)
      (below_mono (watchers_in t d m) ok.tokens (watching_below hold d t.tokens (λ n h. left_low (take 20480 m) t.tokens d n h) (table_of t m) (watches_of t m) sound)))

  -- the memory with the watches renewed: its table, and its watches
  module _ {m₁ : List ℕ} (renewed : m₁ ≡ sets m 24576 (renewed_in t d m)) where
    renewed_table : slice 20480 (20480 + t.held) m₁ ≡ table_of t m
    renewed_table = ap (slice 20480 (20480 + t.held)) renewed ∙ slice_before (renewed_in t d m) m 24576 20480 (20480 + t.held) (omega (arith, ok.held))

    renewed_watches : slice 24576 (24576 + t.held) m₁ ≡ renewed_in t d m
    renewed_watches =
        let ends : 24576 + t.held ≡ 24576 + length (renewed_in t d m) = omega (arith, renewed_length t m ok whole d) in
        ap (slice 24576 (24576 + t.held)) renewed ∙ ap (λ e. slice 24576 e (sets m 24576 (renewed_in t d m))) ends
        ∙ slice_sets (renewed_in t d m) m 24576 (omega (arith, renewed_length t m ok whole d, ok.held))

    -- the cells before the first that watched the token do not watch it now
    pub renewed_unwatched : {first : ℕ} → first ≤ t.held → Unwatched m d first → Unwatched m₁ d first
    renewed_unwatched h none i below same =
        new_apart hold d (table_of t m) (watches_of t m) i (in_step t m ok whole) (omega (arith, watches_length t m ok whole))
        (λ e. none i below (sym (watch_in m i (omega arith)) ∙ e))
        (ap (λ (l : List ℕ). get_or l i 0) (sym renewed_watches) ∙ watch_in m₁ i (omega arith) ∙ same)
      where
        watch_in : (l : List ℕ) (i : ℕ) → i < t.held → get_or (slice 24576 (24576 + t.held) l) i 0 ≡ get_or l (24576 + i) 0
        watch_in l i below = get_or-drop 24576 (take (24576 + t.held) l) i 0 ∙ get_or-take (24576 + t.held) l (24576 + i) 0 (omega arith)

    woken_same : sifted_from true m₁ 20480 d 0 t.held ≡ woken_in t d m
    woken_same = ap₂ (λ xs ws. pick (λ w. eqb w d) xs ws) renewed_table renewed_watches

    staying_same : sifted_from false m₁ 20480 d 0 t.held ≡ staying_in t d m
    staying_same = ap₂ (λ xs ws. pick (λ w. not (eqb w d)) xs ws) renewed_table renewed_watches

    watching_same : sifted_from false m₁ 24576 d 0 t.held ≡ staying_watches_in t d m
    watching_same = ap₂ (λ xs ws. pick (λ w. not (eqb w d)) xs ws) renewed_watches renewed_watches

    -- those that still watch the token are the woken
    pub woken_allowed : unsound_in t d m ≡ false → Below 4096 (sifted_from true m₁ 20480 d 0 t.held)
    woken_allowed sound = rw woken_same (woken_below sound)

    pub woken_number : {n : ℕ} → n ≡ length (woken_in t d m) → n ≡ length (sifted_from true m₁ 20480 d 0 t.held)
    woken_number n-is = n-is ∙ sym (ap length woken_same)

    pub tables_are : {n : ℕ} → n ≡ length (woken_in t d m)
        → ◌≡◌ {A = Tables} (record { tokens = t.tokens; count = t.count; first = t.first; end = t.end + n; held = length (sifted_from false m₁ 20480 d 0 t.held) })
        (moved_tables t d m)
    unfolding moved_tables
    tables_are n-is = rw (n-is, staying_same)

    pub memory_is : {m' : List ℕ}
        → m' ≡ moved_by m₁ t.end t.held d (sifted_from true m₁ 20480 d 0 t.held) (sifted_from false m₁ 20480 d 0 t.held) (sifted_from false m₁ 24576 d 0 t.held)
        → m' ≡ moved_memory t d m
    unfolding moved_memory
    memory_is e = e ∙ parts woken_same staying_same watching_same ∙ ap (λ l. moved_by l t.end t.held d (woken_in t d m) (staying_in t d m) (staying_watches_in t d m)) renewed
      where
        parts : {w w' s s' v v' : List ℕ} → w ≡ w' → s ≡ s' → v ≡ v' → moved_by m₁ t.end t.held d w s v ≡ moved_by m₁ t.end t.held d w' s' v'
        parts e f g = rw (e, f, g)

    -- where no token wakes nothing moves, and the finished token has its new standing
    module _ (asleep : length (woken_in t d m) ≡ 0) where
      table_stays : (woken_in t d m ≡ []) × (staying_in t d m ≡ table_of t m)
      table_stays = pick_none (λ w. eqb w d) (table_of t m) (renewed_in t d m) (renewed_in_step t m ok whole d) asleep

      watches_stay : staying_watches_in t d m ≡ renewed_in t d m
      watches_stay =
          (pick_none (λ w. eqb w d) (renewed_in t d m) (renewed_in t d m) refl (pick_same (λ w. eqb w d) (renewed_in t d m) (table_of t m) (renewed_in t d m) (renewed_in_step t m ok whole d) ∙ asleep)).1

      staying_held : length (staying_in t d m) ≡ t.held
      staying_held = ap length table_stays.1 ∙ table_length t m ok whole

      pub none_tables : t ≡ moved_tables t d m
      unfolding moved_tables
      none_tables = same_tables t asleep staying_held

      pub none_memory : set m₁ (16384 + d) 3 ≡ moved_memory t d m
      unfolding moved_memory
      none_memory =
          same_memory m₁ t.end t.held d ok.held (rw (renewed, length-sets m 24576 (renewed_in t d m)) whole) table_stays.0
          (table_stays.1 ∙ sym renewed_table) (watches_stay ∙ sym renewed_watches) staying_held
          ∙ ap (λ l. moved_by l t.end t.held d (woken_in t d m) (staying_in t d m) (staying_watches_in t d m)) renewed

  -- where no token watches it all watches are as before
  module _ (nobody : sifted_from true m 20480 d 0 t.held ≡ []) where
    pub nobody_renewed : m ≡ sets m 24576 (renewed_in t d m)
    unfolding keep
    nobody_renewed =
        let same : renewed_in t d m ≡ watches_of t m = new_unheld hold d (table_of t m) (watches_of t m) (in_step t m ok whole) (rw nobody) in
        sym (rw same (sets_slice m 24576 t.held (omega (arith, ok.held))))

    pub nobody_woken : length (woken_in t d m) ≡ 0
    nobody_woken = ap length (sym (woken_same {m₁ = m} nobody_renewed) ∙ nobody)

  -- a finish that no token watches
  pub release_nobody : d < t.tokens → {r : ℕ} → Next m d 0 t.held r → t.held ≤ r → Gives m (release_of t d m) (Ok t) (set m (16384 + d) 3)
  release_nobody inside next none =
      let nobody : sifted_from true m 20480 d 0 t.held ≡ [] =
      watchers_skip m 20480 d t.held (omega (arith, ok.held)) (omega (arith, ok.held)) next ∙ sifted_end true m 20480 d _ t.held next.upto none in
      release_moved t d m inside refl (tally_nobody hold nobody) (omega (arith, ok.end))
      (none_tables {m₁ = m} (nobody_renewed nobody) (nobody_woken nobody)) (none_memory {m₁ = m} (nobody_renewed nobody) (nobody_woken nobody))

-- closing up: the tokens, their watches, and the freed cells of both
module _ (m : List ℕ) (d held : ℕ) (whole : 32768 ≤ length m) (most : held ≤ 4096) where
  -- those that watch the token, and the others, are at most all
  stay_length : length (sifted_from false m 20480 d 0 held) ≤ held
  stay_length = omega (arith, stay_count m 20480 d held (omega arith) (omega arith) {cell = 0} (omega arith))

  pub watchers_most : {n : ℕ} → n ≡ length (sifted_from true m 20480 d 0 held) → n ≤ held
  watchers_most n-is = omega (arith, stay_count m 20480 d held (omega arith) (omega arith) {cell = 0} (omega arith))

  -- as many as do not watch it
  pub stay_is : {n : ℕ} → n ≡ length (sifted_from true m 20480 d 0 held) → held - n ≡ length (sifted_from false m 20480 d 0 held)
  stay_is n-is = omega (arith, stay_count m 20480 d held (omega arith) (omega arith) {cell = 0} (omega arith))

  module _ {m₁ : List ℕ} (closed : m₁ ≡ sets m 20480 (sifted_from false m 20480 d 0 held)) where
    pub closed_length : length m₁ ≡ length m
    closed_length = rw closed (length-sets m 20480 (sifted_from false m 20480 d 0 held))

    watches_kept : slice 24576 (24576 + held) m₁ ≡ slice 24576 (24576 + held) m
    watches_kept =
        slice_same m m₁ 24576 24576 (24576 + held)
        (ap (drop 24576) closed ∙ drop_sets (sifted_from false m 20480 d 0 held) m 20480 24576 (omega (arith, stay_length)))
        (omega arith) (omega arith) (omega arith) closed_length

    watching_kept : sifted_from false m₁ 24576 d 0 held ≡ sifted_from false m 24576 d 0 held
    watching_kept = ap (λ ws. pick (λ w. not (eqb w d)) ws ws) watches_kept

    -- the watches are there for the second part: their cells, and as many of them are the number
    pub closed_unwatched : {first : ℕ} → first ≤ held → Unwatched m d first → Unwatched m₁ d first
    closed_unwatched h none i below same =
        none i below (sym (cell_from m m₁ 24576 (24576 + i) (ap (drop 24576) closed ∙ drop_sets (sifted_from false m 20480 d 0 held) m 20480 24576 (omega (arith, stay_length))) (omega arith)) ∙ same)

    pub closed_count : {n : ℕ} → n ≡ length (sifted_from true m 20480 d 0 held) → n ≡ length (sifted_from true m₁ 24576 d 0 held)
    closed_count n-is =
        n-is
        ∙ pick_same (λ w. eqb w d) (slice 20480 (20480 + held) m) (slice 24576 (24576 + held) m) (slice 24576 (24576 + held) m)
        (omega (arith, length-slice 20480 (20480 + held) m (omega arith), length-slice 24576 (24576 + held) m (omega arith)))
        ∙ sym (ap (λ ws. length (pick (λ w. eqb w d) ws ws)) watches_kept)

    pub closed_up : {n kept : ℕ} {m₂ m₃ m₄ : List ℕ} → n ≡ length (sifted_from true m 20480 d 0 held) → kept ≡ held - n
        → m₂ ≡ sets m₁ 24576 (sifted_from false m₁ 24576 d 0 held)
        → m₃ ≡ sets m₂ (20480 + kept) (replicate (20480 + held - (20480 + kept)) 0) → m₄ ≡ sets m₃ (24576 + kept) (replicate (24576 + held - (24576 + kept)) 0)
        → m₄ ≡ closed_by m held (sifted_from false m 20480 d 0 held) (sifted_from false m 24576 d 0 held)
    closed_up {n} {kept} n-is kept_is e₂ e₃ e₄ =
        let k : ℕ = length (sifted_from false m 20480 d 0 held) in
        let kept-k : kept ≡ k = kept_is ∙ stay_is n-is in
        let rest : 20480 + held - (20480 + k) ≡ held - k = omega arith in
        let rest' : 24576 + held - (24576 + k) ≡ held - k = omega arith in
        rw (e₄, e₃, e₂, kept-k, rest, rest', watching_kept, closed)

-- moving the woken, from the memory with the watches renewed
module _ (m : List ℕ) (end d held : ℕ) (whole : 32768 ≤ length m) (most : held ≤ 4096) {n : ℕ} (n-is : n ≡ length (sifted_from true m 20480 d 0 held))
    (room : end + n ≤ 4096) {m₁ : List ℕ} (queued : m₁ ≡ sets m (28672 + end) (sifted_from true m 20480 d 0 held)) where
  pub queued_length : length m₁ ≡ length m
  queued_length = rw queued (length-sets m (28672 + end) (sifted_from true m 20480 d 0 held))

  queued_slice : (f : ℕ) → f ≤ 24576 → slice f (f + held) m₁ ≡ slice f (f + held) m
  queued_slice f h = ap (slice f (f + held)) queued ∙ slice_before (sifted_from true m 20480 d 0 held) m (28672 + end) f (f + held) (omega arith)

  pub queued_staying : sifted_from false m₁ 20480 d 0 held ≡ sifted_from false m 20480 d 0 held
  queued_staying = ap₂ (λ xs ws. pick (λ w. not (eqb w d)) xs ws) (queued_slice 20480 (omega arith)) (queued_slice 24576 (omega arith))

  queued_watching : sifted_from false m₁ 24576 d 0 held ≡ sifted_from false m 24576 d 0 held
  queued_watching = ap (λ ws. pick (λ w. not (eqb w d)) ws ws) (queued_slice 24576 (omega arith))

  queued_woken : sifted_from true m₁ 20480 d 0 held ≡ sifted_from true m 20480 d 0 held
  queued_woken = ap₂ (λ xs ws. pick (λ w. eqb w d) xs ws) (queued_slice 20480 (omega arith)) (queued_slice 24576 (omega arith))

  pub queued_count : n ≡ length (sifted_from true m₁ 20480 d 0 held)
  queued_count = n-is ∙ sym (ap length queued_woken)

  pub queued_unwatched : {first : ℕ} → first ≤ held → Unwatched m d first → Unwatched m₁ d first
  queued_unwatched h none i below same =
      none i below (sym (cell_below m m₁ 28672 (24576 + i) (ap (take 28672) queued ∙ take_sets (sifted_from true m 20480 d 0 held) m (28672 + end) 28672 (omega arith)) (omega arith)) ∙ same)

  module _ {m₂ : List ℕ} (closed : m₂ ≡ closed_by m₁ held (sifted_from false m₁ 20480 d 0 held) (sifted_from false m₁ 24576 d 0 held)) where
    closed_behind : drop 28672 m₂ ≡ drop 28672 m₁
    closed_behind =
        let s : List ℕ = sifted_from false m₁ 20480 d 0 held in
        let v : List ℕ = sifted_from false m₁ 24576 d 0 held in
        let z : List ℕ = replicate (held - length s) 0 in
        let zeros : length z ≡ held - length s = length-replicate (held - length s) 0 in
        let short : length s ≤ held = stay_length m₁ d held (omega (arith, queued_length)) most in
        let narrow : length v ≤ held = omega (arith, stay_count m₁ 24576 d held (omega (arith, queued_length)) (omega (arith, queued_length)) {cell = 0} (omega arith)) in
        rw closed
        (drop_sets z (sets (sets (sets m₁ 20480 s) 24576 v) (20480 + length s) z) (24576 + length s) 28672 (omega arith)
        ∙ drop_sets z (sets (sets m₁ 20480 s) 24576 v) (20480 + length s) 28672 (omega arith)
        ∙ drop_sets v (sets m₁ 20480 s) 24576 28672 (omega arith)
        ∙ drop_sets s m₁ 20480 28672 (omega arith))

    closed_long : length m₂ ≡ length m₁
    closed_long = rw closed (simp length-sets)

    -- the cells of the ready queue from its end on hold the woken tokens
    pub queue_is : slice (28672 + end) (28672 + end + n) m₂ ≡ sifted_from true m 20480 d 0 held
    queue_is =
        slice_same m₁ m₂ 28672 (28672 + end) (28672 + end + n) closed_behind (omega arith) (omega arith) (omega (arith, queued_length)) closed_long
        ∙ ap (slice (28672 + end) (28672 + end + n)) queued
        ∙ rw n-is (slice_sets (sifted_from true m 20480 d 0 held) m (28672 + end) (omega arith))

    pub marks_allowed : Below 4096 (sifted_from true m 20480 d 0 held) → Below 4096 (slice (28672 + end) (28672 + end + n) m₂)
    marks_allowed low = rw queue_is low

    pub moved_is : {m₃ : List ℕ} → m₃ ≡ marks m₂ 2 (slice (28672 + end) (28672 + end + n) m₂)
        → set m₃ (16384 + d) 3 ≡ moved_by m end held d (sifted_from true m 20480 d 0 held) (sifted_from false m 20480 d 0 held) (sifted_from false m 24576 d 0 held)
    moved_is marked = rw (marked, queue_is, closed, queued_staying, queued_watching, queued)
