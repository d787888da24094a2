-- Taking keeps the match between the tables in memory and the rules' tables, and gives the same token.
use mathlib.Core.Path.{◌≡◌, refl, sym, ap, ap₂, ◌∙◌, fun_ext, subst}
use mathlib.Core.Bool.{Bool, true, false, true≢false}
use mathlib.Core.List.{List, [], ◌∷◌, ◌++◌, map}
use Prim.Native.Nat.{ℕ, suc, ◌+◌, ◌-◌, ◌<◌, ◌≤◌}
use native.Mathlib.Omega.{arith}
use borrow.Author.Tests.{lt-ltb, le-ltb, le-leb, eqb-true, eqb-false, ltb-true, ltb-false, leb-true}
use lib.Dec.{leb, ltb, eqb}
use lib.ListN.{length, get_or, take, drop, set, length-set, length-map}
use lib.Seq.{take-set-le, drop-set-lt, sets, slice, slice-cons, length-slice, length-sets}
use Rattle.std.specs.Prelude.{Ok}
use Rattle.rules.specs.Lists.{if, has, times, range, Below}
use Rattle.rules.specs.TakingTokens.{none, took, tokens_of, take_new, take_from}
use Rattle.rules.specs.TakingTokens as rules
use Rattle.rules.specs.Sources.{Taken as Outcome, Nothing, Took}
use Rattle.tables.specs.declared.Tables.{Tables}
use Rattle.tables.specs.Facts.{standing_of}
use Rattle.tables.specs.State.{State, span, marks}
use Rattle.tables.specs.Taking.{find_of, watch_of, deferred_by, deferred_upto, with_count, without_first, take_upto, take_ready, take_of}
use Rattle.tables.specs.Matching.{Watched, Standing, Match, nobody, only}
use Rattle.rules.proofs.lists.Tests.{if_eta, by_test}
use Rattle.rules.proofs.lists.Counting.{times_none}
use Rattle.rules.proofs.lists.Members.{below_range, length_range}
use Rattle.tables.proofs.memory.Cells.{take_less, take_sets, drop_sets, drop_more, slice_before}
use Rattle.tables.proofs.memory.MemoryLaws.{standing_set, length_marks, take_marks, drop_marks, standing_marks, recorded_kept, slice_append, slice_same}
use Rattle.tables.proofs.matching.RuleTaking.{Passing, held_of, after, AllDue, Together, new_tokens, new_standing, tokens_after, watched_new, watched_append, marked, waiting_same}
use Rattle.tables.proofs.matching.StandingLaws.{ready_low}

-- the memory's outcome of taking stands for the rules' one
abbrev pub TakenMatch : ℕ → (ℕ → List ℕ) → rules.Taken → Outcome State → Type 0
TakenMatch tokens numbers (none a) o = (x : State) × (o ≡ Nothing x) × Match tokens numbers a x nobody
TakenMatch tokens numbers (took n a) o = (x : State) × (o ≡ Took n x) × Match tokens numbers a x (only n)

-- the standings after the oldest ready token left the queue, and its own was cleared
module _ (numbers : ℕ → List ℕ) (a : rules.Tables) (s : ℕ → ℕ) (n : ℕ) (rest : List ℕ) (e : a.ready ≡ n ∷ rest) (p : Standing numbers a s nobody) where
  without : ℕ → ℕ
  without j = if (eqb n j) 0 (s j)

  in_queue : (j : ℕ) → has a.ready j ≡ if (eqb n j) true (has rest j)
  unfolding has
  in_queue j = rw e

  was_ready : (j : ℕ) → eqb n j ≡ true → s j ≡ 2
  was_ready j o = eqb-true (s j) 2 (sym (p.queued j) ∙ rw (in_queue j, o))

  -- no other test of a standing than that for 2 sees the change
  same_but : (v j : ℕ) → eqb 2 v ≡ false → eqb 0 v ≡ false → eqb (s j) v ≡ eqb (without j) v
  unfolding without
  same_but v j two zero = by_test (eqb n j) (λ o. rw (o, was_ready j o, two, zero)) (λ o. rw o)

  new_once : (j : ℕ) → times j (tokens_of a.deferred) + times j rest ≤ 1
  unfolding times
  new_once j = omega (arith, rw e at (p.once j))

  new_queued : (j : ℕ) → has rest j ≡ eqb (without j) 2
  unfolding without times
  new_queued j = by_test (eqb n j)
      (λ o. rw o (times_none rest j (omega (arith, rw (e, o) at (p.once j)))))
      (λ o. rw o (sym (rw (in_queue j, o)) ∙ p.queued j))

  ready_standing : Standing numbers (record { count = a.count; ready = rest; deferred = a.deferred }) without (only n)
  unfolding without
  ready_standing =
      record {
        waiting = waiting_same numbers s without (λ j. same_but 3 j refl refl) a.deferred p.waiting;
        marked = λ j. p.marked j ∙ same_but 1 j refl refl;
        queued = new_queued;
        once = new_once;
        fresh = λ j l. by_test (eqb n j) (λ o. rw o) (λ o. rw o (p.fresh j l));
        settled = λ j l x y o. rw o (p.settled j l x (rw (in_queue j, o) y) refl);
        outside = λ j o. (rw o, (let j-is : n ≡ j = eqb-true n j o in omega (arith, (rw e at (ready_low p)).0)));
      }

module _ (tokens : ℕ) (numbers : ℕ → List ℕ) (a : rules.Tables) (t : Tables) (m : List ℕ) (p : Match tokens numbers a (t, m) nobody) where
  -- a ready token
  pub ready_match : (n : ℕ) (rest : List ℕ) → a.ready ≡ n ∷ rest
      → TakenMatch tokens numbers (took n (record { count = a.count; ready = rest; deferred = a.deferred })) (take_of t m)
  unfolding take_of take_ready without
  ready_match n rest e =
      let long : length (slice (28672 + t.first) (28672 + t.end) m) ≡ (28672 + t.end) - (28672 + t.first) =
      length-slice (28672 + t.first) (28672 + t.end) m (omega (arith, p.range.end, p.whole)) in
      let some : t.first < t.end = omega (arith, long, ap length (p.queue ∙ e)) in
      let cells : get_or m (28672 + t.first) 0 ∷ slice (suc (28672 + t.first)) (28672 + t.end) m ≡ n ∷ rest =
      sym (slice-cons (28672 + t.first) (28672 + t.end) m 0 (omega arith) (omega (arith, p.range.end, p.whole))) ∙ p.queue ∙ e in
      let token_is : get_or m (28672 + t.first) 0 ≡ n = cc in
      let rest_is : slice (suc (28672 + t.first)) (28672 + t.end) m ≡ rest = cc in
      let low : n < a.count = (rw e at (ready_low p.standing)).0 in
      let small : n < 4096 = omega (arith, p.range.count, p.count, p.range.tokens) in
      let cleared : List ℕ = set m (16384 + n) 0 in
      let long : length cleared ≡ length m = length-set m (16384 + n) 0 in
      let tables : drop 20480 cleared ≡ drop 20480 m = drop-set-lt 20480 m (16384 + n) 0 (omega arith) in
      let standing : standing_of (take 20480 cleared) ≡ without numbers a (standing_of (take 20480 m)) n rest e p.standing =
      fun_ext (λ j. standing_set m p.whole n 0 j small) in
      let next : suc (28672 + t.first) ≡ 28672 + (t.first + 1) = omega arith in (
        (without_first t, cleared),
        rw (lt-ltb t.first t.end some, token_is, lt-ltb n t.tokens (omega (arith, p.range.count, p.count))),
        record {
          range = record { tokens = p.range.tokens; count = p.range.count; queue = omega arith; end = p.range.end; held = p.range.held };
          whole = rw long p.whole;
          size = p.size;
          count = p.count;
          room = p.room;
          queue =
              slice_same m cleared 20480 (28672 + (t.first + 1)) (28672 + t.end) tables (omega arith) (omega arith)
              (omega (arith, p.range.end, p.whole)) long
              ∙ (rw next at rest_is);
          table =
              slice_same m cleared 20480 20480 (20480 + t.held) tables (omega arith) (omega arith) (omega (arith, p.range.held, p.whole)) long ∙ p.table;
          watched =
              subst (Watched a.deferred)
              (sym (slice_same m cleared 20480 24576 (24576 + t.held) tables (omega arith) (omega arith) (omega (arith, p.range.held, p.whole)) long))
              p.watched;
          records = λ j l.
              recorded_kept m cleared (take-set-le 16384 m (16384 + n) 0 (omega arith)) long p.whole j (omega (arith, p.range.tokens, p.size))
              (p.records j l);
          standing = rw standing (ready_standing numbers a (standing_of (take 20480 m)) n rest e p.standing);
        },
      )

  -- with no token ready, k tokens are deferred
  module _ (k count : ℕ) (out : ℕ → Bool) (past : a.count + k ≤ count) (inside : count ≤ tokens) (due : AllDue numbers (take 20480 m) a.count (range a.count k))
      (after_standing : Standing numbers (after numbers (take 20480 m) a.count a k count)
      (marked (standing_of (take 20480 m)) 1 (range a.count k)) out) where
    passed : List ℕ
    passed = range a.count k

    watches : List ℕ
    watches = map (watch_of (take 20480 m) a.count) (range a.count k)

    joined : List ℕ
    joined = sets m (20480 + t.held) passed

    entered : List ℕ
    entered = sets joined (24576 + t.held) watches

    left : List ℕ
    left = marks entered 1 passed

    passed_length : length passed ≡ k
    unfolding passed
    passed_length = length_range a.count k

    watches_length : length watches ≡ k
    unfolding watches
    watches_length = length-map (range a.count k) (watch_of (take 20480 m) a.count) ∙ length_range a.count k

    fits_left : t.held + k ≤ 4096
    fits_left = omega (arith, p.room, p.count, p.range.tokens, p.size)

    passed_below : Below 4096 passed
    unfolding passed
    passed_below = below_range 4096 a.count k (omega (arith, p.range.tokens, p.size))

    joined_length : length joined ≡ length m
    unfolding joined
    joined_length = length-sets m (20480 + t.held) passed

    entered_length : length entered ≡ length m
    unfolding entered
    entered_length = length-sets joined (24576 + t.held) watches ∙ joined_length

    left_length : length left ≡ length m
    unfolding left
    left_length = length_marks entered 1 passed ∙ entered_length

    facts_entered : take 20480 entered ≡ take 20480 m
    unfolding entered joined
    facts_entered = take_sets watches joined (24576 + t.held) 20480 (omega arith) ∙ take_sets passed m (20480 + t.held) 20480 (omega arith)

    tables_left : drop 20480 left ≡ drop 20480 entered
    unfolding left
    tables_left = drop_marks entered 1 passed passed_below

    watches_joined : drop 24576 joined ≡ drop 24576 m
    unfolding joined
    watches_joined = drop_sets passed m (20480 + t.held) 24576 (omega (arith, passed_length, fits_left))

    queue_left : drop 28672 left ≡ drop 28672 m
    unfolding entered
    queue_left =
        drop_more entered left 20480 28672 tables_left (omega arith)
        ∙ drop_sets watches joined (24576 + t.held) 28672 (omega (arith, watches_length, fits_left))
        ∙ drop_more m joined 24576 28672 watches_joined (omega arith)

    records_left : take 16384 left ≡ take 16384 m
    unfolding left
    records_left = take_marks entered 1 passed ∙ take_less m entered 20480 16384 facts_entered (omega arith)

    standing_left : standing_of (take 20480 left) ≡ marked (standing_of (take 20480 m)) 1 passed
    unfolding left
    standing_left =
        fun_ext (λ n.
        standing_marks entered 1 passed (subst (λ k. 32768 ≤ k) (sym entered_length) p.whole) passed_below n
        ∙ ap (λ f. marked (standing_of f) 1 passed n) facts_entered)

    table_left : slice 20480 (20480 + (t.held + k)) left ≡ tokens_of a.deferred ++ passed
    unfolding entered joined
    table_left =
        let ends : 20480 + (t.held + k) ≡ 20480 + t.held + length passed = omega (arith, passed_length) in
        let fits : 20480 + t.held + length passed ≤ length m = omega (arith, passed_length, fits_left, p.whole) in
        slice_same entered left 20480 20480 (20480 + (t.held + k)) tables_left (omega arith) (omega arith)
        (omega (arith, entered_length, passed_length)) (left_length ∙ sym entered_length)
        ∙ slice_before watches joined (24576 + t.held) 20480 (20480 + (t.held + k)) (omega (arith, fits_left))
        ∙ ap (λ e. slice 20480 e joined) ends
        ∙ slice_append passed m 20480 (20480 + t.held) (omega arith) fits
        ∙ ap (λ l. l ++ passed) p.table

    watches_left : slice 24576 (24576 + (t.held + k)) left ≡ slice 24576 (24576 + t.held) m ++ watches
    unfolding entered
    watches_left =
        let ends : 24576 + (t.held + k) ≡ 24576 + t.held + length watches = omega (arith, watches_length) in
        let fits : 24576 + t.held + length watches ≤ length joined = omega (arith, watches_length, joined_length, fits_left, p.whole) in
        slice_same entered left 20480 24576 (24576 + (t.held + k)) tables_left (omega arith) (omega arith)
        (omega (arith, entered_length, joined_length, watches_length)) (left_length ∙ sym entered_length)
        ∙ ap (λ e. slice 24576 e entered) ends
        ∙ slice_append watches joined 24576 (24576 + t.held) (omega arith) fits
        ∙ ap (λ l. l ++ watches)
        (slice_same m joined 24576 24576 (24576 + t.held) watches_joined (omega arith) (omega arith) (omega (arith, p.range.held, p.whole)) joined_length)

    watched_left : Watched (a.deferred ++ map (held_of numbers (take 20480 m) a.count) (range a.count k)) (slice 24576 (24576 + (t.held + k)) left)
    unfolding watches
    watched_left =
        subst (Watched (a.deferred ++ map (held_of numbers (take 20480 m) a.count) (range a.count k))) (sym watches_left)
        (watched_append a.deferred (map (held_of numbers (take 20480 m) a.count) (range a.count k)) (slice 24576 (24576 + t.held) m) watches p.watched
        (watched_new numbers (take 20480 m) a.count tokens a.count k p.records (omega arith) due))

    deferred_match : (count' : ℕ) → count' ≡ count →
        Match tokens numbers (after numbers (take 20480 m) a.count a k count) (with_count t (a.count + k) count', left) out
    unfolding passed
    deferred_match count' count_is =
        let new : (a.count + k) - t.count ≡ k = omega (arith, p.count) in
        record {
          range = record {
            tokens = p.range.tokens;
            count = omega (arith, p.size);
            queue = p.range.queue;
            end = p.range.end;
            held = omega
                (arith, p.room, p.count, p.range.tokens, p.size);
          };
          whole = rw left_length p.whole;
          size = p.size;
          count = count_is;
          room = omega (arith, p.room, p.count);
          queue = slice_same m left 28672 (28672 + t.first) (28672 + t.end) queue_left (omega arith) (omega (arith, p.range.queue))
              (omega (arith, p.range.end, p.whole)) left_length ∙ p.queue;
          table = rw (new, tokens_after numbers (take 20480 m) a.count a.deferred (range a.count k)) table_left;
          watched = rw new watched_left;
          records = λ n l. recorded_kept m left records_left left_length p.whole n (omega (arith, p.range.tokens, p.size)) (p.records n l);
          standing = rw standing_left after_standing;
        }

  module _ (self : (n : ℕ) → has (numbers n) n ≡ false) (none_ready : a.ready ≡ []) where
    nothing_passed : Passing (take 20480 m) a.count a
    nothing_passed =
        record {
          from = omega arith;
          held = λ n. p.standing.marked n
              ∙ sym (ap (λ b. if (eqb (standing_of (take 20480 m) n) 1) true b) (none n) ∙ if_eta (eqb (standing_of (take 20480 m) n) 1));
        }
      where
        none : (n : ℕ) → if (leb a.count n) (ltb n a.count) false ≡ false
        none n = by_test (leb a.count n) (λ e. rw (e, le-ltb n a.count (leb-true a.count n e))) (λ e. rw e)

    together : Together numbers (take 20480 m) a.count tokens (tokens - a.count) a
    together = new_tokens numbers (take 20480 m) a.count tokens (tokens - a.count) a p.records nothing_passed
        (omega (arith, p.range.count, p.count, p.size))

    k : ℕ
    k = together.0

    queue_empty : t.end ≤ t.first
    unfolding has
    queue_empty =
        omega (arith, length-slice (28672 + t.first) (28672 + t.end) m (omega (arith, p.range.end, p.whole)), ap length (p.queue ∙ none_ready))

    -- the memory takes up to the same token
    found : find_of (take 20480 m) t.tokens t.count ≡ Ok (a.count + k)
    unfolding find_of k
    found = ap₂ (λ n c. find_of (take 20480 m) n c) p.size p.count ∙ together.2

    takes : take_of t m ≡ take_upto t m (Ok (a.count + k))
    unfolding take_of
    takes = rw (le-ltb t.first t.end queue_empty, found)

    memory_is : deferred_upto t (a.count + k) m ≡ deferred_by m t.held (range a.count k) (map (watch_of (take 20480 m) a.count) (range a.count k))
    unfolding deferred_upto
    memory_is = ap₂ (λ c l. deferred_by m t.held l (map (watch_of (take 20480 m) c) l)) p.count span_is
      where
        span_is : span t.count (a.count + k) ≡ range a.count k
        span_is = ap₂ range p.count (omega (arith, p.count))

    room_left : leb (t.held + ((a.count + k) - t.count)) 4096 ≡ true
    unfolding k
    room_left = le-leb (t.held + ((a.count + together.0) - t.count)) 4096
        (omega (arith, together.1, p.room, p.count, p.size, p.range.count, p.range.tokens))

    last_within : a.count + k ≤ tokens
    unfolding k
    last_within = omega (arith, together.1, p.range.count, p.count, p.size)

    took_match : ltb (a.count + k) tokens ≡ true
        → TakenMatch tokens numbers (took (a.count + k) (after numbers (take 20480 m) a.count a k (suc (a.count + k)))) (take_of t m)
    unfolding take_upto left entered joined watches passed k
    took_match e =
        let u : ℕ = a.count + together.0 in
        let less : u < tokens = ltb-true u tokens e in
        let standing =
        new_standing numbers self (take 20480 m) a p.standing none_ready together.0 (suc u) (only u) (omega arith) together.4
        (λ n l o. omega (arith, eqb-false u n o)) (λ n o. let n-is : u ≡ n = eqb-true u n o in omega arith) in (
          (
            with_count t u (u + 1),
            deferred_by m t.held (range a.count together.0) (map (watch_of (take 20480 m) a.count) (range a.count together.0)),
          ),
          takes ∙ rw (room_left, lt-ltb u t.tokens (omega (arith, p.size)), memory_is),
          deferred_match together.0 (suc u) (only u) (omega arith) (omega arith) together.4 standing (u + 1) (omega arith),
        )

    none_match : ltb (a.count + k) tokens ≡ false
        → TakenMatch tokens numbers (none (after numbers (take 20480 m) a.count a k (a.count + k))) (take_of t m)
    unfolding take_upto left entered joined watches passed k
    none_match e =
        let u : ℕ = a.count + together.0 in
        let standing =
        new_standing numbers self (take 20480 m) a p.standing none_ready together.0 u nobody (omega arith) together.4
        (λ n l o. l) (λ n o. absurd (true≢false (sym o))) in (
          (
            with_count t u u,
            deferred_by m t.held (range a.count together.0) (map (watch_of (take 20480 m) a.count) (range a.count together.0)),
          ),
          takes ∙ rw (room_left, le-ltb u t.tokens (omega (arith, p.size, ltb-false u tokens e)), memory_is),
          deferred_match together.0 u nobody (omega arith) last_within together.4 standing u refl,
        )

    pub new_match : TakenMatch tokens numbers (take_new numbers (tokens - a.count) a) (take_of t m)
    unfolding k
    new_match =
        subst (λ r. TakenMatch tokens numbers r (take_of t m)) (sym together.3)
        (by_test (ltb (a.count + together.0) tokens) (λ e. rw e (took_match e)) (λ e. rw e (none_match e)))

  -- taking, from the ready queue or a new token
  pub take_match : ((n : ℕ) → has (numbers n) n ≡ false) → TakenMatch tokens numbers (rules.take tokens numbers a) (take_of t m)
  unfolding rules.take take_from
  take_match self = go a.ready refl
    where
      go : (l : List ℕ) → a.ready ≡ l → TakenMatch tokens numbers (take_from numbers (tokens - a.count) l a) (take_of t m)
      go [] e = new_match self e
      go (n ∷ rest) e = ready_match n rest e
