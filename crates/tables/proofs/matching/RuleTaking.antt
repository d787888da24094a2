-- Taking by the rules, against the search for the first free token.
use mathlib.Core.Path.{◌≡◌, refl, sym, ap, ◌∙◌}
use mathlib.Core.Bool.{Bool, true, false, not, true≢false}
use mathlib.Core.List.{List, [], ◌∷◌, ◌++◌, map, append-nil}
use Prim.Native.Nat.{ℕ, zero, suc, ◌+◌, ◌<◌, ◌≤◌}
use native.Mathlib.Omega.{arith}
use native.Mathlib.Nat.{add-zero}
use borrow.Author.Tests.{lt-ltb, le-ltb, le-leb, lt-leb, ne_eqb, ltb-true, ltb-false, leb-true, leb-false, eqb-true, eqb-false}
use lib.Dec.{leb, ltb, eqb}
use lib.Seq.{append_snoc}
use Rattle.std.specs.Prelude.{Ok}
use Rattle.rules.specs.Lists.{if, keep, has, times, Every, any, range}
use Rattle.rules.specs.TakingTokens.{Held, Taken, none, took, tokens_of, is_due, raised, hold, take_new}
use Rattle.rules.specs.TakingTokens as rules
use Rattle.tables.specs.Facts.{standing_of, due_of, last_of, hold_as, hold_of, new_hold}
use Rattle.tables.specs.Taking.{first_free, watch_of}
use Rattle.tables.specs.Matching.{Recorded, Waits, Watched, Standing, nobody}
use Rattle.rules.proofs.lists.Tests.{if_same, if_eta, bool_ext, by_test}
use Rattle.rules.proofs.lists.Members.{has_append, has_range, empty_keep, keep_cong, keep_same}
use Rattle.rules.proofs.lists.Counting.{members, has_keep, times_append}
use Rattle.rules.proofs.lists.EveryLaws.{every_weaken, every_append}
use Rattle.tables.proofs.memory.FactsLaws.{last_free, last_by}

pub tokens_append : (l r : List Held) → tokens_of (l ++ r) ≡ tokens_of l ++ tokens_of r
tokens_append [] r = refl
tokens_append (h ∷ l) r = ap (λ x. h.token ∷ x) (tokens_append l r)

module _ (f : List ℕ) (c : ℕ) where
  -- while tokens from Count c on are passed over, the rules' table has those that were deferred and those passed
  pub record Passing (a : rules.Tables) : Type 0 where
    pub from : c ≤ a.count
    pub held : (n : ℕ) → has (tokens_of a.deferred) n ≡ if (eqb (standing_of f n) 1) true (if (leb c n) (ltb n a.count) false)

  -- then a number is due by the rules exactly if it is due by the standings
  due_cases : (i n : ℕ) → c ≤ i → if (leb (suc i) n) true (if (leb c n) (ltb n i) false) ≡ if (ltb n c) false (not (eqb n i))
  due_cases i n h =
      by_test (ltb n c)
      (λ l. let k : n < c = ltb-true n c l in rw (l, lt-leb (suc i) n (omega arith), lt-leb c n k))
      (λ l. let k : c ≤ n = ltb-false n c l in rw (l, le-leb c n k)
      (by_test (eqb n i)
      (λ e. let x : n ≡ i = eqb-true n i e in rw (e, lt-leb (suc i) n (omega arith), le-ltb n i (omega arith)))
      (λ e. let x : n ≡ i → ⊥ = eqb-false n i e in rw e
      (by_test (ltb n i)
      (λ y. rw y (if_same (leb (suc i) n) true))
      (λ y. rw (le-leb (suc i) n (omega (arith, ltb-false n i y, x))))))))

  pub due_same : (a : rules.Tables) → Passing a → (n : ℕ) → is_due (raised a) n ≡ due_of f c a.count n
  unfolding is_due due_of
  due_same a p n =
      rw (p.held n)
      (by_test (eqb (standing_of f n) 1)
      (λ e. rw e (if_same (leb (suc a.count) n) true))
      (λ e. rw e (due_cases a.count n p.from)))

  -- and a token that is passed over joins the table
  hold_cases : (i n : ℕ) → c ≤ i
      → if (if (leb c n) (ltb n i) false) true (if (eqb i n) true false) ≡ if (leb c n) (ltb n (suc i)) false
  hold_cases i n h =
      by_test (eqb i n)
      (λ e. let x : i ≡ n = eqb-true i n e in rw (e, le-leb c n (omega arith), lt-ltb n (suc i) (omega arith)) (if_same (ltb n i) true))
      (λ e. let x : i ≡ n → ⊥ = eqb-false i n e in rw e
      (by_test (leb c n)
      (λ y. rw y (bool_ext _ _
      (λ z. by_test (ltb n i) (λ w. lt-ltb n (suc i) (omega (arith, ltb-true n i w))) (λ w. absurd (true≢false (sym (rw w at z)))))
      (λ z. rw (lt-ltb n i (omega (arith, ltb-true n (suc i) z, x))))))
      (λ y. rw y)))

  pub hold_passing : (a : rules.Tables) (due : List ℕ) → Passing a → Passing (hold (raised a) a.count due)
  unfolding has
  hold_passing a due p =
      record {
        from = omega (arith, p.from);
        held = λ n.
            rw (
              tokens_append a.deferred (record { token = a.count; due = due } ∷ []),
              has_append (tokens_of a.deferred) (a.count ∷ []) n,
              p.held n,
            )
            (by_test (eqb (standing_of f n) 1)
            (λ e. rw e)
            (λ e. rw e (hold_cases a.count n p.from)));
      }

module _ (numbers : ℕ → List ℕ) (f : List ℕ) (c : ℕ) where
  -- a token deferred while Count was c at entry
  abbrev pub held_of : ℕ → Held
  held_of t = record { token = t; due = keep (due_of f c t) (numbers t) }

  -- the rules' tables after k tokens were passed over
  abbrev pub after : rules.Tables → ℕ → ℕ → rules.Tables
  after a k count = record { count = count; ready = a.ready; deferred = a.deferred ++ map held_of (range a.count k) }

  -- each of some tokens has a number that is due
  abbrev pub AllDue : List ℕ → Type 0
  AllDue [] = Unit {0}
  AllDue (t ∷ ts) = (any (due_of f c t) (numbers t) ≡ true) × AllDue ts

module _ (numbers : ℕ → List ℕ) (f : List ℕ) (c tokens : ℕ) where
  -- what taking gives then: the token after these, if there is one
  abbrev pub result : rules.Tables → ℕ → Taken
  result a k = if (ltb (a.count + k) tokens) (took (a.count + k) (after numbers f c a k (suc (a.count + k)))) (none (after numbers f c a k (a.count + k)))

  hold_is : (t : ℕ) → Recorded f t (numbers t) → new_hold f c t ≡ Ok (last_of (due_of f c t) (numbers t))
  unfolding new_hold hold_of hold_as
  hold_is t r = rw (r.2, r.3)

  -- the rules and the search pass over the same k tokens, each with a number that is due, and give the same
  abbrev pub Together : ℕ → rules.Tables → Type 0
  Together left a =
      (k : ℕ) × (k ≤ left) × (first_free (new_hold f c) tokens (range a.count left) ≡ Ok (a.count + k))
      × (take_new numbers left a ≡ result a k) × AllDue numbers f c (range a.count k)

  -- the rules' table after the next token joins it
  abbrev pub next : rules.Tables → rules.Tables
  next a = hold (raised a) a.count (keep (due_of f c a.count) (numbers a.count))

  module _ (left : ℕ) (a : rules.Tables) (p : Passing f c a) (recorded : Recorded f a.count (numbers a.count)) (e : a.count + suc left ≡ tokens) where
    due_is : keep (is_due (raised a)) (numbers a.count) ≡ keep (due_of f c a.count) (numbers a.count)
    due_is = keep_cong (due_same f c a p) (numbers a.count)

    together_free : any (due_of f c a.count) (numbers a.count) ≡ false → Together (suc left) a
    unfolding take_new first_free range
    together_free b_is = (
      0,
      omega arith,
      rw (hold_is a.count recorded, last_free (due_of f c a.count) (numbers a.count) b_is, add-zero a.count),
      rw (
        due_is,
        empty_keep (due_of f c a.count) (numbers a.count),
        b_is,
        append-nil a.deferred,
        add-zero a.count,
        lt-ltb
            a.count tokens (omega arith),
      ),
      tt,
    )

    together_waits : any (due_of f c a.count) (numbers a.count) ≡ true → Together left (next a) → Together (suc left) a
    unfolding take_new first_free range
    together_waits b_is later =
        let k : ℕ = later.0 in
        let shift : suc a.count + k ≡ a.count + suc k = omega arith in (
          suc k,
          omega (arith, later.1),
          rw (hold_is a.count recorded, (last_by (due_of f c a.count) (numbers a.count) b_is).1, ← shift) later.2,
          rw (due_is, empty_keep (due_of f c a.count) (numbers a.count), b_is)
              (later.3 ∙ rw (append_snoc a.deferred (held_of numbers f c a.count) (map (held_of numbers f c) (range (suc a.count) k)), shift)),
          (b_is, later.4),
        )

  pub new_tokens : (left : ℕ) (a : rules.Tables) → ((n : ℕ) → n < tokens → Recorded f n (numbers n)) → Passing f c a → a.count + left ≡ tokens →
      Together left a
  unfolding take_new first_free range
  new_tokens zero a records p e = (
    0,
    omega arith,
    ap Ok (omega arith),
    rw (append-nil a.deferred, add-zero a.count, le-ltb a.count tokens (omega arith)),
    tt,
  )
  new_tokens (suc left) a records p e =
      let later : Together left (next a) = new_tokens left (next a) records (hold_passing f c a _ p) (omega arith) in
      by_test (any (due_of f c a.count) (numbers a.count))
      (λ b_is. together_waits left a p (records a.count (omega arith)) e b_is later)
      (λ b_is. together_free left a p (records a.count (omega arith)) e b_is)

  -- the watch of a token that is passed over is one of the numbers that it waits for
  watch_due : (t : ℕ) → Recorded f t (numbers t) → any (due_of f c t) (numbers t) ≡ true → has (keep (due_of f c t) (numbers t)) (watch_of f c t) ≡ true
  unfolding watch_of
  watch_due t r due =
      let (n, by, in-record, is-due) = last_by (due_of f c t) (numbers t) due in
      rw (hold_is t r, by, has_keep (due_of f c t) (numbers t) n, is-due) in-record

  pub watched_new : (i k : ℕ) → ((n : ℕ) → n < tokens → Recorded f n (numbers n)) → i + k ≤ tokens → AllDue numbers f c (range i k) →
      Watched (map (held_of numbers f c) (range i k)) (map (watch_of f c) (range i k))
  unfolding range
  watched_new i zero records h due = tt
  watched_new i (suc k) records h due = (watch_due i (records i (omega arith)) due.0, watched_new (suc i) k records (omega arith) due.1)

-- more tokens with their watches
pub watched_append : (l r : List Held) (ws vs : List ℕ) → Watched l ws → Watched r vs → Watched (l ++ r) (ws ++ vs)
watched_append [] r [] vs w v = v
watched_append [] r (x ∷ ws) vs w v = absurd w
watched_append (h ∷ l) r [] vs w v = absurd w
watched_append (h ∷ l) r (x ∷ ws) vs w v = (w.0, watched_append l r ws vs w.1 v)

-- no number comes twice in a range
times_range : (i k n : ℕ) → (times n (range i k) ≤ 1) × (n < i → times n (range i k) ≡ 0)
unfolding times range
times_range i zero n = omega arith
times_range i (suc k) n =
    let (once, later) = times_range (suc i) k n in
    by_test (eqb i n)
    (λ e. let i-is : i ≡ n = eqb-true i n e in rw e (omega (arith, later (omega arith))))
    (λ e. rw e (omega arith, (λ h. omega (arith, later (omega arith)))))

-- the standing of each token after those of a list got a new one
abbrev pub marked : (ℕ → ℕ) → ℕ → List ℕ → ℕ → ℕ
marked standing v ts n = if (has ts n) v (standing n)

tokens_held : (g : ℕ → Held) → ((t : ℕ) → (g t).token ≡ t) → (ts : List ℕ) → tokens_of (map g ts) ≡ ts
tokens_held g h [] = refl
tokens_held g h (t ∷ ts) = rw (h t, tokens_held g h ts)

-- the table's tokens after new ones joined it
pub tokens_after : (numbers : ℕ → List ℕ) (f : List ℕ) (c : ℕ) (l : List Held) (ts : List ℕ) → tokens_of (l ++ map (held_of numbers f c) ts) ≡ tokens_of l ++ ts
tokens_after numbers f c l ts = rw (tokens_append l (map (held_of numbers f c) ts), tokens_held (held_of numbers f c) (λ t. refl) ts)

-- standings that agree on which tokens have finished have the same tokens waiting
pub waiting_same : (numbers : ℕ → List ℕ) (s s' : ℕ → ℕ) → ((n : ℕ) → eqb (s n) 3 ≡ eqb (s' n) 3) → (l : List Held) →
    Every (Waits numbers s) l → Every (Waits numbers s') l
waiting_same numbers s s' h =
    every_weaken (Waits numbers s) (Waits numbers s') (λ x w. (w.0 ∙ keep_cong (λ n. ap not (h n)) (numbers x.token), w.1))

module _ (numbers : ℕ → List ℕ) (self : (n : ℕ) → has (numbers n) n ≡ false) (f : List ℕ) (a : rules.Tables)
    (s : Standing numbers a (standing_of f) nobody) (none_ready : a.ready ≡ []) (k : ℕ) where
  -- the standings after
  new : ℕ → ℕ
  new = marked (standing_of f) 1 (range a.count k)

  no_ready : (n : ℕ) → has a.ready n ≡ false
  unfolding has
  no_ready n = rw none_ready

  -- a token passed over had standing 0
  passed_fresh : (n : ℕ) → has (range a.count k) n ≡ true → standing_of f n ≡ 0
  passed_fresh n h =
      s.fresh n
      (by_test (leb a.count n) (λ e. leb-true a.count n e)
      (λ e. absurd (true≢false (sym (rw (has_range a.count k n, e) at h)))))

  finished_same : (n : ℕ) → eqb (standing_of f n) 3 ≡ eqb (new n) 3
  unfolding new
  finished_same n =
      by_test (has (range a.count k) n)
      (λ e. rw (e, passed_fresh n e))
      (λ e. rw e)

  -- a number other than the token itself is due exactly if it has not finished pipe 0
  due_finished : (t n : ℕ) → (n ≡ t → ⊥) → due_of f a.count t n ≡ not (eqb (new n) 3)
  unfolding due_of
  due_finished t n other =
      rw (← finished_same n)
      (by_test (eqb (standing_of f n) 1)
      (λ e. rw (e, eqb-true (standing_of f n) 1 e))
      (λ e. rw e
      (by_test (ltb n a.count)
      (λ l. rw (l, s.settled n (ltb-true n a.count l) (s.marked n ∙ e) (no_ready n) refl))
      (λ l. rw (l, ne_eqb n t other, s.fresh n (ltb-false n a.count l))))))

  waiting_new : (ts : List ℕ) → AllDue numbers f a.count ts → Every (Waits numbers new) (map (held_of numbers f a.count) ts)
  waiting_new [] w = tt
  waiting_new (t ∷ ts) w = (
    (
      keep_same (due_of f a.count t) (λ n. not (eqb (new n) 3)) (numbers t)
          (λ n h. due_finished t n (λ e. true≢false (sym h ∙ rw e (self t)))),
      empty_keep (due_of f a.count t) (numbers t) ∙ rw w.0,
    ),
    waiting_new ts w.1,
  )

  -- the table after the tokens were passed over
  new_table : List ℕ
  new_table = tokens_of a.deferred ++ range a.count k

  new_table_is : tokens_of (a.deferred ++ map (held_of numbers f a.count) (range a.count k)) ≡ new_table
  unfolding new_table
  new_table_is = tokens_after numbers f a.count a.deferred (range a.count k)

  new_marked : (n : ℕ) → has new_table n ≡ eqb (new n) 1
  unfolding new new_table
  new_marked n =
      rw (has_append (tokens_of a.deferred) (range a.count k) n)
      (by_test (has (range a.count k) n)
      (λ e. rw e (if_same (has (tokens_of a.deferred) n) true))
      (λ e. rw (e, s.marked n) (if_eta (eqb (standing_of f n) 1))))

  range_none : (n : ℕ) → a.count + k ≤ n → has (range a.count k) n ≡ false
  range_none n h = rw (has_range a.count k n, le-ltb n (a.count + k) h) (if_same (leb a.count n) false)

  new_queued : (n : ℕ) → has a.ready n ≡ eqb (new n) 2
  unfolding new
  new_queued n =
      by_test (has (range a.count k) n)
      (λ e. rw (e, no_ready n))
      (λ e. rw e (s.queued n))

  -- a token passed over was not in the table before
  new_once : (n : ℕ) → times n new_table + times n a.ready ≤ 1
  unfolding new_table
  new_once n =
      rw (times_append n (tokens_of a.deferred) (range a.count k))
      (by_test (has (range a.count k) n)
      (λ e.
      let apart : has (tokens_of a.deferred) n ≡ false = rw (s.marked n, passed_fresh n e) in
      omega (members, (times_range a.count k n).0, no_ready n))
      (λ e. omega (members, s.once n)))

  new_settled : (n : ℕ) → n < a.count + k → has new_table n ≡ false → new n ≡ 3
  unfolding new new_table
  new_settled n l t =
      let t' : if (has (tokens_of a.deferred) n) true (has (range a.count k) n) ≡ false = rw
      (has_append (tokens_of a.deferred) (range a.count k) n) at t in
      by_test (has (range a.count k) n)
      (λ e. absurd (true≢false (sym (if_same (has (tokens_of a.deferred) n) true) ∙ (rw e at t'))))
      (λ e. rw e
      (s.settled n
      (by_test (leb a.count n)
      (λ x. absurd (true≢false (rw (has_range a.count k n, x, lt-ltb n (a.count + k) l) at e)))
      (λ x. leb-false a.count n x))
      (by_test (has (tokens_of a.deferred) n)
      (λ x. absurd (true≢false (rw x at t')))
      (λ x. x))
      (no_ready n) refl))

  -- after the taking: Count is past these tokens, and only the one after them may be out
  pub new_standing : (count : ℕ) (out : ℕ → Bool) → a.count + k ≤ count → AllDue numbers f a.count (range a.count k)
      → ((n : ℕ) → n < count → out n ≡ false → n < a.count + k) → ((n : ℕ) → out n ≡ true → (n ≡ a.count + k) × (n < count))
      → Standing numbers (after numbers f a.count a k count) (marked (standing_of f) 1 (range a.count k)) out
  unfolding new new_table
  new_standing count out h due below at =
      record {
        waiting = every_append (Waits numbers new) a.deferred _ (waiting_same numbers (standing_of f) new finished_same a.deferred s.waiting)
            (waiting_new (range a.count k) due);
        marked = λ n. rw new_table_is (new_marked n);
        queued = new_queued;
        once = λ n. rw new_table_is (new_once n);
        fresh = λ n l. rw (range_none n (omega arith)) (s.fresh n (omega arith));
        settled = λ n l t r o. new_settled n (below n l o) (rw new_table_is at t);
        outside = λ n o. (rw (range_none n (omega (arith, (at n o).0))) (s.fresh n (omega (arith, (at n o).0))), (at n o).1);
      }
