-- What holds of the tables between the steps of the plain sheet, and that taking and finishing a token keep it.
use mathlib.Core.Path.{◌≡◌, refl, sym, ap, ◌∙◌}
use mathlib.Core.Bool.{true, false, not, true≢false}
use mathlib.Core.List.{List, [], ◌∷◌, ◌++◌, map, map-append, map-map}
use mathlib.Core.Logic.{◌≢◌}
use Prim.Native.Nat.{ℕ, zero, suc, ◌+◌, ◌-◌, ◌≤◌, min}
use native.Mathlib.Omega.{arith}
use lib.Dec.{eqb, leb}
use borrow.Author.Tests.{eqb-true, eqb-false, leb-true, leb-false, not-true}
use Rattle.rules.specs.Lists.{Every, if, keep, has, empty, times}
use Rattle.rules.specs.TakingTokens.{Held, Tables, Taken, none, took, tokens_of, is_due, raised, hold, take_new, take_from, take, lose, release}
use Rattle.rules.proofs.lists.Tests.{by_test, if_not, if_same}
use Rattle.rules.proofs.lists.Counting.{members, same_number, times_append, times_split}
use Rattle.rules.proofs.lists.Counting.{has_head, has_left, has_right, has_none, has_some, has_same, has_keep}
use Rattle.rules.proofs.lists.EveryLaws.{every_map, every_weaken, every_append, every_keep, every_find}

module _ (numbers : ℕ → List ℕ) where
  -- every number that token n lists is in a list
  abbrev pub AllIn : List ℕ → ℕ → Type 0
  AllIn l n = (m : ℕ) → has (numbers n) m ≡ true → has l m ≡ true

  -- a token waits for just those of its numbers that have not finished
  abbrev pub Waits : List ℕ → Held → Type 0
  Waits done h = (m : ℕ) → has h.due m ≡ if (has done m) false (has (numbers h.token) m)

  -- an entry of the deferred table: some of its numbers are still due
  abbrev pub Entry : List ℕ → Held → Type 0
  Entry done h = Waits done h × (empty h.due ≡ false)

  -- with none due, all its numbers have finished
  all_finished : (done : List ℕ) (h : Held) → Waits done h → empty h.due ≡ true → AllIn done h.token
  all_finished done h w e m listed = by_test (has done m) (λ d. d)
      (λ d. absurd (true≢false (sym listed ∙ (rw d at (sym (w m) ∙ has_none h.due m e)))))

  -- with some due, one of its numbers has not finished
  pub some_unfinished : (done : List ℕ) (h : Held) → Waits done h → empty h.due ≡ false →
      (m : ℕ) × (has (numbers h.token) m ≡ true) × (has done m ≡ false)
  some_unfinished done h w e =
      let (m, due) = has_some h.due e in
      by_test (has done m)
      (λ d. absurd (true≢false (sym (rw d at (sym (w m) ∙ due)))))
      (λ d. (m, (rw d at (sym (w m) ∙ due)), d))

  -- rule 4: a waiter loses the number that has finished
  lose_waits : (done : List ℕ) (n : ℕ) (h : Held) → Waits done h → Waits (done ++ (n ∷ [])) (lose n h)
  unfolding times
  lose_waits done n h w m = has_keep (λ m. not (eqb m n)) h.due m ∙ by_test (eqb m n)
      (λ e. let on : has (done ++ (n ∷ [])) m ≡ true = omega (members, eqb-true m n e, times_append m done (n ∷ []), same_number n m) in
      rw (e, on))
      (λ e. let other : m ≢ n = eqb-false m n e in
      rw (e, has_same m (done ++ (n ∷ [])) done (omega (arith, times_append m done (n ∷ []), same_number n m))) (w m))

module _ (tokens : ℕ) (numbers : ℕ → List ℕ) where
  -- the tables are sound when the tokens `placed` have been ordered, and of them `done` have finished
  pub record Sound (placed done : List ℕ) (t : Tables) : Type 0 where
    pub within : t.count ≤ tokens
    -- each token below Count is in one place, and once: ordered, ready or deferred
    pub counted : (n : ℕ) → times n placed + times n t.ready + times n (tokens_of t.deferred) ≡ min 1 (t.count - n)
    pub freed : (n : ℕ) → has t.ready n ≡ true → AllIn numbers done n
    pub waiting : Every (Entry numbers done) t.deferred

  -- a token's finish keeps the tables sound
  pub release_sound : {done : List ℕ} (n : ℕ) (t : Tables) → Sound (done ++ (n ∷ [])) done t →
      Sound (done ++ (n ∷ [])) (done ++ (n ∷ [])) (release n t)
  unfolding release
  release_sound {done} n t s = record {
    within = s.within;
    counted = λ m. omega (
      arith,
      s.counted m,
      times_append m t.ready free,
      ap (times m) same_tokens,
      times_split (λ h. h.token) (λ h. empty h.due) m held,
    );
    freed = λ m h. by_test (has t.ready m)
        (λ e k listed. has_left done (n ∷ []) k (s.freed m e k listed))
        (λ e. newly m (has_right t.ready free m h e));
    waiting = every_weaken (λ h. Still h × (not (empty h.due) ≡ true)) (Entry numbers (done ++ (n ∷ []))) (λ h w. (w.0, not-true _ w.1))
        (keep (λ h. not (empty h.due)) held) (every_keep Still (λ h. not (empty h.due)) held waits);
  }
    where
      held : List Held
      held = map (lose n) t.deferred

      Still : Held → Type 0
      Still = Waits numbers (done ++ (n ∷ []))

      same_tokens : tokens_of held ≡ tokens_of t.deferred
      same_tokens = map-map (λ h. h.token) (lose n) t.deferred

      waits : Every Still held
      waits = every_map (Entry numbers done) Still (lose n) (λ h w. lose_waits numbers done n h w.0) t.deferred s.waiting

      -- the tokens that become ready
      free : List ℕ
      free = tokens_of (keep (λ h. empty h.due) held)

      newly : (m : ℕ) → has free m ≡ true → AllIn numbers (done ++ (n ∷ [])) m
      newly m h =
          let (a, w, e) =
          every_find (λ h. Still h × (empty h.due ≡ true)) (λ h. h.token) m
          (keep (λ h. empty h.due) held) (every_keep Still (λ h. empty h.due) held waits) h in
          rw e at (all_finished numbers (done ++ (n ∷ [])) a w.0 w.1)

  -- what taking gives: nothing, with no token ready and none new, or a token whose numbers have all finished
  abbrev pub Taking : List ℕ → Taken → Type 0
  Taking done (none t) = Sound done done t × (t.count ≡ tokens) × (t.ready ≡ [])
  Taking done (took n t) = Sound (done ++ (n ∷ [])) done t × AllIn numbers done n

  -- no token lists itself
  module _ (others : (n : ℕ) → has (numbers n) n ≡ false) where
    -- the next new token, with those of its numbers that are still due
    abbrev new : Tables → Held
    new t = record { token = t.count; due = keep (is_due (raised t)) (numbers t.count) }

    -- rule 1: with no token ready, a number is still due if it has not finished
    due_unfinished : {done : List ℕ} {t : Tables} → Sound done done t → t.ready ≡ [] →
        (m : ℕ) → has (numbers t.count) m ≡ true → is_due (raised t) m ≡ not (has done m)
    unfolding is_due times
    due_unfinished {done} {t} s r m listed =
        let one : times m done + times m (tokens_of t.deferred) ≡ min 1 (t.count - m) = omega (arith, s.counted m, ap (times m) r) in
        let other : m ≢ t.count = λ e. true≢false (sym listed ∙ ap (has (numbers t.count)) e ∙ others t.count) in
        by_test (leb (suc t.count) m)
        (λ e. let out : has done m ≡ false = omega (members, leb-true (suc t.count) m e) in rw (e, out))
        (λ e. by_test (has done m)
        (λ d. rw (e, d) (omega (members, leb-false (suc t.count) m e)))
        (λ d. rw (e, d) (omega (members, leb-false (suc t.count) m e))))

    new_waits : {done : List ℕ} {t : Tables} → Sound done done t → t.ready ≡ [] → Waits numbers done (new t)
    new_waits {done} {t} s r m = has_keep (is_due (raised t)) (numbers t.count) m ∙ by_test (has (numbers t.count) m)
        (λ listed. rw (due_unfinished s r m listed) (if_not (has done m) _ _))
        (λ unlisted. rw unlisted (simp if_same))

    -- rules 1 to 3 for new tokens
    take_new_sound : {done : List ℕ} (more : ℕ) (t : Tables) → Sound done done t → t.ready ≡ [] → more + t.count ≡ tokens →
        Taking done (take_new numbers more t)
    unfolding take_new times
    take_new_sound zero t s r sum = (s, omega arith, r)
    take_new_sound {done} (suc more) t s r sum = by_test (empty (new t).due)
        (λ e. rw e (ordered, all_finished numbers done (new t) (new_waits s r) e))
        (λ e. rw e (take_new_sound more (hold (raised t) t.count (new t).due) (deferred e) r (omega arith)))
      where
        ordered : Sound (done ++ (t.count ∷ [])) done (raised t)
        ordered = record {
          within = omega arith;
          counted = λ n. omega (arith, s.counted n, times_append n done (t.count ∷ []), same_number t.count n);
          freed = s.freed;
          waiting = s.waiting;
        }

        deferred : empty (new t).due ≡ false → Sound done done (hold (raised t) t.count (new t).due)
        deferred some = record {
          within = omega arith;
          counted = λ n. rw map-append (omega (arith, s.counted n, times_append n (tokens_of t.deferred) (t.count ∷ []), same_number t.count n));
          freed = s.freed;
          waiting = every_append (Entry numbers done) t.deferred _ s.waiting ((new_waits s r, some), tt);
        }

    -- a line at pipe 0 takes the oldest ready token, else a new one
    pub take_sound : {done : List ℕ} (t : Tables) → Sound done done t → Taking done (take tokens numbers t)
    unfolding take take_from times
    take_sound {done} t s = go t.ready refl
      where
        first : (n : ℕ) (rest : List ℕ) → t.ready ≡ n ∷ rest →
            Sound (done ++ (n ∷ [])) done (record { count = t.count; ready = rest; deferred = t.deferred })
        first n rest e = record {
          within = s.within;
          counted = λ m. omega (arith, s.counted m, times_append m done (n ∷ []), ap (times m) e);
          freed = λ m h. s.freed m (omega (members, ap (times m) e));
          waiting = s.waiting;
        }

        go : (r : List ℕ) → t.ready ≡ r → Taking done (take_from numbers (tokens - t.count) r t)
        go [] e = take_new_sound (tokens - t.count) t s e (omega (arith, s.within))
        go (n ∷ rest) e = (first n rest e, s.freed n (rw e (has_head n rest)))
