-- A token's finish by the rules, against the watches, the records and the standings.
use mathlib.Core.Path.{◌≡◌, refl, sym, ap, ◌∙◌}
use mathlib.Core.Bool.{Bool, true, false, not, true≢false}
use mathlib.Core.List.{List, [], ◌∷◌, ◌++◌, map, map-map}
use Prim.Native.Nat.{ℕ, ◌+◌, ◌<◌, ◌≤◌}
use native.Mathlib.Omega.{arith}
use borrow.Author.Tests.{lt-leb, eq-eqb, ne_eqb, eqb-true, eqb-false, not-true}
use lib.Dec.{eqb}
use Rattle.std.specs.Prelude.{Ok}
use Rattle.rules.specs.Lists.{if, keep, has, empty, times, Every, any, Below}
use Rattle.rules.specs.TakingTokens.{Held, tokens_of, lose}
use Rattle.rules.specs.TakingTokens as rules
use Rattle.tables.specs.Facts.{Hold, standing_of, left_of, last_of, hold_as, hold_of, left_hold}
use Rattle.tables.specs.Releasing.{is_unsound, pick, new_watch, new_watches}
use Rattle.tables.specs.Matching.{Recorded, Waits, Watched, Standing, nobody, only}
use Rattle.rules.proofs.lists.Tests.{if_same, if_eta, by_test}
use Rattle.rules.proofs.lists.Members.{has_append, keep_keep, empty_keep, keep_cong, any_none, below_has}
use Rattle.rules.proofs.lists.Counting.{members, has_keep, has_none, has_same, times_append, times_split}
use Rattle.rules.proofs.lists.EveryLaws.{every_weaken, every_map, every_keep}
use Rattle.tables.proofs.memory.FactsLaws.{last_free, last_by, left_another}

module _ (f : List ℕ) (d : ℕ) where
  -- a number is left over exactly if it has not finished pipe 0 and is another
  left_is : (n : ℕ) → if (not (eqb (standing_of f n) 3)) (not (eqb n d)) false ≡ left_of f d n
  unfolding left_of
  left_is n = go (eqb (standing_of f n) 3)
    where
      go : (b : Bool) → if (not b) (not (eqb n d)) false ≡ if b false (not (eqb n d))
      go true = refl
      go false = refl

  -- what a token then waits for, which waits for the numbers of its record that have not finished
  lost_is : (ns : List ℕ) {due : List ℕ} → due ≡ keep (λ n. not (eqb (standing_of f n) 3)) ns → keep (λ n. not (eqb n d)) due ≡ keep (left_of f d) ns
  lost_is ns due_is = rw (due_is, keep_keep (λ n. not (eqb n d)) (λ n. not (eqb (standing_of f n) 3)) ns) (keep_cong left_is ns)

  module _ (tokens : ℕ) where
    -- what still holds a token below N with a good record
    hold_is : (t : ℕ) (ns : List ℕ) → t < tokens → Recorded f t ns → left_hold f tokens d t ≡ Ok (last_of (left_of f d) ns)
    unfolding left_hold hold_of hold_as
    hold_is t ns h r = rw (lt-leb tokens t h, r.2, r.3)

    -- a list that has a number is not empty
    has_not_empty : (l : List ℕ) (n : ℕ) → has l n ≡ true → empty l ≡ false
    has_not_empty l n h = by_test (empty l) (λ e. absurd (true≢false (sym h ∙ has_none l n e))) (λ e. e)

    -- the watch of a token after the finish: it is still this number exactly if the token then waits for none; else it is one of those
    module _ (t w : ℕ) (ns due : List ℕ) (low : t < tokens) (r : Recorded f t ns) (due_is : due ≡ keep (λ n. not (eqb (standing_of f n) 3)) ns)
        (one : has due w ≡ true) where
      abbrev Renewed : ℕ → Type 0
      Renewed v = (eqb v d ≡ empty (keep (λ n. not (eqb n d)) due)) × (eqb v d ≡ false → has (keep (λ n. not (eqb n d)) due) v ≡ true)

      renewed_same : eqb w d ≡ false → Renewed w
      renewed_same e =
          let kept : has (keep (λ n. not (eqb n d)) due) w ≡ true = rw (has_keep (λ n. not (eqb n d)) due w, e) one in
          (e ∙ sym (has_not_empty (keep (λ n. not (eqb n d)) due) w kept), λ _. kept)

      renewed_left : eqb w d ≡ true → any (left_of f d) ns ≡ true → Renewed (new_watch (left_hold f tokens d) d t w)
      unfolding new_watch
      renewed_left e some =
          let (n, by, in-record, left) = last_by (left_of f d) ns some in
          rw (e, hold_is t ns low r, by, lost_is ns due_is) (
            left_another f d n left ∙ sym (empty_keep (left_of f d) ns ∙ rw some),
            λ _. rw (has_keep (left_of f d) ns n, left) in-record,
          )

      renewed_none : eqb w d ≡ true → any (left_of f d) ns ≡ false → Renewed (new_watch (left_hold f tokens d) d t w)
      unfolding new_watch
      renewed_none e none =
          rw (e, hold_is t ns low r, last_free (left_of f d) ns none, lost_is ns due_is) (
            e ∙ sym (empty_keep (left_of f d) ns ∙ rw none),
            λ other. absurd (true≢false (sym e ∙ other)),
          )

      renewed : Renewed (new_watch (left_hold f tokens d) d t w)
      unfolding new_watch
      renewed = by_test (eqb w d)
          (λ e. by_test (any (left_of f d) ns) (renewed_left e) (renewed_none e))
          (λ e. rw e (renewed_same e))

-- an entry waits for the numbers of its record that have not finished pipe 0
abbrev Unfinished : (ℕ → List ℕ) → (ℕ → ℕ) → Held → Type 0
Unfinished numbers standing h = h.due ≡ keep (λ n. not (eqb (standing n) 3)) (numbers h.token)

module _ (numbers : ℕ → List ℕ) (f : List ℕ) (tokens d : ℕ) (records : (n : ℕ) → n < tokens → Recorded f n (numbers n)) where
  abbrev hold : ℕ → Hold
  hold = left_hold f tokens d

  -- an entry, by its new watch
  entry : (h : Held) (w : ℕ) → Waits numbers (standing_of f) h → h.token < tokens → has h.due w ≡ true →
      (eqb (new_watch hold d h.token w) d ≡ empty (lose d h).due) × (eqb (new_watch hold d h.token w) d ≡ false → has (lose d h).due (new_watch hold d h.token w) ≡ true)
  entry h w waits low one = renewed f d tokens h.token w (numbers h.token) h.due low (records h.token low) waits.0 one

  -- whether an entry then waits for none is whether its new watch is still this number, for whatever is made of the answer
  sorted : (g : Bool → Bool) (l : List Held) (ws : List ℕ) → Every (Waits numbers (standing_of f)) l → Below tokens (tokens_of l) → Watched l ws
      → tokens_of (keep (λ h. g (empty h.due)) (map (lose d) l)) ≡ pick (λ w. g (eqb w d)) (tokens_of l) (new_watches hold d (tokens_of l) ws)
  unfolding keep pick new_watches
  sorted g [] ws q b v = refl
  sorted g (h ∷ l) [] q b v = absurd v
  sorted g (h ∷ l) (w ∷ ws) q b v =
      rw (entry h w q.0 b.0 v.0).0
      (by_test (g (empty (keep (λ n. not (eqb n d)) h.due)))
      (λ e. rw e (ap (λ r. h.token ∷ r) (sorted g l ws q.1 b.1 v.1)))
      (λ e. rw e (sorted g l ws q.1 b.1 v.1)))

  -- and those that still wait are watched
  pub watched_after : (l : List Held) (ws : List ℕ) → Every (Waits numbers (standing_of f)) l → Below tokens (tokens_of l) → Watched l ws
      → Watched (keep (λ h. not (empty h.due)) (map (lose d) l))
      (pick (λ w. not (eqb w d)) (new_watches hold d (tokens_of l) ws) (new_watches hold d (tokens_of l) ws))
  unfolding keep pick new_watches
  watched_after [] [] q b v = tt
  watched_after [] (w ∷ ws) q b v = absurd v
  watched_after (h ∷ l) [] q b v = absurd v
  watched_after (h ∷ l) (w ∷ ws) q b v =
      let (same, other) = entry h w q.0 b.0 v.0 in
      by_test (eqb (new_watch hold d h.token w) d)
      (λ e. rw (e, sym same ∙ e) (watched_after l ws q.1 b.1 v.1))
      (λ e. rw (e, sym same ∙ e) (other e, watched_after l ws q.1 b.1 v.1))

  -- the entries that wait for none, and those that still wait, are those whose tokens wake, and stay
  module _ (l : List Held) (ws : List ℕ) (q : Every (Waits numbers (standing_of f)) l) (b : Below tokens (tokens_of l)) (v : Watched l ws) where
    pub woken_are : tokens_of (keep (λ h. empty h.due) (map (lose d) l)) ≡ pick (λ w. eqb w d) (tokens_of l) (new_watches hold d (tokens_of l) ws)
    woken_are = sorted (λ x. x) l ws q b v

    pub staying_are : tokens_of (keep (λ h. not (empty h.due)) (map (lose d) l)) ≡ pick (λ w. not (eqb w d)) (tokens_of l) (new_watches hold d (tokens_of l) ws)
    staying_are = sorted not l ws q b v

  -- no record of a token in the table is bad
  hold_sound : (t : ℕ) → t < tokens → is_unsound (hold t) ≡ false
  hold_sound t low = rw (hold_is f d tokens t (numbers t) low (records t low))
      (by_test (any (left_of f d) (numbers t))
      (λ e. rw (last_by (left_of f d) (numbers t) e).1)
      (λ e. rw (last_free (left_of f d) (numbers t) e)))

  pub none_unsound : (l : List ℕ) → Below tokens l → any (λ t. is_unsound (hold t)) l ≡ false
  none_unsound l b = any_none (λ t. is_unsound (hold t)) l (λ t h. hold_sound t (below_has tokens l t b h))

-- the standings after a token's finish: 3 for it, and 2 for those that woke
abbrev pub finished : (ℕ → ℕ) → ℕ → List ℕ → ℕ → ℕ
finished standing d woken n = if (eqb d n) 3 (if (has woken n) 2 (standing n))

module _ (numbers : ℕ → List ℕ) (f : List ℕ) (d : ℕ) (a : rules.Tables) (s : Standing numbers a (standing_of f) (only d)) where
  table : List ℕ
  table = tokens_of a.deferred

  woken : List ℕ
  woken = tokens_of (keep (λ h. empty h.due) (map (lose d) a.deferred))

  staying : List ℕ
  staying = tokens_of (keep (λ h. not (empty h.due)) (map (lose d) a.deferred))

  new : ℕ → ℕ
  new = finished (standing_of f) d woken

  -- the woken and the staying are the table
  split : (n : ℕ) → times n woken + times n staying ≡ times n table
  unfolding woken staying table
  split n =
      times_split (λ h. h.token) (λ h. empty h.due) n (map (lose d) a.deferred)
      ∙ ap (times n) (map-map (λ h. h.token) (lose d) a.deferred)

  -- a token that woke was deferred
  woken_was : (n : ℕ) → has woken n ≡ true → standing_of f n ≡ 1
  unfolding table
  woken_was n h = eqb-true (standing_of f n) 1 (sym (s.marked n) ∙ in_table)
    where
      in_table : has table n ≡ true
      in_table = omega (members, split n, h)

  if_not : (b : Bool) → if b false true ≡ not b
  if_not true = refl
  if_not false = refl

  left_new : (n : ℕ) → left_of f d n ≡ not (eqb (new n) 3)
  unfolding left_of new
  left_new n =
      by_test (eqb d n)
      (λ e. rw (e, eq-eqb n d (sym (eqb-true d n e))) (if_same (eqb (standing_of f n) 3) false))
      (λ e. rw (e, ne_eqb n d (λ x. eqb-false d n e (sym x)))
      (by_test (has woken n)
      (λ h. rw (h, woken_was n h))
      (λ h. rw h (if_not (eqb (standing_of f n) 3)))))

  -- the entries that still wait do so for the numbers that have not finished now
  new_waiting : Every (Waits numbers new) (keep (λ h. not (empty h.due)) (map (lose d) a.deferred))
  new_waiting =
      every_weaken (λ h. Unfinished numbers new h × (not (empty h.due) ≡ true)) (Waits numbers new)
      (λ h x. (x.0, not-true (empty h.due) x.1)) (keep (λ h. not (empty h.due)) (map (lose d) a.deferred))
      (every_keep (Unfinished numbers new) (λ h. not (empty h.due)) (map (lose d) a.deferred)
      (every_map (Waits numbers (standing_of f)) (Unfinished numbers new) (lose d)
      (λ h w. lost_is f d (numbers h.token) w.0 ∙ keep_cong left_new (numbers h.token)) a.deferred s.waiting))

  new_marked : (n : ℕ) → has staying n ≡ eqb (new n) 1
  unfolding new table
  new_marked n =
      by_test (eqb d n)
      (λ e. let apart : has table n ≡ false = s.marked n ∙ rw (s.outside n e).0 in rw e (omega (members, split n, apart)))
      (λ e. rw e
      (by_test (has woken n)
      (λ h. rw h (omega (members, split n, s.once n)))
      (λ h. rw h (has_same n staying table (omega (members, split n)) ∙ s.marked n))))

  new_settled : (n : ℕ) → n < a.count → has staying n ≡ false → has (a.ready ++ woken) n ≡ false → new n ≡ 3
  unfolding new table
  new_settled n l x y =
      let y' : if (has a.ready n) true (has woken n) ≡ false = rw (has_append a.ready woken n) at y in
      let none_ready : has a.ready n ≡ false = by_test (has a.ready n) (λ h. absurd (true≢false (rw h at y'))) (λ h. h) in
      let none-woken : has woken n ≡ false = rw none_ready at y' in
      let none-held : has table n ≡ false = omega (members, split n) in
      by_test (eqb d n)
      (λ e. rw e)
      (λ e. rw (e, none-woken) (s.settled n l none-held none_ready e))

  -- the token that finishes was in neither
  new_queued : (n : ℕ) → has (a.ready ++ woken) n ≡ eqb (new n) 2
  unfolding new
  new_queued n =
      rw (has_append a.ready woken n, s.queued n)
      (by_test (eqb d n)
      (λ e. rw (e, (s.outside n e).0)
      (by_test (has woken n) (λ h. let z : ◌≡◌ {A = ℕ} 0 1 = sym (s.outside n e).0 ∙ woken_was n h in absurd (omega arith)) (λ h. h)))
      (λ e. rw e
      (by_test (has woken n)
      (λ h. rw h (if_same (eqb (standing_of f n) 2) true))
      (λ h. rw h (if_eta (eqb (standing_of f n) 2))))))

  new_once : (n : ℕ) → times n staying + times n (a.ready ++ woken) ≤ 1
  unfolding table
  new_once n = rw (times_append n a.ready woken) (omega (arith, s.once n, split n))

  new_fresh : (n : ℕ) → a.count ≤ n → new n ≡ 0
  unfolding new
  new_fresh n l =
      let other : eqb d n ≡ false = ne_eqb d n (λ e. omega (arith, (s.outside d (eq-eqb d d refl)).1)) in
      let none-woken : has woken n ≡ false =
      by_test (has woken n) (λ h. let z : ◌≡◌ {A = ℕ} 0 1 = sym (s.fresh n l) ∙ woken_was n h in absurd (omega arith)) (λ h. h) in
      rw (other, none-woken) (s.fresh n l)

  pub release_standing : Standing numbers (rules.release d a)
      (finished (standing_of f) d (tokens_of (keep (λ h. empty h.due) (map (lose d) a.deferred)))) nobody
  unfolding rules.release new woken staying
  release_standing =
      record {
        waiting = new_waiting;
        marked = new_marked;
        queued = new_queued;
        once = new_once;
        fresh = new_fresh;
        settled = λ n l x y o. new_settled n l x y;
        outside = λ n o. absurd (true≢false (sym o));
      }
