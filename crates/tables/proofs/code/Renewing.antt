-- The loop of `renew`: what holds at every turn, that a turn keeps it, and what it gives at the end.
use mathlib.Core.Path.{◌≡◌, refl, sym, ap, subst, ◌∙◌}
use mathlib.Core.Bool.{true, false}
use mathlib.Core.List.{List, ◌∷◌}
use Prim.Native.Nat.{ℕ, zero, suc, ◌+◌, ◌-◌, ◌<◌, ◌≤◌}
use native.Mathlib.Omega.{arith}
use native.Mathlib.Nat.{add-zero}
use borrow.Author.Tests.{eq-eqb, ne_eqb}
use lib.ListN.{length, get_or, set, take, drop, length-set}
use lib.Seq.{sets, slice, length-slice, take-set-le, drop-set-lt, set-get_or}
use Rattle.std.specs.Prelude.{Some, None, Ok, Err}
use Rattle.rules.specs.Lists.{keep}
use Rattle.rules.proofs.lists.Members.{keep_most}
use Rattle.tables.specs.Facts.{Hold, spoiled, left_hold}
use Rattle.tables.specs.Releasing.{is_held, sifted_from, new_watch, new_watches, renewed_from, Unwatched}
use Rattle.tables.proofs.memory.Cells.{take_less, drop_more, cell_below, cell_from, sets_store, sets_slice, row_next}
use Rattle.tables.proofs.memory.MemoryLaws.{slice_same}
use Rattle.tables.proofs.memory.PickLaws.{new_unheld}
use Rattle.tables.proofs.code.ScanLaws.{Next, next_same}
use Rattle.tables.proofs.code.SiftLaws.{watcher_found, next_inside, first_skip}

-- the watches before a cell are renewed: the facts, the table and the watches from there on are as at first
pub record Renewed (m₀ : List ℕ) (tokens d held : ℕ) (m : List ℕ) (cell : ℕ) : Type 0 where
  pub whole : 32768 ≤ length m₀
  pub most : held ≤ 4096
  pub long : length m ≡ length m₀
  pub upto : cell ≤ held
  pub same : take 24576 m ≡ take 24576 m₀
  pub ahead : drop (24576 + cell) m ≡ drop (24576 + cell) m₀
  pub left : sets m₀ 24576 (renewed_from m₀ tokens d 0 held) ≡ sets m (24576 + cell) (renewed_from m₀ tokens d cell held)

begun : (m : List ℕ) (tokens d held : ℕ) → 32768 ≤ length m → held ≤ 4096 → Renewed m tokens d held m 0
begun m tokens d held whole most =
    record { whole = whole; most = most; long = refl; upto = omega arith; same = refl; ahead = refl; left = refl }

module _ {m₀ : List ℕ} {tokens d held : ℕ} {m : List ℕ} {cell : ℕ} (inv : Renewed m₀ tokens d held m cell) where
  module _ (more : cell < held) where
    renew_next : renewed_from m₀ tokens d cell held
        ≡ new_watch (left_hold (take 20480 m₀) tokens d) d (get_or m₀ (20480 + cell) 0) (get_or m₀ (24576 + cell) 0) ∷ renewed_from m₀ tokens d (cell + 1) held
    unfolding new_watches
    renew_next = rw (
      row_next m₀ 20480 cell held more (omega (arith, inv.most, inv.whole)),
      row_next m₀ 24576 cell held more (omega (arith, inv.most, inv.whole)),
    )

    watch_is : get_or m (24576 + cell) 0 ≡ get_or m₀ (24576 + cell) 0
    watch_is = cell_from m₀ m (24576 + cell) (24576 + cell) inv.ahead (omega arith)

    -- a watch that is stored
    renew_set : {u : ℕ} → u ≡ new_watch (left_hold (take 20480 m₀) tokens d) d (get_or m₀ (20480 + cell) 0) (get_or m₀ (24576 + cell) 0)
        → Renewed m₀ tokens d held (set m (24576 + cell) u) (cell + 1)
    renew_set {u} u-is =
        let next : 24576 + cell + 1 ≡ 24576 + (cell + 1) = omega arith in
        record {
          whole = inv.whole;
          most = inv.most;
          long = simp length-set inv.long;
          upto = omega arith;
          same = take-set-le 24576 m (24576 + cell) u (omega arith) ∙ inv.same;
          ahead = drop-set-lt (24576 + (cell + 1)) m (24576 + cell) u (omega arith)
              ∙ drop_more m₀ m (24576 + cell) (24576 + (cell + 1)) inv.ahead (omega arith);
          left = rw next at (sets_store m (24576 + cell) inv.left renew_next u-is);
        }

    -- one that stays
    renew_keep : new_watch (left_hold (take 20480 m₀) tokens d) d (get_or m₀ (20480 + cell) 0) (get_or m₀ (24576 + cell) 0) ≡ get_or m₀ (24576 + cell) 0
        → Renewed m₀ tokens d held m (cell + 1)
    renew_keep e =
        subst (λ l. Renewed m₀ tokens d held l (cell + 1)) (set-get_or m (24576 + cell) 0) (renew_set {u = get_or m (24576 + cell) 0} (watch_is ∙ sym e))

    renew_other : (get_or m (24576 + cell) 0 ≡ d → ⊥) → Renewed m₀ tokens d held m (cell + 1)
    unfolding new_watch
    renew_other n = renew_keep (rw (ne_eqb (get_or m₀ (24576 + cell) 0) d (rw watch_is at n)))

    -- the watch is this number: by what still holds the token
    module _ (hit : get_or m (24576 + cell) 0 ≡ d) {r : Hold} (r-is : r ≡ left_hold (take 20480 m) tokens d (get_or m (20480 + cell) 0)) where
      hold_is : left_hold (take 20480 m₀) tokens d (get_or m₀ (20480 + cell) 0) ≡ r
      hold_is = sym (rw (
        take_less m₀ m 24576 20480 inv.same (omega arith),
        cell_below m₀ m 24576 (20480 + cell) inv.same (omega (arith, inv.most)),
      ) at r-is)

      hit₀ : get_or m₀ (24576 + cell) 0 ≡ d
      hit₀ = sym watch_is ∙ hit

      set_by : {n : ℕ} → r ≡ Ok (Some n) → Renewed m₀ tokens d held (set m (24576 + cell) n) (cell + 1)
      unfolding new_watch
      set_by e = renew_set (rw (eq-eqb (get_or m₀ (24576 + cell) 0) d hit₀, hold_is, e))

      keep_free : r ≡ Ok None → Renewed m₀ tokens d held m (cell + 1)
      unfolding new_watch
      keep_free e = renew_keep (rw (eq-eqb (get_or m₀ (24576 + cell) 0) d hit₀, hold_is, e))

      keep_bad : r ≡ Err spoiled → Renewed m₀ tokens d held m (cell + 1)
      unfolding new_watch
      keep_bad e = renew_keep (rw (eq-eqb (get_or m₀ (24576 + cell) 0) d hit₀, hold_is, e))

-- cells that do not watch the number are passed
pass : {m₀ : List ℕ} {tokens d held : ℕ} {m : List ℕ} (k : ℕ) {cell : ℕ} → Renewed m₀ tokens d held m cell → cell + k ≤ held
    → ((i : ℕ) → cell ≤ i → i < cell + k → get_or m (24576 + i) 0 ≡ d → ⊥) → Renewed m₀ tokens d held m (cell + k)
pass {m₀} {tokens} {d} {held} {m} zero {cell} inv h none = subst (Renewed m₀ tokens d held m) (sym (add-zero cell)) inv
pass {m₀} {tokens} {d} {held} {m} (suc k) {cell} inv h none =
    let moved : cell + 1 + k ≡ cell + suc k = omega arith in
    subst (Renewed m₀ tokens d held m) moved
    (pass k (renew_other inv (omega arith) (none cell (omega arith) (omega arith))) (omega arith) (λ i a b. none i (omega arith) (omega arith)))

renew_pass : {m₀ : List ℕ} {tokens d held : ℕ} {m : List ℕ} {cell r : ℕ} → Renewed m₀ tokens d held m cell → Next m d cell held r
    → Renewed m₀ tokens d held m r
renew_pass {m₀} {tokens} {d} {held} {m} {cell} {r} inv n =
    let r-is : cell + (r - cell) ≡ r = omega (arith, n.from) in
    subst (Renewed m₀ tokens d held m) r-is
    (pass (r - cell) inv (omega (arith, n.upto)) (λ i a b. n.none i a (omega arith)))

-- how many of the tokens that watch the number, in the cells from one on, another number holds
abbrev pub kept_from : List ℕ → ℕ → ℕ → ℕ → ℕ → ℕ
kept_from m tokens d cell held = length (keep (λ t. is_held (left_hold (take 20480 m) tokens d t)) (sifted_from true m 20480 d cell held))

-- the same with n of these left
pub record Renewing (m₀ : List ℕ) (tokens d held : ℕ) (m : List ℕ) (cell n : ℕ) : Type 0 where
  pub done : Renewed m₀ tokens d held m cell
  pub count : n ≡ kept_from m₀ tokens d cell held

pub renew_start : (m : List ℕ) (tokens d held first n : ℕ) → 32768 ≤ length m → held ≤ 4096 → first ≤ held → Unwatched m d first
    → n ≡ kept_from m tokens d 0 held → Renewing m tokens d held m first n
renew_start m tokens d held first n whole most h none count =
    let first_is : 0 + first ≡ first = omega arith in
    record {
      done = subst (Renewed m tokens d held m) first_is (pass first (begun m tokens d held whole most) (omega arith) (λ i a b. none i (omega arith)));
      count = rw (first_skip m 20480 d held (omega arith) (omega arith) h none) at count;
    }

module _ {m₀ : List ℕ} {tokens d held : ℕ} {m : List ℕ} {cell n : ℕ} (inv : Renewing m₀ tokens d held m cell n) where
  pub renew_whole : 32768 ≤ length m
  renew_whole = omega (arith, inv.done.long, inv.done.whole)

  room : 20480 + held ≤ length m₀
  room = omega (arith, inv.done.most, inv.done.whole)

  room' : 24576 + held ≤ length m₀
  room' = omega (arith, inv.done.most, inv.done.whole)

  -- where none is left all watches that are left stay
  pub renew_end : n ≤ 0 → m ≡ sets m₀ 24576 (renewed_from m₀ tokens d 0 held)
  renew_end none =
      let table : List ℕ = slice (20480 + cell) (20480 + held) m₀ in
      let watches : List ℕ = slice (24576 + cell) (24576 + held) m₀ in
      let in_step : length watches ≡ length table =
      omega (arith, length-slice (24576 + cell) (24576 + held) m₀ room', length-slice (20480 + cell) (20480 + held) m₀ room) in
      let all_stay : renewed_from m₀ tokens d cell held ≡ watches =
      new_unheld (left_hold (take 20480 m₀) tokens d) d table watches in_step (omega (arith, inv.count)) in
      let same : slice (24576 + cell) (24576 + held) m ≡ watches =
      slice_same m₀ m (24576 + cell) (24576 + cell) (24576 + held) inv.done.ahead (omega arith) (omega (arith, inv.done.upto)) room' inv.done.long in
      let last-is : 24576 + cell + (held - cell) ≡ 24576 + held = omega (arith, inv.done.upto) in
      sym (inv.done.left ∙ ap (sets m (24576 + cell)) (all_stay ∙ sym same)
      ∙ (rw last-is at (sets_slice m (24576 + cell) (held - cell) (omega (arith, renew_whole, inv.done.upto, inv.done.most)))))

  -- before that there is another cell that watches the number: by what still holds its token
  module _ (some : 0 < n) {r : ℕ} (next : Next m d cell held r) where
    next₀ : Next m₀ d cell held r
    next₀ = next_same (λ i l h. cell_from m₀ m (24576 + cell) (24576 + i) inv.done.ahead (omega arith)) next

    pub renew_inside : r < held
    renew_inside =
        next_inside m₀ 20480 d held room room' next₀
        (omega (arith, inv.count, keep_most (λ t. is_held (left_hold (take 20480 m₀) tokens d t)) (sifted_from true m₀ 20480 d cell held)))

    passed : Renewed m₀ tokens d held m r
    passed = renew_pass inv.done next

    module _ {h : Hold} (h-is : h ≡ left_hold (take 20480 m) tokens d (get_or m (20480 + r) 0)) where
      hold₀ : left_hold (take 20480 m₀) tokens d (get_or m₀ (20480 + r) 0) ≡ h
      hold₀ = hold_is passed renew_inside (next.hit renew_inside) h-is

      next_one : sifted_from true m₀ 20480 d cell held ≡ get_or m₀ (20480 + r) 0 ∷ sifted_from true m₀ 20480 d (r + 1) held
      next_one = watcher_found m₀ 20480 d held room room' next₀ renew_inside

      count_held : is_held h ≡ true → n ≡ suc (kept_from m₀ tokens d (r + 1) held)
      unfolding keep
      count_held e = rw (next_one, hold₀, e) at inv.count

      count_same : is_held h ≡ false → n ≡ kept_from m₀ tokens d (r + 1) held
      unfolding keep
      count_same e = rw (next_one, hold₀, e) at inv.count

      pub renew_by : {v : ℕ} → h ≡ Ok (Some v) → Renewing m₀ tokens d held (set m (24576 + r) v) (r + 1) (n - 1)
      renew_by e =
          record {
            done = set_by passed renew_inside (next.hit renew_inside) h-is e;
            count = omega (arith, count_held (rw e));
          }

      pub renew_free : h ≡ Ok None → Renewing m₀ tokens d held m (r + 1) n
      renew_free e = record { done = keep_free passed renew_inside (next.hit renew_inside) h-is e; count = count_same (rw e) }

      pub renew_bad : h ≡ Err spoiled → Renewing m₀ tokens d held m (r + 1) n
      renew_bad e = record { done = keep_bad passed renew_inside (next.hit renew_inside) h-is e; count = count_same (rw e) }
