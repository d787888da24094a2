-- The definitions of specs/Releasing, case by case, as the code meets them.
use mathlib.Core.Path.{◌≡◌, refl, sym, ap, ◌∙◌}
use mathlib.Core.Bool.{Bool, true, false}
use mathlib.Core.List.{List, [], ◌∷◌}
use Prim.Native.Nat.{ℕ, suc, ◌+◌, ◌<◌, ◌≤◌}
use native.Mathlib.Omega.{arith}
use native.Mathlib.Nat.{add-zero, zero-add}
use lib.ListN.{length, get_or, take}
use borrow.Author.Tests.{le-leb, lt-leb}
use Rattle.rules.specs.Lists.{if, must_not, keep, any}
use Rattle.std.specs.Prelude.{Some, None, Result, Ok, Err}
use Rattle.rules.specs.Sources.{Released as Outcome, Broken, Passed}
use Rattle.tables.specs.declared.Tables.{Tables}
use Rattle.tables.specs.declared.Spoiled.{Spoiled}
use Rattle.tables.specs.declared.Tally.{Tally}
use Rattle.tables.specs.Facts.{Hold, spoiled, left_hold}
use Rattle.tables.specs.State.{State, table_of, watches_of}
use Rattle.tables.specs.Releasing.{is_free, is_held, is_unsound, sifted_from, tally, tally_of, watchers_in, woken_in, unsound_in, moved_tables, moved_memory, release_of, released_of}
use Rattle.tables.specs.Releasing.{released_memory, passes}
use Rattle.tables.proofs.memory.PickLaws.{still_watching}
use Rattle.tables.proofs.memory.FactsLaws.{left_by}
use Rattle.tables.proofs.code.SiftLaws.{sifted_end, watcher_next}

-- a tally with some tokens counted already
abbrev pub tally_from : (ℕ → Hold) → ℕ → ℕ → List ℕ → Result Tally Spoiled
tally_from hold n k ts =
    must_not (any (λ t. is_unsound (hold t)) ts) (Err spoiled)
    (Ok (tally (n + length (keep (λ t. is_free (hold t)) ts)) (k + length (keep (λ t. is_held (hold t)) ts))))

pub tally_first : (hold : ℕ → Hold) (ts : List ℕ) → tally_of hold ts ≡ tally_from hold 0 0 ts
unfolding tally_of
tally_first hold ts = rw (zero-add (length (keep (λ t. is_free (hold t)) ts)), zero-add (length (keep (λ t. is_held (hold t)) ts)))

-- the tally of the tokens that watch a number, with the cells from one on left
module _ {whole : Result Tally Spoiled} (hold : ℕ → Hold) (d n k : ℕ) (m : List ℕ) (cell held : ℕ) (left : whole ≡ tally_from hold n k (sifted_from true m 20480 d cell held)) where
  pub tally_end : cell ≤ held → held ≤ cell → Ok (tally n k) ≡ whole
  unfolding any keep
  tally_end l h = sym (rw (sifted_end true m 20480 d cell held l h, add-zero n, add-zero k) at left)

  module _ (h : cell < held) (few : held ≤ 4096) (long : 32768 ≤ length m) (hit : get_or m (24576 + cell) 0 ≡ d) {r : Hold} (r-is : r ≡ hold (get_or m (20480 + cell) 0)) where
    next_one : sifted_from true m 20480 d cell held ≡ get_or m (20480 + cell) 0 ∷ sifted_from true m 20480 d (cell + 1) held
    next_one = watcher_next m 20480 d held (omega arith) (omega arith) h hit

    pub tally_bad : r ≡ Err spoiled → Err spoiled ≡ whole
    unfolding any keep
    tally_bad e = sym (rw (next_one, ← r-is, e) at left)

    pub tally_free : r ≡ Ok None → whole ≡ tally_from hold (n + 1) k (sifted_from true m 20480 d (cell + 1) held)
    unfolding any keep
    tally_free e =
        let free : ℕ = length (keep (λ t. is_free (hold t)) (sifted_from true m 20480 d (cell + 1) held)) in
        let moved : n + suc free ≡ n + 1 + free = omega arith in
        rw (next_one, ← r-is, e, moved) at left

    pub tally_by : {v : ℕ} → r ≡ Ok (Some v) → whole ≡ tally_from hold n (k + 1) (sifted_from true m 20480 d (cell + 1) held)
    unfolding any keep
    tally_by e =
        let kept : ℕ = length (keep (λ t. is_held (hold t)) (sifted_from true m 20480 d (cell + 1) held)) in
        let moved : k + suc kept ≡ k + 1 + kept = omega arith in
        rw (next_one, ← r-is, e, moved) at left

pub tally_nobody : (hold : ℕ → Hold) {l : List ℕ} → l ≡ [] → tally_of hold l ≡ Ok (tally 0 0)
unfolding tally_of any keep
tally_nobody hold e = rw e

-- what a code's answer and memory are to be, for an outcome
abbrev pub Gives : List ℕ → Outcome State → Result Tables Spoiled → List ℕ → Type 0
Gives m o r m' = (r ≡ released_of o) × (m' ≡ released_memory m o)

-- whether it passes, by what the code returns
pub told_broken : (o : Outcome State) → Err spoiled ≡ released_of o → false ≡ passes o
unfolding released_of
told_broken Broken e = refl
told_broken (Passed x) e = let z : ◌≡◌ {A = ℕ} 0 1 = cc in absurd (omega arith)

pub told_passed : (o : Outcome State) {t : Tables} → Ok t ≡ released_of o → true ≡ passes o
unfolding released_of
told_passed Broken e = let z : ◌≡◌ {A = ℕ} 0 1 = cc in absurd (omega arith)
told_passed (Passed x) e = refl

-- a release, by the token, the count of those that wake, and the room
module _ (t : Tables) (d : ℕ) (m : List ℕ) where
  pub release_beyond : t.tokens ≤ d → Gives m (release_of t d m) (Err spoiled) m
  unfolding release_of released_of released_memory
  release_beyond h = rw (le-leb t.tokens d h) (refl, refl)

  -- the tally says whether a record is bad, how many wake, and how many another number holds
  tally_cases : (b : Bool) (i j : ℕ) {n k : ℕ} → if b (Err spoiled) (Ok (tally i j)) ≡ Ok (tally n k) → (b ≡ false) × ((n ≡ i) × (k ≡ j))
  tally_cases true i j e = let z : ◌≡◌ {A = ℕ} 0 1 = cc in absurd (omega arith)
  tally_cases false i j {n} {k} e = let same : tally n k ≡ tally i j = cc in (refl, (ap (λ p. p.free) same, ap (λ p. p.held) same))

  tally_unsound : (b : Bool) (i j : ℕ) → if b (Err spoiled) (Ok (tally i j)) ≡ Err spoiled → b ≡ true
  tally_unsound true i j e = refl
  tally_unsound false i j e = let z : ◌≡◌ {A = ℕ} 0 1 = cc in absurd (omega arith)

  -- where none of these records is bad, as many wake as no other number holds
  pub woken_count : unsound_in t d m ≡ false → length (keep (λ n. is_free (left_hold (take 20480 m) t.tokens d n)) (watchers_in t d m)) ≡ length (woken_in t d m)
  woken_count sound =
      ap length
      (still_watching (left_hold (take 20480 m) t.tokens d) d (λ n v e. left_by (take 20480 m) t.tokens d n v e) (table_of t m) (watches_of t m) sound)

  module _ (inside : d < t.tokens) {x : Result Tally Spoiled} (x-is : x ≡ tally_of (left_hold (take 20480 m) t.tokens d) (sifted_from true m 20480 d 0 t.held)) where
    pub release_bad : x ≡ Err spoiled → Gives m (release_of t d m) (Err spoiled) m
    unfolding release_of released_of released_memory tally_of
    release_bad e =
        rw (lt-leb t.tokens d inside, tally_unsound (unsound_in t d m) _ _ (sym x-is ∙ e)) (refl, refl)

    module _ {n k : ℕ} (n-is : x ≡ Ok (tally n k)) where
      pub all_sound : unsound_in t d m ≡ false
      unfolding tally_of
      all_sound = (tally_cases (unsound_in t d m) _ _ (sym x-is ∙ n-is)).0

      pub count_is : n ≡ length (woken_in t d m)
      unfolding tally_of
      count_is = (tally_cases (unsound_in t d m) _ _ (sym x-is ∙ n-is)).1.0 ∙ woken_count all_sound

      pub kept_is : k ≡ length (keep (λ n. is_held (left_hold (take 20480 m) t.tokens d n)) (sifted_from true m 20480 d 0 t.held))
      unfolding tally_of
      kept_is = (tally_cases (unsound_in t d m) _ _ (sym x-is ∙ n-is)).1.1

      pub release_full : 4096 < t.end + n → Gives m (release_of t d m) (Err spoiled) m
      unfolding release_of released_of released_memory
      release_full h = rw (lt-leb t.tokens d inside, all_sound, ← count_is, lt-leb (t.end + n) 4096 h) (refl, refl)

      pub release_moved : {r : Tables} {m' : List ℕ} → t.end + n ≤ 4096 → r ≡ moved_tables t d m → m' ≡ moved_memory t d m
          → Gives m (release_of t d m) (Ok r) m'
      unfolding release_of released_of released_memory
      release_moved h r-is m-is = rw (lt-leb t.tokens d inside, all_sound, ← count_is, le-leb (t.end + n) 4096 h) (ap Ok r-is, m-is)
