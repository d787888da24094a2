-- The definitions of specs/Taking, case by case, as the code meets them.
use mathlib.Core.Path.{◌≡◌, refl, sym, ◌∙◌}
use mathlib.Core.List.{List, [], ◌∷◌, map}
use Prim.Native.Nat.{ℕ, zero, suc, ◌+◌, ◌-◌, ◌<◌, ◌≤◌}
use native.Mathlib.Omega.{arith}
use borrow.Author.Tests.{lt-ltb, le-ltb, le-leb, lt-leb}
use lib.ListN.{length, take, set, length-set}
use lib.Seq.{sets, take-set-le}
use Rattle.std.specs.Prelude.{Option, Some, None, Result, Ok, Err}
use Rattle.rules.specs.Sources.{Taken as Outcome, Spoiled, Nothing, Took}
use Rattle.tables.specs.declared.Tables.{Tables}
use Rattle.tables.specs.declared.Taken.{Taken}
use Rattle.tables.specs.declared.Spoiled.{Spoiled as TableError}
use Rattle.tables.specs.Layout.{standing_at}
use Rattle.tables.specs.Facts.{Hold, spoiled, new_hold, by_hold}
use Rattle.tables.specs.State.{State, span, marks}
use Rattle.rules.specs.Lists.{range}
use Rattle.tables.specs.Taking.{first_free, find_of, watch_of, deferred_by, deferred_upto, with_count, oldest_of, without_first, take_upto, take_ready, take_of, taken_of}
use Rattle.tables.specs.Taking.{taken, taken_memory, offered_of}
use Rattle.tables.proofs.memory.Cells.{span_nil, span_cons, take_sets, sets_store, sets_none}

-- the search for a free token, with the tokens from i on left
module _ {whole : Result ℕ TableError} (free : ℕ → Hold) (i n : ℕ) (left : whole ≡ first_free free n (span i n)) where
  pub find_end : n ≤ i → Ok n ≡ whole
  unfolding first_free
  find_end h = sym (rw (span_nil i n h) at left)

  pub find_step : {r v : Hold} → i < n → r ≡ free i → r ≡ v → whole ≡ by_hold v (Err spoiled) (Ok i) (λ k. first_free free n (span (i + 1) n))
  unfolding first_free
  find_step h e v-is = rw (span_cons i n h, ← e, v-is) at left

-- what is found lies between Count and N
first_within : (free : ℕ → Hold) (n k : ℕ) {i u : ℕ} → n ≡ i + k → first_free free n (range i k) ≡ Ok u → (i ≤ u) × (u ≤ n)
unfolding first_free range
first_within free n zero {i} {u} e h = let u-is : n ≡ u = cc in omega arith
first_within free n (suc k) {i} {u} e h = go (free i) (first_within free n k {i = suc i} {u = u} (omega arith)) h
  where
    go : (x : Hold) → (first_free free n (range (suc i) k) ≡ Ok u → (suc i ≤ u) × (u ≤ n))
        → by_hold x (Err spoiled) (Ok i) (λ w. first_free free n (range (suc i) k)) ≡ Ok u → (i ≤ u) × (u ≤ n)
    go (Err e) later h = let z : ◌≡◌ {A = ℕ} 0 1 = cc in omega arith
    go (Ok None) later h = let u-is : i ≡ u = cc in omega arith
    go (Ok (Some w)) later h = let r = later h in omega (arith, r.0, r.1)

pub found_within : (f : List ℕ) (tokens count : ℕ) {r : Result ℕ TableError} {u : ℕ} → count ≤ tokens → r ≡ find_of f tokens count → r ≡ Ok u →
    (count ≤ u) × (u ≤ tokens)
unfolding find_of
found_within f tokens count l e h = first_within (new_hold f count) tokens (tokens - count) (omega arith) (sym e ∙ h)

-- what a code's answer and memory are to be, for an outcome
abbrev pub Gives : List ℕ → Outcome State → Result Taken TableError → List ℕ → Type 0
Gives m o r m' = (r ≡ taken_of o) × (m' ≡ taken_memory m o)

module _ (t : Tables) (m : List ℕ) where
  -- taking up to a token: the table is full, there is a token, or none
  module _ (upto : ℕ) where
    full_is : 4096 < t.held + (upto - t.count) → take_upto t m (Ok upto) ≡ Spoiled
    unfolding take_upto
    full_is h = rw (lt-leb (t.held + (upto - t.count)) 4096 h)

    pub upto_full : 4096 < t.held + (upto - t.count) → Gives m (take_upto t m (Ok upto)) (Err spoiled) m
    unfolding taken_of taken_memory
    upto_full h = rw (full_is h) (refl, refl)

    pub offer_full : 4096 < t.held + (upto - t.count) → Err spoiled ≡ offered_of (take_upto t m (Ok upto))
    unfolding offered_of
    offer_full h = rw (full_is h)

    module _ (room : t.held + (upto - t.count) ≤ 4096) where
      token_is : upto < t.tokens → take_upto t m (Ok upto) ≡ Took upto (with_count t upto (upto + 1), deferred_upto t upto m)
      unfolding take_upto
      token_is h = rw (le-leb (t.held + (upto - t.count)) 4096 room, lt-ltb upto t.tokens h)

      none_is : t.tokens ≤ upto → take_upto t m (Ok upto) ≡ Nothing (with_count t upto upto, deferred_upto t upto m)
      unfolding take_upto
      none_is h = rw (le-leb (t.held + (upto - t.count)) 4096 room, le-ltb upto t.tokens h)

      pub offer_token : upto < t.tokens → Ok (Some upto) ≡ offered_of (take_upto t m (Ok upto))
      unfolding offered_of
      offer_token h = rw (token_is h)

      pub offer_none : t.tokens ≤ upto → Ok None ≡ offered_of (take_upto t m (Ok upto))
      unfolding offered_of
      offer_none h = rw (none_is h)

      module _ {m' : List ℕ} (deferred : m' ≡ deferred_by m t.held (span t.count upto) (map (watch_of (take 20480 m) t.count) (span t.count upto))) where
        pub upto_took : upto < t.tokens → Gives m (take_upto t m (Ok upto)) (Ok (taken (Some upto) (with_count t upto (upto + 1)))) m'
        unfolding taken_of taken_memory deferred_upto
        upto_took h = rw (token_is h) (refl, deferred)

        pub upto_none : t.tokens ≤ upto → Gives m (take_upto t m (Ok upto)) (Ok (taken None (with_count t upto upto))) m'
        unfolding taken_of taken_memory deferred_upto
        upto_none h = rw (none_is h) (refl, deferred)

  -- a record on the way was bad
  pub upto_bad : Gives m (take_upto t m (Err spoiled)) (Err spoiled) m
  unfolding take_upto taken_of taken_memory
  upto_bad = (refl, refl)

  pub offer_unknown : Err spoiled ≡ offered_of (take_upto t m (Err spoiled))
  unfolding take_upto offered_of
  offer_unknown = refl

  -- taking, by the test of the queue and what is found
  first_is : t.first < t.end → take_of t m ≡ take_ready t m (oldest_of t m)
  unfolding take_of
  first_is h = rw (lt-ltb t.first t.end h)

  new_is : {x y : Result ℕ TableError} → t.end ≤ t.first → x ≡ find_of (take 20480 m) t.tokens t.count → x ≡ y → take_of t m ≡ take_upto t m y
  unfolding take_of
  new_is h e y-is = rw (le-ltb t.first t.end h, ← e, y-is)

  pub take_first : {r : Result Taken TableError} {m' : List ℕ} → t.first < t.end → Gives m (take_ready t m (oldest_of t m)) r m' → Gives m (take_of t m) r m'
  take_first h g = rw (first_is h) g

  pub take_new_lem : {r : Result Taken TableError} {m' : List ℕ} {x y : Result ℕ TableError} → t.end ≤ t.first → x ≡ find_of (take 20480 m) t.tokens t.count → x ≡ y →
      Gives m (take_upto t m y) r m' → Gives m (take_of t m) r m'
  take_new_lem h e y-is g = rw (new_is h e y-is) g

  pub offer_new : {r : Result (Option ℕ) TableError} {x y : Result ℕ TableError} → t.end ≤ t.first → x ≡ find_of (take 20480 m) t.tokens t.count → x ≡ y →
      r ≡ offered_of (take_upto t m y) → r ≡ offered_of (take_of t m)
  offer_new h e y-is g = rw (new_is h e y-is) g

  -- taking the oldest ready token
  module _ {token : ℕ} (oldest-is : token ≡ oldest_of t m) where
    bad_is : t.tokens ≤ token → take_ready t m (oldest_of t m) ≡ Spoiled
    unfolding take_ready
    bad_is h = rw (← oldest-is, le-ltb token t.tokens h)

    good_is : token < t.tokens → take_ready t m (oldest_of t m) ≡ Took token (without_first t, set m (standing_at + token) 0)
    unfolding take_ready
    good_is h = rw (← oldest-is, lt-ltb token t.tokens h)

    pub ready_bad : t.tokens ≤ token → Gives m (take_ready t m (oldest_of t m)) (Err spoiled) m
    unfolding taken_of taken_memory
    ready_bad h = rw (bad_is h) (refl, refl)

    pub ready_took : {at : ℕ} → at ≡ token → token < t.tokens →
        Gives m (take_ready t m (oldest_of t m)) (Ok (taken (Some token) (without_first t))) (set m (standing_at + at) 0)
    unfolding taken_of taken_memory
    ready_took at-is h = rw (good_is h, at-is) (refl, refl)

    pub offer_ready : t.first < t.end → token < t.tokens → Ok (Some token) ≡ offered_of (take_of t m)
    unfolding offered_of
    offer_ready h k = rw (first_is h, good_is k)

    pub offer_bad : t.first < t.end → t.tokens ≤ token → Err spoiled ≡ offered_of (take_of t m)
    unfolding offered_of
    offer_bad h k = rw (first_is h, bad_is k)

-- a token's watch, by what holds it
pub watch_is : (f : List ℕ) (count t : ℕ) {x v : Hold} → x ≡ new_hold f count t → x ≡ v → by_hold v 0 0 (λ n. n) ≡ watch_of f count t
unfolding watch_of
watch_is f count t e v-is = rw (← e, v-is)

-- entering watches: the facts are as at first, and what is left to store gives the whole
pub record Watching (m₀ : List ℕ) (at count to : ℕ) (m : List ℕ) (cell token : ℕ) : Type 0 where
  pub whole : 32768 ≤ length m₀
  pub long : length m ≡ length m₀
  pub upto : token ≤ to
  pub high : 24576 ≤ cell
  pub room : cell + (to - token) ≤ 32768
  pub same : take 20480 m ≡ take 20480 m₀
  pub left : sets m₀ at (map (watch_of (take 20480 m₀) count) (span count to)) ≡ sets m cell (map (watch_of (take 20480 m₀) count) (span token to))

pub watching_start : (m : List ℕ) (at count to : ℕ) → 32768 ≤ length m → count ≤ to → 24576 ≤ at → at + (to - count) ≤ 32768 → Watching m at count to m at count
watching_start m at count to whole upto high room =
    record { whole = whole; long = refl; upto = upto; high = high; room = room; same = refl; left = refl }

module _ {m₀ : List ℕ} {at count to : ℕ} {m : List ℕ} {cell token : ℕ} (inv : Watching m₀ at count to m cell token) where
  pub watching_end : to ≤ token → m ≡ sets m₀ at (map (watch_of (take 20480 m₀) count) (span count to))
  watching_end h =
      let none : map (watch_of (take 20480 m₀) count) (span token to) ≡ [] = rw (span_nil token to h) in
      sets_none m cell inv.left none

  module _ (more : token < to) where
    pub watching_next : {u : ℕ} → u ≡ watch_of (take 20480 m) count token → Watching m₀ at count to (set m cell u) (cell + 1) (token + 1)
    watching_next {u} u-is =
        let next : map (watch_of (take 20480 m₀) count) (span token to) ≡ watch_of (take 20480 m₀) count token ∷ map (watch_of (take 20480 m₀) count) (span (token + 1) to) =
        rw (span_cons token to more) in
        record {
          whole = inv.whole;
          long = simp length-set inv.long;
          upto = omega arith;
          high = omega (arith, inv.high);
          room = omega (arith, inv.room);
          same = take-set-le 20480 m cell u (omega (arith, inv.high)) ∙ inv.same;
          left = sets_store m cell inv.left next (rw inv.same at u-is);
        }

-- the passes of a deferral, one after the other: entering tokens changes no fact
pub deferred_is : (m : List ℕ) (held count upto : ℕ) {m₁ m₂ m₃ : List ℕ} → m₁ ≡ sets m (20480 + held) (span count upto)
    → m₂ ≡ sets m₁ (24576 + held) (map (watch_of (take 20480 m₁) count) (span count upto)) → m₃ ≡ marks m₂ 1 (span count upto)
    → m₃ ≡ deferred_by m held (span count upto) (map (watch_of (take 20480 m) count) (span count upto))
deferred_is m held count upto entered watched marked =
    let same : take 20480 (sets m (20480 + held) (span count upto)) ≡ take 20480 m = take_sets (span count upto) m (20480 + held) 20480 (omega arith) in
    rw (marked, watched, entered, same)
